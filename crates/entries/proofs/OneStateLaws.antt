-- A map spells one lawful state at most.
use Rattle.std.proofs.Common.{◌≡◌, suc, List, [], ◌∷◌, ◌++◌, inl, inr, refl, sym, ap, subst, ◌∙◌, arith}
use Rattle.std.specs.Prelude.{All}
use Rattle.std.specs.List.{AllByRecursion, AllPairs}
use Rattle.std.specs.Ordering.{nat_cmp}
use Rattle.std.specs.Cmp.Lexicographic.{slice_cmp, nat_list_cmp_total}
use Rattle.std.specs.declared.cmp.Ordering.TheVariants.{Less}
use Rattle.bson.specs.Tree.{Pairs}
use Rattle.bson.specs.Spelling.{frame_of, pairs_bytes, Spells as SpellsDocument}
use Rattle.bson_bytes.proofs.TreeLaws.{one_spelling}
use Rattle.value_order.specs.Order.{compare}
use Rattle.value_order.specs.TotalLaws.{compare_total}
use Rattle.value_order.specs.KeyText.{tree_text}
use Rattle.std.proofs.lemmas.Cmp.{tied_itself}
use Rattle.tree_model.specs.Keys.{Entry}
use Rattle.index.specs.Definition.{Definition, IsDefinition}
use Rattle.entry_model.specs.State.{Collection, words, key_of}
use Rattle.entry_model.specs.StateEntries.{catalogue_entry, document_entry, collection_entries, state_entries, Spells}
use Rattle.entry_model.specs.LawfulState.{IsStorable, IsIndexOf, IsKept, IsLawfulState}
use Rattle.entry_model.specs.StateLaws.{SpellsOne}
use Rattle.entry_model.proofs.MemberLemmas.{Among, among_of, contains_of, among_each, first_of}
use Rattle.entry_model.proofs.PlaceLemmas.{name_itself}
use Rattle.entries.proofs.EntryLemmas.{IsOneOf, document_among, same_first, same_rest, same_words}
use Rattle.entries.proofs.HomeLemmas.{home_of, not_inside, inside_of, not_both, one_number, document_or_key, number_fits}
use Rattle.entry_model.proofs.LawfulParts.{kept_of, storable_of}
use Rattle.entries.proofs.CatalogueEntries.{same_value}

-- ---- lists in order with the same members

module _ {X : Type 0} (R : X → X → Type 0) (asymmetric : (x y : X) → R x y → R y x → ⊥) where
  first_same : (x y : X) (xs ys : List X) → AllPairs R (x ∷ xs) → AllPairs R (y ∷ ys) → Among x (y ∷ ys) → Among y (x ∷ xs) → x ≡ y
  first_same x y xs ys hx hy (inl e) g = e
  first_same x y xs ys hx hy (inr k) (inl e) = sym e
  first_same x y xs ys hx hy (inr k) (inr l) = absurd (asymmetric x y (first_of R x xs y hx l) (first_of R y ys x hy k))

  rest_there : (x y z : X) (xs ys : List X) → AllPairs R (x ∷ xs) → x ≡ y → Among z xs → Among z (y ∷ ys) → Among z ys
  rest_there x y z xs ys hx e there (inl f) =
      let less : R x z = first_of R x xs z hx there in
      let same : z ≡ x = f ∙ sym e in
      absurd (asymmetric x x (subst (R x) same less) (subst (R x) same less))
  rest_there x y z xs ys hx e there (inr g) = g

  rest_pairs : (x : X) (xs : List X) → AllPairs R (x ∷ xs) → AllPairs R xs
  rest_pairs x xs h = λ i j d lt below. h (suc i) (suc j) d (omega (arith, lt)) (omega (arith, below))

  pub one_list : (xs ys : List X) → AllPairs R xs → AllPairs R ys → ((x : X) → Among x xs → Among x ys) → ((x : X) → Among x ys → Among x xs) → xs ≡ ys
  one_list [] [] hx hy to from = refl
  one_list [] (y ∷ ys) hx hy to from = absurd (from y (inl refl))
  one_list (x ∷ xs) [] hx hy to from = absurd (to x (inl refl))
  one_list (x ∷ xs) (y ∷ ys) hx hy to from =
      let first = first_same x y xs ys hx hy (to x (inl refl)) (from y (inl refl)) in
      λ i. first i ∷ one_list xs ys (rest_pairs x xs hx) (rest_pairs y ys hy)
      (λ z g. rest_there x y z xs ys hx first g (to z (inr g))) (λ z g. rest_there y x z ys xs hy (sym first) g (from z (inr g))) i

-- ---- what an entry of one state is in another

document_spells : (d : Pairs) → IsStorable d → SpellsDocument (frame_of (pairs_bytes d)) d
document_spells d h = record { lawful = h.lawful; spelled = refl; size = omega (arith, h.size) }

-- a document's entry in the one is that of the document in the other
same_document : (c e : Collection) (d : Pairs) → IsKept c → IsKept e → Among d c.documents → c.number ≡ e.number → (x : Entry) → x ≡ document_entry c.number d
    → IsOneOf e x → Among d e.documents
same_document c e d kept other there numbered x is (inl f) =
    absurd (not_inside e c x x kept f (inside_of c x (inl (record { document = d; there = there; is = is }))) refl)
same_document c e d kept other there numbered x is (inr (inl g)) =
    let same : d ≡ g.document =
    (one_spelling (frame_of (pairs_bytes d)) (frame_of (pairs_bytes g.document)) [] [] d g.document (document_spells d (storable_of c d kept there))
    (document_spells g.document (storable_of e g.document other g.there))
    (ap (λ (y : Entry). y.value ++ []) (sym is ∙ g.is))).0 in
    subst (λ (f : Pairs). Among f e.documents) (sym same) g.there
same_document c e d kept other there numbered x is (inr (inr k)) =
    absurd (document_or_key c e x x kept other (record { document = d; there = there; is = is }) k refl)

pub lawful_indexes : (is : List Definition) (documents : List Pairs) → All (IsIndexOf documents) is → AllByRecursion IsDefinition is
lawful_indexes [] documents h = tt
lawful_indexes (i ∷ is) documents h = ((h 0 i (omega arith)).lawful, lawful_indexes is documents (λ k d below. h (suc k) d (omega (arith, below))))

-- the catalogue's entry of a collection in the one is that of a collection in the other with its name, its number and its indexes
pub record IsLike (c e : Collection) : Type 0 where
  pub name : c.name ≡ e.name
  pub number : c.number ≡ e.number
  pub indexes : c.indexes ≡ e.indexes

same_catalogue : (c e : Collection) → IsKept c → IsKept e → (x : Entry) → x ≡ catalogue_entry c → IsOneOf e x → IsLike c e
same_catalogue c e kept other x is (inl f) =
    let same : catalogue_entry c ≡ catalogue_entry e = sym is ∙ f in
    let parts = same_value c.number e.number c.indexes e.indexes kept.most other.most kept.few other.few (lawful_indexes c.indexes c.documents kept.indexes)
    (lawful_indexes e.indexes e.documents other.indexes)
    (ap (λ (y : Entry). y.value) same) in
    record {
      name = same_words c.name e.name (same_rest 0 0 0 0 (tree_text (words c.name)) (tree_text (words e.name)) (ap (λ (y : Entry). y.key) same));
      number = parts.0;
      indexes = parts.1;
    }
same_catalogue c e kept other x is (inr g) = absurd (not_inside c e x x other is (inside_of e x g) refl)

-- ---- two states with the same entries

less_once : (d e : Pairs) → compare (key_of d) (key_of e) ≡ Less → compare (key_of e) (key_of d) ≡ Less → ⊥
less_once d e less more =
    let itself : compare (key_of d) (key_of d) ≡ Less = compare_total.trans (key_of d) (key_of e) (key_of d) less more in
    not_both (compare (key_of d) (key_of d)) itself (tied_itself compare_total (key_of d))

names_once : (c d : Collection) → slice_cmp nat_cmp c.name d.name ≡ Less → slice_cmp nat_cmp d.name c.name ≡ Less → ⊥
names_once c d less more = name_itself c.name (nat_list_cmp_total.trans c.name d.name c.name less more)

abbrev HasAll : List Collection → List Collection → Type 0
HasAll a b = (x : Entry) → Among x (state_entries a) → Among x (state_entries b)

-- the documents of two collections of one number
documents_there : (a b : List Collection) (c e : Collection) → IsLawfulState a → IsLawfulState b → HasAll a b → Among c a → Among e b → c.number ≡ e.number
    → (d : Pairs) → Among d c.documents → Among d e.documents
documents_there a b c e ha hb to there here numbered d in_c =
    let x = document_entry c.number d in
    let home = home_of b x (to x (among_each collection_entries x c a there (document_among c d in_c))) in
    let kept = kept_of a c ha there in
    let at = number_of home.collection home.one (kept_of b home.collection hb home.there) kept in
    let same : home.collection ≡ e = one_number b home.collection e hb.numbers home.there here (sym at ∙ numbered) in
    subst (λ (f : Collection). Among d f.documents) same
    (same_document c home.collection d kept (kept_of b home.collection hb home.there) in_c at x refl home.one)
  where
    number_of : (f : Collection) → IsOneOf f (document_entry c.number d) → IsKept f → IsKept c → c.number ≡ f.number
    number_of f (inl g) other kept =
        absurd (not_inside f c (document_entry c.number d) (document_entry c.number d) kept g
        (inside_of c (document_entry c.number d) (inl (record { document = d; there = in_c; is = refl }))) refl)
    number_of f (inr g) other kept =
        let inside = inside_of f (document_entry c.number d) g in
        same_first c.number f.number 0 inside.0 (tree_text (key_of d)) inside.1 (number_fits c kept) (number_fits f other) inside.2

collection_there : (a b : List Collection) → IsLawfulState a → IsLawfulState b → HasAll a b → HasAll b a → (c : Collection) → Among c a → Among c b
collection_there a b ha hb to from c there =
    let x = catalogue_entry c in
    let home = home_of b x (to x (among_each collection_entries x c a there (inl refl))) in
    let e = home.collection in
    let like = same_catalogue c e (kept_of a c ha there) (kept_of b e hb home.there) x refl home.one in
    let documents : c.documents ≡ e.documents =
    one_list (λ d f. compare (key_of d) (key_of f) ≡ Less) less_once c.documents e.documents (kept_of a c ha there).rising (kept_of b e hb home.there).rising
    (documents_there a b c e ha hb to there home.there like.number) (documents_there b a e c hb ha from home.there there (sym like.number)) in
    let same : c ≡ e = λ i. record { name = like.name i; number = like.number i; documents = documents i; indexes = like.indexes i } in
    subst (λ (f : Collection). Among f b) (sym same) home.there

-- what a map spells has all entries of whatever it spells
spelled_all : (xs : List Entry) (a b : List Collection) → Spells xs a → Spells xs b → HasAll a b
spelled_all xs a b h g x there = among_of (state_entries b) x ((g.same x).0 ((h.same x).1 (contains_of (state_entries a) x there)))

pub spells_one : SpellsOne
spells_one xs a b ha hb h g =
    let to = spelled_all xs a b h g in
    let from = spelled_all xs b a g h in
    one_list (λ c d. slice_cmp nat_cmp c.name d.name ≡ Less) names_once a b ha.apart hb.apart (collection_there a b ha hb to from)
    (collection_there b a hb ha from to)
