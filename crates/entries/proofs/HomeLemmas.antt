-- In a lawful state a key stands for one entry, of one collection.
use Rattle.std.proofs.Common.{◌≡◌, ◌≢◌, ℕ, ◌<◌, ◌≤◌, ◌^◌, Bool, true, false, ◌||◌, List, [], ◌∷◌, ◌++◌, ◌⊎◌, inl, inr, refl, sym, ap, subst, ◌∙◌, arith}
use Rattle.std.specs.Prelude.{◌==◌}
use Rattle.std.specs.Ordering.{nat_cmp, ordering_reverse}
use Rattle.std.specs.Cmp.Lexicographic.{slice_cmp}
use Rattle.std.specs.declared.cmp.Ordering.{Ordering}
use Rattle.std.specs.declared.cmp.Ordering.TheVariants.{Less, Equal, Greater}
use Rattle.std.proofs.lemmas.Bool.Decides.{nat_tests}
use Rattle.bson.specs.Tree.{Pairs}
use Rattle.value_order.specs.Order.{compare}
use Rattle.value_order.specs.KeyText.{tree_text}
use Rattle.value_order.specs.TotalLaws.{compare_total}
use Rattle.tree_model.specs.Keys.{Entry}
use Rattle.index.specs.Definition.{Definition}
use Rattle.entry_model.specs.State.{Collection, words, key_of, uses}
use Rattle.entry_model.specs.StateEntries.{key_under, catalogue_entry, document_entry, collection_entries, state_entries}
use Rattle.entry_model.specs.LawfulState.{IsKept, AreNumberedApart, IsLawfulState}
use Rattle.entry_model.proofs.MemberLemmas.{Among, among_flat, of_pairs}
use Rattle.entries.proofs.EditLemmas.{entry_is}
use Rattle.entries.proofs.ExchangeLaws.{IsMap}
use Rattle.entry_model.proofs.PlaceLemmas.{name_itself}
use Rattle.entries.proofs.EntryLemmas.{IsDocumentOf, IsKeyOf, IsOneOf, one_of, same_first, same_second, same_rest, same_words}
use Rattle.entry_model.proofs.LawfulParts.{same_id, kept_of, listed_of, storable_of}

-- ---- numbers within their limits

pub number_fits : (c : Collection) → IsKept c → c.number < 2 ^ 32
number_fits c kept = omega (arith, kept.most)

index_fits : (c : Collection) (i : Definition) → IsKept c → Among i c.indexes → i.number < 2 ^ 32
index_fits c i kept there = omega (arith, (listed_of c i kept there).lawful.most)

index_from_one : (c : Collection) (i : Definition) → IsKept c → Among i c.indexes → 1 ≤ i.number
index_from_one c i kept there = (listed_of c i kept there).lawful.numbered

-- ---- one collection

uses_one : (cs : List Collection) (c : Collection) (n : ℕ) → Among c cs → c.number ≡ n → uses cs n ≡ true
uses_one [] c n h e = absurd h
uses_one (d ∷ cs) c n (inl f) e =
    let same : (d.number == n) ≡ true = grind (arith, nat_tests, ap (λ (x : Collection). x.number) f, e) in ap (λ (b : Bool). b || uses cs n) same
uses_one (d ∷ cs) c n (inr h) e = ap (λ (b : Bool). (d.number == n) || b) (uses_one cs c n h e) ∙ or_true (d.number == n)
  where
    or_true : (b : Bool) → (b || true) ≡ true
    or_true true = refl
    or_true false = refl

pub one_number : (cs : List Collection) (c d : Collection) → AreNumberedApart cs → Among c cs → Among d cs → c.number ≡ d.number → c ≡ d
one_number [] c d apart h g e = absurd h
one_number (x ∷ cs) c d apart (inl p) (inl q) e = p ∙ sym q
one_number (x ∷ cs) c d apart (inl p) (inr g) e =
    let used = uses_one cs d x.number g (sym e ∙ ap (λ (y : Collection). y.number) p) in absurd (let f : true ≡ false = sym used ∙ apart.0 in cc)
one_number (x ∷ cs) c d apart (inr h) (inl q) e =
    let used = uses_one cs c x.number h (e ∙ ap (λ (y : Collection). y.number) q) in absurd (let f : true ≡ false = sym used ∙ apart.0 in cc)
one_number (x ∷ cs) c d apart (inr h) (inr g) e = one_number cs c d apart.1 h g e

pub one_name : (cs : List Collection) (c d : Collection) → IsLawfulState cs → Among c cs → Among d cs → c.name ≡ d.name → c ≡ d
one_name cs c d lawful h g e = by (of_pairs (λ x y. slice_cmp nat_cmp x.name y.name ≡ Less) cs c d lawful.apart h g)
  where
    by : (c ≡ d) ⊎ ((slice_cmp nat_cmp c.name d.name ≡ Less) ⊎ (slice_cmp nat_cmp d.name c.name ≡ Less)) → c ≡ d
    by (inl p) = p
    by (inr (inl less)) = absurd (name_itself d.name (subst (λ (m : List ℕ). slice_cmp nat_cmp m d.name ≡ Less) e less))
    by (inr (inr less)) = absurd (name_itself d.name (subst (λ (m : List ℕ). slice_cmp nat_cmp d.name m ≡ Less) e less))

-- an entry of a document or of a key is under the collection's number
abbrev pub IsInside : Collection → Entry → Type 0
IsInside c x = (i : ℕ) × (text : List ℕ) × (x.key ≡ key_under c.number i text)

pub inside_of : (c : Collection) (x : Entry) → IsDocumentOf c x ⊎ IsKeyOf c x → IsInside c x
inside_of c x (inl d) = (0, tree_text (key_of d.document), ap (λ (y : Entry). y.key) d.is)
inside_of c x (inr k) = (k.index.number, k.key ++ tree_text (key_of k.document), ap (λ (y : Entry). y.key) k.is)

pub not_inside : (c d : Collection) (x y : Entry) → IsKept d → x ≡ catalogue_entry c → IsInside d y → x.key ≡ y.key → ⊥
not_inside c d x y kept e f same =
    let zero : 0 ≡ d.number =
    same_first 0 d.number 0 f.0 (tree_text (words c.name)) f.1 (omega arith) (number_fits d kept) (sym (ap (λ (z : Entry). z.key) e) ∙ same ∙ f.2) in
    omega (arith, zero, kept.least)

pub one_home : (cs : List Collection) (c d : Collection) (x y : Entry) → IsLawfulState cs → Among c cs → Among d cs → IsOneOf c x → IsOneOf d y → x.key ≡ y.key
    → c ≡ d
one_home cs c d x y h there here p q same = by p q
  where
    both : IsInside c x → IsInside d y → c ≡ d
    both f g =
        one_number cs c d h.numbers there here
        (same_first c.number d.number f.0 g.0 f.1 g.1 (number_fits c (kept_of cs c h there)) (number_fits d (kept_of cs d h here)) (sym f.2 ∙ same ∙ g.2))

    by : IsOneOf c x → IsOneOf d y → c ≡ d
    by (inl e) (inl f) =
        one_name cs c d h there here
        (same_words c.name d.name
        (same_rest 0 0 0 0 (tree_text (words c.name)) (tree_text (words d.name)) (sym (ap (λ (z : Entry). z.key) e) ∙ same ∙ ap (λ (z : Entry). z.key) f)))
    by (inl e) (inr g) = absurd (not_inside c d x y (kept_of cs d h here) e (inside_of d y g) same)
    by (inr g) (inl f) = absurd (not_inside d c y x (kept_of cs c h there) f (inside_of c x g) (sym same))
    by (inr f) (inr g) = both (inside_of c x f) (inside_of d y g)

-- ---- one document, one index

pub not_both : (o : Ordering) → o ≡ Less → o ≡ Equal → ⊥
not_both o e f = let g : Less ≡ Equal = sym e ∙ f in cc

pub turned_equal : (o p : Ordering) → o ≡ ordering_reverse p → o ≡ Equal → p ≡ Equal
turned_equal o Less e f = let g : Greater ≡ Equal = sym e ∙ f in absurd cc
turned_equal o Equal e f = refl
turned_equal o Greater e f = let g : Less ≡ Equal = sym e ∙ f in absurd cc

pub equal_back : (t u : Pairs) → compare (key_of t) (key_of u) ≡ Equal → compare (key_of u) (key_of t) ≡ Equal
equal_back t u e = turned_equal (compare (key_of t) (key_of u)) (compare (key_of u) (key_of t)) (compare_total.antisymm (key_of t) (key_of u)) e

pub one_document : (c : Collection) (d e : Pairs) → IsKept c → Among d c.documents → Among e c.documents → tree_text (key_of d) ≡ tree_text (key_of e) → d ≡ e
one_document c d e kept there here same =
    let equal = same_id d e (storable_of c d kept there) (storable_of c e kept here) same in
    by equal (of_pairs (λ x y. compare (key_of x) (key_of y) ≡ Less) c.documents d e kept.rising there here)
  where
    by : compare (key_of d) (key_of e) ≡ Equal → (d ≡ e) ⊎ ((compare (key_of d) (key_of e) ≡ Less) ⊎ (compare (key_of e) (key_of d) ≡ Less)) → d ≡ e
    by equal (inl p) = p
    by equal (inr (inl less)) = absurd (not_both (compare (key_of d) (key_of e)) less equal)
    by equal (inr (inr less)) = absurd (not_both (compare (key_of e) (key_of d)) less (equal_back d e equal))

pub one_index : (c : Collection) (i j : Definition) → IsKept c → Among i c.indexes → Among j c.indexes → i.number ≡ j.number → i ≡ j
one_index c i j kept there here same = by (of_pairs (λ x y. x.number ≢ y.number) c.indexes i j kept.distinct there here)
  where
    by : (i ≡ j) ⊎ ((i.number ≢ j.number) ⊎ (j.number ≢ i.number)) → i ≡ j
    by (inl p) = p
    by (inr (inl differ)) = absurd (differ same)
    by (inr (inr differ)) = absurd (differ (sym same))

-- the number of an index is never that of the documents
pub document_or_key : (c e : Collection) (x y : Entry) → IsKept c → IsKept e → IsDocumentOf c x → IsKeyOf e y → x.key ≡ y.key → ⊥
document_or_key c e x y kept other d k same =
    let zero : 0 ≡ k.index.number =
    same_second c.number e.number 0 k.index.number (tree_text (key_of d.document)) (k.key ++ tree_text (key_of k.document)) (omega arith)
    (index_fits e k.index other k.listed)
    (sym (ap (λ (z : Entry). z.key) d.is) ∙ same ∙ ap (λ (z : Entry). z.key) k.is) in
    omega (arith, zero, index_from_one e k.index other k.listed)

-- entries of two keys that have one key in the map are under one index
pub same_index : (c d : Collection) (x y : Entry) → IsKept c → IsKept d → (h : IsKeyOf c x) (g : IsKeyOf d y) → x.key ≡ y.key → h.index.number ≡ g.index.number
same_index c d x y kept other h g same =
    same_second c.number d.number h.index.number g.index.number (h.key ++ tree_text (key_of h.document)) (g.key ++ tree_text (key_of g.document))
    (index_fits c h.index kept h.listed) (index_fits d g.index other g.listed) (sym (ap (λ (z : Entry). z.key) h.is) ∙ same ∙ ap (λ (z : Entry). z.key) g.is)

pub same_ends : (c d : Collection) (x y : Entry) → (h : IsKeyOf c x) (g : IsKeyOf d y) → x.key ≡ y.key
    → h.key ++ tree_text (key_of h.document) ≡ g.key ++ tree_text (key_of g.document)
same_ends c d x y h g same =
    same_rest c.number d.number h.index.number g.index.number (h.key ++ tree_text (key_of h.document)) (g.key ++ tree_text (key_of g.document))
    (sym (ap (λ (z : Entry). z.key) h.is) ∙ same ∙ ap (λ (z : Entry). z.key) g.is)

one_inside : (c : Collection) (x y : Entry) → IsKept c → IsOneOf c x → IsOneOf c y → x.key ≡ y.key → x ≡ y
one_inside c x y kept (inl e) (inl f) same = e ∙ sym f
one_inside c x y kept (inl e) (inr g) same = absurd (not_inside c c x y kept e (inside_of c y g) same)
one_inside c x y kept (inr g) (inl f) same = absurd (not_inside c c y x kept f (inside_of c x g) (sym same))
one_inside c x y kept (inr (inl d)) (inr (inl e)) same =
    let text = same_rest c.number c.number 0 0 (tree_text (key_of d.document)) (tree_text (key_of e.document))
    (sym (ap (λ (z : Entry). z.key) d.is) ∙ same ∙ ap (λ (z : Entry). z.key) e.is) in
    d.is ∙ ap (document_entry c.number) (one_document c d.document e.document kept d.there e.there text) ∙ sym e.is
one_inside c x y kept (inr (inl d)) (inr (inr k)) same = absurd (document_or_key c c x y kept kept d k same)
one_inside c x y kept (inr (inr k)) (inr (inl d)) same = absurd (document_or_key c c y x kept kept d k (sym same))
one_inside c x y kept (inr (inr h)) (inr (inr g)) same = entry_is x y same (ap (λ (z : Entry). z.value) h.is ∙ sym (ap (λ (z : Entry). z.value) g.is))

-- ---- a state's entries are a map

-- an entry, with its collection
pub record Home (cs : List Collection) (x : Entry) : Type 0 where
  pub collection : Collection
  pub there : Among collection cs
  pub one : IsOneOf collection x

pub home_of : (cs : List Collection) (x : Entry) → Among x (state_entries cs) → Home cs x
home_of cs x h =
    let c = among_flat collection_entries x cs h in record { collection = c.0; there = c.1; one = one_of c.0 x c.2 }

pub is_map : (cs : List Collection) → IsLawfulState cs → IsMap (state_entries cs)
is_map cs h x y p q same =
    let a = home_of cs x p in
    let b = home_of cs y q in
    let one : a.collection ≡ b.collection = one_home cs a.collection b.collection x y h a.there b.there a.one b.one same in
    one_inside b.collection x y (kept_of cs b.collection h b.there) (subst (λ (c : Collection). IsOneOf c x) one a.one) b.one same
