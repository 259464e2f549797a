-- What some first entries of a file stand for: each is one of the collections so far, and those that indexes owe are counted.
use Rattle.std.proofs.Common.{◌≡◌, ◌⊎◌, ℕ, zero, suc, get_or, set, ◌+◌, ◌<◌, ◌≤◌, ◌^◌, Bool, true, false, not, List, [], ◌∷◌, ◌++◌, length, inl, inr, refl, sym}
use Rattle.std.proofs.Common.{ap, subst, ◌∙◌, arith, append-nil, length-append}
use Rattle.std.specs.Prelude.{◌==◌}
use Rattle.std.proofs.lemmas.Bool.Decides.{nat_tests}
use Rattle.std.proofs.lemmas.Nat.{from_be_bytes-to_be_bytes_4}
use Rattle.bson.specs.Tree.{Pairs}
use Rattle.value_order.specs.KeyText.{tree_text}
use Rattle.tree_model.specs.Keys.{Entry, keep_if}
use Rattle.index.specs.Definition.{Definition}
use Rattle.entry_model.specs.LawfulState.{IsKept as IsIndexKept}
use Rattle.entry_model.specs.State.{Collection, key_of, put_collection, words}
use Rattle.entry_model.specs.StateEntries.{catalogue_entry, key_under}
use Rattle.entries.proofs.EntryLemmas.{IsDocumentOf, IsKeyOf}
use Rattle.entry_model.proofs.LawfulParts.{listed_of as indexed_of}
use Rattle.entry_model.proofs.MemberLemmas.{Among, among_append, among_back, among_front}
use Rattle.opening.specs.Totals.{total_documents}
use Rattle.opening.specs.Judging.{AreLoaded, Progress, TakesKey, TakesName, index_in, is_of_index, listed_of, nothing_read}
use Rattle.opening.proofs.OnceLists.{AreOnce, only, only_append}
use Rattle.opening.proofs.TakingLemmas.{name_loaded, none_loaded, put_last}

-- ---- which entries are of indexes

pub index_fits : (c : Collection) (i : Definition) → IsIndexKept c → Among i c.indexes → i.number < 2 ^ 32
index_fits c i kept there = omega (arith, (indexed_of c i kept there).lawful.most)

index_from_one : (c : Collection) (i : Definition) → IsIndexKept c → Among i c.indexes → 1 ≤ i.number
index_from_one c i kept there = (indexed_of c i kept there).lawful.numbered

index_is : (n i : ℕ) (text : List ℕ) → i < 2 ^ 32 → index_in (key_under n i text) ≡ i
index_is n i text fits = from_be_bytes-to_be_bytes_4 i fits

pub under_none : (x : Entry) (n : ℕ) (text : List ℕ) → x.key ≡ key_under n 0 text → is_of_index x ≡ false
under_none x n text is = ap (λ (k : List ℕ). not (index_in k == 0)) is ∙ ap (λ (m : ℕ). not (m == 0)) (index_is n 0 text (omega arith))

pub under_index : (x : Entry) (n i : ℕ) (text : List ℕ) → x.key ≡ key_under n i text → 1 ≤ i → i < 2 ^ 32 → is_of_index x ≡ true
under_index x n i text is least fits =
    let other : (i == 0) ≡ false = grind (arith, nat_tests, least) in
    ap (λ (k : List ℕ). not (index_in k == 0)) is ∙ ap (λ (m : ℕ). not (m == 0)) (index_is n i text fits) ∙ ap not other

pub catalogue_none : (c : Collection) (x : Entry) → x ≡ catalogue_entry c → is_of_index x ≡ false
catalogue_none c x is = under_none x 0 (tree_text (words c.name)) (ap (λ (y : Entry). y.key) is)

pub document_none : (c : Collection) (x : Entry) → IsDocumentOf c x → is_of_index x ≡ false
document_none c x d = under_none x c.number (tree_text (key_of d.document)) (ap (λ (y : Entry). y.key) d.is)

pub key_some : (c : Collection) (x : Entry) → IsIndexKept c → IsKeyOf c x → is_of_index x ≡ true
key_some c x kept k =
    under_index x c.number k.index.number (k.key ++ tree_text (key_of k.document)) (ap (λ (y : Entry). y.key) k.is) (index_from_one c k.index kept k.listed)
    (index_fits c k.index kept k.listed)

pub not_both : {A : Type 0} (b : Bool) → b ≡ true → b ≡ false → A
not_both b is isnt = absurd (let never : true ≡ false = sym is ∙ isnt in cc)

-- ---- how many documents there are

pub count_append : (xs ys : List Collection) → total_documents (xs ++ ys) ≡ total_documents xs + total_documents ys
count_append [] ys = omega arith
count_append (x ∷ xs) ys = omega (arith, count_append xs ys)

-- where one of them is put in another's place
pub count_set : (cs : List Collection) (at : ℕ) (new d : Collection) → at < length cs
    → total_documents (set cs at new) + length (get_or cs at d).documents ≡ total_documents cs + length new.documents
count_set [] at new d within = absurd (omega (arith, within))
count_set (c ∷ cs) zero new d within = omega arith
count_set (c ∷ cs) (suc at) new d within = omega (arith, count_set cs at new d (omega (arith, within)))

-- ---- what stands for entries

-- the catalogue's entry of one of the collections, or that of one of its documents
pub record IsPlain (now : List Collection) (x : Entry) : Type 0 where
  pub collection : Collection
  pub there : Among collection now
  pub is : (x ≡ catalogue_entry collection) ⊎ IsDocumentOf collection x

-- that of a key of one of the documents
pub record IsKeyed (now : List Collection) (x : Entry) : Type 0 where
  pub collection : Collection
  pub there : Among collection now
  pub is : IsKeyOf collection x

-- Of all entries these were taken: those that are no index's are the collections' and their documents', and each entry that these documents owe to
-- an index stands among all.
pub record Stands (all done : List Entry) (p : Progress) : Type 0 where
  pub loaded : AreLoaded p.now
  pub made : (x : Entry) → Among x done → is_of_index x ≡ false → IsPlain p.now x
  pub plain : (x : Entry) → IsPlain p.now x → Among x done
  pub owed : List Entry
  pub owing : (x : Entry) → Among x owed → IsKeyed p.now x
  pub keyed : (x : Entry) → IsKeyed p.now x → Among x owed
  pub there : (x : Entry) → Among x owed → Among x all
  pub once : AreOnce owed
  pub documents : total_documents p.now ≡ p.documents
  pub keys : length owed ≡ p.keys
  pub seen : length (only is_of_index done) ≡ p.seen

pub nothing_stands : (all : List Entry) → Stands all [] nothing_read
nothing_stands all = record {
  loaded = none_loaded;
  made = λ x there. absurd there;
  plain = λ x h. absurd h.there;
  owed = [];
  owing = λ x there. absurd there;
  keyed = λ x h. absurd h.there;
  there = λ x there. absurd there;
  once = tt;
  documents = refl;
  keys = refl;
  seen = refl;
}

-- ---- one entry more

pub one_of_one : {X : Type 0} (x y : X) → Among x (y ∷ []) → x ≡ y
one_of_one x y (inl e) = e
one_of_one x y (inr h) = absurd h

seen_as : (done : List Entry) (pair : Entry) (b : Bool) → is_of_index pair ≡ b
    → only is_of_index (done ++ pair ∷ []) ≡ only is_of_index done ++ keep_if b pair []
seen_as done pair b is = only_append is_of_index done (pair ∷ []) ∙ ap (λ (c : Bool). only is_of_index done ++ keep_if c pair []) is

pub seen_same : (done : List Entry) (pair : Entry) → is_of_index pair ≡ false → length (only is_of_index (done ++ pair ∷ [])) ≡ length (only is_of_index done)
seen_same done pair is = ap length (seen_as done pair false is ∙ append-nil (only is_of_index done))

seen_more : (done : List Entry) (pair : Entry) → is_of_index pair ≡ true → length (only is_of_index (done ++ pair ∷ [])) ≡ length (only is_of_index done) + 1
seen_more done pair is = omega (arith, ap length (seen_as done pair true is), length-append (only is_of_index done) (pair ∷ []))

module _ (all done : List Entry) (pair : Entry) (p : Progress) (s : Stands all done p) where
  abbrev more : List Entry
  more = done ++ pair ∷ []

  earlier : (x : Entry) → Among x done → Among x more
  earlier x there = among_front x done (pair ∷ []) there

  this : Among pair more
  this = among_back pair done (pair ∷ []) (inl refl)

  -- ---- of a collection

  pub key_step : (next : Progress) → TakesKey p pair next → Stands all more next
  key_step next t = subst (Stands all more) (sym t.next_is) (record {
    loaded = s.loaded;
    made = λ x there none. elim (among_append x done (pair ∷ []) there) [
      | inl g ↦ s.made x g none
      | inr g ↦ not_both (is_of_index pair) t.is (sym (ap is_of_index (one_of_one x pair g)) ∙ none)
    ];
    plain = λ x h. earlier x (s.plain x h);
    owed = s.owed;
    owing = s.owing;
    keyed = s.keyed;
    there = s.there;
    once = s.once;
    documents = s.documents;
    keys = s.keys;
    seen = seen_more done pair t.is ∙ ap (λ (n : ℕ). n + 1) s.seen;
  })

  module _ (n : Collection) (pair_is : pair ≡ catalogue_entry n) (bare_n : n.documents ≡ []) (now : List Collection) (loaded : AreLoaded now)
      (last : now ≡ p.now ++ n ∷ []) where
    older : (c : Collection) → Among c p.now → Among c now
    older c there = subst (Among c) (sym last) (among_front c p.now (n ∷ []) there)

    newest : Among n now
    newest = subst (Among n) (sym last) (among_back n p.now (n ∷ []) (inl refl))

    which : (c : Collection) → Among c now → Among c p.now ⊎ (c ≡ n)
    which c there = elim (among_append c p.now (n ∷ []) (subst (Among c) last there)) [ inl g ↦ inl g | inr g ↦ inr (one_of_one c n g) ]

    none_in : (c : Collection) (d : Pairs) → c ≡ n → Among d c.documents → ⊥
    none_in c d e there = subst (Among d) (ap (λ (x : Collection). x.documents) e ∙ bare_n) there

    is_pair : (c : Collection) (x : Entry) → c ≡ n → (x ≡ catalogue_entry c) ⊎ IsDocumentOf c x → x ≡ pair
    is_pair c x e (inl f) = f ∙ ap catalogue_entry e ∙ sym pair_is
    is_pair c x e (inr d) = absurd (none_in c d.document e d.there)

    with_name : Stands all more (record p { now = now })
    with_name = record {
      loaded = loaded;
      made = λ x there none. elim (among_append x done (pair ∷ []) there) [
        | inl g ↦ (let h = s.made x g none in record { collection = h.collection; there = older h.collection h.there; is = h.is })
        | inr g ↦ record { collection = n; there = newest; is = inl (one_of_one x pair g ∙ pair_is) }
      ];
      plain = λ x h. elim (which h.collection h.there) [
        | inl g ↦ earlier x (s.plain x (record { collection = h.collection; there = g; is = h.is }))
        | inr e ↦ subst (λ (y : Entry). Among y more) (sym (is_pair h.collection x e h.is)) this
      ];
      owed = s.owed;
      owing = λ x there. let h = s.owing x there in record { collection = h.collection; there = older h.collection h.there; is = h.is };
      keyed = λ x h. elim (which h.collection h.there) [
        | inl g ↦ s.keyed x (record { collection = h.collection; there = g; is = h.is })
        | inr e ↦ absurd (none_in h.collection h.is.document e h.is.there)
      ];
      there = s.there;
      once = s.once;
      documents = omega (arith, ap total_documents last, count_append p.now (n ∷ []), ap (λ (ds : List Pairs). length ds) bare_n, s.documents);
      keys = s.keys;
      seen = seen_same done pair (catalogue_none n pair pair_is) ∙ s.seen;
    }

  pub name_step : (next : Progress) → TakesName p pair next → Stands all more next
  name_step next t =
      subst (Stands all more) (sym t.next_is)
      (with_name t.name t.is.pair_is t.is.plain (put_collection t.name p.now)
      (name_loaded (listed_of p.now) p.now pair t.name (record { named = refl; loaded = s.loaded }) t.is).loaded (put_last t.name p.now t.is.behind))
