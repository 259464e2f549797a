-- What is picked of entries that rise, by keys that ascend: the documents of some `_id`s.
use Rattle.std.proofs.Common.{◌≡◌, ℕ, suc, ◌<◌, ◌≤◌, ◌^◌, Bool, true, false, not, ◌&&◌, ◌||◌, List, [], ◌∷◌, length, map}
use Rattle.std.proofs.Common.{get_or, Option, Some, None}
use Rattle.std.proofs.Common.{refl, sym, ap, ◌∙◌, subst, arith, Result, Ok}
use Rattle.std.specs.Prelude.{MatchOption, cond}
use Rattle.std.specs.List.{AllPairs, filter}
use Rattle.std.specs.Option.{option_map}
use Rattle.std.specs.Ordering.{is_eq, is_lt, ordering_reverse}
use Rattle.std.specs.Cmp.Lexicographic.{nat_list_cmp_total}
use Rattle.std.specs.declared.cmp.Ordering.{Ordering}
use Rattle.std.specs.declared.cmp.Ordering.TheVariants.{Less, Equal, Greater}
use Rattle.std.proofs.lemmas.Cmp.{tied_itself}
use Rattle.std.proofs.lemmas.Map.Lookups.{exact_bytes}
use Rattle.std.proofs.lemmas.List.Elements.{All-filter}
use Rattle.bson.specs.Tree.{Pairs}
use Rattle.page.specs.History.{History}
use Rattle.value_order.specs.KeyText.{tree_text}
use Rattle.value_order.specs.Order.{bytes_cmp}
use Rattle.btree.specs.Fold.{between}
use Rattle.btree.specs.declared.folding.Bounds.{Bounds}
use Rattle.tree_model.specs.Keys.{Each, Entry, IsUnder, Rises, is_within, keep_if, key_cmp, window}
use Rattle.tree_model.proofs.KeyLemmas.{under_trans}
use Rattle.tree_model.proofs.ListLemmas.{each_map, each_of_map}
use Rattle.index.specs.Changes.{is_among}
use Rattle.path.specs.declared.refusal.Refusal.{Refusal}
use Rattle.path.specs.declared.refusal.Refusal.TheVariants as refusals
use Rattle.entry_model.specs.LawfulState.{IsKept, IsStorable}
use Rattle.entry_model.specs.State.{Collection, key_of}
use Rattle.entry_model.specs.StateEntries.{document_entry, entry_keys, key_under}
use Rattle.entry_model.proofs.FoundLawLemmas.{found_collection}
use Rattle.entries.proofs.BatchLaws.{lists_documents_from, not_below_first}
use Rattle.entries.specs.Batches.{documents_at}
use Rattle.entries.proofs.HomeLemmas.{number_fits}
use Rattle.collections.specs.Below.{IsNothing, ReadsBelow}
use Rattle.collections.specs.Folding.{Lends}
use Rattle.collections.specs.Picking.{IsAskedFor, Picks, after, after_by, documents_among, meets}
use Rattle.collections.specs.Picking.{meets_by, picked, wanted}
use Rattle.collections.specs.Lookups.{IsInTree}
use Rattle.collections.specs.State.{State}
use Rattle.collections.specs.declared.picking.Picking.{Picking}
use Rattle.collections.proofs.BelowLemmas.{below_on}
use Rattle.collections.proofs.FoldingLemmas.{AnswersWith, answered, lent_documents}
use Rattle.collections.proofs.WithinLemmas.{below_next, not_before, same_place}
use Rattle.collections.proofs.PickingLemmas.{over}

-- ---- ascending keys

same_key : (k : List ℕ) → is_eq (key_cmp k k) ≡ true
same_key k = ap is_eq (tied_itself nat_list_cmp_total k)

none_over : (key : List ℕ) (ks : List (List ℕ)) → Each (λ (k : List ℕ). IsUnder key k) ks → is_among ks key ≡ false
none_over key [] h = refl
none_over key (k ∷ ks) h = (λ i. is_eq (h.0 i) || none_over key ks h.1 i)

meets_among : (ks : List (List ℕ)) (key : List ℕ) → Rises ks → meets ks key ≡ is_among ks key
meets_among [] key h = refl
meets_among (k ∷ ks) key h = by (key_cmp k key) refl (meets_among ks key h.1)
  where
    by : (o : Ordering) → key_cmp k key ≡ o → meets ks key ≡ is_among ks key → meets_by o (meets ks key) ≡ (is_eq (key_cmp key k) || is_among ks key)
    by Less e later = later ∙ (λ i. is_eq (sym (over k key e) i) || is_among ks key)
    by Equal e later = (λ i. is_eq (sym (nat_list_cmp_total.antisymm key k ∙ ap ordering_reverse e) i) || is_among ks key)
    by Greater e later =
        let under : IsUnder key k = nat_list_cmp_total.antisymm key k ∙ ap ordering_reverse e in
        sym (λ i. is_eq (under i) || none_over key ks (each_map _ _ (λ l u. under_trans key k l under u) ks h.0) i)

after_among : (ks : List (List ℕ)) (x y : List ℕ) → IsUnder x y → is_among (after x ks) y ≡ is_among ks y
after_among [] x y u = refl
after_among (k ∷ ks) x y u = by (key_cmp k x) refl (after_among ks x y u)
  where
    by : (o : Ordering) → key_cmp k x ≡ o → is_among (after x ks) y ≡ is_among ks y
        → is_among (after_by o k ks (after x ks)) y ≡ (is_eq (key_cmp y k) || is_among ks y)
    by Less e later = later ∙ (λ i. is_eq (sym (over k y (under_trans k x y e u)) i) || is_among ks y)
    by Equal e later =
        let same : k ≡ x = exact_bytes k x e in
        (λ i. is_eq (sym (over k y (subst (λ z. IsUnder z y) (sym same) u)) i) || is_among ks y)
    by Greater e later = refl

rises_after : (ks : List (List ℕ)) (x : List ℕ) → Rises ks → Rises (after x ks)
rises_after [] x h = h
rises_after (k ∷ ks) x h = by (key_cmp k x) (rises_after ks x h.1)
  where
    by : (o : Ordering) → Rises (after x ks) → Rises (after_by o k ks (after x ks))
    by Less later = later
    by Equal later = h.1
    by Greater later = h

filter_same : (P Q : Entry → Bool) (xs : List Entry) → Each (λ (x : Entry). P x ≡ Q x) xs → filter P xs ≡ filter Q xs
filter_same P Q [] h = refl
filter_same P Q (x ∷ xs) h = (λ i. cond (h.0 i) (x ∷ filter_same P Q xs h.1 i) (filter_same P Q xs h.1 i))

-- of entries that rise those are picked that have one of the keys
pub picked_among : (ks : List (List ℕ)) (xs : List Entry) → Rises ks → Rises (entry_keys xs) → picked ks xs ≡ filter (λ (x : Entry). is_among ks x.key) xs
picked_among ks [] rise up = refl
picked_among ks (x ∷ xs) rise up =
    let later : picked (after x.key ks) xs ≡ filter (λ (y : Entry). is_among ks y.key) xs =
    picked_among (after x.key ks) xs (rises_after ks x.key rise) up.1
    ∙ filter_same (λ (y : Entry). is_among (after x.key ks) y.key) (λ (y : Entry). is_among ks y.key) xs
    (each_map _ _ (λ (y : Entry) u. after_among ks x.key y.key u) xs (each_of_map (IsUnder x.key) (λ (y : Entry). y.key) xs up.0)) in
    (λ i. keep_if (meets_among ks x.key rise i) x (later i))

-- ---- the keys of some texts

-- all entries lie from the least key on
whole_window : (xs : List Entry) → window [] None xs ≡ xs
whole_window [] = refl
whole_window (x ∷ xs) = (λ i. keep_if (not (none_below x.key i) && true) x (whole_window xs i))
  where
    none_below : (key : List ℕ) → is_lt (key_cmp key []) ≡ false
    none_below [] = refl
    none_below (b ∷ key) = refl

each_over : (t : List ℕ) (ts : List (List ℕ)) → ((k : ℕ) → k < length ts → bytes_cmp t (get_or ts k t) ≡ Less) → Each (IsUnder t) ts
each_over t [] h = tt
each_over t (u ∷ ts) h = (h 0 (omega arith), each_over t ts (λ k within. h (suc k) (omega (arith, within))))

rises_of : (ts : List (List ℕ)) → AllPairs (λ s t. bytes_cmp s t ≡ Less) ts → Rises ts
rises_of [] h = tt
rises_of (t ∷ ts) h = (
  each_over t ts (λ k within. h 0 (suc k) t (omega arith) (omega (arith, within))),
  rises_of ts (λ i j d lt within. h (suc i) (suc j) d (omega (arith, lt)) (omega (arith, within))),
)

all_at : (number : ℕ) (ds : List Pairs) → documents_at number (key_under number 0 []) ds ≡ ds
all_at number [] = refl
all_at number (d ∷ ds) = (λ i. keep_if (not (not_below_first number (tree_text (key_of d)) i)) d (all_at number ds i))

module _ (number : ℕ) (small : number < 2 ^ 32) where
  each_key : (t : List ℕ) (ts : List (List ℕ)) → Each (IsUnder t) ts → Each (IsUnder (key_under number 0 t)) (map (key_under number 0) ts)
  each_key t [] h = tt
  each_key t (u ∷ ts) h = (same_place number small t u ∙ h.0, each_key t ts h.1)

  rises_keys : (ts : List (List ℕ)) → Rises ts → Rises (map (key_under number 0) ts)
  rises_keys [] h = tt
  rises_keys (t ∷ ts) h = (each_key t ts h.0, rises_keys ts h.1)

  among_keys : (ts : List (List ℕ)) (t : List ℕ) → is_among (map (key_under number 0) ts) (key_under number 0 t) ≡ is_among ts t
  among_keys [] t = refl
  among_keys (u ∷ ts) t = (λ i. is_eq (same_place number small t u i) || among_keys ts t i)

  entries_among : (ts : List (List ℕ)) (ds : List Pairs)
      → filter (λ (x : Entry). is_among (map (key_under number 0) ts) x.key) (map (document_entry number) ds)
      ≡ map (document_entry number) (documents_among ts ds)
  entries_among ts [] = refl
  entries_among ts (d ∷ ds) =
      (λ i. cond (among_keys ts (tree_text (key_of d)) i) (document_entry number d ∷ entries_among ts ds i) (entries_among ts ds i))
      ∙ by (is_among ts (tree_text (key_of d)))
    where
      by : (b : Bool) → cond b (document_entry number d ∷ map (document_entry number) (documents_among ts ds))
          (map (document_entry number) (documents_among ts ds))
          ≡ map (document_entry number) (cond b (d ∷ documents_among ts ds) (documents_among ts ds))
      by true = refl
      by false = refl

-- such a key lies in the range of the documents
key_inside : (number : ℕ) (small : number < 2 ^ 32) (ts : List (List ℕ)) (key : List ℕ) → is_among (map (key_under number 0) ts) key ≡ true
    → (not (is_lt (key_cmp key (key_under number 0 []))) && is_within (Some (key_under number 1 [])) key) ≡ true
key_inside number small [] key there = absurd cc
key_inside number small (t ∷ ts) key there = by (key_cmp key (key_under number 0 t)) refl there (key_inside number small ts key)
  where
    here : key ≡ key_under number 0 t → (not (is_lt (key_cmp key (key_under number 0 []))) && is_within (Some (key_under number 1 [])) key) ≡ true
    here is =
        (λ i. not (is_lt (key_cmp (is i) (key_under number 0 []))) && is_lt (key_cmp (is i) (key_under number 1 [])))
        ∙ (λ i. not (not_below_first number t i) && is_lt (below_next number small t i))

    by : (o : Ordering) → key_cmp key (key_under number 0 t) ≡ o → (is_eq o || is_among (map (key_under number 0) ts) key) ≡ true
        → (is_among (map (key_under number 0) ts) key ≡ true
        → (not (is_lt (key_cmp key (key_under number 0 []))) && is_within (Some (key_under number 1 [])) key) ≡ true)
        → (not (is_lt (key_cmp key (key_under number 0 []))) && is_within (Some (key_under number 1 [])) key) ≡ true
    by Equal e there later = here (exact_bytes key (key_under number 0 t) e)
    by Less e there later = later there
    by Greater e there later = later there

pub among_shorter : (texts : List (List ℕ)) (ds : List Pairs) → length (documents_among texts ds) ≤ length ds
among_shorter texts [] = omega arith
among_shorter texts (d ∷ ds) = by (is_among texts (tree_text (key_of d))) (among_shorter texts ds)
  where
    by : (b : Bool) → length (documents_among texts ds) ≤ length ds
        → length (cond b (d ∷ documents_among texts ds) (documents_among texts ds)) ≤ suc (length ds)
    by true later = omega (arith, later)
    by false later = omega (arith, later)

-- those that have one of the keys lie in the range of the documents
among_window : (number : ℕ) (small : number < 2 ^ 32) (ts : List (List ℕ)) (xs : List Entry)
    → filter (λ (x : Entry). is_among (map (key_under number 0) ts) x.key) (window (key_under number 0 []) (Some (key_under number 1 [])) xs)
    ≡ filter (λ (x : Entry). is_among (map (key_under number 0) ts) x.key) xs
among_window number small ts [] = refl
among_window number small ts (x ∷ xs) = by (is_among keys x.key) refl (among_window number small ts xs)
  where
    keys : List (List ℕ)
    keys = map (key_under number 0) ts

    from : List ℕ
    from = key_under number 0 []

    to : Option (List ℕ)
    to = Some (key_under number 1 [])

    inside : is_among keys x.key ≡ true → (not (is_lt (key_cmp x.key from)) && is_within to x.key) ≡ true
    inside there = key_inside number small ts x.key there

    by : (b : Bool) → is_among keys x.key ≡ b
        → filter (λ (y : Entry). is_among keys y.key) (window from to xs) ≡ filter (λ (y : Entry). is_among keys y.key) xs
        → filter (λ (y : Entry). is_among keys y.key) (keep_if (not (is_lt (key_cmp x.key from)) && is_within to x.key) x (window from to xs))
        ≡ cond (is_among keys x.key) (x ∷ filter (λ (y : Entry). is_among keys y.key) xs) (filter (λ (y : Entry). is_among keys y.key) xs)
    by true is later =
        (λ i. filter (λ (y : Entry). is_among keys y.key) (keep_if (inside is i) x (window from to xs)))
        ∙ (λ i. cond (is_among keys x.key) (x ∷ later i) (later i))
    by false is later =
        elim (not (is_lt (key_cmp x.key from)) && is_within to x.key) as
        (λ o. filter (λ (y : Entry). is_among keys y.key) (keep_if o x (window from to xs))
        ≡ cond (is_among keys x.key) (x ∷ filter (λ (y : Entry). is_among keys y.key) xs) (filter (λ (y : Entry). is_among keys y.key) xs)) [
          | true ↦ (λ i. cond (is_among keys x.key) (x ∷ later i) (later i))
          | false ↦ later ∙ (λ i. cond (sym is i) (x ∷ filter (λ (y : Entry). is_among keys y.key) xs) (filter (λ (y : Entry). is_among keys y.key) xs))
        ]

-- ---- the documents of a collection

module _ {D F : Type 0} (history : D → History) (makes : F → List Pairs → F → Type 0) (start now : Picking F) (bounds : Bounds) (texts : List (List ℕ))
    (number root : ℕ) (old new : State D) (from : bounds.from.now ≡ []) (to : option_map (λ b. b.now) bounds.to ≡ None)
    (keys : wanted start ≡ map (key_under number 0) texts)
    (reads : ReadsBelow history root IsNothing
    (λ cs asked. IsInTree (λ entries (u : Unit {0}). Picks makes start (between bounds entries) now) cs) (Ok tt) old new) where
  module _ (cs : List Collection) (c : Collection) (so : IsAskedFor number texts cs c)
      (p : IsInTree (λ entries (u : Unit {0}). Picks makes start (between bounds entries) now) cs tt) where
    kept : IsKept c
    kept = (found_collection cs c.name c p.state so.numbered.found).0

    small : c.number < 2 ^ 32
    small = number_fits c kept

    abbrev asked : List Pairs
    asked = documents_among texts c.documents

    abbrev among : List Entry → List Entry
    among xs = filter (λ (x : Entry). is_among (map (key_under c.number 0) texts) x.key) xs

    listed : window (key_under c.number 0 []) (Some (key_under c.number 1 [])) p.entries ≡ map (document_entry c.number) c.documents
    listed =
        lists_documents_from p.entries cs c (key_under c.number 0 []) (record { lawful = p.state; spells = p.spells }) so.numbered.found
        (not_before c.number small [])
        ∙ ap (map (document_entry c.number)) (all_at c.number c.documents)

    chosen : picked (wanted start) (between bounds p.entries) ≡ map (document_entry c.number) asked
    chosen =
        (λ i. picked (wanted start) (window (from i) (to i) p.entries))
        ∙ ap (picked (wanted start)) (whole_window p.entries)
        ∙ ap (λ ks. picked ks p.entries) (keys ∙ (λ i. map (key_under (sym so.numbered.same i) 0) texts))
        ∙ picked_among (map (key_under c.number 0) texts) p.entries (rises_keys c.number small texts (rises_of texts so.ascending)) p.spells.rises
        ∙ sym (among_window c.number small texts p.entries) ∙ ap among listed ∙ entries_among c.number small texts c.documents

    lent : MatchOption now.lending.refused (makes start.lending.fold asked now.lending.fold) (λ e. e ≡ refusals.OutOfMemory)
    lent =
        lent_documents makes start.lending now.lending c.number asked
        (All-filter (λ d. is_among texts (tree_text (key_of d))) IsStorable c.documents kept.storable)
        (subst (λ es. Lends makes start.lending es now.lending) chosen p.right.lent)

  pub picked_documents : (r : Result F Refusal) → AnswersWith now.lending r
      → ReadsBelow history root (IsAskedFor number texts) (λ cs c done. makes start.lending.fold (documents_among texts c.documents) done) r old new
  picked_documents r is =
      below_on history root IsNothing (IsAskedFor number texts)
      (λ cs asked. IsInTree (λ entries (u : Unit {0}). Picks makes start (between bounds entries) now) cs)
      (λ cs c done. makes start.lending.fold (documents_among texts c.documents) done) old new tt r reads
      (λ cs c so. (tt, tt, λ p. answered makes start.lending now.lending (documents_among texts c.documents) r is (lent cs c so p)))
