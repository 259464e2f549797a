-- The entries of the documents that lie within bounds.
use Rattle.std.proofs.Common.{◌≡◌, ℕ, suc, ◌<◌, ◌≤◌, ◌^◌, Bool, true, false, not, ◌&&◌, List, [], ◌∷◌, length, map, Option, Some, None, refl, sym, ap}
use Rattle.std.proofs.Common.{◌∙◌, arith}
use Rattle.std.specs.Prelude.{cond}
use Rattle.std.specs.List.{filter}
use Rattle.std.specs.Option.{option_map}
use Rattle.std.specs.Ordering.{is_lt, nat_cmp, ordering_then}
use Rattle.std.specs.declared.cmp.Ordering.{Ordering}
use Rattle.std.specs.declared.cmp.Ordering.TheVariants.{Less, Equal, Greater}
use Rattle.std.proofs.lemmas.Cmp.{nat_cmp_total, tied_itself}
use Rattle.bson.specs.Tree.{Pairs}
use Rattle.value_order.specs.KeyText.{tree_text}
use Rattle.tree_model.specs.Keys.{Entry, IsNotUnder, is_within, keep_if, key_cmp, window}
use Rattle.btree.specs.declared.folding.Bounds.{Bounds}
use Rattle.tree_model.proofs.KeyLemmas.{under_trans}
use Rattle.entries.specs.Batches.{documents_at}
use Rattle.entry_model.specs.State.{key_of}
use Rattle.entry_model.specs.StateEntries.{document_entry, key_under}
use Rattle.entries.proofs.BatchLaws.{not_below_first}
use Rattle.entries.proofs.WindowLemmas.{under_cmp}
use Rattle.collections.specs.Folding.{documents_within, end_under, lies_within}

-- ---- a window up to an earlier end

narrow_window : (from : List ℕ) (a b : Option (List ℕ)) → ((k : List ℕ) → is_within a k ≡ true → is_within b k ≡ true) → (xs : List Entry)
    → window from a xs ≡ filter (λ (x : Entry). is_within a x.key) (window from b xs)
narrow_window from a b inside [] = refl
narrow_window from a b inside (x ∷ xs) =
    by (not (is_lt (key_cmp x.key from))) (is_within a x.key) (is_within b x.key) refl refl (inside x.key) (narrow_window from a b inside xs)
  where
    by : (l p q : Bool) → is_within a x.key ≡ p → is_within b x.key ≡ q → (is_within a x.key ≡ true → is_within b x.key ≡ true)
        → window from a xs ≡ filter (λ (y : Entry). is_within a y.key) (window from b xs)
        → keep_if (l && p) x (window from a xs) ≡ filter (λ (y : Entry). is_within a y.key) (keep_if (l && q) x (window from b xs))
    by false p q is so wider later = later
    by true true false is so wider later = absurd (let no = sym (wider is) ∙ so in cc)
    by true false false is so wider later = later
    by true p true is so wider later = λ i. cond (sym is i) (x ∷ later i) (later i)

-- ---- documents under a number

less_of : (o : Ordering) → is_lt o ≡ true → o ≡ Less
less_of Less e = refl
less_of Equal e = absurd cc
less_of Greater e = absurd cc

abbrev end_of : Bounds → Option (List ℕ)
end_of texts = option_map (λ b. b.now) texts.to

module _ (number : ℕ) (small : number < 2 ^ 32) where
  pub same_place : (x y : List ℕ) → key_cmp (key_under number 0 x) (key_under number 0 y) ≡ key_cmp x y
  same_place x y =
      under_cmp number number 0 0 x y small small (omega arith) (omega arith)
      ∙ (λ i. ordering_then (tied_itself nat_cmp_total number i) (ordering_then (tied_itself nat_cmp_total 0 i) (key_cmp x y)))

  pub below_next : (x : List ℕ) → key_cmp (key_under number 0 x) (key_under number 1 []) ≡ Less
  below_next x =
      under_cmp number number 0 1 x [] small small (omega arith) (omega arith)
      ∙ (λ i. ordering_then (tied_itself nat_cmp_total number i) (ordering_then (nat_cmp 0 1) (key_cmp x [])))

  end_within : (to : Option (List ℕ)) (text : List ℕ) → is_within (Some (end_under number to)) (key_under number 0 text) ≡ is_within to text
  end_within None text = ap is_lt (below_next text)
  end_within (Some high) text = ap is_lt (same_place text high)

  ends_before : (to : Option (List ℕ)) (k : List ℕ) → is_within (Some (end_under number to)) k ≡ true → is_within (Some (key_under number 1 [])) k ≡ true
  ends_before None k e = e
  ends_before (Some high) k e =
      ap is_lt (under_trans k (key_under number 0 high) (key_under number 1 []) (less_of (key_cmp k (key_under number 0 high)) e) (below_next high))

  pub not_before : (text : List ℕ) → IsNotUnder (key_under number 0 text) (key_under number 0 [])
  not_before text under = let no = sym (not_below_first number text) ∙ ap is_lt under in cc

  -- those that are below the end
  abbrev kept : Bounds → List Entry → List Entry
  kept texts xs = filter (λ (x : Entry). is_within (Some (end_under number (end_of texts))) x.key) xs

  abbrev from_first : Bounds → List Pairs → List Pairs
  from_first texts ds = documents_at number (key_under number 0 texts.from.now) ds

  abbrev entries : List Pairs → List Entry
  entries ds = map (document_entry number) ds

  kept_documents : (texts : Bounds) (ds : List Pairs) → kept texts (entries (from_first texts ds)) ≡ entries (documents_within texts ds)
  kept_documents texts [] = refl
  kept_documents texts (d ∷ ds) =
      (λ i. kept texts (entries (keep_if (not (is_lt (same_place (tree_text (key_of d)) texts.from.now i))) d (from_first texts ds))))
      ∙ by (not (is_lt (key_cmp (tree_text (key_of d)) texts.from.now))) (is_within (end_of texts) (tree_text (key_of d)))
      (end_within (end_of texts) (tree_text (key_of d))) (kept_documents texts ds)
    where
      by : (a b : Bool) → is_within (Some (end_under number (end_of texts))) (key_under number 0 (tree_text (key_of d))) ≡ b
          → kept texts (entries (from_first texts ds)) ≡ entries (documents_within texts ds)
          → kept texts (entries (keep_if a d (from_first texts ds))) ≡ entries (cond (a && b) (d ∷ documents_within texts ds) (documents_within texts ds))
      by false b is later = later
      by true true is later = λ i. cond (is i) (document_entry number d ∷ later i) (later i)
      by true false is later = λ i. cond (is i) (document_entry number d ∷ later i) (later i)

  -- the entries between the keys of the bounds are those of the documents within them
  pub window_within : (texts : Bounds) (ds : List Pairs) (xs : List Entry)
      → window (key_under number 0 texts.from.now) (Some (key_under number 1 [])) xs
      ≡ entries (from_first texts ds)
      → window (key_under number 0 texts.from.now) (Some (end_under number (end_of texts))) xs ≡ entries (documents_within texts ds)
  window_within texts ds xs listed =
      narrow_window (key_under number 0 texts.from.now) (Some (end_under number (end_of texts)))
      (Some (key_under number 1 [])) (ends_before (end_of texts)) xs
      ∙ ap (kept texts) listed ∙ kept_documents texts ds

-- ---- no more than all documents

pub within_shorter : (texts : Bounds) (ds : List Pairs) → length (documents_within texts ds) ≤ length ds
within_shorter texts [] = omega arith
within_shorter texts (d ∷ ds) = by (lies_within texts (tree_text (key_of d))) (within_shorter texts ds)
  where
    by : (b : Bool) → length (documents_within texts ds) ≤ length ds
        → length (cond b (d ∷ documents_within texts ds) (documents_within texts ds)) ≤ suc (length ds)
    by true later = omega (arith, later)
    by false later = omega (arith, later)
