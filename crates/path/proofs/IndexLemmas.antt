-- Items of an array by an index, which code counts up to 2^64 - 1.
use Rattle.std.proofs.Common.{◌≡◌, ℕ, zero, suc, ◌+◌, ◌<◌, ◌≤◌, true, false, List, length, get_or, Option, Some, None, Result, Ok, Err, min, refl, sym, ap, ◌∙◌}
use Rattle.std.proofs.Common.{arith}
use Rattle.std.specs.Prelude.{option_map, nat_lt}
use Rattle.std.specs.Option.{option_and_then}
use Rattle.std.proofs.lemmas.Bool.{lt-ltb, le-ltb}
use Rattle.bson.specs.Tree.{Tree, scalar, null, Items, no_items, item, append_items}
use Rattle.bson.specs.Lawful.{levels, items_levels}
use Rattle.bson.specs.View.{tree, items_of}
use Rattle.bson.specs.Edits.{items_len, item_at, with_item}
use Rattle.bson.specs.EditsLaws.{item_at-items_of, items_len-items_of}
use Rattle.bson.specs.declared.value.Value.{Value}
use Rattle.path.specs.declared.refusal.Refusal.{Refusal}
use Rattle.path.specs.declared.refusal.Refusal.TheVariants as refusals
use Rattle.path.specs.Edits.{put_item, within, if_ok, write_item_at, write_item, cut_item, with_found}

pub item_at-past : (ts : Items) (i : ℕ) → items_len ts ≤ i → item_at ts i ≡ None
item_at-past no_items i le = refl
item_at-past (item t ts) zero le = absurd (omega arith)
item_at-past (item t ts) (suc i) le = item_at-past ts i (omega arith)

pub item_at-levels : (ts : Items) (i : ℕ) (t : Tree) → item_at ts i ≡ Some t → levels t ≤ items_levels ts
item_at-levels no_items i t e = absurd cc
item_at-levels (item u ts) zero t e = let same : u ≡ t = cc in omega (arith, ap levels same)
item_at-levels (item u ts) (suc i) t e = omega (arith, item_at-levels ts i t e)

-- an index that was counted up to m
some_or_none : (m : ℕ) (o : Option ℕ) (i : ℕ) → option_map (min m) o ≡ Some i → (n : ℕ) × (o ≡ Some n) × (min m n ≡ i)
some_or_none m None i e = absurd cc
some_or_none m (Some n) i e = (n, refl, cc)

pub there : (vs : List Value) (m i : ℕ) (o : Option ℕ) (v : Value) → option_map (min m) o ≡ Some i → i < length vs → length vs ≤ m → v ≡ get_or vs i v
    → Some (tree v) ≡ option_and_then (item_at (items_of vs)) o
there vs m i o v e lt le is =
    let found = some_or_none m o i e in
    let n : ℕ = found.0 in
    let whole : n ≡ i = omega (arith, found.2) in
    ap (λ (w : Value). Some (tree w)) is ∙ sym (item_at-items_of vs i v lt) ∙ ap (item_at (items_of vs)) (sym whole)
    ∙ ap (option_and_then (item_at (items_of vs))) (sym found.1)

pub past : (vs : List Value) (m i : ℕ) (o : Option ℕ) → option_map (min m) o ≡ Some i → length vs ≤ i → None ≡ option_and_then (item_at (items_of vs)) o
past vs m i o e le =
    let found = some_or_none m o i e in
    sym (item_at-past (items_of vs) found.0 (omega (arith, found.2, items_len-items_of vs))) ∙ ap (option_and_then (item_at (items_of vs))) (sym found.1)

-- ---- an item in the place of another, or past the end

pub put_item-within : (ts : Items) (i : ℕ) (u : Tree) → i < items_len ts → put_item ts i u ≡ with_item ts i u
put_item-within no_items i u lt = absurd (omega arith)
put_item-within (item t ts) zero u lt = refl
put_item-within (item t ts) (suc i) u lt = ap (item t) (put_item-within ts i u (omega arith))

pub put_item-end : (ts : Items) (i : ℕ) (u : Tree) → items_len ts ≡ i → put_item ts i u ≡ append_items ts (item u no_items)
put_item-end no_items zero u e = refl
put_item-end no_items (suc i) u e = absurd (omega arith)
put_item-end (item t ts) zero u e = absurd (omega arith)
put_item-end (item t ts) (suc i) u e = ap (item t) (put_item-end ts i u (omega arith))

pub put_item-padded : (ts : Items) (i : ℕ) (u : Tree) → items_len ts < i → put_item (append_items ts (item (scalar null) no_items)) i u ≡ put_item ts i u
put_item-padded no_items zero u lt = absurd (omega arith)
put_item-padded no_items (suc i) u lt = refl
put_item-padded (item t ts) zero u lt = absurd (omega arith)
put_item-padded (item t ts) (suc i) u lt = ap (item t) (put_item-padded ts i u (omega arith))

pub items_len-with_item : (ts : Items) (i : ℕ) (u : Tree) → items_len (with_item ts i u) ≡ items_len ts
items_len-with_item no_items i u = refl
items_len-with_item (item t ts) zero u = refl
items_len-with_item (item t ts) (suc i) u = ap suc (items_len-with_item ts i u)

-- ---- setting and cutting at an index that was counted so far

module _ (made : Option Tree → Result Tree Refusal) (ts : Items) (m i : ℕ) (o : Option ℕ) (e : option_map (min m) o ≡ Some i)
    (room : items_len ts + 1000 < m) where
  pub write_item-there : (old : Tree) (r : Result Tree Refusal) → i < items_len ts → item_at ts i ≡ Some old → within 98 (made (Some old)) ≡ r
      → write_item made o ts ≡ if_ok r (λ u. Ok (put_item ts i u))
  write_item-there old r lt is given =
      let found = some_or_none m o i e in
      let n : ℕ = found.0 in
      let whole : n ≡ i = omega (arith, found.2) in
      let near : nat_lt (items_len ts + 1000) i ≡ false = le-ltb _ _ (omega arith) in
      ap (λ (p : Option ℕ). write_item made p ts) found.1 ∙ ap (λ (k : ℕ). write_item_at made k ts) whole ∙ rw (near, is, given) refl

  pub write_item-new : (r : Result Tree Refusal) → items_len ts ≤ i → i ≤ items_len ts + 1000 → within 98 (made None) ≡ r
      → write_item made o ts ≡ if_ok r (λ u. Ok (put_item ts i u))
  write_item-new r ge le given =
      let found = some_or_none m o i e in
      let n : ℕ = found.0 in
      let whole : n ≡ i = omega (arith, found.2) in
      let near : nat_lt (items_len ts + 1000) i ≡ false = le-ltb _ _ (omega arith) in
      ap (λ (p : Option ℕ). write_item made p ts) found.1 ∙ ap (λ (k : ℕ). write_item_at made k ts) whole ∙ rw (near, item_at-past ts i ge, given) refl

  pub write_item-far : items_len ts + 1000 < i → write_item made o ts ≡ Err refusals.BadValue
  write_item-far lt =
      let found = some_or_none m o i e in
      let n : ℕ = found.0 in
      let far : nat_lt (items_len ts + 1000) n ≡ true = lt-ltb _ _ (omega (arith, found.2)) in
      ap (λ (p : Option ℕ). write_item made p ts) found.1 ∙ rw far refl

module _ (left : Tree → Option Tree) (ts : Items) (m i : ℕ) (o : Option ℕ) (e : option_map (min m) o ≡ Some i) (room : items_len ts ≤ m) where
  pub cut_item-there : (old : Tree) (w : Option Tree) → i < items_len ts → item_at ts i ≡ Some old → left old ≡ w
      → cut_item left o ts ≡ with_found (λ (t : Tree). w) i ts (Some old)
  cut_item-there old w lt is given =
      let found = some_or_none m o i e in
      let n : ℕ = found.0 in
      let whole : n ≡ i = omega (arith, found.2) in
      ap (λ (p : Option ℕ). cut_item left p ts) found.1 ∙ ap (λ (k : ℕ). with_found left k ts (item_at ts k)) whole ∙ rw (is, given) refl

  pub cut_item-past : items_len ts ≤ i → cut_item left o ts ≡ ts
  cut_item-past ge =
      let found = some_or_none m o i e in
      ap (λ (p : Option ℕ). cut_item left p ts) found.1 ∙ rw (item_at-past ts found.0 (omega (arith, found.2))) refl

-- ---- the item that an index names, where the index was counted so far

module _ (ts : Items) (m i : ℕ) (o : Option ℕ) (e : option_map (min m) o ≡ Some i) (room : items_len ts ≤ m) where
  pub named-there : (old : Tree) → i < items_len ts → item_at ts i ≡ Some old → option_and_then (item_at ts) o ≡ Some old
  named-there old lt is =
      let found = some_or_none m o i e in
      let n : ℕ = found.0 in
      let whole : n ≡ i = omega (arith, found.2) in
      ap (option_and_then (item_at ts)) found.1 ∙ ap (item_at ts) whole ∙ is

  pub named-past : items_len ts ≤ i → option_and_then (item_at ts) o ≡ None
  named-past ge =
      let found = some_or_none m o i e in
      ap (option_and_then (item_at ts)) found.1 ∙ item_at-past ts found.0 (omega (arith, found.2))

pub index-none : (m : ℕ) (o : Option ℕ) → option_map (min m) o ≡ None → o ≡ None
index-none m None e = refl
index-none m (Some n) e = absurd cc
