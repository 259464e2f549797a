-- A command without the fields that are read over, and its entries.
use Rattle.std.proofs.Common.{◌≡◌, ℕ, zero, suc, ◌<◌, ◌≤◌, max, Bool, true, false, List, [], ◌∷◌, Some, refl, ap, arith}
use Rattle.std.specs.Prelude.{if◌then◌else◌}
use Rattle.std.specs.List.{filter}
use Rattle.bson.specs.Edits.{items_len, item_at, with_item}
use Rattle.bson.specs.Lawful.{levels, pairs_levels, items_levels}
use Rattle.bson.specs.Tree.{Tree, scalar, document, array, Pairs, no_pairs, pair, Items, no_items, item}
use Rattle.bson.specs.View.{tree, pairs_of}
use Rattle.bson.specs.declared.value.Pair.{Pair}
use Rattle.driver_fields.specs.declared.cleaning.Whose.{Whose}
use Rattle.driver_fields.specs.Cleaning.{is_kept, own_fields, kept_entry, kept_entries, kept_array}

-- the pairs that pass the test are the fields that are kept
pub kept_filter : (whose : Whose) (ps : List Pair) → pairs_of (filter (λ (p : Pair). is_kept whose p.name) ps) ≡ own_fields whose (pairs_of ps)
kept_filter whose [] = refl
kept_filter whose (p ∷ ps) = at (is_kept whose p.name) (kept_filter whose ps)
  where
    at : (b : Bool) → pairs_of (filter (λ (q : Pair). is_kept whose q.name) ps) ≡ own_fields whose (pairs_of ps)
        → pairs_of (if b then p ∷ filter (λ (q : Pair). is_kept whose q.name) ps else filter (λ (q : Pair). is_kept whose q.name) ps)
        ≡ (if b then pair p.name (tree p.value) (own_fields whose (pairs_of ps)) else own_fields whose (pairs_of ps))
    at true same = ap (pair p.name (tree p.value)) same
    at false same = same

-- what is left nests no deeper
pub own-levels : (whose : Whose) (ps : Pairs) → pairs_levels (own_fields whose ps) ≤ pairs_levels ps
own-levels whose no_pairs = omega arith
own-levels whose (pair name t ps) = at (is_kept whose name) (own-levels whose ps)
  where
    at : (b : Bool) → pairs_levels (own_fields whose ps) ≤ pairs_levels ps
        → pairs_levels (if b then pair name t (own_fields whose ps) else own_fields whose ps) ≤ max (levels t) (pairs_levels ps)
    at true later = omega (arith, later)
    at false later = omega (arith, later)

pub entry-levels : (whose : Whose) (t : Tree) → levels (kept_entry whose t) ≤ levels t
entry-levels whose (document ps) = omega (arith, own-levels whose ps)
entry-levels whose (scalar s) = omega arith
entry-levels whose (array ts) = omega arith

entries-levels : (whose : Whose) (ts : Items) → items_levels (kept_entries whose ts) ≤ items_levels ts
entries-levels whose no_items = omega arith
entries-levels whose (item t ts) = omega (arith, entry-levels whose t, entries-levels whose ts)

pub array-levels : (whose : Whose) (t : Tree) → levels (kept_array whose t) ≤ levels t
array-levels whose (array ts) = omega (arith, entries-levels whose ts)
array-levels whose (scalar s) = omega arith
array-levels whose (document ps) = omega arith

-- ---- entries, one after the other

-- those from a place on without the fields that aren't the database's own
abbrev pub kept_from : Whose → ℕ → Items → Items
kept_from whose zero ts = kept_entries whose ts
kept_from whose (suc i) no_items = no_items
kept_from whose (suc i) (item t ts) = item t (kept_from whose i ts)

pub item_there : (ts : Items) (i : ℕ) → i < items_len ts → (t : Tree) × (item_at ts i ≡ Some t)
item_there no_items i h = absurd (omega arith)
item_there (item t ts) zero h = (t, refl)
item_there (item t ts) (suc i) h = item_there ts i (omega arith)

pub one_kept : (whose : Whose) (ts : Items) (i : ℕ) (t : Tree) → item_at ts i ≡ Some t
    → kept_from whose (suc i) (with_item ts i (kept_entry whose t)) ≡ kept_from whose i ts
one_kept whose no_items i t e = absurd cc
one_kept whose (item u ts) zero t e =
    let same : t ≡ u = cc in ap (λ (v : Tree). item (kept_entry whose v) (kept_entries whose ts)) same
one_kept whose (item u ts) (suc i) t e = ap (item u) (one_kept whose ts i t e)

pub all_kept : (whose : Whose) (ts : Items) (i : ℕ) → items_len ts ≤ i → kept_from whose i ts ≡ ts
all_kept whose no_items zero h = refl
all_kept whose no_items (suc i) h = refl
all_kept whose (item t ts) zero h = absurd (omega arith)
all_kept whose (item t ts) (suc i) h = ap (item t) (all_kept whose ts i (omega arith))

pub items_len-with_item : (ts : Items) (i : ℕ) (t : Tree) → items_len (with_item ts i t) ≡ items_len ts
items_len-with_item no_items i t = refl
items_len-with_item (item u ts) zero t = refl
items_len-with_item (item u ts) (suc i) t = ap suc (items_len-with_item ts i t)
