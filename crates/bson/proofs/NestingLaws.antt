-- What is kept beside an array's items stays right as the array changes.
use Rattle.std.proofs.Common.{◌≡◌, ℕ, zero, suc, ◌+◌, ◌<◌, List, [], ◌∷◌, ◌++◌, length, get_or, set, take, Some, refl, sym, ap, subst, ◌∙◌, arith}
use Rattle.std.specs.Prelude.{◌^◌, ◌≤◌}
use Rattle.std.proofs.lemmas.List.{length-take, take_more}
use Rattle.bson.specs.Tree.{Tree, Items, no_items, item, append_items}
use Rattle.bson.specs.View.{tree, items_of}
use Rattle.bson.specs.Lawful.{levels, items_levels, IsTree, IsArray, HoldsArray}
use Rattle.bson.specs.Edits.{items_len, item_at, with_item}
use Rattle.bson.specs.EditPlaces.{items_len-append}
use Rattle.bson.specs.EditsLaws.{items_of-push, items_len-items_of, IsArray-with_item}
use Rattle.bson.specs.Depths.{one_at, items_at, Counts}
use Rattle.bson.specs.Overview.{nested, CountsItems, FitsItems}
use Rattle.bson.specs.declared.depths.Depths.{Depths}
use Rattle.bson.specs.declared.nesting.Nesting.{Nesting}
use Rattle.bson.specs.declared.value.Value.{Value}
use Rattle.bson.proofs.BuildLaws.{items_set, item_there, HoldsArray-edit}
use Rattle.bson.proofs.DepthLaws.{items_at-append, items_at-with_item, items_at-there, items_at-most}

items_len-with_item : (ts : Items) (i : ℕ) (t : Tree) → items_len (with_item ts i t) ≡ items_len ts
items_len-with_item no_items i t = refl
items_len-with_item (item u ts) zero t = refl
items_len-with_item (item u ts) (suc i) t = ap suc (items_len-with_item ts i t)

-- what `Depths` ensures where it takes in one more value, and another for one
abbrev pub Adds : Depths → Depths → ℕ → Type 0
Adds d new depth = (f g : ℕ → ℕ) → Counts d.counts f → ((l : ℕ) → g l ≡ f l + one_at depth l) → g depth < 2 ^ 64 → Counts new.counts g

abbrev pub Replaces : Depths → Depths → ℕ → ℕ → Type 0
Replaces d new a b =
    (f g : ℕ → ℕ) → Counts d.counts f → ((l : ℕ) → g l + one_at a l ≡ f l + one_at b l) → 1 ≤ f a → g b < 2 ^ 64 → Counts new.counts g

pub counts_no_items : (d : Depths) → Counts d.counts (λ _. 0) → CountsItems d no_items
counts_no_items d flat = record { counts = record { sized = flat.sized; counted = flat.counted }; few_enough = omega arith }

pub counts_one_more : (d new : Depths) (depth : ℕ) → Adds d new depth → (ts : Items) (t : Tree) → CountsItems d ts → items_len ts + 1 < 2 ^ 64
    → depth ≡ levels t → CountsItems new (append_items ts (item t no_items))
counts_one_more d new depth adds ts t counts short depth_is =
    let grown = append_items ts (item t no_items) in
    let len = items_len-append ts (item t no_items) in
    record {
      counts = adds (items_at ts) (items_at grown) counts.counts
          (λ l. items_at-append ts t l ∙ ap (λ (k : ℕ). items_at ts l + one_at k l) (sym depth_is)) (omega (arith, items_at-most grown depth, len, short));
      few_enough = omega (arith, len, short);
    }

pub counts_other : (d new : Depths) (a b : ℕ) → Replaces d new a b → (ts : Items) (i : ℕ) (u t : Tree) → CountsItems d ts → item_at ts i ≡ Some u
    → a ≡ levels u → b ≡ levels t → CountsItems new (with_item ts i t)
counts_other d new a b replaces ts i u t counts there a_is b_is =
    let len = items_len-with_item ts i t in
    record {
      counts = replaces (items_at ts) (items_at (with_item ts i t)) counts.counts
          (λ l. (λ j. items_at (with_item ts i t) l + one_at (a_is j) l) ∙ items_at-with_item ts i u t l there
          ∙ (λ j. items_at ts l + one_at (sym b_is j) l))
          (subst (λ (k : ℕ). 1 ≤ items_at ts k) (sym a_is) (items_at-there ts i u there))
          (omega (arith, items_at-most (with_item ts i t) b, len, counts.few_enough));
      few_enough = omega (arith, len, counts.few_enough);
    }

-- item after item
pub counts_next : (d new : Depths) (vs : List Value) (i : ℕ) (v : Value) (depth : ℕ) → Adds d new depth → i < length vs → v ≡ get_or vs i v
    → i + 1 < 2 ^ 64 → depth ≡ levels (tree v) → CountsItems d (items_of (take i vs)) → CountsItems new (items_of (take (i + 1) vs))
counts_next d new vs i v depth adds lt is short depth_is counts =
    let one : take (i + 1) vs ≡ take i vs ++ v ∷ [] = take_more vs i v lt ∙ ap (λ (w : Value). take i vs ++ w ∷ []) (sym is) in
    let len : items_len (items_of (take i vs)) ≡ i = omega (arith, items_len-items_of (take i vs), length-take i vs) in
    subst (CountsItems new) (sym (ap items_of one ∙ items_of-push (take i vs) v))
    (counts_one_more d new depth adds (items_of (take i vs)) (tree v) counts (omega (arith, len, short)) depth_is)

-- ---- the whole array

pub fits_one_more : (o taken new : Nesting) (vs grown : List Value) (v : Value) (depth : ℕ) → FitsItems o (items_of vs) → taken ≡ o → grown ≡ vs ++ v ∷ []
    → length vs + 1 < 2 ^ 64 → depth ≡ levels (tree v)
    → ((ts : Items) (t : Tree) → FitsItems taken ts → items_len ts + 1 < 2 ^ 64 → depth ≡ levels t → FitsItems new (append_items ts (item t no_items)))
    → FitsItems new (items_of grown)
fits_one_more o taken new vs grown v depth fits took e short deep takes =
    let fits_now = subst (λ (n : Nesting). FitsItems n (items_of vs)) (sym took) fits in
    subst (FitsItems new) (sym (ap items_of e ∙ items_of-push vs v))
    (takes (items_of vs) (tree v) fits_now (omega (arith, items_len-items_of vs, short)) deep)

pub holds_other : (o taken new : Nesting) (vs seen : List Value) (ts : Items) (at : ℕ) (old w v : Value) (old_levels new_levels : ℕ)
    → HoldsArray (nested o) (items_of vs) × FitsItems o (items_of vs)
    → taken ≡ o → items_of vs ≡ ts → at < length vs → old ≡ get_or vs at old → w ≡ v → seen ≡ set vs at w
    → IsTree (tree v) → levels (tree v) ≤ 98 → old_levels ≡ levels (tree old) → new_levels ≡ levels (tree v)
    → ((us : Items) (i : ℕ) (u t : Tree) → nested taken ≡ items_levels us → FitsItems taken us → item_at us i ≡ Some u
    → items_of seen ≡ with_item us i t → old_levels ≡ levels u → new_levels ≡ levels t → nested new ≡ items_levels (items_of seen))
    → ((us : Items) (i : ℕ) (u t : Tree) → FitsItems taken us → item_at us i ≡ Some u
    → items_of seen ≡ with_item us i t → old_levels ≡ levels u → new_levels ≡ levels t → FitsItems new (items_of seen))
    → HoldsArray (nested new) (items_of (set vs at w)) × FitsItems new (items_of (set vs at w))
holds_other o taken new vs seen ts at old w v old_levels new_levels holds took same lt is valued seen_is lawful deep old_is new_is counts fits =
    let changed = items_set vs ts at w v same valued in
    let seen_changed = ap items_of seen_is ∙ changed in
    let there = item_there vs ts at old same lt is in
    let fits_now = subst (FitsItems taken) same (subst (λ (n : Nesting). FitsItems n (items_of vs)) (sym took) holds.1) in
    let counted = ap nested took ∙ holds.0.counted ∙ ap items_levels same in
    let kept = IsArray-with_item ts at (tree v) (subst IsArray same holds.0.lawful) lawful deep in
    let deepest = counts ts at (tree old) (tree v) counted fits_now there seen_changed old_is new_is in (
      HoldsArray-edit (items_of (set vs at w)) (with_item ts at (tree v)) (nested new) changed kept
          (deepest ∙ ap (λ (xs : List Value). items_levels (items_of xs)) seen_is),
      subst (λ (xs : List Value). FitsItems new (items_of xs)) seen_is (fits ts at (tree old) (tree v) fits_now there seen_changed old_is new_is),
    )
