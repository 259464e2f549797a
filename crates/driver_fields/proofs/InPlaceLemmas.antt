-- What stands at a place, and how deep it nests.
use Rattle.std.proofs.Common.{◌≡◌, ℕ, zero, suc, ◌<◌, ◌≤◌, List, Some, None, ap, sym, ◌∙◌, arith}
use Rattle.std.specs.Option.{option_map}
use Rattle.bson.specs.Edits.{pairs_len, place, pair_at, item_at}
use Rattle.bson.specs.EditsLaws.{place-there, place-absent}
use Rattle.bson.specs.Lookup.{lookup}
use Rattle.bson.specs.Lawful.{levels, pairs_levels, items_levels}
use Rattle.bson.specs.Tree.{Tree, Pairs, no_pairs, pair, Items, no_items, item}

pub pair_at-levels : (ps : Pairs) (i : ℕ) (t : Tree) → option_map (λ (p : List ℕ × Tree). p.1) (pair_at ps i) ≡ Some t → levels t ≤ pairs_levels ps
pair_at-levels no_pairs i t e = absurd cc
pair_at-levels (pair name u ps) zero t e = let same : u ≡ t = cc in omega (arith, ap levels same)
pair_at-levels (pair name u ps) (suc i) t e = omega (arith, pair_at-levels ps i t e)

pub item_at-levels : (ts : Items) (i : ℕ) (t : Tree) → item_at ts i ≡ Some t → levels t ≤ items_levels ts
item_at-levels no_items i t e = absurd cc
item_at-levels (item u ts) zero t e = let same : u ≡ t = cc in omega (arith, ap levels same)
item_at-levels (item u ts) (suc i) t e = omega (arith, item_at-levels ts i t e)

-- a name that has no place is not found, and one that has is, at that place
pub not_there : (ps : Pairs) (name : List ℕ) → place ps name ≡ None → lookup ps name ≡ None
not_there ps name e = (place-absent ps name e).1

pub found_there : (ps : Pairs) (name : List ℕ) (i : ℕ) → place ps name ≡ Some i
    → ((t : Tree) → option_map (λ (p : List ℕ × Tree). p.1) (pair_at ps i) ≡ Some t → lookup ps name ≡ Some t) × (i < pairs_len ps)
found_there ps name i e =
    let there = place-there ps name i e in
    let second = ap (option_map (λ (p : List ℕ × Tree). p.1)) there.1 in
    (λ t is. there.2 ∙ sym second ∙ is, there.3)
