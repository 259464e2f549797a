use Rattle.std.proofs.Common.{◌≡◌, ◌-◌, ◌∷◌, ℕ, List, Bool, length, map, take, drop, sym, ap, ◌∙◌}
use Rattle.std.proofs.lemmas.Simd.{map-map}
use Rattle.page.specs.Content.{Item, item_keys, rise, rise_above}
use Rattle.page.specs.Format.{item_in, items_at}
use Rattle.page.proofs.ReadLemmas.{slice_same}
use Rattle.page.proofs.leaves.cells_rise.Goals as goal

judged : (bytes places rest : List ℕ) (first : ℕ) (item : Item) (ascend : Bool) → places ≡ first ∷ rest
    → item ≡ item_in (take (length bytes - first) (drop first bytes))
    → ascend ≡ rise_above item.key (map (λ at. (item_in (drop at bytes)).key) rest) → ascend ≡ rise (item_keys (items_at bytes places))
judged bytes places rest first item ascend split is found =
    found
    ∙ ap (λ (x : Item). rise_above x.key (map (λ at. (item_in (drop at bytes)).key) rest)) (is ∙ ap item_in (slice_same first bytes))
    ∙ ap (rise_above (item_in (drop first bytes)).key) (sym (map-map (λ item. item.key) (λ at. item_in (drop at bytes)) rest))
    ∙ ap (λ (l : List ℕ). rise (item_keys (items_at bytes l))) (sym split)

pub returns : goal.returns
returns c =
    judged c.args.bytes.now c.args.places.now c.in-Some.rest.now c.in-Some.first.now _ c.keys_rise.result c.in-Some.ensures.cases.0 c.leaf_cell.ensures
    c.keys_rise.ensures
