use Rattle.std.proofs.Common.{◌≡◌, ℕ, ◌+◌, ◌<◌, List, Option, map, length}
use Rattle.tree_model.specs.Keys.{Each}
use Rattle.btree.specs.Loose.{IsEnough, IsSpread, IsSlot, slots_of, slots_size}
use Rattle.btree.specs.LooseView.{slot_in}
use Rattle.tree_model.specs.Store.{Grows, KeepsWord}
use Rattle.tree_model.specs.Tree.{Body, Shows}
use Rattle.btree.specs.Turn.{MayFill}
use Rattle.btree.proofs.FewParts.{AreFewSoFar}
use Rattle.btree.proofs.RaiseLemmas.{ArePartly}
use Rattle.btree.proofs.parts.write_parts.Given as goal

abbrev pub invariant-loop-rest : goal.invariant-loop-rest
invariant-loop-rest g l = record {
  grows : Grows (g.P.Pages.store l.initial.pages) (g.P.Pages.store l.pages);
  some : 0 < length l.loose_slots → 0 < length l.above.items + length l.rest;
  few : KeepsWord (g.P.Pages.store l.pages) → Each IsSlot (map slot_in l.loose_slots)
      → AreFewSoFar (g.P.Pages.store l.initial.pages) (g.P.Pages.store l.pages) (slots_size (map slot_in l.loose_slots)) (map slot_in l.above.items)
      (map slot_in l.rest);
  partly : (d : ℕ) (low : List ℕ) (high : Option (List ℕ)) (body : Body d) → map slot_in l.loose_slots ≡ slots_of d body
      → IsEnough d (map slot_in l.loose_slots)
      → MayFill d l.fills
      → Each IsSlot (map slot_in l.loose_slots) → IsSpread d low high body → Shows (g.P.Pages.store l.initial.pages) d body
      → KeepsWord (g.P.Pages.store l.pages)
      → ArePartly (g.P.Pages.store l.initial.pages) (g.P.Pages.store l.pages) d low high body (map slot_in l.above.items) (map slot_in l.rest);
}

abbrev pub decreases-loop-rest : goal.decreases-loop-rest
decreases-loop-rest g l = length l.rest
