use Rattle.std.proofs.Common.{◌≡◌, ◌-◌, drop, length}
use Rattle.collections.specs.Picking.{IsNextKey, after, keys_of, meets}
use Rattle.collections.proofs.PickingLemmas.{ComeTo}
use Rattle.collections.proofs.picking.pass_to.Given as goal

abbrev pub invariant-texts : goal.invariant-texts
invariant-texts l =
    IsNextKey l.number l.initial.next.items (drop l.initial.passed (keys_of l.number l.texts))
    → ComeTo l.number l.key (drop l.initial.passed (keys_of l.number l.texts)) (drop l.passed (keys_of l.number l.texts)) l.next.items

abbrev pub decreases-texts : goal.decreases-texts
decreases-texts l = length l.texts - l.passed
