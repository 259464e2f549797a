use Rattle.std.proofs.Common.{◌+◌, Bool, sym, subst}
use Rattle.std.specs.Global.{Vec}
use Rattle.engine.proofs.NumberingLemmas.{AreMarkedTo, marks_all, marks_none, marks_one, marks_other}
use Rattle.engine.proofs.numbering.used_numbers.Goals as goal
use Rattle.engine.proofs.numbering.used_numbers.Goals.{then-number-le-MOST_COLLECTIONS, else-number-le-MOST_COLLECTIONS}

pub names-init : goal.names-init
names-init c = marks_none c.args.names.now c.in_ok-used.used.items (c.in_ok-used.ensures.items_if_clones_equal (λ y is. is))

pub names-preserved : goal.names-preserved
names-preserved c =
    let i = c.names.name-index in
    let names = c.args.names.now in
    let name = c.name-item.result in
    let far : AreMarkedTo names i c.names.used.items = c.names.invariant in
    elim c.if-number-le-MOST_COLLECTIONS.branch [
      | then-number-le-MOST_COLLECTIONS w ↦
          subst (λ (v : Vec Bool). AreMarkedTo names (i + 1) v.items) (sym w.used-is)
          (marks_one names i name c.names.used.items c.names-test.true c.name-item.is far w.if-number-le-MOST_COLLECTIONS.true)
      | else-number-le-MOST_COLLECTIONS w ↦
          subst (λ (v : Vec Bool). AreMarkedTo names (i + 1) v.items) (sym w.used-is)
          (marks_other names i name c.names.used.items c.names-test.true c.name-item.is far w.if-number-le-MOST_COLLECTIONS.false)
    ]

pub returns : goal.returns
returns c = marks_all c.args.names.now c.names.name-index c.names.used.items c.names-test.false c.names.invariant
