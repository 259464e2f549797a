use Rattle.btree.specs.Fold.{entry_at}
use Rattle.collections.specs.Picking.{picked, wanted}
use Rattle.collections.proofs.PickingLemmas.{passes_one, takes_last, takes_one}
use Rattle.collections.proofs.picking.PickingFold.take.Goals as goal

pub returns-then-not-is_met : goal.returns-then-not-is_met
returns-then-not-is_met g c = λ start all h.
    passes_one g.F.DocumentFold.makes start c.args.self.now all h (entry_at c.args.key.now c.args.value.now) c.pass_to.new.passed c.pass_to.new.next
    c.in_ok-is_met.is_met (c.in_ok-is_met.ensures h.next) c.if-not-is_met.true

pub returns-then-is_done : goal.returns-then-is_done
returns-then-is_done g c = λ start all h.
    takes_last g.F.DocumentFold.makes start c.args.self.now all h (entry_at c.args.key.now c.args.value.now) c.pass_to.new.passed c.pass_to.new.next
    c.in_ok-is_met.is_met (c.in_ok-is_met.ensures h.next) c.if-not-is_met.false c.take.new.self
    (c.in_ok-take.ensures start.lending (picked (wanted start) all)) (c.is_done.ensures c.if-is_done.true)

pub returns-else-is_done : goal.returns-else-is_done
returns-else-is_done g c = λ start all h.
    takes_one g.F.DocumentFold.makes start c.args.self.now all h (entry_at c.args.key.now c.args.value.now) c.pass_to.new.passed c.pass_to.new.next
    c.in_ok-is_met.is_met (c.in_ok-is_met.ensures h.next) c.if-not-is_met.false c.take.new.self
    (c.in_ok-take.ensures start.lending (picked (wanted start) all))
