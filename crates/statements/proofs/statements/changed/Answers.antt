use Rattle.std.proofs.Common.{◌≢◌, sym, ◌∙◌}
use Rattle.update.specs.View.{update_of}
use Rattle.statements.proofs.Applied.{applied, other_bytes, is_change, same_document}
use Rattle.statements.proofs.statements.changed.Goals as goal

pub is_same-requires-clause-b : goal.is_same-requires-clause-b
is_same-requires-clause-b c = (applied (update_of c.args.change.now) c.args.document.now c.in_ok-new.new c.in_ok-new.ensures).size

pub returns-then-same-clause-none : goal.returns-then-same-clause-none
returns-then-same-clause-none c =
    same_document
    (update_of c.args.change.now) c.args.document.now c.in_ok-new.new c.requires.size c.in_ok-new.ensures c.pairs.ensures.lawful c.pairs-2.ensures.lawful
    (sym c.in_ok-same.ensures ∙ c.if-same.true)

pub returns-clause-some : goal.returns-clause-some
returns-clause-some c =
    is_change (update_of c.args.change.now) c.args.document.now c.in_ok-new.new c.requires.size c.in_ok-new.ensures c.pairs.ensures.lawful
    c.pairs-2.ensures.lawful (sym c.in_ok-same.ensures ∙ c.if-same.false)

pub returns-then-has_other_value-clause-some : goal.returns-then-has_other_value-clause-some
returns-then-has_other_value-clause-some c =
    let u = update_of c.args.change.now in
    let other : c.args.document.now ≢ c.in_ok-new.new =
    λ same. c.has_other_value.ensures c.if-has_other_value.true (c.pairs.ensures.pairs ∙ same ∙ sym c.pairs-2.ensures.pairs) in
    is_change u c.args.document.now c.in_ok-new.new c.requires.size c.in_ok-new.ensures c.pairs.ensures.lawful c.pairs-2.ensures.lawful
    (other_bytes u c.args.document.now c.in_ok-new.new c.requires.size c.in_ok-new.ensures c.pairs.ensures.lawful c.pairs-2.ensures.lawful other)
