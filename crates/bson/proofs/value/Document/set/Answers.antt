use Rattle.std.proofs.Common.{◌≡◌, sym, subst, ◌∙◌}
use Rattle.std.proofs.lemmas.Result.{err_from_is_err_and}
use Rattle.std.specs.Prelude.{OnOk}
use Rattle.bson.specs.Tree.{Pairs}
use Rattle.bson.specs.View.{tree}
use Rattle.bson.specs.EditsLaws.{place-there, put-place, put-absent}
use Rattle.bson.proofs.BuildLaws.{set_faults, replace_fault}
use Rattle.bson.proofs.value.Document.set.Goals as goal

pub replace_at-requires : goal.replace_at-requires
replace_at-requires c = (place-there c.args.self.now c.args.name.now c.in-Some.at (sym c.in-Some.ensures)).3

pub returns-in_err-replace_at-in-Some-clause-fault : goal.returns-in_err-replace_at-in-Some-clause-fault
returns-in_err-replace_at-in-Some-clause-fault c =
    let p = err_from_is_err_and c.from_residual.result c.from_residual.ensures.1 in
    rw (p.1, p.2)
    (replace_fault c.args.self.now c.args.name.now (tree c.args.value) c.in-Some.at c.in_err-replace_at-in-Some.field-0.0
    (sym c.in-Some.ensures) c.in_err-replace_at-in-Some.ensures.fault)

pub returns-in_ok-replace_at-in-Some-clause-ok : goal.returns-in_ok-replace_at-in-Some-clause-ok
returns-in_ok-replace_at-in-Some-clause-ok c =
    c.in_ok-replace_at-in-Some.ensures.ok ∙ sym (put-place c.args.self.now c.args.name.now (tree c.args.value) c.in-Some.at (sym c.in-Some.ensures))

pub returns-in-None-clause-ok : goal.returns-in-None-clause-ok
returns-in-None-clause-ok c =
    subst (λ (ps : Pairs). OnOk c.add.result (c.add.new.self ≡ ps))
    (sym (put-absent c.args.self.now c.args.name.now (tree c.args.value) (sym c.in-None.ensures))) c.add.ensures.ok

pub returns-in-None-clause-fault : goal.returns-in-None-clause-fault
returns-in-None-clause-fault c = set_faults c.args.self.now c.args.name.now (tree c.args.value) c.add.result (sym c.in-None.ensures) c.add.ensures.fault
