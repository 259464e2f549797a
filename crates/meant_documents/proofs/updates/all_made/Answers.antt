use Rattle.std.proofs.Common.{◌+◌, ◌++◌, List, drop, sym, ap, ◌∙◌, append_assoc}
use Rattle.std.proofs.lemmas.List.{append-nil, drop_all}
use Rattle.bson.specs.Tree.{Pairs}
use Rattle.command_model.specs.Update.{UpdateStatement}
use Rattle.database_model.specs.Merging.{made_by, made_of}
use Rattle.replies.proofs.Steps.{drop_step}
use Rattle.meant_documents.proofs.updates.all_made.Goals as goal

pub statements-preserved : goal.statements-preserved
statements-preserved c =
    let ss = c.args.statements.now in
    let i = c.statements.statement-index in
    let s = c.statement-item.result in
    let rest = made_by (drop (i + 1) ss) in
    let before = c.statements.made.items in
    ap (λ (ds : List Pairs). ds ++ rest) c.in_ok-add_made.ensures.ok ∙ append_assoc before (made_of s) rest
    ∙ ap (λ (xs : List UpdateStatement). before ++ made_by xs) (sym (drop_step ss i s c.statements-test.true c.statement-item.is)) ∙ c.statements.invariant

pub returns-clause-ok : goal.returns-clause-ok
returns-clause-ok c =
    let ss = c.args.statements.now in
    let i = c.statements.statement-index in
    sym (append-nil c.statements.made.items)
    ∙ ap (λ (xs : List UpdateStatement). c.statements.made.items ++ made_by xs) (sym (drop_all i ss c.statements-test.false)) ∙ c.statements.invariant
