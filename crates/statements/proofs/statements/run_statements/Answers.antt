use Rattle.std.proofs.lemmas.Result.{err_from_is_err_and}
use Rattle.statements.proofs.StatementLoop.{left_on, left_refused, none_left}
use Rattle.statements.proofs.statements.run_statements.Goals as goal

pub statements-init : goal.statements-init
statements-init c = none_left c.args.statements.now c.args.run.now c.requires.within

pub statements-preserved : goal.statements-preserved
statements-preserved c =
    left_on c.args.statements.now c.args.run.now c.statements.run c.statements.index c.statements.invariant c.index-statements-index.result
    c.statements-test.true c.index-statements-index.is
    c.run_statement.new.run c.in_ok-run_statement.ensures.gives c.in_ok-run_statement.ensures.wrote

pub returns-in_err-run_statement-clause-wrote : goal.returns-in_err-run_statement-clause-wrote
returns-in_err-run_statement-clause-wrote c =
    let p = err_from_is_err_and c.from_residual.result c.from_residual.ensures.1 in
    rw (p.1, p.2)
    (left_refused c.args.statements.now c.args.run.now c.statements.run c.statements.index c.statements.invariant c.index-statements-index.result
    c.statements-test.true c.index-statements-index.is
    c.run_statement.new.run c.in_err-run_statement.field-0.0 c.in_err-run_statement.ensures.gives c.in_err-run_statement.ensures.wrote)
