use Rattle.std.proofs.Common.{◌≡◌, Result, Err, Vec, sym, subst, rules}
use Rattle.std.specs.Prelude.{String}
use Rattle.std.specs.Global.{Global}
use Rattle.engine.specs.declared.check_fault.CheckFault.{CheckFault}
use Rattle.trusted_disk.specs.Trusting.{trusted_history}
use Rattle.server.specs.Dump.{Dumps}
use Rattle.server.proofs.Dumping.{not_begun, all_listed}
use Rattle.server.proofs.turn.Core.dump.Goals as goal

abbrev Listed : Type 0
Listed = Result (Vec (String Global) Global) CheckFault

pub returns-in_err-walk-clause-dumps : goal.returns-in_err-walk-clause-dumps
returns-in_err-walk-clause-dumps g c =
    let history = trusted_history g.D.Disk.history in
    let is : c.from_residual.result ≡ Err c.in_err-walk.field-0.0 = search rules in
    subst (λ (r : Listed). Dumps history c.args.namespace.now r c.args.self.now.engine c.begin_dump.new.self.engine) (sym is)
    (not_begun history c.args.namespace.now c.args.self.now.engine c.in_err-walk.field-0.0 c.begin_dump.new.self.engine c.in_err-walk.ensures.begins)

pub returns-clause-dumps : goal.returns-clause-dumps
returns-clause-dumps g c =
    all_listed (trusted_history g.D.Disk.history) c.args.namespace.now c.args.self.now.engine c.in_ok-walk.walk c.begin_dump.new.self.engine
    c.list_rest.new.self.engine c.in_ok-walk.ensures.begins c.list_rest.result c.list_rest.ensures.lists
