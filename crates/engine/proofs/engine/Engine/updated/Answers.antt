use Rattle.engine.proofs.MeantLemmas.{updated_tries}
use Rattle.engine.proofs.engine.Engine.updated.Goals as goal

pub returns-clause-tries : goal.returns-clause-tries
returns-clause-tries g c =
    updated_tries g.D.Disk.history c.args.namespace.now c.args.statements.now c.args.self.now c.meant.new.self c.in_ok-meant.meant c.in_ok-meant.ensures.tries
    c.requires.sound c.requires.read c.in_ok-run_on.field-0 c.in_ok-run_on.ensures
