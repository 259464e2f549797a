use Rattle.std.proofs.Common.{refl}
use Rattle.entries.proofs.IndexMakingLaws.{begins}
use Rattle.entries.proofs.making.NewEntries.new.Goals as goal

pub returns-clause-begins : goal.returns-clause-begins
returns-clause-begins c =
    begins c.args.number c.args.index (record { number = c.args.number; index = c.args.index; entries = c.new.result }) refl refl c.new.ensures
