use Rattle.std.proofs.Common.{◌≤◌, length, ap, ◌∙◌, arith}
use Rattle.std.proofs.lemmas.Grind.{common_steps}
use Rattle.cursors.specs.Held.{held_at, table_of}
use Rattle.cursors.specs.TableLaws.{ended_in_table}
use Rattle.cursors.proofs.cursors.Cursors.advance.Goals as goal

pub returns-clause-table : goal.returns-clause-table
returns-clause-table c =
    let last : length (held_at c.args.self.now c.args.at).cursor.rest ≤ c.args.count = grind (arith, common_steps) in
    ap table_of c.end_at-pinned.ensures.left ∙ ended_in_table c.args.self.now c.args.at c.args.count last
