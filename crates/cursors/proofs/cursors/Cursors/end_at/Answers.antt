use Rattle.std.proofs.Common.{rules, ◌≡◌, ap, ◌∙◌}
use Rattle.cursors.specs.Held.{Held, table_of}
use Rattle.cursors.specs.Changes.{without}
use Rattle.cursors.specs.TableLaws.{removed_in_table}
use Rattle.cursors.proofs.cursors.Cursors.end_at.Goals as goal

pub returns-clause-table : goal.returns-clause-table
returns-clause-table c =
    let new : Held = record { list = c.remove-cursor.new.self.items; next = c.self.inside.next } in
    let whole : new ≡ without c.args.self.now c.args.at = search rules in
    ap table_of whole ∙ removed_in_table c.args.self.now c.args.at
