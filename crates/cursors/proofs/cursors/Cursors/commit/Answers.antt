use Rattle.std.proofs.Common.{◌≡◌, ap, ◌∙◌, arith}
use Rattle.std.specs.Vec.{with_items}
use Rattle.std.proofs.lemmas.Grind.{common_steps}
use Rattle.cursors.specs.Held.{Held, table_of}
use Rattle.cursors.specs.Changes.{all_at_rest}
use Rattle.cursors.specs.TableLaws.{rested_in_table}
use Rattle.cursors.proofs.cursors.Cursors.commit.Goals as goal

pub returns-clause-table : goal.returns-clause-table
returns-clause-table c =
    let new : Held = record { list = (with_items c.self.inside.list c.rest_all.new.cursors).items; next = c.self.inside.next } in
    let whole : new ≡ all_at_rest c.args.self.now = grind (arith, common_steps) in
    ap table_of whole ∙ rested_in_table c.args.self.now
