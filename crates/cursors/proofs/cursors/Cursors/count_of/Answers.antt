use Rattle.std.proofs.Common.{rules, ◌≡◌, length, sym, ◌∙◌}
use Rattle.std.specs.Prelude.{Bool, ◌==◌}
use Rattle.std.specs.List.{filter}
use Rattle.database_model.specs.World.{Cursor}
use Rattle.cursors.specs.Held.{HeldCursor}
use Rattle.cursors.specs.TableLaws.{count_in_table}
use Rattle.cursors.proofs.cursors.Cursors.count_of.Goals as goal

pub returns : goal.returns
returns c =
    let p : Cursor → Bool = λ x. x.connection == c.args.connection in
    let found : c.count_in.result ≡ length (filter (λ (h : HeldCursor). p h.cursor) c.args.self.now.list) = search rules in
    found ∙ sym (count_in_table c.args.self.now p)
