use Rattle.std.proofs.Common.{rules, ◌≡◌, sym, ◌∙◌}
use Rattle.std.specs.List.{list_any}
use Rattle.database_model.specs.Cursors.{is_cursor}
use Rattle.cursors.specs.Held.{HeldCursor}
use Rattle.cursors.specs.TableLaws.{any_in_table}
use Rattle.cursors.proofs.cursors.Cursors.has.Goals as goal

pub returns : goal.returns
returns c =
    let p = is_cursor c.args.connection c.args.namespace.now c.args.id.now in
    let found : c.is_in.result ≡ list_any (λ (h : HeldCursor). p h.cursor) c.args.self.now.list = search rules in
    found ∙ sym (any_in_table c.args.self.now p)
