use Rattle.std.proofs.Common.{rules, ◌≡◌, sym, ◌∙◌}
use Rattle.std.specs.List.{position}
use Rattle.database_model.specs.Cursors.{is_cursor}
use Rattle.cursors.specs.Held.{HeldCursor}
use Rattle.cursors.specs.TableLaws.{place_in_table}
use Rattle.cursors.proofs.cursors.Cursors.place_of.Goals as goal

pub returns : goal.returns
returns c =
    let p = is_cursor c.args.connection c.args.namespace.now c.args.id.now in
    let found : c.place_in.result ≡ position (λ (h : HeldCursor). p h.cursor) c.args.self.now.list = search rules in
    found ∙ sym (place_in_table c.args.self.now p)
