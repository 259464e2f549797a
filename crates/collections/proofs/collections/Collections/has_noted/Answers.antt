use Rattle.std.proofs.Common.{Ok, ◌∙◌, sym}
use Rattle.std.specs.Prelude.{is_some, unwrap_or}
use Rattle.std.specs.Option.{option_map}
use Rattle.entries.specs.EditList.{edit_at}
use Rattle.std.proofs.lemmas.Result.{err_from_is_err_and}
use Rattle.collections.specs.OtherKeys.{TellsDocument}
use Rattle.collections.specs.Lookups.{IsInTree, IsValueAt}
use Rattle.collections.proofs.OtherKeyLemmas.{tells_noted}
use Rattle.collections.proofs.ReadingLemmas.{reads_on, reads_refused}
use Rattle.collections.proofs.collections.Collections.has_noted.Goals as goal

pub returns-in_err-found : goal.returns-in_err-found
returns-in_err-found g c =
    let p = err_from_is_err_and c.from_residual-in_err-found.result c.from_residual-in_err-found.ensures.1 in
    rw (p.1, p.2)
    (reads_refused g.D.Disk.history (IsInTree (IsValueAt c.deref.result.now))
    (TellsDocument c.args.edits.now c.args.number c.args.id.now) c.args.self.now c.value_at.new.self c.in_err-found.field-0.0 c.in_err-found.ensures)

pub returns : goal.returns
returns g c =
    reads_on g.D.Disk.history (IsInTree (IsValueAt c.deref.result.now))
    (TellsDocument c.args.edits.now c.args.number c.args.id.now) c.args.self.now c.value_at.new.self c.in_ok-found.found
    (Ok c.unwrap_or.result) c.in_ok-found.ensures
    (λ now p. tells_noted now c.args.edits.now c.args.number c.args.id.now c.deref.result.now c.in_ok-found.found c.unwrap_or.result c.puts_at.ensures.rises
    (c.deref.ensures.value ∙ c.in_ok-key.ensures)
    (c.unwrap_or.ensures ∙ (λ i. unwrap_or (c.puts_at.ensures.told i) (c.is_some.ensures i))
    ∙ (λ i. unwrap_or (option_map is_some (edit_at ((c.deref-2.ensures.value ∙ sym c.deref.ensures.value) i) c.args.edits.now)) (is_some c.in_ok-found.found)))
    p)
