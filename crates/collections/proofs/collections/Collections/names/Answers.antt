use Rattle.std.proofs.Common.{◌≡◌, map, Err, ◌∙◌, ap, refl, subst, sym, Some}
use Rattle.std.proofs.lemmas.Result.{err_from_is_err_and}
use Rattle.btree.specs.declared.scanning.Range.{Range}
use Rattle.path.specs.declared.refusal.Refusal.TheVariants as refusals
use Rattle.collections.specs.Lookups.{AreEach, IsBatchOf, IsInTree, IsOfCollection, name_in, name_of}
use Rattle.collections.proofs.FoundLemmas.{named, not_more}
use Rattle.collections.proofs.ReadingLemmas.{reads_on, reads_refused}
use Rattle.collections.proofs.collections.Collections.names.Goals as goal

pub returns-in_err-batch : goal.returns-in_err-batch
returns-in_err-batch g c =
    let range : Range = record { from = c.deref.result; to = Some c.deref-2.result; limit = 1000 } in
    let p = err_from_is_err_and c.from_residual-in_err-batch.result c.from_residual-in_err-batch.ensures.1 in
    rw (p.1, p.2)
    (reads_refused g.D.Disk.history (IsInTree (IsBatchOf range))
    (λ now names. map name_of names.items ≡ map name_in now) c.args.self.now c.entries_in.new.self c.in_err-batch.field-0.0 c.in_err-batch.ensures)

pub returns-then-is_some : goal.returns-then-is_some
returns-then-is_some g c =
    let range : Range = record { from = c.deref.result; to = Some c.deref-2.result; limit = 1000 } in
    reads_on g.D.Disk.history (IsInTree (IsBatchOf range))
    (λ now names. map name_of names.items ≡ map name_in now) c.args.self.now c.entries_in.new.self c.in_ok-batch.batch
    (Err refusals.StorageFailed) c.in_ok-batch.ensures
    (λ now p. absurd
    (not_more now range c.in_ok-batch.batch (c.deref.ensures.value ∙ c.in_ok-from.ensures) (ap Some (c.deref-2.ensures.value ∙ c.in_ok-to.ensures)) refl p
    (sym c.if-is_some.ensures)))

pub returns : goal.returns
returns g c =
    let range : Range = record { from = c.deref.result; to = Some c.deref-2.result; limit = 1000 } in
    reads_on g.D.Disk.history (IsInTree (IsBatchOf range))
    (λ now names. map name_of names.items ≡ map name_in now) c.args.self.now c.entries_in.new.self c.in_ok-batch.batch c.names_at.result c.in_ok-batch.ensures
    (λ now p. c.names_at.ensures now (subst (λ es. AreEach IsOfCollection es now) (sym c.deref-3.ensures.value)
    (named now range c.in_ok-batch.batch (c.deref.ensures.value ∙ c.in_ok-from.ensures) (ap Some (c.deref-2.ensures.value ∙ c.in_ok-to.ensures)) refl p
    (sym c.if-is_some.ensures))))
