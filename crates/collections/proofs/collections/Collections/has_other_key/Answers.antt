use Rattle.std.proofs.Common.{◌≡◌, ◌||◌, List, ℕ, Err, Ok, refl, sym, subst, ◌∙◌}
use Rattle.std.specs.List.{list_any}
use Rattle.std.specs.Option.{option_map}
use Rattle.std.proofs.lemmas.Result.{err_from_is_err_and}
use Rattle.btree.specs.Scan.{entry_in}
use Rattle.btree.specs.declared.scanning.Range.{Range}
use Rattle.entries.specs.OtherKeys.{IsEndOf, leaves_another, puts_another}
use Rattle.path.specs.declared.refusal.Refusal.TheVariants as refusals
use Rattle.collections.specs.OtherKeys.{TellsOtherKey}
use Rattle.collections.specs.Lookups.{IsBatchOf, IsInTree}
use Rattle.collections.proofs.OtherKeyLemmas.{not_more, tells_other}
use Rattle.collections.proofs.ReadingLemmas.{reads_on, reads_refused}
use Rattle.collections.proofs.collections.Collections.has_other_key.Goals as goal

pub returns-in_err-batch : goal.returns-in_err-batch
returns-in_err-batch g c =
    let range : Range = record { from = c.deref-2.result; to = c.as_deref.result; limit = 18446744073709551615 } in
    let p = err_from_is_err_and c.from_residual-in_err-batch.result c.from_residual-in_err-batch.ensures.1 in
    rw (p.1, p.2)
    (reads_refused g.D.Disk.history (IsInTree (IsBatchOf range))
    (TellsOtherKey c.args.edits.now c.args.number c.args.index c.args.key.now c.args.id.now) c.args.self.now c.entries_in.new.self c.in_err-batch.field-0.0
    c.in_err-batch.ensures)

pub returns-then-is_some : goal.returns-then-is_some
returns-then-is_some g c =
    let range : Range = record { from = c.deref-2.result; to = c.as_deref.result; limit = 18446744073709551615 } in
    reads_on g.D.Disk.history (IsInTree (IsBatchOf range))
    (TellsOtherKey c.args.edits.now c.args.number c.args.index c.args.key.now c.args.id.now) c.args.self.now c.entries_in.new.self c.in_ok-batch.batch
    (Err refusals.StorageFailed) c.in_ok-batch.ensures
    (λ now p. absurd (not_more now range c.in_ok-batch.batch refl p (sym c.if-is_some.ensures)))

pub returns : goal.returns
returns g c =
    let range : Range = record { from = c.deref-2.result; to = c.as_deref.result; limit = 18446744073709551615 } in
    let edits = c.args.edits.now in
    let id = c.args.id.now in
    let front = c.in_ok-front.front.items in
    let batch = c.in_ok-batch.batch in
    let ends : IsEndOf front (option_map (λ b. b.now) range.to) =
    subst (IsEndOf front) (sym c.as_deref.ensures.value)
    (subst (λ (k : List ℕ). IsEndOf k (option_map (λ v. v.items) c.in_ok-end.end)) c.deref.ensures.value c.in_ok-end.ensures) in
    let told : c.tells_another.result ≡ (puts_another front id edits || list_any (λ x. leaves_another front id edits (entry_in x)) batch.entries.items) =
    c.tells_another.ensures.told
    ∙ (λ i. puts_another front id edits || list_any (λ x. leaves_another front id edits (entry_in x)) (c.deref-3.ensures.value i)) in
    reads_on g.D.Disk.history (IsInTree (IsBatchOf range))
    (TellsOtherKey edits c.args.number c.args.index c.args.key.now id) c.args.self.now c.entries_in.new.self batch
    (Ok c.tells_another.result) c.in_ok-batch.ensures
    (λ now p. subst (TellsOtherKey edits c.args.number c.args.index c.args.key.now id now) (sym told)
    (tells_other now edits c.args.number c.args.index c.args.key.now id front range batch c.tells_another.ensures.lawful.rises c.in_ok-front.ensures
    c.deref-2.ensures.value ends (sym c.if-is_some.ensures) p))
