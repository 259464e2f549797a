use Rattle.std.proofs.Common.{◌≡◌, ◌+◌, ◌<◌, [], arith, length, take, Ok, Err, ◌∙◌, ap, refl, Some, Vec}
use Rattle.std.specs.Global.{Global}
use Rattle.std.specs.Option.{option_map}
use Rattle.std.proofs.lemmas.List.{length-take}
use Rattle.std.proofs.lemmas.Result.{err_from_is_err_and}
use Rattle.btree.specs.declared.scanning.Entry.{Entry}
use Rattle.btree.specs.declared.scanning.Range.{Range}
use Rattle.entry_model.specs.StateEntries.{key_under}
use Rattle.path.specs.declared.refusal.Refusal.TheVariants as refusals
use Rattle.collections.specs.Lookups.{IsBatchOf, IsInTree}
use Rattle.collections.specs.Walk.{HasNext, IsWalk}
use Rattle.collections.specs.declared.walk.Walk.{Walk}
use Rattle.collections.proofs.ReadingLemmas.{asks_refused}
use Rattle.collections.proofs.WalkLemmas.{has_room, next_walk, steps_on}
use Rattle.collections.proofs.collections.Collections.next_batch.Goals as goal

pub returns-in_err-batch-clause-reads : goal.returns-in_err-batch-clause-reads
returns-in_err-batch-clause-reads g c =
    let walk = c.args.walk.now in
    let range : Range = record { from = c.deref.result; to = Some c.deref-2.result; limit = c.args.limit } in
    let p = err_from_is_err_and c.from_residual-in_err-batch.result c.from_residual-in_err-batch.ensures.1 in
    rw (p.1, p.2)
    (asks_refused g.D.Disk.history (λ now rest. IsWalk now walk rest)
    (λ now rest (batch : Vec Entry Global). HasNext c.args.limit walk now rest batch.items) c.args.self.now c.entries_in.new.self
    (IsInTree (IsBatchOf range)) c.in_err-batch.field-0.0 c.in_err-batch.ensures)

pub returns-in_default-checked_sub-clause-reads : goal.returns-in_default-checked_sub-clause-reads
returns-in_default-checked_sub-clause-reads g c =
    let walk = c.args.walk.now in
    let range : Range = record { from = c.deref.result; to = Some c.deref-2.result; limit = c.args.limit } in
    let from : range.from.now ≡ c.in-Some.from.items = c.deref.ensures.value in
    let to : option_map (λ b. b.now) range.to ≡ Some (key_under walk.number 1 []) = ap Some (c.deref-2.ensures.value ∙ c.in_ok-to.ensures) in
    let batch = c.in_ok-batch.batch in
    let count = length batch.entries.items in
    let no_room : walk.left < count = omega (arith, c.in_default-checked_sub.ensures, c.len.ensures, batch.entries.ok.0) in
    steps_on g.D.Disk.history
    (λ now rest (batch : Vec Entry Global). HasNext c.args.limit walk now rest batch.items) c.args.self.now c.entries_in.new.self walk c.in-Some.from
    c.in-Some.is range from to c.requires batch (Err refusals.StorageFailed) c.in_ok-batch.ensures
    (λ now rest w each step.
    let length_is : length (take count rest) ≡ count = omega (arith, length-take count rest, step.few) in
    absurd (has_room now walk rest w c.args.limit count batch.next step (take count rest) refl (omega (arith, length_is, no_room))))

pub returns-clause-reads : goal.returns-clause-reads
returns-clause-reads g c =
    let walk = c.args.walk.now in
    let range : Range = record { from = c.deref.result; to = Some c.deref-2.result; limit = c.args.limit } in
    let from : range.from.now ≡ c.in-Some.from.items = c.deref.ensures.value in
    let to : option_map (λ b. b.now) range.to ≡ Some (key_under walk.number 1 []) = ap Some (c.deref-2.ensures.value ∙ c.in_ok-to.ensures) in
    let batch = c.in_ok-batch.batch in
    let count = length batch.entries.items in
    let left = c.in-Some-checked_sub.left in
    let sum : left + count ≡ walk.left = omega (arith, c.in-Some-checked_sub.ensures.0, c.in-Some-checked_sub.ensures.1, c.len.ensures, batch.entries.ok.0) in
    let after : Walk = record { number = walk.number; next = batch.next; left = left } in
    steps_on g.D.Disk.history
    (λ now rest (batch : Vec Entry Global). HasNext c.args.limit after now rest batch.items) c.args.self.now c.entries_in.new.self walk c.in-Some.from
    c.in-Some.is range from to c.requires batch (Ok batch.entries) c.in_ok-batch.ensures
    (λ now rest w each step.
    let length_is : length (take count rest) ≡ count = omega (arith, length-take count rest, step.few) in
    (each, next_walk now walk rest w c.args.limit count batch.next step (take count rest) refl left (omega (arith, length_is, sum))))
