use Rattle.std.proofs.Common.{rules, List, sym, subst, ◌∙◌}
use Rattle.std.proofs.lemmas.Result.{err_from_is_err_and}
use Rattle.tree_model.specs.Keys.{Edit}
use Rattle.entry_model.specs.Documents.{AddsCollection}
use Rattle.path.specs.declared.refusal.Refusal.TheVariants as refusals
use Rattle.database_model.specs.Create.{created}
use Rattle.engine.specs.View.{world}
use Rattle.engine.proofs.MakingLemmas.{makes_none}
use Rattle.engine.proofs.NewCollections.{created_refused, created_unread, exists_some, made_leads, made_written, no_number}
use Rattle.engine.proofs.OnlyReading.{reads_on}
use Rattle.engine.proofs.PlannedLemmas.{created_lawful}
use Rattle.std.proofs.Common.{inl, inr, refl}
use Rattle.engine.proofs.engine.Engine.make_collection.Goals as goal

pub returns-in_err-number_of : goal.returns-in_err-number_of
returns-in_err-number_of g c =
    let p = err_from_is_err_and c.from_residual.result c.from_residual.ensures.1 in
    rw (p.1, p.2)
    (created_unread g.D.Disk.history c.args.namespace.now c.args.self.now c.number_of.new.self c.in_err-number_of.field-0.0 c.in_err-number_of.ensures)

pub returns-then-is_some : goal.returns-then-is_some
returns-then-is_some g c =
    exists_some g.D.Disk.history c.args.namespace.now c.args.self.now c.number_of.new.self c.in_ok-number_of.field-0
    (sym c.is_some.ensures ∙ c.if-is_some.true) c.in_ok-number_of.ensures

pub returns-in_err-number : goal.returns-in_err-number
returns-in_err-number g c =
    let p = err_from_is_err_and c.from_residual-in_err-number.result c.from_residual-in_err-number.ensures.1 in
    let history = g.D.Disk.history in
    let first = no_number history c.args.namespace.now c.args.self.now c.number_of.new.self c.in_ok-number_of.field-0
    (sym c.is_some.ensures ∙ c.if-is_some.false) c.in_ok-number_of.ensures in
    rw (p.1, p.2)
    (created_refused history c.args.namespace.now c.args.self.now c.number_of.new.self first c.new_number.new.self c.in_err-number.field-0.0
    c.in_err-number.ensures.tries)

pub returns-in_err-put_collection : goal.returns-in_err-put_collection
returns-in_err-put_collection g c =
    let p = err_from_is_err_and c.from_residual-in_err-put_collection.result c.from_residual-in_err-put_collection.ensures.1 in
    let history = g.D.Disk.history in
    rw (p.1, p.2)
    (makes_none history (created (world c.args.self.now).collections c.args.namespace.now) c.args.self.now c.new_number.new.self refusals.OutOfMemory
    (reads_on history c.args.self.now c.number_of.new.self c.new_number.new.self c.in_ok-number_of.ensures.reads c.in_ok-number.ensures.tries.reads)
    (λ k. inr (inl refl)))

pub write-requires : goal.write-requires
write-requires g c κs within =
    let history = g.D.Disk.history in
    let first = no_number history c.args.namespace.now c.args.self.now c.number_of.new.self c.in_ok-number_of.field-0
    (sym c.is_some.ensures ∙ c.if-is_some.false) c.in_ok-number_of.ensures in
    let sound = c.in_ok-number.ensures.tries.reads.sound in
    let adds = subst
    (λ (es : List Edit). AddsCollection es c.put_collection.new.self c.args.namespace.now c.in_ok-number.number) c.new-edits.ensures
    c.in_ok-put_collection.ensures.leads in (
      search rules,
      (
        search rules,
        (
          sound,
          (
            created_lawful (world c.new_number.new.self).collections c.args.namespace.now sound.lawful c.requires.short,
            made_leads history c.args.namespace.now c.args.self.now c.number_of.new.self first c.new_number.new.self c.in_ok-number.number
                c.in_ok-number.ensures.tries c.put_collection.new.self adds,
          ),
        ),
      ),
    )

pub returns : goal.returns
returns g c =
    let history = g.D.Disk.history in
    let first = no_number history c.args.namespace.now c.args.self.now c.number_of.new.self c.in_ok-number_of.field-0
    (sym c.is_some.ensures ∙ c.if-is_some.false) c.in_ok-number_of.ensures in
    made_written history c.args.namespace.now c.args.self.now c.number_of.new.self first c.new_number.new.self c.in_ok-number.number
    c.in_ok-number.ensures.tries c.write.result c.write.new.self c.write.ensures
