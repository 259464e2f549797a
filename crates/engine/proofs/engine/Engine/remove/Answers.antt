use Rattle.std.proofs.Common.{inl, inr, List, [], map, refl, rules, sym, subst, ◌∙◌}
use Rattle.std.specs.Prelude.{All, Ok}
use Rattle.std.proofs.lemmas.List.{map-id}
use Rattle.std.proofs.lemmas.Result.{err_from_is_err_and}
use Rattle.tree_model.specs.Keys.{Edit}
use Rattle.bson.specs.Tree.{Pairs}
use Rattle.engine.specs.Removing.{deleted}
use Rattle.engine.specs.TakingOut.{IsIndexable, TakesOut}
use Rattle.engine.specs.View.{world}
use Rattle.engine.proofs.Deleting.{deleted_lawful}
use Rattle.engine.proofs.MakingLemmas.{lawful_now, makes_none}
use Rattle.engine.proofs.OnlyReading.{reads_none}
use Rattle.engine.proofs.RemovingLemmas.{remove_stopped, removes_nothing, removes_written, removal_leads, taken_indexable}
use Rattle.asked_documents.proofs.AskingLemmas.{none_there, some_there}
use Rattle.engine.proofs.engine.Engine.remove.Goals as goal

pub returns-then-is_stopped-clause-makes : goal.returns-then-is_stopped-clause-makes
returns-then-is_stopped-clause-makes g c =
    remove_stopped g.D.Disk.history
    (Ok (deleted (world c.args.self.now).collections c.args.namespace.now c.args.deletions.now)) c.args.self.now c.requires.sound
    (λ k. inr (refl, inl (sym c.is_stopped.ensures ∙ c.if-is_stopped.true)))

pub returns-then-is_empty-clause-makes : goal.returns-then-is_empty-clause-makes
returns-then-is_empty-clause-makes g c =
    removes_nothing g.D.Disk.history c.args.namespace.now c.args.deletions.now c.args.self.now c.args.taken.now c.requires.sound c.requires.taken
    (none_there c.args.taken.now.removed (sym c.is_empty.ensures ∙ c.if-is_empty.true))

pub returns-in_err-note_removed-clause-makes : goal.returns-in_err-note_removed-clause-makes
returns-in_err-note_removed-clause-makes g c =
    let p = err_from_is_err_and c.from_residual.result c.from_residual.ensures.1 in
    let now = (world c.args.self.now).collections in
    let name = c.args.namespace.now in
    let ds = c.args.deletions.now in
    let taken = c.args.taken.now in
    rw (p.1, p.2)
    (makes_none g.D.Disk.history (Ok (deleted now name ds)) c.args.self.now c.args.self.now c.in_err-note_removed.field-0.0
    (reads_none g.D.Disk.history c.args.self.now c.requires.sound)
    (λ k.
    let state = lawful_now g.D.Disk.history c.args.self.now c.requires.sound k (sym c.is_stopped.ensures ∙ c.if-is_stopped.false) in
    let lent = map-id c.deref.result.now ∙ c.deref.ensures.value in
    let kept = subst (All (IsIndexable taken.home.indexes.items)) (sym lent) (taken_indexable now name ds taken (c.requires.taken k) state) in
    inr (inl (c.in_err-note_removed.ensures kept))))

pub write-requires : goal.write-requires
write-requires g c κs within =
    let now = (world c.args.self.now).collections in
    let name = c.args.namespace.now in
    let ds = c.args.deletions.now in
    let taken = c.args.taken.now in
    let some = some_there taken.removed (sym c.is_empty.ensures ∙ c.if-is_empty.false) in
    let edits = c.note_removed.new.edits in
    let number = taken.home.number in
    let indexes = taken.home.indexes.items in
    let lent = map-id c.deref.result.now ∙ c.deref.ensures.value in
    let takes : TakesOut [] edits number indexes taken.removed.items =
    subst (λ (ds : List Pairs). TakesOut [] edits number indexes ds) lent
    (subst (λ (es : List Edit). TakesOut es edits number indexes (map (λ (d : Pairs). d) c.deref.result.now)) c.new-edits.ensures c.in_ok-note_removed.ensures)
    in (
      search rules,
      (
        search rules,
        (
          c.requires.sound,
          (
            deleted_lawful now name ds c.requires.sound.lawful,
            λ k running.
                let state = lawful_now g.D.Disk.history c.args.self.now c.requires.sound k running in
                removal_leads now name ds taken (c.requires.taken k) edits some state takes,
          ),
        ),
      ),
    )

pub returns-clause-makes : goal.returns-clause-makes
returns-clause-makes g c =
    removes_written g.D.Disk.history c.args.namespace.now c.args.deletions.now c.args.self.now c.write.new.self c.write.result c.requires.sound c.write.ensures

pub returns-clause-has_changes : goal.returns-clause-has_changes
returns-clause-has_changes g c = λ none. absurd (some_there c.args.taken.now.removed (sym c.is_empty.ensures ∙ c.if-is_empty.false) none)
