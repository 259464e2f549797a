use Rattle.std.proofs.Common.{rules}
use borrow.Author.Rules.{in_lives}
use Rattle.std.proofs.lemmas.Result.{err_from_is_err_and}
use Rattle.command_model.specs.Insert.{documents_at}
use Rattle.engine.specs.View.{world}
use Rattle.engine.proofs.InsertSteps.{stores_leads, stores_refused, stores_untargeted, stores_written}
use Rattle.engine.proofs.PlannedLemmas.{inserted_lawful}
use Rattle.engine.proofs.engine.Engine.store.Goals as goal

pub returns-in_err-home : goal.returns-in_err-home
returns-in_err-home g c =
    let p = err_from_is_err_and c.from_residual.result c.from_residual.ensures.1 in
    rw (p.1, p.2)
    (stores_untargeted g.D.Disk.history c.args.namespace.now
    (documents_at c.args.documents.now) c.args.self.now c.target.new.self c.target.new.edits c.in_err-home.field-0.0 c.in_err-home.ensures.tries)

pub returns-in_err-note_documents : goal.returns-in_err-note_documents
returns-in_err-note_documents g c =
    let p = err_from_is_err_and c.from_residual-in_err-note_documents.result c.from_residual-in_err-note_documents.ensures.1 in
    rw (p.1, p.2)
    (stores_refused g.D.Disk.history c.args.namespace.now
    (documents_at c.args.documents.now) c.args.self.now c.target.new.self c.target.new.edits c.in_ok-home.home c.in_ok-home.ensures.tries
    c.note_documents.new.self c.note_documents.new.home c.note_documents.new.edits c.in_err-note_documents.field-0.0 c.in_err-note_documents.ensures)

pub write-requires : goal.write-requires
write-requires g c κs within =
    let sound = c.in_ok-note_documents.ensures.reads.sound in
    let name = c.args.namespace.now in
    let ds = documents_at c.args.documents.now in
    let lawful = inserted_lawful (world c.note_documents.new.self).collections name ds sound.lawful c.requires.short in (
      search rules,
      (
        simp (in_lives, within.0.0, within.0.1.0, within.0.1.1.0) (search rules),
        (
          sound,
          (
            lawful,
            stores_leads g.D.Disk.history name ds c.args.self.now c.target.new.self c.target.new.edits c.in_ok-home.home c.in_ok-home.ensures.tries
                c.note_documents.new.self c.note_documents.new.home c.note_documents.new.edits c.in_ok-note_documents.ensures,
          ),
        ),
      ),
    )

pub returns : goal.returns
returns g c =
    stores_written g.D.Disk.history c.args.namespace.now
    (documents_at c.args.documents.now) c.args.self.now c.target.new.self c.target.new.edits c.in_ok-home.home c.in_ok-home.ensures.tries
    c.note_documents.new.self c.note_documents.new.home c.note_documents.new.edits c.in_ok-note_documents.ensures c.write.result c.write.new.self
    c.write.ensures
