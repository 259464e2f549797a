use Rattle.std.proofs.Common.{◌≡◌, inl, inr, get_or, refl, sym, ◌∙◌}
use Rattle.std.proofs.lemmas.Result.{err_from_is_err_and}
use Rattle.engine.proofs.DroppingIndexes.{at_dropped, at_kept, at_refused}
use Rattle.engine.proofs.OnlyReading.{reads_none}
use Rattle.engine.proofs.engine.Engine.note_dropped_at.Goals as goal

pub returns-in_err-unindex_all-clause-notes : goal.returns-in_err-unindex_all-clause-notes
returns-in_err-unindex_all-clause-notes g c =
    let p = err_from_is_err_and c.from_residual.result c.from_residual.ensures.1 in
    let home = c.args.home.now in
    let i = c.index.result.now in
    let here : i ≡ get_or home.indexes.items c.args.at i = c.index.ensures in
    rw (p.1, p.2) (at_refused g.D.Disk.history c.args.self.now c.requires.sound c.args.namespace.now home c.args.edits.now c.args.at
    (sym c.is_stopped.ensures ∙ c.if-is_stopped.false) i c.requires.within here c.unindex_all.new.edits c.unindex_all.new.self
    (record { number = home.number; indexes = home.indexes }) c.unindex_all.new.edits c.in_err-unindex_all.field-0.0 c.in_err-unindex_all.ensures)

pub returns-clause-notes : goal.returns-clause-notes
returns-clause-notes g c =
    let home = c.args.home.now in
    let i = c.index.result.now in
    let here : i ≡ get_or home.indexes.items c.args.at i = c.index.ensures in
    at_dropped g.D.Disk.history c.args.self.now c.requires.sound c.args.namespace.now home c.args.edits.now c.args.at
    (sym c.is_stopped.ensures ∙ c.if-is_stopped.false) i c.requires.within here c.unindex_all.new.edits c.unindex_all.new.self c.in_ok-unindex_all.ensures
    c.drop_index.new.home c.drop_index.new.self c.in_ok-drop_index.ensures.number c.in_ok-drop_index.ensures.indexes c.in_ok-drop_index.ensures.drops

pub returns-then-is_stopped-clause-notes : goal.returns-then-is_stopped-clause-notes
returns-then-is_stopped-clause-notes g c = record {
  reads = reads_none g.D.Disk.history c.args.self.now c.requires.sound;
  answers = λ k found noted so. inr (inr (refl, inl (sym c.is_stopped.ensures ∙ c.if-is_stopped.true)));
}

pub returns-in_err-drop_index-clause-notes : goal.returns-in_err-drop_index-clause-notes
returns-in_err-drop_index-clause-notes g c =
    let p = err_from_is_err_and c.from_residual-in_err-drop_index.result c.from_residual-in_err-drop_index.ensures.1 in
    let home = c.args.home.now in
    let i = c.index.result.now in
    let here : i ≡ get_or home.indexes.items c.args.at i = c.index.ensures in
    rw p.1 (at_kept g.D.Disk.history c.args.self.now c.requires.sound c.args.namespace.now home c.args.edits.now c.args.at
    (sym c.is_stopped.ensures ∙ c.if-is_stopped.false) i c.requires.within here c.unindex_all.new.edits c.unindex_all.new.self c.in_ok-unindex_all.ensures
    c.drop_index.new.home c.drop_index.new.self p.0 p.2)
