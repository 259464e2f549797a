use Rattle.std.proofs.Common.{List, Option, sym, ap, subst, ◌∙◌}
use Rattle.std.specs.Prelude.{option_map}
use Rattle.std.proofs.lemmas.Result.{err_from_is_err_and}
use Rattle.bson.specs.Tree.{Pairs}
use Rattle.value_order.specs.KeyText.{tree_text}
use Rattle.index.specs.Definition.{Definition}
use Rattle.entries.specs.KeyedDocuments.{AreKeyed}
use Rattle.index.specs.KeyTexts.{keys_in_all}
use Rattle.entry_model.specs.LawfulState.{IsStorable}
use Rattle.database_model.specs.Documents.{key_of}
use Rattle.engine.specs.Storing.{MayEnter, Notes, entering}
use Rattle.engine.proofs.EnteringSteps.{enter_unkeyed, enter_untexted}
use Rattle.engine.proofs.OnlyReading.{reads_none}
use Rattle.engine.proofs.StoringLemmas.{storable_text}
use Rattle.engine.proofs.engine.Engine.enter.Goals as goal

pub returns-in_err-id-clause-notes : goal.returns-in_err-id-clause-notes
returns-in_err-id-clause-notes g c =
    let p = err_from_is_err_and c.from_residual.result c.from_residual.ensures.1 in
    let a = c.args in
    let was = option_map (λ d. d.now) a.replaced in
    rw (p.1, p.2)
    (enter_untexted g.D.Disk.history a.self.now a.namespace.now a.home.now a.edits.now was a.document.now c.in_err-id.field-0.0
    (reads_none g.D.Disk.history a.self.now c.requires.sound) c.in_err-id.ensures.stored)

pub returns-in_err-keyed-clause-notes : goal.returns-in_err-keyed-clause-notes
returns-in_err-keyed-clause-notes g c =
    let p = err_from_is_err_and c.from_residual-in_err-keyed.result c.from_residual-in_err-keyed.ensures.1 in
    let a = c.args in
    let was = option_map (λ d. d.now) a.replaced in
    rw (p.1, p.2) (enter_unkeyed g.D.Disk.history a.self.now a.namespace.now a.home.now a.edits.now was a.document.now c.requires.sound c.in_err-keyed.field-0.0
    (λ other. ap (λ (is : List Definition). keys_in_all is a.document.now) (sym c.deref.ensures.value) ∙ c.in_err-keyed.ensures.refused other))

pub enter_keyed-requires-clause-storable : goal.enter_keyed-requires-clause-storable
enter_keyed-requires-clause-storable g c =
    subst IsStorable (sym c.in_ok-keyed.ensures.document)
    (storable_text c.args.document.now c.in_ok-id.id.items c.requires.puttable c.in_ok-id.ensures.text c.in_ok-id.ensures.short)

pub enter_keyed-requires-clause-text : goal.enter_keyed-requires-clause-text
enter_keyed-requires-clause-text g c =
    c.deref-2.ensures.value ∙ c.in_ok-id.ensures.text ∙ ap (λ (d : Pairs). tree_text (key_of d)) (sym c.in_ok-keyed.ensures.document)

pub enter_keyed-requires-clause-keyed : goal.enter_keyed-requires-clause-keyed
enter_keyed-requires-clause-keyed g c = subst (λ (is : List Definition). AreKeyed is c.in_ok-keyed.keyed) c.deref.ensures.value c.in_ok-keyed.ensures.keyed

pub returns-clause-notes : goal.returns-clause-notes
returns-clause-notes g c =
    let a = c.args in
    let was : Option Pairs = option_map (λ d. d.now) a.replaced in
    subst (λ (d : Pairs). Notes g.D.Disk.history a.namespace.now (MayEnter was d) (entering was d) a.home.now c.enter_keyed.new.home a.edits.now
    c.enter_keyed.new.edits c.enter_keyed.result a.self.now c.enter_keyed.new.self) c.in_ok-keyed.ensures.document c.enter_keyed.ensures.notes
