use Rattle.std.proofs.Common.{List, map, Option, Some, Bor, Ok, sym, ap, subst, ◌∙◌}
use Rattle.std.specs.Prelude.{IfSome, OnOk, option_map}
use Rattle.index.specs.Definition.{Definition}
use Rattle.entry_model.specs.Entering.{Enters}
use Rattle.entries.specs.KeyedDocuments.{AreKeyed}
use Rattle.entries.specs.Indexed.{InsertsInto, ReplacesIn}
use Rattle.index.specs.KeyTexts.{keys_in_all}
use Rattle.index.specs.View.{texts_of}
use Rattle.entries.specs.declared.entering.Keyed.{Keyed}
use Rattle.entries.proofs.EnteringSteps.{enters_new, enters_old, keyed_noted}
use Rattle.entries.proofs.NotingLemmas.{on_ok}
use Rattle.entries.proofs.edits.Edits.enter_document.Goals as goal

pub insert_document-requires-clause-keyed : goal.insert_document-requires-clause-keyed
insert_document-requires-clause-keyed c =
    let d = c.args.keyed.now.document.now in
    ap (λ (is : List Definition). keys_in_all is d) (c.deref.ensures.value ∙ c.note_multikey.ensures.indexes) ∙ keyed_noted d d c.args.home.now.indexes.items
    ∙ c.requires.keyed
    ∙ ap (λ ks. Ok (map (λ k. texts_of k.items) ks)) (sym c.deref-in-None.ensures.value)

pub replace_document-requires-clause-old_keyed : goal.replace_document-requires-clause-old_keyed
replace_document-requires-clause-old_keyed c =
    let d = c.args.keyed.now.document.now in
    let was : IfSome (Some c.in-Some.old) (λ k. AreKeyed c.args.home.now.indexes.items k.now) =
    subst (λ (o : Option (Bor Keyed)). IfSome o (λ k. AreKeyed c.args.home.now.indexes.items k.now)) c.in-Some.is c.requires.old_keyed in
    ap (λ (is : List Definition). keys_in_all is c.in-Some.old.now.document.now) (c.deref-in-Some.ensures.value ∙ c.note_multikey.ensures.indexes)
    ∙ keyed_noted d c.in-Some.old.now.document.now c.args.home.now.indexes.items ∙ was
    ∙ ap (λ ks. Ok (map (λ k. texts_of k.items) ks)) (sym c.deref-in-Some-2.ensures.value)

pub replace_document-requires-clause-keyed : goal.replace_document-requires-clause-keyed
replace_document-requires-clause-keyed c =
    let d = c.args.keyed.now.document.now in
    ap (λ (is : List Definition). keys_in_all is d) (c.deref-in-Some.ensures.value ∙ c.note_multikey.ensures.indexes)
    ∙ keyed_noted d d c.args.home.now.indexes.items ∙ c.requires.keyed
    ∙ ap (λ ks. Ok (map (λ k. texts_of k.items) ks)) (sym c.deref-in-Some-3.ensures.value)

pub returns-in-None-clause-enters : goal.returns-in-None-clause-enters
returns-in-None-clause-enters c =
    let d = c.args.keyed.now.document.now in
    let number = c.note_multikey.ensures.number in
    subst (λ (o : Option (Bor Keyed)). OnOk c.insert_document.result
    (Enters c.args.self.now c.insert_document.new.self c.args.namespace.now c.args.home.now.number c.args.home.now.indexes.items
    (option_map (λ was. was.now.document.now) o) d)) (sym c.in-None.is)
    (on_ok c.insert_document.result
    (λ inserts. enters_new c.args.self.now c.note_multikey.new.self c.insert_document.new.self c.args.namespace.now c.args.home.now.number
    c.args.home.now.indexes.items c.deref.result.now d c.requires.storable
    (c.deref.ensures.value ∙ c.note_multikey.ensures.indexes) c.in_ok-note_multikey.ensures.notes
    (subst (λ n. InsertsInto c.note_multikey.new.self c.insert_document.new.self n c.deref.result.now d) number inserts))
    c.insert_document.ensures.leads)

pub returns-in-Some-clause-enters : goal.returns-in-Some-clause-enters
returns-in-Some-clause-enters c =
    let d = c.args.keyed.now.document.now in
    let was = c.in-Some.old.now.document.now in
    let number = c.note_multikey.ensures.number in
    subst (λ (o : Option (Bor Keyed)). OnOk c.replace_document.result
    (Enters c.args.self.now c.replace_document.new.self c.args.namespace.now c.args.home.now.number c.args.home.now.indexes.items
    (option_map (λ k. k.now.document.now) o) d)) (sym c.in-Some.is)
    (on_ok c.replace_document.result
    (λ replaces. enters_old c.args.self.now c.note_multikey.new.self c.replace_document.new.self c.args.namespace.now c.args.home.now.number
    c.args.home.now.indexes.items c.deref-in-Some.result.now d c.requires.storable
    (c.deref-in-Some.ensures.value ∙ c.note_multikey.ensures.indexes) c.in_ok-note_multikey.ensures.notes was
    (subst (λ n. ReplacesIn c.note_multikey.new.self c.replace_document.new.self n c.deref-in-Some.result.now was d) number replaces))
    c.replace_document.ensures.leads)
