use Rattle.std.proofs.Common.{◌≡◌, false, length, map, sym, ap, ◌∙◌}
use Rattle.std.specs.List.{list_any}
use Rattle.entry_model.specs.Entering.{becomes_multikey}
use Rattle.index.specs.IndexKeys.{noted}
use Rattle.entries.proofs.EnteringSteps.{notes_none, notes_some, noted_so, written_back}
use Rattle.entry_model.proofs.KeptSteps.{long_map}
use Rattle.entries.proofs.NotingLemmas.{on_ok}
use Rattle.entries.proofs.edits.Edits.note_multikey.Goals as goal

pub returns-then-not-become_multikey-clause-indexes : goal.returns-then-not-become_multikey-clause-indexes
returns-then-not-become_multikey-clause-indexes c =
    let d = c.args.document.now in
    let none : list_any (becomes_multikey d) c.args.home.now.indexes.items ≡ false =
    ap (list_any (becomes_multikey d)) (sym c.deref.ensures.value) ∙ sym c.become_multikey.ensures ∙ c.if-not-become_multikey.true in
    sym (noted_so d c.args.home.now.indexes.items none)

pub returns-then-not-become_multikey-clause-notes : goal.returns-then-not-become_multikey-clause-notes
returns-then-not-become_multikey-clause-notes c =
    notes_none c.args.self.now c.args.namespace.now c.args.home.now.number c.args.home.now.indexes.items c.args.document.now
    (sym (returns-then-not-become_multikey-clause-indexes c))

pub returns-clause-notes : goal.returns-clause-notes
returns-clause-notes c =
    let d = c.args.document.now in
    let is = c.args.home.now.indexes in
    let done : c.note_all.new.indexes ≡ map (noted d) is.items = c.note_all.ensures ∙ ap (map (noted d)) c.deref_mut.ensures.value in
    let long : is.len ≡ length c.note_all.new.indexes = is.ok.0 ∙ sym (ap length done ∙ long_map (noted d) is.items) in
    let told : c.deref-2.result.now ≡ map (noted d) is.items =
    written_back is.len c.deref-2.result.now c.note_all.new.indexes _ c.deref-2.ensures.value long ∙ done in
    on_ok c.put_indexes.result
    (λ lead. notes_some c.args.self.now c.put_indexes.new.self c.args.namespace.now c.args.home.now.number is.items c.deref-2.result.now d told lead)
    c.put_indexes.ensures.leads
