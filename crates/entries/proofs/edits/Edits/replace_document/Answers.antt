use Rattle.std.proofs.Common.{◌≡◌, ℕ, ◌≤◌, List, ◌∷◌, map, length, refl, sym, ap, subst, ◌∙◌}
use Rattle.std.specs.List.{flat_map}
use Rattle.value_order.specs.KeyText.{tree_text}
use Rattle.tree_model.specs.Keys.{Entry, Edit}
use Rattle.entries.specs.Indexed.{with_edits, NotesSome, replacing_in, without_all}
use Rattle.entry_model.specs.State.{key_of}
use Rattle.entry_model.specs.StateEntries.{document_entry, put_of, puts, removals}
use Rattle.entry_model.specs.StateLaws.{own_entries}
use Rattle.index.specs.declared.changes.KeyChanges.{KeyChanges}
use Rattle.entries.proofs.LoopLemmas.{on_err, if_err}
use Rattle.entries.proofs.NotingLemmas.{on_ok}
use Rattle.entries.proofs.IndexedLaws.{key_lists, one_each, nothing_noted, behind_first}
use Rattle.entries.proofs.ReplacingLaws.{keys_ascend, changes_short, changes_each, own_are, some_of_first, some_behind, all_behind, replaces_in}
use Rattle.entries.proofs.edits.Edits.replace_document.Goals as goal

abbrev lost : KeyChanges → List (List ℕ)
lost x = map (λ key. key.now) x.removed.items

abbrev gained : KeyChanges → List (List ℕ)
gained x = map (λ key. key.now) x.added.items

pub changes_in_all-requires : goal.changes_in_all-requires
changes_in_all-requires c =
    let is = c.args.indexes.now in
    record {
      one_each = one_each is c.args.old.now c.args.old_keys.now c.requires.old_keyed ∙ sym (one_each is c.args.document.now c.args.keys.now c.requires.keyed);
      old_ascend = keys_ascend is c.args.old.now c.args.old_keys.now c.requires.old_keyed;
      new_ascend = keys_ascend is c.args.document.now c.args.keys.now c.requires.keyed;
    }

pub remove_changes-requires : goal.remove_changes-requires
remove_changes-requires c =
    let told : map lost c.deref.result.now ≡ without_all (key_lists c.args.old_keys.now) (key_lists c.args.keys.now) =
    ap (map lost) c.deref.ensures.value ∙ c.in_ok-changes.ensures.removed in
    record {
      id = subst (λ (text : List ℕ). length text ≤ 500) (sym c.requires.text) c.requires.storable.short;
      one_each = changes_each lost c.args.indexes.now c.args.old.now c.args.document.now c.args.old_keys.now c.args.keys.now c.deref.result.now
          c.requires.old_keyed c.requires.keyed told;
      keys = changes_short (λ (x : KeyChanges). x.removed.items) c.args.indexes.now c.args.old.now c.args.old_keys.now
          (key_lists c.args.keys.now) c.deref.result.now c.requires.old_keyed told;
    }

pub put_changes-requires : goal.put_changes-requires
put_changes-requires c =
    let told : map gained c.deref-2.result.now ≡ without_all (key_lists c.args.keys.now) (key_lists c.args.old_keys.now) =
    ap (map gained) c.deref-2.ensures.value ∙ c.in_ok-changes.ensures.added in
    record {
      id = subst (λ (text : List ℕ). length text ≤ 500) (sym c.requires.text) c.requires.storable.short;
      one_each = changes_each gained c.args.indexes.now c.args.document.now c.args.old.now c.args.keys.now c.args.old_keys.now c.deref-2.result.now
          c.requires.keyed c.requires.old_keyed told;
      keys = changes_short (λ (x : KeyChanges). x.added.items) c.args.indexes.now c.args.document.now c.args.keys.now
          (key_lists c.args.old_keys.now) c.deref-2.result.now c.requires.keyed told;
    }

pub returns-in_err-changes-clause-err : goal.returns-in_err-changes-clause-err
returns-in_err-changes-clause-err c =
    on_err c.from_residual.result
    (λ same. nothing_noted c.args.self.now (replacing_in c.args.number c.args.indexes.now c.args.old.now c.args.document.now) c.args.self.now refl)

pub returns-in_err-remove_changes-clause-err : goal.returns-in_err-remove_changes-clause-err
returns-in_err-remove_changes-clause-err c =
    let n = c.args.number in
    let is = c.args.indexes.now in
    let was = c.args.old.now in
    let d = c.args.document.now in
    let told : map lost c.deref.result.now ≡ without_all (key_lists c.args.old_keys.now) (key_lists c.args.keys.now) =
    ap (map lost) c.deref.ensures.value ∙ c.in_ok-changes.ensures.removed in
    let gone = λ (same : tree_text (key_of was) ≡ tree_text (key_of d)). own_are n c.args.id.now is was d c.args.old_keys.now c.args.keys.now
    (map lost c.deref.result.now) c.requires.old_keyed c.requires.keyed
    (c.requires.text ∙ sym same) told in
    on_err c.from_residual-in_err-remove_changes.result
    (λ same. some_of_first c.args.self.now (removals (flat_map (own_entries n was d) is))
    (puts (document_entry n d ∷ flat_map (own_entries n d was) is)) c.remove_changes.new.self
    (subst (λ (es : List Edit). NotesSome c.args.self.now es c.remove_changes.new.self) (ap removals (gone same)) c.in_err-remove_changes.ensures.err))

pub returns-in_err-put_document-clause-err : goal.returns-in_err-put_document-clause-err
returns-in_err-put_document-clause-err c =
    let n = c.args.number in
    let is = c.args.indexes.now in
    let was = c.args.old.now in
    let d = c.args.document.now in
    let rest = puts (document_entry n d ∷ flat_map (own_entries n d was) is) in
    let told : map lost c.deref.result.now ≡ without_all (key_lists c.args.old_keys.now) (key_lists c.args.keys.now) =
    ap (map lost) c.deref.ensures.value ∙ c.in_ok-changes.ensures.removed in
    let gone = λ (same : tree_text (key_of was) ≡ tree_text (key_of d)). own_are n c.args.id.now is was d c.args.old_keys.now c.args.keys.now
    (map lost c.deref.result.now) c.requires.old_keyed c.requires.keyed
    (c.requires.text ∙ sym same) told in
    on_err c.from_residual-in_err-put_document.result
    (λ same. some_behind c.args.self.now (removals (flat_map (own_entries n was d) is)) rest c.remove_changes.new.self c.put_document.new.self
    (c.in_ok-remove_changes.ensures.ok ∙ ap (λ (xs : List Entry). with_edits (removals xs) c.args.self.now) (gone same))
    (nothing_noted c.remove_changes.new.self rest c.put_document.new.self c.in_err-put_document.ensures.err))

pub returns-clause-ok : goal.returns-clause-ok
returns-clause-ok c =
    let n = c.args.number in
    let is = c.args.indexes.now in
    let was = c.args.old.now in
    let d = c.args.document.now in
    let told : map lost c.deref.result.now ≡ without_all (key_lists c.args.old_keys.now) (key_lists c.args.keys.now) =
    ap (map lost) c.deref.ensures.value ∙ c.in_ok-changes.ensures.removed in
    let gone = λ (same : tree_text (key_of was) ≡ tree_text (key_of d)). own_are n c.args.id.now is was d c.args.old_keys.now c.args.keys.now
    (map lost c.deref.result.now) c.requires.old_keyed c.requires.keyed
    (c.requires.text ∙ sym same) told in
    let told_new : map gained c.deref-2.result.now ≡ without_all (key_lists c.args.keys.now) (key_lists c.args.old_keys.now) =
    ap (map gained) c.deref-2.ensures.value ∙ c.in_ok-changes.ensures.added in
    let come = own_are n c.args.id.now is d was c.args.keys.now c.args.old_keys.now
    (map gained c.deref-2.result.now) c.requires.keyed c.requires.old_keyed c.requires.text told_new in
    on_ok c.put_changes.result
    (λ made same. all_behind c.args.self.now (removals (flat_map (own_entries n was d) is))
    (puts (document_entry n d ∷ flat_map (own_entries n d was) is)) c.remove_changes.new.self c.put_changes.new.self
    (c.in_ok-remove_changes.ensures.ok ∙ ap (λ (xs : List Entry). with_edits (removals xs) c.args.self.now) (gone same))
    (made ∙ (λ t. with_edits (puts (come t)) (c.in_ok-put_document.ensures.ok t))))
    c.put_changes.ensures.ok

pub returns-clause-err : goal.returns-clause-err
returns-clause-err c =
    let n = c.args.number in
    let is = c.args.indexes.now in
    let was = c.args.old.now in
    let d = c.args.document.now in
    let told : map lost c.deref.result.now ≡ without_all (key_lists c.args.old_keys.now) (key_lists c.args.keys.now) =
    ap (map lost) c.deref.ensures.value ∙ c.in_ok-changes.ensures.removed in
    let gone = λ (same : tree_text (key_of was) ≡ tree_text (key_of d)). own_are n c.args.id.now is was d c.args.old_keys.now c.args.keys.now
    (map lost c.deref.result.now) c.requires.old_keyed c.requires.keyed
    (c.requires.text ∙ sym same) told in
    let told_new : map gained c.deref-2.result.now ≡ without_all (key_lists c.args.keys.now) (key_lists c.args.old_keys.now) =
    ap (map gained) c.deref-2.ensures.value ∙ c.in_ok-changes.ensures.added in
    let come = own_are n c.args.id.now is d was c.args.keys.now c.args.old_keys.now
    (map gained c.deref-2.result.now) c.requires.keyed c.requires.old_keyed c.requires.text told_new in
    if_err c.put_changes.result
    (λ some same. some_behind c.args.self.now (removals (flat_map (own_entries n was d) is))
    (puts (document_entry n d ∷ flat_map (own_entries n d was) is)) c.remove_changes.new.self c.put_changes.new.self
    (c.in_ok-remove_changes.ensures.ok ∙ ap (λ (xs : List Entry). with_edits (removals xs) c.args.self.now) (gone same))
    (behind_first (put_of (document_entry n d)) c.remove_changes.new.self
    (puts (flat_map (own_entries n d was) is)) c.put_document.new.self c.put_changes.new.self c.in_ok-put_document.ensures.ok
    (subst (λ (es : List Edit). NotesSome c.put_document.new.self es c.put_changes.new.self) (ap puts come) some)))
    c.put_changes.ensures.err

pub returns-clause-leads : goal.returns-clause-leads
returns-clause-leads c =
    on_ok c.put_changes.result
    (λ made. replaces_in c.args.self.now c.put_changes.new.self c.args.number c.args.indexes.now c.args.old.now c.args.document.now
    c.allocator-alloc.ensures.rises made)
    (returns-clause-ok c)
