use Rattle.std.proofs.Common.{List, [], ◌∷◌, sym, ap, subst, ◌∙◌}
use Rattle.tree_model.specs.Keys.{Each, Edit}
use Rattle.entries.specs.EditList.{IsShortEdit, Noted, edit_of, edits_in}
use Rattle.entries.specs.Indexed.{with_edits}
use Rattle.entries.proofs.ManyEditsLaws.{begins, ends, goes_further, noted_goes}
use Rattle.entries.proofs.edits.Edits.note_each.Goals as goal

abbrev AreShort : List Noted → Type 0
AreShort es = Each IsShortEdit (edits_in es)

pub edits-init : goal.edits-init
edits-init c = record {
  can = tt;
  finite = tt;
  noted = begins c.args.self.now (edits_in c.into_iter-edit-iterator.result);
  short = subst AreShort (sym c.into_iter-edit-iterator.ensures.into_iter_gives.0) c.edits-2.invariant.short;
}

pub note-requires : goal.note-requires
note-requires c = let short = subst AreShort c.in-Some.ensures.steps c.edits.invariant.short in short.0

pub edits-preserved : goal.edits-preserved
edits-preserved c =
    let e = edit_of c.in-Some.edit.0 c.in-Some.edit.1 in
    let left = edits_in c.next.new.self in
    let short = subst AreShort c.in-Some.ensures.steps c.edits.invariant.short in
    record {
      can = tt;
      finite = tt;
      noted = goes_further c.args.self.now (edits_in c.into_iter-edit-iterator.result) (edits_in c.edits.edit-iterator)
          (e ∷ []) left c.edits.self c.note.new.self
          c.edits.invariant.noted (ap edits_in c.in-Some.ensures.steps) c.in_ok-note.ensures.ok;
      short = short.1;
    }

pub returns : goal.returns
returns c =
    let old = c.args.self.now in
    let items = c.edits.edit-iterator in
    let all = ap edits_in c.into_iter-edit-iterator.ensures.into_iter_gives.0 ∙ c.edits-2.view_is in
    noted_goes c.args.edits old c.edits.self c.allocator-alloc.ensures.rises
    (ends old (edits_in c.into_iter-edit-iterator.result) (edits_in items) c.edits.self c.edits.invariant.noted (ap edits_in c.in-None.ensures.steps.0)
    ∙ ap (λ (es : List Edit). with_edits es old) all)
