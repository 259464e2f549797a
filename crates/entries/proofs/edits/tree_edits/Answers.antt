use Rattle.std.proofs.Common.{List, ◌++◌, map, ap, ◌∙◌}
use Rattle.tree_model.specs.EditView.{edit_in}
use Rattle.tree_model.specs.declared.edit.Edit.{Edit as TreeEdit}
use Rattle.entries.specs.EditList.{edits_in}
use Rattle.entries.proofs.NotingLemmas.{all_there, one_more}
use Rattle.entries.proofs.edits.tree_edits.Goals as goal

pub edits-init : goal.edits-init
edits-init c = record {
  can = tt;
  finite = tt;
  same = ap (λ (es : List TreeEdit). map edit_in es ++ edits_in c.into_iter-edit-iterator.result) c.in_ok-all.ensures.items
      ∙ ap edits_in c.into_iter-edit-iterator.ensures.into_iter_gives.0;
}

pub edits-preserved : goal.edits-preserved
edits-preserved c = record {
  can = tt;
  finite = tt;
  same = one_more c.edits.all.items c.push.new.self.items c.tree_edit.result (c.in-Some.edit.0.now, c.in-Some.edit.1.now) c.edits.edit-iterator c.next.new.self
      (edits_in c.args.noted.now.entries)
      c.in_ok-push.ensures.items c.tree_edit.ensures c.in-Some.ensures.steps c.edits.invariant.same;
}

pub returns : goal.returns
returns c = all_there c.edits.all.items c.edits.edit-iterator (edits_in c.args.noted.now.entries) c.in-None.ensures.steps.0 c.edits.invariant.same
