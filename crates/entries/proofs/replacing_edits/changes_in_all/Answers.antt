use Rattle.std.proofs.Common.{ℕ, ◌<◌, List, map, length, ◌∙◌, arith}
use Rattle.index.specs.Changes.{without}
use Rattle.entries.specs.Indexed.{without_all}
use Rattle.index.specs.View.{texts_of}
use Rattle.index.specs.declared.changes.KeyChanges.{KeyChanges}
use Rattle.entries.proofs.IndexedLaws.{key_lists}
use Rattle.entries.proofs.ReplacingLoops.{ascend_at, change_more, changes_end}
use Rattle.entries.proofs.replacing_edits.changes_in_all.Goals as goal

abbrev lost : KeyChanges → List (List ℕ)
lost x = map (λ key. key.now) x.removed.items

abbrev gained : KeyChanges → List (List ℕ)
gained x = map (λ key. key.now) x.added.items

pub between-requires : goal.between-requires
between-requires c = record {
  old_ascend =
      ascend_at c.args.old.now c.new.at c.index-old-at.result c.deref.result.now c.requires.old_ascend
      (omega (arith, c.new-test.true, c.requires.one_each)) c.index-old-at.is c.deref.ensures.value;
  new_ascend =
      ascend_at c.args.new.now c.new.at c.index-new-at.result c.deref-in-new.result.now c.requires.new_ascend c.new-test.true c.index-new-at.is
      c.deref-in-new.ensures.value;
}

pub new-preserved : goal.new-preserved
new-preserved c =
    let old = c.args.old.now in
    let new = c.args.new.now in
    let under : c.new.at < length old = omega (arith, c.new-test.true, c.requires.one_each) in
    record {
      removed = change_more lost old new
          (without_all (key_lists old) (key_lists new)) c.new.at c.index-old-at.result c.index-new-at.result c.new.all.items c.push.new.self.items _ under
          c.new-test.true c.index-old-at.is c.index-new-at.is
          c.in_ok-push.ensures.items (c.in_ok-between.ensures.removed
          ∙ (λ t. without (texts_of (c.deref.ensures.value t)) (texts_of (c.deref-in-new.ensures.value t)))) c.new.invariant.removed;
      added = change_more gained new old
          (without_all (key_lists new) (key_lists old)) c.new.at c.index-new-at.result c.index-old-at.result c.new.all.items c.push.new.self.items _
          c.new-test.true under c.index-new-at.is c.index-old-at.is
          c.in_ok-push.ensures.items
          (c.in_ok-between.ensures.added
          ∙ (λ t. without (texts_of (c.deref-in-new.ensures.value t)) (texts_of (c.deref.ensures.value t)))) c.new.invariant.added;
    }

pub returns : goal.returns
returns c =
    let old = c.args.old.now in
    let new = c.args.new.now in
    record {
      removed = changes_end lost old new (without_all (key_lists old) (key_lists new)) c.new.at c.new.all.items
          (omega (arith, c.new-test.false, c.requires.one_each)) c.new.invariant.removed;
      added = changes_end gained new old (without_all (key_lists new) (key_lists old)) c.new.at c.new.all.items c.new-test.false c.new.invariant.added;
    }
