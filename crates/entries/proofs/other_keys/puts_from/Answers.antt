use Rattle.std.proofs.Common.{ℕ, ◌&&◌, List, sym, ap, subst, ◌∙◌}
use Rattle.std.specs.Prelude.{is_some, nat_eq}
use Rattle.std.specs.List.{starts_with}
use Rattle.tree_model.specs.Keys.{edit_keys}
use Rattle.tree_model.specs.Keys.{Rises}
use Rattle.entries.specs.EditList.{Noted, edits_in}
use Rattle.entries.specs.OtherKeys.{is_another, puts_another}
use Rattle.entries.proofs.OtherPutLemmas.{AreAbove, found_place, on_place, past_front}
use Rattle.entries.proofs.other_keys.puts_from.Goals as goal

abbrev DoRise : List Noted → Type 0
DoRise es = Rises (edit_keys (edits_in es))

pub edits-init : goal.edits-init
edits-init c =
    let is = c.into_iter-edit-iterator.ensures.into_iter_gives in
    record {
      can = tt;
      finite = tt;
      rises = subst DoRise (sym is) c.requires.rises;
      above = subst (AreAbove c.args.front.now) (sym is) c.requires.above;
      same = ap (λ (es : List Noted). puts_another c.args.front.now c.args.id.now (edits_in es)) is;
    }

pub returns-then-not-starts_with : goal.returns-then-not-starts_with
returns-then-not-starts_with c =
    let front = c.args.front.now in
    let e : Noted = (c.in-Some.edit.0.now, c.in-Some.edit.1.now) in
    let is = c.in-Some.ensures.steps in
    past_front front c.args.id.now e c.next.new.self (puts_another front c.args.id.now (edits_in c.args.edits))
    (subst DoRise is c.edits.invariant.rises) (subst (AreAbove front) is c.edits.invariant.above)
    (ap (λ (k : List ℕ). starts_with nat_eq k front) (sym c.deref.ensures.value) ∙ sym c.starts_with.ensures.value ∙ c.if-not-starts_with.true)
    (sym (ap (λ (es : List Noted). puts_another front c.args.id.now (edits_in es)) is) ∙ c.edits.invariant.same)

pub returns-then-puts_another : goal.returns-then-puts_another
returns-then-puts_another c =
    let front = c.args.front.now in
    let e : Noted = (c.in-Some.edit.0.now, c.in-Some.edit.1.now) in
    let is = c.in-Some.ensures.steps in
    found_place front c.args.id.now e c.next.new.self (puts_another front c.args.id.now (edits_in c.args.edits))
    (ap (λ (k : List ℕ). is_some c.in-Some.edit.1.now && is_another front c.args.id.now k) (sym c.deref-in-edits.ensures.value) ∙ sym c.puts_another.ensures
    ∙ c.if-puts_another.true)
    (sym (ap (λ (es : List Noted). puts_another front c.args.id.now (edits_in es)) is) ∙ c.edits.invariant.same)

pub edits-preserved : goal.edits-preserved
edits-preserved c =
    let front = c.args.front.now in
    let e : Noted = (c.in-Some.edit.0.now, c.in-Some.edit.1.now) in
    let is = c.in-Some.ensures.steps in
    let rises = subst DoRise is c.edits.invariant.rises in
    let above = subst (AreAbove front) is c.edits.invariant.above in
    record {
      can = tt;
      finite = tt;
      rises = rises.1;
      above = above.1;
      same = on_place front c.args.id.now e c.next.new.self (puts_another front c.args.id.now (edits_in c.args.edits))
          (ap (λ (k : List ℕ). is_some c.in-Some.edit.1.now && is_another front c.args.id.now k) (sym c.deref-in-edits.ensures.value)
          ∙ sym c.puts_another.ensures ∙ c.if-puts_another.false)
          (sym (ap (λ (es : List Noted). puts_another front c.args.id.now (edits_in es)) is) ∙ c.edits.invariant.same);
    }

pub returns : goal.returns
returns c = sym (ap (λ (es : List Noted). puts_another c.args.front.now c.args.id.now (edits_in es)) c.in-None.ensures.steps.0) ∙ c.edits.invariant.same
