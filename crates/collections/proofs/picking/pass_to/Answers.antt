use Rattle.std.proofs.Common.{drop, ap, sym, ◌∙◌}
use Rattle.tree_model.specs.Keys.{key_cmp}
use Rattle.collections.specs.Picking.{after, keys_of, meets}
use Rattle.collections.proofs.PickingLemmas.{equal_after, equal_met, greater_after, greater_met, less_after, less_met}
use Rattle.collections.proofs.picking.pass_to.Goals as goal

pub texts-preserved : goal.texts-preserved
texts-preserved c = λ so.
    let key = c.args.key.now in
    let keys = keys_of c.args.number c.args.texts.now in
    let l = c.texts.invariant so in
    let less = ap (λ k. key_cmp k key) (sym c.deref.ensures.value) ∙ sym c.compare_keys.ensures ∙ c.in-Less.is in
    record {
      first = c.in_ok-pass-in-Less.ensures.next l.first.front;
      rest = ap (λ n. after key (drop n keys)) c.in_ok-pass-in-Less.ensures.one ∙ less_after c.args.number c.texts.passed c.args.texts.now c.texts.next.items
          key c.texts-test.true l.first less ∙ l.rest;
      met = ap (λ n. meets (drop n keys) key) c.in_ok-pass-in-Less.ensures.one ∙ less_met c.args.number c.texts.passed c.args.texts.now c.texts.next.items key
          c.texts-test.true l.first less ∙ l.met;
    }

pub returns-in-Equal : goal.returns-in-Equal
returns-in-Equal c = λ so.
    let key = c.args.key.now in
    let keys = keys_of c.args.number c.args.texts.now in
    let l = c.texts.invariant so in
    let equal = ap (λ k. key_cmp k key) (sym c.deref.ensures.value) ∙ sym c.compare_keys.ensures ∙ c.in-Equal.is in
    record {
      first = c.in_ok-pass-in-Equal.ensures.next l.first.front;
      rest = ap (λ n. drop n keys) c.in_ok-pass-in-Equal.ensures.one ∙ equal_after c.args.number c.texts.passed c.args.texts.now c.texts.next.items key
          c.texts-test.true l.first equal ∙ l.rest;
      met = equal_met c.args.number c.texts.passed c.args.texts.now c.texts.next.items key c.texts-test.true l.first equal ∙ l.met;
    }

pub returns-in-Greater : goal.returns-in-Greater
returns-in-Greater c = λ so.
    let key = c.args.key.now in
    let keys = keys_of c.args.number c.args.texts.now in
    let l = c.texts.invariant so in
    let greater = ap (λ k. key_cmp k key) (sym c.deref.ensures.value) ∙ sym c.compare_keys.ensures ∙ c.in-Greater.is in
    record {
      first = l.first;
      rest = greater_after c.args.number c.texts.passed c.args.texts.now c.texts.next.items key c.texts-test.true l.first greater ∙ l.rest;
      met = greater_met c.args.number c.texts.passed c.args.texts.now c.texts.next.items key c.texts-test.true l.first greater ∙ l.met;
    }
