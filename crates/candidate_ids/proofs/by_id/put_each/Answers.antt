use Rattle.std.proofs.Common.{◌+◌, Bool, List, Some, [], ◌∷◌, drop, subst, arith}
use Rattle.std.proofs.lemmas.List.{drop_all}
use Rattle.bson.specs.Tree.{Tree}
use Rattle.value_order.specs.KeyText.{tree_text}
use Rattle.filter.specs.Matches.{along, any_holds, holds}
use Rattle.filter.specs.View.{condition_of, conditions_of}
use Rattle.filter.specs.declared.condition.Condition.{Condition}
use Rattle.index.specs.View.{texts_of}
use Rattle.path.proofs.NameLemmas.{drop_step}
use Rattle.asked_documents.specs.ById.{IsPlain, TellBeside}
use Rattle.candidate_ids.proofs.IdTextLemmas.{left_all, left_next, left_none}
use Rattle.asked_documents.proofs.SelectsLemmas.{put_none, put_on}
use Rattle.candidate_ids.proofs.by_id.put_each.Goals as goal

pub conditions-init : goal.conditions-init
conditions-init c = record {
  put = put_none (texts_of c.args.ids.now.items);
  left = left_all IsPlain tree_text (λ t. any_holds (conditions_of c.args.conditions.now) (along (Some t ∷ []))) (texts_of c.args.ids.now.items);
}

pub conditions-preserved : goal.conditions-preserved
conditions-preserved c =
    let rs = c.args.conditions.now in
    let i = c.conditions.condition-index in
    let r = c.condition-item.result in
    let now = texts_of c.conditions.ids.items in
    let next = texts_of c.put_equal.new.ids.items in
    let put = c.in_ok-put_equal.ensures.put in
    let all : Tree → Bool = λ t. any_holds (conditions_of rs) (along (Some t ∷ [])) in
    record {
      put = put_on (texts_of c.args.ids.now.items) now next c.conditions.invariant.put put;
      left = left_next IsPlain tree_text all (λ t. holds (condition_of r) (along (Some t ∷ [])))
          (λ t. any_holds (conditions_of (drop (i + 1) rs)) (along (Some t ∷ []))) now next put
          (c.in_ok-put_equal.ensures.tells c.if-not-branch.false)
          (subst (λ (qs : List Condition). TellBeside IsPlain tree_text all (λ t. any_holds (conditions_of qs) (along (Some t ∷ []))) now)
          (drop_step rs i r c.conditions-test.true c.condition-item.is) c.conditions.invariant.left);
    }

pub returns-then-not-branch-clause-put : goal.returns-then-not-branch-clause-put
returns-then-not-branch-clause-put c =
    put_on (texts_of c.args.ids.now.items) (texts_of c.conditions.ids.items)
    (texts_of c.put_equal.new.ids.items) c.conditions.invariant.put c.in_ok-put_equal.ensures.put

pub returns-clause-put : goal.returns-clause-put
returns-clause-put c = c.conditions.invariant.put

pub returns-clause-tells : goal.returns-clause-tells
returns-clause-tells c = λ e.
    let rs = c.args.conditions.now in
    let now = texts_of c.conditions.ids.items in
    let all : Tree → Bool = λ t. any_holds (conditions_of rs) (along (Some t ∷ [])) in
    left_none IsPlain tree_text all now
    (subst (λ (qs : List Condition). TellBeside IsPlain tree_text all (λ t. any_holds (conditions_of qs) (along (Some t ∷ []))) now)
    (drop_all c.conditions.condition-index rs (omega (arith, c.conditions-test.false))) c.conditions.invariant.left)
