use Rattle.std.proofs.Common.{subst}
use Rattle.filter.specs.Condition.{Conditions}
use Rattle.filter.specs.Matches.{matches}
use Rattle.index.specs.View.{texts_of}
use Rattle.asked_documents.specs.ById.{TellIds}
use Rattle.candidate_ids.proofs.IdTextLemmas.{filter_tells}
use Rattle.asked_documents.proofs.SelectsLemmas.{put_none, put_on}
use Rattle.candidate_ids.proofs.by_id.put_ids.Goals as goal

pub conditions-init : goal.conditions-init
conditions-init c = put_none (texts_of c.args.ids.now.items)

pub conditions-preserved : goal.conditions-preserved
conditions-preserved c =
    put_on (texts_of c.args.ids.now.items) (texts_of c.conditions.ids.items) (texts_of c.put_at.new.ids.items) c.conditions.invariant c.in_ok-put_at.ensures.put

pub returns-then-branch-clause-put : goal.returns-then-branch-clause-put
returns-then-branch-clause-put c =
    put_on (texts_of c.args.ids.now.items) (texts_of c.conditions.ids.items) (texts_of c.put_at.new.ids.items) c.conditions.invariant c.in_ok-put_at.ensures.put

pub returns-then-branch-clause-tells : goal.returns-then-branch-clause-tells
returns-then-branch-clause-tells c = λ e.
    let texts = texts_of c.put_at.new.ids.items in
    subst (λ (q : Conditions). TellIds (matches q) texts) c.conditions-condition-items.ensures
    (filter_tells c.conditions-condition-items.result.now c.conditions.condition-index c.condition-item.result texts c.conditions-test.true c.condition-item.is
    (c.in_ok-put_at.ensures.tells c.if-branch.true))

pub returns-clause-put : goal.returns-clause-put
returns-clause-put c = c.conditions.invariant
