use Rattle.std.proofs.Common.{◌≡◌, Bool, refl, ap, ◌∙◌}
use Rattle.std.specs.Prelude.{if◌then◌else◌, is_some, not}
use Rattle.database_model.specs.Cursors.{cursor_reply}
use Rattle.database_model.specs.Refusals.{ok_reply}
use Rattle.replies.specs.View.{batch_name}
use Rattle.walks.proofs.BatchesLemmas.{by_none}
use Rattle.walks.proofs.batches.ended.Goals as goal

pub returns-clause-ended : goal.returns-clause-ended
returns-clause-ended c =
    let b = c.args.given.batch in
    let asked = c.args.asked.now in
    let last : c.is_none.result ≡ not (is_some c.args.given.next) = by_none c.is_none.result (is_some c.args.given.next) c.is_none.ensures in
    record {
      same_next = refl;
      counted = c.count-count.ensures;
      says = λ ds h.
          c.in_ok-reply.ensures.reply ds h
          ∙ ap (λ (done : Bool). ok_reply (cursor_reply (batch_name b.kind) ds (if done then 0 else asked.number) asked.namespace.now)) last;
    }
