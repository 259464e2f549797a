use Rattle.std.proofs.Common.{ap, sym, ◌∙◌, List, [], length, map}
use Rattle.std.specs.List.{flat_map}
use Rattle.std.specs.Prelude.{ℕ, ◌==◌}
use Rattle.bson.specs.Tree.{document}
use Rattle.path.specs.declared.reaching.Reached.{Reached as Held}
use Rattle.path.specs.Reach.{Reached, reach}
use Rattle.path.specs.View.{reached}
use Rattle.value_order.specs.declared.texts.Direction.{Direction}
use Rattle.index.specs.IndexKeys.{keys_of, or_missing}
use Rattle.index.specs.View.{texts_of}
use Rattle.index.specs.Steps.{with_texts}
use Rattle.index.proofs.TextLemmas.{refused, reached_refused, reached_more, something}
use Rattle.index.proofs.texts.texts_at.Goals as goal

pub returns-in_err-push_reached : goal.returns-in_err-push_reached
returns-in_err-push_reached c =
    let way = c.args.field.now.direction in
    let rs = c.deref-reached-items.result.now in
    refused (λ v. texts_of v.items) _ c.from_residual-in_err-push_reached.result c.in_err-push_reached.field-0.0 c.from_residual-in_err-push_reached.ensures.1
    (λ known.
    ap (λ (all : List Reached). with_texts way [] (flat_map keys_of (or_missing all)))
    (sym (c.in_ok-all.ensures ∙ ap (λ (parts : List (List ℕ)). reach parts (document c.args.source.now)) c.path.ensures)
    ∙ sym (ap (map reached) c.deref-reached-items.ensures.value))
    ∙ ap (λ (all : List Reached). with_texts way [] (flat_map keys_of all))
    (something rs (ap (λ (all : List Held). length all == 0) c.deref-reached-items.ensures.value ∙ ap (λ (n : ℕ). n == 0) (sym c.in_ok-all.all.ok.0)
    ∙ sym c.is_empty.ensures ∙ c.if-is_empty.false))
    ∙ reached_refused way rs c.all.reached-index c.reached-item.result (texts_of c.all.texts.items) _ c.all-test.true c.reached-item.is c.all.invariant
    c.in_err-push_reached.field-0.0
    (ap (λ (w : Direction). with_texts w (texts_of c.all.texts.items) (keys_of (reached c.reached-item.result))) (sym c.direction-in-all.ensures)
    ∙ c.in_err-push_reached.ensures known))

pub all-preserved : goal.all-preserved
all-preserved c =
    reached_more c.args.field.now.direction c.deref-reached-items.result.now c.all.reached-index c.reached-item.result
    (texts_of c.all.texts.items) _ c.all-test.true c.reached-item.is c.all.invariant
    (texts_of c.push_reached.new.texts.items)
    (ap (λ (w : Direction). with_texts w (texts_of c.all.texts.items) (keys_of (reached c.reached-item.result))) (sym c.direction-in-all.ensures)
    ∙ c.in_ok-push_reached.ensures)
