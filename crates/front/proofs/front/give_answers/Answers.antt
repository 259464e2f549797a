use Rattle.std.proofs.Common.{◌≡◌, ◌<◌, ℕ, suc, ◌+◌, length, List, take, drop, set, map, ap, sym, subst, ◌∙◌, arith}
use Rattle.sockets.specs.Handing.{Hands}
use Rattle.driver_sockets.specs.Serving.{answered}
use Rattle.driver_sockets.proofs.EachLemmas.{one_more}
use Rattle.front.proofs.HandingLemmas.{hands_on, answers_at}
use Rattle.front.proofs.front.give_answers.Goals as goal

pub sockets-preserved : goal.sockets-preserved
sockets-preserved g c =
    let i = c.sockets.number in
    let first = c.args.sockets.now in
    let now = c.sockets.sockets in
    let any = c.index-sockets-number.result in
    let new = c.give_answer.new.socket in
    let within : i < length now = omega (arith, c.sockets-test.true, c.sockets.auto.sockets) in
    let s = one_more answered now first i any new within c.sockets.invariant.done c.sockets.invariant.left c.give_answer.ensures.answered in
    let next : i + 1 ≡ suc i = omega arith in
    record {
      done = ap (λ (m : ℕ). take m (set now i new)) next ∙ s.done ∙ ap (λ (m : ℕ). map answered (take m first)) (sym next);
      left = ap (λ (m : ℕ). drop m (set now i new)) next ∙ s.left ∙ ap (λ (m : ℕ). drop m first) (sym next);
      hands = λ last rest.
          c.sockets.invariant.hands last
          (subst (λ (fs : List (ℕ × List ℕ)). Hands g.O.Outlet.is_given fs c.sockets.outlet last)
          (sym (answers_at now first i any within c.sockets-test.true c.sockets.invariant.left))
          (hands_on g.O.Outlet.is_given _ _ _ _ last c.give_answer.ensures.hands rest));
    }
