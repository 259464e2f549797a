use Rattle.std.proofs.Common.{◌++◌, Some, ap, arith, length}
use Rattle.btree.specs.LooseView.{slot_in}
use Rattle.btree.specs.Turn.{model_in}
use Rattle.btree.proofs.ChangingLemmas.{behind_later}
use Rattle.btree.proofs.FewLemmas.{few_left_failed, few_left_first, few_right_failed, few_right_first, not_settled_none, stopped}
use Rattle.btree.proofs.HeldLemmas.{held_later, turns_failed}
use Rattle.btree.proofs.JoinLemmas.{up_to_trans}
use Rattle.tree_model.proofs.ListLemmas.{long_map}
use Rattle.btree.proofs.SettleLemmas.{left_settled, right_settled, same_turned}
use Rattle.tree_model.proofs.StoreLemmas.{cause_later, frame_same, frame_trans, grows_trans}
use Rattle.btree.proofs.settling.settle.Goals as goal

pub returns-in_err-to_the_left-clause-turns : goal.returns-in_err-to_the_left-clause-turns
returns-in_err-to_the_left-clause-turns g c =
    λ base low mid between high first amid last lp mp rp h1 h2 b over upto within k.
    turns_failed (g.P.Pages.store c.args.pages.now)
    (g.P.Pages.store c.goes_to_the_left.new.pages) base low high _ _ c.from_residual.result _ c.from_residual.ensures.1
    (c.in_err-to_the_left.ensures.cause base low mid between high first last lp rp h1 b k)

pub returns-in_err-front-clause-turns : goal.returns-in_err-front-clause-turns
returns-in_err-front-clause-turns g c =
    λ base low mid between high first amid last lp mp rp h1 h2 b over upto within k.
    let same = c.in_ok-to_the_left.ensures.same (c.in_err-front.ensures.grows.frame k).word in
    let g1 = frame_same (g.P.Pages.store c.args.pages.now) (g.P.Pages.store c.goes_to_the_left.new.pages) same in
    turns_failed (g.P.Pages.store c.args.pages.now)
    (g.P.Pages.store c.meet.new.pages) base low high _ _ c.from_residual-in_err-front.result _ c.from_residual-in_err-front.ensures.1
    (cause_later (g.P.Pages.store c.args.pages.now) (g.P.Pages.store c.goes_to_the_left.new.pages) (g.P.Pages.store c.meet.new.pages) _ g1
    (c.in_err-front.ensures.turns base low mid between first amid lp mp (held_later _ _ base low (Some mid) first lp _ g1 h1)
    (held_later _ _ base mid between amid mp _ g1 h2) over upto k))

pub returns-then-to_the_left-clause-grows : goal.returns-then-to_the_left-clause-grows
returns-then-to_the_left-clause-grows g c =
    grows_trans _ _ _ (grows_trans _ _ _ c.in_ok-to_the_left.ensures.grows c.in_ok-front.ensures.grows) c.meet_behind.ensures.grows

pub returns-then-to_the_left-clause-few : goal.returns-then-to_the_left-clause-few
returns-then-to_the_left-clause-few g c =
    λ k hl hb hr.
    let g3 = c.meet_behind.ensures.grows.frame k in
    let g2 = c.in_ok-front.ensures.grows.frame g3.word in
    let same = c.in_ok-to_the_left.ensures.same g2.word in
    let some = c.in_ok-to_the_left.ensures.some c.if-to_the_left.true in
    let right = long_map slot_in c.args.right.loose_slots.items in
    few_left_first (g.P.Pages.store c.args.pages.now) (g.P.Pages.store c.goes_to_the_left.new.pages) (g.P.Pages.store c.meet.new.pages)
    (g.P.Pages.store c.meet_behind.new.pages) (model_in c.args.left) (model_in c.args.below) (model_in c.args.right) c.in_ok-front.front
    c.meet_behind.result (omega (arith, ap length same.made)) (omega (arith, some, long_map slot_in c.args.left.loose_slots.items)) hr
    (c.in_ok-front.ensures.few g3.word hl hb) (λ more small. c.meet_behind.ensures.few (omega (arith, right)) k small hr)
    (λ none. c.meet_behind.ensures.none (omega (arith, right)) k)

pub returns-then-to_the_left-clause-turns : goal.returns-then-to_the_left-clause-turns
returns-then-to_the_left-clause-turns g c =
    λ base low mid between high first amid last lp mp rp h1 h2 b over upto within k.
    let g3 = c.meet_behind.ensures.grows.frame k in
    let g2 = c.in_ok-front.ensures.grows.frame g3.word in
    let same = c.in_ok-to_the_left.ensures.same g2.word in
    let g1 = frame_same (g.P.Pages.store c.args.pages.now) (g.P.Pages.store c.goes_to_the_left.new.pages) same in
    let u = c.in_ok-front.ensures.turns base low mid between first amid lp mp (held_later _ _ base low (Some mid) first lp _ g1 h1)
    (held_later _ _ base mid between amid mp _ g1 h2) over upto g3.word in
    same_turned (g.P.Pages.store c.args.pages.now) (g.P.Pages.store c.goes_to_the_left.new.pages) (g.P.Pages.store c.meet_behind.new.pages)
    base low high _ _ c.meet_behind.result same
    (left_settled (g.P.Pages.store c.goes_to_the_left.new.pages) (g.P.Pages.store c.meet.new.pages) (g.P.Pages.store c.meet_behind.new.pages)
    base low high between first amid last lp mp rp (model_in c.in_ok-front.front) c.meet_behind.result g2 u
    (c.meet_behind.ensures.turns base low between high (first ++ amid) last u.after rp u.held
    (behind_later _ _ base between high last rp _ (frame_trans _ _ _ g1 g2) b) (up_to_trans low mid between over upto) k))

pub returns-in_err-back-clause-turns : goal.returns-in_err-back-clause-turns
returns-in_err-back-clause-turns g c =
    λ base low mid between high first amid last lp mp rp h1 h2 b over upto within k.
    let same = c.in_ok-to_the_left.ensures.same (c.in_err-back.ensures.grows.frame k).word in
    let g1 = frame_same (g.P.Pages.store c.args.pages.now) (g.P.Pages.store c.goes_to_the_left.new.pages) same in
    turns_failed (g.P.Pages.store c.args.pages.now)
    (g.P.Pages.store c.meet_behind-2.new.pages) base low high _ _ c.from_residual-in_err-back.result _ c.from_residual-in_err-back.ensures.1
    (cause_later (g.P.Pages.store c.args.pages.now) (g.P.Pages.store c.goes_to_the_left.new.pages) (g.P.Pages.store c.meet_behind-2.new.pages) _ g1
    (c.in_err-back.ensures.turns base mid between high amid last mp rp (held_later _ _ base mid between amid mp _ g1 h2)
    (behind_later _ _ base between high last rp _ g1 b) upto k))

pub returns-clause-grows : goal.returns-clause-grows
returns-clause-grows g c =
    grows_trans _ _ _ (grows_trans _ _ _ c.in_ok-to_the_left.ensures.grows c.in_ok-back.ensures.grows) c.meet-2.ensures.grows

pub returns-clause-few : goal.returns-clause-few
returns-clause-few g c =
    λ k hl hb hr.
    let g3 = c.meet-2.ensures.grows.frame k in
    let g2 = c.in_ok-back.ensures.grows.frame g3.word in
    let same = c.in_ok-to_the_left.ensures.same g2.word in
    let right = long_map slot_in c.args.right.loose_slots.items in
    few_right_first (g.P.Pages.store c.args.pages.now) (g.P.Pages.store c.goes_to_the_left.new.pages) (g.P.Pages.store c.meet_behind-2.new.pages)
    (g.P.Pages.store c.meet-2.new.pages) (model_in c.args.left) (model_in c.args.below) (model_in c.args.right) (model_in c.in_ok-back.back)
    c.meet-2.result (omega (arith, ap length same.made)) hl hb (λ some. c.in_ok-back.ensures.few (omega (arith, right)) g3.word hb hr)
    (λ none. let n = c.in_ok-back.ensures.none (omega (arith, right)) g3.word in (ap model_in n.0, n.1)) (λ small. c.meet-2.ensures.few k hl small)

pub returns-clause-turns : goal.returns-clause-turns
returns-clause-turns g c =
    λ base low mid between high first amid last lp mp rp h1 h2 b over upto within k.
    let g3 = c.meet-2.ensures.grows.frame k in
    let g2 = c.in_ok-back.ensures.grows.frame g3.word in
    let same = c.in_ok-to_the_left.ensures.same g2.word in
    let g1 = frame_same (g.P.Pages.store c.args.pages.now) (g.P.Pages.store c.goes_to_the_left.new.pages) same in
    let u = c.in_ok-back.ensures.turns base mid between high amid last mp rp (held_later _ _ base mid between amid mp _ g1 h2)
    (behind_later _ _ base between high last rp _ g1 b) upto g3.word in
    same_turned (g.P.Pages.store c.args.pages.now) (g.P.Pages.store c.goes_to_the_left.new.pages) (g.P.Pages.store c.meet-2.new.pages)
    base low high _ _ c.meet-2.result same
    (right_settled (g.P.Pages.store c.goes_to_the_left.new.pages) (g.P.Pages.store c.meet_behind-2.new.pages) (g.P.Pages.store c.meet-2.new.pages)
    base low mid high first amid last lp mp rp (model_in c.in_ok-back.back) c.meet-2.result g2 u
    (c.meet-2.ensures.turns base low mid high first (amid ++ last) lp u.after
    (held_later _ _ base low (Some mid) first lp _ (frame_trans _ _ _ g1 g2) h1) u.held over within k))

-- ---- what failed

pub returns-in_err-to_the_left-clause-few : goal.returns-in_err-to_the_left-clause-few
returns-in_err-to_the_left-clause-few g c =
    λ k hl hb hr.
    let same = c.in_err-to_the_left.ensures.same k in
    stopped _ _ _ c.from_residual.result c.from_residual.ensures.1
    (not_settled_none (g.P.Pages.store c.args.pages.now) (g.P.Pages.store c.goes_to_the_left.new.pages) (model_in c.args.left) (model_in c.args.below)
    (model_in c.args.right) (omega (arith, ap length same.made)))

pub returns-in_err-front-clause-few : goal.returns-in_err-front-clause-few
returns-in_err-front-clause-few g c =
    λ k hl hb hr.
    let same = c.in_ok-to_the_left.ensures.same (c.in_err-front.ensures.grows.frame k).word in
    let some = c.in_ok-to_the_left.ensures.some c.if-to_the_left.true in
    stopped _ _ _ c.from_residual-in_err-front.result c.from_residual-in_err-front.ensures.1
    (few_left_failed (g.P.Pages.store c.args.pages.now) (g.P.Pages.store c.goes_to_the_left.new.pages) (g.P.Pages.store c.meet.new.pages)
    (model_in c.args.left) (model_in c.args.below) (model_in c.args.right) (omega (arith, ap length same.made))
    (omega (arith, some, long_map slot_in c.args.left.loose_slots.items)) (c.in_err-front.ensures.few k hl hb))

pub returns-in_err-back-clause-few : goal.returns-in_err-back-clause-few
returns-in_err-back-clause-few g c =
    λ k hl hb hr.
    let same = c.in_ok-to_the_left.ensures.same (c.in_err-back.ensures.grows.frame k).word in
    let right = long_map slot_in c.args.right.loose_slots.items in
    stopped _ _ _ c.from_residual-in_err-back.result c.from_residual-in_err-back.ensures.1
    (few_right_failed (g.P.Pages.store c.args.pages.now) (g.P.Pages.store c.goes_to_the_left.new.pages) (g.P.Pages.store c.meet_behind-2.new.pages)
    (model_in c.args.left) (model_in c.args.below) (model_in c.args.right) (omega (arith, ap length same.made))
    (λ some. c.in_err-back.ensures.few (omega (arith, right)) k hb hr) (λ none. c.in_err-back.ensures.none (omega (arith, right)) k))

pub returns-in_err-front-clause-grows : goal.returns-in_err-front-clause-grows
returns-in_err-front-clause-grows g c = grows_trans _ _ _ c.in_ok-to_the_left.ensures.grows c.in_err-front.ensures.grows

pub returns-in_err-back-clause-grows : goal.returns-in_err-back-clause-grows
returns-in_err-back-clause-grows g c = grows_trans _ _ _ c.in_ok-to_the_left.ensures.grows c.in_err-back.ensures.grows
