use Rattle.std.proofs.Common.{◌≡◌, ◌<◌, ◌-◌, Some, arith, length, rules}
use Rattle.btree.specs.LooseView.{slot_in}
use Rattle.btree.specs.Turn.{model_in}
use Rattle.btree.proofs.ChangingLemmas.{behind_some}
use Rattle.tree_model.proofs.ListLemmas.{long_map}
use Rattle.btree.proofs.SettleLemmas.{child_there}
use Rattle.tree_model.proofs.StoreLemmas.{answer_failed, cause_later, frame_same, grows_trans, same_trans}
use Rattle.btree.proofs.settling.goes_to_the_left.Goals as goal

pub returns-clause-same : goal.returns-clause-same
returns-clause-same g c =
    λ k. let second = c.in_ok-behind.ensures.same k in
    let first = c.in_ok-before.ensures.same (frame_same _ _ second).word in
    same_trans _ _ _ first second

pub returns-in_err-behind-clause-same : goal.returns-in_err-behind-clause-same
returns-in_err-behind-clause-same g c =
    λ k. let second = c.in_err-behind.ensures.same k in
    let first = c.in_ok-before.ensures.same (frame_same _ _ second).word in
    same_trans _ _ _ first second

pub returns-in_err-before-clause-cause : goal.returns-in_err-before-clause-cause
returns-in_err-before-clause-cause g c =
    λ base low mid between high first last lp rp h b k.
    let some : 0 < length c.args.left.now.loose_slots.items = search rules in
    let long : c.len.result ≡ length c.args.left.now.loose_slots.items = search rules in
    answer_failed (g.P.Pages.store c.args.pages.now) (g.P.Pages.store c.bytes_below.new.pages) _ _ _ c.from_residual.ensures.1
    (c.in_err-before.ensures.cause k
    (λ page load. child_there (g.P.Pages.store c.args.pages.now) base low (Some mid) first lp c.args.left.now c.index.result.now c.index.result.now
    (c.len.result - 1) page h (omega arith) c.index.ensures load))

pub returns-in_err-behind-clause-cause : goal.returns-in_err-behind-clause-cause
returns-in_err-behind-clause-cause g c =
    λ base low mid between high first last lp rp h b k.
    let s = g.P.Pages.store c.args.pages.now in
    let between_store = g.P.Pages.store c.bytes_below.new.pages in
    let new = g.P.Pages.store c.bytes_below-2.new.pages in
    let some : 0 < length c.args.right.now.loose_slots.items = search rules in
    let m = behind_some s base between high last rp (model_in c.args.right.now) b (omega (arith, long_map slot_in c.args.right.now.loose_slots.items)) in
    let g1 = frame_same s between_store (c.in_ok-before.ensures.same (frame_same _ _ (c.in_err-behind.ensures.same k)).word) in
    answer_failed s new _ _ _ c.from_residual-in_err-behind.ensures.1
    (cause_later s between_store new _ g1
    (c.in_err-behind.ensures.cause k
    (λ page load. let at = child_there s base m.mid high last rp c.args.right.now c.index-2.result.now c.index-2.result.now 0 page m.held some
    c.index-2.ensures load in
    (at.0, g1.kept page at.0 at.1))))

pub returns-in_err-behind-clause-grows : goal.returns-in_err-behind-clause-grows
returns-in_err-behind-clause-grows g c = grows_trans _ _ _ c.in_ok-before.ensures.grows c.in_err-behind.ensures.grows

pub returns-clause-grows : goal.returns-clause-grows
returns-clause-grows g c = grows_trans _ _ _ c.in_ok-before.ensures.grows c.in_ok-behind.ensures.grows

pub returns-clause-cause : goal.returns-clause-cause
returns-clause-cause g c = λ base low mid between high first last lp rp h b k. tt
