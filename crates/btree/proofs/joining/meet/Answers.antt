use Rattle.std.proofs.Common.{◌≤◌, length, arith}
use Rattle.btree.specs.LooseView.{slot_in}
use Rattle.btree.specs.Turn.{model_in}
use Rattle.tree_model.proofs.ListLemmas.{long_map}
use Rattle.btree.proofs.ChangingLemmas.{goes_before, two_ready}
use Rattle.btree.proofs.joining.meet.Goals as goal

pub returns-then-is_full-clause-turns : goal.returns-then-is_full-clause-turns
returns-then-is_full-clause-turns g c =
    λ base low mid high first last lp rp h1 h2 over upto k.
    let two : 2 ≤ length c.args.right.loose_slots.items = c.is_full.ensures.two c.if-is_full.true in
    c.raise_behind.ensures.turns base low mid high first last lp rp h1 h2
    (two_ready base (model_in c.args.right) (omega (arith, long_map slot_in c.args.right.loose_slots.items))) over upto k

pub returns-then-is_full-2-clause-turns : goal.returns-then-is_full-2-clause-turns
returns-then-is_full-2-clause-turns g c =
    λ base low mid high first last lp rp h1 h2 over upto k.
    let two : 2 ≤ length c.args.left.loose_slots.items = c.is_full-2.ensures.two c.if-is_full-2.true in
    c.raise_before.ensures.turns base low _ high first last lp rp h1
    (two_ready base (model_in c.args.left) (omega (arith, long_map slot_in c.args.left.loose_slots.items)))
    (goes_before (g.P.Pages.store c.args.pages.now) base low mid high last rp (model_in c.args.right) h2 over upto) k
