use Rattle.std.proofs.Common.{◌≡◌, ◌<◌, length, arith, subst, rules}
use Rattle.btree.specs.LooseView.{slot_in}
use Rattle.btree.specs.Turn.{IsHeld, IsUpTo, model_in}
use Rattle.tree_model.proofs.ListLemmas.{long_map}
use Rattle.btree.proofs.ChangingLemmas.{behind_none, behind_some}
use Rattle.btree.proofs.joining.meet_behind.Goals as goal

pub returns-then-is_empty-clause-turns : goal.returns-then-is_empty-clause-turns
returns-then-is_empty-clause-turns g c =
    λ base low between high first last lp rp h b upto k.
    let none : length c.args.right.loose_slots.items ≡ 0 = search rules in
    behind_none (g.P.Pages.store c.args.pages.now) base low between high first last lp rp (model_in c.args.left) (model_in c.args.right) h b upto
    (omega (arith, long_map slot_in c.args.right.loose_slots.items))

pub returns-clause-turns : goal.returns-clause-turns
returns-clause-turns g c =
    λ base low between high first last lp rp h b upto k.
    let some : 0 < length c.args.right.loose_slots.items = search rules in
    let m = behind_some (g.P.Pages.store c.args.pages.now) base between high last rp (model_in c.args.right) b
    (omega (arith, long_map slot_in c.args.right.loose_slots.items)) in
    c.meet.ensures.turns base low m.mid high first last lp rp
    (subst (λ x. IsHeld (g.P.Pages.store c.args.pages.now) base low x first lp (model_in c.args.left)) m.is h) m.held (subst (IsUpTo low) m.is upto) m.within k
