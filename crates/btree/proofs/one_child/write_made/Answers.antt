use Rattle.std.proofs.Common.{◌∙◌, ◌++◌, ◌∷◌, [], List, ℕ, ap, arith, length, map}
use Rattle.btree.specs.Few.{MakesUpTo}
use Rattle.btree.proofs.FewLemmas.{stopped}
use Rattle.btree.specs.Loose.{pivot_slot}
use Rattle.btree.specs.LooseView.{slot_in}
use Rattle.btree.proofs.OneChildLemmas.{branch_written}
use Rattle.tree_model.proofs.StoreLemmas.{grows_failed, grows_itself, grows_made}
use Rattle.btree.proofs.one_child.write_made.Goals as goal

pub returns-clause-turns : goal.returns-clause-turns
returns-clause-turns g c =
    λ base high entries reached h deep sound little k.
    branch_written (g.P.Pages.store c.args.pages.now) (g.P.Pages.store c.allocate.new.self) base c.args.rank c.in_ok-written.written c.args.low.now high
    c.args.made entries reached _ h deep sound (c.in_ok-written.ensures.makes k) c.child_loose_slot.ensures.range little
    (c.in_ok-push_loose_slot.ensures.ok
    ∙ (λ i. map slot_in (c.new-loose_slots.ensures.items i)
    ++ (c.child_loose_slot.ensures.slot ∙ ap (λ (key : List ℕ). pivot_slot (record { key = key; child = c.in_ok-written.written })) c.in_ok-key.ensures.items)
    i ∷ []))

pub returns-in_err-written-clause-few : goal.returns-in_err-written-clause-few
returns-in_err-written-clause-few g c =
    λ little k.
    let f = c.in_err-written.ensures.makes k in
    let m : MakesUpTo (g.P.Pages.store c.args.pages.now) (g.P.Pages.store c.allocate.new.self) 1 = omega (arith, ap length f.same.made) in
    stopped _ _ _ c.from_residual-in_err-written.result c.from_residual-in_err-written.ensures.1 m

pub returns-in_err-push_loose_slot-clause-few : goal.returns-in_err-push_loose_slot-clause-few
returns-in_err-push_loose_slot-clause-few g c =
    λ little k.
    let made = c.in_ok-written.ensures.makes k in
    let m : MakesUpTo (g.P.Pages.store c.args.pages.now) (g.P.Pages.store c.allocate.new.self) 1 = omega (arith, ap length made.made) in
    stopped _ _ _ c.from_residual-in_err-push_loose_slot.result c.from_residual-in_err-push_loose_slot.ensures.1 m

pub returns-in_err-key-clause-grows : goal.returns-in_err-key-clause-grows
returns-in_err-key-clause-grows g c = grows_itself (g.P.Pages.store c.args.pages.now)

pub returns-in_err-written-clause-grows : goal.returns-in_err-written-clause-grows
returns-in_err-written-clause-grows g c =
    grows_failed (g.P.Pages.store c.args.pages.now) (g.P.Pages.store c.allocate.new.self) _ c.in_err-written.ensures.stays c.in_err-written.ensures.makes

pub returns-in_err-push_loose_slot-clause-grows : goal.returns-in_err-push_loose_slot-clause-grows
returns-in_err-push_loose_slot-clause-grows g c =
    grows_made (g.P.Pages.store c.args.pages.now) (g.P.Pages.store c.allocate.new.self) _ _ c.in_ok-written.ensures.stays c.in_ok-written.ensures.makes

pub returns-clause-grows : goal.returns-clause-grows
returns-clause-grows g c =
    grows_made (g.P.Pages.store c.args.pages.now) (g.P.Pages.store c.allocate.new.self) _ _ c.in_ok-written.ensures.stays c.in_ok-written.ensures.makes
