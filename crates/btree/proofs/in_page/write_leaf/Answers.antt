use Rattle.std.proofs.Common.{◌+◌, ◌∷◌, ◌++◌, [], ◌∙◌, ap, arith, inl, inr, length, map, refl}
use Rattle.btree.specs.Few.{MakesUpTo}
use Rattle.btree.specs.LooseView.{slot_in}
use Rattle.btree.proofs.ChangingLemmas.{each_of_all, leaf_changed}
use Rattle.btree.proofs.EditLemmas.{not_edited}
use Rattle.btree.proofs.FewParts.{leaf_few}
use Rattle.btree.proofs.FewLemmas.{stopped}
use Rattle.btree.proofs.InPageLemmas.{leaf_written, none, one_few}
use Rattle.tree_model.proofs.StoreLemmas.{grows_failed, grows_itself, grows_made}
use Rattle.btree.proofs.in_page.write_leaf.Goals as goal

pub returns-then-len-lt2-clause-few : goal.returns-then-len-lt2-clause-few
returns-then-len-lt2-clause-few g c =
    λ k.
    let f = leaf_few c.args.leaf _ c.in_ok-loose_slots.ensures.ok c.len.ensures.sound in
    inl (record { rank_is = refl; small = f.0; size = f.1; made = omega arith })

pub returns-then-len-lt2-clause-turns : goal.returns-then-len-lt2-clause-turns
returns-then-len-lt2-clause-turns g c =
    λ base low high pairs rank e sound shown k.
    let s = g.P.Pages.store c.args.pages.now in
    leaf_changed s s base c.args.rank low high [] pairs c.args.leaf _ rank (not_edited s pairs c.args.leaf e sound.0 shown) c.in_ok-loose_slots.ensures.ok
    (each_of_all c.args.leaf c.len.ensures.sound.each) sound tt

pub returns-clause-few : goal.returns-clause-few
returns-clause-few g c =
    λ k.
    let key = c.in_ok-key.key.items in
    inr (one_few (g.P.Pages.store c.args.pages.now) (g.P.Pages.store c.allocate.new.self) c.args.rank c.in_ok-page.page key c.args.leaf _ c.len.ensures.sound
    (c.in_ok-page.ensures.makes k) (c.in_ok-key.ensures.items ∙ c.leaf_key.ensures (none key)) c.child_loose_slot.ensures.range
    (c.in_ok-push_loose_slot.ensures.ok ∙ (λ i. map slot_in (c.new-loose_slots.ensures.items i) ++ c.child_loose_slot.ensures.slot i ∷ [])))

pub returns-clause-turns : goal.returns-clause-turns
returns-clause-turns g c =
    λ base low high pairs rank e sound shown k.
    let key = c.in_ok-key.key.items in
    leaf_written (g.P.Pages.store c.args.pages.now)
    (g.P.Pages.store c.allocate.new.self) base c.args.rank c.in_ok-page.page low key high c.args.leaf pairs _ rank e c.len.ensures.sound sound shown
    (c.in_ok-page.ensures.makes k)
    (c.in_ok-key.ensures.items ∙ c.leaf_key.ensures (none key)) c.child_loose_slot.ensures.range
    (c.in_ok-push_loose_slot.ensures.ok ∙ (λ i. map slot_in (c.new-loose_slots.ensures.items i) ++ c.child_loose_slot.ensures.slot i ∷ []))

pub returns-in_err-page-clause-few : goal.returns-in_err-page-clause-few
returns-in_err-page-clause-few g c =
    λ k.
    let f = c.in_err-page.ensures.makes k in
    let m : MakesUpTo (g.P.Pages.store c.args.pages.now) (g.P.Pages.store c.allocate.new.self) (0 + 1) = omega (arith, ap length f.same.made) in
    stopped _ _ _ c.from_residual-in_err-page.result c.from_residual-in_err-page.ensures.1 m

pub returns-in_err-push_loose_slot-clause-few : goal.returns-in_err-push_loose_slot-clause-few
returns-in_err-push_loose_slot-clause-few g c =
    λ k.
    let made = c.in_ok-page.ensures.makes k in
    let m : MakesUpTo (g.P.Pages.store c.args.pages.now) (g.P.Pages.store c.allocate.new.self) (0 + 1) = omega (arith, ap length made.made) in
    stopped _ _ _ c.from_residual-in_err-push_loose_slot.result c.from_residual-in_err-push_loose_slot.ensures.1 m

pub returns-in_err-key-clause-grows : goal.returns-in_err-key-clause-grows
returns-in_err-key-clause-grows g c = grows_itself (g.P.Pages.store c.args.pages.now)

pub returns-in_err-page-clause-grows : goal.returns-in_err-page-clause-grows
returns-in_err-page-clause-grows g c =
    grows_failed (g.P.Pages.store c.args.pages.now) (g.P.Pages.store c.allocate.new.self) _ c.in_err-page.ensures.stays c.in_err-page.ensures.makes

pub returns-in_err-push_loose_slot-clause-grows : goal.returns-in_err-push_loose_slot-clause-grows
returns-in_err-push_loose_slot-clause-grows g c =
    grows_made (g.P.Pages.store c.args.pages.now) (g.P.Pages.store c.allocate.new.self) _ _ c.in_ok-page.ensures.stays c.in_ok-page.ensures.makes

pub returns-clause-grows : goal.returns-clause-grows
returns-clause-grows g c =
    grows_made (g.P.Pages.store c.args.pages.now) (g.P.Pages.store c.allocate.new.self) _ _ c.in_ok-page.ensures.stays c.in_ok-page.ensures.makes
