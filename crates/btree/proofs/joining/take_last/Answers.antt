use Rattle.std.proofs.Common.{arith, map, refl}
use Rattle.btree.specs.LooseView.{slot_in}
use Rattle.btree.specs.Turn.{model_in}
use Rattle.tree_model.proofs.ListLemmas.{long_map}
use Rattle.btree.proofs.FewLemmas.{off_last, stopped}
use Rattle.btree.proofs.EndLemmas.{last_failed, last_is_child, last_off, last_loose_slots, took_last}
use Rattle.btree.proofs.joining.take_last.Goals as goal

pub returns-in_default-page_below-clause-parts : goal.returns-in_default-page_below-clause-parts
returns-in_default-page_below-clause-parts g c =
    λ base low high entries reached h deep some k.
    c.in_default-page_below.ensures
    (last_is_child (g.P.Pages.store c.args.pages.now) base low high entries reached (model_in c.args.node) _ _ h deep
    (omega (arith, long_map slot_in c.args.node.loose_slots.items, some))
    (last_loose_slots c.args.node.loose_slots.items c.pop.new.self.items c.in-Some.loose_slot c.in-Some.loose_slot.key.items c.in-Some.ensures.items refl))

pub returns-in_err-opened-clause-parts : goal.returns-in_err-opened-clause-parts
returns-in_err-opened-clause-parts g c =
    λ base low high entries reached h deep some k.
    let o = last_off (g.P.Pages.store c.args.pages.now) base low high entries reached (model_in c.args.node) _ _ c.in-Some-page_below.page h
    (last_loose_slots c.args.node.loose_slots.items c.pop.new.self.items c.in-Some.loose_slot c.deref.result.now c.in-Some.ensures.items
    c.deref.ensures.value) deep
    (omega (arith, long_map slot_in c.args.node.loose_slots.items, some)) c.in-Some-page_below.ensures in
    last_failed (g.P.Pages.store c.args.pages.now)
    (g.P.Pages.store c.open_page.new.pages) base low high entries reached c.from_residual.result _ c.from_residual.ensures.1
    (c.in_err-opened.ensures.opens base o.d high o.body (omega (arith, o.rank_is)) o.at o.shown o.lies.0 o.lies.1 o.little k)

pub returns-clause-parts : goal.returns-clause-parts
returns-clause-parts g c =
    λ base low high entries reached h deep some k.
    let o = last_off (g.P.Pages.store c.args.pages.now) base low high entries reached (model_in c.args.node) _ _ c.in-Some-page_below.page h
    (last_loose_slots c.args.node.loose_slots.items c.pop.new.self.items c.in-Some.loose_slot c.deref.result.now c.in-Some.ensures.items
    c.deref.ensures.value) deep
    (omega (arith, long_map slot_in c.args.node.loose_slots.items, some)) c.in-Some-page_below.ensures in
    took_last (g.P.Pages.store c.args.pages.now)
    (g.P.Pages.store c.open_page.new.pages) base low high entries reached c.args.node.rank c.in-Some-page_below.page _ (model_in c.in_ok-opened.opened) _
    (c.in_ok-opened.ensures.grows.frame k) (omega (arith, c.requires))
    (λ base d high body r a s w so l. c.in_ok-opened.ensures.opens base d high body r a s w so l k) _ o

pub returns-clause-few : goal.returns-clause-few
returns-clause-few g c =
    λ k small.
    let off = off_last (map slot_in c.args.node.loose_slots.items) _ _
    (last_loose_slots c.args.node.loose_slots.items c.pop.new.self.items c.in-Some.loose_slot c.deref.result.now c.in-Some.ensures.items
    c.deref.ensures.value) small in
    let o = c.in_ok-opened.ensures.few off.2 k in
    record { small = off.0; size = off.1; opened_small = o.small; opened_size = o.size; made = o.made }

pub returns-in_err-opened-clause-few : goal.returns-in_err-opened-clause-few
returns-in_err-opened-clause-few g c =
    λ k small.
    let off = off_last (map slot_in c.args.node.loose_slots.items) _ _
    (last_loose_slots c.args.node.loose_slots.items c.pop.new.self.items c.in-Some.loose_slot c.deref.result.now c.in-Some.ensures.items
    c.deref.ensures.value) small in
    stopped _ _ _ c.from_residual.result c.from_residual.ensures.1 (c.in_err-opened.ensures.few off.2 k)
