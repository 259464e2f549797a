use Rattle.std.proofs.Common.{◌<◌, arith, length, map, refl, rules}
use Rattle.btree.specs.LooseView.{slot_in}
use Rattle.btree.specs.Turn.{model_in}
use Rattle.tree_model.proofs.ListLemmas.{long_map}
use Rattle.btree.proofs.FewLemmas.{off_first, stopped}
use Rattle.btree.proofs.EndLemmas.{first_failed, first_is_child, first_off, first_loose_slots, took_first}
use Rattle.btree.proofs.joining.take_first.Goals as goal

pub returns-in_default-clause-parts : goal.returns-in_default-clause-parts
returns-in_default-clause-parts g c =
    λ base low high entries reached h deep some upto k.
    c.in_default.ensures
    (first_is_child (g.P.Pages.store c.args.pages.now) base low high entries reached (model_in c.args.node) _ _ h deep
    (omega (arith, long_map slot_in c.args.node.loose_slots.items, some))
    (first_loose_slots c.args.node.loose_slots.items c.remove-loose_slot.new.self.items c.remove-loose_slot.result c.remove-loose_slot.result.key.items some
    c.remove-loose_slot.ensures.value
    c.remove-loose_slot.ensures.items refl))

pub returns-in_err-opened-clause-parts : goal.returns-in_err-opened-clause-parts
returns-in_err-opened-clause-parts g c =
    λ base low high entries reached h deep some upto k.
    let o = first_off (g.P.Pages.store c.args.pages.now) base low high entries reached (model_in c.args.node) _ _ c.in-Some.page h
    (first_loose_slots c.args.node.loose_slots.items c.remove-loose_slot.new.self.items c.remove-loose_slot.result c.deref.result.now some
    c.remove-loose_slot.ensures.value
    c.remove-loose_slot.ensures.items c.deref.ensures.value) deep (omega (arith, long_map slot_in c.args.node.loose_slots.items, some)) c.in-Some.ensures in
    first_failed (g.P.Pages.store c.args.pages.now)
    (g.P.Pages.store c.open_page.new.pages) base low high entries reached c.from_residual.result _ c.from_residual.ensures.1
    (c.in_err-opened.ensures.opens base o.d _ o.body (omega (arith, o.rank_is)) o.at o.shown o.lies.0 o.lies.1 o.little k)

pub returns-clause-parts : goal.returns-clause-parts
returns-clause-parts g c =
    λ base low high entries reached h deep some upto k.
    let o = first_off (g.P.Pages.store c.args.pages.now) base low high entries reached (model_in c.args.node) _ _ c.in-Some.page h
    (first_loose_slots c.args.node.loose_slots.items c.remove-loose_slot.new.self.items c.remove-loose_slot.result c.deref.result.now some
    c.remove-loose_slot.ensures.value
    c.remove-loose_slot.ensures.items c.deref.ensures.value) deep (omega (arith, long_map slot_in c.args.node.loose_slots.items, some)) c.in-Some.ensures in
    took_first (g.P.Pages.store c.args.pages.now) (g.P.Pages.store c.open_page.new.pages) base low high entries reached c.args.node.rank c.in-Some.page _
    (model_in c.in_ok-opened.opened) _
    (c.in_ok-opened.ensures.grows.frame k) (omega (arith, c.requires))
    (λ base d high body r a s w so l. c.in_ok-opened.ensures.opens base d high body r a s w so l k) _ upto o

pub returns-clause-few : goal.returns-clause-few
returns-clause-few g c =
    λ k small.
    let some : 0 < length c.args.node.loose_slots.items = search rules in
    let off = off_first (map slot_in c.args.node.loose_slots.items) _ _
    (first_loose_slots c.args.node.loose_slots.items c.remove-loose_slot.new.self.items c.remove-loose_slot.result c.deref.result.now some
    c.remove-loose_slot.ensures.value
    c.remove-loose_slot.ensures.items c.deref.ensures.value) small in
    let o = c.in_ok-opened.ensures.few off.2 k in
    record { small = off.0; size = off.1; opened_small = o.small; opened_size = o.size; made = o.made }

pub returns-in_err-opened-clause-few : goal.returns-in_err-opened-clause-few
returns-in_err-opened-clause-few g c =
    λ k small.
    let some : 0 < length c.args.node.loose_slots.items = search rules in
    let off = off_first (map slot_in c.args.node.loose_slots.items) _ _
    (first_loose_slots c.args.node.loose_slots.items c.remove-loose_slot.new.self.items c.remove-loose_slot.result c.deref.result.now some
    c.remove-loose_slot.ensures.value
    c.remove-loose_slot.ensures.items c.deref.ensures.value) small in
    stopped _ _ _ c.from_residual.result c.from_residual.ensures.1 (c.in_err-opened.ensures.few off.2 k)
