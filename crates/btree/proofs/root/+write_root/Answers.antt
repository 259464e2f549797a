use Rattle.std.proofs.Common.{◌≡◌, ◌<◌, ◌∙◌, ◌∷◌, length, map, ap, arith, inl, inr, rules}
use Rattle.btree.specs.Loose.{slots_size}
use Rattle.btree.specs.LooseView.{slot_in}
use Rattle.btree.specs.Turn.{model_in}
use Rattle.btree.proofs.FewLemmas.{not_alone, raise_failed, root_few}
use Rattle.btree.proofs.HeldLemmas.{no_slots}
use Rattle.tree_model.proofs.ListLemmas.{long_map}
use Rattle.btree.proofs.RaiseLemmas.{head_of}
use Rattle.btree.proofs.RootLemmas.{change_failed, change_on, changed_head, changed_none, head_of_one, itself, many_slots, ready_top, too_high}
use Rattle.tree_model.proofs.StoreLemmas.{grows_trans}
use Rattle.btree.proofs.root.+write_root.Goals as goal

pub returns-then-is_empty-clause-roots : goal.returns-then-is_empty-clause-roots
returns-then-is_empty-clause-roots g t c =
    λ entries reached h k.
    let none : length c.args.top.loose_slots.items ≡ 0 = search rules in
    changed_none (g.P.Pages.store c.args.pages.now) entries reached (model_in c.args.top) h (omega (arith, long_map slot_in c.args.top.loose_slots.items))

pub returns-then-top-gt-LEVELS-clause-roots : goal.returns-then-top-gt-LEVELS-clause-roots
returns-then-top-gt-LEVELS-clause-roots g t c =
    λ entries reached h k.
    let some : 0 < length c.args.top.loose_slots.items = search rules in
    inr (too_high (g.P.Pages.store c.args.pages.now) _ _ entries reached (model_in c.args.top) h
    (inl (c.if-top-gt-LEVELS.true, omega (arith, long_map slot_in c.args.top.loose_slots.items))))

pub returns-in-Some-clause-roots : goal.returns-in-Some-clause-roots
returns-in-Some-clause-roots g t c =
    λ entries reached h k.
    let one = c.in-Some.ensures.one in
    let head = head_of (map slot_in c.args.top.loose_slots.items) (omega (arith, long_map slot_in c.args.top.loose_slots.items, one)) in
    let rest : length head.rest ≡ 0 = omega (arith, ap length head.is, long_map slot_in c.args.top.loose_slots.items, one) in
    changed_head (g.P.Pages.store c.args.pages.now) (g.P.Pages.store c.args.pages.now) c.in-Some.page entries reached reached
    (itself (g.P.Pages.store c.args.pages.now) reached)
    (head_of_one (g.P.Pages.store c.args.pages.now) entries reached (model_in c.args.top) c.in-Some.page head.s h (omega (arith, c.if-top-gt-LEVELS.false))
    (head.is ∙ ap (λ ss. head.s ∷ ss) (no_slots head.rest rest)) (c.in-Some.ensures.page head.s head.rest head.is))

pub returns-then-top-eq-LEVELS-clause-roots : goal.returns-then-top-eq-LEVELS-clause-roots
returns-then-top-eq-LEVELS-clause-roots g t c =
    λ entries reached h k.
    let some : 0 < length c.args.top.loose_slots.items = search rules in
    let long : 0 < length (map slot_in c.args.top.loose_slots.items) = omega (arith, long_map slot_in c.args.top.loose_slots.items) in
    inr (too_high (g.P.Pages.store c.args.pages.now) _ _ entries reached (model_in c.args.top) h
    (inr (
      c.if-top-eq-LEVELS.true,
      many_slots (g.P.Pages.store c.args.pages.now) entries reached (model_in c.args.top) h c.if-top-eq-LEVELS.true long c.in_default.ensures.none,
    )))

pub returns-in_err-above-clause-roots : goal.returns-in_err-above-clause-roots
returns-in_err-above-clause-roots g t c =
    λ entries reached h k.
    let some : 0 < length c.args.top.loose_slots.items = search rules in
    let long : 0 < length (map slot_in c.args.top.loose_slots.items) = omega (arith, long_map slot_in c.args.top.loose_slots.items) in
    change_failed (g.P.Pages.store c.args.pages.now) (g.P.Pages.store c.raise.new.pages) entries reached c.from_residual.result _ c.from_residual.ensures.1
    (c.in_err-above.ensures.turns 0 _ _ entries reached h
    (ready_top (g.P.Pages.store c.args.pages.now) entries reached (model_in c.args.top) h long c.in_default.ensures.none) k)

pub returns-clause-roots : goal.returns-clause-roots
returns-clause-roots g t c =
    λ entries reached h k.
    let some : 0 < length c.args.top.loose_slots.items = search rules in
    let long : 0 < length (map slot_in c.args.top.loose_slots.items) = omega (arith, long_map slot_in c.args.top.loose_slots.items) in
    let word = (c.write_root.ensures.grows.frame k).word in
    let u = c.in_ok-above.ensures.turns 0 _ _ entries reached h
    (ready_top (g.P.Pages.store c.args.pages.now) entries reached (model_in c.args.top) h long c.in_default.ensures.none) word in
    change_on (g.P.Pages.store c.args.pages.now) (g.P.Pages.store c.raise.new.pages)
    (g.P.Pages.store c.write_root.new.pages) entries reached u.after c.write_root.result (c.in_ok-above.ensures.grows.frame word) u.turned
    (c.write_root.ensures.roots entries u.after u.held k)

pub returns-clause-grows : goal.returns-clause-grows
returns-clause-grows g t c = grows_trans _ _ _ c.in_ok-above.ensures.grows c.write_root.ensures.grows

pub returns-clause-few : goal.returns-clause-few
returns-clause-few g t c =
    λ halvings little k.
    let word = (c.write_root.ensures.grows.frame k).word in
    let some : 0 < length c.args.top.loose_slots.items = search rules in
    root_few (g.P.Pages.store c.args.pages.now) (g.P.Pages.store c.raise.new.pages) (g.P.Pages.store c.write_root.new.pages) halvings _
    (map slot_in c.in_ok-above.above.loose_slots.items) little.1
    (omega (arith, c.in_ok-above.ensures.some some, long_map slot_in c.in_ok-above.above.loose_slots.items)) (c.in_ok-above.ensures.few word little.0)
    (λ h less. c.write_root.ensures.few h less k) (λ one. c.write_root.ensures.alone one k)

pub returns-clause-alone : goal.returns-clause-alone
returns-clause-alone g t c = λ one k. absurd (not_alone (map slot_in c.args.top.loose_slots.items) one c.in_default.ensures.none)

pub returns-in_err-above-clause-few : goal.returns-in_err-above-clause-few
returns-in_err-above-clause-few g t c =
    λ halvings little k.
    raise_failed (g.P.Pages.store c.args.pages.now) (g.P.Pages.store c.raise.new.pages) halvings (slots_size (map slot_in c.args.top.loose_slots.items))
    little.1
    (c.in_err-above.ensures.few k little.0)

pub returns-in_err-above-clause-alone : goal.returns-in_err-above-clause-alone
returns-in_err-above-clause-alone g t c = λ one k. absurd (not_alone (map slot_in c.args.top.loose_slots.items) one c.in_default.ensures.none)
