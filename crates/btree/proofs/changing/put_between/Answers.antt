use Rattle.std.proofs.Common.{◌≡◌, ◌∙◌, ◌+◌, ◌-◌, ℕ, Some, ap, arith, drop, length, map, min, subst, refl, sym, take}
use Rattle.btree.specs.Change.{IsBehind}
use Rattle.btree.specs.Few.{MakesUpTo}
use Rattle.tree_model.specs.Keys.{Each}
use Rattle.btree.specs.Loose.{IsSlot, pivot_slot, slots_size, under_key}
use Rattle.btree.specs.LooseView.{slot_in}
use Rattle.btree.specs.OneChild.{IsAround, slots_between}
use Rattle.btree.specs.Turn.{IsHeld, model_in}
use Rattle.btree.proofs.AroundFew.{between_few, others_few, whole_size}
use Rattle.btree.proofs.AroundLemmas.{around_done}
use Rattle.btree.proofs.CuttingLemmas.{take_over}
use Rattle.btree.proofs.FewLemmas.{stopped}
use Rattle.btree.proofs.FewParts.{branch_few}
use Rattle.btree.proofs.HeldLemmas.{under_long}
use Rattle.btree.proofs.RaiseLemmas.{each_drop, each_take}
use Rattle.btree.proofs.changing.put_between.Goals as goal

pub write_between-requires-clause-sound : goal.write_between-requires-clause-sound
write_between-requires-clause-sound g c =
    λ pivots e. c.go_between.ensures.sound pivots (ap (map slot_in) (sym c.deref.ensures.value) ∙ e) c.if-go_between.true

pub returns-then-go_between-clause-turns : goal.returns-then-go_between-clause-turns
returns-then-go_between-clause-turns g c =
    λ base high entries reached m deep little k.
    let pivots = c.args.branch.now in
    c.write_between.ensures.turns base high entries reached
    (subst (IsAround (g.P.Pages.store c.args.pages.now) base c.args.low.now high (map pivot_slot (under_key c.args.low.now pivots)) (c.args.at - 1)
    (min (c.args.at + 2) (length pivots)) c.args.rank entries reached)
    (λ i. record { rank = (c.go_between.ensures.rank c.if-go_between.true).0 i; slots = map slot_in (sym c.deref.ensures.value i) }) m) deep little k

pub returns-then-go_between-clause-few : goal.returns-then-go_between-clause-few
returns-then-go_between-clause-few g c =
    λ first count little few k.
    between_few first (g.P.Pages.store c.args.pages.now) (g.P.Pages.store c.write_between.new.pages) c.args.rank _ count (model_in c.args.amid)
    c.write_between.result few (c.write_between.ensures.few little k)

pub returns-clause-turns : goal.returns-clause-turns
returns-clause-turns g c =
    λ base high entries reached m deep little k.
    let s = g.P.Pages.store c.args.pages.now in
    let pivots = c.args.branch.now in
    let slots = map pivot_slot (under_key c.args.low.now pivots) in
    let front_is : map slot_in c.in_ok-front.front.loose_slots.items ≡ take (c.args.at - 1) slots =
    c.in_ok-front.ensures.ok ∙ ap (λ n. take n slots) c.saturating_sub-from.ensures in
    let back_is : map slot_in c.in_ok-back.back.loose_slots.items ≡ drop (min (c.args.at + 2) (length pivots)) slots =
    c.in_ok-back.ensures.ok
    ∙ ap (drop c.place_behind-to.result) (take_over c.len.result slots (omega (arith, c.len.ensures.count, under_long c.args.low.now pivots)))
    ∙ ap (λ n. drop n slots) c.place_behind-to.ensures.place in
    around_done s (g.P.Pages.store c.settle.new.pages) base c.args.low.now high slots (c.args.at - 1) (min (c.args.at + 2) (length pivots)) c.args.rank
    entries reached (model_in c.args.amid) c.settle.result m
    (c.settle.ensures.turns base c.args.low.now m.key m.between high m.front_entries m.mid_entries m.back_entries m.front_pages m.mid_pages m.back_pages
    (subst (IsHeld s base c.args.low.now (Some m.key) m.front_entries m.front_pages)
    (λ i. record { rank = sym c.in_ok-front.ensures.rank i; slots = sym front_is i }) m.front_held) m.held
    (subst (IsBehind s base m.between high m.back_entries m.back_pages)
    (λ i. record { rank = sym c.in_ok-back.ensures.rank i; slots = sym back_is i }) m.behind) m.over m.inside m.within k)

pub returns-clause-few : goal.returns-clause-few
returns-clause-few g c =
    λ first count little few k.
    let s = g.P.Pages.store c.args.pages.now in
    let pivots = c.args.branch.now in
    let slots = map pivot_slot (under_key c.args.low.now pivots) in
    let to : ℕ = min (c.args.at + 2) (length pivots) in
    let whole = branch_few c.args.low.now pivots slots refl c.requires.sound little in
    let long : length slots ≡ length pivots = under_long c.args.low.now pivots in
    let to_is : min (c.args.at + 2) (length slots) ≡ to = ap (λ n. min (c.args.at + 2) n) long in
    let front_is : map slot_in c.in_ok-front.front.loose_slots.items ≡ take (c.args.at - 1) slots =
    c.in_ok-front.ensures.ok ∙ ap (λ n. take n slots) c.saturating_sub-from.ensures in
    let back_is : map slot_in c.in_ok-back.back.loose_slots.items ≡ drop to slots =
    c.in_ok-back.ensures.ok ∙ ap (drop c.place_behind-to.result) (take_over c.len.result slots (omega (arith, c.len.ensures.count, long)))
    ∙ ap (λ n. drop n slots) c.place_behind-to.ensures.place in
    let size = subst (λ n. slots_size (take (c.args.at - 1) slots) + (slots_size (slots_between (c.args.at - 1) n slots) + slots_size (drop n slots))
    ≡ slots_size slots) to_is (whole_size slots c.args.at (omega (arith, long, c.requires.place))) in
    others_few first s (g.P.Pages.store c.settle.new.pages) (model_in c.in_ok-front.front) (model_in c.args.amid) (model_in c.in_ok-back.back) c.args.rank count
    (slots_size (slots_between (c.args.at - 1) to slots)) c.settle.result c.in_ok-front.ensures.rank c.in_ok-back.ensures.rank few
    (omega (arith, ap slots_size front_is, ap slots_size back_is, size, whole.1))
    (c.settle.ensures.few k (subst (Each IsSlot) (sym front_is) (each_take (c.args.at - 1) slots whole.0)) few.small
    (subst (Each IsSlot) (sym back_is) (each_drop to slots whole.0)))

pub returns-in_err-front-clause-few : goal.returns-in_err-front-clause-few
returns-in_err-front-clause-few g c =
    λ first count little few k.
    let m : MakesUpTo first (g.P.Pages.store c.args.pages.now) (count + 1) = omega (arith, few.made) in
    stopped _ _ _ c.from_residual.result c.from_residual.ensures.1 m

pub returns-in_err-back-clause-few : goal.returns-in_err-back-clause-few
returns-in_err-back-clause-few g c =
    λ first count little few k.
    let m : MakesUpTo first (g.P.Pages.store c.args.pages.now) (count + 1) = omega (arith, few.made) in
    stopped _ _ _ c.from_residual-in_err-back.result c.from_residual-in_err-back.ensures.1 m
