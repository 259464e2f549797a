use Rattle.std.proofs.Common.{◌∙◌, ◌-◌, ◌*◌, ◌+◌, arith, ap, length, map, min}
use Rattle.btree.specs.Few.{MakesUpTo}
use Rattle.btree.specs.Loose.{pivot_slot, under_key}
use Rattle.btree.specs.LooseView.{slot_in}
use Rattle.btree.specs.OneChild.{slots_between}
use Rattle.btree.specs.Turn.{model_in}
use Rattle.btree.proofs.AroundFew.{are_beside, near_failed, near_few}
use Rattle.btree.proofs.AroundLemmas.{near_done, near_stopped}
use Rattle.btree.proofs.FewLemmas.{few_made, few_small, stopped}
use Rattle.btree.proofs.HeldLemmas.{turns_failed}
use Rattle.tree_model.proofs.StoreLemmas.{grows_trans}
use Rattle.btree.proofs.changing.put_apart.Goals as goal

pub returns-clause-grows : goal.returns-clause-grows
returns-clause-grows g c = grows_trans _ _ _ c.in_ok-amid.ensures.grows c.put_between.ensures.grows

pub returns-clause-turns : goal.returns-clause-turns
returns-clause-turns g c =
    λ base high entries reached m deep little k.
    let s = g.P.Pages.store c.args.pages.now in
    let mid = g.P.Pages.store c.settle.new.pages in
    let pivots = c.args.branch.now in
    let slots = map pivot_slot (under_key c.args.low.now pivots) in
    let frame = c.put_between.ensures.grows.frame k in
    near_done s base c.args.low.now high pivots c.args.at c.args.rank entries reached (model_in c.args.below) (model_in c.in_ok-left.left)
    (model_in c.in_ok-right.right) m (c.args.at - 1) (min (c.args.at + 2) (length pivots)) (omega arith) (omega (arith, c.requires.place))
    (c.in_ok-left.ensures.ok ∙ ap (λ n. slots_between n c.args.at slots) c.saturating_sub-from.ensures) c.in_ok-left.ensures.rank
    (c.in_ok-right.ensures.ok ∙ ap (λ n. slots_between (c.args.at + 1) n slots) c.place_behind-to.ensures.place) c.in_ok-right.ensures.rank
    mid (c.in_ok-amid.ensures.grows.frame frame.word) (g.P.Pages.store c.put_between.new.pages) (model_in c.in_ok-amid.amid) c.put_between.result
    (λ low' key between end first last inner fp ip lp l i b over inside within.
    c.in_ok-amid.ensures.turns base low' key between end first inner last fp ip lp l i b over inside within frame.word)
    (λ then around. c.put_between.ensures.turns base high entries then around deep little k)

pub returns-in_err-amid-clause-turns : goal.returns-in_err-amid-clause-turns
returns-in_err-amid-clause-turns g c =
    λ base high entries reached m deep little k.
    let s = g.P.Pages.store c.args.pages.now in
    let mid = g.P.Pages.store c.settle.new.pages in
    let pivots = c.args.branch.now in
    let slots = map pivot_slot (under_key c.args.low.now pivots) in
    turns_failed s mid base c.args.low.now high entries reached c.from_residual-in_err-amid.result _ c.from_residual-in_err-amid.ensures.1
    (near_stopped s base c.args.low.now high pivots c.args.at c.args.rank entries reached (model_in c.args.below) (model_in c.in_ok-left.left)
    (model_in c.in_ok-right.right) m (c.args.at - 1) (min (c.args.at + 2) (length pivots)) (omega arith) (omega (arith, c.requires.place))
    (c.in_ok-left.ensures.ok ∙ ap (λ n. slots_between n c.args.at slots) c.saturating_sub-from.ensures) c.in_ok-left.ensures.rank
    (c.in_ok-right.ensures.ok ∙ ap (λ n. slots_between (c.args.at + 1) n slots) c.place_behind-to.ensures.place) c.in_ok-right.ensures.rank
    mid (c.in_err-amid.ensures.grows.frame k) _
    (λ low' key between end first last inner fp ip lp l i b over inside within.
    c.in_err-amid.ensures.turns base low' key between end first inner last fp ip lp l i b over inside within k))

pub returns-clause-few : goal.returns-clause-few
returns-clause-few g c =
    λ first count little below k.
    let s = g.P.Pages.store c.args.pages.now in
    let mid = g.P.Pages.store c.settle.new.pages in
    let left = c.in_ok-left.left in
    let right = c.in_ok-right.right in
    let b = are_beside c.args.low.now c.args.branch.now c.args.at c.saturating_sub-from.result c.place_behind-to.result (map slot_in left.loose_slots.items)
    (map slot_in right.loose_slots.items) c.requires.sound c.requires.place little c.saturating_sub-from.ensures c.place_behind-to.ensures.place
    c.in_ok-left.ensures.ok c.in_ok-right.ensures.ok in
    c.put_between.ensures.few first (4 * c.args.rank + count) little
    (near_few first s mid (model_in left) (model_in c.args.below) (model_in right) c.args.rank count _ c.in_ok-left.ensures.rank c.in_ok-right.ensures.rank
    c.requires.rank b.some b.size c.in_ok-amid.amid below
    (c.in_ok-amid.ensures.few (c.put_between.ensures.grows.frame k).word b.left_small
    (few_small first s (c.args.rank - 1) 10880 (4 * (c.args.rank - 1) + count) (model_in c.args.below) below) b.right_small)) k

pub returns-in_err-amid-clause-few : goal.returns-in_err-amid-clause-few
returns-in_err-amid-clause-few g c =
    λ first count little below k.
    let s = g.P.Pages.store c.args.pages.now in
    let mid = g.P.Pages.store c.settle.new.pages in
    let left = c.in_ok-left.left in
    let right = c.in_ok-right.right in
    let b = are_beside c.args.low.now c.args.branch.now c.args.at c.saturating_sub-from.result c.place_behind-to.result (map slot_in left.loose_slots.items)
    (map slot_in right.loose_slots.items) c.requires.sound c.requires.place little c.saturating_sub-from.ensures c.place_behind-to.ensures.place
    c.in_ok-left.ensures.ok c.in_ok-right.ensures.ok in
    let m : MakesUpTo first mid (4 * c.args.rank + count + 1) =
    omega (
      arith,
      near_failed first s mid (model_in left) (model_in c.args.below) (model_in right) c.args.rank count _ c.in_ok-left.ensures.rank
          c.in_ok-right.ensures.rank c.requires.rank b.some b.size below
          (c.in_err-amid.ensures.few k b.left_small (few_small first s (c.args.rank - 1) 10880 (4 * (c.args.rank - 1) + count) (model_in c.args.below) below)
          b.right_small),
    ) in
    stopped _ _ _ c.from_residual-in_err-amid.result c.from_residual-in_err-amid.ensures.1 m

pub returns-in_err-left-clause-few : goal.returns-in_err-left-clause-few
returns-in_err-left-clause-few g c =
    λ first count little below k.
    let s = g.P.Pages.store c.args.pages.now in
    let rank = c.args.rank in
    let m : MakesUpTo first s (4 * rank + count + 1) =
    omega (arith, c.requires.rank, few_made first s (rank - 1) 10880 (4 * (rank - 1) + count) (model_in c.args.below) below) in
    stopped _ _ _ c.from_residual.result c.from_residual.ensures.1 m

pub returns-in_err-right-clause-few : goal.returns-in_err-right-clause-few
returns-in_err-right-clause-few g c =
    λ first count little below k.
    let s = g.P.Pages.store c.args.pages.now in
    let rank = c.args.rank in
    let m : MakesUpTo first s (4 * rank + count + 1) =
    omega (arith, c.requires.rank, few_made first s (rank - 1) 10880 (4 * (rank - 1) + count) (model_in c.args.below) below) in
    stopped _ _ _ c.from_residual-in_err-right.result c.from_residual-in_err-right.ensures.1 m
