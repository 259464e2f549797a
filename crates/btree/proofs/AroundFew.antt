-- How many pages are made where what stood below one child is put among the children beside it, and then among the others.
use Rattle.std.proofs.Common.{◌≡◌, ℕ, ◌+◌, ◌-◌, ◌*◌, ◌<◌, ◌≤◌, min, take, drop, List, map, refl, sym, subst, ◌++◌, length, Result, Ok, Err, ap, ◌∙◌}
use Rattle.std.proofs.Common.{arith, inl, inr}
use Rattle.page.specs.Content.{Pivot, IsBranch}
use Rattle.btree.specs.declared.node.LooseNode.{LooseNode}
use Rattle.tree_model.specs.declared.pages.TreeFault.{TreeFault}
use Rattle.btree.specs.Few.{AreFewSettled, AreNotSettled, EndsFew, EndsFewOrOne, EndsSettled, IsFew, IsFewOrOne, MakesUpTo}
use Rattle.tree_model.specs.Keys.{Each}
use Rattle.btree.specs.Loose.{IsSlot, Slot, pivot_slot, slots_size, under_key}
use Rattle.btree.specs.OneChild.{slots_between}
use Rattle.tree_model.specs.Store.{Store}
use Rattle.btree.specs.Turn.{NodeModel, model_in}
use Rattle.btree.proofs.AroundLemmas.{between_long, between_split, between_whole}
use Rattle.btree.proofs.FewParts.{both_size, branch_few}
use Rattle.btree.proofs.HeldLemmas.{under_long}
use Rattle.btree.proofs.RaiseLemmas.{each_drop, each_take}

-- ---- sizes of parts

between_small : (from to : ℕ) (slots : List Slot) → Each IsSlot slots → Each IsSlot (slots_between from to slots)
between_small from to slots h = each_drop from (take to slots) (each_take to slots h)

-- a child and those beside it
module _ (slots : List Slot) (at : ℕ) (within : at < length slots) where
  abbrev to : ℕ
  to = min (at + 2) (length slots)

  near_size : slots_size (slots_between (at - 1) at slots) + slots_size (slots_between (at + 1) to slots)
      ≤ slots_size (slots_between (at - 1) to slots)
  near_size =
      omega (
        arith,
        ap slots_size (between_split (at - 1) at to slots (omega arith) (omega arith) (omega arith)),
        both_size (slots_between (at - 1) at slots) (slots_between at to slots),
        ap slots_size (between_split at (at + 1) to slots (omega arith) (omega arith) (omega arith)),
        both_size (slots_between at (at + 1) slots) (slots_between (at + 1) to slots),
      )

  near_some : 2 ≤ length slots → 0 < length (slots_between (at - 1) at slots) + length (slots_between (at + 1) to slots)
  near_some two =
      omega (
        arith,
        between_long (at - 1) at slots (omega arith) (omega arith),
        between_long (at + 1) to slots (omega arith) (omega arith),
      )

  pub whole_size : slots_size (take (at - 1) slots) + (slots_size (slots_between (at - 1) to slots) + slots_size (drop to slots)) ≡ slots_size slots
  whole_size =
      omega (
        arith,
        ap slots_size (between_whole (at - 1) to slots (omega arith)),
        both_size (take (at - 1) slots) (slots_between (at - 1) to slots ++ drop to slots),
        both_size (slots_between (at - 1) to slots) (drop to slots),
      )

-- what is beside a child
pub record AreBeside (left right : List Slot) (near : ℕ) : Type 0 where
  pub left_small : Each IsSlot left
  pub right_small : Each IsSlot right
  pub some : 0 < length left + length right
  pub size : slots_size left + slots_size right ≤ near

pub are_beside : (low : List ℕ) (pivots : List Pivot) (at from to : ℕ) (left right : List Slot) → IsBranch pivots → at < length pivots → 6 + length low ≤ 1360
    → from ≡ at - 1 → to ≡ min (at + 2) (length pivots) → left ≡ slots_between from at (map pivot_slot (under_key low pivots))
    → right ≡ slots_between (at + 1) to (map pivot_slot (under_key low pivots))
    → AreBeside left right (slots_size (slots_between (at - 1) (min (at + 2) (length pivots)) (map pivot_slot (under_key low pivots))))
are_beside low pivots at from to left right sound within little from_is to_is left_is right_is =
    let slots : List Slot = map pivot_slot (under_key low pivots) in
    let long : length slots ≡ length pivots = under_long low pivots in
    let there : at < length slots = omega (arith, long, within) in
    let end : min (at + 2) (length slots) ≡ min (at + 2) (length pivots) = ap (λ n. min (at + 2) n) long in
    let small : Each IsSlot slots = (branch_few low pivots slots refl sound little).0 in
    let left' : left ≡ slots_between (at - 1) at slots = left_is ∙ ap (λ n. slots_between n at slots) from_is in
    let right' : right ≡ slots_between (at + 1) (min (at + 2) (length slots)) slots =
    right_is ∙ ap (λ n. slots_between (at + 1) n slots) (to_is ∙ sym end) in
    record {
      left_small = subst (Each IsSlot) (sym left') (between_small (at - 1) at slots small);
      right_small = subst (Each IsSlot) (sym right') (between_small (at + 1) (min (at + 2) (length slots)) slots small);
      some = omega (arith, near_some slots at there (omega (arith, long, sound.some)), ap length left', ap length right');
      size = omega (
        arith,
        near_size slots at there,
        ap slots_size left',
        ap slots_size right',
        ap (λ n. slots_size (slots_between (at - 1) n slots)) end,
      );
    }

-- ---- among the children beside it

module _ (first old mid : Store) (left below right : NodeModel) (rank count near : ℕ) (left_rank : left.rank ≡ rank) (right_rank : right.rank ≡ rank)
    (deep : 0 < rank) (some : 0 < length left.slots + length right.slots) (size : slots_size left.slots + slots_size right.slots ≤ near) where
  pub near_few : (l : LooseNode) → IsFewOrOne first old (rank - 1) 10880 (4 * (rank - 1) + count) below → AreFewSettled old mid left below right (model_in l)
      → IsFew first mid rank (near + 5440) (4 * rank + count) (model_in l)
  near_few l (inl few) s =
      let f = s.lower (omega arith) (omega (arith, few.rank_is)) some few.size in
      record { rank_is = f.rank_is ∙ left_rank; small = f.small; size = omega (arith, f.size, size); made = omega (arith, few.made, f.made) }
  near_few l (inr one) s =
      let f = s.level (omega arith) (omega (arith, one.rank_is)) in
      record {
        rank_is = f.rank_is ∙ left_rank;
        small = f.small;
        size = omega (arith, f.size, one.size, size);
        made = omega (arith, one.made, f.made);
      }

  pub near_failed : IsFewOrOne first old (rank - 1) 10880 (4 * (rank - 1) + count) below → AreNotSettled old mid left below right
      → MakesUpTo first mid (4 * rank + count)
  near_failed (inl few) s = let m = s.lower (omega arith) (omega (arith, few.rank_is)) some few.size in omega (arith, few.made, m)
  near_failed (inr one) s = let m = s.level (omega arith) (omega (arith, one.rank_is)) in omega (arith, one.made, m)

-- ---- and then among the others

pub others_few : (first old new : Store) (front amid back : NodeModel) (rank count near : ℕ) (r : Result LooseNode TreeFault) → front.rank ≡ rank
    → back.rank ≡ rank
    → IsFew first old rank (near + 5440) count amid → slots_size front.slots + (near + slots_size back.slots) ≤ 5440
    → EndsSettled old new front amid back r → EndsFewOrOne first new rank 10880 count r
others_few first old new front amid back rank count near (Err e) front_rank back_rank few size s =
    let m = s.level (omega arith) (omega (arith, few.rank_is)) in omega (arith, few.made, m)
others_few first old new front amid back rank count near (Ok l) front_rank back_rank few size s =
    let f = s.level (omega arith) (omega (arith, few.rank_is)) in
    inl (record { rank_is = f.rank_is ∙ front_rank; small = f.small; size = omega (arith, f.size, few.size, size); made = omega (arith, few.made, f.made) })

-- or they are written to one page
pub between_few : (first old new : Store) (rank bytes count : ℕ) (amid : NodeModel) (r : Result LooseNode TreeFault) → IsFew first old rank bytes count amid
    → EndsFew old new (rank + 1) 1360 1 r → EndsFewOrOne first new rank 10880 count r
between_few first old new rank bytes count amid (Err e) few f = omega (arith, few.made, f)
between_few first old new rank bytes count amid (Ok l) few f =
    inr (record { rank_is = f.rank_is; small = f.small; size = f.size; made = omega (arith, few.made, f.made) })
