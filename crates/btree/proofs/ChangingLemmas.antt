-- A change from a page down.
use Rattle.std.proofs.Common.{◌≡◌, ℕ, zero, suc, ◌-◌, ◌<◌, ◌≤◌, drop, get_or, List, [], ◌∷◌, ◌++◌, length, map, Option, Some, None, Result, Ok, Err, refl, sym}
use Rattle.std.proofs.Common.{ap, ◌∙◌, subst, arith, inl, inr, append-nil}
use Rattle.tree_model.specs.declared.edit.Edit.{Edit as ProgramEdit}
use Rattle.btree.specs.declared.node.LooseNode.{LooseNode}
use Rattle.tree_model.specs.declared.pages.TreeFault.{TreeFault}
use Rattle.btree.specs.Change.{IsBehind, IsHeldBehind}
use Rattle.tree_model.specs.EditView.{edit_in}
use Rattle.tree_model.specs.Keys.{Pair, entry_of, Edit, Entry, Each, IsBetween, IsNotUnder, change}
use Rattle.std.specs.List.{AllByRecursion}
use Rattle.page.specs.Content.{Pivot, Item, IsItem, branch, leaf}
use Rattle.tree_model.specs.Calls.{IsEdited}
use Rattle.btree.specs.Loose.{IsSlot, Slot, pivot_slot, first_or, item_slot, under_key}
use Rattle.tree_model.specs.Tree.{Body, IsSound, content_of, item_of, pages_of}
use Rattle.tree_model.specs.Store.{Store, Frame}
use Rattle.tree_model.proofs.StoreLemmas.{cause_later}
use Rattle.tree_model.specs.Reach.{AreTurned}
use Rattle.btree.specs.Turn.{GoesBefore, IsHeld, IsReady, IsTurned, IsUpTo, NodeModel}
use Rattle.tree_model.proofs.ListLemmas.{drop_more, map_map, times_append}
use Rattle.btree.proofs.HeldLemmas.{IsTurn, glue_held, held_later}
use Rattle.btree.proofs.JoinLemmas.{right_gone}

pub behind_more : (es : List ProgramEdit) (n : ℕ) (key : List ℕ) (d : ProgramEdit) → 0 < n → n ≤ length es → IsNotUnder (get_or es (n - 1) d).key.now key
    → Each (λ (e : Edit). IsNotUnder e.key key) (drop n (map edit_in es))
    → Each (λ (e : Edit). IsNotUnder e.key key) (drop (n - 1) (map edit_in es))
behind_more es n key d lt le one more =
    let same : n ≡ suc (n - 1) = omega arith in
    subst (Each (λ (e : Edit). IsNotUnder e.key key)) (sym (drop_more edit_in es (n - 1) d (omega arith)))
    (one, subst (λ k. Each (λ (e : Edit). IsNotUnder e.key key) (drop k (map edit_in es))) same more)

-- what goes before what is held
pub goes_before : (s : Store) (base : ℕ) (low mid : List ℕ) (high : Option (List ℕ)) (last : List Entry) (pages : List ℕ) (back : NodeModel)
    → IsHeld s base mid high last pages back → IsNotUnder mid low → IsUpTo mid high
    → GoesBefore s base low (Some mid) high last pages back
goes_before s base low mid high last pages back h over upto =
    λ t more reached model grown g same. glue_held t base low mid high more last reached pages model back g
    (held_later s t base mid high last pages back grown h) same over upto

pub two_ready : (base : ℕ) (model : NodeModel) → 2 ≤ length model.slots → IsReady base model
two_ready base model two = (omega arith, inr two)

-- nothing is behind
pub behind_none : (s : Store) (base : ℕ) (low : List ℕ) (between high : Option (List ℕ)) (first last : List Entry) (left_pages right_pages : List ℕ)
    (left right : NodeModel) → IsHeld s base low between first left_pages left
    → IsBehind s base between high last right_pages right → IsUpTo low between → length right.slots ≡ 0
    → IsTurned s s base low high (first ++ last) (left_pages ++ right_pages) left
behind_none s base low between high first last left_pages right_pages left right h (inl e) upto none =
    record {
      after = left_pages;
      held = subst (λ b. IsHeld s base low b (first ++ last) left_pages left) e.1
          (subst (λ es. IsHeld s base low between es left_pages left) (sym (append-nil first) ∙ ap (λ es. first ++ es) (sym e.2)) h);
      turned = λ n. omega (arith, e.3 n, times_append n left_pages right_pages);
    }
behind_none s base low between high first last left_pages right_pages left right h (inr m) upto none =
    right_gone s base low m.mid high first last left_pages right_pages left right (subst (λ b. IsHeld s base low b first left_pages left) m.is h) m.held
    (subst (IsUpTo low) m.is upto) m.within none

-- something is
pub behind_some : (s : Store) (base : ℕ) (between high : Option (List ℕ)) (last : List Entry) (pages : List ℕ) (right : NodeModel)
    → IsBehind s base between high last pages right → 0 < length right.slots
    → IsHeldBehind s base between high last pages right
behind_some s base between high last pages right (inl e) some = absurd (omega (arith, ap length e.0))
behind_some s base between high last pages right (inr m) some = m

pub behind_later : (old new : Store) (base : ℕ) (between high : Option (List ℕ)) (last : List Entry) (pages : List ℕ) (right : NodeModel) → Frame old new
    → IsBehind old base between high last pages right
    → IsBehind new base between high last pages right
behind_later old new base between high last pages right grows (inl e) = inl e
behind_later old new base between high last pages right grows (inr m) =
    inr (record { mid = m.mid; is = m.is; held = held_later old new base m.mid high last pages right grows m.held; within = m.within })

-- ---- a leaf

each_item_slot : (items : List Item) → Each IsItem items → Each IsSlot (map item_slot items)
each_item_slot [] h = tt
each_item_slot (x ∷ xs) h = (record { size = h.0.size; load = h.0.place }, each_item_slot xs h.1)

pub each_of_all : (items : List Item) → AllByRecursion IsItem items → Each IsItem items
each_of_all [] h = tt
each_of_all (x ∷ xs) h = (h.0, each_of_all xs h.1)

pub leaf_changed : (old new : Store) (base rank : ℕ) (low : List ℕ) (high : Option (List ℕ)) (edits : List Edit) (pairs : List Pair) (items : List Item)
    (slots : List Slot) → rank ≡ base → IsEdited old new edits pairs items
    → slots ≡ map item_slot items → Each IsItem items → IsSound zero low high pairs → Each (λ e. IsBetween low high e.key) edits
    → IsTurned old new base low high (change edits (map entry_of pairs)) (pages_of zero pairs) (record { rank = rank; slots = slots })
leaf_changed old new base rank low high edits pairs items slots is h slots_are small sound between =
    record {
      after = pages_of zero h.pairs;
      held = record {
        d = zero;
        body = h.pairs;
        rank_is = λ lt. omega arith;
        slots_are = slots_are ∙ ap (map item_slot) h.items_are ∙ map_map item_of item_slot h.pairs;
        small = subst (Each IsSlot) (sym slots_are) (each_item_slot items small);
        spread = (h.rise, h.between low high sound.1 between);
        shown = h.shown;
        entries_are = h.entries;
        pages_are = λ n. refl;
      };
      turned = h.pages;
    }

-- ---- after a page was retired

pub turned_on : (old mid new : Store) (base : ℕ) (low : List ℕ) (high : Option (List ℕ)) (entries : List Entry) (before between : List ℕ)
    (r : Result LooseNode TreeFault) → Frame old mid → AreTurned old mid before between
    → IsTurn mid new base low high entries between r → IsTurn old new base low high entries before r
turned_on old mid new base low high entries before between
    (Ok l) grows t u = record { after = u.after; held = u.held; turned = λ n. omega (arith, t n, u.turned n) }
turned_on old mid new base low high entries before between (Err e) grows t u = cause_later old mid new e grows u

pub at_leaf : (C : (d : ℕ) → Body d → Type 0) (items : List Item) → ((pairs : List Pair) → items ≡ map item_of pairs → C zero pairs) → (d : ℕ) (body : Body d)
    → leaf items ≡ content_of d body → C d body
at_leaf C items f zero pairs e = let same : items ≡ map item_of pairs = cc in f pairs same
at_leaf C items f (suc d) subtrees e = cc

pub branch_deep : (d : ℕ) (body : Body d) (pivots : List Pivot) → branch pivots ≡ content_of d body → 0 < d
branch_deep zero pairs pivots e = cc
branch_deep (suc d) subtrees pivots e = omega arith

pub begins : (low : List ℕ) (pivots : List Pivot) (slots : List Slot) → slots ≡ map pivot_slot (under_key low pivots) → 0 < length slots
    → first_or None slots ≡ Some low
begins low [] slots e some = absurd (omega (arith, ap length e))
begins low (a ∷ more) slots e some = ap (first_or None) e
