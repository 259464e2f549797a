-- Joining what was taken out of neighbouring pages.
use Rattle.std.proofs.Common.{◌≡◌, ℕ, ◌+◌, ◌<◌, ◌≤◌, Bool, true, false, List, [], ◌++◌, length, Option, Some, None, Result, Ok, Err, refl, sym, ap, ◌∙◌, subst}
use Rattle.std.proofs.Common.{append_assoc, append-nil, arith, inl, inr}
use Rattle.std.specs.Prelude.{◌==◌}
use Rattle.std.specs.Result.{IfOk}
use Rattle.std.proofs.lemmas.Bool.Decides.{nat_tests}
use Rattle.btree.specs.LooseView.{slot_in}
use Rattle.btree.specs.declared.node.LooseNode.{LooseNode}
use Rattle.tree_model.specs.declared.pages.TreeFault.{TreeFault}
use Rattle.tree_model.specs.Keys.{Entry, IsNotUnder}
use Rattle.tree_model.specs.Store.{Store, Frame}
use Rattle.btree.proofs.HeldLemmas.{IsTurn}
use Rattle.btree.specs.Turn.{AreParted, IsFirstCut, IsHeld, IsJoined, IsReady, IsTurned, IsUpTo, NodeModel, model_in}
use Rattle.tree_model.proofs.KeyLemmas.{not_under_trans}
use Rattle.tree_model.proofs.ListLemmas.{long_map, times_append}
use Rattle.btree.proofs.RaiseLemmas.{no_entries}
use Rattle.tree_model.proofs.StoreLemmas.{cause_later, frame_trans}
use Rattle.btree.proofs.WideLemmas.{spread_high, spread_low, up_to_wider}

module _ (s : Store) (base : ℕ) (low mid : List ℕ) (high : Option (List ℕ)) (first last : List Entry) (left_pages right_pages : List ℕ) (left right : NodeModel)
    (h : IsHeld s base low (Some mid) first left_pages left)
    (g : IsHeld s base mid high last right_pages right) (over : IsNotUnder mid low) (within : IsUpTo mid high) where
  pub left_gone : length left.slots ≡ 0 → IsTurned s s base low high (first ++ last) (left_pages ++ right_pages) right
  left_gone none =
      let empty = no_entries h.d h.body (omega (arith, ap length h.slots_are)) in
      let no_e : first ≡ [] = sym h.entries_are ∙ empty.0 in
      record {
        after = right_pages;
        held = record {
          d = g.d;
          body = g.body;
          rank_is = g.rank_is;
          slots_are = g.slots_are;
          small = g.small;
          spread = spread_low g.d mid low high over g.body g.spread;
          shown = g.shown;
          entries_are = g.entries_are ∙ ap (λ es. es ++ last) (sym no_e);
          pages_are = g.pages_are;
        };
        turned = λ n. omega (arith, h.pages_are n, empty.1 n, times_append n left_pages right_pages);
      }

  pub right_gone : length right.slots ≡ 0 → IsTurned s s base low high (first ++ last) (left_pages ++ right_pages) left
  right_gone none =
      let empty = no_entries g.d g.body (omega (arith, ap length g.slots_are)) in
      let no_e : last ≡ [] = sym g.entries_are ∙ empty.0 in
      record {
        after = left_pages;
        held = record {
          d = h.d;
          body = h.body;
          rank_is = h.rank_is;
          slots_are = h.slots_are;
          small = h.small;
          spread = spread_high h.d low (Some mid) high (up_to_wider mid high within) h.body h.spread;
          shown = h.shown;
          entries_are = h.entries_are ∙ sym (append-nil first) ∙ ap (λ es. first ++ es) (sym no_e);
          pages_are = h.pages_are;
        };
        turned = λ n. omega (arith, g.pages_are n, empty.1 n, times_append n left_pages right_pages);
      }

pub up_to_trans : (a mid : List ℕ) (high : Option (List ℕ)) → IsNotUnder mid a → IsUpTo mid high → IsUpTo a high
up_to_trans a mid None h g = tt
up_to_trans a mid (Some high) h g = not_under_trans a mid high h g

pub ready_joined : (base : ℕ) (part both : NodeModel) → IsReady base part → both.rank ≡ part.rank → length part.slots ≤ length both.slots → IsReady base both
ready_joined base part both ready rank long = (omega (arith, ready.0), elim ready.1 [ inl low ↦ inl (rank ∙ low) | inr two ↦ inr (omega arith) ])

-- the left one's last child was taken apart
pub turned_left : (old a b new : Store) (base : ℕ) (low mid : List ℕ) (high : Option (List ℕ)) (first last : List Entry) (left_pages right_pages : List ℕ)
    (front back below : NodeModel) (r : Result LooseNode TreeFault)
    → Frame old a → Frame a b → (p : AreParted old a base low (Some mid) first left_pages front back)
    → (t : IsTurned a b base p.mid high (p.back_entries ++ last) (p.back_pages ++ right_pages) below)
    → IsTurn b new base low high (p.front_entries ++ (p.back_entries ++ last)) (p.front_pages ++ t.after) r
    → IsTurn old new base low high (first ++ last) (left_pages ++ right_pages) r
turned_left old a b new base low mid high first last left_pages right_pages front back below (Ok l) g1 g2 p t u =
    let same : p.front_entries ++ (p.back_entries ++ last) ≡ first ++ last =
    sym (append_assoc p.front_entries p.back_entries last) ∙ ap (λ es. es ++ last) p.entries_are in
    record {
      after = u.after;
      held = subst (λ es. IsHeld new base low high es u.after (model_in l)) same u.held;
      turned = λ n. omega (
        arith,
        u.turned n,
        t.turned n,
        p.turned n,
        times_append n p.front_pages t.after,
        times_append n p.back_pages right_pages,
        times_append n p.front_pages p.back_pages,
        times_append n left_pages right_pages,
      );
    }
turned_left old a b new base low mid high first last left_pages right_pages front back below (Err e) g1 g2 p t u =
    cause_later old b new e (frame_trans old a b g1 g2) u

-- the right one's first child was taken apart
pub turned_right : (old a b new : Store) (base : ℕ) (low mid : List ℕ) (high : Option (List ℕ)) (first last : List Entry) (left_pages right_pages : List ℕ)
    (front back below : NodeModel) (r : Result LooseNode TreeFault)
    → Frame old a → Frame a b → (p : IsFirstCut old a base mid high last right_pages front back)
    → (t : IsTurned a b base low p.between (first ++ p.front_entries) (left_pages ++ p.front_pages) below)
    → IsTurn b new base low high ((first ++ p.front_entries) ++ p.back_entries) (t.after ++ p.back_pages) r
    → IsTurn old new base low high (first ++ last) (left_pages ++ right_pages) r
turned_right old a b new base low mid high first last left_pages right_pages front back below (Ok l) g1 g2 p t u =
    let same : (first ++ p.front_entries) ++ p.back_entries ≡ first ++ last =
    append_assoc first p.front_entries p.back_entries ∙ ap (λ es. first ++ es) p.entries_are in
    record {
      after = u.after;
      held = subst (λ es. IsHeld new base low high es u.after (model_in l)) same u.held;
      turned = λ n. omega (
        arith,
        u.turned n,
        t.turned n,
        p.turned n,
        times_append n t.after p.back_pages,
        times_append n left_pages p.front_pages,
        times_append n p.front_pages p.back_pages,
        times_append n left_pages right_pages,
      );
    }
turned_right old a b new base low mid high first last left_pages right_pages front back below (Err e) g1 g2 p t u =
    cause_later old b new e (frame_trans old a b g1 g2) u

-- ---- the height of what is joined

pub some_there : (len n : ℕ) (b : Bool) → b ≡ (len == 0) → b ≡ false → len ≡ n → 0 < n
some_there len n b told is_false is = let test : (len == 0) ≡ false = sym told ∙ is_false in grind (arith, nat_tests)

pub none_there : (len n : ℕ) (b : Bool) → b ≡ (len == 0) → b ≡ true → len ≡ n → n ≡ 0
none_there len n b told is_true is = let test : (len == 0) ≡ true = sym told ∙ is_true in grind (arith, nat_tests)

module _ (left right : LooseNode) where
  pub joined_gone : length left.loose_slots.items ≡ 0 → IsJoined (model_in left) (model_in right) (model_in right)
  joined_gone none =
      record {
        left_higher = λ le some. absurd (omega (arith, none, some, long_map slot_in left.loose_slots.items));
        right_higher = λ le some. (refl, omega arith);
      }

  pub joined_alone : length right.loose_slots.items ≡ 0 → IsJoined (model_in left) (model_in right) (model_in left)
  joined_alone none =
      record {
        left_higher = λ le some. (refl, omega arith);
        right_higher = λ le some. absurd (omega (arith, none, some, long_map slot_in right.loose_slots.items));
      }

  pub joined_level : (r : Result LooseNode TreeFault) → left.rank ≡ right.rank → IfOk r (λ both. both.rank ≡ left.rank)
      → IfOk r (λ both. length both.loose_slots.items ≡ length left.loose_slots.items + length right.loose_slots.items)
      → IfOk r (λ both. IsJoined (model_in left) (model_in right) (model_in both))
  joined_level (Err e) level rank long = tt
  joined_level (Ok both) level rank long =
      let long_left = long_map slot_in left.loose_slots.items in
      let long_right = long_map slot_in right.loose_slots.items in
      let long_both = long_map slot_in both.loose_slots.items in
      record {
        left_higher = λ le some. (rank, omega (arith, long, long_left, long_both));
        right_higher = λ le some. (rank ∙ level, omega (arith, long, long_right, long_both));
      }

  -- what stands for the lower one was put behind what is left of the higher one, or before it
  pub joined_behind : (r : Result LooseNode TreeFault) (front : LooseNode) → right.rank < left.rank → front.rank ≡ left.rank
      → length front.loose_slots.items + 1 ≡ length left.loose_slots.items → IfOk r (λ both. both.rank ≡ front.rank)
      → IfOk r (λ both. length front.loose_slots.items + 1 ≤ length both.loose_slots.items)
      → IfOk r (λ both. IsJoined (model_in left) (model_in right) (model_in both))
  joined_behind (Err e) front lower same one rank long = tt
  joined_behind (Ok both) front lower same one rank long =
      record {
        left_higher = λ le some. (rank ∙ same, omega (arith, one, long, long_map slot_in left.loose_slots.items, long_map slot_in both.loose_slots.items));
        right_higher = λ le some. absurd (omega (arith, lower, le));
      }

  pub joined_before : (r : Result LooseNode TreeFault) (back : LooseNode) → left.rank < right.rank → back.rank ≡ right.rank
      → length back.loose_slots.items + 1 ≡ length right.loose_slots.items → IfOk r (λ both. both.rank ≡ back.rank)
      → IfOk r (λ both. length back.loose_slots.items + 1 ≤ length both.loose_slots.items)
      → IfOk r (λ both. IsJoined (model_in left) (model_in right) (model_in both))
  joined_before (Err e) back lower same one rank long = tt
  joined_before (Ok both) back lower same one rank long =
      record {
        left_higher = λ le some. absurd (omega (arith, lower, le));
        right_higher = λ le some. (rank ∙ same, omega (arith, one, long, long_map slot_in right.loose_slots.items, long_map slot_in both.loose_slots.items));
      }
