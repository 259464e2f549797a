-- Edits of a leaf that stays one page.
use Rattle.std.proofs.Common.{◌≡◌, ℕ, zero, suc, ◌+◌, ◌^◌, ◌<◌, ◌≤◌, Bool, true, false, List, [], ◌∷◌, ◌++◌, length, map, take, get_or, Option, Some, Result}
use Rattle.std.proofs.Common.{Ok, Err, refl, sym, ap, ◌∙◌, subst, arith, append-nil, inl, inr}
use Rattle.std.specs.Prelude.{◌&&◌}
use Rattle.std.specs.List.{AllByRecursion, insert, remove}
use Rattle.std.specs.Ordering.{is_eq, is_lt, nat_cmp}
use Rattle.std.specs.Cmp.Lexicographic.{slice_cmp}
use Rattle.std.specs.declared.cmp.Ordering.{Ordering}
use Rattle.std.specs.declared.cmp.Ordering.TheVariants.{Less, Equal, Greater}
use Rattle.page.specs.Content.{Item, IsItem, IsLeaf, inline, is_below, item_keys, item_size, leaf, rise, rise_above, total}
use Rattle.btree.specs.declared.node.LooseNode.{LooseNode}
use Rattle.tree_model.specs.declared.pages.TreeFault.{TreeFault}
use Rattle.tree_model.specs.declared.edit.Edit.{Edit as ProgramEdit}
use Rattle.tree_model.specs.EditView.{edit_in}
use Rattle.tree_model.specs.Calls.{IsAnswer, IsEdited, IsPutIn, IsStored, IsTakenOut}
use Rattle.btree.specs.Few.{IsFew, edit_room}
use Rattle.tree_model.specs.Keys.{Each, Edit, IsNotUnder, IsUnder, Pair, Rises, change, entry_of, key_cmp, sum_of, times}
use Rattle.btree.specs.Loose.{IsSlot, Slot, pivot_slot, pair_slot, slots_size}
use Rattle.tree_model.specs.Search.{IsGap, IsPlace}
use Rattle.tree_model.specs.Store.{Frame, IsAt, IsMade, Store}
use Rattle.tree_model.specs.Tree.{HasChain, IsSound, Shows, item_of, pages_of, pair_keys}
use Rattle.btree.specs.Turn.{IsTurned}
use Rattle.btree.proofs.ChangingLemmas.{turned_on}
use Rattle.btree.proofs.EditLemmas.{edits_more, insert_here, put_key, remove_here}
use Rattle.btree.proofs.HeldLemmas.{IsTurn}
use Rattle.tree_model.proofs.KeyLemmas.{not_under_cases, under_trans, up_to_then_under}
use Rattle.tree_model.proofs.ListLemmas.{At, at_place, each_map, each_of_map, get_front, get_here, long_append, map_append, rises_across, rises_append}
use Rattle.tree_model.proofs.ListLemmas.{rises_back}
use Rattle.tree_model.proofs.ListLemmas.{rises_front}
use Rattle.btree.proofs.SplitLemmas.{spread_up}
use Rattle.tree_model.proofs.StoreLemmas.{cause_later, frame_trans, shows_kept}

-- ---- keys of a leaf rise

cmp_less : (o : Ordering) → is_lt o ≡ true → o ≡ Less
cmp_less Less is = refl
cmp_less Equal is = absurd cc
cmp_less Greater is = absurd cc

pub both_true : (a b : Bool) → (a && b) ≡ true → (a ≡ true) × (b ≡ true)
both_true true true is = (refl, refl)
both_true true false is = absurd cc
both_true false b is = absurd cc

rises_above : (last : List ℕ) (keys : List (List ℕ)) → rise_above last keys ≡ true → Each (IsUnder last) keys × Rises keys
rises_above last [] is = (tt, tt)
rises_above last (key ∷ keys) is =
    let b = both_true (is_below last key) (rise_above key keys) is in
    let under : IsUnder last key = cmp_less (slice_cmp nat_cmp last key) b.0 in
    let rest = rises_above key keys b.1 in
    ((under, each_map (IsUnder key) (IsUnder last) (λ k u. under_trans last key k under u) keys rest.0), rest)

rises_all : (keys : List (List ℕ)) → rise keys ≡ true → Rises keys
rises_all [] is = tt
rises_all (key ∷ keys) is = rises_above key keys is

above_rises : (last : List ℕ) (keys : List (List ℕ)) → Each (IsUnder last) keys → Rises keys → rise_above last keys ≡ true
above_rises last [] under h = refl
above_rises last (key ∷ keys) under h = ap (λ o. is_lt o && rise_above key keys) under.0 ∙ above_rises key keys h.0 h.1

all_rise : (keys : List (List ℕ)) → Rises keys → rise keys ≡ true
all_rise [] h = refl
all_rise (key ∷ keys) h = above_rises key keys h.0 h.1

-- what is below the key, where the last is
all_under : (key : List ℕ) (xs : List Item) → Rises (item_keys xs) → ((k : ℕ) (d : Item) → k + 1 ≡ length xs → IsUnder (get_or xs k d).key key)
    → Each (λ (x : Item). IsUnder x.key key) xs
all_under key [] rise last = tt
all_under key (x ∷ []) rise last = (last zero x (omega arith), tt)
all_under key (x ∷ y ∷ xs) rise last =
    let r = all_under key (y ∷ xs) rise.1 (λ k d e. last (suc k) d (omega arith)) in
    (under_trans x.key y.key key rise.0.0 r.0, r)

-- ---- leaves with a cell more, and one fewer

all_append : (xs ys : List Item) → AllByRecursion IsItem xs → AllByRecursion IsItem ys → AllByRecursion IsItem (xs ++ ys)
all_append [] ys h g = g
all_append (x ∷ xs) ys h g = (h.0, all_append xs ys h.1 g)

all_front : (xs ys : List Item) → AllByRecursion IsItem (xs ++ ys) → AllByRecursion IsItem xs
all_front [] ys h = tt
all_front (x ∷ xs) ys h = (h.0, all_front xs ys h.1)

all_back : (xs ys : List Item) → AllByRecursion IsItem (xs ++ ys) → AllByRecursion IsItem ys
all_back [] ys h = h
all_back (x ∷ xs) ys h = all_back xs ys h.1

total_both : (xs ys : List Item) → total item_size (xs ++ ys) ≡ total item_size xs + total item_size ys
total_both [] ys = omega arith
total_both (x ∷ xs) ys = omega (arith, total_both xs ys)

keys_both : (xs ys : List Item) → item_keys (xs ++ ys) ≡ item_keys xs ++ item_keys ys
keys_both xs ys = map_append (λ (x : Item). x.key) xs ys

on_keys : (P : List ℕ → Type 0) (xs : List Item) → Each (λ (x : Item). P x.key) xs → Each P (item_keys xs)
on_keys P [] h = tt
on_keys P (x ∷ xs) h = (h.0, on_keys P xs h.1)

module _ (items : List Item) (sound : IsLeaf items) where
  keys_rise : Rises (item_keys items)
  keys_rise = rises_all (item_keys items) sound.ascending

  -- a cell is put where its key belongs
  module _ (x : Item) (at : ℕ) (gap : IsGap items x.key at) where
    pub gap_within : at ≤ length items
    gap_within = omega (arith, gap.place, ap length gap.is, long_append gap.front gap.back)

    put_is : insert items at x ≡ gap.front ++ x ∷ gap.back
    put_is = ap (λ zs. insert zs at x) gap.is ∙ ap (λ n. insert (gap.front ++ gap.back) n x) (sym gap.place) ∙ insert_here gap.front x gap.back

    pub put_total : total item_size (insert items at x) ≡ total item_size items + item_size x
    put_total = omega (arith, ap (total item_size) put_is, ap (total item_size) gap.is, total_both gap.front (x ∷ gap.back), total_both gap.front gap.back)

    pub put_long : length items ≤ length (insert items at x)
    put_long = omega (arith, ap length put_is, ap length gap.is, long_append gap.front (x ∷ gap.back), long_append gap.front gap.back)

    pub put_leaf : IsItem x → total item_size items + item_size x ≤ 4080 → IsLeaf (insert items at x)
    put_leaf one room =
        let each = subst (AllByRecursion IsItem) gap.is sound.each in
        let keys : Rises (item_keys gap.front ++ item_keys gap.back) = subst Rises (ap item_keys gap.is ∙ keys_both gap.front gap.back) keys_rise in
        let over : Each (IsUnder x.key) (item_keys gap.back) = on_keys (IsUnder x.key) gap.back gap.over in
        let rises : Rises (item_keys gap.front ++ x.key ∷ item_keys gap.back) =
        rises_append (item_keys gap.front) (x.key ∷ item_keys gap.back) (rises_front _ _ keys) (over, rises_back (item_keys gap.front) _ keys)
        (each_map _ _ (λ k u. (u, each_map _ _ (λ k' o. under_trans k x.key k' u o) (item_keys gap.back) over)) (item_keys gap.front)
        (on_keys (λ k. IsUnder k x.key) gap.front gap.under)) in
        subst IsLeaf (sym put_is) (record {
          some = omega (arith, long_append gap.front (x ∷ gap.back));
          each = all_append gap.front (x ∷ gap.back) (all_front gap.front gap.back each) (one, all_back gap.front gap.back each);
          ascending = ap rise (keys_both gap.front (x ∷ gap.back)) ∙ all_rise (item_keys gap.front ++ x.key ∷ item_keys gap.back) rises;
          room = omega (arith, room, ap (total item_size) put_is, put_total);
        })

  -- a place among the cells
  module _ (at : ℕ) (within : at < length items) where
    abbrev c : At items at
    c = at_place items at within

    left_is : remove items at ≡ c.front ++ c.back
    left_is = ap (λ zs. remove zs at) c.is ∙ ap (λ n. remove (c.front ++ c.mid ∷ c.back) n) (sym c.place) ∙ remove_here c.front c.mid c.back

    pub left_total : total item_size (remove items at) ≤ total item_size items
    left_total = omega (arith, ap (total item_size) left_is, ap (total item_size) c.is, total_both c.front c.back, total_both c.front (c.mid ∷ c.back))

    pub left_long : length (remove items at) + 1 ≡ length items
    left_long = omega (arith, ap length left_is, ap length c.is, long_append c.front c.back, long_append c.front (c.mid ∷ c.back))

    keys_there : Rises (item_keys c.front ++ c.mid.key ∷ item_keys c.back)
    keys_there = subst Rises (ap item_keys c.is ∙ keys_both c.front (c.mid ∷ c.back)) keys_rise

    pub left_leaf : 2 ≤ length items → IsLeaf (remove items at)
    left_leaf two =
        let each = subst (AllByRecursion IsItem) c.is sound.each in
        let rises : Rises (item_keys c.front ++ item_keys c.back) =
        rises_append (item_keys c.front) (item_keys c.back) (rises_front _ _ keys_there) (rises_back (item_keys c.front) _ keys_there).1
        (each_map _ _ (λ k u. u.1) (item_keys c.front) (rises_across (item_keys c.front) (c.mid.key ∷ item_keys c.back) keys_there)) in
        subst IsLeaf (sym left_is) (record {
          some = omega (arith, two, left_long, ap length left_is);
          each = all_append c.front c.back (all_front c.front (c.mid ∷ c.back) each) (all_back c.front (c.mid ∷ c.back) each).1;
          ascending = ap rise (keys_both c.front c.back) ∙ all_rise (item_keys c.front ++ item_keys c.back) rises;
          room = omega (arith, sound.room, ap (total item_size) left_is, left_total);
        })

    module _ (key : List ℕ) (place : IsPlace items key at) where
      not_under : IsNotUnder c.mid.key key
      not_under =
          subst (λ (x : Item). IsNotUnder x.key key)
          (ap (λ zs. get_or zs at c.mid) c.is ∙ ap (λ n. get_or (c.front ++ c.mid ∷ c.back) n c.mid) (sym c.place) ∙ get_here c.front c.mid c.back c.mid)
          (place.above c.mid within)

      front_under : Each (λ (x : Item). IsUnder x.key key) c.front
      front_under =
          all_under key c.front (rises_front _ _ keys_there)
          (λ k d e. subst (λ (x : Item). IsUnder x.key key) (ap (λ zs. get_or zs k d) c.is ∙ get_front c.front (c.mid ∷ c.back) k d (omega arith))
          (place.below k d (e ∙ c.place)))

      back_over : Each (λ (x : Item). IsUnder key x.key) c.back
      back_over =
          each_map _ _ (λ y u. up_to_then_under key c.mid.key y.key not_under u) c.back
          (each_of_map (IsUnder c.mid.key) (λ (x : Item). x.key) c.back (rises_back (item_keys c.front) _ keys_there).0)

      pub gap_other : (it : Item) → it ≡ get_or items at it → is_eq (key_cmp it.key key) ≡ false → IsGap items key at
      gap_other it h differs =
          let this : it ≡ c.mid =
          h ∙ ap (λ zs. get_or zs at it) c.is ∙ ap (λ n. get_or (c.front ++ c.mid ∷ c.back) n it) (sym c.place) ∙ get_here c.front c.mid c.back it in
          let miss : is_eq (key_cmp c.mid.key key) ≡ false = ap (λ (x : Item). is_eq (key_cmp x.key key)) (sym this) ∙ differs in
          let over : IsUnder key c.mid.key = elim (not_under_cases c.mid.key key not_under) [ inl equal ↦ cc | inr over ↦ over ] in
          record { front = c.front; back = c.mid ∷ c.back; is = c.is; place = c.place; under = front_under; over = (over, back_over) }

      pub gap_here : IsGap (remove items at) key at
      gap_here = record { front = c.front; back = c.back; is = left_is; place = c.place; under = front_under; over = back_over }

  pub gap_past : (key : List ℕ) (at : ℕ) → IsPlace items key at → length items ≤ at → IsGap items key at
  gap_past key at place le =
      let same : length items ≡ at = omega (arith, place.within) in
      record {
        front = items;
        back = [];
        is = sym (append-nil items);
        place = same;
        under = all_under key items keys_rise (λ k d e. place.below k d (e ∙ same));
        over = tt;
      }

-- ---- edits

pub put_in_leaf : (old new : Store) (items made : List Item) (at : ℕ) (x : Item) (value : List ℕ) → IsStored old new value x.place → made ≡ insert items at x
    → IsPutIn old new x.key value at items made
put_in_leaf old new items made at x value s is =
    record { links = s.links; is = is ∙ ap (λ p. insert items at (record { key = x.key; place = p })) s.is; has = s.has; made = s.made; retired = s.retired }

-- a cell that was put in where the key's was taken out
pub leaf_edited : (old out new : Store) (e : Edit) (value : List ℕ) (pairs : List Pair) (items : List Item) (at : ℕ) (r : Result (List Item) TreeFault)
    → e.value ≡ Some value → Frame old out → Frame out new
    → IsTakenOut old out e.key pairs items at → IsAnswer out new (λ made. IsPutIn out new e.key value at items made) r → Rises (pair_keys pairs)
    → Each (HasChain old) pairs → IsAnswer old new (λ made. IsEdited old new (e ∷ []) pairs made) r
leaf_edited old out new e value pairs items at (Ok made) is g1 g2 t p rise shown =
    subst (λ (o : Option (List ℕ)). IsEdited old new (record { key = e.key; value = o } ∷ []) pairs made) (sym is)
    (put_key old out new e.key value pairs items made at (frame_trans old out new g1 g2) t p rise shown)
leaf_edited old out new e value pairs items at (Err f) is g1 g2 t p rise shown = cause_later old out new f g1 p

-- what the edits so far took, and what is left of the room
pub room_more : (es : List ProgramEdit) (i : ℕ) (d : ProgramEdit) → i < length es
    → sum_of edit_room (take (i + 1) (map edit_in es)) ≡ sum_of edit_room (take i (map edit_in es)) + edit_room (edit_in (get_or es i d))
room_more es i d lt = ap (sum_of edit_room) (edits_more es i d lt) ∙ sum_more (take i (map edit_in es)) (edit_in (get_or es i d))
  where
    sum_more : (xs : List Edit) (x : Edit) → sum_of edit_room (xs ++ x ∷ []) ≡ sum_of edit_room xs + edit_room x
    sum_more [] x = omega arith
    sum_more (y ∷ ys) x = omega (arith, sum_more ys x)

room_within : (es : List Edit) (n : ℕ) → sum_of edit_room (take n es) ≤ sum_of edit_room es
room_within es zero = omega arith
room_within [] (suc n) = omega arith
room_within (e ∷ es) (suc n) = omega (arith, room_within es n)

pub used_more : (es : List ProgramEdit) (i : ℕ) (d : ProgramEdit) → i < length es → (size used more : ℕ)
    → used ≡ size + sum_of edit_room (take i (map edit_in es)) → more ≡ edit_room (edit_in (get_or es i d))
    → used + more ≡ size + sum_of edit_room (take (i + 1) (map edit_in es))
used_more es i d lt size used more is more_is = omega (arith, is, more_is, room_more es i d lt)

-- the next edit finds room
pub room_next : (es : List ProgramEdit) (i : ℕ) (d : ProgramEdit) → i < length es → (size now : ℕ) → now ≤ size + sum_of edit_room (take i (map edit_in es))
    → size + sum_of edit_room (map edit_in es) ≤ 4080
    → now + edit_room (edit_in (get_or es i d)) ≤ 4080
room_next es i d lt size now le room = omega (arith, le, room, room_more es i d lt, room_within (map edit_in es) (i + 1))

pub room_after : (es : List ProgramEdit) (i : ℕ) (d : ProgramEdit) → i < length es → (size now new : ℕ)
    → now ≤ size + sum_of edit_room (take i (map edit_in es)) → new ≤ now + edit_room (edit_in (get_or es i d))
    → new ≤ size + sum_of edit_room (take (i + 1) (map edit_in es))
room_after es i d lt size now new le more = omega (arith, le, more, room_more es i d lt)

-- ---- a leaf that was written

abbrev pub none : List ℕ → Item
none key = record { key = key; place = inline [] }

pub leaf_written : (old new : Store) (base rank page : ℕ) (low key : List ℕ) (high : Option (List ℕ)) (items : List Item) (pairs : List Pair)
    (slots : List Slot) → rank ≡ base → items ≡ map item_of pairs → IsLeaf items
    → IsSound zero low high pairs → Shows old zero pairs → IsMade old new page (leaf items) → key ≡ (get_or items 0 (none key)).key → page < 2 ^ 32
    → slots ≡ pivot_slot (record { key = key; child = page }) ∷ []
    → IsTurned old new base low high (map entry_of pairs) (pages_of zero pairs) (record { rank = rank + 1; slots = slots })
leaf_written old new base rank page low key high items [] slots is same sound lies shown m first range slots_are =
    absurd (omega (arith, sound.some, ap length same))
leaf_written old new base rank page low key high items (x ∷ xs) slots is same sound lies shown m first range slots_are =
    let key_is : key ≡ x.key = first ∙ ap (λ (zs : List Item). (get_or zs 0 (none key)).key) same in
    let whole : IsLeaf (map item_of (x ∷ xs)) = subst IsLeaf same sound in
    record {
      after = page ∷ pages_of zero (x ∷ xs);
      held = record {
        d = suc zero;
        body = record { key = x.key; page = page; body = x ∷ xs } ∷ [];
        rank_is = λ lt. omega arith;
        slots_are = slots_are ∙ ap (λ k. pivot_slot (record { key = k; child = page }) ∷ []) key_is;
        small = subst (Each IsSlot) (sym (slots_are ∙ ap (λ k. pivot_slot (record { key = k; child = page }) ∷ []) key_is))
            (record { size = (let one = whole.each.0.size in omega arith); load = range }, tt);
        spread = (((whole, spread_up zero low high (x ∷ xs) (pair_slot x) (map pair_slot xs) refl lies), tt), (tt, tt), (lies.1.0, tt));
        shown = ((subst (λ zs. IsAt new page (leaf zs)) same m.at, shows_kept old new m.frame zero (x ∷ xs) shown), tt);
        entries_are = ap (map entry_of) (append-nil (x ∷ xs));
        pages_are = λ n. ap (λ zs. times n (page ∷ zs)) (append-nil (pages_of zero (x ∷ xs)));
      };
      turned = λ n. omega (arith, ap (times n) m.made, ap (times n) m.retired);
    }

-- where it was written, one page was made
pub one_few : (old new : Store) (rank page : ℕ) (key : List ℕ) (items : List Item) (slots : List Slot) → IsLeaf items → IsMade old new page (leaf items)
    → key ≡ (get_or items 0 (none key)).key → page < 2 ^ 32
    → slots ≡ pivot_slot (record { key = key; child = page }) ∷ [] → IsFew old new (rank + 1) 1360 1 (record { rank = rank + 1; slots = slots })
one_few old new rank page key [] slots sound m first range slots_are = absurd (omega (arith, sound.some))
one_few old new rank page key (x ∷ xs) slots sound m first range slots_are =
    let little : 6 + length key ≤ 1360 = (let one = sound.each.0.size in omega (arith, ap length first)) in
    record {
      rank_is = refl;
      small = subst (Each IsSlot) (sym slots_are) (record { size = omega arith; load = range }, tt);
      size = omega (arith, ap slots_size slots_are, little);
      made = omega (arith, ap length m.made);
    }

-- what was edited and then written, or taken apart
pub edited_turns : (old mid new : Store) (base : ℕ) (low : List ℕ) (high : Option (List ℕ)) (edits : List Edit) (pairs : List Pair) (items : List Item)
    (r : Result LooseNode TreeFault) → Frame old mid → (h : IsEdited old mid edits pairs items)
    → IsTurn mid new base low high (map entry_of h.pairs) (pages_of zero h.pairs) r
    → IsTurn old new base low high (change edits (map entry_of pairs)) (pages_of zero pairs) r
edited_turns old mid new base low high edits pairs items r grows h u =
    subst (λ es. IsTurn old new base low high es (pages_of zero pairs) r) h.entries
    (turned_on old mid new base low high (map entry_of h.pairs) (pages_of zero pairs) (pages_of zero h.pairs) r grows h.pages u)
