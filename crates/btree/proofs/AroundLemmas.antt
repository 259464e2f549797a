-- What stood below one child has changed: it is put among the children beside it first, and then among the others.
use Rattle.std.proofs.Common.{◌≡◌, ℕ, zero, suc, ◌+◌, ◌-◌, ◌<◌, ◌≤◌, take, drop, get_or, List, [], ◌∷◌, ◌++◌, length, map, Option, Some}
use Rattle.std.proofs.Common.{Result, Ok, Err, refl, sym, ap, ◌∙◌, subst, arith, inl, inr, append-nil, append_assoc}
use Rattle.page.specs.ChildPage.{exchanged}
use Rattle.page.specs.Content.{Pivot}
use Rattle.btree.specs.declared.node.LooseNode.{LooseNode}
use Rattle.tree_model.specs.declared.pages.TreeFault.{TreeFault}
use Rattle.btree.specs.Change.{IsBehind}
use Rattle.tree_model.specs.Keys.{Each, Entry, IsBetween, IsNotUnder, times}
use Rattle.btree.specs.Loose.{IsSpread, IsSlot, Slot, pivot_slot, first_or, pair_slot, slot_keys, slots_of, subtree_slot, under_key}
use Rattle.btree.specs.OneChild.{IsAmid, IsAround, slots_between}
use Rattle.tree_model.specs.Store.{Frame, HasCause, Store}
use Rattle.tree_model.specs.Tree.{Body, pivot_of}
use Rattle.tree_model.specs.Reach.{AreTurned}
use Rattle.btree.specs.Turn.{IsHeld, IsTurned, IsUpTo, NodeModel, model_in}
use Rattle.btree.proofs.ChangingLemmas.{behind_later, turned_on}
use Rattle.btree.proofs.EndLemmas.{drop_here, take_here, within_up_to}
use Rattle.btree.proofs.HeldLemmas.{IsTurn, glue_held, held_later}
use Rattle.btree.proofs.JoinLemmas.{up_to_trans}
use Rattle.tree_model.proofs.KeyLemmas.{not_under_itself}
use Rattle.tree_model.proofs.ListLemmas.{each_back, long_append, map_append, map_map, take_more, times_append}
use Rattle.btree.proofs.LooseLemmas.{map_take, take_drop}
use Rattle.btree.proofs.CuttingLemmas.{map_drop}
use Rattle.btree.proofs.OneChildLemmas.{behind_glued, same_held}
use Rattle.btree.proofs.PrepareLemmas.{upto_of}
use Rattle.btree.proofs.SplitLemmas.{IsTwo, two_parts}

-- ---- what is held, cut in two

none_held : (s : Store) (base : ℕ) (low : List ℕ) (high : Option (List ℕ)) (rank : ℕ) (entries : List Entry) (pages : List ℕ) (slots : List Slot)
    → slots ≡ [] → entries ≡ [] → ((n : ℕ) → times n pages ≡ 0) → IsHeld s base low high entries pages (record { rank = rank; slots = slots })
none_held s base low high rank entries pages slots gone empty nowhere = record {
  d = zero;
  body = [];
  rank_is = λ lt. absurd (omega (arith, ap length gone));
  slots_are = gone;
  small = subst (Each IsSlot) (sym gone) tt;
  spread = (tt, tt);
  shown = tt;
  entries_are = sym empty;
  pages_are = λ n. sym (nowhere n);
}

spread_keys : (d : ℕ) (low : List ℕ) (high : Option (List ℕ)) (body : Body d) → IsSpread d low high body
    → Each (IsBetween low high) (slot_keys (slots_of d body))
spread_keys zero low high body h = subst (Each (IsBetween low high)) (sym (map_map pair_slot (λ s. s.key) body)) h.1
spread_keys (suc d) low high body h = subst (Each (IsBetween low high)) (sym (map_map subtree_slot (λ s. s.key) body)) h.2

-- the first key behind others lies between the bounds
key_behind : (s : Store) (base : ℕ) (low : List ℕ) (high : Option (List ℕ)) (entries : List Entry) (pages : List ℕ) (model : NodeModel)
    (front back : List Slot) (t : Slot) → IsHeld s base low high entries pages model → model.slots ≡ front ++ t ∷ back → IsBetween low high t.key
key_behind s base low high entries pages model front back t h e =
    (each_back (IsBetween low high) (slot_keys front) (slot_keys (t ∷ back))
    (subst (Each (IsBetween low high)) (map_append (λ (x : Slot). x.key) front (t ∷ back))
    (subst (λ ss. Each (IsBetween low high) (slot_keys ss)) (sym h.slots_are ∙ e) (spread_keys h.d low high h.body h.spread)))).0

-- in front of a bound
record IsLeftCut (s : Store) (base : ℕ) (low mid : List ℕ) (entries : List Entry) (pages : List ℕ) (rank : ℕ) (left : List Slot) (from : ℕ) : Type 0 where
  pub key : List ℕ
  pub front_entries : List Entry
  pub near_entries : List Entry
  pub front_pages : List ℕ
  pub near_pages : List ℕ
  pub entries_are : front_entries ++ near_entries ≡ entries
  pub pages_are : (n : ℕ) → times n front_pages + times n near_pages ≡ times n pages
  pub front_held : IsHeld s base low (Some key) front_entries front_pages (record { rank = rank; slots = take from left })
  pub held : IsHeld s base key (Some mid) near_entries near_pages (record { rank = rank; slots = drop from left })
  pub over : IsNotUnder key low
  pub under : IsNotUnder mid key

key_of : (mid : List ℕ) (high : Option (List ℕ)) (back : List Slot) → Some mid ≡ first_or high back → (P : List ℕ → Type 0)
    → ((t : Slot) (rest : List Slot) → back ≡ t ∷ rest → P t.key) → ((k : List ℕ) → high ≡ Some k → P k) → P mid
key_of mid high [] e P some none = none mid (sym e)
key_of mid high (t ∷ rest) e P some none = let same : t.key ≡ mid = cc in subst P same (some t rest refl)

cut_left : (s : Store) (base : ℕ) (low mid : List ℕ) (entries : List Entry) (pages : List ℕ) (rank : ℕ) (left : List Slot) (from : ℕ)
    → IsHeld s base low (Some mid) entries pages (record { rank = rank; slots = left }) → IsNotUnder mid low → from ≤ length left
    → IsLeftCut s base low mid entries pages rank left from
cut_left s base low mid entries pages rank left zero h over le = record {
  key = low;
  front_entries = [];
  near_entries = entries;
  front_pages = [];
  near_pages = pages;
  entries_are = refl;
  pages_are = λ n. omega arith;
  front_held = none_held s base low (Some low) rank [] [] [] refl refl (λ n. refl);
  held = h;
  over = not_under_itself low;
  under = over;
}
cut_left s base low mid entries pages rank [] (suc f) h over le = absurd (omega arith)
cut_left s base low mid entries pages rank (x ∷ xs) (suc f) h over le =
    let two = two_parts s base low (Some mid) entries pages (record { rank = rank; slots = x ∷ xs }) (take (suc f) (x ∷ xs)) (drop (suc f) (x ∷ xs))
    h (take_drop (suc f) (x ∷ xs)) (omega arith) in
    go two two.behind
  where
    go : (two : IsTwo s base low (Some mid) entries pages rank (take (suc f) (x ∷ xs)) (drop (suc f) (x ∷ xs)))
        → IsBehind s base two.between (Some mid) two.back_entries two.back_pages (record { rank = rank; slots = drop (suc f) (x ∷ xs) })
        → IsLeftCut s base low mid entries pages rank (x ∷ xs) (suc f)
    go two (inl e) = record {
      key = mid;
      front_entries = two.front_entries;
      near_entries = two.back_entries;
      front_pages = two.front_pages;
      near_pages = two.back_pages;
      entries_are = two.entries_are;
      pages_are = two.pages_are;
      front_held = subst (λ b. IsHeld s base low b two.front_entries two.front_pages (record { rank = rank; slots = take (suc f) (x ∷ xs) })) e.1
          two.front_held;
      held = none_held s base mid (Some mid) rank two.back_entries two.back_pages (drop (suc f) (x ∷ xs)) e.0 e.2 e.3;
      over = over;
      under = not_under_itself mid;
    }
    go two (inr m) = record {
      key = m.mid;
      front_entries = two.front_entries;
      near_entries = two.back_entries;
      front_pages = two.front_pages;
      near_pages = two.back_pages;
      entries_are = two.entries_are;
      pages_are = two.pages_are;
      front_held = subst (λ b. IsHeld s base low b two.front_entries two.front_pages (record { rank = rank; slots = take (suc f) (x ∷ xs) })) m.is
          two.front_held;
      held = m.held;
      over = key_of m.mid (Some mid) (drop (suc f) (x ∷ xs)) (sym m.is ∙ two.between_is) (λ k. IsNotUnder k low)
          (λ t rest is. (key_behind s base low (Some mid) entries pages (record { rank = rank; slots = x ∷ xs }) (take (suc f) (x ∷ xs)) rest t h
          (take_drop (suc f) (x ∷ xs) ∙ ap (λ ss. take (suc f) (x ∷ xs) ++ ss) is)).0)
          (λ k is. let same : mid ≡ k = cc in subst (λ z. IsNotUnder z low) same over);
      under = m.within;
    }

-- behind a bound
record IsRightCut (s : Store) (base : ℕ) (between high : Option (List ℕ)) (entries : List Entry) (pages : List ℕ) (rank : ℕ) (right : List Slot)
    (n : ℕ) : Type 0 where
  pub end : Option (List ℕ)
  pub near_entries : List Entry
  pub back_entries : List Entry
  pub near_pages : List ℕ
  pub back_pages : List ℕ
  pub entries_are : near_entries ++ back_entries ≡ entries
  pub pages_are : (k : ℕ) → times k near_pages + times k back_pages ≡ times k pages
  pub near : IsBehind s base between end near_entries near_pages (record { rank = rank; slots = take n right })
  pub behind : IsBehind s base end high back_entries back_pages (record { rank = rank; slots = drop n right })

cut_right : (s : Store) (base : ℕ) (between high : Option (List ℕ)) (entries : List Entry) (pages : List ℕ) (rank : ℕ) (right : List Slot) (n : ℕ)
    → IsBehind s base between high entries pages (record { rank = rank; slots = right }) → IsRightCut s base between high entries pages rank right n
cut_right s base between high entries pages rank right zero b = record {
  end = between;
  near_entries = [];
  back_entries = entries;
  near_pages = [];
  back_pages = pages;
  entries_are = refl;
  pages_are = λ k. omega arith;
  near = inl (refl, refl, refl, λ k. refl);
  behind = b;
}
cut_right s base between high entries pages rank [] (suc n) b = record {
  end = high;
  near_entries = entries;
  back_entries = [];
  near_pages = pages;
  back_pages = [];
  entries_are = append-nil entries;
  pages_are = λ k. omega arith;
  near = b;
  behind = inl (refl, refl, refl, λ k. refl);
}
cut_right s base between high entries pages rank (x ∷ xs) (suc n) (inl e) = absurd (omega (arith, ap length e.0))
cut_right s base between high entries pages rank (x ∷ xs) (suc n) (inr m) =
    let two = two_parts s base m.mid high entries pages (record { rank = rank; slots = x ∷ xs }) (take (suc n) (x ∷ xs)) (drop (suc n) (x ∷ xs))
    m.held (take_drop (suc n) (x ∷ xs)) (omega arith) in
    record {
      end = two.between;
      near_entries = two.front_entries;
      back_entries = two.back_entries;
      near_pages = two.front_pages;
      back_pages = two.back_pages;
      entries_are = two.entries_are;
      pages_are = two.pages_are;
      near = inr (record {
        mid = m.mid;
        is = m.is;
        held = two.front_held;
        within = subst (IsUpTo m.mid) (sym two.between_is) (upto (drop (suc n) (x ∷ xs))
            (λ t rest is. (key_behind s base m.mid high entries pages (record { rank = rank; slots = x ∷ xs }) (take (suc n) (x ∷ xs)) rest t m.held
            (take_drop (suc n) (x ∷ xs) ∙ ap (λ ss. take (suc n) (x ∷ xs) ++ ss) is)).0));
      });
      behind = two.behind;
    }
  where
    upto : (back : List Slot) → ((t : Slot) (rest : List Slot) → back ≡ t ∷ rest → IsNotUnder t.key m.mid) → IsUpTo m.mid (first_or high back)
    upto [] some = m.within
    upto (t ∷ rest) some = some t rest refl

-- ---- parts of a list

take_front : {X : Type 0} (n : ℕ) (xs ys : List X) → n ≤ length xs → take n (xs ++ ys) ≡ take n xs
take_front zero xs ys le = refl
take_front (suc n) [] ys le = absurd (omega arith)
take_front (suc n) (x ∷ xs) ys le = ap (λ zs. x ∷ zs) (take_front n xs ys (omega arith))

take_past : {X : Type 0} (n m : ℕ) (xs ys : List X) → n ≡ length xs + m → take n (xs ++ ys) ≡ xs ++ take m ys
take_past n m [] ys e = let same : n ≡ m = omega arith in ap (λ k. take k ys) same
take_past zero m (x ∷ xs) ys e = absurd (omega arith)
take_past (suc n) m (x ∷ xs) ys e = ap (λ zs. x ∷ zs) (take_past n m xs ys (omega arith))

drop_past : {X : Type 0} (n m : ℕ) (xs ys : List X) → n ≡ length xs + m → drop n (xs ++ ys) ≡ drop m ys
drop_past n m [] ys e = let same : n ≡ m = omega arith in ap (λ k. drop k ys) same
drop_past zero m (x ∷ xs) ys e = absurd (omega arith)
drop_past (suc n) m (x ∷ xs) ys e = drop_past n m xs ys (omega arith)

drop_front : {X : Type 0} (n : ℕ) (xs ys : List X) → n ≤ length xs → drop n (xs ++ ys) ≡ drop n xs ++ ys
drop_front zero xs ys le = refl
drop_front (suc n) [] ys le = absurd (omega arith)
drop_front (suc n) (x ∷ xs) ys le = drop_front n xs ys (omega arith)

take_long : {X : Type 0} (n : ℕ) (xs : List X) → n ≤ length xs → length (take n xs) ≡ n
take_long zero xs le = refl
take_long (suc n) [] le = absurd (omega arith)
take_long (suc n) (x ∷ xs) le = omega (arith, take_long n xs (omega arith))

pub between_none : (from : ℕ) (slots : List Slot) → slots_between from from slots ≡ []
between_none zero slots = refl
between_none (suc from) [] = refl
between_none (suc from) (s ∷ slots) = between_none from slots

pub between_more : (from i : ℕ) (slots : List Slot) (d : Slot) → from ≤ i → i < length slots
    → slots_between from (i + 1) slots ≡ slots_between from i slots ++ get_or slots i d ∷ []
between_more from i slots d le lt =
    ap (drop from) (take_more slots i d lt) ∙ drop_front from (take i slots) (get_or slots i d ∷ []) (omega (arith, take_long i slots (omega arith)))

take_within : {X : Type 0} (n m : ℕ) (xs : List X) → n ≤ m → take n (take m xs) ≡ take n xs
take_within zero m xs le = refl
take_within (suc n) zero xs le = absurd (omega arith)
take_within (suc n) (suc m) [] le = refl
take_within (suc n) (suc m) (x ∷ xs) le = ap (λ zs. x ∷ zs) (take_within n m xs (omega arith))

pub between_split : (a b c : ℕ) (slots : List Slot) → a ≤ b → b ≤ c → c ≤ length slots
    → slots_between a c slots ≡ slots_between a b slots ++ slots_between b c slots
between_split a b c slots ab bc within =
    ap (drop a) (take_drop b (take c slots) ∙ ap (λ ss. ss ++ drop b (take c slots)) (take_within b c slots bc))
    ∙ drop_front a (take b slots) (drop b (take c slots)) (omega (arith, take_long b slots (omega arith)))

pub between_whole : (a b : ℕ) (slots : List Slot) → a ≤ b → slots ≡ take a slots ++ (slots_between a b slots ++ drop b slots)
between_whole a b slots le =
    take_drop b slots ∙ ap (λ ss. ss ++ drop b slots) (take_drop a (take b slots) ∙ ap (λ ss. ss ++ drop a (take b slots)) (take_within a b slots le))
    ∙ append_assoc (take a slots) (drop a (take b slots)) (drop b slots)

drop_long : {X : Type 0} (n : ℕ) (xs : List X) → n ≤ length xs → n + length (drop n xs) ≡ length xs
drop_long zero xs le = omega arith
drop_long (suc n) [] le = absurd (omega arith)
drop_long (suc n) (x ∷ xs) le = omega (arith, drop_long n xs (omega arith))

pub between_long : (a b : ℕ) (slots : List Slot) → a ≤ b → b ≤ length slots → a + length (slots_between a b slots) ≡ b
between_long a b slots le within =
    drop_long a (take b slots) (omega (arith, take_long b slots within)) ∙ take_long b slots within

-- ---- what was put among the children beside it

module _ (old : Store) (base : ℕ) (low : List ℕ) (high : Option (List ℕ)) (pivots : List Pivot) (at rank : ℕ) (entries : List Entry) (reached : List ℕ)
    (below left right : NodeModel) (m : IsAmid old base low high pivots at rank entries reached below) (from to : ℕ) (before : from ≤ at) (past : at + 1 ≤ to)
    (left_is : left.slots ≡ slots_between from at (map pivot_slot (under_key low pivots)))
    (left_rank : left.rank ≡ rank) (right_is : right.slots ≡ slots_between (at + 1) to (map pivot_slot (under_key low pivots)))
    (right_rank : right.rank ≡ rank) where
  abbrev slots : List Slot
  slots = map pivot_slot (under_key low pivots)

  abbrev t : Slot
  t = record { key = m.key; load = m.load }

  front_is : slots ≡ m.left ++ (t ∷ m.right)
  front_is = m.parts ∙ append_assoc m.left (t ∷ []) m.right

  lc : IsLeftCut old base low m.key m.front_entries m.front_pages rank m.left from
  lc = cut_left old base low m.key m.front_entries m.front_pages rank m.left from m.left_held m.over (omega (arith, before, m.place))

  rc : IsRightCut old base m.between high m.back_entries m.back_pages rank m.right (to - (at + 1))
  rc = cut_right old base m.between high m.back_entries m.back_pages rank m.right (to - (at + 1)) m.behind

  whole_long : length (m.left ++ t ∷ []) ≡ at + 1
  whole_long = omega (arith, long_append m.left (t ∷ []), m.place)

  front_take : take from slots ≡ take from m.left
  front_take = ap (take from) front_is ∙ take_front from m.left (t ∷ m.right) (omega (arith, before, m.place))

  left_drop : left.slots ≡ drop from m.left
  left_drop = left_is ∙ ap (λ ss. drop from (take at ss)) front_is ∙ ap (λ n. drop from (take n (m.left ++ (t ∷ m.right)))) (sym m.place)
      ∙ ap (drop from) (take_here m.left (t ∷ m.right))

  right_take : right.slots ≡ take (to - (at + 1)) m.right
  right_take = right_is ∙ ap (λ ss. drop (at + 1) (take to ss)) m.parts
      ∙ ap (drop (at + 1)) (take_past to (to - (at + 1)) (m.left ++ t ∷ []) m.right (omega (arith, whole_long, past)))
      ∙ ap (λ n. drop n ((m.left ++ t ∷ []) ++ take (to - (at + 1)) m.right)) (sym whole_long)
      ∙ drop_here (m.left ++ t ∷ []) (take (to - (at + 1)) m.right)

  back_drop : drop to slots ≡ drop (to - (at + 1)) m.right
  back_drop = ap (drop to) m.parts ∙ drop_past to (to - (at + 1)) (m.left ++ t ∷ []) m.right (omega (arith, whole_long, past))

  near_left : IsHeld old base lc.key (Some m.key) lc.near_entries lc.near_pages left
  near_left = subst (IsHeld old base lc.key (Some m.key) lc.near_entries lc.near_pages)
      (λ i. record { rank = sym left_rank i; slots = sym left_drop i }) lc.held

  near_right : IsBehind old base m.between rc.end rc.near_entries rc.near_pages right
  near_right = subst (IsBehind old base m.between rc.end rc.near_entries rc.near_pages)
      (λ i. record { rank = sym right_rank i; slots = sym right_take i }) rc.near

  near_over : IsNotUnder m.key lc.key
  near_over = lc.under

  near_inside : IsUpTo m.key m.between
  near_inside = within_up_to m.key m.between m.inside

  near_within : IsUpTo m.key rc.end
  near_within = upto_of m.key rc.end m.between old base rc.near_entries rc.near_pages _ m.inside rc.near

  module _ (new : Store) (amid : NodeModel) (grows : Frame old new)
      (u : IsTurned old new base lc.key rc.end (lc.near_entries ++ (m.mid_entries ++ rc.near_entries))
      (lc.near_pages ++ (m.mid_pages ++ rc.near_pages)) amid) where
    abbrev reached_now : List ℕ
    reached_now = lc.front_pages ++ (u.after ++ rc.back_pages)

    around : IsAround new base low high slots from to rank entries reached_now amid
    around = record {
      key = lc.key;
      between = rc.end;
      front_entries = lc.front_entries;
      mid_entries = lc.near_entries ++ (m.mid_entries ++ rc.near_entries);
      back_entries = rc.back_entries;
      front_pages = lc.front_pages;
      mid_pages = u.after;
      back_pages = rc.back_pages;
      entries_are = ap (λ es. lc.front_entries ++ es) (append_assoc lc.near_entries (m.mid_entries ++ rc.near_entries) rc.back_entries
          ∙ ap (λ es. lc.near_entries ++ es) (append_assoc m.mid_entries rc.near_entries rc.back_entries ∙ ap (λ es. m.mid_entries ++ es) rc.entries_are))
          ∙ sym (append_assoc lc.front_entries lc.near_entries (m.mid_entries ++ m.back_entries))
          ∙ ap (λ es. es ++ (m.mid_entries ++ m.back_entries)) lc.entries_are ∙ m.entries_are;
      pages_are = λ n. omega (arith, times_append n lc.front_pages (u.after ++ rc.back_pages), times_append n u.after rc.back_pages);
      front_held = subst (λ ss. IsHeld new base low (Some lc.key) lc.front_entries lc.front_pages (record { rank = rank; slots = ss })) (sym front_take)
          (held_later old new base low (Some lc.key) _ _ _ grows lc.front_held);
      held = u.held;
      behind = subst (λ ss. IsBehind new base rc.end high rc.back_entries rc.back_pages (record { rank = rank; slots = ss })) (sym back_drop)
          (behind_later old new base rc.end high rc.back_entries rc.back_pages _ grows rc.behind);
      over = lc.over;
      inside = up_to_trans lc.key m.key rc.end lc.under near_within;
      within = up_to_trans lc.key m.key high lc.under m.within;
    }

    around_turned : AreTurned old new reached reached_now
    around_turned n = omega (
      arith,
      u.turned n,
      m.pages_are n,
      lc.pages_are n,
      rc.pages_are n,
      times_append n lc.near_pages (m.mid_pages ++ rc.near_pages),
      times_append n m.mid_pages rc.near_pages,
      times_append n lc.front_pages (u.after ++ rc.back_pages),
      times_append n u.after rc.back_pages,
    )

  -- the program's steps
  module _ (mid : Store) (grows : Frame old mid) where
    pub near_done : (new : Store) (amid : NodeModel) (r : Result LooseNode TreeFault)
        → ((low' key : List ℕ) (between end : Option (List ℕ)) (first last inner : List Entry) (first_pages inner_pages last_pages : List ℕ)
        → IsHeld old base low' (Some key) first first_pages left → IsHeld old base key between inner inner_pages below
        → IsBehind old base between end last last_pages right → IsNotUnder key low' → IsUpTo key between → IsUpTo key end
        → IsTurned old mid base low' end (first ++ (inner ++ last)) (first_pages ++ (inner_pages ++ last_pages)) amid)
        → ((reached_then : List ℕ) → IsAround mid base low high slots from to rank entries reached_then amid
        → IsTurn mid new base low high entries reached_then r) → IsTurn old new base low high entries reached r
    near_done new amid r settles others =
        let u = settles lc.key m.key m.between rc.end lc.near_entries rc.near_entries m.mid_entries lc.near_pages m.mid_pages rc.near_pages
        near_left m.held near_right near_over near_inside near_within in
        turned_on old mid new base low high entries reached (reached_now mid amid grows u) r grows (around_turned mid amid grows u)
        (others (reached_now mid amid grows u) (around mid amid grows u))

    pub near_stopped : (f : TreeFault)
        → ((low' key : List ℕ) (between end : Option (List ℕ)) (first last inner : List Entry) (first_pages inner_pages last_pages : List ℕ)
        → IsHeld old base low' (Some key) first first_pages left → IsHeld old base key between inner inner_pages below
        → IsBehind old base between end last last_pages right → IsNotUnder key low' → IsUpTo key between → IsUpTo key end
        → HasCause old mid f) → HasCause old mid f
    near_stopped f settles =
        settles lc.key m.key m.between rc.end lc.near_entries rc.near_entries m.mid_entries lc.near_pages m.mid_pages rc.near_pages
        near_left m.held near_right near_over near_inside near_within

-- ---- and then among the others

-- what is put among them is turned
pub around_done : (old new : Store) (base : ℕ) (low : List ℕ) (high : Option (List ℕ)) (slots : List Slot) (from to rank : ℕ) (entries : List Entry)
    (reached : List ℕ) (amid : NodeModel) (r : Result LooseNode TreeFault) (m : IsAround old base low high slots from to rank entries reached amid)
    → IsTurn old new base low high (m.front_entries ++ (m.mid_entries ++ m.back_entries)) (m.front_pages ++ (m.mid_pages ++ m.back_pages)) r
    → IsTurn old new base low high entries reached r
around_done old new base low high slots from to rank entries reached amid (Ok l) m u =
    record {
      after = u.after;
      held = subst (λ es. IsHeld new base low high es u.after (model_in l)) m.entries_are u.held;
      turned = λ n. omega
          (arith, u.turned n, m.pages_are n, times_append n m.front_pages (m.mid_pages ++ m.back_pages), times_append n m.mid_pages m.back_pages);
    }
around_done old new base low high slots from to rank entries reached amid (Err e) m u = u

-- all of them together are held
pub around_held : (s : Store) (base : ℕ) (low : List ℕ) (high : Option (List ℕ)) (slots : List Slot) (from to rank : ℕ) (entries : List Entry)
    (reached : List ℕ) (amid : NodeModel) → IsAround s base low high slots from to rank entries reached amid → amid.rank ≡ rank
    → IsHeld s base low high entries reached (record { rank = rank; slots = take from slots ++ (amid.slots ++ drop to slots) })
around_held s base low high slots from to rank entries reached amid m same =
    let mid : IsHeld s base m.key m.between m.mid_entries m.mid_pages (record { rank = rank; slots = amid.slots }) =
    subst (λ n. IsHeld s base m.key m.between m.mid_entries m.mid_pages (record { rank = n; slots = amid.slots })) same m.held in
    let back = behind_glued s base m.key m.between high m.mid_entries m.back_entries m.mid_pages m.back_pages
    (record { rank = rank; slots = amid.slots }) (drop to slots) mid m.behind m.inside in
    let both = glue_held s base low m.key high m.front_entries (m.mid_entries ++ m.back_entries) m.front_pages (m.mid_pages ++ m.back_pages)
    (record { rank = rank; slots = take from slots }) (record { rank = rank; slots = amid.slots ++ drop to slots }) m.front_held back refl m.over m.within in
    same_held s base low high _ entries _ reached _ both m.entries_are
    (λ n. omega (arith, m.pages_are n, times_append n m.front_pages (m.mid_pages ++ m.back_pages), times_append n m.mid_pages m.back_pages))

-- the children of the branch that has them
pub under_exchanged : (low : List ℕ) (from to : ℕ) (new pivots : List Pivot) → 0 < from → from ≤ to → 0 < length pivots
    → map pivot_slot (under_key low (exchanged from to new pivots))
    ≡ take from (map pivot_slot (under_key low pivots)) ++ (map pivot_slot new ++ drop to (map pivot_slot (under_key low pivots)))
under_exchanged low zero to new pivots some le more = absurd (omega arith)
under_exchanged low (suc f) zero new pivots some le more = absurd (omega arith)
under_exchanged low (suc f) (suc t) new [] some le more = absurd (omega arith)
under_exchanged low (suc f) (suc t) new (a ∷ pivots) some le more =
    ap (λ ss. pivot_slot (record { key = low; child = a.child }) ∷ ss)
    (map_append pivot_slot (take f pivots) (new ++ drop t pivots)
    ∙ (λ i. map_take pivot_slot f pivots i ++ (map_append pivot_slot new (drop t pivots) ∙ ap (λ ss. map pivot_slot new ++ ss) (map_drop pivot_slot t pivots))
    i))

-- what is held above the leaves are children
pub record HasPivots (slots : List Slot) : Type 0 where
  pub pivots : List Pivot
  pub is : slots ≡ map pivot_slot pivots

pub pivots_held : (s : Store) (base : ℕ) (low : List ℕ) (high : Option (List ℕ)) (entries : List Entry) (pages : List ℕ) (rank : ℕ) (slots : List Slot)
    → IsHeld s base low high entries pages (record { rank = rank; slots = slots }) → base < rank → HasPivots slots
pivots_held s base low high entries pages rank slots h deep = go h.d h.body h.slots_are (λ lt. h.rank_is lt)
  where
    go : (d : ℕ) (body : Body d) → slots ≡ slots_of d body → (0 < length slots → rank ≡ base + d) → HasPivots slots
    go zero [] e r = record { pivots = []; is = e }
    go zero (x ∷ xs) e r = absurd (omega (arith, r (omega (arith, ap length e)), deep))
    go (suc d) ws e r = record { pivots = map pivot_of ws; is = e ∙ sym (map_map pivot_of pivot_slot ws) }
