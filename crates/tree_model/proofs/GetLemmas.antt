-- One step down a tree, and the look into a leaf.
use Rattle.std.proofs.Common.{if◌then◌else◌, ◌≡◌, ℕ, zero, suc, ◌+◌, ◌<◌, ◌≤◌, List, [], ◌∷◌, ◌++◌, length, map, get_or, Option, Some, None, Result, Ok, Err}
use Rattle.std.proofs.Common.{Bool, true, false, refl, sym, ap, ◌∙◌, subst, arith, ◌⊎◌, inl, inr}
use Rattle.std.specs.Ordering.{is_eq}
use Rattle.std.specs.List.{flat_map}
use Rattle.tree_model.specs.Keys.{Entry, Pair, entry_of, value_at, Each, Rises, IsUnder, IsNotUnder, IsWithin, IsPast, IsBetween, key_cmp, find}
use Rattle.page.specs.Content.{Item, Pivot, Content, leaf, branch, chain, free_list, item_keys}
use Rattle.tree_model.specs.Store.{Store, Frame, HasCause}
use Rattle.tree_model.specs.Search.{IsPlace, IsChildPlace, AreBounds, LieBetween}
use Rattle.tree_model.specs.Tree.{Subtree, Body, IsTree, high_of, subtree_keys, pair_keys, pairs_of, entries_of, IsSound, Shows, HasChain, content_of, item_of}
use Rattle.tree_model.specs.Tree.{pivot_of}
use Rattle.tree_model.specs.Tree.{place_of}
use Rattle.tree_model.specs.Calls.{IsAnswer, IsPart, IsPlaceOf}
use Rattle.page.specs.declared.cells.Stored.{Stored}
use Rattle.tree_model.specs.declared.pages.TreeFault.{TreeFault}
use Rattle.tree_model.proofs.StoreLemmas.{cause_later, part_kept, shows_kept}
use Rattle.page.specs.declared.page_content.PageContent.{PageContent}
use Rattle.page.specs.declared.page_content.PageContent.TheVariants as P
use Rattle.tree_model.specs.View.{place_in, content_in}
use Rattle.std.specs.Option.{option_map}
use Rattle.std.specs.Result.{IsErrAnd}
use Rattle.tree_model.proofs.KeyLemmas.{under_trans, not_both, up_to_then_under, under_then_up_to, differs_under, differs_over}
use Rattle.tree_model.proofs.ListLemmas.{each_back, each_map, each_of_map, map_append, flat_append, rises_front, rises_back, at_place, get_here, get_next}
use Rattle.tree_model.proofs.ListLemmas.{get_front}
use Rattle.tree_model.proofs.ListLemmas.{long_map, long_append}
use Rattle.tree_model.proofs.FanLemmas.{find_skip, find_none, find_stop, low_of, around_child}

-- ---- bounds of a page

each_keys : (P : List ℕ → Type 0) (pairs : List Pair) → Each P (pair_keys pairs) → Each P (item_keys (map item_of pairs))
each_keys P [] h = tt
each_keys P (x ∷ xs) h = (h.0, each_keys P xs h.1)

each_pivots : {B : Type 0} (low : List ℕ) (high : Option (List ℕ)) (ws : List (Subtree B)) → Each (IsUnder low) (subtree_keys ws)
    → Each (IsWithin high) (subtree_keys ws)
    → Each (IsBetween low high) (map (λ x. x.key) (map pivot_of ws))
each_pivots low high [] h g = tt
each_pivots low high (w ∷ ws) h g = ((not_both low w.key h.0, g.0), each_pivots low high ws h.1 g.1)

pub lie_between : (d : ℕ) (low : List ℕ) (high : Option (List ℕ)) (body : Body d) → IsSound d low high body → LieBetween low high (content_of d body)
lie_between zero low high pairs h = each_keys (IsBetween low high) pairs h.1
lie_between (suc d) low high [] h = tt
lie_between (suc d) low high (w ∷ ws) h = each_pivots low high ws h.1.0 h.2.1

-- ---- a step down

pub record Step (s : Store) (child level : ℕ) (from : List ℕ) (to : Option (List ℕ)) (key : List ℕ) (pairs : List Pair) : Type 0 where
  pub d : ℕ
  pub body : Body d
  pub part : IsPart s child level d from to body
  pub between : IsBetween from to key
  pub found : find key pairs ≡ find key (pairs_of d body)

pub from_is : {B : Type 0} (low : List ℕ) (high : Option (List ℕ)) (front : List (Subtree B)) (w : Subtree B) (back : List (Subtree B)) (from : List ℕ)
    (to : Option (List ℕ))
    → AreBounds low high (map pivot_of (front ++ w ∷ back)) (length front) from to → from ≡ low_of low front w.key
from_is low high [] w back from to h = h.first refl
from_is low high (f ∷ fs) w back from to h =
    h.later (pivot_of w) (omega arith) ∙ ap (λ xs. (get_or xs (length (f ∷ fs)) (pivot_of w)).key) (map_append pivot_of (f ∷ fs) (w ∷ back))
    ∙ ap (λ n. (get_or (map pivot_of (f ∷ fs) ++ pivot_of w ∷ map pivot_of back) n (pivot_of w)).key) (sym (long_map pivot_of (f ∷ fs)))
    ∙ ap (λ a. a.key) (get_here (map pivot_of (f ∷ fs)) (pivot_of w) (map pivot_of back) (pivot_of w))

place_next : {B : Type 0} (front : List (Subtree B)) (w v : Subtree B) (back : List (Subtree B)) (e : Pivot)
    → get_or (map pivot_of (front ++ w ∷ v ∷ back)) (length front + 1) e ≡ pivot_of v
place_next front w v back e =
    ap (λ xs. get_or xs (length front + 1) e) (map_append pivot_of front (w ∷ v ∷ back))
    ∙ ap (λ n. get_or (map pivot_of front ++ pivot_of w ∷ pivot_of v ∷ map pivot_of back) (n + 1) e) (sym (long_map pivot_of front))
    ∙ get_next (map pivot_of front) (pivot_of w) (pivot_of v) (map pivot_of back) e

pub place_here : {B : Type 0} (front : List (Subtree B)) (w : Subtree B) (back : List (Subtree B)) (e : Pivot)
    → get_or (map pivot_of (front ++ w ∷ back)) (length front) e ≡ pivot_of w
place_here front w back e =
    ap (λ xs. get_or xs (length front) e) (map_append pivot_of front (w ∷ back))
    ∙ ap (λ n. get_or (map pivot_of front ++ pivot_of w ∷ map pivot_of back) n e) (sym (long_map pivot_of front))
    ∙ get_here (map pivot_of front) (pivot_of w) (map pivot_of back) e

pivots_long : {B : Type 0} (front : List (Subtree B)) (w : Subtree B) (back : List (Subtree B))
    → length (map pivot_of (front ++ w ∷ back)) ≡ length front + suc (length back)
pivots_long [] w back = omega (arith, long_map pivot_of back)
pivots_long (f ∷ fs) w back = omega (arith, pivots_long fs w back)

pub to_is : {B : Type 0} (low : List ℕ) (high : Option (List ℕ)) (front : List (Subtree B)) (w : Subtree B) (back : List (Subtree B)) (from : List ℕ)
    (to : Option (List ℕ))
    → AreBounds low high (map pivot_of (front ++ w ∷ back)) (length front) from to → to ≡ high_of high back
to_is low high front w [] from to h = h.last (omega (arith, pivots_long front w []))
to_is low high front w (v ∷ vs) from to h =
    h.inner (pivot_of v) (omega (arith, pivots_long front w (v ∷ vs))) ∙ ap (λ a. Some a.key) (place_next front w v vs (pivot_of v))

not_equal_before : (from key : List ℕ) (xs : List Pair) → IsNotUnder key from → Each (λ x. IsUnder x.key from) xs
    → Each (λ x. is_eq (key_cmp x.key key) ≡ false) xs
not_equal_before from key xs h = each_map _ _ (λ x u. differs_under x.key key (under_then_up_to x.key from key u h)) xs

not_equal_after : (to : Option (List ℕ)) (key : List ℕ) (xs : List Pair) → IsWithin to key → Each (λ x. IsPast to x.key) xs
    → Each (λ x. is_eq (key_cmp x.key key) ≡ false) xs
not_equal_after None key xs h = each_map _ _ (λ x u. absurd u) xs
not_equal_after (Some high) key xs h = each_map _ _ (λ x u. differs_over x.key key (under_then_up_to key high x.key h u)) xs

-- in bounds, the child at its place
pub child_bounds : (d : ℕ) (low : List ℕ) (high : Option (List ℕ)) (front : List (Subtree (Body d))) (w : Subtree (Body d)) (back : List (Subtree (Body d)))
    (key : List ℕ)
    → IsChildPlace (map pivot_of (front ++ w ∷ back)) key (length front) → IsBetween low high key → IsBetween (low_of low front w.key) (high_of high back) key
child_bounds d low high front w back key place h = (from_below front place, to_above back place)
  where
    from_below : (front : List (Subtree (Body d))) → IsChildPlace (map pivot_of (front ++ w ∷ back)) key (length front)
        → IsNotUnder key (low_of low front w.key)
    from_below [] p = h.0
    from_below (f ∷ fs) p = subst (λ (a : Pivot). IsNotUnder key a.key) (place_here (f ∷ fs) w back (pivot_of w)) (p.below (pivot_of w) (omega arith))

    to_above : (back : List (Subtree (Body d))) → IsChildPlace (map pivot_of (front ++ w ∷ back)) key (length front) → IsWithin (high_of high back) key
    to_above [] p = h.1
    to_above (v ∷ vs) p =
        subst (λ (a : Pivot). IsUnder key a.key) (place_next front w v vs (pivot_of v)) (p.above (pivot_of v) (omega (arith, pivots_long front w (v ∷ vs))))

-- the same where the child is known
pub record StepAt (s : Store) (level d : ℕ) (w : Subtree (Body d)) (from : List ℕ) (to : Option (List ℕ)) (key : List ℕ) (pairs : List Pair) : Type 0 where
  pub part : IsPart s w.page level d from to w.body
  pub between : IsBetween from to key
  pub found : find key pairs ≡ find key (pairs_of d w.body)

pub descend_at : (s : Store) (page level d : ℕ) (low : List ℕ) (high : Option (List ℕ)) (front : List (Subtree (Body d))) (w : Subtree (Body d))
    (back : List (Subtree (Body d)))
    (from : List ℕ) (to : Option (List ℕ)) (key : List ℕ) → IsPart s page level (suc d) low high (front ++ w ∷ back)
    → IsChildPlace (map pivot_of (front ++ w ∷ back)) key (length front)
    → AreBounds low high (map pivot_of (front ++ w ∷ back)) (length front) from to → IsBetween low high key
    → StepAt s (level + 1) d w from to key (pairs_of (suc d) (front ++ w ∷ back))
descend_at s page level d low high front w back from to key part place bounds within =
    let a = around_child d low high front w back part.sound in
    let shown = each_back _ front (w ∷ back) part.shown in
    let ef : from ≡ low_of low front w.key = from_is low high front w back from to bounds in
    let et : to ≡ high_of high back = to_is low high front w back from to bounds in
    let here : IsBetween (low_of low front w.key) (high_of high back) key = child_bounds d low high front w back key place within in
    let deep : suc d + level < 32 = part.depth in
    let sound : IsSound d from to w.body =
    subst (λ f. IsSound d f to w.body) (sym ef) (subst (λ t. IsSound d (low_of low front w.key) t w.body) (sym et) a.mid.1) in
    record {
      part = record { at = shown.0.0; shown = shown.0.1; whole = a.mid.0; sound = sound; depth = omega arith };
      between = subst (λ f. IsBetween f to key) (sym ef) (subst (λ t. IsBetween (low_of low front w.key) t key) (sym et) here);
      found =
          ap (find key) (flat_append (λ w. pairs_of d w.body) front (w ∷ back))
          ∙ find_skip key (flat_map (λ w. pairs_of d w.body) front) _ (not_equal_before _ key _ here.0 a.before)
          ∙ find_stop key (pairs_of d w.body) _ (not_equal_after _ key _ here.1 a.after);
    }

pub descend : (s : Store) (page level d : ℕ) (low : List ℕ) (high : Option (List ℕ)) (body : Body d) (pivots : List Pivot) (i child : ℕ)
    (from : List ℕ) (to : Option (List ℕ)) (key : List ℕ) → branch pivots ≡ content_of d body → IsPart s page level d low high body → IsChildPlace pivots key i
    → AreBounds low high pivots i from to → ((e : Pivot) → (get_or pivots i e).child ≡ child) → IsBetween low high key
    → Step s child (level + 1) from to key (pairs_of d body)
descend s page level zero low high pairs pivots i child from to key e part place bounds is within = cc
descend s page level (suc d) low high subtrees pivots i child from to key e part place bounds is within =
    let same : pivots ≡ map pivot_of subtrees = cc in
    let long : length pivots ≡ length subtrees = ap length same ∙ long_map pivot_of subtrees in
    let lt : i < length subtrees = omega (arith, place.within) in
    let c = at_place subtrees i lt in
    let pivots_are : pivots ≡ map pivot_of (c.front ++ c.mid ∷ c.back) = same ∙ ap (map pivot_of) c.is in
    let P : List Pivot → ℕ → Type 0 = λ zs n. IsChildPlace zs key n in
    let Q : List Pivot → ℕ → Type 0 = λ zs n. AreBounds low high zs n from to in
    let place' : IsChildPlace (map pivot_of (c.front ++ c.mid ∷ c.back)) key (length c.front) =
    subst (λ n. P (map pivot_of (c.front ++ c.mid ∷ c.back)) n) (sym c.place) (subst (λ zs. P zs i) pivots_are place) in
    let bounds' : AreBounds low high (map pivot_of (c.front ++ c.mid ∷ c.back)) (length c.front) from to =
    subst (λ n. Q (map pivot_of (c.front ++ c.mid ∷ c.back)) n) (sym c.place) (subst (λ zs. Q zs i) pivots_are bounds) in
    let part' : IsPart s page level (suc d) low high (c.front ++ c.mid ∷ c.back) =
    subst (λ (ts : List (Subtree (Body d))). IsPart s page level (suc d) low high ts) c.is part in
    let page_is : c.mid.page ≡ child =
    sym (ap (λ a. a.child) (place_here c.front c.mid c.back (pivot_of c.mid)))
    ∙ ap (λ n. (get_or (map pivot_of (c.front ++ c.mid ∷ c.back)) n (pivot_of c.mid)).child) c.place
    ∙ ap (λ zs. (get_or zs i (pivot_of c.mid)).child) (sym pivots_are) ∙ is (pivot_of c.mid) in
    let t = descend_at s page level d low high c.front c.mid c.back from to key part' place' bounds' within in
    record {
      d = d;
      body = c.mid.body;
      part = subst (λ p. IsPart s p (level + 1) d from to c.mid.body) page_is t.part;
      between = t.between;
      found = ap (λ ts. find key (pairs_of (suc d) ts)) c.is ∙ t.found;
    }

-- ---- in a leaf

pub all_under : (key : List ℕ) (xs : List Pair) → Rises (pair_keys xs)
    → ((k : ℕ) (d : Item) → k + 1 ≡ length xs → IsUnder (get_or (map item_of xs) k d).key key) → Each (λ x. IsUnder x.key key) xs
all_under key [] rise last = tt
all_under key (x ∷ []) rise last = (last zero (item_of x) (omega arith), tt)
all_under key (x ∷ y ∷ xs) rise last =
    let r = all_under key (y ∷ xs) rise.1 (λ k d e. last (suc k) d (omega arith)) in
    (under_trans x.key y.key key rise.0.0 r.0, r)

item_front : (front back : List Pair) (k : ℕ) (d : Item) → k < length front → get_or (map item_of (front ++ back)) k d ≡ get_or (map item_of front) k d
item_front front back k d lt =
    ap (λ zs. get_or zs k d) (map_append item_of front back) ∙ get_front (map item_of front) (map item_of back) k d (omega (arith, long_map item_of front))

pub item_here : (front : List Pair) (x : Pair) (back : List Pair) (e : Item) → get_or (map item_of (front ++ x ∷ back)) (length front) e ≡ item_of x
item_here front x back e =
    ap (λ xs. get_or xs (length front) e) (map_append item_of front (x ∷ back))
    ∙ ap (λ n. get_or (map item_of front ++ item_of x ∷ map item_of back) n e) (sym (long_map item_of front))
    ∙ get_here (map item_of front) (item_of x) (map item_of back) e

-- what stands before the place is below the key
pub front_is_under : (key : List ℕ) (front back : List Pair) → Rises (pair_keys (front ++ back)) → IsPlace (map item_of (front ++ back)) key (length front)
    → Each (λ x. IsUnder x.key key) front
front_is_under key front back rise place =
    all_under key front (rises_front (pair_keys front) (pair_keys back) (subst Rises (map_append (λ x. x.key) front back) rise))
    (λ k d e. subst (λ (x : Item). IsUnder x.key key) (item_front front back k d (omega arith)) (place.below k d e))

each_key : (P : List ℕ → Type 0) (pairs : List Pair) → Each P (pair_keys pairs) → Each (λ x. P x.key) pairs
each_key P pairs h = each_of_map P (λ x. x.key) pairs h

pub mid_not_under : (key : List ℕ) (front : List Pair) (x : Pair) (back : List Pair) → IsPlace (map item_of (front ++ x ∷ back)) key (length front)
    → IsNotUnder x.key key
mid_not_under key front x back place =
    subst (λ (i : Item). IsNotUnder i.key key) (item_here front x back (item_of x))
    (place.above (item_of x) (omega (arith, long_map item_of (front ++ x ∷ back), long_append front (x ∷ back))))

pub back_is_over : (key : List ℕ) (front : List Pair) (x : Pair) (back : List Pair) → Rises (pair_keys (front ++ x ∷ back))
    → IsPlace (map item_of (front ++ x ∷ back)) key (length front)
    → Each (λ y. IsUnder key y.key) back
back_is_over key front x back rise place =
    each_map _ _ (λ y u. up_to_then_under key x.key y.key (mid_not_under key front x back place) u) back
    (each_key (IsUnder x.key) back ((rises_back (pair_keys front) (pair_keys (x ∷ back)) (subst Rises (map_append (λ x. x.key) front (x ∷ back)) rise)).0))

find_at : (key : List ℕ) (front : List Pair) (x : Pair) (back : List Pair) → Rises (pair_keys (front ++ x ∷ back))
    → IsPlace (map item_of (front ++ x ∷ back)) key (length front)
    → find key (front ++ x ∷ back) ≡ find key (x ∷ [])
find_at key front x back rise place =
    find_skip key front (x ∷ back) (each_map _ _ (λ y u. differs_under y.key key u) front (front_is_under key front (x ∷ back) rise place))
    ∙ find_stop key (x ∷ []) back (each_map _ _ (λ y u. differs_over y.key key u) back (back_is_over key front x back rise place))

-- what the program looks at
pub record Looked (it : Item) (pairs : List Pair) (key : List ℕ) : Type 0 where
  pub pair : Pair
  pub is : it ≡ item_of pair
  pub found : find key pairs ≡ find key (pair ∷ [])

pub look : (items : List Item) (pairs : List Pair) (key : List ℕ) (i : ℕ) (it : Item) → items ≡ map item_of pairs → Rises (pair_keys pairs)
    → IsPlace items key i
    → i < length items → ((d : Item) → it ≡ get_or items i d) → Looked it pairs key
look items pairs key i it e rise place lt here =
    let c = at_place pairs i (omega (arith, ap length e, long_map item_of pairs)) in
    let items_are : items ≡ map item_of (c.front ++ c.mid ∷ c.back) = e ∙ ap (map item_of) c.is in
    let place' : IsPlace (map item_of (c.front ++ c.mid ∷ c.back)) key (length c.front) =
    subst (λ n. IsPlace (map item_of (c.front ++ c.mid ∷ c.back)) key n) (sym c.place) (subst (λ zs. IsPlace zs key i) items_are place) in
    record {
      pair = c.mid;
      is =
          here it ∙ ap (λ zs. get_or zs i it) items_are
          ∙ ap (λ n. get_or (map item_of (c.front ++ c.mid ∷ c.back)) n it) (sym c.place) ∙ item_here c.front c.mid c.back it;
      found = ap (find key) c.is ∙ find_at key c.front c.mid c.back (subst (λ ps. Rises (pair_keys ps)) c.is rise) place';
    }

pub look_found : (items : List Item) (pairs : List Pair) (key : List ℕ) (i : ℕ) (it : Item) (stored : Stored) → items ≡ map item_of pairs
    → Rises (pair_keys pairs) → IsPlace items key i
    → i < length items → ((d : Item) → it ≡ get_or items i d) → it.place ≡ place_in stored → is_eq (key_cmp it.key key) ≡ true
    → IsPlaceOf (find key pairs) (Some stored)
look_found items pairs key i it stored e rise place lt here at hit =
    let l = look items pairs key i it e rise place lt here in
    let hits : is_eq (key_cmp l.pair.key key) ≡ true = ap (λ (x : Item). is_eq (key_cmp x.key key)) (sym l.is) ∙ hit in
    let found : find key pairs ≡ Some l.pair = l.found ∙ ap (λ b. if b then Some l.pair else None) hits in
    subst (λ o. IsPlaceOf o (Some stored)) (sym found) (sym at ∙ ap (λ (x : Item). x.place) l.is)

pub look_other : (items : List Item) (pairs : List Pair) (key : List ℕ) (i : ℕ) (it : Item) → items ≡ map item_of pairs → Rises (pair_keys pairs)
    → IsPlace items key i
    → i < length items → ((d : Item) → it ≡ get_or items i d) → is_eq (key_cmp it.key key) ≡ false → IsPlaceOf (find key pairs) None
look_other items pairs key i it e rise place lt here miss =
    let l = look items pairs key i it e rise place lt here in
    let misses : is_eq (key_cmp l.pair.key key) ≡ false = ap (λ (x : Item). is_eq (key_cmp x.key key)) (sym l.is) ∙ miss in
    let found : find key pairs ≡ None = l.found ∙ ap (λ b. if b then Some l.pair else None) misses in
    subst (λ o. IsPlaceOf o None) (sym found) tt

pub look_past : (items : List Item) (pairs : List Pair) (key : List ℕ) (i : ℕ) → items ≡ map item_of pairs → Rises (pair_keys pairs) → IsPlace items key i
    → length items ≤ i → IsPlaceOf (find key pairs) None
look_past items pairs key i e rise place le =
    let same : i ≡ length pairs = omega (arith, place.within, ap length e, long_map item_of pairs) in
    let under : Each (λ x. IsUnder x.key key) pairs =
    all_under key pairs rise (λ k d h. subst (λ zs. IsUnder (get_or zs k d).key key) e (place.below k d (h ∙ sym same))) in
    let found : find key pairs ≡ None = find_none key pairs (each_map _ _ (λ x u. differs_under x.key key u) pairs under) in
    subst (λ o. IsPlaceOf o None) (sym found) tt

-- the value of what is found
pub value_found : (key : List ℕ) (pairs : List Pair) → value_at key (map entry_of pairs) ≡ option_map (λ (x : Pair). x.value) (find key pairs)
value_found key [] = refl
value_found key (x ∷ xs) =
    elim (is_eq (key_cmp x.key key)) as
    (λ b. (if b then Some x.value else value_at key (map entry_of xs)) ≡ option_map (λ (x : Pair). x.value) (if b then Some x else find key xs))
    [ true ↦ refl | false ↦ value_found key xs ]

pub find_each : (P : Pair → Type 0) (key : List ℕ) (pairs : List Pair) (x : Pair) → Each P pairs → find key pairs ≡ Some x → P x
find_each P key [] x all e = cc
find_each P key (y ∷ ys) x all e =
    elim (is_eq (key_cmp y.key key)) as (λ b. (if b then Some y else find key ys) ≡ Some x → P x)
    [ true ↦ (λ h. let same : y ≡ x = cc in subst P same all.0) | false ↦ (λ h. find_each P key ys x all.1 h) ] e

-- what a look gives: the value at the key, or none
abbrev pub IsLooked : {V : Type 0} → (V → List ℕ) → Store → Store → List ℕ → List Entry → Result (Option V) TreeFault → Type 0
IsLooked bytes old new key entries result = IsAnswer old new (λ answer. option_map bytes answer ≡ value_at key entries) result

-- a value that lies where it was found
pub none_found : {V : Type 0} (bytes : V → List ℕ) (old new : Store) (key : List ℕ) (pairs : List Pair) → IsPlaceOf (find key pairs) None
    → IsLooked bytes old new key (map entry_of pairs) (Ok None)
none_found bytes old new key pairs h = go (find key pairs) refl h
  where
    go : (o : Option Pair) → o ≡ find key pairs → IsPlaceOf o None → None ≡ value_at key (map entry_of pairs)
    go None e h = ap (option_map (λ (x : Pair). x.value)) e ∙ sym (value_found key pairs)
    go (Some x) e h = absurd h

pub some_found : {V : Type 0} (bytes : V → List ℕ) (old new : Store) (key : List ℕ) (pairs : List Pair) (stored : Stored) (v : V) → Shows old zero pairs
    → IsPlaceOf (find key pairs) (Some stored)
    → ((x : Pair) → place_in stored ≡ place_of x.links x.value → HasChain old x → bytes v ≡ x.value)
    → IsLooked bytes old new key (map entry_of pairs) (Ok (Some v))
some_found bytes old new key pairs stored v shown h says = go (find key pairs) refl h
  where
    go : (o : Option Pair) → o ≡ find key pairs → IsPlaceOf o (Some stored) → Some (bytes v) ≡ value_at key (map entry_of pairs)
    go None e h = absurd h
    go (Some x) e h =
        ap (λ (b : List ℕ). Some b) (says x h (find_each (HasChain old) key pairs x shown (sym e))) ∙ ap (option_map (λ (x : Pair). x.value)) e
        ∙ sym (value_found key pairs)

pub some_failed : {V : Type 0} (bytes : V → List ℕ) (old new : Store) (key : List ℕ) (pairs : List Pair) (stored : Stored) (r : Result (Option V) TreeFault)
    (e : TreeFault) → Shows old zero pairs
    → IsPlaceOf (find key pairs) (Some stored) → IsErrAnd r (λ f. f ≡ e)
    → ((x : Pair) → place_in stored ≡ place_of x.links x.value → HasChain old x → HasCause old new e) → IsLooked bytes old new key (map entry_of pairs) r
some_failed bytes old new key pairs stored (Ok v) e shown h is says = absurd is
some_failed bytes old new key pairs stored (Err f) e shown h is says = subst (HasCause old new) (sym is) (go (find key pairs) refl h)
  where
    go : (o : Option Pair) → o ≡ find key pairs → IsPlaceOf o (Some stored) → HasCause old new e
    go None k h = absurd h
    go (Some x) k h = says x h (find_each (HasChain old) key pairs x shown (sym k))

-- ---- what a page's content says of the part that it heads

pub leaf_pairs : (d : ℕ) (low : List ℕ) (high : Option (List ℕ)) (body : Body d) (items : List Item) → leaf items ≡ content_of d body → IsSound d low high body
    → (items ≡ map item_of (pairs_of d body)) × Rises (pair_keys (pairs_of d body))
leaf_pairs zero low high pairs items e h = ((cc), h.0)
leaf_pairs (suc d) low high subtrees items e h = cc

-- what holds of every branch with these arms holds of a body whose page has them
pub open_branch : (C : (d : ℕ) → Body d → Type 0) (pivots : List Pivot)
    → ((d : ℕ) (subtrees : Body (suc d)) → pivots ≡ map pivot_of subtrees → C (suc d) subtrees)
    → (d : ℕ) (body : Body d) → branch pivots ≡ content_of d body → C d body
open_branch C pivots says zero pairs e = cc
open_branch C pivots says (suc d) subtrees e = let same : pivots ≡ map pivot_of subtrees = cc in says d subtrees same

pub open_leaf : (C : (d : ℕ) → Body d → Type 0) (items : List Item) → ((pairs : List Pair) → items ≡ map item_of pairs → C zero pairs)
    → (d : ℕ) (body : Body d) → leaf items ≡ content_of d body → C d body
open_leaf C items says zero pairs e = let same : items ≡ map item_of pairs = cc in says pairs same
open_leaf C items says (suc d) subtrees e = cc

-- a child is a part of its own
pub child_part : (s : Store) (page level d : ℕ) (low : List ℕ) (high : Option (List ℕ)) (front : List (Subtree (Body d))) (w : Subtree (Body d))
    (back : List (Subtree (Body d)))
    (from : List ℕ) (to : Option (List ℕ)) → IsPart s page level (suc d) low high (front ++ w ∷ back)
    → AreBounds low high (map pivot_of (front ++ w ∷ back)) (length front) from to → IsPart s w.page (level + 1) d from to w.body
child_part s page level d low high front w back from to part bounds =
    let a = around_child d low high front w back part.sound in
    let shown = each_back _ front (w ∷ back) part.shown in
    let ef : from ≡ low_of low front w.key = from_is low high front w back from to bounds in
    let et : to ≡ high_of high back = to_is low high front w back from to bounds in
    let deep : suc d + level < 32 = part.depth in
    let sound : IsSound d from to w.body =
    subst (λ f. IsSound d f to w.body) (sym ef) (subst (λ t. IsSound d (low_of low front w.key) t w.body) (sym et) a.mid.1) in
    record { at = shown.0.0; shown = shown.0.1; whole = a.mid.0; sound = sound; depth = omega arith }

pub branch_room : (s : Store) (page level d : ℕ) (low : List ℕ) (high : Option (List ℕ)) (body : Body d) (pivots : List Pivot)
    → branch pivots ≡ content_of d body
    → IsPart s page level d low high body
    → (level < 31) × (1 < length pivots)
branch_room s page level zero low high pairs pivots e p = cc
branch_room s page level (suc d) low high subtrees pivots e p =
    let same : pivots ≡ map pivot_of subtrees = cc in
    let deep : suc d + level < 32 = p.depth in
    (omega arith, omega (arith, ap (λ (zs : List Pivot). length zs) same, p.whole.some))

pub looks_later : {V : Type 0} (bytes : V → List ℕ) (old mid new : Store) (key : List ℕ) (pairs below : List Pair) (r : Result (Option V) TreeFault)
    → Frame old mid → find key pairs ≡ find key below
    → IsLooked bytes mid new key (map entry_of below) r → IsLooked bytes old new key (map entry_of pairs) r
looks_later bytes old mid new key pairs below (Ok answer) g e h =
    h ∙ value_found key below ∙ ap (option_map (λ (x : Pair). x.value)) (sym e) ∙ sym (value_found key pairs)
looks_later bytes old mid new key pairs below (Err fault) g e h = cause_later old mid new fault g h

-- ---- the cases of the program, over plain variables

module _ (old : Store) (page level : ℕ) (low : List ℕ) (high : Option (List ℕ)) where
  pub not_between : (content : Content) (r : Bool) → old.page page ≡ content → (LieBetween low high content → r ≡ true) → r ≡ false
      → (d : ℕ) (body : Body d) → IsPart old page level d low high body → ⊥
  not_between content r holds says fails d body part =
      let yes : r ≡ true = says (subst (LieBetween low high) (sym part.at.holds ∙ holds) (lie_between d low high body part.sound)) in cc

  pub too_deep : (pivots : List Pivot) → old.page page ≡ branch pivots → (31 ≤ level) ⊎ (length pivots ≡ 0)
      → (d : ℕ) (body : Body d) → IsPart old page level d low high body → ⊥
  too_deep pivots holds why d body part =
      let r = branch_room old page level d low high body pivots (sym holds ∙ part.at.holds) part in
      elim why [ inl deep ↦ omega (arith, r.0) | inr none ↦ omega (arith, r.1) ]

  pub in_leaf : {V : Type 0} (bytes : V → List ℕ) (mid new : Store) (items : List Item) (key : List ℕ) (r : Result (Option V) TreeFault) → Frame old mid
      → old.page page ≡ leaf items
      → ((pairs : List Pair) → items ≡ map item_of pairs → Rises (pair_keys pairs) → Shows mid zero pairs → IsLooked bytes mid new key (map entry_of pairs) r)
      → (d : ℕ) (body : Body d) → IsPart old page level d low high body → IsLooked bytes old new key (entries_of d body) r
  in_leaf bytes mid new items key r grows holds says zero pairs part =
      let l = leaf_pairs zero low high pairs items (sym holds ∙ part.at.holds) part.sound in
      looks_later bytes old mid new key pairs pairs r grows refl (says pairs l.0 l.1 (shows_kept old mid grows zero pairs part.shown))
  in_leaf bytes mid new items key r grows holds says (suc d) subtrees part = no_leaf (sym holds ∙ part.at.holds)
    where
      no_leaf : leaf items ≡ branch (map pivot_of subtrees) → IsLooked bytes old new key (entries_of (suc d) subtrees) r
      no_leaf h = cc

  pub in_child : {V : Type 0} (bytes : V → List ℕ) (mid new : Store) (pivots : List Pivot) (i : ℕ) (from : List ℕ) (to : Option (List ℕ)) (child : ℕ)
      (key : List ℕ) (r : Result (Option V) TreeFault)
      → old.page page ≡ branch pivots → Frame old mid → IsChildPlace pivots key i → AreBounds low high pivots i from to
      → ((e : Pivot) → (get_or pivots i e).child ≡ child)
      → ((d : ℕ) (body : Body d) → IsPart mid child (level + 1) d from to body → IsBetween from to key → IsLooked bytes mid new key (entries_of d body) r)
      → (d : ℕ) (body : Body d) → IsPart old page level d low high body → IsBetween low high key → IsLooked bytes old new key (entries_of d body) r
  in_child bytes mid new pivots i from to child key r holds grows place bounds here says d body part within =
      let s = descend old page level d low high body pivots i child from to key (sym holds ∙ part.at.holds) part place bounds here within in
      looks_later bytes old mid new key (pairs_of d body) (pairs_of s.d s.body) r grows s.found
      (says s.d s.body (part_kept old mid grows child (level + 1) s.d from to s.body s.part) s.between)

  pub no_kind : (content : PageContent) → old.page page ≡ content_in content → ((l : List Item) → content ≡ P.Leaf l → ⊥)
      → ((b : List Pivot) → content ≡ P.Branch b → ⊥)
      → (d : ℕ) (body : Body d) → IsPart old page level d low high body → ⊥
  no_kind content holds no_leaf no_branch d body part = go content (sym holds ∙ part.at.holds) no_leaf no_branch
    where
      other : (c : Content) → (d : ℕ) (body : Body d) → c ≡ content_of d body → ((is : List Item) → c ≡ leaf is → ⊥) → ((bs : List Pivot) → c ≡ branch bs → ⊥)
          → ⊥
      other c zero pairs h l b = l _ h
      other c (suc d) subtrees h l b = b _ h

      go : (p : PageContent) → content_in p ≡ content_of d body → ((l : List Item) → p ≡ P.Leaf l → ⊥) → ((b : List Pivot) → p ≡ P.Branch b → ⊥) → ⊥
      go (P.Leaf l) h nl nb = nl l refl
      go (P.Branch b) h nl nb = nb b refl
      go (P.Chain next bytes) h nl nb = other (chain next bytes.items) d body h (λ is k. cc) (λ bs k. cc)
      go (P.FreeList next pages) h nl nb = other (free_list next pages.items) d body h (λ is k. cc) (λ bs k. cc)

pub bounds_are : (low : List ℕ) (high : Option (List ℕ)) (pivots : List Pivot) (i : ℕ) (from : List ℕ) (to : Option (List ℕ))
    → (i ≡ 0 → from ≡ low) → ((d : Pivot) → 0 < i → from ≡ (get_or pivots i d).key)
    → (length pivots ≤ i + 1 → to ≡ high) → ((d : Pivot) → i + 1 < length pivots → to ≡ Some (get_or pivots (i + 1) d).key)
    → AreBounds low high pivots i from to
bounds_are low high pivots i from to first later last inner = record { first = first; later = later; last = last; inner = inner }

-- ---- the root

pub root_between : (key : List ℕ) → IsBetween [] None key
root_between [] = ((λ u. cc), tt)
root_between (x ∷ xs) = ((λ u. cc), tt)

pub root_part : (s : Store) (root d : ℕ) (body : Body d) → IsTree s root d body → IsPart s root 0 d [] None body
root_part s root d body t = record { at = t.at; shown = t.shown; whole = t.whole; sound = t.sound; depth = let deep : d < 32 = t.depth in omega arith }
