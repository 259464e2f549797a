-- The last and the first child of what was taken out of its page.
use Rattle.std.proofs.Common.{◌≡◌, ℕ, zero, suc, ◌+◌, ◌<◌, ◌≤◌, List, [], ◌∷◌, ◌++◌, length, map, take, drop, get_or, Option, Some, None, Result, Ok, Err, refl}
use Rattle.std.proofs.Common.{sym, ap, ◌∙◌, subst, arith, append-nil}
use Rattle.std.specs.Result.{IsErrAnd}
use Rattle.btree.specs.declared.node.LooseNode.{LooseNode}
use Rattle.btree.specs.declared.node.LooseSlot.{LooseSlot}
use Rattle.btree.specs.LooseView.{payload_in, slot_in}
use Rattle.std.specs.List.{remove}
use Rattle.tree_model.specs.declared.pages.TreeFault.{TreeFault}
use Rattle.tree_model.specs.Calls.{IsAnswer}
use Rattle.tree_model.specs.Keys.{Entry, Each, IsBetween, IsNotUnder, IsUnder, IsWithin, entry_of, times}
use Rattle.btree.specs.Loose.{IsChild, IsSpread, IsSlot, Slot, child, slots_of, subtree_slot}
use Rattle.tree_model.specs.Store.{Store, Frame, HasCause, IsAt}
use Rattle.tree_model.specs.Tree.{high_of, pairs_of, Body, Subtree, IsSound, IsWhole, Shows, content_of, entries_of, pages_of, subtree_keys}
use Rattle.btree.specs.Turn.{AreParted, IsHeld, IsReady, IsTurned, IsUpTo, IsFirstCut, NodeModel, both_of, model_in}
use Rattle.tree_model.proofs.KeyLemmas.{not_both, not_under_itself, not_under_trans, up_to_then_under}
use Rattle.tree_model.proofs.ListLemmas.{each_append, each_back, each_front, map_append, times_append}
use Rattle.btree.proofs.LooseLemmas.{Lies, entries_joined, joined, pages_joined, shows_parts, split_body, spread_split}
use Rattle.btree.proofs.HeldLemmas.{glue_held, held_low}
use Rattle.tree_model.proofs.StoreLemmas.{frame_trans, shows_kept}

pub within_up_to : (key : List ℕ) (high : Option (List ℕ)) → IsWithin high key → IsUpTo key high
within_up_to key None h = tt
within_up_to key (Some high) h = not_both key high h

pub take_here : {X : Type 0} (xs ys : List X) → take (length xs) (xs ++ ys) ≡ xs
take_here [] ys = refl
take_here (x ∷ xs) ys = ap (λ zs. x ∷ zs) (take_here xs ys)

pub drop_here : {X : Type 0} (xs ys : List X) → drop (length xs) (xs ++ ys) ≡ ys
drop_here [] ys = refl
drop_here (x ∷ xs) ys = drop_here xs ys

-- the one child
record IsOne {B : Type 0} (subtrees : List (Subtree B)) (t : Slot) : Type 0 where
  pub w : Subtree B
  pub is : subtrees ≡ w ∷ []
  pub slot : t ≡ subtree_slot w

one_of : {B : Type 0} (subtrees : List (Subtree B)) (t : Slot) → map subtree_slot subtrees ≡ t ∷ [] → IsOne subtrees t
one_of [] t e = cc
one_of (w ∷ []) t e = record { w = w; is = refl; slot = cc }
one_of (w ∷ v ∷ vs) t e = cc

-- the last child, apart
pub record IsLastOff (s : Store) (base : ℕ) (low : List ℕ) (high : Option (List ℕ)) (entries : List Entry) (reached : List ℕ) (rank : ℕ) (front : List Slot)
    (t : Slot) (page : ℕ) : Type 0 where
  pub d : ℕ
  pub subtrees : Body (suc d)
  pub body : Body d
  pub rank_is : rank ≡ base + suc d
  pub front_are : front ≡ slots_of (suc d) subtrees
  pub at : IsAt s page (content_of d body)
  pub shown : Shows s d body
  pub lies : Lies d t.key high body
  pub spread : IsSpread (suc d) low (Some t.key) subtrees
  pub front_shown : Shows s (suc d) subtrees
  pub entries_are : entries_of (suc d) subtrees ++ entries_of d body ≡ entries
  pub pages_are : (n : ℕ) → times n (pages_of (suc d) subtrees) + times n (page ∷ pages_of d body) ≡ times n reached
  pub between : IsBetween low high t.key
  pub front_small : Each IsSlot front
  pub little : 6 + length t.key ≤ 1360

pub last_off : (s : Store) (base : ℕ) (low : List ℕ) (high : Option (List ℕ)) (entries : List Entry) (reached : List ℕ) (model : NodeModel) (front : List Slot)
    (t : Slot) (page : ℕ) → IsHeld s base low high entries reached model
    → model.slots ≡ front ++ t ∷ [] → base < model.rank → 0 < length model.slots → t.load ≡ child page
    → IsLastOff s base low high entries reached model.rank front t page
last_off s base low high entries reached model front t page h is deep some load =
    go h.d h.body (h.rank_is some) (sym is ∙ h.slots_are) h.spread h.shown h.entries_are h.pages_are
  where
    go : (d : ℕ) (body : Body d) → model.rank ≡ base + d → front ++ t ∷ [] ≡ slots_of d body → IsSpread d low high body → Shows s d body
        → entries_of d body ≡ entries → ((n : ℕ) → times n (pages_of d body) ≡ times n reached)
        → IsLastOff s base low high entries reached model.rank front t page
    go zero body rank e spread shown ee pp = absurd (omega arith)
    go (suc d) body rank e spread shown ee pp =
        let p = split_body (suc d) body (length front) in
        let one = one_of p.back t (p.back_are ∙ ap (drop (length front)) (sym e) ∙ drop_here front (t ∷ [])) in
        let body_is : body ≡ joined (suc d) p.front (one.w ∷ []) = p.is ∙ ap (joined (suc d) p.front) one.is in
        let spreads = spread_split (suc d) low high p.front (one.w ∷ []) (subst (IsSpread (suc d) low high) body_is spread) in
        let parts = shows_parts s (suc d) p.front (one.w ∷ []) (subst (Shows s (suc d)) body_is shown) in
        let key : one.w.key ≡ t.key = ap (λ (u : Slot). u.key) (sym one.slot) in
        let page_is : one.w.page ≡ page = (let l : child one.w.page ≡ child page = ap (λ (u : Slot). u.load) (sym one.slot) ∙ load in cc) in
        let small : Each IsSlot (front ++ t ∷ []) = subst (Each IsSlot) is h.small in
        let t_small : IsSlot t = (each_back IsSlot front (t ∷ []) small).0 in
        let size : 6 + length t.key + _ ≤ 1360 = t_small.size in
        record {
          d = d;
          subtrees = p.front;
          body = one.w.body;
          rank_is = rank;
          front_are = sym (take_here front (t ∷ [])) ∙ ap (take (length front)) e ∙ sym p.front_are;
          at = subst (λ n. IsAt s n (content_of d one.w.body)) page_is parts.1.0.0;
          shown = parts.1.0.1;
          lies = subst (λ k. Lies d k high one.w.body) key spreads.1.0.0;
          spread = subst (λ k. IsSpread (suc d) low (Some k) p.front) key spreads.0;
          front_shown = parts.0;
          entries_are = ap (λ es. entries_of (suc d) p.front ++ es) (sym (ap (map _) (append-nil _))) ∙ sym (entries_joined (suc d) p.front (one.w ∷ []))
              ∙ ap (entries_of (suc d)) (sym body_is) ∙ ee;
          pages_are = λ n. omega (
            arith,
            pages_joined (suc d) p.front (one.w ∷ []) n,
            ap (times n) (append-nil (one.w.page ∷ pages_of d one.w.body)),
            ap (λ k. times n (k ∷ pages_of d one.w.body)) page_is,
            ap (λ b. times n (pages_of (suc d) b)) body_is,
            pp n,
          );
          between = subst (IsBetween low high) key spreads.1.2.0;
          front_small = each_front IsSlot front (t ∷ []) small;
          little = omega arith;
        }

-- what it opens to
pub last_parted : (old new : Store) (base : ℕ) (low : List ℕ) (high : Option (List ℕ)) (entries : List Entry) (reached : List ℕ) (rank : ℕ) (front : List Slot)
    (t : Slot) (page : ℕ) (model : NodeModel)
    (o : IsLastOff old base low high entries reached rank front t page) → Frame old new
    → IsTurned old new base t.key high (entries_of o.d o.body) (page ∷ pages_of o.d o.body) model
    → AreParted old new base low high entries reached (record { rank = rank; slots = front }) model
last_parted old new base low high entries reached rank front t page model o grows turned =
    record {
      mid = t.key;
      front_entries = entries_of (suc o.d) o.subtrees;
      back_entries = entries_of o.d o.body;
      front_pages = pages_of (suc o.d) o.subtrees;
      back_pages = turned.after;
      entries_are = o.entries_are;
      front_held = record {
        d = suc o.d;
        body = o.subtrees;
        rank_is = λ lt. o.rank_is;
        slots_are = o.front_are;
        small = o.front_small;
        spread = o.spread;
        shown = shows_kept old new grows (suc o.d) o.subtrees o.front_shown;
        entries_are = refl;
        pages_are = λ n. refl;
      };
      back_held = turned.held;
      turned = λ n. omega (arith, turned.turned n, o.pages_are n, times_append n (pages_of (suc o.d) o.subtrees) turned.after);
      over = o.between.0;
      within = within_up_to t.key high o.between.1;
    }

-- the first child, apart
pub record IsFirstOff (s : Store) (base : ℕ) (low : List ℕ) (high : Option (List ℕ)) (entries : List Entry) (reached : List ℕ) (rank : ℕ) (t : Slot)
    (rest : List Slot) (page : ℕ) : Type 0 where
  pub d : ℕ
  pub subtrees : Body (suc d)
  pub body : Body d
  pub rank_is : rank ≡ base + suc d
  pub rest_are : rest ≡ slots_of (suc d) subtrees
  pub at : IsAt s page (content_of d body)
  pub shown : Shows s d body
  pub lies : Lies d t.key (high_of high subtrees) body
  pub spread : IsSpread (suc d) low high subtrees
  pub above : Each (IsUnder t.key) (subtree_keys subtrees)
  pub rest_shown : Shows s (suc d) subtrees
  pub entries_are : entries_of d body ++ entries_of (suc d) subtrees ≡ entries
  pub pages_are : (n : ℕ) → times n (page ∷ pages_of d body) + times n (pages_of (suc d) subtrees) ≡ times n reached
  pub between : IsBetween low high t.key
  pub rest_small : Each IsSlot rest
  pub little : 6 + length t.key ≤ 1360

pub first_off : (s : Store) (base : ℕ) (low : List ℕ) (high : Option (List ℕ)) (entries : List Entry) (reached : List ℕ) (model : NodeModel) (t : Slot)
    (rest : List Slot) (page : ℕ) → IsHeld s base low high entries reached model
    → model.slots ≡ t ∷ rest → base < model.rank → 0 < length model.slots → t.load ≡ child page
    → IsFirstOff s base low high entries reached model.rank t rest page
first_off s base low high entries reached model t rest page h is deep some load =
    go h.d h.body (h.rank_is some) (sym is ∙ h.slots_are) h.spread h.shown h.entries_are h.pages_are
  where
    go : (d : ℕ) (body : Body d) → model.rank ≡ base + d → t ∷ rest ≡ slots_of d body → IsSpread d low high body → Shows s d body → entries_of d body ≡ entries
        → ((n : ℕ) → times n (pages_of d body) ≡ times n reached)
        → IsFirstOff s base low high entries reached model.rank t rest page
    go zero body rank e spread shown ee pp = absurd (omega arith)
    go (suc d) [] rank e spread shown ee pp = cc
    go (suc d) (w ∷ ws) rank e spread shown ee pp =
        let slot : t ≡ subtree_slot w = cc in
        let key : w.key ≡ t.key = ap (λ (u : Slot). u.key) (sym slot) in
        let page_is : w.page ≡ page = (let l : child w.page ≡ child page = ap (λ (u : Slot). u.load) (sym slot) ∙ load in cc) in
        let small : Each IsSlot (t ∷ rest) = subst (Each IsSlot) is h.small in
        let size : 6 + length t.key + _ ≤ 1360 = small.0.size in
        record {
          d = d;
          subtrees = ws;
          body = w.body;
          rank_is = rank;
          rest_are = cc;
          at = subst (λ n. IsAt s n (content_of d w.body)) page_is shown.0.0;
          shown = shown.0.1;
          lies = subst (λ k. Lies d k (high_of high ws) w.body) key spread.0.0;
          spread = (spread.0.1, spread.1.1, spread.2.1);
          above = subst (λ k. Each (IsUnder k) (subtree_keys ws)) key spread.1.0;
          rest_shown = shown.1;
          entries_are = sym (map_append entry_of (pairs_of d w.body) (pairs_of (suc d) ws)) ∙ ee;
          pages_are = λ n. omega
              (arith, times_append n (w.page ∷ pages_of d w.body) (pages_of (suc d) ws), ap (λ k. times n (k ∷ pages_of d w.body)) page_is, pp n);
          between = subst (IsBetween low high) key spread.2.0;
          rest_small = small.1;
          little = omega arith;
        }

rest_glued : (s : Store) (base : ℕ) (low low' : List ℕ) (high : Option (List ℕ)) (d rank : ℕ) (ws : Body (suc d)) (rest : List Slot) (more : List Entry)
    (pages : List ℕ) (other : NodeModel) → rest ≡ slots_of (suc d) ws
    → Each IsSlot rest → IsSpread (suc d) low high ws → Shows s (suc d) ws → rank ≡ base + suc d → IsHeld s base low' (high_of high ws) more pages other
    → other.rank ≡ rank → IsNotUnder low low'
    → IsHeld s base low' high (more ++ entries_of (suc d) ws) (pages ++ pages_of (suc d) ws) (both_of other (record { rank = rank; slots = rest }))
rest_glued s base low low' high d rank [] rest more pages other is small spread shown rank_is h same over =
    let same_s : other.slots ++ rest ≡ other.slots = ap (λ ss. other.slots ++ ss) is ∙ append-nil other.slots in
    record {
      d = h.d;
      body = h.body;
      rank_is = λ lt. h.rank_is (omega (arith, ap length same_s));
      slots_are = same_s ∙ h.slots_are;
      small = each_append IsSlot other.slots rest h.small small;
      spread = h.spread;
      shown = h.shown;
      entries_are = h.entries_are ∙ sym (append-nil more);
      pages_are = λ n. omega (arith, h.pages_are n, times_append n pages []);
    }
rest_glued s base low low' high d rank (w ∷ ws) rest more pages other is small spread shown rank_is h same over =
    glue_held s base low' w.key high more (entries_of (suc d) (w ∷ ws)) pages (pages_of (suc d) (w ∷ ws)) other (record { rank = rank; slots = rest }) h
    (record {
      d = suc d;
      body = w ∷ ws;
      rank_is = λ lt. rank_is;
      slots_are = is;
      small = small;
      spread = (spread.0, spread.1, ((not_under_itself w.key, spread.2.0.1), later (subtree_keys ws) spread.1.0 spread.2.1));
      shown = shown;
      entries_are = refl;
      pages_are = λ n. refl;
    })
    same (not_under_trans low' low w.key over spread.2.0.0) (within_up_to w.key high spread.2.0.1)
  where
    later : (ks : List (List ℕ)) → Each (IsUnder w.key) ks → Each (IsBetween low high) ks → Each (IsBetween w.key high) ks
    later [] u b = tt
    later (k ∷ ks) u b = ((not_both w.key k u.0, b.0.1), later ks u.1 b.1)

pub first_parted : (old new : Store) (base : ℕ) (low : List ℕ) (high : Option (List ℕ)) (entries : List Entry) (reached : List ℕ) (rank : ℕ) (t : Slot)
    (rest : List Slot) (page : ℕ) (model : NodeModel)
    (o : IsFirstOff old base low high entries reached rank t rest page) → Frame old new → IsUpTo low high
    → IsTurned old new base t.key (high_of high o.subtrees) (entries_of o.d o.body) (page ∷ pages_of o.d o.body) model
    → IsFirstCut old new base low high entries reached model (record { rank = rank; slots = rest })
first_parted old new base low high entries reached rank t rest page model o grows upto turned =
    record {
      between = high_of high o.subtrees;
      front_entries = entries_of o.d o.body;
      back_entries = entries_of (suc o.d) o.subtrees;
      front_pages = turned.after;
      back_pages = pages_of (suc o.d) o.subtrees;
      entries_are = o.entries_are;
      front_held = held_low new base t.key low (high_of high o.subtrees) _ _ model o.between.0 turned.held;
      within = lower o.subtrees o.above;
      turned = λ n. omega (arith, turned.turned n, o.pages_are n, times_append n turned.after (pages_of (suc o.d) o.subtrees));
      glue = λ low' over s more pages other grown h same. rest_glued s base low low' high o.d rank o.subtrees rest more pages other o.rest_are o.rest_small
          o.spread (shows_kept old s (frame_trans old new s grows grown) (suc o.d) o.subtrees o.rest_shown) o.rank_is h same over;
    }
  where
    lower : (ws : List (Subtree (Body o.d))) → Each (IsUnder t.key) (subtree_keys ws) → IsUpTo low (high_of high ws)
    lower [] h = upto
    lower (w ∷ ws) h = not_both low w.key (up_to_then_under low t.key w.key o.between.0 h.0)

-- ---- the program's cases

module _ (old new : Store) (base : ℕ) (low : List ℕ) (high : Option (List ℕ)) (entries : List Entry) (reached : List ℕ) (rank page : ℕ) (t : Slot)
    (model : NodeModel) (below : ℕ)
    (grows : Frame old new) (below_is : below + 1 ≡ rank)
    (opens : (base d : ℕ) (high : Option (List ℕ)) (body : Body d) → below ≡ base + d → IsAt old page (content_of d body) → Shows old d body → IsWhole d body
    → IsSound d t.key high body → 6 + length t.key ≤ 1360
    → IsTurned old new base t.key high (entries_of d body) (page ∷ pages_of d body) model × IsReady base model) where
  pub took_last : (front : List Slot) → IsLastOff old base low high entries reached rank front t page
      → AreParted old new base low high entries reached (record { rank = rank; slots = front }) model × IsReady base model
  took_last front o =
      let r = opens base o.d high o.body (omega (arith, o.rank_is)) o.at o.shown o.lies.0 o.lies.1 o.little in
      (last_parted old new base low high entries reached rank front t page model o grows r.0, r.1)

  pub took_first : (rest : List Slot) → IsUpTo low high → IsFirstOff old base low high entries reached rank t rest page
      → IsFirstCut old new base low high entries reached model (record { rank = rank; slots = rest }) × IsReady base model
  took_first rest upto o =
      let r = opens base o.d (high_of high o.subtrees) o.body (omega (arith, o.rank_is)) o.at o.shown o.lies.0 o.lies.1 o.little in
      (first_parted old new base low high entries reached rank t rest page model o grows upto r.0, r.1)

-- above the leaves there are children
children_only : (s : Store) (base : ℕ) (low : List ℕ) (high : Option (List ℕ)) (entries : List Entry) (reached : List ℕ) (model : NodeModel)
    → IsHeld s base low high entries reached model → base < model.rank
    → 0 < length model.slots → Each (λ t. IsChild t.load) model.slots
children_only s base low high entries reached model h deep some = go h.d h.body (h.rank_is some) h.slots_are
  where
    all : {B : Type 0} (ws : List (Subtree B)) → Each (λ t. IsChild t.load) (map subtree_slot ws)
    all [] = tt
    all (w ∷ ws) = (tt, all ws)

    go : (d : ℕ) (body : Body d) → model.rank ≡ base + d → model.slots ≡ slots_of d body → Each (λ t. IsChild t.load) model.slots
    go zero body rank e = absurd (omega arith)
    go (suc d) body rank e = subst (Each (λ t. IsChild t.load)) (sym e) (all body)

pub last_is_child : (s : Store) (base : ℕ) (low : List ℕ) (high : Option (List ℕ)) (entries : List Entry) (reached : List ℕ) (model : NodeModel)
    (front : List Slot) (t : Slot) → IsHeld s base low high entries reached model → base < model.rank
    → 0 < length model.slots → model.slots ≡ front ++ t ∷ [] → IsChild t.load
last_is_child s base low high entries reached model front t h deep some is =
    (each_back (λ u. IsChild u.load) front (t ∷ []) (subst (Each (λ u. IsChild u.load)) is (children_only s base low high entries reached model h deep some))).0

pub first_is_child : (s : Store) (base : ℕ) (low : List ℕ) (high : Option (List ℕ)) (entries : List Entry) (reached : List ℕ) (model : NodeModel) (t : Slot)
    (rest : List Slot) → IsHeld s base low high entries reached model → base < model.rank
    → 0 < length model.slots → model.slots ≡ t ∷ rest → IsChild t.load
first_is_child s base low high entries reached model t rest h deep some is =
    (subst (Each (λ u. IsChild u.load)) is (children_only s base low high entries reached model h deep some)).0

pub last_loose_slots : (old new : List LooseSlot) (u : LooseSlot) (key : List ℕ) → old ≡ new ++ u ∷ [] → key ≡ u.key.items
    → map slot_in old ≡ map slot_in new ++ record { key = key; load = payload_in u.payload } ∷ []
last_loose_slots old new u key e k =
    ap (map slot_in) e ∙ map_append slot_in new (u ∷ []) ∙ ap (λ i. map slot_in new ++ record { key = i; load = payload_in u.payload } ∷ []) (sym k)

pub first_loose_slots : (old new : List LooseSlot) (u : LooseSlot) (key : List ℕ) → 0 < length old → u ≡ get_or old 0 u → new ≡ remove old 0 → key ≡ u.key.items
    → map slot_in old ≡ record { key = key; load = payload_in u.payload } ∷ map slot_in new
first_loose_slots [] new u key lt e r k = absurd (omega arith)
first_loose_slots (x ∷ xs) new u key lt e r k =
    ap (λ y. slot_in y ∷ map slot_in xs) (sym e) ∙ ap (λ zs. slot_in u ∷ map slot_in zs) (sym r)
    ∙ ap (λ i. record { key = i; load = payload_in u.payload } ∷ map slot_in new) (sym k)

pub last_failed : (old new : Store) (base : ℕ) (low : List ℕ) (high : Option (List ℕ)) (entries : List Entry) (reached : List ℕ)
    (r : Result (LooseNode × LooseNode) TreeFault) (f : TreeFault) → IsErrAnd r (λ g. g ≡ f) → HasCause old new f
    → IsAnswer old new (λ parts. AreParted old new base low high entries reached (model_in parts.0) (model_in parts.1) × IsReady base (model_in parts.1)) r
last_failed old new base low high entries reached (Ok v) f h c = absurd h
last_failed old new base low high entries reached (Err g) f h c = subst (HasCause old new) (sym h) c

pub first_failed : (old new : Store) (base : ℕ) (low : List ℕ) (high : Option (List ℕ)) (entries : List Entry) (reached : List ℕ)
    (r : Result (LooseNode × LooseNode) TreeFault) (f : TreeFault) → IsErrAnd r (λ g. g ≡ f) → HasCause old new f
    → IsAnswer old new (λ parts. IsFirstCut old new base low high entries reached (model_in parts.0) (model_in parts.1) × IsReady base (model_in parts.0)) r
first_failed old new base low high entries reached (Ok v) f h c = absurd h
first_failed old new base low high entries reached (Err g) f h c = subst (HasCause old new) (sym h) c
