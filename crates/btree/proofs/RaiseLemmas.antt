-- A body that is cut and written stands one level up.
use Rattle.std.proofs.Common.{◌≡◌, ℕ, zero, suc, ◌+◌, ◌<◌, ◌≤◌, List, [], ◌∷◌, ◌++◌, length, map, take, drop, Option, Some, None, Result, Ok, Err, Bool, refl}
use Rattle.std.proofs.Common.{sym, ap, ◌∙◌, subst, arith, ◌⊎◌, inl, inr, append-nil, append_assoc}
use Rattle.tree_model.specs.Keys.{Each, IsBetween, Rises, entry_of, times}
use Rattle.btree.specs.Loose.{load_size, slot_size, IsLoad, GoBehind, IsEnough, IsOver, IsPart, IsSpread, IsSlot, Slot, bare, first_or, pair_slot, slot_keys}
use Rattle.btree.specs.Loose.{slots_of, subtree_slot}
use Rattle.tree_model.specs.Store.{Store, Frame, HasCause}
use Rattle.tree_model.specs.Tree.{Body, Subtree, IsSound, Shows, entries_of, pages_of, pairs_of}
use Rattle.btree.specs.Turn.{AreWritten, IsWritten, MayFill}
use Rattle.std.specs.Result.{IsErrAnd}
use Rattle.btree.proofs.CuttingLemmas.{behind_long, go_all}
use Rattle.tree_model.proofs.ListLemmas.{each_append, long_map, map_append, map_map}
use Rattle.btree.proofs.LooseLemmas.{Lies, bare_pages, bare_pairs, bare_shows, bare_sound, entries_joined, pages_joined, shows_joined, map_behind, map_take}
use Rattle.btree.proofs.LooseLemmas.{shows_parts, split_body, spread_glue, spread_split}
use Rattle.btree.proofs.PartLemmas.{body_whole}
use Rattle.tree_model.proofs.StoreLemmas.{cause_later, shows_kept}
use Rattle.btree.specs.declared.node.LooseSlot.{LooseSlot}
use Rattle.tree_model.specs.declared.pages.TreeFault.{TreeFault}
use Rattle.btree.specs.LooseView.{slot_in}
use Rattle.tree_model.specs.Calls.{IsAnswer}

-- so many were written, and these are left
pub record ArePartly (old new : Store) (d : ℕ) (low : List ℕ) (high : Option (List ℕ)) (body : Body d) (above rest : List Slot) : Type 0 where
  pub subtrees : Body (suc d)
  pub left : Body d
  pub above_are : above ≡ slots_of (suc d) subtrees
  pub rest_are : rest ≡ slots_of d left
  pub small_above : Each IsSlot above
  pub small : Each IsSlot rest
  pub spread : IsSpread (suc d) low (first_or high rest) subtrees
  pub left_spread : IsSpread d low high left
  pub shown : Shows new (suc d) subtrees
  pub left_shown : Shows new d left
  pub entries : entries_of (suc d) subtrees ++ entries_of d left ≡ entries_of d body
  pub pages : (n : ℕ) → times n (pages_of (suc d) subtrees) + times n (pages_of d left) + times n old.made ≡ times n (pages_of d body) + times n new.made
  pub retired : new.retired ≡ old.retired
  pub enough : (length rest ≡ 0) ⊎ IsEnough d rest

spread_rises : (d : ℕ) (low : List ℕ) (high : Option (List ℕ)) (body : Body d) → IsSpread d low high body → Rises (slot_keys (slots_of d body))
spread_rises zero low high body h = subst Rises (sym (map_map pair_slot (λ s. s.key) body)) h.0
spread_rises (suc d) low high body h = subst Rises (sym (map_map subtree_slot (λ s. s.key) body)) h.1

pub spread_first : (d : ℕ) (low : List ℕ) (high : Option (List ℕ)) (body : Body d) (s : Slot) (ss : List Slot) → slots_of d body ≡ s ∷ ss
    → IsSpread d low high body → IsBetween low high s.key
spread_first zero low high [] s ss e h = cc
spread_first zero low high (x ∷ xs) s ss e h = let same : x.key ≡ s.key = cc in subst (IsBetween low high) same h.1.0
spread_first (suc d) low high [] s ss e h = cc
spread_first (suc d) low high (w ∷ ws) s ss e h = let same : w.key ≡ s.key = cc in subst (IsBetween low high) same h.2.0

pub each_take : (n : ℕ) (ss : List Slot) → Each IsSlot ss → Each IsSlot (take n ss)
each_take zero ss h = tt
each_take (suc n) [] h = tt
each_take (suc n) (s ∷ ss) h = (h.0, each_take n ss h.1)

pub each_drop : (n : ℕ) (ss : List Slot) → Each IsSlot ss → Each IsSlot (drop n ss)
each_drop zero ss h = h
each_drop (suc n) [] h = tt
each_drop (suc n) (s ∷ ss) h = each_drop n ss h.1

long_take : (n : ℕ) (ss : List Slot) → n ≤ length ss → length (take n ss) ≡ n
long_take zero ss le = refl
long_take (suc n) [] le = absurd (omega arith)
long_take (suc n) (s ∷ ss) le = omega (arith, long_take n ss (omega arith))

over_none : (keys : List (List ℕ)) → Each (IsOver None) keys
over_none [] = tt
over_none (k ∷ ks) = (tt, over_none ks)

-- what stands in front
pub record IsHead (ss : List Slot) : Type 0 where
  pub s : Slot
  pub rest : List Slot
  pub is : ss ≡ s ∷ rest

pub head_of : (ss : List Slot) → 0 < length ss → IsHead ss
head_of [] lt = absurd (omega arith)
head_of (s ∷ ss) lt = record { s = s; rest = ss; is = refl }

first_take : (n : ℕ) (ss : List Slot) (a b : Option (List ℕ)) → 0 < n → 0 < length ss → first_or a (take n ss) ≡ first_or b ss
first_take zero ss a b lt some = absurd (omega arith)
first_take (suc n) [] a b lt some = absurd (omega arith)
first_take (suc n) (s ∷ ss) a b lt some = refl

-- a part in front, and what is behind it
enough_front : (d : ℕ) (fills : Bool) (rest : List Slot) (at : ℕ) → MayFill d fills → IsPart fills rest at → 0 < at → at ≤ length rest → IsEnough d rest
    → IsEnough d (take at rest)
enough_front zero fills rest at may part lt le enough = omega (arith, long_take at rest le)
enough_front (suc d) fills rest at (inl none) part lt le enough = absurd (omega arith)
enough_front (suc d) fills rest at (inr f) part lt le enough = let two : 2 ≤ at = (part.many f enough).0 in omega (arith, long_take at rest le)

enough_back : (d : ℕ) (fills : Bool) (rest : List Slot) (at : ℕ) → MayFill d fills → IsPart fills rest at → at ≤ length rest → IsEnough d rest
    → (length (drop at rest) ≡ 0) ⊎ IsEnough d (drop at rest)
enough_back zero fills rest at may part le enough = some (length (drop at rest)) refl
  where
    some : (n : ℕ) → n ≡ length (drop at rest) → (length (drop at rest) ≡ 0) ⊎ (0 < length (drop at rest))
    some zero e = inl (sym e)
    some (suc n) e = inr (omega arith)
enough_back (suc d) fills rest at (inl none) part le enough = absurd (omega arith)
enough_back (suc d) fills rest at (inr f) part le enough = elim ((part.many f enough).1) [
  | inl all ↦ inl (omega (arith, behind_long at rest le))
  | inr more ↦ inr (omega (arith, behind_long at rest le))
]

pub partly_more : (old mid new : Store) (d : ℕ) (low : List ℕ) (high : Option (List ℕ)) (body : Body d) (above rest : List Slot) (at : ℕ) (fills : Bool)
    (slot : Slot) (p : ArePartly old mid d low high body above rest)
    → MayFill d fills → IsPart fills rest at → 0 < at → at ≤ length rest → Frame mid new
    → ((b : Body d) → take at rest ≡ slots_of d b → IsEnough d (take at rest) → GoBehind None 0 (take at rest) → IsWritten mid new d b slot)
    → ArePartly old new d low high body (above ++ slot ∷ []) (drop at rest)
partly_more old mid new d low high body above rest at fills slot p may part lt le grows says =
    let s = split_body d p.left at in
    let front_are : take at rest ≡ slots_of d s.front = ap (take at) p.rest_are ∙ sym s.front_are in
    let back_are : drop at rest ≡ slots_of d s.back = ap (drop at) p.rest_are ∙ sym s.back_are in
    let spreads = spread_split d low high s.front s.back (subst (IsSpread d low high) s.is p.left_spread) in
    let high' : Option (List ℕ) = first_or high (drop at rest) in
    let front_spread : IsSpread d low high' s.front = subst (λ ss. IsSpread d low (first_or high ss) s.front) (sym back_are) spreads.0 in
    let whole : IsEnough d rest = elim p.enough [ inl none ↦ absurd (omega arith) | inr some ↦ some ] in
    let enough = enough_front d fills rest at may part lt le whole in
    let rises : Rises (slot_keys (take at rest)) = subst (λ ss. Rises (slot_keys ss)) (sym front_are) (spread_rises d low high' s.front front_spread) in
    let go : GoBehind None 0 (take at rest) =
    go_all None 0 (take at rest) (each_take at rest p.small) rises (over_none (slot_keys (take at rest))) (omega (arith, part.room)) in
    let w = says s.front front_are enough go in
    let subtree : Subtree (Body d) = record { key = slot.key; page = w.page; body = bare d s.front } in
    let is_slot : slot ≡ subtree_slot subtree = ap (λ l. record { key = slot.key; load = l }) w.load in
    let head = head_of (take at rest) (omega (arith, long_take at rest le)) in
    let first : slots_of d s.front ≡ head.s ∷ head.rest = sym front_are ∙ head.is in
    let key_is : head.s.key ≡ slot.key = (let e : Some head.s.key ≡ Some slot.key = ap (first_or None) (sym first) ∙ w.key in cc) in
    let rest_first : first_or high rest ≡ Some slot.key = sym (first_take at rest None high lt (omega arith)) ∙ ap (first_or None) front_are ∙ w.key in
    let lies : Lies d slot.key high' (bare d s.front) = (
      body_whole d s.front (subst (GoBehind None 0) front_are go) (subst (IsEnough d) front_are enough),
      subst (λ k. IsSound d k high' (bare d s.front)) key_is (bare_sound d low high' s.front head.s head.rest first front_spread),
    ) in
    let single : IsSpread (suc d) low high' (subtree ∷ []) =
    ((lies, tt), (tt, tt), (subst (IsBetween low high') key_is (spread_first d low high' s.front head.s head.rest first front_spread), tt)) in
    let head_small : IsSlot head.s = (subst (Each IsSlot) head.is (each_take at rest p.small)).0 in
    let head_size : slot_size head.s ≤ 1360 = head_small.size in
    let is_small : IsSlot slot = record { size = omega (arith, ap length key_is, ap load_size w.load); load = subst IsLoad (sym w.load) w.range } in
    let alone : entries_of (suc d) (subtree ∷ []) ≡ entries_of d s.front = ap (map entry_of) (append-nil (pairs_of d (bare d s.front)) ∙ bare_pairs d s.front)
    in
    let shown_parts = shows_parts mid d s.front s.back (subst (Shows mid d) s.is p.left_shown) in
    record {
      subtrees = p.subtrees ++ subtree ∷ [];
      left = s.back;
      above_are = ap (λ ss. ss ++ slot ∷ []) p.above_are ∙ ap (λ x. slots_of (suc d) p.subtrees ++ x ∷ []) is_slot
          ∙ sym (map_append subtree_slot p.subtrees (subtree ∷ []));
      rest_are = back_are;
      small_above = each_append IsSlot above (slot ∷ []) p.small_above (is_small, tt);
      small = each_drop at rest p.small;
      spread = spread_glue (suc d) low high' p.subtrees (subtree ∷ []) (subst (λ h. IsSpread (suc d) low h p.subtrees) rest_first p.spread) single;
      left_spread = spreads.1;
      shown = shows_joined new (suc d) p.subtrees (subtree ∷ []) (shows_kept mid new grows (suc d) p.subtrees p.shown)
          ((w.at, bare_shows new d s.front (shows_kept mid new grows d s.front shown_parts.0)), tt);
      left_shown = shows_kept mid new grows d s.back shown_parts.1;
      entries = ap (λ es. es ++ entries_of d s.back) (entries_joined (suc d) p.subtrees (subtree ∷ []))
          ∙ append_assoc (entries_of (suc d) p.subtrees) (entries_of (suc d) (subtree ∷ [])) (entries_of d s.back)
          ∙ ap (λ es. entries_of (suc d) p.subtrees ++ (es ++ entries_of d s.back)) alone
          ∙ ap (λ es. entries_of (suc d) p.subtrees ++ es) (sym (entries_joined d s.front s.back) ∙ ap (entries_of d) (sym s.is)) ∙ p.entries;
      pages = λ n. omega (
        arith,
        pages_joined (suc d) p.subtrees (subtree ∷ []) n,
        ap (times n) (append-nil (w.page ∷ pages_of d (bare d s.front))),
        ap (times n) (bare_pages d s.front),
        pages_joined d s.front s.back n,
        ap (λ b. times n (pages_of d b)) s.is,
        p.pages n,
        ap (times n) w.made,
      );
      retired = w.retired ∙ p.retired;
      enough = enough_back d fills rest at may part le whole;
    }

pub partly_none : (s : Store) (d : ℕ) (low : List ℕ) (high : Option (List ℕ)) (body : Body d) (slots : List Slot) → slots ≡ slots_of d body → IsEnough d slots
    → Each IsSlot slots → IsSpread d low high body → Shows s d body
    → ArePartly s s d low high body [] slots
partly_none s d low high body slots e enough small spread shown =
    record {
      subtrees = [];
      left = body;
      above_are = refl;
      rest_are = e;
      small_above = tt;
      small = small;
      spread = (tt, tt, tt);
      left_spread = spread;
      shown = tt;
      left_shown = shown;
      entries = refl;
      pages = λ n. omega arith;
      retired = refl;
      enough = inr enough;
    }

pub no_entries : (d : ℕ) (body : Body d) → length (slots_of d body) ≡ 0 → (entries_of d body ≡ []) × ((n : ℕ) → times n (pages_of d body) ≡ 0)
no_entries zero [] e = (refl, λ n. refl)
no_entries zero (x ∷ xs) e = absurd (omega arith)
no_entries (suc d) [] e = (refl, λ n. refl)
no_entries (suc d) (w ∷ ws) e = absurd (omega arith)

pub no_first : (high : Option (List ℕ)) (ss : List Slot) → length ss ≡ 0 → first_or high ss ≡ high
no_first high [] e = refl
no_first high (s ∷ ss) e = absurd (omega arith)

pub partly_done : (old new : Store) (d : ℕ) (low : List ℕ) (high : Option (List ℕ)) (body : Body d) (above rest : List Slot)
    → ArePartly old new d low high body above rest → length rest ≡ 0 → AreWritten old new d low high body above
partly_done old new d low high body above rest p e =
    let none = no_entries d p.left (omega (arith, ap length p.rest_are)) in
    record {
      subtrees = p.subtrees;
      above_are = p.above_are;
      small = p.small_above;
      spread = subst (λ h. IsSpread (suc d) low h p.subtrees) (no_first high rest e) p.spread;
      shown = p.shown;
      entries = sym (append-nil (entries_of (suc d) p.subtrees)) ∙ ap (λ es. entries_of (suc d) p.subtrees ++ es) (sym none.0) ∙ p.entries;
      pages = λ n. omega (arith, p.pages n, none.1 n);
      retired = p.retired;
    }

-- the next part
record IsNext (d : ℕ) (rest : List Slot) (at : ℕ) : Type 0 where
  pub part : Body d
  pub are : take at rest ≡ slots_of d part
  pub enough : IsEnough d (take at rest)
  pub go : GoBehind None 0 (take at rest)

next_part : (old mid : Store) (d : ℕ) (low : List ℕ) (high : Option (List ℕ)) (body : Body d) (above rest : List Slot) (at : ℕ) (fills : Bool)
    (p : ArePartly old mid d low high body above rest)
    → MayFill d fills → IsPart fills rest at → 0 < at → at ≤ length rest → IsNext d rest at
next_part old mid d low high body above rest at fills p may part lt le =
    let s = split_body d p.left at in
    let front_are : take at rest ≡ slots_of d s.front = ap (take at) p.rest_are ∙ sym s.front_are in
    let spreads = spread_split d low high s.front s.back (subst (IsSpread d low high) s.is p.left_spread) in
    let whole : IsEnough d rest = elim p.enough [ inl none ↦ absurd (omega arith) | inr some ↦ some ] in
    let rises : Rises (slot_keys (take at rest)) = subst (λ ss. Rises (slot_keys ss)) (sym front_are) (spread_rises d low _ s.front spreads.0) in
    record {
      part = s.front;
      are = front_are;
      enough = enough_front d fills rest at may part lt le whole;
      go = go_all None 0 (take at rest) (each_take at rest p.small) rises (over_none (slot_keys (take at rest))) (omega (arith, part.room));
    }

-- the program's step
module _ (old mid new : Store) (d : ℕ) (low : List ℕ) (high : Option (List ℕ)) (body : Body d) (above rest part : List LooseSlot) (at : ℕ) (fills : Bool)
    (p : ArePartly old mid d low high body (map slot_in above) (map slot_in rest)) (may : MayFill d fills) (is_part : Each IsSlot (map slot_in rest)
    → IsPart fills (map slot_in rest) at) (lt : 0 < at) (le : at ≤ length rest)
    (part_is : part ≡ take at rest) (grows : Frame mid new) where
  same_part : take at (map slot_in rest) ≡ map slot_in part
  same_part = sym (map_take slot_in at rest) ∙ ap (map slot_in) (sym part_is)

  le' : at ≤ length (map slot_in rest)
  le' = omega (arith, long_map slot_in rest, le)

  pub partly_step : (behind above' : List LooseSlot) (loose_slot : LooseSlot) → behind ≡ drop at rest
      → ((b : Body d) → map slot_in part ≡ slots_of d b → IsEnough d (map slot_in part) → GoBehind None 0 (map slot_in part)
      → IsWritten mid new d b (slot_in loose_slot))
      → map slot_in above' ≡ map slot_in above ++ slot_in loose_slot ∷ [] → ArePartly old new d low high body (map slot_in above') (map slot_in behind)
  partly_step behind above' loose_slot behind_is says pushed =
      let q = partly_more old mid new d low high body (map slot_in above) (map slot_in rest) at fills (slot_in loose_slot) p may (is_part p.small) lt le' grows
      (λ b e enough go. says b (sym same_part ∙ e) (subst (IsEnough d) same_part enough) (subst (GoBehind None 0) same_part go)) in
      subst (λ ss. ArePartly old new d low high body ss (map slot_in behind)) (sym pushed)
      (subst (ArePartly old new d low high body (map slot_in above ++ slot_in loose_slot ∷ []))
      (sym (map_behind slot_in at rest) ∙ ap (map slot_in) (sym behind_is)) q)

  pub partly_failed : (e : TreeFault)
      → ((b : Body d) → map slot_in part ≡ slots_of d b → IsEnough d (map slot_in part) → GoBehind None 0 (map slot_in part) → HasCause mid new e)
      → Frame old mid → HasCause old new e
  partly_failed e says before =
      let n = next_part old mid d low high body (map slot_in above) (map slot_in rest) at fills p may (is_part p.small) lt le' in
      cause_later old mid new e before (says n.part (sym same_part ∙ n.are) (subst (IsEnough d) same_part n.enough) (subst (GoBehind None 0) same_part n.go))

pub writes_failed : {V : Type 0} (slots : V → List Slot) (old new : Store) (d : ℕ) (low : List ℕ) (high : Option (List ℕ)) (body : Body d)
    (r : Result V TreeFault) (f : TreeFault) → IsErrAnd r (λ g. g ≡ f)
    → HasCause old new f → IsAnswer old new (λ loose_slots. AreWritten old new d low high body (slots loose_slots)) r
writes_failed slots old new d low high body (Ok v) f h c = absurd h
writes_failed slots old new d low high body (Err g) f h c = subst (HasCause old new) (sym h) c
