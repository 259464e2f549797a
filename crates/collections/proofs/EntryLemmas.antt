-- The entries of a tree rise, and from a key on they are read a batch at a time.
use Rattle.std.proofs.Common.{◌≡◌, ◌⊎◌, ℕ, zero, suc, ◌≤◌, Bool, true, false, List, [], ◌∷◌, ◌++◌, length, map, refl, sym, ◌∙◌, ap, subst, arith, inl, inr}
use Rattle.std.proofs.Common.{Some, None, ◌&&◌, not}
use Rattle.std.specs.Prelude.{Option, Result, Ok, Err, MatchResult}
use Rattle.std.specs.List.{flat_map}
use Rattle.std.specs.Option.{option_map}
use Rattle.std.specs.Ordering.{is_lt}
use Rattle.std.specs.declared.cmp.Ordering.{Ordering}
use Rattle.std.specs.declared.cmp.Ordering.TheVariants as orders
use Rattle.std.proofs.lemmas.List.{length-map}
use Rattle.page.specs.History.{History}
use Rattle.tree_model.specs.Calls.{IsBatch}
use Rattle.tree_model.specs.Keys.{Each, Entry, IsBetween, IsNotUnder, IsUnder, IsWithin, Pair, Rises, entry_of, is_within, keep_if, key_cmp, window}
use Rattle.tree_model.specs.Reach.{HasMap}
use Rattle.btree.specs.Scan.{HoldsBatch, entry_in}
use Rattle.tree_model.specs.Store.{HasCause as HasTreeCause, Store}
use Rattle.tree_model.specs.Tree.{Body, IsFan, IsSound, IsWhole, Subtree, pair_keys, pairs_of, subtree_keys}
use Rattle.tree_model.specs.declared.pages.TreeFault.{TreeFault}
use Rattle.btree.specs.declared.scanning.Batch.{Batch}
use Rattle.tree_model.proofs.FanLemmas.{fan_between, pairs_between}
use Rattle.tree_model.proofs.KeyLemmas.{not_both, not_under_itself, under_then_up_to}
use Rattle.tree_model.proofs.ListLemmas.{each_map, map_append, map_map, rises_append}
use Rattle.tree_model.proofs.OnceLemmas.{old_trees_stay}
use Rattle.tree_model.proofs.StoreLemmas.{grows_itself}
use Rattle.entry_model.specs.StateEntries.{entry_keys}
use Rattle.path.specs.declared.refusal.Refusal.{Refusal}
use Rattle.path.specs.declared.refusal.Refusal.TheVariants as refusals
use Rattle.pager.specs.State.{State as PagerState}
use Rattle.pager.specs.View.{store_of}
use Rattle.collections.specs.Calls.{HasCause}
use Rattle.collections.specs.Entries.{AreNextEntries, HasEntries, ReadsTree, entries_from}
use Rattle.collections.specs.Lookups.{LooksUp}
use Rattle.collections.specs.State.{State}
use Rattle.collections.specs.View.{is_stopped, pages_of}
use Rattle.collections.proofs.ReadingLemmas.{AnswersAs, cause_there, room_there, stays_there, changed_there}

-- ---- the keys of a tree rise

abbrev Lies : (d : ℕ) → List ℕ → Option (List ℕ) → Body d → Type 0
Lies d from to body = IsWhole d body × IsSound d from to body

each_keys : (P : List ℕ → Type 0) (xs : List Pair) → Each (λ (x : Pair). P x.key) xs → Each P (pair_keys xs)
each_keys P [] h = tt
each_keys P (x ∷ xs) h = (h.0, each_keys P xs h.1)

-- what lies below all keys of the one list lies below them
each_across : (high : List ℕ) (xs ys : List (List ℕ)) → Each (λ x. IsUnder x high) xs → Each (λ y. IsNotUnder y high) ys → Each (λ x. Each (IsUnder x) ys) xs
each_across high [] ys below above = tt
each_across high (x ∷ xs) ys below above = (each_map _ _ (λ y u. under_then_up_to x high y below.0 u) ys above, each_across high xs ys below.1 above)

fan_rises : (d : ℕ) → ((low : List ℕ) (high : Option (List ℕ)) (body : Body d) → IsSound d low high body → Rises (pair_keys (pairs_of d body)))
    → (high : Option (List ℕ)) (ws : List (Subtree (Body d))) → IsFan (Lies d) high ws → Rises (subtree_keys ws) → Each (IsWithin high) (subtree_keys ws)
    → Rises (pair_keys (flat_map (λ w. pairs_of d w.body) ws))
fan_rises d sub high [] fan rise within = tt
fan_rises d sub high (w ∷ []) fan rise within =
    subst Rises (sym (map_append (λ (x : Pair). x.key) (pairs_of d w.body) []))
    (rises_append (pair_keys (pairs_of d w.body)) [] (sub w.key high w.body fan.0.1) tt (none (pair_keys (pairs_of d w.body))))
  where
    none : (xs : List (List ℕ)) → Each (λ x. Each (IsUnder x) []) xs
    none [] = tt
    none (x ∷ xs) = (tt, none xs)
fan_rises d sub high (w ∷ v ∷ ws) fan rise within =
    let later = flat_map (λ (w : Subtree (Body d)). pairs_of d w.body) (v ∷ ws) in
    let here : Each (λ (x : Pair). IsBetween w.key (Some v.key) x.key) (pairs_of d w.body) = pairs_between d w.key (Some v.key) w.body fan.0.1 in
    let there : Each (λ (x : Pair). IsBetween v.key high x.key) later =
    fan_between (Lies d) (pairs_of d) (λ from to body s. pairs_between d from to body s.1) high v ws fan.1 rise.1 within.1 in
    subst Rises (sym (map_append (λ (x : Pair). x.key) (pairs_of d w.body) later))
    (rises_append (pair_keys (pairs_of d w.body)) (pair_keys later) (sub w.key (Some v.key) w.body fan.0.1)
    (fan_rises d sub high (v ∷ ws) fan.1 rise.1 within.1)
    (each_across v.key (pair_keys (pairs_of d w.body)) (pair_keys later)
    (each_keys (λ k. IsUnder k v.key) (pairs_of d w.body) (each_map _ _ (λ x b. b.1) (pairs_of d w.body) here))
    (each_keys (λ k. IsNotUnder k v.key) later (each_map _ _ (λ x b. b.0) later there))))

body_rises : (d : ℕ) (low : List ℕ) (high : Option (List ℕ)) (body : Body d) → IsSound d low high body → Rises (pair_keys (pairs_of d body))
body_rises zero low high pairs h = h.0
body_rises (suc d) low high [] h = tt
body_rises (suc d) low high (w ∷ ws) h = fan_rises d (body_rises d) high (record { key = low; page = w.page; body = w.body } ∷ ws) h.0 h.1 h.2

pub entries_rise : (s : Store) (root : ℕ) (pages : List ℕ) (entries : List Entry) → HasMap s root pages entries → Rises (entry_keys entries)
entries_rise s root pages entries (inl none) = subst (λ (es : List Entry). Rises (entry_keys es)) (sym none.1.1) tt
entries_rise s root pages entries (inr t) =
    subst (λ (es : List Entry). Rises (entry_keys es)) (sym t.entries_are)
    (subst Rises (sym (map_map entry_of (λ (x : Entry). x.key) (pairs_of t.d t.body))) (body_rises t.d [] None t.body t.tree.sound))

pub tree_rises : {D : Type 0} (history : D → History) (c : State D) (entries : List Entry) → HasEntries history c entries → Rises (entry_keys entries)
tree_rises history c entries has = entries_rise (pages_of history c) c.root has.pages entries has.map

-- ---- from a key on

not_less : (a b : List ℕ) → IsNotUnder a b → is_lt (key_cmp a b) ≡ false
not_less a b h =
    elim (key_cmp a b) as (λ (r : Ordering). (r ≡ orders.Less → ⊥)
    → is_lt r ≡ false) [ orders.Less ↦ (λ n. absurd (n refl)) | orders.Equal ↦ (λ n. refl) | orders.Greater ↦ (λ n. refl) ] h

less_or_not : (o : Ordering) → (o ≡ orders.Less) ⊎ (o ≡ orders.Less → ⊥)
less_or_not orders.Less = inl refl
less_or_not orders.Equal = inr (λ e. cc)
less_or_not orders.Greater = inr (λ e. cc)

module _ (from : List ℕ) where
  left_out : (x : Entry) (xs : List Entry) → IsUnder x.key from → window from None (x ∷ xs) ≡ window from None xs
  left_out x xs under = ap (λ (o : Ordering). keep_if (not (is_lt o) && is_within None x.key) x (window from None xs)) under

  kept : (x : Entry) (xs : List Entry) → IsNotUnder x.key from → window from None (x ∷ xs) ≡ x ∷ window from None xs
  kept x xs above = ap (λ (b : Bool). keep_if (not b && is_within None x.key) x (window from None xs)) (not_less x.key from above)

  -- where none is below the key, all are there
  pub all_kept : (xs : List Entry) → Each (λ (x : Entry). IsNotUnder x.key from) xs → window from None xs ≡ xs
  all_kept [] h = refl
  all_kept (x ∷ xs) h = kept x xs h.0 ∙ ap (λ (ys : List Entry). x ∷ ys) (all_kept xs h.1)

each_over : (from : List ℕ) (x : Entry) (xs : List Entry) → IsNotUnder x.key from → Each (λ y. IsUnder x.key y) (entry_keys xs)
    → Each (λ (y : Entry). IsNotUnder y.key from) xs
each_over from x [] above h = tt
each_over from x (y ∷ ys) above h = ((λ u. above (under_then_up_to_under x.key y.key from h.0 u)), each_over from x ys above h.1)
  where
    under_then_up_to_under : (a b c : List ℕ) → IsUnder a b → IsUnder b c → IsUnder a c
    under_then_up_to_under a b c h g = under_then_up_to a b c h (not_both b c g)

-- What a window has is not below its key.
inside_window : (from : List ℕ) (entries front : List Entry) (next : Entry) (others : List Entry) → window from None entries ≡ front ++ next ∷ others
    → IsNotUnder next.key from
inside_window from [] front next others is = absurd (none front is)
  where
    none : (front : List Entry) → [] ≡ front ++ next ∷ others → ⊥
    none [] e = cc
    none (x ∷ xs) e = cc
inside_window from (y ∷ ys) front next others is = elim (less_or_not (key_cmp y.key from)) [
  | inl under ↦ inside_window from ys front next others (sym (left_out from y ys under) ∙ is)
  | inr above ↦ by above front (λ fs e. inside_window from ys fs next others e) (sym (kept from y ys above) ∙ is)
]
  where
    by : IsNotUnder y.key from → (front : List Entry) → ((fs : List Entry) → window from None ys ≡ fs ++ next ∷ others → IsNotUnder next.key from)
        → y ∷ window from None ys ≡ front ++ next ∷ others → IsNotUnder next.key from
    by above [] later same = let is_next : y ≡ next = cc in subst (λ (z : Entry). IsNotUnder z.key from) is_next above
    by above (f ∷ fs) later same = let rest : window from None ys ≡ fs ++ next ∷ others = cc in later fs rest

-- From the key of an entry on stand it and those behind it.
pub window_next : (from : List ℕ) (entries front : List Entry) (next : Entry) (others : List Entry) → Rises (entry_keys entries)
    → window from None entries ≡ front ++ next ∷ others
    → window next.key None entries ≡ next ∷ others
window_next from [] front next others rise is = absurd (none front is)
  where
    none : (front : List Entry) → [] ≡ front ++ next ∷ others → ⊥
    none [] e = cc
    none (x ∷ xs) e = cc
window_next from (x ∷ xs) front next others rise is = elim (less_or_not (key_cmp x.key from)) [
  | inl under ↦ below (window_next from xs front next others rise.1 (sym (left_out from x xs under) ∙ is)) under
  | inr above ↦ at front (sym (kept from x xs above ∙ ap (λ (ys : List Entry). x ∷ ys) (all_kept from xs (each_over from x xs above rise.0))) ∙ is)
]
  where
    below : window next.key None xs ≡ next ∷ others → IsUnder x.key from → window next.key None (x ∷ xs) ≡ next ∷ others
    below later under = left_out next.key x xs (under_then_up_to x.key from next.key under (inside_window from (x ∷ xs) front next others is)) ∙ later

    at : (front : List Entry) → x ∷ xs ≡ front ++ next ∷ others → window next.key None (x ∷ xs) ≡ next ∷ others
    at front same =
        ap (window next.key None) same ∙ from_there front (subst (λ (es : List Entry). Rises (entry_keys es)) same rise)
      where
        from_there : (front : List Entry) → Rises (entry_keys (front ++ next ∷ others)) → window next.key None (front ++ next ∷ others) ≡ next ∷ others
        from_there [] rises = all_kept next.key (next ∷ others) (not_under_itself next.key, each_over next.key next others (not_under_itself next.key) rises.0)
        from_there (f ∷ fs) rises = left_out next.key f (fs ++ next ∷ others) (first_under fs rises.0) ∙ from_there fs rises.1
          where
            first_under : (fs : List Entry) → Each (λ y. IsUnder f.key y) (entry_keys (fs ++ next ∷ others)) → IsUnder f.key next.key
            first_under [] h = h.0
            first_under (g ∷ gs) h = first_under gs h.1

-- what a batch is among the entries
pub next_entries_are : (from : List ℕ) (limit : ℕ) (entries : List Entry) (batch : Batch) → Rises (entry_keys entries)
    → HoldsBatch limit (window from None entries) batch → AreNextEntries from limit entries batch
next_entries_are from limit entries batch rise holds = record {
  is = by (option_map (λ v. v.items) batch.next) holds;
  most = few (option_map (λ v. v.items) batch.next) holds;
}
  where
    these : List Entry
    these = map entry_in batch.entries.items

    by : (o : Option (List ℕ)) → IsBatch limit (window from None entries) (map entry_in batch.entries.items) o
        → window from None entries ≡ map entry_in batch.entries.items ++ entries_from o entries
    by None h = sym h.0 ∙ sym (nothing_behind (map entry_in batch.entries.items))
      where
        nothing_behind : (xs : List Entry) → xs ++ [] ≡ xs
        nothing_behind [] = refl
        nothing_behind (x ∷ xs) = ap (λ (ys : List Entry). x ∷ ys) (nothing_behind xs)
    by (Some key) h =
        h.is ∙ ap (λ (ys : List Entry). map entry_in batch.entries.items ++ ys)
        (sym (window_next from entries (map entry_in batch.entries.items) h.next h.others rise h.is) ∙ ap (λ (k : List ℕ). window k None entries) h.key_is)

    few : (o : Option (List ℕ)) → IsBatch limit (window from None entries) (map entry_in batch.entries.items) o → length batch.entries.items ≤ limit
    few None h = omega (arith, h.1, length-map batch.entries.items entry_in)
    few (Some key) h = omega (arith, h.full, length-map batch.entries.items entry_in)

-- ---- what reading them does

module _ {D X : Type 0} (history : D → History) (P Q : List Entry → X → Type 0) (old : State D) (pager : PagerState D) (result : Result X TreeFault)
    (looks : LooksUp history old.root P result old.pager pager) (extends : (entries : List Entry) (x : X) → Rises (entry_keys entries) → P entries x
    → Q entries x) where
  abbrev new : State D
  new = record old { pager = pager }

  answer : (entries : List Entry) → Rises (entry_keys entries) → (result : Result X TreeFault) (r : Result X Refusal) → AnswersAs result r
      → MatchResult result (P entries) (HasTreeCause (store_of history old.pager) (store_of history pager))
      → MatchResult r (Q entries) (HasCause history old new)
  answer entries rise (Ok x) (Ok y) same right = subst (Q entries) same (extends entries x rise right)
  answer entries rise (Ok x) (Err e) same right = absurd same
  answer entries rise (Err f) (Ok y) same cause = absurd same
  answer entries rise (Err f) (Err e) same cause = subst (HasCause history old new) (sym same) (cause_there history P old pager result looks f cause)

  pub tree_there : (r : Result X Refusal) → AnswersAs result r → ReadsTree history Q r old new
  tree_there r as_read = record {
    extends = looks.grows;
    unchanged = changed_there history P old pager result looks;
    same = stays_there history P old pager result looks;
    takes = looks.takes;
    room = room_there result r as_read looks.full;
    stays = λ k entries has. record {
      pages = has.pages;
      map = old_trees_stay (store_of history old.pager) (store_of history pager) old.root has.pages entries (looks.grows.frame k) has.map;
    };
    answers = λ k entries has. answer entries (tree_rises history old entries has) result r as_read (looks.yields has.pages entries has.map k);
  }

pub tree_stopped : {D X : Type 0} (history : D → History) (Q : List Entry → X → Type 0) (old : State D) → is_stopped old ≡ true
    → ReadsTree history Q (Err refusals.StorageFailed) old old
tree_stopped history Q old stopped = record {
  extends = grows_itself (store_of history old.pager);
  unchanged = refl;
  same = λ start now has. has;
  takes = refl;
  room = tt;
  stays = λ k entries has. has;
  answers = λ k entries has. inr (inl (refl, inl stopped));
}
