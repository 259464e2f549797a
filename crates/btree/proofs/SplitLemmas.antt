-- What was taken out of a page, in three parts: what is before a child, the child, and what is behind it.
use Rattle.std.proofs.Common.{◌≡◌, ℕ, zero, suc, ◌+◌, ◌<◌, ◌≤◌, take, drop, get_or, List, [], ◌∷◌, ◌++◌, length, Option, refl, sym, ap, ◌∙◌, subst, arith, inl}
use Rattle.std.proofs.Common.{inr}
use Rattle.tree_model.specs.Keys.{Edit, Entry, Each, IsBetween, IsNotUnder, IsUnder, Rises, change, times}
use Rattle.btree.specs.Loose.{IsSpread, IsSlot, Slot, first_or, slots_of}
use Rattle.tree_model.specs.Keys.{edit_keys}
use Rattle.btree.specs.Change.{IsBehind}
use Rattle.tree_model.specs.Store.{Store}
use Rattle.tree_model.specs.Tree.{Body, Shows, entries_of, pages_of, pairs_of, pair_keys, subtree_keys}
use Rattle.btree.specs.Turn.{IsHeld, NodeModel}
use Rattle.tree_model.proofs.KeyLemmas.{not_both, not_under_itself, not_under_trans, under_then_up_to, under_trans}
use Rattle.tree_model.proofs.ListLemmas.{each_back, each_front, each_map, each_of_map, long_append, map_append}
use Rattle.tree_model.proofs.FanLemmas.{fan_between, pairs_between}
use Rattle.btree.proofs.LooseLemmas.{Lies, entries_joined, pages_joined, shows_parts, split_body, spread_split, take_drop}
use Rattle.btree.proofs.EndLemmas.{drop_here, take_here, within_up_to}
use Rattle.btree.proofs.RaiseLemmas.{no_entries, spread_first}
use Rattle.btree.proofs.ScanLemmas.{each_entry}
use Rattle.btree.proofs.ChangeLemmas.{change_append, change_between}

-- the entries that are held lie between the bounds
pub spread_between : (d : ℕ) (low : List ℕ) (high : Option (List ℕ)) (body : Body d) → IsSpread d low high body
    → Each (λ x. IsBetween low high x.key) (pairs_of d body)
spread_between zero low high body h = each_of_map (IsBetween low high) (λ x. x.key) body h.1
spread_between (suc d) low high [] h = tt
spread_between (suc d) low high (w ∷ ws) h =
    each_map _ _ (λ x b. (not_under_trans low w.key x.key h.2.0.0 b.0, b.1)) _
    (fan_between (Lies d) (pairs_of d) (λ from to body s. pairs_between d from to body s.1) high w ws h.0 h.1
    (each_map _ _ (λ k b. b.1) (subtree_keys (w ∷ ws)) h.2))

pub held_between : (s : Store) (base : ℕ) (low : List ℕ) (high : Option (List ℕ)) (entries : List Entry) (pages : List ℕ) (model : NodeModel)
    → IsHeld s base low high entries pages model
    → Each (λ (e : Entry). IsBetween low high e.key) entries
held_between s base low high entries pages model h =
    subst (Each (λ (e : Entry). IsBetween low high e.key)) h.entries_are
    (each_entry (IsBetween low high) (pairs_of h.d h.body) (spread_between h.d low high h.body h.spread))

-- what is held, in two parts
pub record IsTwo (s : Store) (base : ℕ) (low : List ℕ) (high : Option (List ℕ)) (entries : List Entry) (pages : List ℕ) (rank : ℕ)
    (front back : List Slot) : Type 0 where
  pub between : Option (List ℕ)
  pub front_entries : List Entry
  pub back_entries : List Entry
  pub front_pages : List ℕ
  pub back_pages : List ℕ
  pub between_is : between ≡ first_or high back
  pub entries_are : front_entries ++ back_entries ≡ entries
  pub pages_are : (n : ℕ) → times n front_pages + times n back_pages ≡ times n pages
  pub front_held : IsHeld s base low between front_entries front_pages (record { rank = rank; slots = front })
  pub behind : IsBehind s base between high back_entries back_pages (record { rank = rank; slots = back })

pub spread_up : (d : ℕ) (low : List ℕ) (high : Option (List ℕ)) (body : Body d) (s : Slot) (ss : List Slot) → slots_of d body ≡ s ∷ ss
    → IsSpread d low high body → IsSpread d s.key high body
spread_up zero low high [] s ss e h = cc
spread_up zero low high (x ∷ xs) s ss e h = let same : x.key ≡ s.key = cc in
    subst (λ k. IsSpread zero k high (x ∷ xs)) same (h.0, ((not_under_itself x.key, h.1.0.1), later (pair_keys xs) h.0.0 h.1.1))
  where
    later : (ks : List (List ℕ)) → Each (IsUnder x.key) ks → Each (IsBetween low high) ks → Each (IsBetween x.key high) ks
    later [] u b = tt
    later (k ∷ ks) u b = ((not_both x.key k u.0, b.0.1), later ks u.1 b.1)
spread_up (suc d) low high [] s ss e h = cc
spread_up (suc d) low high (w ∷ ws) s ss e h = let same : w.key ≡ s.key = cc in
    subst (λ k. IsSpread (suc d) k high (w ∷ ws)) same (h.0, h.1, ((not_under_itself w.key, h.2.0.1), later (subtree_keys ws) h.1.0 h.2.1))
  where
    later : (ks : List (List ℕ)) → Each (IsUnder w.key) ks → Each (IsBetween low high) ks → Each (IsBetween w.key high) ks
    later [] u b = tt
    later (k ∷ ks) u b = ((not_both w.key k u.0, b.0.1), later ks u.1 b.1)

pub two_parts : (s : Store) (base : ℕ) (low : List ℕ) (high : Option (List ℕ)) (entries : List Entry) (pages : List ℕ) (model : NodeModel)
    (front back : List Slot)
    → IsHeld s base low high entries pages model → model.slots ≡ front ++ back
    → 0 < length front → IsTwo s base low high entries pages model.rank front back
two_parts s base low high entries pages model front back h e some =
    let p = split_body h.d h.body (length front) in
    let front_are : front ≡ slots_of h.d p.front = sym (take_here front back) ∙ ap (take (length front)) (sym e ∙ h.slots_are) ∙ sym p.front_are in
    let back_are : back ≡ slots_of h.d p.back = sym (drop_here front back) ∙ ap (drop (length front)) (sym e ∙ h.slots_are) ∙ sym p.back_are in
    let spreads = spread_split h.d low high p.front p.back (subst (IsSpread h.d low high) p.is h.spread) in
    let shown = shows_parts s h.d p.front p.back (subst (Shows s h.d) p.is h.shown) in
    let small : Each IsSlot (front ++ back) = subst (Each IsSlot) e h.small in
    let rank : model.rank ≡ base + h.d = h.rank_is (omega (arith, ap length e, long_append front back)) in
    record {
      between = first_or high back;
      front_entries = entries_of h.d p.front;
      back_entries = entries_of h.d p.back;
      front_pages = pages_of h.d p.front;
      back_pages = pages_of h.d p.back;
      between_is = refl;
      entries_are = sym (entries_joined h.d p.front p.back) ∙ ap (entries_of h.d) (sym p.is) ∙ h.entries_are;
      pages_are = λ n. omega (arith, pages_joined h.d p.front p.back n, ap (λ b. times n (pages_of h.d b)) p.is, h.pages_are n);
      front_held = record {
        d = h.d;
        body = p.front;
        rank_is = λ lt. rank;
        slots_are = front_are;
        small = each_front IsSlot front back small;
        spread = subst (λ ss. IsSpread h.d low (first_or high ss) p.front) (sym back_are) spreads.0;
        shown = shown.0;
        entries_are = refl;
        pages_are = λ n. refl;
      };
      behind = rest h.d rank p.back back back_are spreads.1 shown.1 (each_back IsSlot front back small);
    }
  where
    rest : (d : ℕ) → model.rank ≡ base + d → (body : Body d) (back : List Slot) → back ≡ slots_of d body → IsSpread d low high body → Shows s d body
        → Each IsSlot back
        → IsBehind s base (first_or high back) high (entries_of d body) (pages_of d body) (record { rank = model.rank; slots = back })
    rest d rank body [] is spread shown small = let empty = no_entries d body (omega (arith, ap length is)) in inl (refl, refl, empty.0, empty.1)
    rest d rank body (t ∷ ts) is spread shown small =
        inr (record {
          mid = t.key;
          is = refl;
          held = record {
            d = d;
            body = body;
            rank_is = λ lt. rank;
            slots_are = is;
            small = small;
            spread = spread_up d low high body t ts (sym is) spread;
            shown = shown;
            entries_are = refl;
            pages_are = λ n. refl;
          };
          within = within_up_to t.key high (spread_first d low high body t ts (sym is) spread).1;
        })

-- ---- edits in order

pub take_under : (es : List Edit) (r : ℕ) (key : List ℕ) → r ≤ length es → Rises (edit_keys es)
    → ((k : ℕ) (d : Edit) → k + 1 ≡ r → IsUnder (get_or es k d).key key) → Each (λ e. IsUnder e.key key) (take r es)
take_under es zero key le rise last = tt
take_under [] (suc r) key le rise last = absurd (omega arith)
take_under (e ∷ es) (suc zero) key le rise last = (last zero e (omega arith), tt)
take_under (e ∷ []) (suc (suc r)) key le rise last = absurd (omega arith)
take_under (e ∷ f ∷ es) (suc (suc r)) key le rise last =
    let more = take_under (f ∷ es) (suc r) key (omega arith) rise.1 (λ k d is. last (suc k) d (omega arith)) in
    (under_trans e.key f.key key rise.0.0 more.0, more)

pub edits_split : (es : List Edit) (r : ℕ) → edit_keys es ≡ edit_keys (take r es) ++ edit_keys (drop r es)
edits_split es r = ap edit_keys (take_drop r es) ∙ map_append (λ e. e.key) (take r es) (drop r es)

-- ---- the map, in three parts

pub change_parts : (theirs mine : List Edit) (el ew er : List Entry) → Each (λ e. Each (λ (y : Entry). IsUnder e.key y.key) (ew ++ er)) theirs
    → Each (λ e. Each (λ (y : Entry). IsUnder y.key e.key) (change theirs el)) mine
    → Each (λ e. Each (λ (y : Entry). IsUnder e.key y.key) er) mine → change (theirs ++ mine) (el ++ (ew ++ er)) ≡ change theirs el ++ (change mine ew ++ er)
change_parts theirs mine el ew er h g k =
    change_append theirs mine (el ++ (ew ++ er)) ∙ ap (change mine) (change_between theirs [] el (ew ++ er) (nothing theirs) h)
    ∙ change_between mine (change theirs el) ew er g k
  where
    nothing : (es : List Edit) → Each (λ e. Each (λ (y : Entry). IsUnder y.key e.key) []) es
    nothing [] = tt
    nothing (e ∷ es) = (tt, nothing es)

-- each of the one list is below each of the other
pub apart : {X : Type 0} (key : X → List ℕ) (k : List ℕ) (es : List Edit) (ys : List X) → Each (λ e. IsUnder e.key k) es → Each (λ y. IsNotUnder (key y) k) ys
    → Each (λ e. Each (λ y. IsUnder e.key (key y)) ys) es
apart key k es ys h g = each_map _ _ (λ e u. each_map _ _ (λ y v. under_then_up_to e.key k (key y) u v) ys g) es h

pub apart_over : {X : Type 0} (key : X → List ℕ) (k : List ℕ) (es : List Edit) (ys : List X) → Each (λ e. IsNotUnder e.key k) es
    → Each (λ y. IsUnder (key y) k) ys → Each (λ e. Each (λ y. IsUnder (key y) e.key) ys) es
apart_over key k es ys h g = each_map _ _ (λ e u. each_map _ _ (λ y v. under_then_up_to (key y) k e.key v u) ys g) es h
