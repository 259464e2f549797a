-- What a walk has found so far, and with one page more.
use Rattle.std.proofs.Common.{◌≡◌, ◌≢◌, ◌⊎◌, ℕ, zero, suc, ◌+◌, ◌-◌, ◌<◌, ◌≤◌, Bool, true, false, List, [], ◌∷◌, ◌++◌, length, take, drop, min, map, get_or}
use Rattle.std.proofs.Common.{length-take, refl, sym, ◌∙◌, ap, subst, arith, inl, inr, append_assoc, append-nil, length-append, Some, None}
use Rattle.std.specs.Prelude.{◌&&◌, nat_lt, if◌then◌else◌, is_ok, Option, Result, Ok, Err, OnOk, slice_get}
use Rattle.std.specs.List.{AllByRecursion}
use Rattle.std.specs.Ordering.{is_lt, nat_cmp}
use Rattle.std.specs.Cmp.Lexicographic.{slice_cmp}
use Rattle.std.specs.declared.cmp.Ordering.{Ordering}
use Rattle.std.specs.declared.cmp.Ordering.TheVariants.{Less, Equal, Greater}
use Rattle.std.proofs.Math.Seq.{take-append_seam, drop-append_seam}
use Rattle.std.proofs.lemmas.List.{take_all, drop_all, nil_from_length}
use Rattle.std.proofs.lemmas.Option.{slice_get_within}
use Rattle.std.proofs.lemmas.Bool.{cases_lt}
use Rattle.std.proofs.lemmas.Bool.Decides.{nat_tests}
use Rattle.page.specs.Content.{Pivot, IsBranch, IsItem, IsLeaf, IsPlace, Item, branch, chain, inline, is_below, item_keys, leaf, rise, rise_above}
use Rattle.page.specs.Content.{spilled, Place}
use Rattle.page.specs.Format.{PageModel, model_in}
use Rattle.page.specs.Page.{page_at}
use Rattle.page.specs.declared.page_fault.PageFault.{PageFault}
use Rattle.page.specs.declared.page_fault.PageFault.TheVariants as page_faults
use Rattle.tree_model.specs.Calls.{IsPart}
use Rattle.tree_model.specs.Keys.{Each, IsBetween, IsPast, IsUnder, IsWithin, Pair, Rises}
use Rattle.tree_model.specs.Search.{AreBounds}
use Rattle.tree_model.specs.Store.{IsAt, Store}
use Rattle.tree_model.specs.Tree.{Body, HasChain, HasLinks, IsFan, IsSound, IsWhole, Shows, Subtree, pivot_of, content_of, item_of, next_of, pages_of}
use Rattle.tree_model.specs.Tree.{pair_keys}
use Rattle.tree_model.specs.Tree.{place_of, subtree_keys, with_low}
use Rattle.tree_model.proofs.FanLemmas.{fan_append}
use Rattle.tree_model.proofs.GetLemmas.{child_part}
use Rattle.tree_model.proofs.KeyLemmas.{under_trans, up_to_then_under, within_wider}
use Rattle.tree_model.proofs.ListLemmas.{At, each_append, each_map, flat_append, long_map, map_append, rises_append, take_more}
use Rattle.tree_model.proofs.SearchLemmas.{got_itself}
use Rattle.page.specs.History.{History, now}
use Rattle.roots.specs.declared.opening.OpenFault.{OpenFault}
use Rattle.roots.specs.declared.opening.OpenFault.TheVariants as faults
use Rattle.roots.specs.declared.root.Root.{Root}
use Rattle.roots.specs.declared.reachable_pages.Reached.{Reached}
use Rattle.roots.specs.Found.{HasFoundChain, HasFoundFan, HasFoundPairs, HasFoundPart, HasFoundValue, ReachesDepth, bound_of}
use Rattle.roots.specs.Image.{content_in, model_at, store_of}
use Rattle.roots.specs.Walk.{CanReach, IsMarked, pages_in, pages_so_far}
use Rattle.roots.proofs.WalkLemmas.{can_reach_there, got_there, reached_there, same_pages}

-- ---- a page that was read

first_test : (a b : Bool) (found other : Result PageModel PageFault) (model : PageModel) → ((if a && b then found else Err page_faults.Number) ≡ Ok model)
    → a ≡ true
first_test true b found other model is = refl
first_test false b found other model is = absurd cc

pub page_there : (image : ℕ → List ℕ) (root : Root) (page : ℕ) (model : PageModel) → model_at image root page ≡ Ok model
    → IsAt (store_of (model_at image root)) page model.content
page_there image root page model is = record {
  number = grind
      (arith, nat_tests, first_test (nat_lt 0 page) (nat_lt page root.pages) (model_in page root.generation (page_at image page)) (Ok model) model is);
  live = ap is_ok is;
  holds = ap content_in is;
}

-- ---- a chain

pub record ChainSoFar (s : Store) (first len left page : ℕ) (before so_far : List ℕ) : Type 0 where
  pub front : List ℕ
  pub bytes : List ℕ
  pub long : length bytes + left ≡ len
  pub reached : so_far ≡ before ++ front
  pub joins : (back rest : List ℕ) → HasLinks s back rest → next_of back ≡ page → length rest ≡ left → HasLinks s (front ++ back) (bytes ++ rest)
  pub first_is : (back : List ℕ) → next_of back ≡ page → next_of (front ++ back) ≡ first

pub chain_begins : (s : Store) (first len : ℕ) (before : List ℕ) → ChainSoFar s first len len first before before
chain_begins s first len before = record {
  front = [];
  bytes = [];
  long = omega arith;
  reached = sym (append-nil before);
  joins = λ back rest has next long. has;
  first_is = λ back next. next;
}

part_taken : (part rest : List ℕ) → length part ≡ 4076 → (take 4076 (part ++ rest) ≡ part) × (drop 4076 (part ++ rest) ≡ rest)
part_taken part rest long = (
  (λ i. take (sym long i) (part ++ rest)) ∙ take-append_seam part rest,
  (λ i. drop (sym long i) (part ++ rest)) ∙ drop-append_seam part rest,
)

last_taken : (part : List ℕ) → length part ≤ 4076 → (take 4076 (part ++ []) ≡ part) × (drop 4076 (part ++ []) ≡ [])
last_taken part few =
    let all : length (part ++ []) ≤ 4076 = omega (arith, ap length (append-nil part), few) in
    (take_all 4076 (part ++ []) all ∙ append-nil part, drop_all 4076 (part ++ []) all)

link_there : (s : Store) (page next left : ℕ) (part back rest : List ℕ) → 0 < left → length part ≡ min left 4076 → IsAt s page (chain next part)
    → HasLinks s back rest → next_of back ≡ next → length rest ≡ left - length part
    → HasLinks s (page ∷ back) (part ++ rest)
link_there s page next left part back rest some long at has is size = elim (cases_lt left 4076) [
  | inr full ↦
      let t = part_taken part rest (omega (arith, full, long)) in (
        omega (arith, length-append part rest, long, some),
        subst (λ (c : List ℕ). IsAt s page (chain (next_of back) c)) (sym t.0) (subst (λ (n : ℕ). IsAt s page (chain n part)) (sym is) at),
        subst (HasLinks s back) (sym t.1) has,
      )
  | inl few ↦
      let none : rest ≡ [] = nil_from_length rest (omega (arith, size, long, few)) in
      let t = last_taken part (omega (arith, long)) in
      let same : part ++ rest ≡ part ++ [] = ap (λ (r : List ℕ). part ++ r) none in (
        omega (arith, length-append part rest, long, some),
        subst (λ (c : List ℕ). IsAt s page (chain (next_of back) c)) (sym (ap (take 4076) same ∙ t.0))
            (subst (λ (n : ℕ). IsAt s page (chain n part)) (sym is) at),
        subst (HasLinks s back) (none ∙ sym (ap (drop 4076) same ∙ t.1)) has,
      )
]

pub chain_more : (s : Store) (first len left left' page next : ℕ) (part before so_far so_far' : List ℕ) → ChainSoFar s first len left page before so_far
    → 0 < left → length part ≡ min left 4076 → left' ≡ left - length part
    → IsAt s page (chain next part) → so_far' ≡ so_far ++ page ∷ [] → ChainSoFar s first len left' next before so_far'
chain_more s first len left left' page next part before so_far so_far' c some long less at more = record {
  front = c.front ++ page ∷ [];
  bytes = c.bytes ++ part;
  long = omega (arith, length-append c.bytes part, c.long, less, long);
  reached = more ∙ ap (λ (l : List ℕ). l ++ page ∷ []) c.reached ∙ append_assoc before c.front (page ∷ []);
  joins = λ back rest has is size.
      let joined : HasLinks s (c.front ++ page ∷ back) (c.bytes ++ (part ++ rest)) =
      c.joins (page ∷ back) (part ++ rest) (link_there s page next left part back rest some long at has is (size ∙ less)) refl
      (omega (arith, length-append part rest, size, less, long)) in
      subst (λ (l : List ℕ). HasLinks s l ((c.bytes ++ part) ++ rest)) (sym (append_assoc c.front (page ∷ []) back))
      (subst (HasLinks s (c.front ++ page ∷ back)) (sym (append_assoc c.bytes part rest)) joined);
  first_is = λ back is. ap next_of (append_assoc c.front (page ∷ []) back) ∙ c.first_is (page ∷ back) refl;
}

pub chain_found : (s : Store) (first len left page : ℕ) (before so_far : List ℕ) → ChainSoFar s first len left page before so_far → left ≡ 0 → page ≡ 0
    → HasFoundChain s first len before so_far
chain_found s first len left page before so_far c none end = record {
  links = c.front ++ [];
  value = c.bytes ++ [];
  has = c.joins [] [] refl (sym end) (sym none);
  next = c.first_is [] (sym end);
  long = omega (arith, ap length (append-nil c.bytes), c.long, none);
  reached = c.reached ∙ ap (λ (l : List ℕ). before ++ l) (sym (append-nil c.front));
}

-- ---- a value

pub inline_found : (s : Store) (place : Place) (bytes before : List ℕ) → place ≡ inline bytes → HasFoundValue s place before before
inline_found s place bytes before is = record {
  links = [];
  value = bytes;
  is = is;
  has = λ some. absurd (omega (arith, some));
  reached = sym (append-nil before);
}

pub spilled_found : (s : Store) (place : Place) (len first : ℕ) (before after : List ℕ) → place ≡ spilled len first → IsPlace place
    → HasFoundChain s first len before after → HasFoundValue s place before after
spilled_found s place len first before after is lawful found = record {
  links = found.links;
  value = found.value;
  is = is ∙ named found.links found.has found.next;
  has = λ some. found.has;
  reached = found.reached;
}
  where
    named : (links : List ℕ) → HasLinks s links found.value → next_of links ≡ first → spilled len first ≡ place_of links found.value
    named [] has next = let long : (330 < len) × (len < 4294967296) × (first < 4294967296) = subst IsPlace is lawful in
        absurd (omega (arith, long.0, found.long, ap length has))
    named (p ∷ ps) has next = λ i. spilled (sym found.long i) (sym next i)

pub value_found : {X E : Type 0} (s : Store) (place : Place) (len first : ℕ) (before after : List ℕ) (result : Result X E) → place ≡ spilled len first
    → IsPlace place → OnOk result (HasFoundChain s first len before after)
    → OnOk result (HasFoundValue s place before after)
value_found s place len first before after (Ok done) is lawful found = spilled_found s place len first before after is lawful found
value_found s place len first before after (Err e) is lawful none = tt

-- ---- the cells of a leaf

pub no_pairs_found : (s : Store) (low : List ℕ) (high : Option (List ℕ)) (items : List Item) (before : List ℕ)
    → HasFoundPairs s low high (take 0 items) before before
no_pairs_found s low high items before = record { pairs = []; is = refl; shown = tt; between = tt; reached = sym (append-nil before) }

next_taken : {X : Type 0} (xs : List X) (i : ℕ) (x : X) → slice_get xs i ≡ Some x → take (i + 1) xs ≡ take i xs ++ x ∷ []
next_taken xs i x got = take_more xs i x (slice_get_within xs i x got) ∙ ap (λ y. take i xs ++ y ∷ []) (sym (got_itself xs i x got x))

pub item_place : (items : List Item) (i : ℕ) (item : Item) → AllByRecursion IsItem items → slice_get items i ≡ Some item → IsPlace item.place
item_place [] i item each got = absurd cc
item_place (x ∷ xs) zero item each got = subst (λ (y : Item). IsPlace y.place) (let same : x ≡ item = cc in same) each.0.place
item_place (x ∷ xs) (suc i) item each got = item_place xs i item each.1 got

pub pairs_more : (s : Store) (low : List ℕ) (high : Option (List ℕ)) (items : List Item) (i : ℕ) (item : Item) (before so_far so_far' : List ℕ)
    → slice_get items i ≡ Some item → HasFoundPairs s low high (take i items) before so_far
    → IsBetween low high item.key → HasFoundValue s item.place so_far so_far' → HasFoundPairs s low high (take (i + 1) items) before so_far'
pairs_more s low high items i item before so_far so_far' got f between v =
    let x : Pair = record { key = item.key; value = v.value; links = v.links } in
    record {
      pairs = f.pairs ++ x ∷ [];
      is = next_taken items i item got ∙ (λ j. f.is j ++ record { key = item.key; place = v.is j } ∷ []) ∙ sym (map_append item_of f.pairs (x ∷ []));
      shown = each_append (HasChain s) f.pairs (x ∷ []) f.shown (v.has, tt);
      between = subst (Each (IsBetween low high)) (sym (map_append (λ (y : Pair). y.key) f.pairs (x ∷ [])))
          (each_append (IsBetween low high) (pair_keys f.pairs) (item.key ∷ []) f.between (between, tt));
      reached =
          v.reached ∙ ap (λ (l : List ℕ). l ++ v.links) f.reached ∙ append_assoc before (pages_of zero f.pairs) v.links
          ∙ ap (λ (l : List ℕ). before ++ (pages_of zero f.pairs ++ l)) (sym (append-nil v.links))
          ∙ ap (λ (l : List ℕ). before ++ l) (sym (flat_append (λ (y : Pair). y.links) f.pairs (x ∷ [])));
    }

pub all_pairs_found : (s : Store) (low : List ℕ) (high : Option (List ℕ)) (items : List Item) (i : ℕ) (before after : List ℕ) → length items ≤ i
    → HasFoundPairs s low high (take i items) before after → HasFoundPairs s low high items before after
all_pairs_found s low high items i before after all f = subst (λ (its : List Item). HasFoundPairs s low high its before after) (take_all i items all) f

-- ---- keys that rise

cmp_less : (o : Ordering) → is_lt o ≡ true → o ≡ Less
cmp_less Less is = refl
cmp_less Equal is = absurd cc
cmp_less Greater is = absurd cc

both_true : (a b : Bool) → (a && b) ≡ true → (a ≡ true) × (b ≡ true)
both_true true true is = (refl, refl)
both_true true false is = absurd cc
both_true false b is = absurd cc

rises_above : (last : List ℕ) (keys : List (List ℕ)) → rise_above last keys ≡ true → Each (IsUnder last) keys × Rises keys
rises_above last [] is = (tt, tt)
rises_above last (key ∷ keys) is =
    let b = both_true (is_below last key) (rise_above key keys) is in
    let under : IsUnder last key = cmp_less (slice_cmp nat_cmp last key) b.0 in
    let rest = rises_above key keys b.1 in
    ((under, each_map (IsUnder key) (IsUnder last) (λ k u. under_trans last key k under u) keys rest.0), rest)

rises_all : (keys : List (List ℕ)) → rise keys ≡ true → Rises keys
rises_all [] is = tt
rises_all (key ∷ keys) is = rises_above key keys is

keys_same : (pairs : List Pair) → item_keys (map item_of pairs) ≡ pair_keys pairs
keys_same [] = refl
keys_same (x ∷ xs) = ap (λ (l : List (List ℕ)). x.key ∷ l) (keys_same xs)

-- ---- a part

-- what a part holds lies between bounds
pub part_within : (s : Store) (page level d : ℕ) (low : List ℕ) (high : Option (List ℕ)) (body : Body d) → IsPart s page level d low high body
    → IsWithin high low
part_within s page level zero low high [] part = absurd (omega (arith, part.whole.some))
part_within s page level zero low high (x ∷ xs) part = inside high part.sound.1.0
  where
    inside : (high : Option (List ℕ)) → IsBetween low high x.key → IsWithin high low
    inside None between = tt
    inside (Some bound) between = up_to_then_under low x.key bound between.0 between.1
part_within s page level (suc d) low high [] part = absurd (omega (arith, part.whole.some))
part_within s page level (suc d) low high (w ∷ ws) part = part.sound.2.0

pub leaf_found : (s : Store) (page : ℕ) (low : List ℕ) (high : Option (List ℕ)) (items : List Item) (before mid after : List ℕ) → IsAt s page (leaf items)
    → IsLeaf items → IsWithin high low → mid ≡ before ++ page ∷ []
    → HasFoundPairs s low high items mid after → HasFoundPart s page 0 low high before after
leaf_found s page low high items before mid after at lawful within noted f = record {
  body = f.pairs;
  at = subst (λ (its : List Item). IsAt s page (leaf its)) f.is at;
  shown = f.shown;
  whole = subst IsLeaf f.is lawful;
  sound = (
    rises_all (pair_keys f.pairs) (ap rise (sym (keys_same f.pairs)) ∙ ap (λ (its : List Item). rise (item_keys its)) (sym f.is) ∙ lawful.ascending),
    f.between,
  );
  within = within;
  reached = f.reached ∙ ap (λ (l : List ℕ). l ++ pages_of zero f.pairs) noted ∙ append_assoc before (page ∷ []) (pages_of zero f.pairs);
}

-- ---- the children of a branch

pub no_fan_found : (s : Store) (d : ℕ) (low : List ℕ) (high : Option (List ℕ)) (pivots : List Pivot) (before : List ℕ)
    → HasFoundFan s d low high pivots 0 before before
no_fan_found s d low high pivots before = record { subtrees = []; is = refl; shown = tt; fan = tt; rise = tt; within = tt; reached = sym (append-nil before) }

-- before the first child, the children may stand at any height
pub fan_height : (s : Store) (d e : ℕ) (low : List ℕ) (high : Option (List ℕ)) (pivots : List Pivot) (i : ℕ) (before after : List ℕ) → (i ≡ 0) ⊎ (e ≡ d)
    → HasFoundFan s d low high pivots i before after → HasFoundFan s e low high pivots i before after
fan_height s d e low high pivots i before after (inl none) f = go f.subtrees (ap length (sym f.is) ∙ ap (λ (n : ℕ). length (take n pivots)) none) f.reached
  where
    go : (subtrees : List (Subtree (Body d))) → length (map pivot_of subtrees) ≡ 0 → after ≡ before ++ pages_of (suc d) subtrees
        → HasFoundFan s e low high pivots i before after
    go [] long reached = record { subtrees = []; is = ap (λ (n : ℕ). take n pivots) none; shown = tt; fan = tt; rise = tt; within = tt; reached = reached }
    go (w ∷ ws) long reached = absurd (omega (arith, long))
fan_height s d e low high pivots i before after (inr same) f = subst (λ (n : ℕ). HasFoundFan s n low high pivots i before after) (sym same) f

bound_here : (high : Option (List ℕ)) (pivots : List Pivot) (i : ℕ) (pivot : Pivot) → slice_get pivots i ≡ Some pivot
    → bound_of high (drop i pivots) ≡ Some pivot.key
bound_here high [] i pivot got = absurd cc
bound_here high (a ∷ others) zero pivot got = ap (λ (x : Pivot). Some x.key) (let same : a ≡ pivot = cc in same)
bound_here high (a ∷ others) (suc i) pivot got = bound_here high others i pivot got

bound_next : (high : Option (List ℕ)) (pivots : List Pivot) (i : ℕ) (to : Option (List ℕ)) → (length pivots ≤ i → to ≡ high)
    → ((d : Pivot) → i < length pivots → to ≡ Some (get_or pivots i d).key) → bound_of high (drop i pivots) ≡ to
bound_next high [] zero to last inner = sym (last (omega arith))
bound_next high [] (suc i) to last inner = sym (last (omega arith))
bound_next high (a ∷ others) zero to last inner = sym (inner a (omega arith))
bound_next high (a ∷ others) (suc i) to last inner =
    bound_next high others i to (λ past. last (omega (arith, past))) (λ d inside. inner d (omega (arith, inside)))

-- one child more
module _ (s : Store) (d : ℕ) (low : List ℕ) (high : Option (List ℕ)) (pivots : List Pivot) (i : ℕ) (child : Pivot) (from : List ℕ) (to : Option (List ℕ))
    (got : slice_get pivots i ≡ Some child) (bounds : AreBounds low high pivots i from to) where
  abbrev Lies : List ℕ → Option (List ℕ) → Body d → Type 0
  Lies from to body = IsWhole d body × IsSound d from to body

  to_is : bound_of high (drop (i + 1) pivots) ≡ to
  to_is = bound_next high pivots (i + 1) to (λ past. bounds.last (omega (arith, past))) (λ e inside. bounds.inner e (omega (arith, inside)))

  from_is : 0 < i → from ≡ child.key
  from_is some = bounds.later child some ∙ ap (λ (a : Pivot). a.key) (sym (got_itself pivots i child got child))

  record IsRisingFan (subtrees : List (Subtree (Body d))) (bound : Option (List ℕ)) : Type 0 where
    fan : IsFan Lies bound (with_low low subtrees)
    rise : Rises (subtree_keys (with_low low subtrees))
    within : Each (IsWithin bound) (subtree_keys (with_low low subtrees))

  longer : (subtrees : List (Subtree (Body d))) (w : Subtree (Body d)) → length subtrees ≡ i → w.key ≡ child.key
      → IsRisingFan subtrees (bound_of high (drop i pivots))
      → Lies from to w.body → IsWithin to from → IsRisingFan (subtrees ++ w ∷ []) to
  longer [] w long named f lies within =
      let same : from ≡ low = bounds.first (sym long) in
      record {
        fan = (subst (λ (k : List ℕ). Lies k to w.body) same lies, tt);
        rise = (tt, tt);
        within = (subst (IsWithin to) same within, tt);
      }
  longer (v ∷ vs) w long named f lies within =
      let key_is : from ≡ w.key = from_is (omega (arith, long)) ∙ sym named in
      let bound : bound_of high (drop i pivots) ≡ Some w.key = bound_here high pivots i child got ∙ ap Some (sym named) in
      let ws : List (Subtree (Body d)) = with_low low (v ∷ vs) in
      let keys : subtree_keys (ws ++ w ∷ []) ≡ subtree_keys ws ++ w.key ∷ [] = map_append (λ (t : Subtree (Body d)). t.key) ws (w ∷ []) in
      let under : Each (λ (k : List ℕ). IsUnder k w.key) (subtree_keys ws) = subst (λ (b : Option (List ℕ)). Each (IsWithin b) (subtree_keys ws)) bound
      f.within in
      let above : IsWithin to w.key = subst (IsWithin to) key_is within in
      record {
        fan = fan_append Lies to ws (w ∷ []) (subst (λ (b : Option (List ℕ)). IsFan Lies b ws) bound f.fan)
            (subst (λ (k : List ℕ). Lies k to w.body) key_is lies, tt);
        rise = subst Rises (sym keys)
            (rises_append (subtree_keys ws) (w.key ∷ []) f.rise (tt, tt)
            (each_map (λ k. IsUnder k w.key) (λ k. Each (IsUnder k) (w.key ∷ [])) (λ k u. (u, tt)) (subtree_keys ws) under));
        within = subst (Each (IsWithin to)) (sym keys)
            (each_append (IsWithin to) (subtree_keys ws) (w.key ∷ [])
            (each_map (λ k. IsUnder k w.key) (IsWithin to) (λ k u. within_wider to w.key k above u) (subtree_keys ws) under) (above, tt));
      }

  pub fan_more : (before so_far so_far' : List ℕ) → HasFoundFan s d low high pivots i before so_far → HasFoundPart s child.child d from to so_far so_far'
      → HasFoundFan s d low high pivots (i + 1) before so_far'
  fan_more before so_far so_far' f p =
      let w : Subtree (Body d) = record { key = child.key; page = child.child; body = p.body } in
      let long : length f.subtrees ≡ i =
      omega (arith, long_map (pivot_of {B = Body d}) f.subtrees, ap length f.is, length-take i pivots, slice_get_within pivots i child got) in
      let r : IsRisingFan (f.subtrees ++ w ∷ []) to =
      longer f.subtrees w long refl (record { fan = f.fan; rise = f.rise; within = f.within }) (p.whole, p.sound) p.within in
      record {
        subtrees = f.subtrees ++ w ∷ [];
        is = next_taken pivots i child got ∙ (λ j. f.is j ++ child ∷ []) ∙ sym (map_append pivot_of f.subtrees (w ∷ []));
        shown = each_append (λ (t : Subtree (Body d)). IsAt s t.page (content_of d t.body) × Shows s d t.body) f.subtrees (w ∷ []) f.shown
            ((p.at, p.shown), tt);
        fan = subst (λ (b : Option (List ℕ)). IsFan Lies b (with_low low (f.subtrees ++ w ∷ []))) (sym to_is) r.fan;
        rise = r.rise;
        within = subst (λ (b : Option (List ℕ)). Each (IsWithin b) (subtree_keys (with_low low (f.subtrees ++ w ∷ [])))) (sym to_is) r.within;
        reached =
            p.reached ∙ ap (λ (l : List ℕ). l ++ child.child ∷ pages_of d p.body) f.reached
            ∙ append_assoc before (pages_of (suc d) f.subtrees) (child.child ∷ pages_of d p.body)
            ∙ ap (λ (l : List ℕ). before ++ (pages_of (suc d) f.subtrees ++ l)) (sym (append-nil (child.child ∷ pages_of d p.body)))
            ∙ ap (λ (l : List ℕ). before ++ l) (sym (flat_append (λ (t : Subtree (Body d)). t.page ∷ pages_of d t.body) f.subtrees (w ∷ [])));
      }

pub branch_found : (s : Store) (page d depth : ℕ) (low : List ℕ) (high : Option (List ℕ)) (pivots : List Pivot) (i : ℕ) (before mid after : List ℕ)
    → IsAt s page (branch pivots) → IsBranch pivots → IsWithin high low → length pivots ≤ i → depth ≡ suc d
    → mid ≡ before ++ page ∷ [] → HasFoundFan s d low high pivots i mid after → HasFoundPart s page depth low high before after
branch_found s page d depth low high pivots i before mid after at lawful within all is noted f =
    let pivots_are : pivots ≡ map pivot_of f.subtrees = sym (take_all i pivots all) ∙ f.is in
    let bound : bound_of high (drop i pivots) ≡ high = ap (bound_of high) (drop_all i pivots all) in
    subst (λ (n : ℕ). HasFoundPart s page n low high before after) (sym is) (record {
      body = f.subtrees;
      at = subst (λ (those : List Pivot). IsAt s page (branch those)) pivots_are at;
      shown = f.shown;
      whole = subst IsBranch pivots_are lawful;
      sound = (
        subst (λ (b : Option (List ℕ)). IsFan (λ from to body. IsWhole d body × IsSound d from to body) b (with_low low f.subtrees)) bound f.fan,
        f.rise,
        subst (λ (b : Option (List ℕ)). Each (IsWithin b) (subtree_keys (with_low low f.subtrees))) bound f.within,
      );
      within = within;
      reached = f.reached ∙ ap (λ (l : List ℕ). l ++ pages_of (suc d) f.subtrees) noted ∙ append_assoc before (page ∷ []) (pages_of (suc d) f.subtrees);
    })

-- ---- what has to be found

pub depth_failed : (d : ℕ) (pages before after : List ℕ) (result : Result ℕ OpenFault) (e : OpenFault) → result ≡ Err e → e ≢ faults.Damaged
    → ReachesDepth d pages before after result
depth_failed d pages before after (Ok n) e is ne = absurd cc
depth_failed d pages before after (Err f) e is ne = λ damaged. ne (let same : e ≡ f = cc in same ∙ damaged)

-- a child that is part of a tree
pub child_there : (h1 h2 : History) (root : Root) → now h2 ≡ now h1
    → (page level d : ℕ) (low : List ℕ) (high : Option (List ℕ)) (subtrees : List (Subtree (Body d))) (pivots : List Pivot) (i : ℕ) (a : At subtrees i)
    (child : Pivot)
    (from : List ℕ) (to : Option (List ℕ)) → pivots ≡ map pivot_of subtrees
    → slice_get pivots i ≡ Some child → AreBounds low high pivots i from to → IsPart (pages_in h1 root) page level (suc d) low high subtrees
    → IsPart (pages_in h2 root) child.child (level + 1) d from to a.mid.body
child_there h1 h2 root same page level d low high subtrees pivots i a child from to e got bounds part =
    let subtrees_are : subtrees ≡ a.front ++ a.mid ∷ a.back = a.is in
    let pivots_are : pivots ≡ map pivot_of (a.front ++ a.mid ∷ a.back) = e ∙ ap (map pivot_of) subtrees_are in
    let part' : IsPart (pages_in h1 root) page level (suc d) low high (a.front ++ a.mid ∷ a.back) =
    subst (λ (ts : List (Subtree (Body d))). IsPart (pages_in h1 root) page level (suc d) low high ts) subtrees_are part in
    let bounds' : AreBounds low high (map pivot_of (a.front ++ a.mid ∷ a.back)) (length a.front) from to =
    subst (λ (n : ℕ). AreBounds low high (map pivot_of (a.front ++ a.mid ∷ a.back)) n from to) (sym a.place)
    (subst (λ (those : List Pivot). AreBounds low high those i from to) pivots_are bounds) in
    let page_is : a.mid.page ≡ child.child = ap (λ (x : Pivot). x.child) (got_there subtrees i a pivot_of pivots child e got) in
    subst (λ (s : Store). IsPart s child.child (level + 1) d from to a.mid.body) (sym (same_pages h1 h2 root same))
    (subst (λ (n : ℕ). IsPart (pages_in h1 root) n (level + 1) d from to a.mid.body) page_is
    (child_part (pages_in h1 root) page level d low high a.front a.mid a.back from to part' bounds'))

-- the pages below it
pub child_can : (root : Root) (d : ℕ) (subtrees : List (Subtree (Body d))) (pivots : List Pivot) (i : ℕ) (a : At subtrees i) (child : Pivot)
    → pivots ≡ map pivot_of subtrees
    → slice_get pivots i ≡ Some child → (limit : ℕ) (start mid : Reached) → CanReach limit start (pages_of (suc d) subtrees)
    → ((limit : ℕ) → IsMarked limit start → IsMarked limit mid) → pages_so_far mid ≡ pages_so_far start ++ pages_of (suc d) (take i subtrees)
    → CanReach limit mid (child.child ∷ pages_of d a.mid.body)
child_can root d subtrees pivots i a child e got limit start mid can marks so_far =
    let page_is : a.mid.page ≡ child.child = ap (λ (x : Pivot). x.child) (got_there subtrees i a pivot_of pivots child e got) in
    subst (λ (p : ℕ). CanReach limit mid (p ∷ pages_of d a.mid.body)) page_is
    (can_reach_there subtrees i a (λ (w : Subtree (Body d)). w.page ∷ pages_of d w.body) limit start mid can marks so_far)

pub child_reached : (d : ℕ) (subtrees : List (Subtree (Body d))) (pivots : List Pivot) (i : ℕ) (a : At subtrees i) (child : Pivot)
    → pivots ≡ map pivot_of subtrees
    → slice_get pivots i ≡ Some child → (before so_far new : List ℕ) → so_far ≡ before ++ pages_of (suc d) (take i subtrees)
    → new ≡ so_far ++ child.child ∷ pages_of d a.mid.body → new ≡ before ++ pages_of (suc d) (take (i + 1) subtrees)
child_reached d subtrees pivots i a child e got before so_far new is add =
    let page_is : a.mid.page ≡ child.child = ap (λ (x : Pivot). x.child) (got_there subtrees i a pivot_of pivots child e got) in
    reached_there subtrees i a (λ (w : Subtree (Body d)). w.page ∷ pages_of d w.body) before so_far new is
    (add ∙ ap (λ (p : ℕ). so_far ++ p ∷ pages_of d a.mid.body) (sym page_is))

pub part_moved : (h0 h1 : History) (root : Root) → now h1 ≡ now h0 → (page level d : ℕ) (low : List ℕ) (high : Option (List ℕ)) (body : Body d)
    → IsPart (pages_in h0 root) page level d low high body → IsPart (pages_in h1 root) page level d low high body
part_moved h0 h1 root same page level d low high body part = subst (λ (s : Store). IsPart s page level d low high body) (sym (same_pages h0 h1 root same)) part

pub not_past : (high : Option (List ℕ)) (key : List ℕ) → IsWithin high key → IsPast high key → ⊥
not_past None key within past = past
not_past (Some bound) key within past = past within
