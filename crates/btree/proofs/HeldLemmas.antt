-- Cells and children out of their pages, and the part of the tree that they stand for.
use Rattle.std.proofs.Common.{◌≡◌, ℕ, zero, suc, ◌+◌, ◌<◌, ◌≤◌, List, [], ◌∷◌, ◌++◌, length, map, get_or, Option, Some, Result, Ok, Err, Bool, refl, sym, ap}
use Rattle.std.proofs.Common.{◌∙◌, subst, arith, ◌⊎◌, inl, inr, append-nil}
use Rattle.std.specs.Result.{IfErr, IfOk, IsErrAnd, MatchResult}
use Rattle.tree_model.specs.declared.pages.TreeFault.TheVariants.{Memory}
use Rattle.page.specs.Content.{Pivot, Item, IsPivot, IsItem, branch, leaf}
use Rattle.std.specs.List.{AllByRecursion}
use Rattle.btree.specs.declared.node.LooseNode.{LooseNode}
use Rattle.tree_model.specs.declared.pages.TreeFault.{TreeFault}
use Rattle.tree_model.specs.Calls.{IsAnswer}
use Rattle.tree_model.specs.Keys.{Pair, Entry, Each, IsNotUnder, IsUnder, IsWithin, times}
use Rattle.btree.specs.Loose.{IsEnough, IsSpread, IsSlot, Slot, pivot_slot, child, first_or, item_slot, lowered, pair_slot, subtree_slot, slots_of, under_key}
use Rattle.tree_model.specs.Store.{Store, Frame, HasCause}
use Rattle.tree_model.specs.Tree.{Body, Subtree, IsSound, IsWhole, Shows, pivot_of, content_of, entries_of, item_of, pages_of, with_low}
use Rattle.tree_model.specs.Reach.{AreTurned}
use Rattle.btree.specs.Turn.{AreWritten, IsHeld, IsReady, IsTurned, IsUpTo, MayFill, NodeModel, both_of, model_in}
use Rattle.tree_model.proofs.KeyLemmas.{under_then_up_to}
use Rattle.tree_model.proofs.ListLemmas.{each_append, get_mapped, long_map, map_map, times_append}
use Rattle.btree.proofs.LooseLemmas.{entries_joined, joined, pages_joined, shows_joined, spread_glue, slots_joined}
use Rattle.btree.proofs.RaiseLemmas.{no_entries, spread_first}
use Rattle.tree_model.proofs.StoreLemmas.{memory_cause, shows_kept}
use Rattle.btree.proofs.WideLemmas.{sound_spread, spread_high, spread_low, up_to_wider}

-- a child under its bound
pub pivot_there : (low : List ℕ) (pivots : List Pivot) (i : ℕ) (key : List ℕ) (page : ℕ) → i < length pivots → (i ≡ 0 → key ≡ low)
    → ((d : Pivot) → 0 < i → key ≡ (get_or pivots i d).key)
    → ((d : Pivot) → page ≡ (get_or pivots i d).child) → (d : Slot) → get_or (map pivot_slot (under_key low pivots)) i d ≡ pivot_slot
    (record { key = key; child = page })
pivot_there low [] i key page lt first later is d = absurd (omega arith)
pivot_there low (a ∷ more) zero key page lt first later is d =
    ap (λ k. pivot_slot (record { key = k; child = a.child })) (sym (first refl)) ∙ ap (λ p. pivot_slot (record { key = key; child = p })) (sym (is a))
pivot_there low (a ∷ more) (suc i) key page lt first later is d =
    get_mapped pivot_slot more i d a (omega arith) ∙ ap (λ k. pivot_slot (record { key = k; child = (get_or more i a).child })) (sym (later a (omega arith)))
    ∙ ap (λ p. pivot_slot (record { key = key; child = p })) (sym (is a))

-- ---- later stores

pub held_later : (old new : Store) (base : ℕ) (low : List ℕ) (high : Option (List ℕ)) (entries : List Entry) (pages : List ℕ) (model : NodeModel)
    → Frame old new
    → IsHeld old base low high entries pages model
    → IsHeld new base low high entries pages model
held_later old new base low high entries pages model grows h =
    record {
      d = h.d;
      body = h.body;
      rank_is = h.rank_is;
      slots_are = h.slots_are;
      small = h.small;
      spread = h.spread;
      shown = shows_kept old new grows h.d h.body h.shown;
      entries_are = h.entries_are;
      pages_are = h.pages_are;
    }

-- ---- two beside each other

high_first : (high : Option (List ℕ)) (mid : List ℕ) (ss : List Slot) → 0 < length ss → ((s : Slot) (rest : List Slot) → ss ≡ s ∷ rest → IsNotUnder s.key mid)
    → (k : List ℕ) → IsUnder k mid → IsWithin (first_or high ss) k
high_first high mid [] some over k u = absurd (omega arith)
high_first high mid (s ∷ ss) some over k u = under_then_up_to k mid s.key u (over s ss refl)

glue_both : (s : Store) (base : ℕ) (low mid : List ℕ) (high : Option (List ℕ)) (e1 e2 : List Entry) (p1 p2 : List ℕ) (a b : NodeModel) (d : ℕ) (x y : Body d)
    → 0 < length a.slots → 0 < length b.slots
    → a.rank ≡ base + d → a.slots ≡ slots_of d x → b.slots ≡ slots_of d y → Each IsSlot a.slots → Each IsSlot b.slots → IsSpread d low (Some mid) x
    → IsSpread d mid high y → Shows s d x → Shows s d y
    → entries_of d x ≡ e1 → entries_of d y ≡ e2 → ((n : ℕ) → times n (pages_of d x) ≡ times n p1) → ((n : ℕ) → times n (pages_of d y) ≡ times n p2)
    → IsNotUnder mid low
    → IsHeld s base low high (e1 ++ e2) (p1 ++ p2) (both_of a b)
glue_both s base low mid high e1 e2 p1 p2 a b d x y some some' rank ea eb small small' spread spread' shown shown' ee ee' pp pp' over =
    record {
      d = d;
      body = joined d x y;
      rank_is = λ lt. rank;
      slots_are = ap (λ ss. ss ++ b.slots) ea ∙ ap (λ ss. slots_of d x ++ ss) eb ∙ sym (slots_joined d x y);
      small = each_append IsSlot a.slots b.slots small small';
      spread = spread_glue d low high x y
          (spread_high d low (Some mid) (first_or high (slots_of d y))
          (high_first high mid (slots_of d y) (omega (arith, ap length eb)) (λ t rest is. (spread_first d mid high y t rest is spread').0)) x spread)
          (spread_low d mid low high over y spread');
      shown = shows_joined s d x y shown shown';
      entries_are = entries_joined d x y ∙ ap (λ es. es ++ entries_of d y) ee ∙ ap (λ es. e1 ++ es) ee';
      pages_are = λ n. omega (arith, pages_joined d x y n, pp n, pp' n, times_append n p1 p2);
    }

pub under_long : (low : List ℕ) (pivots : List Pivot) → length (map pivot_slot (under_key low pivots)) ≡ length pivots
under_long low [] = refl
under_long low (a ∷ more) = ap suc (long_map pivot_slot more)

some_or : (n : ℕ) → (n ≡ 0) ⊎ (0 < n)
some_or zero = inl refl
some_or (suc n) = inr (omega arith)

pub no_slots : (ss : List Slot) → length ss ≡ 0 → ss ≡ []
no_slots [] e = refl
no_slots (s ∷ ss) e = absurd (omega arith)

-- what was held in two parts
pub glue_held : (s : Store) (base : ℕ) (low mid : List ℕ) (high : Option (List ℕ)) (e1 e2 : List Entry) (p1 p2 : List ℕ) (a b : NodeModel)
    → IsHeld s base low (Some mid) e1 p1 a → IsHeld s base mid high e2 p2 b
    → a.rank ≡ b.rank → IsNotUnder mid low → IsUpTo mid high → IsHeld s base low high (e1 ++ e2) (p1 ++ p2) (both_of a b)
glue_held s base low mid high e1 e2 p1 p2 a b h g same over within =
    elim (some_or (length a.slots))
    [ inl none ↦ left_none none | inr some ↦ elim (some_or (length b.slots)) [ inl none ↦ right_none none | inr more ↦ both some more ] ]
  where
    left_none : length a.slots ≡ 0 → IsHeld s base low high (e1 ++ e2) (p1 ++ p2) (both_of a b)
    left_none none =
        let empty = no_entries h.d h.body (omega (arith, ap length h.slots_are)) in
        let no_e : e1 ≡ [] = sym h.entries_are ∙ empty.0 in
        let no_s : a.slots ≡ [] = no_slots a.slots none in
        record {
          d = g.d;
          body = g.body;
          rank_is = λ lt. same ∙ g.rank_is (omega (arith, ap (λ ss. length (ss ++ b.slots)) no_s));
          slots_are = ap (λ ss. ss ++ b.slots) no_s ∙ g.slots_are;
          small = each_append IsSlot a.slots b.slots h.small g.small;
          spread = spread_low g.d mid low high over g.body g.spread;
          shown = g.shown;
          entries_are = g.entries_are ∙ ap (λ es. es ++ e2) (sym no_e);
          pages_are = λ n. omega (arith, g.pages_are n, h.pages_are n, empty.1 n, times_append n p1 p2);
        }

    right_none : length b.slots ≡ 0 → IsHeld s base low high (e1 ++ e2) (p1 ++ p2) (both_of a b)
    right_none none =
        let empty = no_entries g.d g.body (omega (arith, ap length g.slots_are)) in
        let no_e : e2 ≡ [] = sym g.entries_are ∙ empty.0 in
        let no_s : b.slots ≡ [] = no_slots b.slots none in
        let same_s : a.slots ++ b.slots ≡ a.slots = ap (λ ss. a.slots ++ ss) no_s ∙ append-nil a.slots in
        record {
          d = h.d;
          body = h.body;
          rank_is = λ lt. h.rank_is (omega (arith, ap length same_s));
          slots_are = same_s ∙ h.slots_are;
          small = each_append IsSlot a.slots b.slots h.small g.small;
          spread = spread_high h.d low (Some mid) high (up_to_wider mid high within) h.body h.spread;
          shown = h.shown;
          entries_are = h.entries_are ∙ sym (append-nil e1) ∙ ap (λ es. e1 ++ es) (sym no_e);
          pages_are = λ n. omega (arith, g.pages_are n, h.pages_are n, empty.1 n, times_append n p1 p2);
        }

    both : 0 < length a.slots → 0 < length b.slots → IsHeld s base low high (e1 ++ e2) (p1 ++ p2) (both_of a b)
    both some more =
        let depth : h.d ≡ g.d = omega (arith, h.rank_is some, g.rank_is more, same) in
        subst (λ k. (y : Body k) → b.slots ≡ slots_of k y → IsSpread k mid high y → Shows s k y → entries_of k y ≡ e2
        → ((n : ℕ) → times n (pages_of k y) ≡ times n p2) → IsHeld s base low high (e1 ++ e2) (p1 ++ p2) (both_of a b)) depth
        (λ y eb spread shown ee pp.
        glue_both s base low mid high e1 e2 p1 p2 a b h.d h.body y some more
        (h.rank_is some) h.slots_are eb h.small g.small h.spread spread h.shown shown h.entries_are ee h.pages_are pp over)
        g.body g.slots_are g.spread g.shown g.entries_are g.pages_are

-- ---- one level up

pub ready_enough : (base d : ℕ) (model : NodeModel) → model.rank ≡ base + d → IsReady base model → IsEnough d model.slots
ready_enough base zero model e ready = ready.0
ready_enough base (suc d) model e ready = elim ready.1 [ inl low ↦ absurd (omega arith) | inr two ↦ two ]

pub raised : (old new : Store) (base : ℕ) (low : List ℕ) (high : Option (List ℕ)) (entries : List Entry) (pages : List ℕ) (model above : NodeModel)
    (h : IsHeld old base low high entries pages model)
    → IsReady base model → AreWritten old new h.d low high h.body above.slots → above.rank ≡ model.rank + 1 → IsTurned old new base low high entries pages above
raised old new base low high entries pages model above h ready w rank =
    record {
      after = pages_of (suc h.d) w.subtrees;
      held = record {
        d = suc h.d;
        body = w.subtrees;
        rank_is = λ lt. omega (arith, rank, h.rank_is ready.0);
        slots_are = w.above_are;
        small = w.small;
        spread = w.spread;
        shown = w.shown;
        entries_are = w.entries ∙ h.entries_are;
        pages_are = λ n. refl;
      };
      turned = λ n. omega (arith, w.pages n, h.pages_are n, ap (times n) w.retired);
    }

-- ---- a page that was taken apart

leaf_small : (pairs : List Pair) → AllByRecursion IsItem (map item_of pairs) → Each IsSlot (map pair_slot pairs)
leaf_small [] h = tt
leaf_small (x ∷ xs) h = (record { size = h.0.size; load = h.0.place }, leaf_small xs h.1)

pivots_small : {B : Type 0} (ws : List (Subtree B)) → AllByRecursion IsPivot (map pivot_of ws) → Each IsSlot (map subtree_slot ws)
pivots_small [] h = tt
pivots_small (w ∷ ws) h = let little : 6 + length w.key ≤ 1360 = h.0.size in (record { size = omega arith; load = h.0.child }, pivots_small ws h.1)

whole_small : (d : ℕ) (low : List ℕ) (body : Body d) → IsWhole d body → 6 + length low ≤ 1360 → Each IsSlot (slots_of d (lowered d low body))
whole_small zero low pairs h little = leaf_small pairs h.each
whole_small (suc d) low [] h little = tt
whole_small (suc d) low (w ∷ ws) h little = (record { size = omega arith; load = h.each.0.child }, pivots_small ws h.each.1)

whole_ready : (base d rank : ℕ) (low : List ℕ) (body : Body d) → rank ≡ base + d → IsWhole d body
    → IsReady base (record { rank = rank; slots = slots_of d (lowered d low body) })
whole_ready base zero rank low pairs e h = (omega (arith, h.some, long_map pair_slot pairs, long_map item_of pairs), inl (omega arith))
whole_ready base (suc d) rank low [] e h = let two : 2 ≤ 0 = h.some in absurd (omega arith)
whole_ready base (suc d) rank low (w ∷ ws) e h =
    let two : 2 ≤ suc (length (map pivot_of ws)) = h.some in (omega arith, inr (omega (arith, long_map pivot_of ws, long_map subtree_slot ws)))

lowered_entries : (d : ℕ) (low : List ℕ) (body : Body d) → entries_of d (lowered d low body) ≡ entries_of d body
lowered_entries zero low body = refl
lowered_entries (suc d) low [] = refl
lowered_entries (suc d) low (w ∷ ws) = refl

lowered_pages : (d : ℕ) (low : List ℕ) (body : Body d) → pages_of d (lowered d low body) ≡ pages_of d body
lowered_pages zero low body = refl
lowered_pages (suc d) low [] = refl
lowered_pages (suc d) low (w ∷ ws) = refl

lowered_shows : (s : Store) (d : ℕ) (low : List ℕ) (body : Body d) → Shows s d body → Shows s d (lowered d low body)
lowered_shows s zero low body h = h
lowered_shows s (suc d) low [] h = h
lowered_shows s (suc d) low (w ∷ ws) h = h

pub opened : (old new : Store) (base d rank page : ℕ) (low : List ℕ) (high : Option (List ℕ)) (body : Body d) (slots : List Slot) → rank ≡ base + d
    → Shows old d body → IsWhole d body → IsSound d low high body
    → 6 + length low ≤ 1360 → slots ≡ slots_of d (lowered d low body) → Frame old new → new.made ≡ old.made → new.retired ≡ page ∷ old.retired
    → IsTurned old new base low high (entries_of d body) (page ∷ pages_of d body) (record { rank = rank; slots = slots })
    × IsReady base (record { rank = rank; slots = slots })
opened old new base d rank page low high body slots e shown whole sound little is grows made retired = (
  record {
    after = pages_of d body;
    held = record {
      d = d;
      body = lowered d low body;
      rank_is = λ lt. e;
      slots_are = is;
      small = subst (Each IsSlot) (sym is) (whole_small d low body whole little);
      spread = sound_spread d low high body sound;
      shown = lowered_shows new d low body (shows_kept old new grows d body shown);
      entries_are = lowered_entries d low body;
      pages_are = λ n. ap (times n) (lowered_pages d low body);
    };
    turned = λ n. omega (arith, ap (times n) made, ap (times n) retired);
  },
  subst (λ ss. IsReady base (record { rank = rank; slots = ss })) (sym is) (whole_ready base d rank low body e whole),
)

pub leaf_slots : (d : ℕ) (low : List ℕ) (body : Body d) (items : List Item) (slots : List Slot) → leaf items ≡ content_of d body → slots ≡ map item_slot items
    → slots ≡ slots_of d (lowered d low body)
leaf_slots zero low pairs items slots e is = let same : items ≡ map item_of pairs = cc in is ∙ ap (map item_slot) same ∙ map_map item_of item_slot pairs
leaf_slots (suc d) low subtrees items slots e is = cc

under_subtrees : {B : Type 0} (low : List ℕ) (subtrees : List (Subtree B)) → map pivot_slot (under_key low (map pivot_of subtrees)) ≡ map subtree_slot
    (with_low low subtrees)
under_subtrees low [] = refl
under_subtrees low (w ∷ ws) = ap (λ ss. pivot_slot (record { key = low; child = w.page }) ∷ ss) (map_map pivot_of pivot_slot ws)

pub branch_slots : (d : ℕ) (low : List ℕ) (body : Body d) (pivots : List Pivot) (slots : List Slot) → branch pivots ≡ content_of d body
    → slots ≡ map pivot_slot (under_key low pivots) → slots ≡ slots_of d (lowered d low body)
branch_slots zero low pairs pivots slots e is = cc
branch_slots (suc d) low subtrees pivots slots e is = let same : pivots ≡ map pivot_of subtrees = cc in
    is ∙ ap (λ a. map pivot_slot (under_key low a)) same ∙ under_subtrees low subtrees

pub leaf_or_not : (d : ℕ) (body : Body d) (s : Slot) (ss : List Slot) (fills : Bool) → ((page : ℕ) → s.load ≡ child page → ⊥) → s ∷ ss ≡ slots_of d body
    → MayFill d fills
leaf_or_not zero body s ss fills none e = inl refl
leaf_or_not (suc d) [] s ss fills none e = cc
leaf_or_not (suc d) (w ∷ ws) s ss fills none e = let same : s.load ≡ child w.page = cc in absurd (none w.page same)

-- what was taken out of a page, or a fault
pub taken : (d : ℕ) (low : List ℕ) (body : Body d) {V : Type 0} (slots : V → List Slot) (r : Result V TreeFault) (want : List Slot)
    → IfOk r (λ v. slots v ≡ want) → IfErr r (λ e. e ≡ Memory) → want ≡ slots_of d (lowered d low body)
    → MatchResult r (λ v. slots v ≡ slots_of d (lowered d low body)) (λ e. e ≡ Memory)
taken d low body slots (Ok v) want ok err e = ok ∙ e
taken d low body slots (Err f) want ok err e = err

pub held_low : (s : Store) (base : ℕ) (low low' : List ℕ) (high : Option (List ℕ)) (entries : List Entry) (pages : List ℕ) (model : NodeModel)
    → IsNotUnder low low' → IsHeld s base low high entries pages model
    → IsHeld s base low' high entries pages model
held_low s base low low' high entries pages model over h =
    record {
      d = h.d;
      body = h.body;
      rank_is = h.rank_is;
      slots_are = h.slots_are;
      small = h.small;
      spread = spread_low h.d low low' high over h.body h.spread;
      shown = h.shown;
      entries_are = h.entries_are;
      pages_are = h.pages_are;
    }

-- what a step gives: cells or children that are held
abbrev pub IsTurn : Store → Store → ℕ → List ℕ → Option (List ℕ) → List Entry → List ℕ → Result LooseNode TreeFault → Type 0
IsTurn old new base low high entries before r = IsAnswer old new (λ node. IsTurned old new base low high entries before (model_in node)) r

pub turns_failed : (old new : Store) (base : ℕ) (low : List ℕ) (high : Option (List ℕ)) (entries : List Entry) (pages : List ℕ) (r : Result LooseNode TreeFault)
    (f : TreeFault) → IsErrAnd r (λ g. g ≡ f) → HasCause old new f
    → IsTurn old new base low high entries pages r
turns_failed old new base low high entries pages (Ok v) f h c = absurd h
turns_failed old new base low high entries pages (Err g) f h c = subst (HasCause old new) (sym h) c

-- what a call without pages gives at the end
pub concat_turns : (old new : Store) (base : ℕ) (low : List ℕ) (high : Option (List ℕ)) (entries : List Entry) (before after : List ℕ) (a b : NodeModel)
    (r : Result LooseNode TreeFault)
    → IsHeld new base low high entries after (both_of a b) → AreTurned old new before after → IfOk r (λ l. l.rank ≡ a.rank)
    → IfOk r (λ l. (model_in l).slots ≡ a.slots ++ b.slots) → IfErr r (λ e. e ≡ Memory)
    → IsTurn old new base low high entries before r
concat_turns old new base low high entries before after a b (Ok l) h turned rank slots err =
    record {
      after = after;
      held = subst (IsHeld new base low high entries after)
          (ap (λ (n : ℕ). record { rank = n; slots = a.slots ++ b.slots }) (sym rank) ∙ ap (λ ss. record { rank = l.rank; slots = ss }) (sym slots)) h;
      turned = turned;
    }
concat_turns old new base low high entries before after a b (Err f) h turned rank slots err = memory_cause old new f err

pub joined_long : (r : Result LooseNode TreeFault) (a b k : ℕ) → IfOk r (λ l. length l.loose_slots.items ≡ a + b) → k ≤ a + b
    → IfOk r (λ l. k ≤ length l.loose_slots.items)
joined_long (Ok l) a b k h le = omega (arith, h)
joined_long (Err e) a b k h le = tt
