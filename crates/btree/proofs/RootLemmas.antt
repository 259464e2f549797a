-- The root of a tree after a change.
use Rattle.std.proofs.Common.{◌≡◌, ℕ, zero, suc, ◌+◌, ◌^◌, ◌<◌, ◌≤◌, List, [], ◌∷◌, ◌++◌, length, map, get_or, Option, None, Result, Ok, Err, refl, sym, ap}
use Rattle.std.proofs.Common.{◌∙◌, subst, arith, ◌⊎◌, inl, inr, append-nil}
use Rattle.std.specs.List.{flat_map}
use Rattle.std.specs.Result.{IsErrAnd, MatchResult}
use Rattle.std.proofs.Math.Pow.{pow_mono}
use Rattle.std.proofs.lemmas.List.{length-append}
use Rattle.page.specs.Content.{Pivot, branch}
use Rattle.tree_model.specs.Calls.{IsAnswer, IsPart}
use Rattle.btree.specs.Change.{IsChanged, IsTooHigh}
use Rattle.tree_model.specs.Keys.{Each, Edit, Entry, IsBetween, change, entry_of, times}
use Rattle.btree.specs.Loose.{IsChild, IsSpread, Slot, child, pair_slot, slots_of, subtree_slot}
use Rattle.tree_model.specs.Reach.{HasMap}
use Rattle.tree_model.specs.Store.{Frame, HasCause, IsSame, Store}
use Rattle.tree_model.specs.Tree.{Body, IsFan, IsSound, IsWhole, Shows, Subtree, pivot_of, content_of, entries_of, high_of, item_of, pages_of, pairs_of}
use Rattle.tree_model.specs.Reach.{AreTurned}
use Rattle.btree.specs.Turn.{IsHeld, IsReady, IsTurned, NodeModel, model_in}
use Rattle.btree.specs.declared.node.LooseNode.{LooseNode}
use Rattle.tree_model.specs.declared.pages.TreeFault.{TreeFault}
use Rattle.tree_model.specs.declared.pages.TreeFault.TheVariants.{Full}
use Rattle.tree_model.proofs.GetLemmas.{root_between}
use Rattle.tree_model.proofs.ListLemmas.{long_map}
use Rattle.btree.proofs.LooseLemmas.{Lies}
use Rattle.btree.proofs.RaiseLemmas.{no_entries}
use Rattle.tree_model.proofs.StoreLemmas.{cause_later, frame_same}
use Rattle.btree.proofs.WideLemmas.{sound_low}

-- ---- how many entries a tree of so many levels has

long_both : {X : Type 0} (xs ys : List X) (m n : ℕ) → m ≤ length xs → n ≤ length ys → m + n ≤ length (xs ++ ys)
long_both xs ys m n a b = omega (arith, a, b, length-append xs ys)

-- of two children each has so many pairs
fan_two : (d n : ℕ) (high : Option (List ℕ)) (w v : Subtree (Body d)) (vs : List (Subtree (Body d)))
    → ((low : List ℕ) (to : Option (List ℕ)) (b : Body d) → Lies d low to b → n ≤ length (pairs_of d b))
    → IsFan (Lies d) high (w ∷ v ∷ vs) → n + n ≤ length (pairs_of (suc d) (w ∷ v ∷ vs))
fan_two d n high w v vs many h =
    long_both (pairs_of d w.body) (pairs_of d v.body ++ flat_map (λ (t : Subtree (Body d)). pairs_of d t.body) vs) n n (many _ _ w.body h.0)
    (omega (arith, many _ _ v.body h.1.0, length-append (pairs_of d v.body) (flat_map (λ (t : Subtree (Body d)). pairs_of d t.body) vs)))

fan_one : (d n : ℕ) (high : Option (List ℕ)) (w : Subtree (Body d)) (ws : List (Subtree (Body d)))
    → ((low : List ℕ) (to : Option (List ℕ)) (b : Body d) → Lies d low to b → n ≤ length (pairs_of d b))
    → IsFan (Lies d) high (w ∷ ws) → n ≤ length (pairs_of (suc d) (w ∷ ws))
fan_one d n high w ws many h = omega (arith, many _ _ w.body h.0, length-append (pairs_of d w.body) (flat_map (λ (t : Subtree (Body d)). pairs_of d t.body) ws))

whole_many : (d : ℕ) (low : List ℕ) (high : Option (List ℕ)) (body : Body d) → IsWhole d body → IsSound d low high body → 2 ^ d ≤ length (pairs_of d body)
whole_many zero low high pairs h s = omega (arith, h.some, long_map item_of pairs)
whole_many (suc d) low high [] h s = let two : 2 ≤ 0 = h.some in absurd (omega arith)
whole_many (suc d) low high (w ∷ []) h s = let two : 2 ≤ 1 = h.some in absurd (omega arith)
whole_many (suc d) low high (w ∷ v ∷ vs) h s =
    omega (arith, fan_two d (2 ^ d) high (record { key = low; page = w.page; body = w.body }) v vs (λ from to b l. whole_many d from to b l.0 l.1) s.0)

held_many : (d : ℕ) (low : List ℕ) (high : Option (List ℕ)) (subtrees : Body (suc d)) → IsSpread (suc d) low high subtrees
    → ((32 ≤ d) × (0 < length subtrees)) ⊎ ((31 ≤ d) × (2 ≤ length subtrees)) → 4294967296 ≤ length (pairs_of (suc d) subtrees)
held_many d low high [] s (inl e) = absurd (omega (arith, e.1))
held_many d low high [] s (inr e) = absurd (omega (arith, e.1))
held_many d low high (w ∷ []) s (inr e) = absurd (omega (arith, e.1))
held_many d low high (w ∷ ws) s (inl e) =
    let large : 4294967296 ≤ 2 ^ d = pow_mono e.0 in omega (arith, large, fan_one d (2 ^ d) high w ws (λ from to b l. whole_many d from to b l.0 l.1) s.0)
held_many d low high (w ∷ v ∷ vs) s (inr e) =
    let large : 2147483648 ≤ 2 ^ d = pow_mono e.0 in omega (arith, large, fan_two d (2 ^ d) high w v vs (λ from to b l. whole_many d from to b l.0 l.1) s.0)

-- what stands too high has too many entries for 32 levels
too_many : (d rank : ℕ) (low : List ℕ) (high : Option (List ℕ)) (body : Body d) (slots : List Slot) → rank ≡ d → slots ≡ slots_of d body
    → IsSpread d low high body
    → ((32 < rank) × (0 < length slots)) ⊎ ((rank ≡ 32) × (2 ≤ length slots)) → 4294967296 ≤ length (pairs_of d body)
too_many zero rank low high body slots e is spread (inl w) = absurd (omega (arith, w.0))
too_many zero rank low high body slots e is spread (inr w) = absurd (omega (arith, w.0))
too_many (suc d) rank low high subtrees slots e is spread (inl w) =
    held_many d low high subtrees spread (inl (omega (arith, w.0), omega (arith, w.1, ap length is, long_map subtree_slot subtrees)))
too_many (suc d) rank low high subtrees slots e is spread (inr w) =
    held_many d low high subtrees spread (inr (omega (arith, w.0), omega (arith, w.1, ap length is, long_map subtree_slot subtrees)))

pub too_high : (s : Store) (low : List ℕ) (high : Option (List ℕ)) (entries : List Entry) (reached : List ℕ) (model : NodeModel)
    → IsHeld s 0 low high entries reached model
    → ((32 < model.rank) × (0 < length model.slots)) ⊎ ((model.rank ≡ 32) × (2 ≤ length model.slots)) → IsTooHigh entries Full
too_high s low high entries reached model h why =
    let some : 0 < length model.slots = elim why [ inl w ↦ w.1 | inr w ↦ omega (arith, w.1) ] in
    let many : 4294967296 ≤ length (pairs_of h.d h.body) =
    too_many h.d model.rank low high h.body model.slots (omega (arith, h.rank_is some)) h.slots_are h.spread why in
    (refl, omega (arith, many, long_map entry_of (pairs_of h.d h.body), ap length h.entries_are))

-- ---- one child alone

-- this page heads a tree of these entries, and reaches these pages
pub record IsHead (s : Store) (page : ℕ) (entries : List Entry) (reached : List ℕ) : Type 0 where
  pub after : List ℕ
  pub map : HasMap s page after entries
  pub same : (n : ℕ) → times n after ≡ times n reached

headed : (s : Store) (d : ℕ) (body : Body d) (rank page : ℕ) (t : Slot) (slots : List Slot) (entries : List Entry) (reached : List ℕ) → rank ≡ d → rank ≤ 32
    → slots ≡ t ∷ [] → t.load ≡ child page → slots ≡ slots_of d body
    → IsSpread d [] None body → Shows s d body → entries_of d body ≡ entries → ((n : ℕ) → times n (pages_of d body) ≡ times n reached)
    → IsHead s page entries reached
headed s zero [] rank page t slots entries reached e le one load is spread shown es ps = (let none : t ∷ [] ≡ [] = sym one ∙ is in cc)
headed s zero (x ∷ xs) rank page t slots entries reached e le one load is spread shown es ps =
    (let same : t ∷ [] ≡ pair_slot x ∷ map pair_slot xs = sym one ∙ is in cc)
headed s (suc d) [] rank page t slots entries reached e le one load is spread shown es ps = (let none : t ∷ [] ≡ [] = sym one ∙ is in cc)
headed s (suc d) (w ∷ v ∷ vs) rank page t slots entries reached e le one load is spread shown es ps = absurd (omega (arith, ap length (sym one ∙ is)))
headed s (suc d) (w ∷ []) rank page t slots entries reached e le one load is spread shown es ps =
    let same : t ≡ subtree_slot w = (let both : t ∷ [] ≡ subtree_slot w ∷ [] = sym one ∙ is in cc) in
    let page_is : w.page ≡ page = (let loads : child w.page ≡ child page = sym (ap (λ (u : Slot). u.load) same) ∙ load in cc) in
    subst (λ p. IsHead s p entries reached) page_is (record {
      after = w.page ∷ pages_of d w.body;
      map = inr (record {
        d = d;
        body = w.body;
        tree = record {
          at = shown.0.0;
          shown = shown.0.1;
          whole = spread.0.0.0;
          sound = sound_low d w.key [] None (root_between w.key).0 w.body spread.0.0.1;
          depth = omega arith;
        };
        pages_are = refl;
        entries_are = sym es ∙ ap (map entry_of) (append-nil (pairs_of d w.body));
      });
      same = λ n. sym (ap (times n) (append-nil (w.page ∷ pages_of d w.body))) ∙ ps n;
    })

pub head_of_one : (s : Store) (entries : List Entry) (reached : List ℕ) (model : NodeModel) (page : ℕ) (t : Slot) → IsHeld s 0 [] None entries reached model
    → model.rank ≤ 32 → model.slots ≡ t ∷ [] → t.load ≡ child page → IsHead s page entries reached
head_of_one s entries reached model page t h le one load =
    headed s h.d h.body model.rank page t model.slots entries reached
    (omega (arith, h.rank_is (omega (arith, ap length one)))) le one load h.slots_are h.spread h.shown h.entries_are h.pages_are

-- what was turned so far, and stands below one page
pub changed_head : (old new : Store) (page : ℕ) (entries : List Entry) (before reached : List ℕ) → AreTurned old new before reached
    → IsHead new page entries reached → IsChanged old new page entries before
changed_head old new page entries before reached turned h = record { after = h.after; map = h.map; turned = λ n. omega (arith, turned n, h.same n) }

pub itself : (s : Store) (pages : List ℕ) → AreTurned s s pages pages
itself s pages = λ n. omega arith

-- ---- nothing is left

pub changed_none : (s : Store) (entries : List Entry) (reached : List ℕ) (model : NodeModel) → IsHeld s 0 [] None entries reached model → length model.slots ≡ 0
    → IsChanged s s 0 entries reached
changed_none s entries reached model h none =
    let empty = no_entries h.d h.body (omega (arith, ap length h.slots_are)) in
    record { after = []; map = inl (refl, (refl, sym h.entries_are ∙ empty.0)); turned = λ n. omega (arith, empty.1 n, h.pages_are n) }

-- ---- one change behind another

pub changed_on : (old mid new : Store) (root : ℕ) (entries : List Entry) (before between : List ℕ) → AreTurned old mid before between
    → IsChanged mid new root entries between → IsChanged old new root entries before
changed_on old mid new root entries before between t h = record { after = h.after; map = h.map; turned = λ n. omega (arith, t n, h.turned n) }

abbrev pub IsChange : Store → Store → List Entry → List ℕ → Result ℕ TreeFault → Type 0
IsChange old new entries before result = MatchResult result (λ root. IsChanged old new root entries before) (λ e. HasCause old new e ⊎ IsTooHigh entries e)

pub change_on : (old mid new : Store) (entries : List Entry) (before between : List ℕ) (r : Result ℕ TreeFault) → Frame old mid
    → AreTurned old mid before between → IsChange mid new entries between r → IsChange old new entries before r
change_on old mid new entries before between (Ok root) g t h = changed_on old mid new root entries before between t h
change_on old mid new entries before between (Err e) g t (inl cause) = inl (cause_later old mid new e g cause)
change_on old mid new entries before between (Err e) g t (inr high) = inr high

pub change_failed : (old new : Store) (entries : List Entry) (before : List ℕ) (r : Result ℕ TreeFault) (f : TreeFault) → IsErrAnd r (λ g. g ≡ f)
    → HasCause old new f → IsChange old new entries before r
change_failed old new entries before (Ok root) f h c = absurd h
change_failed old new entries before (Err e) f h c = inl (subst (HasCause old new) (sym h) c)

-- more than one child, or a cell
pub ready_top : (s : Store) (entries : List Entry) (reached : List ℕ) (model : NodeModel) → IsHeld s 0 [] None entries reached model → 0 < length model.slots
    → ((t : Slot) → model.slots ≡ t ∷ [] → IsChild t.load → ⊥) → IsReady 0 model
ready_top s entries reached model h some other = go h.d h.body model.slots (omega (arith, h.rank_is some)) some h.slots_are other
  where
    go : (d : ℕ) (body : Body d) (slots : List Slot) → model.rank ≡ d → 0 < length slots → slots ≡ slots_of d body
        → ((t : Slot) → slots ≡ t ∷ [] → IsChild t.load → ⊥) → (0 < length slots) × ((model.rank ≡ 0) ⊎ (2 ≤ length slots))
    go zero body slots e lt is no_child = (lt, inl e)
    go (suc d) [] slots e lt is no_child = absurd (omega (arith, ap length is))
    go (suc d) (w ∷ []) slots e lt is no_child = absurd (no_child (subtree_slot w) is tt)
    go (suc d) (w ∷ v ∷ vs) slots e lt is no_child = (lt, inr (omega (arith, ap length is)))

pub many_slots : (s : Store) (entries : List Entry) (reached : List ℕ) (model : NodeModel) → IsHeld s 0 [] None entries reached model → model.rank ≡ 32
    → 0 < length model.slots → ((t : Slot) → model.slots ≡ t ∷ [] → IsChild t.load → ⊥) → 2 ≤ length model.slots
many_slots s entries reached model h high some other =
    elim (ready_top s entries reached model h some other).1 [ inl low ↦ absurd (omega arith) | inr two ↦ two ]

-- ---- edits of the empty tree, and of a tree

pub all_between : (edits : List Edit) → Each (λ e. IsBetween [] None e.key) edits
all_between [] = tt
all_between (e ∷ es) = (root_between e.key, all_between es)

-- ---- levels below a page

-- the first child
pub record IsFirst (s : Store) (page level d : ℕ) : Type 0 where
  pub below : ℕ
  pub low : List ℕ
  pub high : Option (List ℕ)
  pub body : Body below
  pub part : IsPart s page level below low high body
  pub one_less : d ≡ below + 1

pub first_part : (s : Store) (page level below d : ℕ) (low : List ℕ) (high : Option (List ℕ)) (body : Body d) (pivots : List Pivot)
    → branch pivots ≡ content_of d body → ((e : Pivot) → (get_or pivots 0 e).child ≡ below) → IsPart s page level d low high body
    → IsFirst s below (level + 1) d
first_part s page level below zero low high body pivots e here p = cc
first_part s page level below (suc d) low high [] pivots e here p = let two : 2 ≤ 0 = p.whole.some in absurd (omega arith)
first_part s page level below (suc d) low high (w ∷ ws) pivots e here p =
    let same : pivots ≡ pivot_of w ∷ map pivot_of ws = cc in
    let page_is : w.page ≡ below = sym (ap (λ (zs : List Pivot). (get_or zs 0 (pivot_of w)).child) same) ∙ here (pivot_of w) in
    let deep : suc d + level < 32 = p.depth in
    subst (λ n. IsFirst s n (level + 1) (suc d)) page_is (record {
      below = d;
      low = low;
      high = high_of high ws;
      body = w.body;
      part = record { at = p.shown.0.0; shown = p.shown.0.1; whole = p.sound.0.0.0; sound = p.sound.0.0.1; depth = omega arith };
      one_less = omega arith;
    })

-- what was turned after calls that only read
pub turned_behind : (old mid new : Store) (edits : List Edit) (entries of : List Entry) (before pages : List ℕ) (r : Result LooseNode TreeFault)
    → IsSame old mid
    → entries ≡ of → before ≡ pages
    → IsAnswer mid new (λ node. IsTurned mid new 0 [] None (change edits of) pages (model_in node)) r
    → IsAnswer old new (λ node. IsTurned old new 0 [] None (change edits entries) before (model_in node)) r
turned_behind old mid new edits entries of before pages (Ok node) same es ps u =
    record {
      after = u.after;
      held = subst (λ xs. IsHeld new 0 [] None (change edits xs) u.after (model_in node)) (sym es) u.held;
      turned = λ n. omega (arith, u.turned n, ap (times n) same.made, ap (times n) same.retired, ap (times n) ps);
    }
turned_behind old mid new edits entries of before pages (Err e) same es ps u = cause_later old mid new e (frame_same old mid same) u
