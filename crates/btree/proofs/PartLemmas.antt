-- What goes into a page is the content of one.
use Rattle.std.proofs.Common.{◌≡◌, ℕ, zero, suc, ◌+◌, ◌<◌, ◌≤◌, List, [], ◌∷◌, ◌++◌, length, map, take, drop, get_or, slice_set, Some, None, Result, Ok, Err}
use Rattle.std.proofs.Common.{true, ◌&&◌, refl, sym, ap, ◌∙◌, subst, arith}
use Rattle.std.specs.List.{AllByRecursion}
use Rattle.std.specs.Result.{IfErr, IsErrAnd, MatchResult}
use Rattle.tree_model.specs.declared.pages.TreeFault.{TreeFault}
use Rattle.tree_model.specs.declared.pages.TreeFault.TheVariants.{Memory}
use Rattle.std.specs.Ordering.{is_lt}
use Rattle.page.specs.Content.{Item, Pivot, IsPivot, IsBranch, IsItem, IsLeaf, pivot_keys, pivot_size, item_keys, item_size, Place, inline, leaf, branch}
use Rattle.page.specs.Content.{rise_above}
use Rattle.page.specs.Content.{total}
use Rattle.tree_model.specs.Keys.{Pair, IsUnder, IsNotUnder}
use Rattle.btree.specs.Loose.{GoBehind, IsChild, IsEnough, Slot, pivot_slot, bare, bare_pivots, item_slot, pair_slot, slots_of, subtree_slot, Load, value}
use Rattle.btree.specs.Loose.{child}
use Rattle.tree_model.specs.Tree.{Body, Subtree, IsWhole, pivot_of, content_of, item_of, place_of, with_low}
use Rattle.tree_model.specs.View.{pivot_in, content_in}
use Rattle.page.specs.declared.cells.Child.{Child}
use Rattle.btree.specs.declared.node.LooseSlot.{LooseSlot}
use Rattle.btree.specs.LooseView.{slot_in}
use Rattle.page.specs.declared.page_content.PageContent.{PageContent}
use Rattle.tree_model.proofs.KeyLemmas.{up_to_then_under}
use Rattle.tree_model.proofs.ListLemmas.{long_map, map_append, map_map, take_more_map}

behind_items : (last : List ℕ) (used : ℕ) (items : List Item) → used ≤ 4080 → GoBehind (Some last) used (map item_slot items)
    → AllByRecursion IsItem items × (rise_above last (item_keys items) ≡ true) × (used + total item_size items ≤ 4080)
behind_items last used [] le h = (tt, refl, omega arith)
behind_items last used (x ∷ xs) le h =
    let r = behind_items x.key (used + item_size x) xs h.2 h.3 in
    ((record { size = h.0.size; place = h.0.load }, r.0), ap (λ o. is_lt o && rise_above x.key (item_keys xs)) h.1 ∙ r.1, omega (arith, r.2))

pub behind_pivots : (last : List ℕ) (used : ℕ) (pivots : List Pivot) → used ≤ 4080 → GoBehind (Some last) used (map pivot_slot pivots)
    → AllByRecursion IsPivot pivots × (rise_above last (pivot_keys pivots) ≡ true) × (used + total pivot_size pivots ≤ 4080)
behind_pivots last used [] le h = (tt, refl, omega arith)
behind_pivots last used (x ∷ xs) le h =
    let small : 6 + length x.key + 0 ≤ 1360 = h.0.size in
    let room : used + (6 + length x.key + 0) ≤ 4080 = h.2 in
    let rest : GoBehind (Some x.key) (used + pivot_size x) (map pivot_slot xs) =
    (let n : 6 + length x.key + 0 ≡ pivot_size x = omega arith in subst (λ k. GoBehind (Some x.key) (used + k) (map pivot_slot xs)) n h.3) in
    let r = behind_pivots x.key (used + pivot_size x) xs (omega arith) rest in
    ((record { size = omega arith; child = h.0.load }, r.0), ap (λ o. is_lt o && rise_above x.key (pivot_keys xs)) h.1 ∙ r.1, omega (arith, r.2))

nothing_under : (key : List ℕ) → IsNotUnder key []
nothing_under [] = λ h. cc
nothing_under (k ∷ ks) = λ h. cc

pub leaf_whole : (items : List Item) → GoBehind None 0 (map item_slot items) → 0 < length items → IsLeaf items
leaf_whole [] h some = absurd (omega arith)
leaf_whole (x ∷ xs) h some =
    let room : item_size x ≤ 4080 = omega (arith, h.2) in
    let r = behind_items x.key (item_size x) xs room
    (let n : 0 + item_size x ≡ item_size x = omega arith in subst (λ k. GoBehind (Some x.key) k (map item_slot xs)) n h.3) in
    record { some = omega arith; each = (record { size = h.0.size; place = h.0.load }, r.0); ascending = r.1; room = r.2 }

pub branch_whole : (pivots : List Pivot) → GoBehind None 0 (map pivot_slot pivots) → 2 ≤ length pivots → IsBranch (bare_pivots pivots)
branch_whole [] h two = absurd (omega arith)
branch_whole (x ∷ []) h two = absurd (omega arith)
branch_whole (x ∷ y ∷ ys) h two =
    let small : 6 + length x.key + 0 ≤ 1360 = h.0.size in
    let rest : GoBehind (Some x.key) (pivot_size x) (map pivot_slot (y ∷ ys)) =
    (let n : 0 + (6 + length x.key + 0) ≡ pivot_size x = omega arith in subst (λ k. GoBehind (Some x.key) k (map pivot_slot (y ∷ ys))) n h.3) in
    let small' : 6 + length y.key + 0 ≤ 1360 = rest.0.size in
    let room : pivot_size x + (6 + length y.key + 0) ≤ 4080 = rest.2 in
    let rest' : GoBehind (Some y.key) (pivot_size x + pivot_size y) (map pivot_slot ys) =
    (let n : 6 + length y.key + 0 ≡ pivot_size y = omega arith in subst (λ k. GoBehind (Some y.key) (pivot_size x + k) (map pivot_slot ys)) n rest.3) in
    let r = behind_pivots y.key (pivot_size x + pivot_size y) ys (omega arith) rest' in
    let over : IsUnder [] y.key = up_to_then_under [] x.key y.key (nothing_under x.key) rest.1 in
    record {
      some = two;
      bare = refl;
      each = (record { size = omega arith; child = h.0.load }, (record { size = omega arith; child = rest.0.load }, r.0));
      ascending = ap (λ o. is_lt o && rise_above y.key (pivot_keys ys)) over ∙ r.1;
      room = omega (arith, r.2);
    }

-- ---- the cells that stubs are those of

abbrev place_from : Load → Place
place_from (value place) = place
place_from (child page) = inline []

abbrev item_from : Slot → Item
item_from s = record { key = s.key; place = place_from s.load }

items_back : (items : List Item) → map item_from (map item_slot items) ≡ items
items_back [] = refl
items_back (x ∷ xs) = ap (λ zs. x ∷ zs) (items_back xs)

abbrev pivot_page : Load → ℕ
pivot_page (value place) = 0
pivot_page (child page) = page

pivots_back : (pivots : List Pivot) → map (λ (s : Slot). record { key = s.key; child = pivot_page s.load }) (map pivot_slot pivots) ≡ pivots
pivots_back [] = refl
pivots_back (x ∷ xs) = ap (λ zs. x ∷ zs) (pivots_back xs)

pub same_pivots : (a b : List Pivot) → map pivot_slot a ≡ map pivot_slot b → a ≡ b
same_pivots a b e = sym (pivots_back a) ∙ ap (map (λ (s : Slot). record { key = s.key; child = pivot_page s.load })) e ∙ pivots_back b

pub same_items : (a b : List Item) → map item_slot a ≡ map item_slot b → a ≡ b
same_items a b e = sym (items_back a) ∙ ap (map item_from) e ∙ items_back b

-- what each of a list is mapped from
pub record IsMapped {X Y : Type 0} (f : X → Y) (y : Y) : Type 0 where
  pub x : X
  pub is : y ≡ f x

pub mapped_at : {U X Y : Type 0} (g : U → Y) (f : X → Y) (us : List U) (xs : List X) (i : ℕ) (u d : U) → i < length us → u ≡ get_or us i d
    → map g us ≡ map f xs → IsMapped f (g u)
mapped_at g f [] xs i u d lt is e = absurd (omega arith)
mapped_at g f (v ∷ vs) [] i u d lt is e = cc
mapped_at g f (v ∷ vs) (x ∷ xs) zero u d lt is e = let h : g v ≡ f x = cc in record { x = x; is = ap g is ∙ h }
mapped_at g f (v ∷ vs) (x ∷ xs) (suc i) u d lt is e = let t : map g vs ≡ map f xs = cc in mapped_at g f vs xs i u d (omega arith) is t

pub is_memory : {X : Type 0} (r : Result X TreeFault) (f : TreeFault) → IsErrAnd r (λ g. g ≡ f) → f ≡ Memory → IfErr r (λ e. e ≡ Memory)
is_memory (Ok v) f h e = absurd h
is_memory (Err g) f h e = h ∙ e

pub next_mapped : {X Y Z : Type 0} (f : X → Z) (g : Y → Z) (xs xs' : List X) (x : X) (ys : List Y) (i : ℕ) (y d : Y) → xs' ≡ xs ++ x ∷ []
    → map f xs ≡ take i (map g ys) → f x ≡ g y → i < length ys → y ≡ get_or ys i d
    → map f xs' ≡ take (i + 1) (map g ys)
next_mapped f g xs xs' x ys i y d e so one lt is =
    ap (map f) e ∙ map_append f xs (x ∷ []) ∙ ap (λ zs. zs ++ f x ∷ []) so ∙ ap (λ z. take i (map g ys) ++ z ∷ []) (one ∙ ap g is)
    ∙ sym (take_more_map g ys i d lt)

-- ---- a body's page

pairs_are : (pairs : List Pair) → map item_slot (map item_of pairs) ≡ map pair_slot pairs
pairs_are pairs = map_map item_of item_slot pairs

subtrees_are : {B : Type 0} (subtrees : List (Subtree B)) → map pivot_slot (map pivot_of subtrees) ≡ map subtree_slot subtrees
subtrees_are subtrees = map_map pivot_of pivot_slot subtrees

bare_are : {B : Type 0} (subtrees : List (Subtree B)) → bare_pivots (map pivot_of subtrees) ≡ map pivot_of (with_low [] subtrees)
bare_are [] = refl
bare_are (w ∷ ws) = refl

pub body_whole : (d : ℕ) (body : Body d) → GoBehind None 0 (slots_of d body) → IsEnough d (slots_of d body) → IsWhole d (bare d body)
body_whole zero pairs h some =
    leaf_whole (map item_of pairs) (subst (GoBehind None 0) (sym (pairs_are pairs)) h) (omega (arith, long_map pair_slot pairs, long_map item_of pairs))
body_whole (suc d) subtrees h two =
    subst IsBranch (bare_are subtrees)
    (branch_whole (map pivot_of subtrees) (subst (GoBehind None 0) (sym (subtrees_are subtrees)) h)
    (omega (arith, long_map subtree_slot subtrees, long_map pivot_of subtrees)))

-- a page whose first stub is no child is a leaf's, and any other a branch's
pub as_leaf : (d : ℕ) (body : Body d) (s : Slot) (ss : List Slot) (r : Result PageContent TreeFault) → ((page : ℕ) → s.load ≡ child page → ⊥)
    → s ∷ ss ≡ slots_of d body
    → ((items : List Item) → s ∷ ss ≡ map item_slot items → MatchResult r (λ c. content_in c ≡ leaf items) (λ e. e ≡ Memory))
    → MatchResult r (λ c. content_in c ≡ content_of d (bare d body)) (λ e. e ≡ Memory)
as_leaf zero pairs s ss r none e says = says (map item_of pairs) (e ∙ sym (pairs_are pairs))
as_leaf (suc d) [] s ss r none e says = cc
as_leaf (suc d) (w ∷ ws) s ss r none e says = let same : s.load ≡ child w.page = cc in absurd (none w.page same)

pub as_branch : (d : ℕ) (body : Body d) (s : Slot) (ss : List Slot) (page : ℕ) (r : Result PageContent TreeFault) → s.load ≡ child page
    → s ∷ ss ≡ slots_of d body
    → ((pivots : List Pivot) → s ∷ ss ≡ map pivot_slot pivots → MatchResult r (λ c. content_in c ≡ branch (bare_pivots pivots)) (λ e. e ≡ Memory))
    → MatchResult r (λ c. content_in c ≡ content_of d (bare d body)) (λ e. e ≡ Memory)
as_branch zero [] s ss page r is e says = cc
as_branch zero (x ∷ xs) s ss page r is e says = let same : s.load ≡ value (place_of x.links x.value) = cc in cc
as_branch (suc d) subtrees s ss page r is e says =
    subst (λ pivots. MatchResult r (λ c. content_in c ≡ branch pivots) (λ e. e ≡ Memory)) (bare_are subtrees)
    (says (map pivot_of subtrees) (e ∙ sym (subtrees_are subtrees)))

-- the first of a branch's children, without its key
pub first_bare : (children : List Child) (child' : Child) → 0 < length children → pivot_in child' ≡ record { key = []; child = (get_or children 0 child').page }
    → map pivot_in (slice_set children 0 child') ≡ bare_pivots (map pivot_in children)
first_bare [] c some e = absurd (omega arith)
first_bare (x ∷ xs) c some e = ap (λ a. a ∷ map pivot_in xs) e

pub first_here : (loose_slots : List LooseSlot) (u : LooseSlot) → 0 < length loose_slots → u ≡ get_or loose_slots 0 u
    → map slot_in loose_slots ≡ slot_in u ∷ map slot_in (drop 1 loose_slots)
first_here [] u lt e = absurd (omega arith)
first_here (x ∷ xs) u lt e = ap (λ y. slot_in y ∷ map slot_in xs) (sym e)

-- where there are too few children for a branch
pub too_few : (d : ℕ) (body : Body d) (s : Slot) (ss : List Slot) (loose_slots : List LooseSlot) → IsChild s.load → s ∷ ss ≡ slots_of d body
    → length loose_slots < 2
    → IsEnough d (map slot_in loose_slots) → ⊥
too_few zero [] s ss loose_slots is e lt enough = cc
too_few zero (x ∷ xs) s ss loose_slots is e lt enough = let same : s.load ≡ value (place_of x.links x.value) = cc in subst IsChild same is
too_few (suc d) subtrees s ss loose_slots is e lt enough = let two : 2 ≤ length (map slot_in loose_slots) = enough in omega
    (arith, long_map slot_in loose_slots)

pub is_a_child : (l : Load) → IsChild l → IsMapped child l
is_a_child (value place) h = absurd h
is_a_child (child page) h = record { x = page; is = refl }
