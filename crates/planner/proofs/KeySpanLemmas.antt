-- The keys of a range lie between its first bytes and its last ones.
use Rattle.std.proofs.Common.{◌≡◌, ℕ, Bool, true, false, List, [], ◌∷◌, ◌++◌, length, take, drop, Option, Some, None, refl, sym, ap, subst, ◌∙◌}
use Rattle.std.specs.Prelude.{IfSome, ◌&&◌, if◌then◌else◌, is_some}
use Rattle.std.specs.Option.{option_or}
use Rattle.std.specs.Ordering.{is_lt, is_gt, ordering_then, ordering_reverse, nat_cmp}
use Rattle.std.specs.Str.{bytes_eq}
use Rattle.std.specs.declared.cmp.Ordering.{Ordering}
use Rattle.std.specs.declared.cmp.Ordering.TheVariants.{Less, Equal, Greater}
use Rattle.std.specs.Cmp.Lexicographic.{nat_list_cmp_total}
use Rattle.std.proofs.lemmas.Cmp.{nat_cmp_total, tied_itself}
use Rattle.std.proofs.lemmas.List.{take-append-drop}
use Rattle.std.proofs.lemmas.Slice.Eq.{bytes_eq-Decides}
use Rattle.bson.specs.Tree.{Tree, array, scalar, document}
use Rattle.value_order.specs.Order.{bytes_cmp}
use Rattle.value_order.specs.declared.texts.Direction.{Direction}
use Rattle.value_order.specs.declared.texts.Direction.TheVariants.{Ascending, Descending}
use Rattle.filter.specs.Condition.{equal, ordered, there, of_kinds, size, Condition, all, any, not_all, not_any, at, is, element, element_document, Conditions}
use Rattle.filter.specs.Condition.{no_conditions, condition}
use Rattle.filter.specs.Matches.{allows}
use Rattle.filter.specs.declared.condition.Comparison.{Comparison}
use Rattle.filter.specs.declared.condition.Comparison.TheVariants.{Below, AtMost, Above, AtLeast}
use Rattle.index.specs.Definition.{Field}
use Rattle.plan_model.specs.Usable.{Bound, Usable, nothing, or, bound_at, range_of, usable_in, gather, all_usable, is_path, usable_there}
use Rattle.plan_model.specs.Plan.{Range, fields_of, is_multi, leading, asked_next, range_in}
use Rattle.planner.specs.KeyRange.{front_text, place_by, in_direction, is_of_class, bytes_lie_by, bytes_within, first_bytes_lie, has_bytes}
use Rattle.planner.specs.KeySpan.{bound_text, least_end, least_text, first_key, last_key, SpansRange}
use Rattle.planner.proofs.UsableLemmas.{and_first, and_second}

-- ---- a lower end is one, and an upper one too

abbrev IsLow : Bound → Type 0
IsLow b = (o : Ordering) → allows b.comparison o ≡ true → is_lt o ≡ false

abbrev IsHigh : Bound → Type 0
IsHigh b = (o : Ordering) → allows b.comparison o ≡ true → is_gt o ≡ false

record HasSides (u : Usable) : Type 0 where
  low_side : IfSome u.low IsLow
  high_side : IfSome u.high IsHigh

above_low : (t : Tree) → IsLow (record { comparison = Above; operand = t })
above_low t Less e = absurd cc
above_low t Equal e = refl
above_low t Greater e = refl

at_least_low : (t : Tree) → IsLow (record { comparison = AtLeast; operand = t })
at_least_low t Less e = absurd cc
at_least_low t Equal e = refl
at_least_low t Greater e = refl

below_high : (t : Tree) → IsHigh (record { comparison = Below; operand = t })
below_high t Less e = refl
below_high t Equal e = refl
below_high t Greater e = absurd cc

at_most_high : (t : Tree) → IsHigh (record { comparison = AtMost; operand = t })
at_most_high t Less e = refl
at_most_high t Equal e = refl
at_most_high t Greater e = absurd cc

bound_side : (P : Bound → Type 0) (c : Comparison) → ((t : Tree) → P (record { comparison = c; operand = t })) → (t : Tree) → IfSome (bound_at c t) P
bound_side P c h (array ts) = tt
bound_side P c h (scalar s) = h (scalar s)
bound_side P c h (document ps) = h (document ps)

no_sides : HasSides nothing
no_sides = record { low_side = tt; high_side = tt }

if_or : {X : Type 0} (P : X → Type 0) (o p : Option X) → IfSome o P → IfSome p P → IfSome (option_or o p) P
if_or P None p f g = g
if_or P (Some x) p f g = f

sides_or : (u v : Usable) → HasSides u → HasSides v → HasSides (or u v)
sides_or u v f g = record {
  low_side = if_or IsLow u.low v.low f.low_side g.low_side;
  high_side = if_or IsHigh u.high v.high f.high_side g.high_side;
}

range_sides : (c : Comparison) (t : Tree) → HasSides (range_of c t)
range_sides Above t = record { low_side = bound_side IsLow Above above_low t; high_side = tt }
range_sides AtLeast t = record { low_side = bound_side IsLow AtLeast at_least_low t; high_side = tt }
range_sides Below t = record { low_side = tt; high_side = bound_side IsHigh Below below_high t }
range_sides AtMost t = record { low_side = tt; high_side = bound_side IsHigh AtMost at_most_high t }

sides_in : (r : Condition) → HasSides (usable_in r)
sides_in (is (equal v)) = record { low_side = tt; high_side = tt }
sides_in (is (ordered c v)) = range_sides c v
sides_in (is there) = no_sides
sides_in (is (of_kinds ks)) = no_sides
sides_in (is (size n)) = no_sides
sides_in (all rs) = no_sides
sides_in (any rs) = no_sides
sides_in (not_all rs) = no_sides
sides_in (not_any rs) = no_sides
sides_in (at parts rs) = no_sides
sides_in (element rs) = no_sides
sides_in (element_document rs) = no_sides

sides_gathered : (give : Condition → Usable) → ((r : Condition) → HasSides (give r)) → (rs : Conditions) → HasSides (gather give rs)
sides_gathered give h no_conditions = no_sides
sides_gathered give h (condition r rs) = sides_or (give r) (gather give rs) (h r) (sides_gathered give h rs)

sides_there : (path : List (List ℕ)) (r : Condition) → HasSides (usable_there path r)
sides_there path (at parts rs) = by (is_path path parts)
  where
    by : (b : Bool) → HasSides (if b then all_usable rs else nothing)
    by true = sides_gathered usable_in sides_in rs
    by false = no_sides
sides_there path (is p) = no_sides
sides_there path (all rs) = no_sides
sides_there path (any rs) = no_sides
sides_there path (not_all rs) = no_sides
sides_there path (not_any rs) = no_sides
sides_there path (element rs) = no_sides
sides_there path (element_document rs) = no_sides

sides_next : (rs : Conditions) (fs : List Field) → HasSides (asked_next rs fs)
sides_next rs [] = no_sides
sides_next rs (f ∷ fs) = sides_gathered (usable_there _) (sides_there _) rs

-- ---- bytes by a text

-- bytes of which the first ones are not below a text aren't below it
not_below : (text bytes : List ℕ) → is_lt (place_by text bytes) ≡ false → is_lt (bytes_cmp bytes text) ≡ false
not_below [] [] e = refl
not_below [] (m ∷ bytes) e = refl
not_below (n ∷ text) [] e = absurd cc
not_below (n ∷ text) (m ∷ bytes) e = by (nat_cmp m n) (not_below text bytes) e
  where
    by : (o : Ordering) → (is_lt (place_by text bytes) ≡ false → is_lt (bytes_cmp bytes text) ≡ false) → is_lt (ordering_then o (place_by text bytes)) ≡ false
        → is_lt (ordering_then o (bytes_cmp bytes text)) ≡ false
    by Less later f = absurd cc
    by Equal later f = later f
    by Greater later f = refl

turn_low : (o : Ordering) → is_gt (ordering_reverse o) ≡ false → is_lt o ≡ false
turn_low Less e = absurd cc
turn_low Equal e = refl
turn_low Greater e = refl

turn_high : (o : Ordering) → is_lt (ordering_reverse o) ≡ false → is_gt o ≡ false
turn_high Less e = refl
turn_high Equal e = refl
turn_high Greater e = absurd cc

class_place : (text bytes : List ℕ) → is_of_class text bytes ≡ true → place_by (take 1 text) bytes ≡ Equal
class_place [] bytes e = refl
class_place (n ∷ text) bytes e =
    ap (λ (first : List ℕ). bytes_cmp first (n ∷ [])) ((bytes_eq-Decides (take 1 bytes) (n ∷ [])).0 e) ∙ tied_itself nat_list_cmp_total (n ∷ [])

class_below : (text bytes : List ℕ) → is_of_class text bytes ≡ true → is_lt (bytes_cmp bytes (take 1 text)) ≡ false
class_below text bytes e = not_below (take 1 text) bytes (ap is_lt (class_place text bytes e))

above_nothing : (bytes : List ℕ) → is_lt (bytes_cmp bytes []) ≡ false
above_nothing [] = refl
above_nothing (m ∷ bytes) = refl

-- ---- the ends

of_class : (d : Direction) (b : Bound) (rest : List ℕ) → bytes_lie_by d b rest ≡ true → is_of_class (bound_text d b) rest ≡ true
of_class d b rest e = and_first (is_of_class (bound_text d b) rest) (allows b.comparison (in_direction d (place_by (bound_text d b) rest))) e

placed : (d : Direction) (b : Bound) (rest : List ℕ) → bytes_lie_by d b rest ≡ true
    → allows b.comparison (in_direction d (place_by (bound_text d b) rest)) ≡ true
placed d b rest e = and_second (is_of_class (bound_text d b) rest) (allows b.comparison (in_direction d (place_by (bound_text d b) rest))) e

least_holds : (d : Direction) (low high : Option Bound) → IfSome low IsLow → IfSome high IsHigh → (rest : List ℕ) → bytes_within d low rest ≡ true
    → bytes_within d high rest ≡ true → is_lt (bytes_cmp rest (least_end d low high)) ≡ false
least_holds Ascending (Some b) high sl sh rest wl wh =
    not_below (bound_text Ascending b) rest (sl (place_by (bound_text Ascending b) rest) (placed Ascending b rest wl))
least_holds Ascending None (Some b) sl sh rest wl wh = class_below (bound_text Ascending b) rest (of_class Ascending b rest wh)
least_holds Ascending None None sl sh rest wl wh = above_nothing rest
least_holds Descending low (Some b) sl sh rest wl wh =
    not_below (bound_text Descending b) rest
    (turn_low (place_by (bound_text Descending b) rest) (sh (ordering_reverse (place_by (bound_text Descending b) rest)) (placed Descending b rest wh)))
least_holds Descending (Some b) None sl sh rest wl wh = class_below (bound_text Descending b) rest (of_class Descending b rest wl)
least_holds Descending None None sl sh rest wl wh = above_nothing rest

greatest_holds : (d : Direction) (low high : Option Bound) → IfSome low IsLow → IfSome high IsHigh → (rest : List ℕ) → bytes_within d low rest ≡ true
    → bytes_within d high rest ≡ true → is_gt (place_by (least_end d high low) rest) ≡ false
greatest_holds Ascending low (Some b) sl sh rest wl wh = sh (place_by (bound_text Ascending b) rest) (placed Ascending b rest wh)
greatest_holds Ascending (Some b) None sl sh rest wl wh = ap is_gt (class_place (bound_text Ascending b) rest (of_class Ascending b rest wl))
greatest_holds Ascending None None sl sh rest wl wh = refl
greatest_holds Descending (Some b) high sl sh rest wl wh =
    turn_high (place_by (bound_text Descending b) rest) (sl (ordering_reverse (place_by (bound_text Descending b) rest)) (placed Descending b rest wl))
greatest_holds Descending None (Some b) sl sh rest wl wh = ap is_gt (class_place (bound_text Descending b) rest (of_class Descending b rest wh))
greatest_holds Descending None None sl sh rest wl wh = refl

-- ---- behind a front

same_front : (p x y : List ℕ) → bytes_cmp (p ++ x) (p ++ y) ≡ bytes_cmp x y
same_front [] x y = refl
same_front (b ∷ p) x y = ap (λ (o : Ordering). ordering_then o (bytes_cmp (p ++ x) (p ++ y))) (tied_itself nat_cmp_total b) ∙ same_front p x y

place_front : (p text bytes : List ℕ) → place_by (p ++ text) (p ++ bytes) ≡ place_by text bytes
place_front [] text bytes = refl
place_front (b ∷ p) text bytes =
    ap (λ (o : Ordering). ordering_then o (place_by (p ++ text) (p ++ bytes))) (tied_itself nat_cmp_total b) ∙ place_front p text bytes

abbrev IsSpanned : List Field → Range → List ℕ → Type 0
IsSpanned fs r key = (is_lt (bytes_cmp key (first_key fs r)) ≡ false) × (is_gt (place_by (last_key fs r) key) ≡ false)

behind_front : (front least greatest rest : List ℕ) → is_lt (bytes_cmp rest least) ≡ false → is_gt (place_by greatest rest) ≡ false
    → (is_lt (bytes_cmp (front ++ rest) (front ++ least)) ≡ false) × (is_gt (place_by (front ++ greatest) (front ++ rest)) ≡ false)
behind_front front least greatest rest l g = (ap is_lt (same_front front rest least) ∙ l, ap is_gt (place_front front greatest rest) ∙ g)

ends_hold : (low high : Option Bound) → IfSome low IsLow → IfSome high IsHigh → (fs : List Field) (rest : List ℕ) → first_bytes_lie low high fs rest ≡ true
    → (is_lt (bytes_cmp rest (least_text low high fs)) ≡ false) × (is_gt (place_by (least_text high low fs) rest) ≡ false)
ends_hold low high sl sh [] rest e = (above_nothing rest, refl)
ends_hold low high sl sh (f ∷ fs) rest e =
    let wl = and_first (bytes_within f.direction low rest) (bytes_within f.direction high rest) e in
    let wh = and_second (bytes_within f.direction low rest) (bytes_within f.direction high rest) e in
    (least_holds f.direction low high sl sh rest wl wh, greatest_holds f.direction low high sl sh rest wl wh)

spanned : (fs : List Field) (r : Range) (key : List ℕ) → IfSome r.low IsLow → IfSome r.high IsHigh → has_bytes fs r key ≡ true → IsSpanned fs r key
spanned fs r key sl sh e =
    let front = front_text fs r.equal in
    let next = drop (length r.equal) fs in
    let rest = drop (length front) key in
    let begins =
    (bytes_eq-Decides (take (length front) key) front).0 (and_first (bytes_eq (take (length front) key) front) (first_bytes_lie r.low r.high next rest) e) in
    let parts : front ++ rest ≡ key = ap (λ (p : List ℕ). p ++ rest) (sym begins) ∙ take-append-drop (length front) key in
    let ends = ends_hold r.low r.high sl sh next rest (and_second (bytes_eq (take (length front) key) front) (first_bytes_lie r.low r.high next rest) e) in
    subst (λ (k : List ℕ). IsSpanned fs r k) parts (behind_front front (least_text r.low r.high next) (least_text r.high r.low next) rest ends.0 ends.1)

pub spans_range : SpansRange
spans_range rs sort index key e =
    let fs = fields_of index in
    let next = asked_next rs (drop (length (leading rs fs)) fs) in
    let sides = sides_next rs (drop (length (leading rs fs)) fs) in
    spanned fs (range_in rs sort index) key sides.low_side (by (is_multi index && is_some next.low) next.high sides.high_side) e
  where
    by : (b : Bool) (high : Option Bound) → IfSome high IsHigh → IfSome (if b then None else high) IsHigh
    by true high h = tt
    by false high h = h
