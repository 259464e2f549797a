-- A key in a range of an index has its bytes there.
use Rattle.std.proofs.Common.{◌≡◌, ℕ, ◌-◌, Bool, true, false, List, [], ◌∷◌, ◌++◌, length, take, drop, map, Option, Some, None, refl, sym, ap, subst, ◌∙◌}
use Rattle.std.proofs.Common.{append_assoc, append-nil}
use Rattle.std.specs.Prelude.{IfSome, ◌==◌, ◌||◌, All}
use Rattle.std.specs.List.{AllByRecursion, list_any}
use Rattle.std.specs.Str.{bytes_eq}
use Rattle.std.specs.Ordering.{ordering_then, ordering_reverse, nat_cmp, is_eq, eq_by_cmp}
use Rattle.std.specs.declared.cmp.Ordering.{Ordering}
use Rattle.std.specs.declared.cmp.Ordering.TheVariants.{Less, Equal, Greater}
use Rattle.std.proofs.Math.Seq.{take-append_seam, drop-append_seam}
use Rattle.std.proofs.lemmas.Bool.{eqb-true}
use Rattle.std.proofs.lemmas.List.Elements.{All-head, All-tail}
use Rattle.std.proofs.lemmas.Map.Lookups.{exact_bytes, exact_unsigned}
use Rattle.std.proofs.lemmas.Slice.Eq.{bytes_eq-Decides}
use Rattle.bson.specs.Tree.{Tree}
use Rattle.value_order.specs.Laws.{IsKey}
use Rattle.value_order.specs.Order.{Key, empty_array, value, class, key_class, bytes_cmp, key_cmp}
use Rattle.value_order.specs.KeyText.{directed_text, directed_cmp}
use Rattle.value_order.specs.declared.texts.Direction.{Direction}
use Rattle.value_order.specs.declared.texts.Direction.TheVariants.{Ascending, Descending}
use Rattle.value_order.proofs.KeyLaws.{texts_order, texts_agree, none_begins}
use Rattle.filter.specs.Matches.{is_equal, allows}
use Rattle.index.specs.Changes.{is_among}
use Rattle.index.specs.Definition.{Field}
use Rattle.index.specs.IndexKeys.{index_keys}
use Rattle.index.specs.KeyTexts.{key_bytes, ascending_set}
use Rattle.index.specs.Laws.{IsIndexKey}
use Rattle.index.proofs.SetLemmas.{set_among, same_itself}
use Rattle.index.proofs.SpellableLaws.{keys_spellable}
use Rattle.plan_model.specs.Usable.{Bound}
use Rattle.plan_model.specs.Plan.{Range, fields_of, range_in}
use Rattle.planner.specs.KeyRange.{is_equal_to, lies_by, lies_within, is_in, has_key, front_text, place_by, in_direction, is_of_class, bytes_lie_by}
use Rattle.planner.specs.KeyRange.{bytes_within, first_bytes_lie, has_bytes, IsSpellable, HasBytesInRange}
use Rattle.planner.proofs.UsableLemmas.{and_both, and_first, and_second, or_last}
use Rattle.planner.proofs.KeyRangeLemmas.{has_key_in_range}

-- ---- one text among others

-- what follows one of two texts, neither of which begins the other, doesn't change how it lies by the other
apart_place : (a b : List ℕ) → ((x y : List ℕ) → a ++ x ≡ b ++ y → a ≡ b) → (rest : List ℕ) → place_by b (a ++ rest) ≡ bytes_cmp a b
apart_place [] [] apart rest = refl
apart_place [] (n ∷ b) apart rest = absurd (let e : [] ≡ n ∷ b = apart (n ∷ b) [] (sym (append-nil (n ∷ b))) in cc)
apart_place (m ∷ a) [] apart rest = absurd (let e : m ∷ a ≡ [] = apart [] (m ∷ a) (append-nil (m ∷ a)) in cc)
apart_place (m ∷ a) (n ∷ b) apart rest =
    by (nat_cmp m n) (λ tie. apart_place a b (λ x y f. tail (apart x y (λ i. exact_unsigned m n tie i ∷ f i))) rest)
  where
    tail : m ∷ a ≡ n ∷ b → a ≡ b
    tail e = cc

    by : (o : Ordering) → (o ≡ Equal → place_by b (a ++ rest) ≡ bytes_cmp a b) → ordering_then o (place_by b (a ++ rest)) ≡ ordering_then o (bytes_cmp a b)
    by Less later = refl
    by Equal later = later refl
    by Greater later = refl

twice : (o : Ordering) → ordering_reverse (ordering_reverse o) ≡ o
twice Less = refl
twice Equal = refl
twice Greater = refl

undirected : (d : Direction) (a b : Key) → in_direction d (directed_cmp d a b) ≡ key_cmp a b
undirected Ascending a b = refl
undirected Descending a b = twice (key_cmp a b)

place_is : (d : Direction) (a b : Key) (rest : List ℕ) → IsKey a → IsKey b
    → in_direction d (place_by (directed_text d b) (directed_text d a ++ rest)) ≡ key_cmp a b
place_is d a b rest ka kb =
    ap (in_direction d) (apart_place (directed_text d a) (directed_text d b) (λ x y e. (none_begins d a b x y ka kb e).0) rest ∙ texts_order d a b ka kb)
    ∙ undirected d a b

abbrev class_byte : Direction → ℕ → ℕ
class_byte Ascending n = n
class_byte Descending n = 255 - n

first_byte : (d : Direction) (k : Key) (rest : List ℕ) → take 1 (directed_text d k ++ rest) ≡ class_byte d (key_class k) ∷ []
first_byte Ascending empty_array rest = refl
first_byte Ascending (value t) rest = refl
first_byte Descending empty_array rest = refl
first_byte Descending (value t) rest = refl

own_byte : (d : Direction) (k : Key) → take 1 (directed_text d k) ≡ class_byte d (key_class k) ∷ []
own_byte Ascending empty_array = refl
own_byte Ascending (value t) = refl
own_byte Descending empty_array = refl
own_byte Descending (value t) = refl

class_there : (d : Direction) (a b : Key) (rest : List ℕ) → (key_class a == key_class b) ≡ true
    → is_of_class (directed_text d b) (directed_text d a ++ rest) ≡ true
class_there d a b rest e =
    (bytes_eq-Decides (take 1 (directed_text d a ++ rest)) (take 1 (directed_text d b))).1
    (first_byte d a rest ∙ ap (λ (n : ℕ). class_byte d n ∷ []) (eqb-true (key_class a) (key_class b) e) ∙ sym (own_byte d b))

lies_there : (d : Direction) (b : Bound) (k : Key) (rest : List ℕ) → IsKey k → IsKey (value b.operand) → lies_by b k ≡ true
    → bytes_lie_by d b (directed_text d k ++ rest) ≡ true
lies_there d b k rest kk kb h =
    let of_class = key_class k == class b.operand in
    let there = allows b.comparison (key_cmp k (value b.operand)) in
    and_both (is_of_class (directed_text d (value b.operand)) (directed_text d k ++ rest))
    (allows b.comparison (in_direction d (place_by (directed_text d (value b.operand)) (directed_text d k ++ rest))))
    (class_there d k (value b.operand) rest (and_first of_class there h))
    (ap (allows b.comparison) (place_is d k (value b.operand) rest kk kb) ∙ and_second of_class there h)

within_there : (d : Direction) (o : Option Bound) (k : Key) (rest : List ℕ) → IsKey k → IfSome o (λ b. IsKey (value b.operand)) → lies_within o k ≡ true
    → bytes_within d o (directed_text d k ++ rest) ≡ true
within_there d None k rest kk s h = refl
within_there d (Some b) k rest kk s h = lies_there d b k rest kk s h

equal_is : (o : Ordering) → is_equal o ≡ true → o ≡ Equal
equal_is Less e = absurd cc
equal_is Equal e = refl
equal_is Greater e = absurd cc

-- ---- the bytes of a key

-- they are the front of the range and a rest that lies between its ends
abbrev IsBehind : List Field → List Tree → Option Bound → Option Bound → List ℕ → Type 0
IsBehind fs ts low high bytes = (rest : List ℕ) × (bytes ≡ front_text fs ts ++ rest) × (first_bytes_lie low high (drop (length ts) fs) rest ≡ true)

module _ (low high : Option Bound) (sl : IfSome low (λ b. IsKey (value b.operand))) (sh : IfSome high (λ b. IsKey (value b.operand))) (tail : List ℕ) where
  behind : (fs : List Field) (ts : List Tree) (ks : List Key) → IsIndexKey fs ks → All (λ t. IsKey (value t)) ts → is_in ts low high ks ≡ true
      → IsBehind fs ts low high (key_bytes fs ks ++ tail)
  behind [] [] ks g s h = (tail, refl, refl)
  behind [] (t ∷ ts) [] g s h = absurd cc
  behind [] (t ∷ ts) (k ∷ ks) g s h = absurd g
  behind (f ∷ fs) ts [] g s h = absurd g
  behind (f ∷ fs) [] (k ∷ ks) g s h =
      let rest : List ℕ = directed_text f.direction k ++ (key_bytes fs ks ++ tail) in (
        rest,
        append_assoc (directed_text f.direction k) (key_bytes fs ks) tail,
        and_both (bytes_within f.direction low rest) (bytes_within f.direction high rest)
            (within_there f.direction low k (key_bytes fs ks ++ tail) g.0 sl (and_first (lies_within low k) (lies_within high k) h))
            (within_there f.direction high k (key_bytes fs ks ++ tail) g.0 sh (and_second (lies_within low k) (lies_within high k) h)),
      )
  behind (f ∷ fs) (t ∷ ts) (k ∷ ks) g s h =
      let same : directed_text f.direction k ≡ directed_text f.direction (value t) =
      (texts_agree f.direction k (value t) g.0 (All-head (λ x. IsKey (value x)) t ts s)).1
      (equal_is (key_cmp k (value t)) (and_first (is_equal_to t k) (is_in ts low high ks) h)) in
      let later = behind fs ts ks g.1 (All-tail (λ x. IsKey (value x)) t ts s) (and_second (is_equal_to t k) (is_in ts low high ks) h) in (
        later.0,
        append_assoc (directed_text f.direction k) (key_bytes fs ks) tail ∙ (λ i. same i ++ later.1 i)
            ∙ sym (append_assoc (directed_text f.direction (value t)) (front_text fs ts) later.0),
        later.2,
      )

-- whatever stands behind the key
pub has_bytes_behind : (fs : List Field) (r : Range) (ks : List Key) (tail : List ℕ) → IsIndexKey fs ks → IsSpellable r → has_key r ks ≡ true
    → has_bytes fs r (key_bytes fs ks ++ tail) ≡ true
has_bytes_behind fs r ks tail g s h =
    let b = behind r.low r.high s.low_spelled s.high_spelled tail fs r.equal ks g s.equal_spelled h in
    subst (λ (bytes : List ℕ). has_bytes fs r bytes ≡ true) (sym b.1) (at b.0 b.2)
  where
    at : (rest : List ℕ) → first_bytes_lie r.low r.high (drop (length r.equal) fs) rest ≡ true → has_bytes fs r (front_text fs r.equal ++ rest) ≡ true
    at rest e =
        let front = front_text fs r.equal in
        and_both (bytes_eq (take (length front) (front ++ rest)) front)
        (first_bytes_lie r.low r.high (drop (length r.equal) fs) (drop (length front) (front ++ rest)))
        ((bytes_eq-Decides (take (length front) (front ++ rest)) front).1 (take-append_seam front rest))
        (ap (first_bytes_lie r.low r.high (drop (length r.equal) fs)) (drop-append_seam front rest) ∙ e)

has_bytes_of : (fs : List Field) (r : Range) (ks : List Key) → IsIndexKey fs ks → IsSpellable r → has_key r ks ≡ true → has_bytes fs r (key_bytes fs ks) ≡ true
has_bytes_of fs r ks g s h =
    subst (λ (bytes : List ℕ). has_bytes fs r bytes ≡ true) (append-nil (key_bytes fs ks)) (has_bytes_behind fs r ks [] g s h)

-- ---- one of the encoded keys

-- a member of a list that passes
any_of : (p : List ℕ → Bool) (keys : List (List ℕ)) → list_any p keys ≡ true → (k : List ℕ) × (p k ≡ true) × (is_among keys k ≡ true)
any_of p [] e = absurd cc
any_of p (k ∷ keys) e = by (p k) refl (any_of p keys) e
  where
    by : (b : Bool) → p k ≡ b → (list_any p keys ≡ true → (l : List ℕ) × (p l ≡ true) × (is_among keys l ≡ true)) → (b || list_any p keys) ≡ true
        → (l : List ℕ) × (p l ≡ true) × (is_among (k ∷ keys) l ≡ true)
    by true so later f = (k, so, ap (λ (c : Bool). c || is_among keys k) (same_itself k))
    by false not_so later f = let l = later f in (l.0, l.1, or_last (eq_by_cmp bytes_cmp l.0 k) (is_among keys l.0) l.2)

passes_there : (p : List ℕ → Bool) (keys : List (List ℕ)) (k : List ℕ) → p k ≡ true → is_among keys k ≡ true → list_any p keys ≡ true
passes_there p [] k e h = absurd cc
passes_there p (l ∷ keys) k e h = by (bytes_cmp k l) refl (passes_there p keys k e) h
  where
    by : (o : Ordering) → bytes_cmp k l ≡ o → (is_among keys k ≡ true → list_any p keys ≡ true) → (is_eq o || is_among keys k) ≡ true
        → (p l || list_any p keys) ≡ true
    by Less not_so later f = or_last (p l) (list_any p keys) (later f)
    by Equal so later f = ap (λ (c : Bool). c || list_any p keys) (ap p (sym (exact_bytes k l so)) ∙ e)
    by Greater not_so later f = or_last (p l) (list_any p keys) (later f)

any_in_set : (p : List ℕ → Bool) (keys : List (List ℕ)) → list_any p keys ≡ true → list_any p (ascending_set keys) ≡ true
any_in_set p keys e = let k = any_of p keys e in passes_there p (ascending_set keys) k.0 k.1 (set_among keys k.0 ∙ k.2)

any_encoded : (fs : List Field) (r : Range) (keys : List (List Key)) → AllByRecursion (IsIndexKey fs) keys → IsSpellable r → list_any (has_key r) keys ≡ true
    → list_any (has_bytes fs r) (map (key_bytes fs) keys) ≡ true
any_encoded fs r [] g s e = absurd cc
any_encoded fs r (ks ∷ keys) g s e = by (has_key r ks) refl (any_encoded fs r keys g.1 s) e
  where
    by : (b : Bool) → has_key r ks ≡ b → (list_any (has_key r) keys ≡ true → list_any (has_bytes fs r) (map (key_bytes fs) keys) ≡ true)
        → (b || list_any (has_key r) keys) ≡ true → (has_bytes fs r (key_bytes fs ks) || list_any (has_bytes fs r) (map (key_bytes fs) keys)) ≡ true
    by true so later f = ap (λ (c : Bool). c || list_any (has_bytes fs r) (map (key_bytes fs) keys)) (has_bytes_of fs r ks g.0 s so)
    by false not_so later f = or_last (has_bytes fs r (key_bytes fs ks)) (list_any (has_bytes fs r) (map (key_bytes fs) keys)) (later f)

pub has_bytes_in_range : HasBytesInRange
has_bytes_in_range rs sort index ps tells spelled s matching =
    let fs = fields_of index in
    any_in_set (has_bytes fs (range_in rs sort index)) (map (key_bytes fs) (index_keys fs ps))
    (any_encoded fs (range_in rs sort index) (index_keys fs ps) (keys_spellable fs ps spelled) s (has_key_in_range rs sort index ps tells matching))
