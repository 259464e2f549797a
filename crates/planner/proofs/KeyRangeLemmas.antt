-- A document that a filter matches has a key in the range that the filter gives in an index.
use Rattle.std.proofs.Common.{◌≡◌, ℕ, Bool, true, false, List, [], ◌∷◌, ◌++◌, length, drop, map, Option, Some, None, refl, sym, ap, ◌∙◌, arith}
use Rattle.std.specs.Prelude.{IfSome, ◌&&◌, ◌||◌}
use Rattle.std.specs.List.{list_any, flat_map}
use Rattle.bson.specs.Tree.{Tree, scalar, document, array, no_items, item, Pairs}
use Rattle.path.specs.Parts.{parts_of}
use Rattle.path.specs.Reach.{Reached, reach}
use Rattle.value_order.specs.Order.{Key}
use Rattle.filter.specs.Condition.{Conditions}
use Rattle.filter.specs.Matches.{matches}
use Rattle.index.specs.Definition.{Field}
use Rattle.index.specs.IndexKeys.{keys_of, or_missing, field_keys, index_keys, field_meets_array, is_multikey}
use Rattle.index.proofs.OneKeyLaws.{one_key}
use Rattle.plan_model.specs.Usable.{Bound, Usable}
use Rattle.plan_model.specs.Plan.{asked_of, and_then, leading, asked_next, upper_beside, fields_of, is_multi}
use Rattle.planner.specs.KeyRange.{is_equal_to, lies_by, lies_within, is_in, HasKeyInRange}
use Rattle.planner.proofs.UsableLemmas.{and_both, or_none, or_last, any_more, any_append, append_any, Meets, meets_usable}

-- ---- combinations

any_image : {X Y : Type 0} (g : X → Y) (s : X → Bool) (p : Y → Bool) → ((x : X) → s x ≡ true → p (g x) ≡ true) → (xs : List X) → list_any s xs ≡ true
    → list_any p (map g xs) ≡ true
any_image g s p h [] e = e
any_image {X} g s p h (x ∷ xs) e = by (s x) refl (any_image g s p h xs) e
  where
    by : (b : Bool) → s x ≡ b → (list_any s xs ≡ true → list_any p (map g xs) ≡ true) → (b || list_any s xs) ≡ true → (p (g x) || list_any p (map g xs)) ≡ true
    by true so later f = ap (λ (c : Bool). c || list_any p (map g xs)) (h x so)
    by false not_so later f = or_last (p (g x)) (list_any p (map g xs)) (later f)

abbrev combined : List (List Key) → List Key → List (List Key)
combined more keys = flat_map (λ k. map (λ ks. k ∷ ks) more) keys

-- one key of a field, and one list of keys of the others, make one of all
any_combination : (p : List Key → Bool) (q : Key → Bool) (s : List Key → Bool) → ((k : Key) (ks : List Key) → q k ≡ true → s ks ≡ true → p (k ∷ ks) ≡ true)
    → (keys : List Key) (more : List (List Key)) → list_any q keys ≡ true → list_any s more ≡ true → list_any p (combined more keys) ≡ true
any_combination p q s h [] more e f = absurd cc
any_combination p q s h (k ∷ keys) more e f = by (q k) refl (λ g. any_combination p q s h keys more g f) e
  where
    by : (b : Bool) → q k ≡ b → (list_any q keys ≡ true → list_any p (combined more keys) ≡ true) → (b || list_any q keys) ≡ true
        → list_any p (map (λ ks. k ∷ ks) more ++ combined more keys) ≡ true
    by true so later g = any_append p (map (λ ks. k ∷ ks) more) (combined more keys) (any_image (λ ks. k ∷ ks) s p (λ ks. h k ks so) more f)
    by false not_so later g = append_any p (map (λ ks. k ∷ ks) more) (combined more keys) (later g)

-- ---- keys of one field

abbrev HasSome : {X : Type 0} → List X → Type 0
HasSome xs = list_any (λ x. true) xs ≡ true

some_in : (r : Reached) → HasSome (keys_of r)
some_in None = refl
some_in (Some (array no_items)) = refl
some_in (Some (array (item t ts))) = refl
some_in (Some (scalar s)) = refl
some_in (Some (document ps)) = refl

some_key : (path : List ℕ) (ps : Pairs) → HasSome (field_keys path ps)
some_key path ps = at (reach (parts_of path) (document ps))
  where
    at : (rs : List Reached) → HasSome (flat_map keys_of (or_missing rs))
    at [] = refl
    at (r ∷ rs) = any_append (λ k. true) (keys_of r) (flat_map keys_of rs) (some_in r)

some_combination : (fs : List Field) (ps : Pairs) → HasSome (index_keys fs ps)
some_combination [] ps = refl
some_combination (f ∷ fs) ps =
    any_combination (λ ks. true) (λ k. true) (λ ks. true) (λ k ks g h. refl) (field_keys f.path ps) (index_keys fs ps) (some_key f.path ps)
    (some_combination fs ps)

abbrev pub IsAlone : List Key → Type 0
IsAlone keys = (k : Key) × (keys ≡ k ∷ [])

alone_of : (keys : List Key) → length (combined ([] ∷ []) keys) ≡ 1 → IsAlone keys
alone_of [] e = absurd cc
alone_of (k ∷ []) e = (k, refl)
alone_of (k ∷ l ∷ keys) e = absurd (omega (arith, e))

either_array : (a b : Bool) → (a || b) ≡ false → a ≡ false
either_array true b e = absurd cc
either_array false b e = refl

-- a field that meets no array has one key
pub one_of : (f : Field) (ps : Pairs) → field_meets_array ps f ≡ false → IsAlone (field_keys f.path ps)
one_of f ps e = alone_of (field_keys f.path ps) (one_key (f ∷ []) ps (ap (λ (b : Bool). b || false) e))

-- ---- the ends of a range

module _ (keys : List Key) (some : HasSome keys) where
  abbrev Met : Option Bound → Type 0
  Met o = IfSome o (λ b. list_any (lies_by b) keys ≡ true)

  alone_met : (k : Key) (p : Key → Bool) → keys ≡ k ∷ [] → list_any p keys ≡ true → p k ≡ true
  alone_met k p is e = or_none (p k) (ap (list_any p) (sym is) ∙ e)

  within_alone : (k : Key) → keys ≡ k ∷ [] → (o : Option Bound) → Met o → lies_within o k ≡ true
  within_alone k is None m = refl
  within_alone k is (Some b) m = alone_met k (lies_by b) is m

  both_alone : (low high : Option Bound) → IsAlone keys → Met low → Met high → list_any (λ k. lies_within low k && lies_within high k) keys ≡ true
  both_alone low high (k, is) ml mh =
      ap (list_any (λ k. lies_within low k && lies_within high k)) is
      ∙ joined (lies_within low k) (lies_within high k) (within_alone k is low ml) (within_alone k is high mh)
    where
      joined : (a b : Bool) → a ≡ true → b ≡ true → ((a && b) || false) ≡ true
      joined true true e f = refl
      joined true false e f = absurd cc
      joined false b e f = absurd cc

  with_true : (a : Bool) → a ≡ true → (a && true) ≡ true
  with_true true e = refl
  with_true false e = e

  -- only one end counts
  one_end : (low high : Option Bound) → Met low → Met high → list_any (λ k. lies_within low k && lies_within (upper_beside true low high) k) keys ≡ true
  one_end None None ml mh = some
  one_end None (Some h) ml mh = mh
  one_end (Some l) high ml mh = any_more (lies_by l) (λ k. lies_by l k && true) (λ k. with_true (lies_by l k)) keys ml

  ends : (multi : Bool) (low high : Option Bound) → (multi ≡ false → IsAlone keys) → Met low → Met high
      → list_any (λ k. lies_within low k && lies_within (upper_beside multi low high) k) keys ≡ true
  ends true low high alone ml mh = one_end low high ml mh
  ends false low high alone ml mh = both_alone low high (alone refl) ml mh

-- ---- a key of all fields

module _ (rs : Conditions) (ps : Pairs) (multi : Bool) (matching : matches rs ps ≡ true) where
  abbrev InRange : List Tree → Usable → List Field → Type 0
  InRange ts next fs =
      list_any (is_in ts next.low (upper_beside multi next.low next.high)) (index_keys fs ps) ≡ true

  array_tells : (f : Field) (fs : List Field) → (is_multikey (f ∷ fs) ps ≡ true → multi ≡ true) → multi ≡ false → field_meets_array ps f ≡ false
  array_tells f fs tells single = at (field_meets_array ps f) refl
    where
      at : (b : Bool) → field_meets_array ps f ≡ b → b ≡ false
      at false e = refl
      at true e = absurd (let m : multi ≡ true = tells (ap (λ (b : Bool). b || is_multikey fs ps) e) in cc)

  others_tell : (f : Field) (fs : List Field) → (is_multikey (f ∷ fs) ps ≡ true → multi ≡ true) → is_multikey fs ps ≡ true → multi ≡ true
  others_tell f fs tells e = tells (or_last (field_meets_array ps f) (is_multikey fs ps) e)

  abbrev InRangeOf : List Field → Type 0
  InRangeOf fs = InRange (leading rs fs) (asked_next rs (drop (length (leading rs fs)) fs)) fs

  in_range : (fs : List Field) → (is_multikey fs ps ≡ true → multi ≡ true) → InRangeOf fs
  in_range [] tells = refl
  in_range (f ∷ fs) tells = by (asked_of f rs).equal met.equal_met (in_range fs (others_tell f fs tells))
    where
      met : Meets (field_keys f.path ps) (asked_of f rs)
      met = meets_usable (parts_of f.path) rs ps matching

      by : (o : Option Tree) → IfSome o (λ t. list_any (is_equal_to t) (field_keys f.path ps) ≡ true) → InRangeOf fs
          → InRange (and_then o (leading rs fs)) (asked_next rs (drop (length (and_then o (leading rs fs))) (f ∷ fs))) (f ∷ fs)
      by None m later =
          let low = (asked_of f rs).low in
          let high = (asked_of f rs).high in
          any_combination (is_in [] low (upper_beside multi low high)) (λ k. lies_within low k && lies_within (upper_beside multi low high) k) (λ ks. true)
          (λ k ks g h. g) (field_keys f.path ps) (index_keys fs ps)
          (ends (field_keys f.path ps) (some_key f.path ps) multi low high (λ single. one_of f ps (array_tells f fs tells single)) met.low_met met.high_met)
          (some_combination fs ps)
      by (Some t) m later =
          let next = asked_next rs (drop (length (leading rs fs)) fs) in
          any_combination (is_in (t ∷ leading rs fs) next.low (upper_beside multi next.low next.high)) (is_equal_to t)
          (is_in (leading rs fs) next.low (upper_beside multi next.low next.high))
          (λ k ks g h. and_both (is_equal_to t k) (is_in (leading rs fs) next.low (upper_beside multi next.low next.high) ks) g h)
          (field_keys f.path ps) (index_keys fs ps) m later

pub has_key_in_range : HasKeyInRange
has_key_in_range rs sort index ps tells matching = in_range rs ps (is_multi index) matching (fields_of index) tells
