-- What is left of a walk is what a walk gives from the first document on that was not given.
use Rattle.std.proofs.Common.{◌≡◌, ℕ, zero, suc, Bool, true, false, List, [], ◌∷◌, ◌++◌, map, drop, Option}
use Rattle.std.proofs.Common.{refl, sym}
use Rattle.std.proofs.Common.{ap, subst, ◌∙◌, arith, get_or}
use Rattle.std.specs.Prelude.{not, ◌&&◌, All, Contains}
use Rattle.std.specs.List.{filter}
use Rattle.std.specs.Ordering.{is_lt, on, ordering_reverse}
use Rattle.std.specs.Cmp.Lexicographic.{nat_list_cmp_total}
use Rattle.std.specs.declared.cmp.Ordering.{Ordering}
use Rattle.std.specs.declared.cmp.Ordering.TheVariants.{Less, Equal, Greater}
use Rattle.std.proofs.lemmas.Cmp.{alike_right, tied_itself}
use Rattle.std.proofs.lemmas.List.Elements.{All-drop, All-filter, All-head, All-map, All-tail, All-take, filter_passes}
use Rattle.bson.specs.SizingLaws.{frame_of-length}
use Rattle.bson.specs.Spelling.{pairs_bytes}
use Rattle.bson.specs.Tree.{Pairs}
use Rattle.value_order.specs.KeyText.{tree_text}
use Rattle.value_order.specs.Order.{compare, value}
use Rattle.value_order.specs.declared.texts.Direction.TheVariants.{Ascending}
use Rattle.value_order.proofs.KeyLaws.{texts_order}
use Rattle.tree_model.specs.Keys.{is_within, key_cmp}
use Rattle.command_model.specs.Find.{Query}
use Rattle.filter.specs.Condition.{Conditions}
use Rattle.filter.specs.Matches.{matches}
use Rattle.projection.specs.Projection.{Projection, project}
use Rattle.projection.specs.ProjectionLaws.{project_no_larger}
use Rattle.sort.specs.Sort.{order}
use Rattle.entry_model.specs.LawfulState.{IsRising, IsStorable}
use Rattle.entry_model.specs.State.{key_of}
use Rattle.entry_model.proofs.LawfulParts.{id_is_key}
use Rattle.planner.proofs.RisingLemmas.{Below, Rises, rises_of, rises_filter}
use Rattle.database_model.specs.Find.{limited, matching, query_result, window}
use Rattle.database_model.specs.Lawful.{IsStored, IsWithin}
use Rattle.walks.specs.Batches.{PassFrom, is_from, picked, rest_from, walk_rest}
use Rattle.walks.specs.IdRange.{PassWithin, has_id_within}
use Rattle.walks.proofs.FilterLemmas.{all_pass, filter_within, filter_twice, narrowed}
use Rattle.planner.proofs.UsableLemmas.{and_first}

abbrev text : Pairs → List ℕ
text d = tree_text (key_of d)

abbrev by_key : Pairs → Pairs → Ordering
by_key = on key_of compare

-- ---- texts order as the documents do

text_order : (d e : Pairs) → IsStorable d → IsStorable e → key_cmp (text d) (text e) ≡ compare (key_of d) (key_of e)
text_order d e hd he = texts_order Ascending (value (key_of d)) (value (key_of e)) (id_is_key d hd) (id_is_key e he)

own_text : (d : Pairs) → is_from (text d) d ≡ true
own_text d = ap (λ (o : Ordering). not (is_lt o)) (tied_itself nat_list_cmp_total (text d))

text_above : (d e : Pairs) → IsStorable d → IsStorable e → by_key d e ≡ Less → is_from (text d) e ≡ true
text_above d e hd he less =
    ap (λ (o : Ordering). not (is_lt o)) (nat_list_cmp_total.antisymm (text e) (text d) ∙ ap ordering_reverse (text_order d e hd he ∙ less))

text_below : (d e : Pairs) → IsStorable d → IsStorable e → by_key d e ≡ Less → is_from (text e) d ≡ false
text_below d e hd he less = ap (λ (o : Ordering). not (is_lt o)) (text_order d e hd he ∙ less)

all_above : (d : Pairs) (es : List Pairs) → IsStorable d → All IsStorable es → Below by_key d es → filter (is_from (text d)) es ≡ es
all_above d [] hd all below = refl
all_above d (e ∷ es) hd all below =
    rw (text_above d e hd (All-head IsStorable e es all) below.0)
    (ap (λ (xs : List Pairs). e ∷ xs) (all_above d es hd (All-tail IsStorable e es all) below.1))

middle_below : (x d : Pairs) (xs behind : List Pairs) → Below by_key x (xs ++ d ∷ behind) → by_key x d ≡ Less
middle_below x d [] behind below = below.0
middle_below x d (y ∷ xs) behind below = middle_below x d xs behind below.1

-- from the text of one of them on there are it and those behind it
pub rest_from_one : (front behind : List Pairs) (d : Pairs) → All IsStorable (front ++ d ∷ behind) → Rises by_key (front ++ d ∷ behind)
    → rest_from (text d) (front ++ d ∷ behind) ≡ d ∷ behind
rest_from_one [] behind d all up =
    rw (own_text d)
    (ap (λ (xs : List Pairs). d ∷ xs) (all_above d behind (All-head IsStorable d behind all) (All-tail IsStorable d behind all) up.0))
rest_from_one (x ∷ front) behind d all up =
    let rest = front ++ d ∷ behind in
    let later : All IsStorable rest = All-tail IsStorable x rest all in
    let hd : IsStorable d = All-head IsStorable d behind (All-back front (d ∷ behind) later) in
    rw (text_below x d (All-head IsStorable x rest all) hd (middle_below x d front behind up.0)) (rest_from_one front behind d later up.1)
  where
    All-back : (xs ys : List Pairs) → All IsStorable (xs ++ ys) → All IsStorable ys
    All-back [] ys h = h
    All-back (y ∷ xs) ys h = All-back xs ys (All-tail IsStorable y (xs ++ ys) h)

-- ---- from one text on, and from another

-- what isn't below a text isn't below one that is below that
from_later : (low high : List ℕ) (d : Pairs) → not (is_lt (key_cmp high low)) ≡ true → is_from high d ≡ true → is_from low d ≡ true
from_later low high d up h = at (key_cmp (text d) low) refl
  where
    at : (o : Ordering) → key_cmp (text d) low ≡ o → not (is_lt o) ≡ true
    at Equal e = refl
    at Greater e = refl
    at Less e = by (key_cmp high low) refl up
      where
        above : key_cmp low (text d) ≡ Greater
        above = nat_list_cmp_total.antisymm low (text d) ∙ ap ordering_reverse e

        by : (o : Ordering) → key_cmp high low ≡ o → not (is_lt o) ≡ true → not (is_lt Less) ≡ true
        by Less f g = g
        by Equal f g =
            let less : key_cmp (text d) high ≡ Less = alike_right nat_list_cmp_total high low (text d) f ∙ e in
            sym (ap (λ (o : Ordering). not (is_lt o)) less) ∙ h
        by Greater f g =
            let back : key_cmp low high ≡ Less = nat_list_cmp_total.antisymm low high ∙ ap ordering_reverse f in
            let less : key_cmp (text d) high ≡ Less = nat_list_cmp_total.trans (text d) low high e back in
            sym (ap (λ (o : Ordering). not (is_lt o)) less) ∙ h

-- those from a text on, of those from a lower one on
pub from_twice : (low high : List ℕ) → not (is_lt (key_cmp high low)) ≡ true → (ds : List Pairs) → rest_from high (rest_from low ds) ≡ rest_from high ds
from_twice low high up ds = filter_within (is_from high) (is_from low) ds (λ d there. from_later low high d up)

-- ---- between which texts a walk goes

module _ (passes : Pairs → Bool) (from first : List ℕ) (end : Option (List ℕ)) (within : PassWithin passes first end) where
  -- the range of the filter begins no lower
  pub from_range : (key_cmp first from ≡ Less → ⊥) → PassFrom passes from first end
  from_range above ds storable stored =
      ap (filter passes) (sym (filter_within (has_id_within first end) (is_from from) ds each))
      ∙ within (rest_from from ds) (All-filter (is_from from) IsStorable ds storable) (All-filter (is_from from) IsStored ds stored)
    where
      not_below : not (is_lt (key_cmp first from)) ≡ true
      not_below = at (key_cmp first from) refl
        where
          at : (o : Ordering) → key_cmp first from ≡ o → not (is_lt o) ≡ true
          at Less e = absurd (above e)
          at Equal e = refl
          at Greater e = refl

      each : (d : Pairs) → Contains ds d → has_id_within first end d ≡ true → is_from from d ≡ true
      each d there is = from_later from first d not_below (and_first (is_from first d) (is_within end (text d)) is)

  -- the walk goes on within it
  pub from_text : key_cmp first from ≡ Less → PassFrom passes from from end
  from_text less ds storable stored =
      ap (filter passes) (narrowed (has_id_within from end) (has_id_within first end) (is_from from) each same ds)
      ∙ within (rest_from from ds) (All-filter (is_from from) IsStorable ds storable) (All-filter (is_from from) IsStored ds stored)
    where
      not_below : not (is_lt (key_cmp from first)) ≡ true
      not_below = ap (λ (o : Ordering). not (is_lt o)) (nat_list_cmp_total.antisymm from first ∙ ap ordering_reverse less)

      each : (d : Pairs) → has_id_within from end d ≡ true → is_from from d ≡ true
      each d is = and_first (is_from from d) (is_within end (text d)) is

      same : (d : Pairs) → is_from from d ≡ true → has_id_within from end d ≡ has_id_within first end d
      same d is = ap (λ (b : Bool). b && is_within end (text d)) (is ∙ sym (from_later first from d not_below is))

-- ---- the first one that is left

passed : (p : Pairs → Bool) (ds front behind : List Pairs) (d : Pairs) → filter p ds ≡ front ++ d ∷ behind → p d ≡ true
passed p ds front behind d e = one front (subst (All (λ x. p x ≡ true)) e (filter_passes p ds))
  where
    one : (xs : List Pairs) → All (λ x. p x ≡ true) (xs ++ d ∷ behind) → p d ≡ true
    one [] h = All-head (λ x. p x ≡ true) d behind h
    one (x ∷ xs) h = one xs (All-tail (λ x. p x ≡ true) x (xs ++ d ∷ behind) h)

-- Of those that match from a text on, those from one of them on are those that match from its text on.
pub left_matching : (rules : Conditions) (from : List ℕ) (ds front behind : List Pairs) (d : Pairs) → All IsStorable ds → IsRising ds
    → matching rules (rest_from from ds) ≡ front ++ d ∷ behind → matching rules (rest_from (text d) ds) ≡ d ∷ behind
left_matching rules from ds front behind d all rising split =
    let found = matching rules (rest_from from ds) in
    let storable : All IsStorable (front ++ d ∷ behind) =
    subst (All IsStorable) split (All-filter (matches rules) IsStorable (rest_from from ds) (All-filter (is_from from) IsStorable ds all)) in
    let up : Rises by_key (front ++ d ∷ behind) =
    subst (Rises by_key) split
    (rises_filter (matches rules) by_key (rest_from from ds) (rises_filter (is_from from) by_key ds (rises_of by_key ds rising))) in
    let above : is_from from d ≡ true =
    passed (is_from from) (matching rules ds) front behind d (filter_twice (is_from from) (matches rules) ds ∙ split) in
    ap (matching rules) (sym (from_twice from (text d) above ds)) ∙ filter_twice (matches rules) (is_from (text d)) (rest_from from ds)
    ∙ ap (rest_from (text d)) split ∙ rest_from_one front behind d storable up

-- ---- what is given is within the limits

projected_within : (p : Projection) (d : Pairs) → IsWithin d → IsWithin (project p d)
projected_within p d h =
    let less = project_no_larger p d in
    record {
      size = omega (arith, frame_of-length (pairs_bytes (project p d)), frame_of-length (pairs_bytes d), less.0, h.size);
      depth = omega (arith, less.1, h.depth);
    }

pub one_within : (p : Projection) (d : Pairs) → IsWithin d → IsWithin (project p d)
one_within = projected_within

limited_within : (limit : ℕ) (ds : List Pairs) → All IsWithin ds → All IsWithin (limited limit ds)
limited_within zero ds h = h
limited_within (suc n) ds h = All-take IsWithin (suc n) ds h

pub window_within : (p : Projection) (skip limit : ℕ) (ds : List Pairs) → All IsWithin ds → All IsWithin (map (project p) (window skip limit ds))
window_within p skip limit ds h =
    let kept = window skip limit ds in
    let all : All IsWithin kept = limited_within limit (drop skip ds) (All-drop IsWithin skip ds h) in
    All-map IsWithin (project p) kept (λ k d below. projected_within p (get_or kept k d) (all k d below))

pub picked_within : (rules : Conditions) (p : Projection) (skip limit : ℕ) (ds : List Pairs) → All IsWithin ds → All IsWithin (picked rules p skip limit ds)
picked_within rules p skip limit ds h = window_within p skip limit (matching rules ds) (All-filter (matches rules) IsWithin ds h)

pub stored_within : (ds : List Pairs) → All IsStored ds → All IsWithin ds
stored_within ds h = λ k d below. record { size = (h k d below).size; depth = (h k d below).depth }

-- ---- from the beginning

pub from_beginning : (ds : List Pairs) → rest_from [] ds ≡ ds
from_beginning ds = all_pass (is_from []) ds (λ d there. not_below (text d))
  where
    not_below : (t : List ℕ) → not (is_lt (key_cmp t [])) ≡ true
    not_below [] = refl
    not_below (b ∷ t) = refl

-- a walk from the beginning gives what a query gives whose sort leaves them in their order
pub whole_walk : (q : Query) (ds : List Pairs) → order q.sort (matching q.filter ds) ≡ matching q.filter ds
    → walk_rest q.filter q.projection q.skip q.limit [] ds ≡ query_result q ds
whole_walk q ds plain =
    ap (picked q.filter q.projection q.skip q.limit) (from_beginning ds)
    ∙ ap (λ (es : List Pairs). map (project q.projection) (window q.skip q.limit es)) (sym plain)
