-- The text of a plan is short where the names of indexes are.
use Rattle.std.proofs.Common.{◌≡◌, ℕ, suc, ◌≤◌, Bool, true, false, List, [], ◌∷◌, ◌++◌, length, map}
use Rattle.std.proofs.Common.{Option, Some, None, Result, Ok, Err, ap, arith, lit≤, length-append}
use Rattle.std.specs.Prelude.{if◌then◌else◌, nat_lt, ◌==◌, codes, decimal, IfOk}
use Rattle.std.specs.List.{AllByRecursion}
use Rattle.std.proofs.lemmas.Fmt.{length-decimal-le}
use Rattle.bson.specs.Tree.{Tree}
use Rattle.filter.specs.Condition.{Conditions}
use Rattle.sort.specs.Sort.{SortField}
use Rattle.index.specs.Definition.{Field, Definition}
use Rattle.plan_model.specs.Usable.{Bound}
use Rattle.plan_model.specs.Plan.{Range, scan, by_index, fields_of, asked_of, and_then, leading}
use Rattle.plan_model.specs.Plan.{range_in, rank, best, plan_of, choose}
use Rattle.plan_model.specs.Explaining.{index_name, range_word, sort_word, in_words, range_text}
use Rattle.plan_model.specs.Explaining.{explain_text}

-- ---- one range

pub range_word_short : (low high : Option Bound) → length (range_word low high) ≤ 4
range_word_short None None = lit≤ tt
range_word_short (Some low) None = lit≤ tt
range_word_short None (Some high) = lit≤ tt
range_word_short (Some low) (Some high) = lit≤ tt

pub sort_word_short : (sorted : Bool) → length (sort_word sorted) ≤ 3
sort_word_short true = lit≤ tt
sort_word_short false = lit≤ tt

pub in_words_short : (name : List ℕ) (equals : ℕ) (ends sorted : List ℕ) → length name ≤ 127
    → equals ≤ 4 → length ends ≤ 4 → length sorted ≤ 3
    → length (in_words name equals ends sorted) ≤ 200
in_words_short name equals ends sorted short few end_short sort_short =
    let last = codes " sort=" ++ sorted in
    let range = codes " range=" ++ (ends ++ last) in
    let leading = codes " eq=" ++ (decimal equals ++ range) in
    let digit : length (decimal equals) ≤ 1 =
    length-decimal-le 1 equals (omega arith) (omega (arith, few)) (omega (arith, few)) in
    omega (
      arith,
      short,
      end_short,
      sort_short,
      digit,
      length-append name leading,
      length-append (decimal equals) range,
      length-append ends last,
    )

range_text_short : (r : Range) → length (index_name r.index) ≤ 127 → length r.equal ≤ 4
    → length (range_text r) ≤ 200
range_text_short r short few =
    in_words_short (index_name r.index) (length r.equal) (range_word r.low r.high)
    (sort_word r.is_sorted) short few (range_word_short r.low r.high) (sort_word_short r.is_sorted)

-- so is what was made of it, where it was made
pub made_short : {X E : Type 0} (bytes : X → List ℕ) (r : Result X E) (text : List ℕ)
    → length text ≤ 200 → IfOk r (λ x. bytes x ≡ text) → IfOk r (λ x. length (bytes x) ≤ 200)
made_short bytes (Ok x) text short same = omega (arith, short, ap length same)
made_short bytes (Err e) text short same = tt

-- ---- the choice

abbrev IsShortRange : Range → Type 0
IsShortRange r = (length (index_name r.index) ≤ 127) × (length r.equal ≤ 4)

leading_few : (rs : Conditions) (fs : List Field) → length (leading rs fs) ≤ length fs
leading_few rs [] = omega arith
leading_few rs (f ∷ fs) = at (asked_of f rs).equal (leading_few rs fs)
  where
    at : (o : Option Tree) → length (leading rs fs) ≤ length fs
        → length (and_then o (leading rs fs)) ≤ suc (length fs)
    at None fewer = omega arith
    at (Some t) fewer = omega (arith, fewer)

range_short : (rs : Conditions) (sort : List SortField) (index : Option Definition)
    → length (index_name index) ≤ 127 → length (fields_of index) ≤ 4
    → IsShortRange (range_in rs sort index)
range_short rs sort index short few = (short, omega (arith, few, leading_few rs (fields_of index)))

best_short : (r : Range) (ss : List Range) → IsShortRange r → AllByRecursion IsShortRange ss
    → IsShortRange (best r ss)
best_short r [] h hs = h
best_short r (s ∷ ss) h hs =
    best_short (if nat_lt (rank r) (rank s) then s else r) ss (at (nat_lt (rank r) (rank s))) hs.1
  where
    at : (b : Bool) → IsShortRange (if b then s else r)
    at true = hs.0
    at false = h

plan_short : (r : Range) → IsShortRange r → length (explain_text (plan_of r)) ≤ 200
plan_short r h = at (rank r == 0)
  where
    at : (b : Bool) → length (explain_text (if b then scan else by_index r)) ≤ 200
    at true = lit≤ tt
    at false = range_text_short r h.0 h.1

module _ (rs : Conditions) (sort : List SortField) where
  ranges_short : (indexes : List Definition)
      → AllByRecursion (λ d. (length d.name ≤ 127) × (length d.fields ≤ 4)) indexes
      → AllByRecursion IsShortRange (map (λ d. range_in rs sort (Some d)) indexes)
  ranges_short [] h = tt
  ranges_short (d ∷ ds) h = (range_short rs sort (Some d) h.0.0 h.0.1, ranges_short ds h.1)

  pub explain_short : (indexes : List Definition)
      → AllByRecursion (λ d. (length d.name ≤ 127) × (length d.fields ≤ 4)) indexes
      → length (explain_text (choose rs sort indexes)) ≤ 200
  explain_short indexes h =
      plan_short (best (range_in rs sort None) (map (λ d. range_in rs sort (Some d)) indexes))
      (best_short (range_in rs sort None) (map (λ d. range_in rs sort (Some d)) indexes)
      (range_short rs sort None (lit≤ tt) (lit≤ tt)) (ranges_short indexes h))
