-- The range that one value of a list gives in an index whose first field has its path.
use Rattle.std.proofs.Common.{◌≡◌, ◌≤◌, ◌-◌, ℕ, suc, Bool, true, false, List, [], ◌∷◌, length, get_or, Option, Some, None, refl, sym, ap, ◌∙◌, arith}
use Rattle.std.specs.Prelude.{◌&&◌, not, drop, take}
use Rattle.std.proofs.lemmas.List.{take_all}
use Rattle.bson.specs.Tree.{Tree}
use Rattle.filter.specs.Condition.{Conditions}
use Rattle.sort.specs.Sort.{SortField}
use Rattle.index.specs.Definition.{Definition, Field}
use Rattle.plan_model.specs.Plan.{Range, and_then, asked_next, asked_of, leading, range_in, sorts_as, upper_beside}
use Rattle.plan_model.specs.Usable.{Bound, Usable, no_array, nothing}
use Rattle.candidate_ids.specs.Alternatives.{begins_with, equal_at, has_other_next, has_path}
use Rattle.planner.proofs.UsableLemmas.{and_first, and_second}

not_true : (b : Bool) → not b ≡ true → b ≡ false
not_true true e = absurd cc
not_true false e = refl

high_none : (multi : Bool) → upper_beside multi None None ≡ None
high_none true = refl
high_none false = refl

never_sorted : (b : Bool) → (b && false) ≡ false
never_sorted true = refl
never_sorted false = refl

-- the range of the keys that begin with a value
abbrev pub beginning_with : Definition → Tree → Range
beginning_with d t = record { index = Some d; equal = t ∷ []; low = None; high = None; is_sorted = false }

module _ (path : List (List ℕ)) (t : Tree) (plain : no_array t ≡ Some t) where
  abbrev rs : Conditions
  rs = equal_at path t

  asked_there : (f : Field) → has_path path f ≡ true → asked_of f rs ≡ record nothing { equal = Some t }
  asked_there f there = rw (there, plain) refl

  asked_elsewhere : (f : Field) → has_path path f ≡ false → asked_of f rs ≡ nothing
  asked_elsewhere f other = rw other refl

  leading_behind : (fs : List Field) → has_other_next path fs ≡ true → leading rs fs ≡ []
  leading_behind [] other = refl
  leading_behind (f ∷ fs) other =
      ap (λ (u : Usable). and_then u.equal (leading rs fs)) (asked_elsewhere f (not_true (has_path path f) other))

  asked_behind : (fs : List Field) → has_other_next path fs ≡ true → asked_next rs fs ≡ nothing
  asked_behind [] other = refl
  asked_behind (f ∷ fs) other = asked_elsewhere f (not_true (has_path path f) other)

  module _ (d : Definition) where
    abbrev range_of_fields : List Field → List Tree → Usable → Range
    range_of_fields fs equal next = record {
      index = Some d;
      equal = equal;
      low = next.low;
      high = upper_beside d.is_multi next.low next.high;
      is_sorted = not d.is_multi && sorts_as [] fs;
    }

    range_by_fields : (fs : List Field) → begins_with path fs ≡ true
        → beginning_with d t ≡ range_of_fields fs (leading rs fs) (asked_next rs (drop (length (leading rs fs)) fs))
    range_by_fields [] begins = absurd cc
    range_by_fields (f ∷ fs) begins =
        let there = and_first (has_path path f) (has_other_next path fs) begins in
        let other = and_second (has_path path f) (has_other_next path fs) begins in
        let one : leading rs (f ∷ fs) ≡ t ∷ [] =
        ap (λ (u : Usable). and_then u.equal (leading rs fs)) (asked_there f there) ∙ ap (λ (ts : List Tree). t ∷ ts) (leading_behind fs other) in
        let unsorted : beginning_with d t ≡ record (beginning_with d t) { is_sorted = not d.is_multi && false } =
        ap (λ (b : Bool). record (beginning_with d t) { is_sorted = b }) (sym (never_sorted (not d.is_multi))) in
        let endless : record (beginning_with d t) { is_sorted = not d.is_multi && false } ≡ range_of_fields (f ∷ fs) (t ∷ []) nothing =
        ap (λ (o : Option Bound). record (beginning_with d t) { high = o; is_sorted = not d.is_multi && false }) (sym (high_none d.is_multi)) in
        unsorted ∙ endless ∙ ap (range_of_fields (f ∷ fs) (t ∷ [])) (sym (asked_behind fs other))
        ∙ ap (λ (ts : List Tree). range_of_fields (f ∷ fs) ts (asked_next rs (drop (length ts) (f ∷ fs)))) (sym one)

    pub beginning_is_range : begins_with path d.fields ≡ true → beginning_with d t ≡ range_in rs [] (Some d)
    beginning_is_range begins = range_by_fields d.fields begins

-- ---- the fields of an index, one after the other

pub begins_by : (path : List (List ℕ)) (fs : List Field) (f : Field) → 1 ≤ length fs → f ≡ get_or fs 0 f
    → begins_with path fs ≡ (has_path path f && has_other_next path (take (length fs - 1) (drop 1 fs)))
begins_by path [] f some is = absurd (omega (arith, some))
begins_by path (g ∷ fs) f some is =
    ap (λ (h : Field). has_path path h && has_other_next path fs) (sym is)
    ∙ ap (λ (rest : List Field). has_path path f && has_other_next path rest) (sym (take_all (suc (length fs) - 1) fs (omega arith)))

pub other_by : (path : List (List ℕ)) (fs : List Field) (f : Field) → 1 ≤ length fs → f ≡ get_or fs 0 f → has_other_next path fs ≡ not (has_path path f)
other_by path [] f some is = absurd (omega (arith, some))
other_by path (g ∷ fs) f some is = ap (λ (h : Field). not (has_path path h)) (sym is)
