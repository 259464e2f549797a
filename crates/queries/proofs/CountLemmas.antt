-- Documents that are counted as they come.
use Rattle.std.proofs.Common.{◌≡◌, ℕ, min, ◌+◌, ◌-◌, ◌^◌, ◌≤◌, true, false, List, [], ◌∷◌, ◌++◌, length, Option, refl, sym, ap, ◌∙◌}
use Rattle.std.proofs.Common.{append-nil, arith, length-append}
use Rattle.std.specs.List.{filter}
use Rattle.std.proofs.lemmas.List.Elements.{filter-append}
use Rattle.bson.specs.Tree.{Pairs}
use Rattle.filter.specs.Condition.{Conditions}
use Rattle.filter.specs.Matches.{matches}
use Rattle.database_model.specs.Find.{matching}
use Rattle.planner.specs.IdLaws.{with_found}
use Rattle.queries.specs.Folding.{Counts}
use Rattle.queries.specs.declared.counting.Counting.{Counting}
use Rattle.walks.proofs.LookingUpLemmas.{found_first}
use Rattle.walks.proofs.FilterLemmas.{filter_fewer}

-- ---- documents that are lent

module _ (start now : Counting) (all : List Pairs) (d : Pairs) where
  pub one_counted : (next : Counting) → next.filter.now ≡ now.filter.now → next.count ≡ min (now.count + 1) (2 ^ 64 - 1)
      → matches now.filter.now d ≡ true → Counts start all now → Counts start (all ++ d ∷ []) next
  one_counted next same more is h =
      let rules = start.filter.now in
      let passes : matches rules d ≡ true = ap (λ rs. matches rs d) (sym h.filter) ∙ is in
      let one : matching rules (d ∷ []) ≡ d ∷ [] = rw passes refl in
      let parts : length (matching rules (all ++ d ∷ [])) ≡ length (matching rules all) + 1 =
      ap length (filter-append (matches rules) all (d ∷ [])) ∙ length-append (matching rules all) (matching rules (d ∷ []))
      ∙ ap (λ (ds : List Pairs). length (matching rules all) + length ds) one in
      record { filter = same ∙ h.filter; count = omega (arith, more, h.count, parts) }

  pub none_counted : matches now.filter.now d ≡ false → Counts start all now → Counts start (all ++ d ∷ []) now
  none_counted is h =
      let rules = start.filter.now in
      let over : matches rules d ≡ false = ap (λ rs. matches rs d) (sym h.filter) ∙ is in
      let none : matching rules (d ∷ []) ≡ [] = rw over refl in
      let same : matching rules (all ++ d ∷ []) ≡ matching rules all =
      filter-append (matches rules) all (d ∷ []) ∙ ap (λ (ds : List Pairs). matching rules all ++ ds) none ∙ append-nil (matching rules all) in
      record { filter = h.filter; count = h.count ∙ ap (λ (ds : List Pairs). min (start.count + length ds) (2 ^ 64 - 1)) (sym same) }

-- all of them were counted
pub all_counted : (start now : Counting) (all : List Pairs) → start.count ≡ 0 → length all ≤ 4294967295 → Counts start all now
    → now.count ≡ length (matching start.filter.now all)
all_counted start now all none few h = omega (arith, none, few, h.count, filter_fewer (matches start.filter.now) all)

-- ---- documents that are looked up

-- so many were counted, and those that are left make up all that match
abbrev pub AreCountedOf : Conditions → ℕ → List Pairs → List Pairs → Type 0
AreCountedOf rules count all left = count + length (matching rules left) ≡ length (matching rules all)

module _ (rules : Conditions) where
  pub none_counted_of : (all found : List Pairs) → filter (matches rules) found ≡ filter (matches rules) all → AreCountedOf rules 0 all found
  none_counted_of all found same = omega (arith, ap length same)

  pub one_counted_of : (count more next : ℕ) → next ≡ count + more → (all left : List Pairs) (o : Option Pairs)
      → more ≡ length (matching rules (with_found o [])) → AreCountedOf rules count all (with_found o left) → AreCountedOf rules next all left
  one_counted_of count more next sum all left o is so =
      let parts : length (matching rules (with_found o left)) ≡ length (matching rules (with_found o [])) + length (matching rules left) =
      ap length (found_first (matches rules) o left) ∙ length-append (matching rules (with_found o [])) (matching rules left) in
      omega (arith, sum, is, parts, so)

  pub all_counted_of : (count : ℕ) (all : List Pairs) → AreCountedOf rules count all [] → count ≡ length (matching rules all)
  all_counted_of count all so = omega (arith, so)
