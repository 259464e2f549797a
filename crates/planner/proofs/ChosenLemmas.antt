-- A range that was chosen is one that the filter and the sort give in an index of the collection.
use Rattle.std.proofs.Common.{◌≡◌, inl, inr, List, ◌∷◌, Option, Some, None, sym, ap, subst, ◌∙◌, refl}
use Rattle.std.specs.Prelude.{Contains, unwrap_or}
use Rattle.filter.specs.Condition.{Conditions}
use Rattle.sort.specs.Sort.{SortField}
use Rattle.index.specs.Definition.{Definition}
use Rattle.entry_model.proofs.MemberLemmas.{Among, among_back, among_map, contains_of}
use Rattle.planner.specs.ChoiceLaws.{IsChosen, IsFirstBest, all_ranges}
use Rattle.plan_model.specs.Plan.{Range, by_index, choose, range_in}
use Rattle.planner.proofs.ChoiceLemmas.{chooses_first_best}

-- it is what the filter and the sort give in an index of the collection
pub record IsGivenIn (rs : Conditions) (sort : List SortField) (indexes : List Definition) (i : Definition) (r : Range) : Type 0 where
  pub there : Contains indexes i
  pub given : r ≡ range_in rs sort (Some i)

pub chosen_range : (rs : Conditions) (sort : List SortField) (indexes : List Definition) (r : Range) (i : Definition) → choose rs sort indexes ≡ by_index r
    → r.index ≡ Some i → IsGivenIn rs sort indexes i r
chosen_range rs sort indexes r i chose is =
    let best : IsFirstBest (all_ranges rs sort indexes) r = (subst (IsChosen (all_ranges rs sort indexes)) chose (chooses_first_best rs sort indexes)).0 in
    among (subst (Among r) (sym best.stands_there) (among_back r best.before (r ∷ best.behind) (inl refl)))
  where
    among : Among r (all_ranges rs sort indexes) → IsGivenIn rs sort indexes i r
    among (inl same) = let no : None ≡ Some i = sym (ap (λ (x : Range). x.index) same) ∙ is in absurd cc
    among (inr g) =
        let at = among_map (λ d. range_in rs sort (Some d)) r indexes g in
        let same : at.0 ≡ i = some_is (sym (ap (λ (x : Range). x.index) at.2) ∙ is) in
        record {
          there = contains_of indexes i (subst (λ (d : Definition). Among d indexes) same at.1);
          given = at.2 ∙ ap (λ (d : Definition). range_in rs sort (Some d)) same;
        }
      where
        some_is : {d : Definition} → Some d ≡ Some i → d ≡ i
        some_is {d} e = ap (λ (o : Option Definition). unwrap_or o d) e
