-- The text of a plan, as `explain` answers it.
use Rattle.std.specs.Prelude.{ℕ, Bool, if◌then◌else◌, Option, Some, None, List, ◌++◌, length, codes}
use Rattle.std.specs.Prelude.{decimal}
use Rattle.index.specs.Definition.{Definition}
use Rattle.plan_model.specs.Usable.{Bound}
use Rattle.plan_model.specs.Plan.{Range, Plan, scan, by_index}

abbrev pub index_name : Option Definition → List ℕ
index_name None = codes "_id_"
index_name (Some d) = d.name

abbrev pub range_word : Option Bound → Option Bound → List ℕ
range_word None None = codes "none"
range_word (Some low) None = codes "low"
range_word None (Some high) = codes "high"
range_word (Some low) (Some high) = codes "both"

abbrev pub sort_word : Bool → List ℕ
sort_word is_sorted = if is_sorted then codes "yes" else codes "no"

abbrev pub in_words : List ℕ → ℕ → List ℕ → List ℕ → List ℕ
in_words name equals ends sorted =
    codes "INDEX " ++ (name ++ (codes " eq=" ++ (decimal equals
    ++ (codes " range=" ++ (ends ++ (codes " sort=" ++ sorted))))))

abbrev pub range_text : Range → List ℕ
range_text r =
    in_words (index_name r.index) (length r.equal) (range_word r.low r.high) (sort_word r.is_sorted)

abbrev pub explain_text : Plan → List ℕ
explain_text scan = codes "SCAN"
explain_text (by_index r) = range_text r
