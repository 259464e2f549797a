-- Rows worked by hand: the plans of filters and sorts.
use Rattle.std.specs.Prelude.{◌≡◌, ℕ, negsuc, zero, Bool, true, false, Result, Ok, List, [], ◌∷◌}
use Rattle.std.specs.Prelude.{codes}
use Rattle.bson.specs.Tree.{Tree, scalar, int32, document, Pairs, no_pairs}
use Rattle.path.specs.declared.refusal.Refusal.{Refusal}
use Rattle.path.specs.Edits.{if_ok}
use Rattle.value_order.specs.declared.texts.Direction.TheVariants.{Ascending, Descending}
use Rattle.filter.specs.Parsing.{read_filter}
use Rattle.filter.specs.Rows.{number, nothing, one, two, single, asks, between}
use Rattle.sort.specs.SortReading.{read_sort}
use Rattle.index.specs.Definition.{Field, Definition}
use Rattle.plan_model.specs.Plan.{choose}
use Rattle.plan_model.specs.Explaining.{explain_text}

abbrev pub rising : List ℕ → Field
rising path = record { path = path; direction = Ascending }

abbrev pub falling : List ℕ → Field
falling path = record { path = path; direction = Descending }

abbrev pub index_on : ℕ → List ℕ → List Field → Bool → Definition
index_on n name fields multi =
    record { number = n; name = name; fields = fields; is_unique = false; is_multi = multi }

-- `{a: 1}`, `{a: 1, b: -1}`, `{b: 1}`, in the order of making
abbrev pub three : Bool → List Definition
three multi =
    index_on 1 (codes "a_1") (rising (codes "a") ∷ []) multi
    ∷ index_on 2 (codes "a_1_b_-1") (rising (codes "a") ∷ falling (codes "b") ∷ []) multi
    ∷ index_on 3 (codes "b_1") (rising (codes "b") ∷ []) multi
    ∷ []

abbrev pub explained : List Definition → Pairs → Pairs → Result (List ℕ) Refusal
explained indexes filter sort =
    if_ok (read_filter filter)
    (λ rs. if_ok (read_sort sort) (λ fields. Ok (explain_text (choose rs fields indexes))))

abbrev pub down : Tree
down = scalar (int32 (negsuc zero))

-- without an array in any document, and with one on each path
abbrev pub Explains : Pairs → Pairs → List ℕ → Type 0
Explains filter sort text = explained (three false) filter sort ≡ Ok text

abbrev pub ExplainsMulti : Pairs → Pairs → List ℕ → Type 0
ExplainsMulti filter sort text = explained (three true) filter sort ≡ Ok text

abbrev pub PlanRows : Type 0
PlanRows =
    Explains (one (codes "a") (number 5)) no_pairs (codes "INDEX a_1 eq=1 range=none sort=no")
    × Explains (two (codes "a") (number 5) (codes "b") (asks (codes "$gt") (number 2))) no_pairs
    (codes "INDEX a_1_b_-1 eq=1 range=low sort=no")
    × Explains (one (codes "a") (number 5)) (two (codes "a") (number 1) (codes "b") down)
    (codes "INDEX a_1_b_-1 eq=1 range=none sort=yes")
    × Explains (one (codes "b") between) no_pairs (codes "INDEX b_1 eq=0 range=both sort=no")
    × Explains no_pairs (one (codes "b") (number 1)) (codes "INDEX b_1 eq=0 range=none sort=yes")
    × Explains (two (codes "_id") (number 7) (codes "a") (number 5)) no_pairs
    (codes "INDEX _id_ eq=1 range=none sort=no")
    × Explains (one (codes "a") (single (number 1))) no_pairs (codes "SCAN")
    × Explains (one (codes "a") (asks (codes "$in") (single (number 1)))) no_pairs (codes "SCAN")
    × Explains no_pairs no_pairs (codes "SCAN")

-- null is a value as any other, an operand that is an array is passed over, and so is what stands
-- below `$and`; a sort is served by its exact paths and directions alone
abbrev pub EdgeRows : Type 0
EdgeRows =
    Explains (one (codes "a") nothing) no_pairs (codes "INDEX a_1 eq=1 range=none sort=no")
    × Explains (one (codes "a")
    (document (two (codes "$gt") (single (number 1)) (codes "$lt") (number 5)))) no_pairs
    (codes "INDEX a_1 eq=0 range=high sort=no")
    × Explains (one (codes "$and") (single (document (one (codes "a") (number 5))))) no_pairs
    (codes "SCAN")
    × Explains no_pairs (one (codes "_id") (number 1)) (codes "INDEX _id_ eq=0 range=none sort=yes")
    × Explains no_pairs (one (codes "_id") down) (codes "SCAN")
    × Explains no_pairs (one (codes "a") down) (codes "SCAN")
    × Explains no_pairs (two (codes "a") down (codes "b") (number 1)) (codes "SCAN")
    × Explains (one (codes "a.b") (number 5)) no_pairs (codes "SCAN")
    × Explains (two (codes "b") (number 5) (codes "a") (number 5)) no_pairs
    (codes "INDEX a_1_b_-1 eq=2 range=none sort=no")

-- of a multikey index one end is taken, the lower one if there is one, and its order is none
abbrev pub MultiRows : Type 0
MultiRows =
    ExplainsMulti (one (codes "a") between) no_pairs (codes "INDEX a_1 eq=0 range=low sort=no")
    × ExplainsMulti (one (codes "a") (asks (codes "$lte") (number 5))) no_pairs
    (codes "INDEX a_1 eq=0 range=high sort=no")
    × ExplainsMulti no_pairs (one (codes "b") (number 1)) (codes "SCAN")
    × ExplainsMulti (one (codes "_id") between) no_pairs
    (codes "INDEX _id_ eq=0 range=both sort=no")
    × (explained [] (one (codes "a") between) no_pairs ≡ Ok (codes "SCAN"))
