-- Rows worked by hand: what filters hold of, and what is refused. The rows of crates above take
-- their documents from here.
use Rattle.std.specs.Prelude.{◌≡◌, ℕ, pos, Bool, true, false, List, [], ◌∷◌, map}
use Rattle.std.specs.Prelude.{codes, Result, Ok, Err}
use Rattle.bson.specs.Tree.{Tree, scalar, boolean, null, int32}
use Rattle.bson.specs.Tree.{document, array, Pairs, no_pairs}
use Rattle.bson.specs.Tree.{pair, no_items, item}
use Rattle.path.specs.declared.refusal.Refusal.{Refusal}
use Rattle.path.specs.declared.refusal.Refusal.TheVariants as refusals
use Rattle.path.specs.Edits.{if_ok}
use Rattle.filter.specs.Matches.{matches}
use Rattle.filter.specs.Parsing.{read_filter}

abbrev pub number : ℕ → Tree
number n = scalar (int32 (pos n))

abbrev pub nothing : Tree
nothing = scalar null

-- the document with this one field, or these two
abbrev pub one : List ℕ → Tree → Pairs
one name t = pair name t no_pairs

abbrev pub two : List ℕ → Tree → List ℕ → Tree → Pairs
two name t other u = pair name t (one other u)

abbrev pub single : Tree → Tree
single t = array (item t no_items)

abbrev pub double : Tree → Tree → Tree
double t u = array (item t (item u no_items))

-- no field `a`, null, an empty array, an array of null, of 1, and 5
abbrev pub six : List Pairs
six = no_pairs ∷ one (codes "a") nothing ∷ one (codes "a") (array no_items)
    ∷ one (codes "a") (single nothing) ∷ one (codes "a") (single (number 1))
    ∷ one (codes "a") (number 5) ∷ []

abbrev pub answers : Pairs → Result (List Bool) Refusal
answers filter = if_ok (read_filter filter) (λ conditions. Ok (map (matches conditions) six))

abbrev pub answer : Pairs → Pairs → Result Bool Refusal
answer filter ps = if_ok (read_filter filter) (λ conditions. Ok (matches conditions ps))

abbrev pub asks : List ℕ → Tree → Tree
asks operator t = document (one operator t)

abbrev pub between : Tree
between = document (two (codes "$gt") (number 1) (codes "$lt") (number 5))

abbrev pub MatchRows : Type 0
MatchRows =
    (answers (one (codes "a") nothing) ≡ Ok (true ∷ true ∷ false ∷ true ∷ false ∷ false ∷ []))
    × (answers (one (codes "a.b") nothing) ≡ Ok (true ∷ true ∷ false ∷ false ∷ false ∷ true ∷ []))
    × (answers (one (codes "a") (asks (codes "$exists") (scalar (boolean false))))
    ≡ Ok (true ∷ false ∷ false ∷ false ∷ false ∷ false ∷ []))
    × (answers (one (codes "a") (asks (codes "$ne") nothing))
    ≡ Ok (false ∷ false ∷ true ∷ false ∷ true ∷ true ∷ []))
    × (answers (one (codes "a.b") (asks (codes "$ne") nothing))
    ≡ Ok (false ∷ false ∷ true ∷ true ∷ true ∷ false ∷ []))
    × (answer (one (codes "a") between) (one (codes "a") (double (number 0) (number 9))) ≡ Ok true)
    × (answer (one (codes "a") (asks (codes "$elemMatch") between))
    (one (codes "a") (double (number 0) (number 9))) ≡ Ok false)

abbrev pub refused : Pairs → Refusal → Type 0
refused filter e = read_filter filter ≡ Err e

abbrev pub RefusalRows : Type 0
RefusalRows =
    refused (one (codes "$foo") (number 1)) refusals.DollarPrefixedFieldName
    × refused (one (codes "a") (asks (codes "$foo") (number 1))) refusals.BadValue
    × refused (one (codes "a") (document (two (codes "$gt") (number 1) (codes "b") (number 2))))
    refusals.BadValue
    × refused (one (codes "a") (asks (codes "$gt") nothing)) refusals.BadValue
    × refused (one (codes "$and") (array no_items)) refusals.BadValue
    × refused (one (codes "a..b") (number 1)) refusals.EmptyFieldName
    × refused (one (codes "a") (asks (codes "$exists") (number 1))) refusals.TypeMismatch
