-- Rows worked by hand: what projections leave, and what is refused.
use Rattle.std.specs.Prelude.{◌≡◌, true, Result, Ok, Err, codes}
use Rattle.bson.specs.Tree.{scalar, boolean, document, array, Pairs, no_pairs, pair, no_items, item}
use Rattle.path.specs.declared.refusal.Refusal.{Refusal}
use Rattle.path.specs.declared.refusal.Refusal.TheVariants as refusals
use Rattle.path.specs.Edits.{if_ok}
use Rattle.filter.specs.Rows.{number, nothing, one, two, single, double}
use Rattle.projection.specs.Projection.{project}
use Rattle.projection.specs.ProjectionReading.{read_projection}

-- {_id: 1, a: [{b: 1, c: 2}, 3, [{b: 4}]], d: 5}
abbrev pub nested : Pairs
nested =
    pair (codes "_id") (number 1)
    (two (codes "a")
    (array (item (document (two (codes "b") (number 1) (codes "c") (number 2)))
    (item (number 3) (item (single (document (one (codes "b") (number 4)))) no_items))))
    (codes "d") (number 5))

abbrev pub leaves : Pairs → Result Pairs Refusal
leaves projection = if_ok (read_projection projection) (λ p. Ok (project p nested))

abbrev pub ProjectionRows : Type 0
ProjectionRows =
    (leaves (one (codes "a.b") (number 1))
    ≡ Ok (two (codes "_id") (number 1) (codes "a")
    (double (document (one (codes "b") (number 1)))
    (single (document (one (codes "b") (number 4)))))))
    × (leaves (one (codes "a.b") (number 0))
    ≡ Ok (pair (codes "_id") (number 1)
    (two (codes "a")
    (array (item (document (one (codes "c") (number 2)))
    (item (number 3) (item (single (document no_pairs)) no_items)))) (codes "d") (number 5))))
    × (leaves no_pairs ≡ Ok nested)
    × (leaves (two (codes "d") (scalar (boolean true)) (codes "_id") (number 0))
    ≡ Ok (one (codes "d") (number 5)))
    × (leaves (one (codes "_id") (number 1)) ≡ Ok (one (codes "_id") (number 1)))
    × (leaves (two (codes "a") (number 0) (codes "_id") (number 0))
    ≡ Ok (one (codes "d") (number 5)))
    × (leaves (two (codes "a") (number 1) (codes "d") (number 0)) ≡ Err refusals.BadValue)
    × (leaves (two (codes "a") (number 1) (codes "a.b") (number 1)) ≡ Err refusals.BadValue)
    × (leaves (one (codes "a") nothing) ≡ Err refusals.TypeMismatch)
