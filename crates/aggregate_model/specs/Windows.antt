-- `$skip` leaves out the first documents, `$limit` those behind the first ones (MongoDB manual,
-- "$skip", "$limit").
use Rattle.std.specs.Prelude.{ℕ, List, take, drop}
use Rattle.bson.specs.Tree.{Pairs}

abbrev pub skipped : ℕ → List Pairs → List Pairs
skipped n documents = drop n documents

abbrev pub limited : ℕ → List Pairs → List Pairs
limited n documents = take n documents
