-- `$match` keeps the documents for which a filter holds (MongoDB manual, "$match").
use Rattle.std.specs.Prelude.{List}
use Rattle.std.specs.List.{filter}
use Rattle.bson.specs.Tree.{Pairs}
use Rattle.filter.specs.Condition.{Conditions}
use Rattle.filter.specs.Matches.{matches}

abbrev pub matching : Conditions → List Pairs → List Pairs
matching rules documents = filter (matches rules) documents
