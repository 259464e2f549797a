-- What drivers are told of a plan (MongoDB manual, explain results): the text of the database as
-- the stage that wins.
use Rattle.std.specs.Prelude.{codes, Option, Some}
use Rattle.bson.specs.Tree.{Tree, scalar, document, text, Pairs, no_pairs, pair}
use Rattle.driver_replies.specs.Fields.{ok}

abbrev pub explained : Option Tree → Pairs → Pairs
explained (Some (scalar (text s))) reply =
    let stage = pair (codes "stage") (scalar (text s)) no_pairs in
    let planner = pair (codes "winningPlan") (document stage) no_pairs in
    pair (codes "queryPlanner") (document planner) ok
explained other reply = reply
