-- `explain`: how a find looks for its documents.
use Rattle.std.specs.Prelude.{ℕ, List, Option, Some, None, codes, Result, Ok}
use Rattle.bson.specs.Tree.{Pairs, no_pairs, pair}
use Rattle.path.specs.declared.refusal.Refusal.{Refusal}
use Rattle.command_model.specs.Find.{Query}
use Rattle.command_model.specs.Explain.{Explain}
use Rattle.entry_model.specs.State.{Collection, find_collection}
use Rattle.plan_model.specs.Plan.{Plan, scan, choose}
use Rattle.plan_model.specs.Explaining.{explain_text}
use Rattle.database_model.specs.Refusals.{words}
use Rattle.database_model.specs.World.{World}

-- the plan of a query over the collection that was found; a missing one is scanned
abbrev pub plan_in : Query → Option Collection → Plan
plan_in q None = scan
plan_in q (Some c) = choose q.filter q.sort c.indexes

-- the reply, with the text of a plan
abbrev pub explain_reply : List ℕ → Pairs
explain_reply text = pair (codes "plan") (words text) no_pairs

unfoldable pub run_explain : World → Explain → Result (World × Pairs) Refusal
run_explain world c =
    let found = find_collection world.collections c.namespace in
    Ok (world, explain_reply (explain_text (plan_in c.query found)))
