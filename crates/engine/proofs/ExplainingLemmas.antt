-- What an `explain` answers.
use Rattle.std.proofs.Common.{◌≡◌, ℕ, ◌≤◌, List, [], ◌∷◌, length, Option, Some, None, Result, Ok, refl, sym, ap, ◌∙◌, lit≤}
use Rattle.std.specs.List.{AllByRecursion}
use Rattle.bson.specs.Tree.{Pairs}
use Rattle.page.specs.History.{History}
use Rattle.path.specs.declared.refusal.Refusal.{Refusal}
use Rattle.command_model.specs.Explain.{Explain}
use Rattle.command_model.specs.Find.{Query}
use Rattle.index.specs.Definition.{Definition}
use Rattle.entry_model.specs.State.{Collection, find_collection}
use Rattle.entries.specs.declared.catalogue_reading.Catalogued.{Catalogued}
use Rattle.plan_model.specs.Plan.{Plan, scan, choose}
use Rattle.plan_model.specs.Explaining.{explain_text}
use Rattle.planner.specs.ExplainingLaws.{explain_short}
use Rattle.database_model.specs.Explain.{explain_reply, plan_in, run_explain}
use Rattle.database_model.specs.Lawful.{IsShortIndex}
use Rattle.database_model.specs.Refusals.{ok_reply}
use Rattle.database_model.specs.World.{World, indexes_or_none}
use Rattle.engine.specs.Looking.{Looks}
use Rattle.engine.specs.Performing.{RunsReadingCommand}
use Rattle.engine.specs.View.{world}
use Rattle.engine.specs.declared.engine.Engine.{Engine}
use Rattle.engine.proofs.CataloguedLemmas.{IsCatalogueOf, has_home, not_catalogued}
use Rattle.engine.proofs.LookingLemmas.{performs_read, world_same}
use Rattle.replies.specs.View.{with_ok}

-- ---- sizes

each_brief : (is : List Definition) → AllByRecursion IsShortIndex is → AllByRecursion (λ d. (length d.name ≤ 127) × (length d.fields ≤ 4)) is
each_brief [] h = tt
each_brief (i ∷ is) h = ((h.0.short, h.0.few), each_brief is h.1)

-- the text of a plan over a collection within its limits
pub plan_short : (q : Query) (o : Option Collection) → AllByRecursion IsShortIndex (indexes_or_none o) → length (explain_text (plan_in q o)) ≤ 200
plan_short q None h = lit≤ tt
plan_short q (Some c) h = explain_short q.filter q.sort c.indexes (each_brief c.indexes h)

-- ---- the command

module _ (w : World) (name : List ℕ) (q : Query) where
  abbrev asked : Explain
  asked = record { namespace = name; query = q }

  abbrev said : Plan → Result (World × Pairs) Refusal
  said plan = Ok (w, explain_reply (explain_text plan))

  run_explain-is : (o : Option Collection) → find_collection w.collections name ≡ o → run_explain w asked ≡ said (plan_in q o)
  unfolding run_explain
  run_explain-is o e = ap (λ (found : Option Collection). said (plan_in q found)) e

module _ {D : Type 0} (history : D → History) (name : List ℕ) (q : Query) (old mid : Engine D) where
  abbrev run : Result (World × Pairs) Refusal
  run = run_explain (world old) (record { namespace = name; query = q })

  -- this plan was said, and it is that of the collection of the name
  explains : (plan : Plan) (o : Option Collection) → plan ≡ plan_in q o → find_collection (world old).collections name ≡ o → world mid ≡ world old
      → (d : Pairs) → d ≡ ok_reply (explain_reply (explain_text plan)) → with_ok run ≡ Ok (world mid, d)
  explains plan o same found unchanged d said_so =
      let is : ok_reply (explain_reply (explain_text (plan_in q o))) ≡ d =
      ap (λ (p : Plan). ok_reply (explain_reply (explain_text p))) (sym same) ∙ sym said_so in
      ap with_ok (run_explain-is (world old) name q o found) ∙ (λ i. let r : Result (World × Pairs) Refusal = Ok (sym unchanged i, is i) in r)

  -- the collection is missing
  pub explain_missing : Looks history (IsCatalogueOf name) (Ok None) old mid → (d : Pairs) → d ≡ ok_reply (explain_reply (explain_text scan))
      → RunsReadingCommand history run (Ok d) old mid
  explain_missing first d said_so =
      performs_read history old mid run (Ok d) first.reads
      (λ k. explains scan None refl (not_catalogued (world old).collections name (first.answers k)) (world_same history old mid first.reads) d said_so)

  -- it is there, and these are its indexes
  pub explain_done : (home : Catalogued) → Looks history (IsCatalogueOf name) (Ok (Some home)) old mid → (plan : Plan)
      → plan ≡ choose q.filter q.sort home.indexes.items → (d : Pairs) → d ≡ ok_reply (explain_reply (explain_text plan))
      → RunsReadingCommand history run (Ok d) old mid
  explain_done home first plan chosen d said_so =
      performs_read history old mid run (Ok d) first.reads (λ k.
      let t = has_home (world old).collections name home (first.answers k) in
      explains plan (Some t.collection) (chosen ∙ ap (λ (is : List Definition). choose q.filter q.sort is) (sym t.catalogued.indexed)) t.found
      (world_same history old mid first.reads) d said_so)
