use Rattle.std.proofs.Common.{List, Vec, Global, [], ◌∷◌, ◌++◌, sym, subst}
use Rattle.bson.specs.Tree.{Pairs}
use Rattle.aggregate_model.specs.Taking.{IsEnough}
use Rattle.aggregate_model.specs.EnoughLaws.{one_more_is_enough}
use Rattle.pipelines.specs.View.{pipeline_of}
use Rattle.queries.proofs.needed.with_one_more.Goals as goal
use Rattle.queries.proofs.needed.with_one_more.Goals.{then-len-room+in_ok-these, else-len-room}

pub returns : goal.returns
returns c = λ seen h taken.
    let stages = pipeline_of c.args.pipeline.now in
    let these : List Pairs = c.if-len-room.these.items in
    let held : IsEnough stages these seen =
    elim c.if-len-room.branch [
      | then-len-room+in_ok-these w ↦ subst (λ (v : Vec Pairs Global). IsEnough stages v.items seen) (sym w.these-is) (w.in_ok-these.ensures seen h)
      | else-len-room w ↦ subst (λ (v : Vec Pairs Global). IsEnough stages v.items seen) (sym w.these-is) h
    ] in
    subst (λ (ds : List Pairs). IsEnough stages ds (seen ++ c.args.document ∷ [])) (sym c.in_ok-push.ensures.items)
    (one_more_is_enough stages these seen c.args.document taken held)
