use Rattle.std.proofs.Common.{◌≡◌, ◌∙◌, sym, ap, List, map, take, subst}
use Rattle.std.proofs.lemmas.List.{take-map}
use Rattle.bson.specs.Tree.{Pairs}
use Rattle.aggregate_model.specs.Taking.{IsEnough}
use Rattle.pipelines.specs.View.{pipeline_of}
use Rattle.sort.specs.Sort.{order}
use Rattle.aggregate.proofs.taking.still_needed.Goals as goal

pub returns : goal.returns
returns g c =
    let first = c.in-Some.first in
    let these : List Pairs = map (λ d. g.T.AsDocument.document d.now) c.args.these.items in
    let few : List Pairs = map (λ d. g.T.AsDocument.document d.now) c.truncate.new.self.items in
    let same : take first.most (order first.sort.now these) ≡ few =
    ap (take first.most) (sym c.in_ok-ordered.ensures) ∙ take-map (λ d. g.T.AsDocument.document d.now) first.most c.in_ok-ordered.ordered.items
    ∙ ap (map (λ d. g.T.AsDocument.document d.now)) (sym c.truncate.ensures.items) in
    λ seen h. subst (λ (ds : List Pairs). IsEnough (pipeline_of c.args.pipeline.now) ds seen) same (c.in-Some.ensures these seen h)
