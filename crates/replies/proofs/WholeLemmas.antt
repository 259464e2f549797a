-- Documents of which all is given.
use Rattle.std.proofs.Common.{◌≡◌, false, List, [], ◌∷◌, map, refl, ap, ◌∙◌}
use Rattle.bson.specs.Tree.{Pairs}
use Rattle.projection.specs.Projection.{Projection, project}
use Rattle.projection.specs.ProjectionLaws.{all_stays}
use Rattle.replies.specs.View.{projected}

-- a projection that leaves all leaves the documents
pub all_stay : (p : Projection) (ds : List Pairs) → p ≡ (false, []) → projected p ds ≡ ds
all_stay p ds e = ap (λ (q : Projection). projected q ds) e ∙ each ds
  where
    each : (es : List Pairs) → map (project (false, [])) es ≡ es
    each [] = refl
    each (d ∷ es) = λ i. all_stays d i ∷ each es i
