use Rattle.std.proofs.Common.{◌≡◌, map, [], ◌∷◌, vec_len}
use Rattle.index.specs.View.{texts_of}
use Rattle.index.specs.Steps.{combined}
use Rattle.index.proofs.keys.combined.Given as goal

abbrev pub decreases-all : goal.decreases-all
decreases-all l = vec_len l.all

abbrev pub invariant-all : goal.invariant-all
invariant-all l =
    combined (map (λ texts. texts_of texts.items) l.all.items) (texts_of l.keys.items)
    ≡ combined (map (λ texts. texts_of texts.items) l.fn.all.items) ([] ∷ [])
