use Rattle.std.proofs.Common.{◌≡◌, drop, map, []}
use Rattle.index.specs.View.{texts_of}
use Rattle.index.specs.Steps.{texts_within}
use Rattle.index.proofs.texts.texts_within.Given as goal

abbrev pub invariant-fields : goal.invariant-fields
invariant-fields l =
    texts_within l.room (map (λ texts. texts_of texts.items) l.all.items) (drop l.field-index l.fields) l.source
    ≡ texts_within 500 [] l.fields l.source
