use Rattle.std.proofs.Common.{List, sym, subst}
use Rattle.bson.specs.View.{pairs_of}
use Rattle.bson.specs.Lawful.{IsPairs}
use Rattle.bson.specs.declared.value.Pair.{Pair}
use Rattle.bson.proofs.value.Document.count_edit_of_many.Goals as goal

pub counted-requires : goal.counted-requires
counted-requires c = subst (λ (ps : List Pair). IsPairs (pairs_of ps)) (sym c.deref.ensures.value) c.self.invariant.0.lawful.lawful
