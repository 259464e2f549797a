use Rattle.std.specs.Prelude.{Ok, [], drop, option_map}
use Rattle.collections.specs.Lookups.{ReadsOf}
use Rattle.filter.specs.View.{conditions_of}
use Rattle.index.specs.View.{texts_of}
use Rattle.candidate_ids.specs.Alternatives.{one_holds}
use Rattle.asked_documents.specs.Asking.{IsAsked}
use Rattle.candidate_ids.proofs.TellingLemmas.{AreTold}
use Rattle.candidate_ids.proofs.alternatives.ids_of_all.Given as goal

-- what one of the conditions so far asks for is told
abbrev pub invariant-conditions : goal.invariant-conditions
invariant-conditions g l =
    let path = option_map (λ p. p.now) l.alternatives.path in
    let rs = l.alternatives.conditions.now in
    ReadsOf g.D.Disk.history (IsAsked l.home)
    (λ now c (_ : Unit {0}). AreTold c (one_holds path (conditions_of rs)) (one_holds path (conditions_of (drop l.condition-index rs))) []
    (texts_of l.ids.items))
    (Ok tt) l.fn.file l.file
