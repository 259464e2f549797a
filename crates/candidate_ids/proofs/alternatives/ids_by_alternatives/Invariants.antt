use Rattle.std.specs.Prelude.{Ok}
use Rattle.collections.specs.Lookups.{ReadsOf}
use Rattle.asked_documents.specs.Asking.{IsAsked}
use Rattle.candidate_ids.proofs.alternatives.ids_by_alternatives.Given as goal

-- the file was only read
abbrev pub invariant-conditions : goal.invariant-conditions
invariant-conditions g l = ReadsOf g.D.Disk.history (IsAsked l.home) (λ now c (_ : Unit {0}). Unit {0}) (Ok tt) l.fn.file l.file
