use Rattle.std.proofs.Common.{◌≡◌, [], true, ℕ, List, Option, Some, Vec, Global, sym, subst}
use Rattle.std.specs.Prelude.{IfSome}
use Rattle.bson.specs.Tree.{Pairs}
use Rattle.filter.specs.Matches.{holds, matches, whole}
use Rattle.filter.specs.View.{condition_of}
use Rattle.filter.specs.declared.condition.Condition.{Condition}
use Rattle.index.specs.View.{texts_of}
use Rattle.asked_documents.specs.Asking.{IsAsked}
use Rattle.asked_documents.specs.ById.{ArePut, TellOf}
use Rattle.candidate_ids.proofs.AlternativesLemmas.{tell_narrow}
use Rattle.asked_documents.proofs.ReadingLemmas.{reads_none}
use Rattle.candidate_ids.proofs.alternatives.ids_of_branch.Goals as goal

pub returns-then-branch : goal.returns-then-branch
returns-then-branch g c =
    let p = λ (d : Pairs). holds (condition_of c.args.branch.now) (whole d) in
    let ids = c.put_ids.new.ids in
    reads_none g.D.Disk.history (IsAsked c.args.home.now) (λ now of (found : Option (Vec (Vec ℕ Global) Global)). IfSome found
    (λ ids. TellOf of p [] (texts_of ids.items))) c.args.file.now (Some ids) (sym c.if-is_stopped.ensures)
    (λ now state of asked. record {
      put = subst (λ (vs : List (Vec ℕ Global)). ArePut (texts_of vs) (texts_of ids.items)) c.new-ids.ensures.items c.in_ok-put_ids.ensures.put;
      tells = λ d has passes.
          c.in_ok-put_ids.ensures.tells c.if-branch.true d has.1 (subst (λ (r : Condition). holds (condition_of r) (whole d) ≡ true) c.in-All.is passes);
    })

pub returns : goal.returns
returns g c =
    tell_narrow g.D.Disk.history c.args.home.now (matches c.in-All.filter) (λ d. holds (condition_of c.args.branch.now) (whole d))
    (λ d passes. subst (λ (r : Condition). holds (condition_of r) (whole d) ≡ true) c.in-All.is passes)
    c.args.file.now c.ids_by_index.new.file c.ids_by_index.result (sym c.if-is_stopped.ensures) c.ids_by_index.ensures
