use Rattle.std.proofs.Common.{ℕ, [], List, Option, Vec, Global, Bor, sym, subst}
use Rattle.std.specs.Prelude.{IfSome, option_map}
use Rattle.collections.specs.Lookups.{ReadsOf}
use Rattle.filter.specs.Matches.{holds}
use Rattle.filter.specs.View.{condition_of}
use Rattle.index.specs.View.{texts_of}
use Rattle.candidate_ids.specs.Alternatives.{subject_at}
use Rattle.asked_documents.specs.Asking.{IsAsked}
use Rattle.asked_documents.specs.ById.{TellOf}
use Rattle.candidate_ids.proofs.alternatives.ids_of_one.Goals as goal

pub returns-in-Some : goal.returns-in-Some
returns-in-Some g c =
    let r = condition_of c.args.condition.now in
    subst (λ (o : Option (Bor (List (List ℕ)))). ReadsOf g.D.Disk.history (IsAsked c.args.home.now)
    (λ now of (found : Option (Vec (Vec ℕ Global) Global)). IfSome found
    (λ ids. TellOf of (λ d. holds r (subject_at (option_map (λ p. p.now) o) d)) [] (texts_of ids.items)))
    c.ids_of_member.result c.args.file.now c.ids_of_member.new.file) (sym c.in-Some.is) c.ids_of_member.ensures

pub returns-in-None : goal.returns-in-None
returns-in-None g c =
    let r = condition_of c.args.condition.now in
    subst (λ (o : Option (Bor (List (List ℕ)))). ReadsOf g.D.Disk.history (IsAsked c.args.home.now)
    (λ now of (found : Option (Vec (Vec ℕ Global) Global)). IfSome found
    (λ ids. TellOf of (λ d. holds r (subject_at (option_map (λ p. p.now) o) d)) [] (texts_of ids.items)))
    c.ids_of_branch.result c.args.file.now c.ids_of_branch.new.file) (sym c.in-None.is) c.ids_of_branch.ensures
