use Rattle.std.proofs.Common.{◌≡◌, List, ℕ, subst}
use Rattle.std.specs.Prelude.{IfOk}
use Rattle.index.specs.View.{texts_of}
use Rattle.queries.proofs.SortedIdLemmas.{first_alike}
use Rattle.queries.proofs.sorted_ids.first_ids_of.Goals as goal

pub returns : goal.returns
returns c =
    subst (λ (texts : List (List ℕ)). IfOk c.first_ids.result (λ ids. texts_of ids.items ≡ texts))
    (first_alike c.args.sort.now c.args.most c.args.documents.now c.in_ok-shorts.shorts.items c.in_ok-shorts.ensures) c.first_ids.ensures
