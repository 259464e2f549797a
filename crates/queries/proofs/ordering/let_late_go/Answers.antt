use Rattle.std.proofs.Common.{◌++◌, List, Vec, Global, take, ap, ◌∙◌, subst, sym}
use Rattle.std.specs.Prelude.{All}
use Rattle.bson.specs.Tree.{Pairs}
use Rattle.database_model.specs.Lawful.{IsWithin}
use Rattle.sort.specs.Sort.{order}
use Rattle.sort.proofs.SortLemmas.{sorts_in_parts}
use Rattle.queries.proofs.ordering.let_late_go.Goals as goal

pub returns-clause-first : goal.returns-clause-first
returns-clause-first c = λ others.
    let sort = c.args.sort.now in
    let most = c.args.most in
    let ds : List Pairs = c.args.documents.now.items in
    ap (λ (ys : List Pairs). take most (order sort (ys ++ others)))
    (c.in_ok-documents.ensures.first ∙ ap (λ (v : Vec Pairs Global). take most (order sort v.items)) c.replace-these.ensures.value)
    ∙ sorts_in_parts sort most ds others

pub returns-clause-within : goal.returns-clause-within
returns-clause-within c = λ h. c.in_ok-documents.ensures.within (subst (λ (v : Vec Pairs Global). All IsWithin v.items) (sym c.replace-these.ensures.value) h)
