use Rattle.std.proofs.Common.{◌≡◌, take, ap, sym, subst, ◌∙◌}
use Rattle.std.specs.Prelude.{All}
use Rattle.database_model.specs.Lawful.{IsWithin}
use Rattle.sort.specs.Sort.{order}
use Rattle.queries.proofs.OrderingLemmas.{first_kept}
use Rattle.queries.proofs.ordering.first_ones.Goals as goal

pub returns-clause-first : goal.returns-clause-first
returns-clause-first c = c.truncate.ensures.items ∙ ap (take c.args.most) c.in_ok-ordered.ensures

pub returns-clause-within : goal.returns-clause-within
returns-clause-within c = λ h.
    let first : c.truncate.new.self.items ≡ take c.args.most (order c.args.sort.now c.args.documents.items) =
    c.truncate.ensures.items ∙ ap (take c.args.most) c.in_ok-ordered.ensures in
    subst (All IsWithin) (sym first) (first_kept IsWithin c.args.sort.now c.args.most c.args.documents.items h)
