use Rattle.std.proofs.Common.{sym, subst, ◌∙◌}
use Rattle.std.specs.Prelude.{All}
use Rattle.database_model.specs.Lawful.{IsWithin}
use Rattle.asked_documents.proofs.AskingLemmas.{if_ok}
use Rattle.queries.proofs.ordering.first_spelled.Goals as goal

pub spelled_all-requires : goal.spelled_all-requires
spelled_all-requires c = subst (All IsWithin) (sym c.deref.ensures.value) (c.in_ok-first.ensures.within c.requires)

pub returns-clause-first : goal.returns-clause-first
returns-clause-first c = if_ok c.spelled_all.result (λ v is. is ∙ c.deref.ensures.value ∙ c.in_ok-first.ensures.first) c.spelled_all.ensures

pub returns-clause-within : goal.returns-clause-within
returns-clause-within c =
    if_ok c.spelled_all.result (λ v is. subst (All IsWithin) (sym (is ∙ c.deref.ensures.value)) (c.in_ok-first.ensures.within c.requires)) c.spelled_all.ensures
