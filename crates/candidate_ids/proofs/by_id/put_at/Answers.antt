use Rattle.std.proofs.Common.{sym, subst}
use Rattle.filter.specs.Matches.{holds, whole}
use Rattle.filter.specs.View.{condition_of}
use Rattle.filter.specs.declared.condition.Condition.{Condition}
use Rattle.index.specs.View.{texts_of}
use Rattle.asked_documents.specs.ById.{TellIds}
use Rattle.candidate_ids.proofs.IdTextLemmas.{first_tells}
use Rattle.asked_documents.proofs.AskingLemmas.{if_ok}
use Rattle.candidate_ids.proofs.by_id.put_at.Goals as goal

pub returns-in-len1-up-clause-tells : goal.returns-in-len1-up-clause-tells
returns-in-len1-up-clause-tells c =
    let texts = texts_of c.put_asked.new.ids.items in
    if_ok c.put_asked.result (λ told h e. subst (λ (r : Condition). TellIds (λ d. holds (condition_of r) (whole d)) texts) (sym c.in-At.is)
    (first_tells c.in-At.path c.conditions.result.now c.first-item.result c.in-At.asked texts
    (sym c.if-not-is_id.ensures) c.in-len1-up.len_at_least c.first-item.is c.conditions.ensures (h e)))
    c.put_asked.ensures.tells
