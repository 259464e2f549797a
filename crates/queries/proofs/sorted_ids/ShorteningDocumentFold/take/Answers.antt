use Rattle.std.proofs.Common.{sym, refl, ◌∙◌}
use Rattle.filter.specs.Matches.{matches}
use Rattle.walks.proofs.SelectLemmas.{taken_one}
use Rattle.queries.proofs.SortedIdLemmas.{one_shortened}
use Rattle.queries.proofs.sorted_ids.ShorteningDocumentFold.take.Goals as goal

pub returns-clause-takes : goal.returns-clause-takes
returns-clause-takes c = λ start all h.
    let now = c.args.self.now in
    let d = c.args.document.now in
    one_shortened start now all d h c.in_ok-short.short c.let_late_go.new.documents.items _
    (taken_one (matches now.filter.now) d (sym c.in_ok-matches_raw.ensures ∙ c.if-not-branch.false)) c.in_ok-short.ensures c.in_ok-let_late_go.ensures.first
    refl refl refl c.in_ok-push.ensures.items
