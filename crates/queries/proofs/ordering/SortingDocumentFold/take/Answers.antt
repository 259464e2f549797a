use Rattle.std.proofs.Common.{◌≡◌, [], ◌∷◌, None, Some, refl, sym, ap, ◌∙◌, append-nil}
use Rattle.std.specs.List.{filter}
use Rattle.bson.specs.Tree.{Pairs}
use Rattle.filter.specs.Matches.{matches}
use Rattle.planner.specs.IdLaws.{with_found}
use Rattle.queries.proofs.OrderingLemmas.{one_sorted}
use Rattle.walks.proofs.SelectLemmas.{left_one, taken_one}
use Rattle.queries.proofs.ordering.SortingDocumentFold.take.Goals as goal

pub returns-then-not-branch-clause-takes : goal.returns-then-not-branch-clause-takes
returns-then-not-branch-clause-takes c = λ start all h.
    let now = c.args.self.now in
    let d : Pairs = c.args.document.now in
    let is = left_one (matches now.filter.now) d (sym c.in_ok-matches_raw.ensures ∙ c.if-not-branch.true) in
    one_sorted start now all d None now.found.items now is tt (λ others. refl) (λ all_within. all_within) refl refl refl (sym (append-nil now.found.items)) h

pub returns-clause-takes : goal.returns-clause-takes
returns-clause-takes c = λ start all h.
    let now = c.args.self.now in
    let d : Pairs = c.args.document.now in
    let built : Pairs = c.in_ok-built.built in
    let is : with_found (Some built) [] ≡ filter (matches now.filter.now) (d ∷ []) =
    ap (λ (x : Pairs). x ∷ []) c.in_ok-built.ensures.built.0
    ∙ taken_one (matches now.filter.now) d (sym c.in_ok-matches_raw.ensures ∙ c.if-not-branch.false) in
    one_sorted start now all d (Some built) c.let_late_go.new.documents.items _ is c.in_ok-built.ensures.built.1 c.in_ok-let_late_go.ensures.first
    c.in_ok-let_late_go.ensures.within refl refl refl
    c.in_ok-push.ensures.items h
