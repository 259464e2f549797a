use Rattle.std.proofs.Common.{ℕ, List, Vec, Global, ap, sym, subst, ◌∙◌, rules}
use Rattle.std.proofs.lemmas.Fn.{always_returns_same}
use Rattle.value_order.specs.Order.{bytes_cmp}
use Rattle.index.specs.Changes.{IsAscending, is_among}
use Rattle.index.specs.View.{texts_of}
use Rattle.index.proofs.SearchLemmas.{search_told}
use Rattle.candidate_ids.proofs.id_set.IdSet.contains.Goals as goal

pub returns : goal.returns
returns c =
    let vs : List (Vec ℕ Global) = c.deref.result.now in
    c.is_ok.ensures.value
    ∙ search_told vs c.args.text.now c.binary_search_by.result
    (subst (λ (ws : List (Vec ℕ Global)). IsAscending (texts_of ws)) (sym c.deref.ensures.value) c.self.invariant) c.binary_search_by.ensures.bound
    (c.binary_search_by.ensures.position (λ v. bytes_cmp v.items c.args.text.now) (always_returns_same _ _ _ (λ a r f k. search rules)))
    ∙ ap (λ (ws : List (Vec ℕ Global)). is_among (texts_of ws) c.args.text.now) c.deref.ensures.value
    ∙ ap (λ (ts : List (List ℕ)). is_among ts c.args.text.now) c.self.view_is
