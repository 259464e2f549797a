use Rattle.std.proofs.Common.{◌≡◌, Bool, List, ℕ, Some, option_map, ap, subst, sym, ◌∙◌}
use Rattle.std.specs.Prelude.{MatchBool}
use Rattle.std.specs.declared.cmp.Ordering.TheVariants.{Less}
use Rattle.tree_model.specs.Keys.{IsPast, IsWithin, key_cmp}
use Rattle.filter.specs.Matches.{matches}
use Rattle.walks.specs.Batches.{PassFrom}
use Rattle.walks.specs.declared.id_range.IdSpan.{IdSpan}
use Rattle.walks.proofs.WalkLeftLemmas.{from_range, from_text}
use Rattle.walks.proofs.batches.span_from.Goals as goal

pub returns-then-not-is_within : goal.returns-then-not-is_within
returns-then-not-is_within c =
    let from : List ℕ = c.args.from.now in
    let key : List ℕ = c.deref.result.now in
    let span : IdSpan = c.in_ok-span.span in
    let above = subst (λ (b : Bool). MatchBool b (IsWithin (Some from) key) (IsPast (Some from) key)) c.if-not-is_within.true c.is_within.ensures in
    from_range (matches c.args.filter.now) from span.first.items (option_map (λ v. v.items) span.end) c.in_ok-span.ensures
    (λ less. above (ap (λ (k : List ℕ). key_cmp k from) c.deref.ensures.value ∙ less))

pub returns : goal.returns
returns c =
    let from : List ℕ = c.args.from.now in
    let key : List ℕ = c.deref.result.now in
    let span : IdSpan = c.in_ok-span.span in
    let below = subst (λ (b : Bool). MatchBool b (IsWithin (Some from) key) (IsPast (Some from) key)) c.if-not-is_within.false c.is_within.ensures in
    let less : key_cmp span.first.items from ≡ Less = sym (ap (λ (k : List ℕ). key_cmp k from) c.deref.ensures.value) ∙ below in
    subst (λ (first : List ℕ). PassFrom (matches c.args.filter.now) from first (option_map (λ v. v.items) span.end)) (sym c.in_ok-from_slice.ensures.items)
    (from_text (matches c.args.filter.now) from span.first.items (option_map (λ v. v.items) span.end) c.in_ok-span.ensures less)
