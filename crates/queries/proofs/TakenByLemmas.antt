-- The documents that a pipeline takes, by the filter of a `$match` in front of it.
use Rattle.std.proofs.Common.{◌≡◌, ℕ, true, List, [], ◌∷◌, get_or, Option, Some, None, ap, subst}
use Rattle.std.specs.Prelude.{IfSome, is_some, option_map, option_to_list}
use Rattle.value_order.specs.KeyText.{tree_text}
use Rattle.aggregate_model.specs.Stage.{Stage, match_stage}
use Rattle.aggregate_model.specs.Taking.{leading_match, takes}
use Rattle.filter.specs.Condition.{Conditions}
use Rattle.filter.specs.Matches.{matches}
use Rattle.index.specs.Changes.{is_among}
use Rattle.entry_model.specs.State.{key_of}
use Rattle.asked_documents.specs.Asking.{AsksMatching}
use Rattle.asked_documents.specs.ById.{TellIdsBeside, one_matches}
use Rattle.asked_documents.proofs.SelectsLemmas.{only_at, or_last}

-- what a pipeline takes, the filter in front matches
pub leading_matches : {X : Type 0} (seen : X → Conditions) (stages : List Stage) (o : Option X) → option_map seen o ≡ leading_match stages
    → IfSome o (λ f. AsksMatching (takes stages) (seen f))
leading_matches seen stages None same = tt
leading_matches seen [] (Some f) same = absurd cc
leading_matches seen (match_stage rules ∷ stages) (Some f) same = λ d passes.
    let one : rules ≡ seen f = cc in subst (λ (rs : Conditions). matches rs d ≡ true) one passes
leading_matches seen (other ∷ stages) (Some f) same = absurd cc

pub leading_tells : (stages : List Stage) (texts : List (List ℕ)) → is_some (leading_match stages) ≡ true
    → TellIdsBeside (takes stages) (one_matches (option_to_list (leading_match stages))) texts
leading_tells [] texts some = absurd cc
leading_tells (match_stage rules ∷ stages) texts some = λ d has passes. or_last (is_among texts (tree_text (key_of d))) (matches rules d) passes
leading_tells (other ∷ stages) texts some = absurd cc

pub leading_at : {X Y : Type 0} (seen : X → Y) (o : Option X) (p : Option Y) (at : ℕ) → option_map seen o ≡ p
    → IfSome o (λ x. seen x ≡ get_or (option_to_list p) at (seen x))
leading_at seen None p at same = tt
leading_at {X} {Y} seen (Some x) p at same = subst (λ (q : Option Y). seen x ≡ get_or (option_to_list q) at (seen x)) same (only_at (seen x) at)

pub one_leads : {X Y : Type 0} (seen : X → Y) (o : Option X) (p : Option Y) → option_map seen o ≡ p → is_some o ≡ is_some p
one_leads seen None p same = ap is_some same
one_leads seen (Some x) p same = ap is_some same
