-- The kinds that an array names, one item after the other.
use Rattle.std.proofs.Common.{◌≡◌, ℕ, ◌+◌, ◌<◌, List, ◌++◌, length, drop, get_or, Result, Ok, Err, append_assoc, refl, sym, ap, ◌∙◌}
use Rattle.bson.specs.View.{tree, items_of}
use Rattle.bson.specs.declared.kind.Kind.{Kind}
use Rattle.bson.specs.declared.value.Value.{Value}
use Rattle.path.specs.declared.refusal.Refusal.{Refusal}
use Rattle.path.specs.Edits.{if_ok}
use Rattle.filter.specs.Words.{each_kind, kinds_in}
use Rattle.filter.proofs.ParsingLemmas.{drop_step}

behind_kinds : (done more : List Kind) (r : Result (List Kind) Refusal)
    → if_ok r (λ ks. Ok ((done ++ more) ++ ks)) ≡ if_ok (if_ok r (λ ls. Ok (more ++ ls))) (λ ks. Ok (done ++ ks))
behind_kinds done more (Ok ls) = ap Ok (append_assoc done more ls)
behind_kinds done more (Err e) = refl

module _ (vs : List Value) (i : ℕ) (v : Value) (done : List Kind) (whole : Result (List Kind) Refusal) (lt : i < length vs) (is : v ≡ get_or vs i v)
    (so_far : if_ok (each_kind (items_of (drop i vs))) (λ ks. Ok (done ++ ks)) ≡ whole) where
  others : Result (List Kind) Refusal
  others = each_kind (items_of (drop (i + 1) vs))

  with_kinds : if_ok (if_ok (kinds_in (tree v)) (λ ks. if_ok others (λ ls. Ok (ks ++ ls)))) (λ ks. Ok (done ++ ks)) ≡ whole
  unfolding others
  with_kinds = sym (ap (λ (ws : List Value). if_ok (each_kind (items_of ws)) (λ ks. Ok (done ++ ks))) (drop_step vs i v lt is)) ∙ so_far

  pub kinds_refused : (e : Refusal) → kinds_in (tree v) ≡ Err e → whole ≡ Err e
  kinds_refused e gave =
      sym with_kinds ∙ ap (λ (r : Result (List Kind) Refusal). if_ok (if_ok r (λ ks. if_ok others (λ ls. Ok (ks ++ ls)))) (λ ks. Ok (done ++ ks))) gave

  pub kinds_more : (more next : List Kind) → kinds_in (tree v) ≡ Ok more → next ≡ done ++ more
      → if_ok (each_kind (items_of (drop (i + 1) vs))) (λ ks. Ok (next ++ ks)) ≡ whole
  unfolding others
  kinds_more more next gave grown =
      ap (λ (ks : List Kind). if_ok others (λ ls. Ok (ks ++ ls))) grown
      ∙ behind_kinds done more others
      ∙ sym (ap (λ (r : Result (List Kind) Refusal). if_ok (if_ok r (λ ks. if_ok others (λ ls. Ok (ks ++ ls)))) (λ ks. Ok (done ++ ks))) gave)
      ∙ with_kinds
