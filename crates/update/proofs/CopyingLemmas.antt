-- A pair that is moved to the front of a document, and a loop that copies all pairs but `_id`.
use Rattle.std.proofs.Common.{◌≡◌, ℕ, suc, ◌+◌, ◌<◌, ◌≤◌, Bool, true, false, List, [], ◌∷◌, ◌++◌, length, drop, take, get_or}
use Rattle.std.proofs.Common.{refl, sym, ap, ◌∙◌, Option, arith}
use Rattle.std.specs.Prelude.{if◌then◌else◌, not}
use Rattle.std.specs.Str.{bytes_eq}
use Rattle.std.proofs.lemmas.List.{drop_all}
use Rattle.bson.specs.Tree.{Tree, Pairs, pair, append}
use Rattle.bson.specs.View.{tree, pairs_of}
use Rattle.bson.specs.Edits.{pair_at, without_pair}
use Rattle.bson.specs.EditPlaces.{append-none, append-one}
use Rattle.bson.specs.EditsLaws.{pairs_of-push, pair_at-pairs_of, pairs_of-remove}
use Rattle.bson.specs.declared.value.Pair.{Pair}
use Rattle.update_model.specs.Stored.{without, id_name}
use Rattle.update_model.specs.Fronts.{before, to_front}
use Rattle.update.proofs.StepLemmas.{drop_step}

pub moved : (ps rest : List Pair) (i : ℕ) (p : Pair) → i < length ps → p ≡ get_or ps i p → rest ≡ take i ps ++ drop (i + 1) ps
    → pairs_of (p ∷ rest) ≡ to_front (pairs_of ps) i
moved ps rest i p lt is left =
    let next : i + 1 ≡ suc i = omega arith in
    let whole : pairs_of rest ≡ without_pair (pairs_of ps) i = ap pairs_of (left ∙ ap (λ (k : ℕ). take i ps ++ drop k ps) next) ∙ pairs_of-remove ps i in
    ap (pair p.name (tree p.value)) whole
    ∙ ap (λ (q : Pair). pair q.name (tree q.value) (without_pair (pairs_of ps) i)) is
    ∙ sym (ap (λ (o : Option (List ℕ × Tree)). before o (without_pair (pairs_of ps) i)) (pair_at-pairs_of ps i p lt))

-- ---- the loop that copies

-- what a test for another name says
pub tested : (same other : Bool) → other ≡ not same → same ≡ not other
tested true other e = rw e refl
tested false other e = rw e refl

append-pushed : (us : List Pair) (p : Pair) (rest : Pairs) → append (pairs_of (us ++ p ∷ [])) rest ≡ append (pairs_of us) (pair p.name (tree p.value) rest)
append-pushed us p rest = ap (λ (ps : Pairs). append ps rest) (pairs_of-push us p) ∙ append-one (pairs_of us) p.name (tree p.value) rest

module _ (all : Pairs) (ps : List Pair) (i : ℕ) (p : Pair) (us : List Pair) (within : i < length ps) (is : p ≡ get_or ps i p)
    (so_far : append (pairs_of us) (without (pairs_of (drop i ps)) id_name) ≡ all) where
  step : append (pairs_of us) (without (pairs_of (p ∷ drop (i + 1) ps)) id_name) ≡ all
  step = ap (λ (xs : List Pair). append (pairs_of us) (without (pairs_of xs) id_name)) (sym (drop_step ps i p within is)) ∙ so_far

  -- a pair that is passed over
  pub passed_over : bytes_eq id_name p.name ≡ true → append (pairs_of us) (without (pairs_of (drop (i + 1) ps)) id_name) ≡ all
  passed_over e =
      ap (λ (b : Bool). append (pairs_of us)
      (if b then without (pairs_of (drop (i + 1) ps)) id_name else pair p.name (tree p.value) (without (pairs_of (drop (i + 1) ps)) id_name))) (sym e) ∙ step

  -- a pair that is copied
  pub copied : (q : Pair) (vs : List Pair) → bytes_eq id_name p.name ≡ false → q.name ≡ p.name → tree q.value ≡ tree p.value → vs ≡ us ++ q ∷ []
      → append (pairs_of vs) (without (pairs_of (drop (i + 1) ps)) id_name) ≡ all
  copied q vs e name value pushed =
      let rest = without (pairs_of (drop (i + 1) ps)) id_name in
      ap (λ (xs : List Pair). append (pairs_of xs) rest) pushed ∙ append-pushed us q rest
      ∙ (λ j. append (pairs_of us) (pair (name j) (value j) rest))
      ∙ ap (λ (b : Bool). append (pairs_of us) (if b then rest else pair p.name (tree p.value) rest)) (sym e) ∙ step

pub all_copied : (all : Pairs) (ps : List Pair) (i : ℕ) (us : List Pair) → length ps ≤ i → append (pairs_of us) (without (pairs_of (drop i ps)) id_name) ≡ all
    → pairs_of us ≡ all
all_copied all ps i us whole so_far =
    sym (append-none (pairs_of us)) ∙ ap (λ (xs : List Pair). append (pairs_of us) (without (pairs_of xs) id_name)) (sym (drop_all i ps whole)) ∙ so_far
