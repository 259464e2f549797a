-- Reading the items of an array, one after another.
use Rattle.std.proofs.Common.{◌≡◌, ℕ, suc, arith, drop-cons, ◌+◌, ◌<◌, ◌≤◌, List, [], ◌∷◌, ◌++◌, length, drop, get_or, Result, Ok, Err, refl, sym, ap, ◌∙◌}
use Rattle.std.proofs.Common.{append_assoc}
use Rattle.std.proofs.lemmas.List.{append-nil, drop_all}
use Rattle.bson.specs.Tree.{Tree}
use Rattle.bson.specs.View.{tree, items_of}
use Rattle.bson.specs.declared.value.Value.{Value}
use Rattle.command_model.specs.Statements.{each_of}
use Rattle.outcome.specs.Outcome.{◌>>=◌}
use Rattle.path.specs.declared.refusal.Refusal.{Refusal}

-- what is left begins with the element at hand
pub drop_step : {X : Type 0} (xs : List X) (i : ℕ) (x : X) → i < length xs → x ≡ get_or xs i x → drop i xs ≡ x ∷ drop (i + 1) xs
drop_step xs i x within is =
    let next : suc i ≡ i + 1 = omega arith in
    drop-cons xs i x within ∙ (λ j. sym is j ∷ drop (next j) xs)

-- these, and then what is read
abbrev pub and_then : {X : Type 0} → List X → Result (List X) Refusal → Result (List X) Refusal
and_then xs r = r >>= (λ rest. Ok (xs ++ rest))

module _ {X : Type 0} (read : Tree → Result X Refusal) (vs : List Value) (i : ℕ) (xs : List X) where
  -- so many items were read
  abbrev pub Read : Type 0
  Read = each_of read (items_of vs) ≡ and_then xs (each_of read (items_of (drop i vs)))

  pub read_all : length vs ≤ i → Read → each_of read (items_of vs) ≡ Ok xs
  read_all whole h = h ∙ ap (λ (us : List Value). and_then xs (each_of read (items_of us))) (drop_all i vs whole) ∙ ap (λ (ys : List X). Ok ys) (append-nil xs)

  module _ (v : Value) (within : i < length vs) (is : v ≡ get_or vs i v) where
    abbrev rest : Result (List X) Refusal
    rest = each_of read (items_of (drop (i + 1) vs))

    abbrev one_more : Result X Refusal → Result (List X) Refusal
    one_more r = and_then xs (r >>= (λ x. rest >>= (λ others. Ok (x ∷ others))))

    next : Read → each_of read (items_of vs) ≡ one_more (read (tree v))
    next h = h ∙ ap (λ (us : List Value). and_then xs (each_of read (items_of us))) (drop_step vs i v within is)

    pub read_stops : (e : Refusal) → read (tree v) ≡ Err e → Read → each_of read (items_of vs) ≡ Err e
    read_stops e err h = next h ∙ ap one_more err

    added : (x : X) (r : Result (List X) Refusal) → and_then xs (r >>= (λ others. Ok (x ∷ others))) ≡ and_then (xs ++ x ∷ []) r
    added x (Ok others) = ap (λ (ys : List X). Ok ys) (sym (append_assoc xs (x ∷ []) others))
    added x (Err e) = refl

    pub read_one : (x : X) → read (tree v) ≡ Ok x → Read → each_of read (items_of vs) ≡ and_then (xs ++ x ∷ []) (each_of read (items_of (drop (i + 1) vs)))
    read_one x ok h = next h ∙ ap one_more ok ∙ added x rest
