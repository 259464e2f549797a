-- Steps of loops that carry a value on: what is left begins with the element at hand.
use Rattle.std.proofs.Common.{◌≡◌, ℕ, zero, suc, ◌+◌, ◌<◌, ◌≤◌, List, [], ◌∷◌, length, drop, get_or, map, Result, Ok, Err, sym, ap, ◌∙◌, arith, drop-cons}
use Rattle.std.specs.Prelude.{◌≢◌}
use Rattle.std.specs.Result.{IsErrAnd, IfOk}
use Rattle.std.proofs.lemmas.List.{drop_all}
use Rattle.bson.specs.Tree.{no_pairs, pair, count, count_pairs, count_items}
use Rattle.bson.specs.View.{tree, pairs_of, items_of}
use Rattle.bson.specs.declared.value.Pair.{Pair}
use Rattle.bson.specs.declared.value.Value.{Value}
use Rattle.path.specs.declared.refusal.Refusal.{Refusal}
use Rattle.path.specs.declared.refusal.Refusal.TheVariants as refusals
use Rattle.outcome.specs.Outcome.{Gives}
use Rattle.path.specs.Edits.{if_ok}

pub drop_step : {X : Type 0} (xs : List X) (i : ℕ) (x : X) → i < length xs → x ≡ get_or xs i x → drop i xs ≡ x ∷ drop (i + 1) xs
drop_step xs i x within is =
    let next : suc i ≡ i + 1 = omega arith in
    drop-cons xs i x within ∙ (λ j. sym is j ∷ drop (next j) xs)

pub pair_count : (ps : List Pair) (i : ℕ) (p : Pair) → i < length ps → p ≡ get_or ps i p → count (tree p.value) ≤ count_pairs (pairs_of ps)
pair_count [] i p lt is = absurd (omega arith)
pair_count (q ∷ qs) zero p lt is = omega (arith, ap (λ (x : Pair). count (tree x.value)) is)
pair_count (q ∷ qs) (suc i) p lt is = omega (arith, pair_count qs i p (omega arith) is)

pub item_count : (vs : List Value) (i : ℕ) (v : Value) → i < length vs → v ≡ get_or vs i v → count (tree v) ≤ count_items (items_of vs)
item_count [] i v lt is = absurd (omega arith)
item_count (w ∷ ws) zero v lt is = omega (arith, ap (λ (x : Value). count (tree x)) is)
item_count (w ∷ ws) (suc i) v lt is = omega (arith, item_count ws i v (omega arith) is)

-- an answer that passes a refusal on
pub refused : {A B : Type 0} (view : A → B) (planned : Result B Refusal) (r : Result A Refusal) (f : Refusal) → IsErrAnd r (λ e. e ≡ f)
    → (f ≢ refusals.OutOfMemory → planned ≡ Err f) → Gives refusals.OutOfMemory view r planned
refused view planned (Ok a) f is told = absurd is
refused view planned (Err e) f is told = λ known. told (λ same. known (is ∙ same)) ∙ ap Err (sym is)

-- ---- a value that is carried on

module _ {X : Type 0} (one : Result X Refusal) (rest : X → Result X Refusal) (here planned : Result X Refusal) where
  pub goes_on : (y : X) → here ≡ if_ok one rest → one ≡ Ok y → here ≡ planned → rest y ≡ planned
  goes_on y unfolds made so_far = sym (ap (λ (r : Result X Refusal). if_ok r rest) made) ∙ sym unfolds ∙ so_far

  pub stops : (e : Refusal) → here ≡ if_ok one rest → one ≡ Err e → here ≡ planned → planned ≡ Err e
  stops e unfolds made so_far = sym so_far ∙ unfolds ∙ ap (λ (r : Result X Refusal). if_ok r rest) made

-- the next pair, the next of a list that is seen through a function
pub pairs_step : (ps : List Pair) (i : ℕ) (p : Pair) (name : List ℕ) → i < length ps → p ≡ get_or ps i p → name ≡ p.name
    → pairs_of (drop i ps) ≡ pair name (tree p.value) (pairs_of (drop (i + 1) ps))
pairs_step ps i p name lt is named =
    ap pairs_of (drop_step ps i p lt is) ∙ ap (λ (n : List ℕ). pair n (tree p.value) (pairs_of (drop (i + 1) ps))) (sym named)

pub pairs_none : (ps : List Pair) (i : ℕ) → length ps ≤ i → pairs_of (drop i ps) ≡ no_pairs
pairs_none ps i le = ap pairs_of (drop_all i ps le)

pub map_step : {X Y : Type 0} (f : X → Y) (xs : List X) (i : ℕ) (x : X) → i < length xs → x ≡ get_or xs i x → map f (drop i xs) ≡ f x ∷ map f (drop (i + 1) xs)
map_step f xs i x lt is = ap (map f) (drop_step xs i x lt is)

pub map_none : {X Y : Type 0} (f : X → Y) (xs : List X) (i : ℕ) → length xs ≤ i → map f (drop i xs) ≡ []
map_none f xs i le = ap (map f) (drop_all i xs le)

pub if_ok_map : {A E : Type 0} (r : Result A E) (P Q : A → Type 0) → ((a : A) → P a → Q a) → IfOk r P → IfOk r Q
if_ok_map (Ok a) P Q f h = f a h
if_ok_map (Err e) P Q f h = h
