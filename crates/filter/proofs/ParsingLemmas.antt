-- Steps of reading: one pair or one item more.
use Rattle.std.proofs.Common.{◌≡◌, ℕ, zero, suc, ◌+◌, ◌<◌, ◌≤◌, false, List, [], ◌∷◌, ◌++◌, length, take, drop, get_or, Result, Ok, Err, refl, sym, ap, ◌∙◌}
use Rattle.std.proofs.Common.{arith, drop-cons}
use Rattle.std.specs.Prelude.{◌≢◌, ◌==◌}
use Rattle.std.specs.Result.{IsErrAnd}
use Rattle.std.proofs.lemmas.List.{drop_all, take_more}
use Rattle.bson.specs.Tree.{Tree, Pairs, no_pairs, pair, Items, no_items, item, count, count_pairs, count_items}
use Rattle.bson.specs.View.{tree, pairs_of, items_of}
use Rattle.bson.specs.declared.value.Pair.{Pair}
use Rattle.bson.specs.declared.value.Value.{Value}
use Rattle.path.specs.declared.refusal.Refusal.{Refusal}
use Rattle.path.specs.declared.refusal.Refusal.TheVariants as refusals
use Rattle.outcome.specs.Outcome.{Gives}
use Rattle.path.specs.Edits.{if_ok}
use Rattle.filter.specs.Condition.{Condition, Conditions, no_conditions, condition, all, append_conditions, equals, is as asks, equal}
use Rattle.filter.specs.View.{condition_of, conditions_of}
use Rattle.filter.specs.Parsing.{every}
use Rattle.filter.specs.declared.condition.Condition.{Condition as Made}

-- what is left begins with the element at hand
pub drop_step : {X : Type 0} (xs : List X) (i : ℕ) (x : X) → i < length xs → x ≡ get_or xs i x → drop i xs ≡ x ∷ drop (i + 1) xs
drop_step xs i x within is =
    let next : suc i ≡ i + 1 = omega arith in
    drop-cons xs i x within ∙ (λ j. sym is j ∷ drop (next j) xs)

pub pair_count : (ps : List Pair) (i : ℕ) (p : Pair) → i < length ps → p ≡ get_or ps i p → count (tree p.value) ≤ count_pairs (pairs_of ps)
pair_count [] i p lt is = absurd (omega arith)
pair_count (q ∷ qs) zero p lt is = omega (arith, ap (λ (x : Pair). count (tree x.value)) is)
pair_count (q ∷ qs) (suc i) p lt is = omega (arith, pair_count qs i p (omega arith) is)

pub item_count : (vs : List Value) (i : ℕ) (v : Value) → i < length vs → v ≡ get_or vs i v → count (tree v) ≤ count_items (items_of vs)
item_count [] i v lt is = absurd (omega arith)
item_count (w ∷ ws) zero v lt is = omega (arith, ap (λ (x : Value). count (tree x)) is)
item_count (w ∷ ws) (suc i) v lt is = omega (arith, item_count ws i v (omega arith) is)

-- an answer that passes a refusal on
pub refused : {A B : Type 0} (view : A → B) (planned : Result B Refusal) (r : Result A Refusal) (f : Refusal) → IsErrAnd r (λ e. e ≡ f)
    → (f ≢ refusals.OutOfMemory → planned ≡ Err f) → Gives refusals.OutOfMemory view r planned
refused view planned (Ok a) f is told = absurd is
refused view planned (Err e) f is told = λ known. told (λ same. known (is ∙ same)) ∙ ap Err (sym is)

pub append_conditions-none : (rs : Conditions) → append_conditions rs no_conditions ≡ rs
append_conditions-none no_conditions = refl
append_conditions-none (condition r rs) = ap (condition r) (append_conditions-none rs)

pub append_conditions-push : (out : List Made) (m : Made) (qs : Conditions)
    → append_conditions (conditions_of (out ++ m ∷ [])) qs ≡ append_conditions (conditions_of out) (condition (condition_of m) qs)
append_conditions-push [] m qs = refl
append_conditions-push (n ∷ ns) m qs = ap (condition (condition_of n)) (append_conditions-push ns m qs)

-- the conditions that were made, and those that are still to be read
abbrev pub joined : List Made → Result Conditions Refusal → Result Conditions Refusal
joined out left = if_ok left (λ rs. Ok (append_conditions (conditions_of out) rs))

abbrev pub first : Result Condition Refusal → Result Conditions Refusal → Result Conditions Refusal
first one others = if_ok one (λ r. if_ok others (λ rs. Ok (condition r rs)))

pub joined-none : (left : Result Conditions Refusal) → joined [] left ≡ left
joined-none (Ok rs) = refl
joined-none (Err e) = refl

pub joined-more : (one : Result Condition Refusal) (others : Result Conditions Refusal) (out next : List Made) (m : Made) → one ≡ Ok (condition_of m)
    → next ≡ out ++ m ∷ [] → joined next others ≡ joined out (first one others)
joined-more one (Ok rs) out next m is grown =
    ap (λ (ms : List Made). joined ms (Ok rs)) grown ∙ ap Ok (append_conditions-push out m rs)
    ∙ ap (λ (r : Result Condition Refusal). joined out (first r (Ok rs))) (sym is)
joined-more one (Err e) out next m is grown = ap (λ (r : Result Condition Refusal). joined out (first r (Err e))) (sym is)

pub joined-refused : (one : Result Condition Refusal) (others : Result Conditions Refusal) (out : List Made) (e : Refusal) → one ≡ Err e
    → joined out (first one others) ≡ Err e
joined-refused one others out e is = ap (λ (r : Result Condition Refusal). joined out (first r others)) is

module _ (one : List ℕ → Tree → Result Condition Refusal) (read : Pairs → Result Conditions Refusal) (none : read no_pairs ≡ Ok no_conditions)
    (more : (name : List ℕ) (t : Tree) (ps : Pairs) → read (pair name t ps) ≡ first (one name t) (read ps)) where
  taken : (ps : List Pair) (i : ℕ) (p : Pair) (name : List ℕ) → i < length ps → p ≡ get_or ps i p → name ≡ p.name
      → read (pairs_of (drop i ps)) ≡ first (one name (tree p.value)) (read (pairs_of (drop (i + 1) ps)))
  taken ps i p name lt is named =
      ap (λ (qs : List Pair). read (pairs_of qs)) (drop_step ps i p lt is)
      ∙ more p.name (tree p.value) (pairs_of (drop (i + 1) ps))
      ∙ ap (λ (n : List ℕ). first (one n (tree p.value)) (read (pairs_of (drop (i + 1) ps)))) (sym named)

  pub pairs_more : (ps : List Pair) (i : ℕ) (p : Pair) (name : List ℕ) (out next : List Made) (m : Made) (planned : Result Conditions Refusal) → i < length ps
      → p ≡ get_or ps i p → name ≡ p.name
      → one name (tree p.value) ≡ Ok (condition_of m) → next ≡ out ++ m ∷ [] → joined out (read (pairs_of (drop i ps))) ≡ planned
      → joined next (read (pairs_of (drop (i + 1) ps))) ≡ planned
  pairs_more ps i p name out next m planned lt is named made grown so_far =
      joined-more (one name (tree p.value)) (read (pairs_of (drop (i + 1) ps))) out next m made grown ∙ sym (ap (joined out) (taken ps i p name lt is named))
      ∙ so_far

  pub pairs_refused : (ps : List Pair) (i : ℕ) (p : Pair) (name : List ℕ) (out : List Made) (e : Refusal) (planned : Result Conditions Refusal) → i < length ps
      → p ≡ get_or ps i p → name ≡ p.name
      → one name (tree p.value) ≡ Err e → joined out (read (pairs_of (drop i ps))) ≡ planned → planned ≡ Err e
  pairs_refused ps i p name out e planned lt is named made so_far =
      sym so_far ∙ ap (joined out) (taken ps i p name lt is named) ∙ joined-refused (one name (tree p.value)) (read (pairs_of (drop (i + 1) ps))) out e made

  pub pairs_end : (ps : List Pair) (i : ℕ) (out : List Made) (planned : Result Conditions Refusal) → length ps ≤ i
      → joined out (read (pairs_of (drop i ps))) ≡ planned → planned ≡ Ok (conditions_of out)
  pairs_end ps i out planned le so_far =
      sym so_far ∙ ap (λ (qs : List Pair). joined out (read (pairs_of qs))) (drop_all i ps le) ∙ ap (joined out) none
      ∙ ap Ok (append_conditions-none (conditions_of out))

module _ (one : Tree → Result Condition Refusal) (read : Items → Result Conditions Refusal) (none : read no_items ≡ Ok no_conditions)
    (more : (t : Tree) (ts : Items) → read (item t ts) ≡ first (one t) (read ts)) where
  took : (vs : List Value) (i : ℕ) (v : Value) → i < length vs → v ≡ get_or vs i v
      → read (items_of (drop i vs)) ≡ first (one (tree v)) (read (items_of (drop (i + 1) vs)))
  took vs i v lt is = ap (λ (ws : List Value). read (items_of ws)) (drop_step vs i v lt is) ∙ more (tree v) (items_of (drop (i + 1) vs))

  pub items_more : (vs : List Value) (i : ℕ) (v : Value) (out next : List Made) (m : Made) (planned : Result Conditions Refusal) → i < length vs
      → v ≡ get_or vs i v
      → one (tree v) ≡ Ok (condition_of m) → next ≡ out ++ m ∷ [] → joined out (read (items_of (drop i vs))) ≡ planned
      → joined next (read (items_of (drop (i + 1) vs))) ≡ planned
  items_more vs i v out next m planned lt is made grown so_far =
      joined-more (one (tree v)) (read (items_of (drop (i + 1) vs))) out next m made grown ∙ sym (ap (joined out) (took vs i v lt is)) ∙ so_far

  pub items_refused : (vs : List Value) (i : ℕ) (v : Value) (out : List Made) (e : Refusal) (planned : Result Conditions Refusal) → i < length vs
      → v ≡ get_or vs i v
      → one (tree v) ≡ Err e → joined out (read (items_of (drop i vs))) ≡ planned → planned ≡ Err e
  items_refused vs i v out e planned lt is made so_far =
      sym so_far ∙ ap (joined out) (took vs i v lt is) ∙ joined-refused (one (tree v)) (read (items_of (drop (i + 1) vs))) out e made

  pub items_end : (vs : List Value) (i : ℕ) (out : List Made) (planned : Result Conditions Refusal) → length vs ≤ i
      → joined out (read (items_of (drop i vs))) ≡ planned → planned ≡ Ok (conditions_of out)
  items_end vs i out planned le so_far =
      sym so_far ∙ ap (λ (ws : List Value). joined out (read (items_of ws))) (drop_all i vs le) ∙ ap (joined out) none
      ∙ ap Ok (append_conditions-none (conditions_of out))

-- ---- conditions to be equal to each item

pub equals_more : (vs : List Value) (i : ℕ) (v : Value) (out next : List Made) (m : Made) (planned : Conditions) → i < length vs → v ≡ get_or vs i v
    → condition_of m ≡ asks (equal (tree v)) → next ≡ out ++ m ∷ [] → append_conditions (conditions_of out) (equals (items_of (drop i vs))) ≡ planned
    → append_conditions (conditions_of next) (equals (items_of (drop (i + 1) vs))) ≡ planned
equals_more vs i v out next m planned lt at made grown so_far =
    ap (λ (ms : List Made). append_conditions (conditions_of ms) (equals (items_of (drop (i + 1) vs)))) grown
    ∙ append_conditions-push out m (equals (items_of (drop (i + 1) vs)))
    ∙ ap (λ (r : Condition). append_conditions (conditions_of out) (condition r (equals (items_of (drop (i + 1) vs))))) made
    ∙ sym (ap (λ (ws : List Value). append_conditions (conditions_of out) (equals (items_of ws))) (drop_step vs i v lt at))
    ∙ so_far

pub every-some : (ms : List Made) → (length ms == 0) ≡ false → every (conditions_of ms) ≡ all (conditions_of ms)
every-some [] e = absurd cc
every-some (m ∷ ms) e = refl

-- ---- a copy

conditions_of-append : (ms ns : List Made) → conditions_of (ms ++ ns) ≡ append_conditions (conditions_of ms) (conditions_of ns)
conditions_of-append [] ns = refl
conditions_of-append (m ∷ ms) ns = ap (condition (condition_of m)) (conditions_of-append ms ns)

pub copied : (rs : List Made) (i : ℕ) (r m : Made) (out next : List Made) → i < length rs → r ≡ get_or rs i r → condition_of m ≡ condition_of r
    → next ≡ out ++ m ∷ []
    → conditions_of out ≡ conditions_of (take i rs) → conditions_of next ≡ conditions_of (take (i + 1) rs)
copied rs i r m out next lt at made grown so_far =
    ap conditions_of grown
    ∙ conditions_of-append out (m ∷ [])
    ∙ (λ j. append_conditions (so_far j) (condition (made j) no_conditions))
    ∙ ap (λ (x : Made). append_conditions (conditions_of (take i rs)) (condition (condition_of x) no_conditions)) at
    ∙ sym (conditions_of-append (take i rs) (get_or rs i r ∷ []))
    ∙ ap conditions_of (sym (take_more rs i r lt))
