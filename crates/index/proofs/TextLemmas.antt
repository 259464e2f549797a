-- Texts of keys, one behind the other.
use Rattle.std.proofs.Common.{◌≡◌, ℕ, suc, ◌+◌, ◌-◌, ◌<◌, ◌≤◌, Bool, true, false, ◌||◌, nat_lt, List, [], ◌∷◌, ◌++◌, length, map, drop, get_or, Result}
use Rattle.std.proofs.Common.{Ok, Err, refl}
use Rattle.std.proofs.Common.{sym, ap, subst, ◌∙◌, arith}
use Rattle.std.specs.Prelude.{◌≢◌, ◌==◌}
use Rattle.std.proofs.Math.Seq.{drop-cons}
use Rattle.std.specs.List.{flat_map}
use Rattle.std.proofs.lemmas.Bool.Decides.{nat_tests}
use Rattle.std.specs.Result.{IsErrAnd}
use Rattle.outcome.specs.Outcome.{unless, ◌>>=◌, Does, Gives}
use Rattle.bson.specs.Tree.{Items, Pairs}
use Rattle.bson.specs.View.{items_of, tree}
use Rattle.bson.specs.declared.value.Value.{Value}
use Rattle.value_order.specs.Order.{Key, value}
use Rattle.value_order.specs.KeyText.{directed_text}
use Rattle.value_order.specs.declared.texts.Direction.{Direction}
use Rattle.path.specs.Reach.{items_list}
use Rattle.path.specs.View.{reached}
use Rattle.path.specs.declared.reaching.Reached.{Reached as Held}
use Rattle.path.specs.declared.refusal.Refusal.{Refusal}
use Rattle.path.specs.declared.refusal.Refusal.TheVariants as refusals
use Rattle.index.specs.Definition.{Field}
use Rattle.index.specs.IndexKeys.{array_keys, keys_of, or_missing}
use Rattle.index.specs.Steps.{longest, texts_at, texts_within, with_texts}

-- an error that was handed on
pub refused : {A B : Type 0} (view : A → B) (planned : Result B Refusal) (r : Result A Refusal) (f : Refusal) → IsErrAnd r (λ e. e ≡ f)
    → (f ≢ refusals.OutOfMemory → planned ≡ Err f) → Gives refusals.OutOfMemory view r planned
refused view planned (Ok a) f is told = absurd is
refused view planned (Err e) f is told = λ known. told (λ same. known (is ∙ same)) ∙ ap Err (sym is)

pub drop_step : {X : Type 0} (xs : List X) (i : ℕ) (x : X) → i < length xs → x ≡ get_or xs i x → drop i xs ≡ x ∷ drop (i + 1) xs
drop_step xs i x within is =
    let next : suc i ≡ i + 1 = omega arith in
    drop-cons xs i x within ∙ (λ j. sym is j ∷ drop (next j) xs)

pub with_texts-append : (way : Direction) (texts : List (List ℕ)) (ks ls : List Key)
    → with_texts way texts (ks ++ ls) ≡ (with_texts way texts ks >>= λ more. with_texts way more ls)
with_texts-append way texts [] ls = refl
with_texts-append way texts (k ∷ ks) ls =
    by (nat_lt 500 (length (directed_text way k))) (with_texts-append way (texts ++ directed_text way k ∷ []) ks ls)
  where
    by : (long : Bool)
        → with_texts way (texts ++ directed_text way k ∷ []) (ks ++ ls)
        ≡ (with_texts way (texts ++ directed_text way k ∷ []) ks >>= λ more. with_texts way more ls)
        → unless long refusals.KeyTooLong (with_texts way (texts ++ directed_text way k ∷ []) (ks ++ ls))
        ≡ (unless long refusals.KeyTooLong (with_texts way (texts ++ directed_text way k ∷ []) ks) >>= λ more. with_texts way more ls)
    by true later = refl
    by false later = later

-- what one more reached value gives, which its keys decide
module _ (way : Direction) (rs : List Held) (i : ℕ) (r : Held) (texts : List (List ℕ)) (whole : Result (List (List ℕ)) Refusal) (lt : i < length rs)
    (is : r ≡ get_or rs i r)
    (so_far : with_texts way texts (flat_map keys_of (map reached (drop i rs))) ≡ whole) where
  rest : List Key
  rest = flat_map keys_of (map reached (drop (i + 1) rs))

  taken : (with_texts way texts (keys_of (reached r)) >>= λ more. with_texts way more rest) ≡ whole
  unfolding rest
  taken =
      sym (with_texts-append way texts (keys_of (reached r)) rest)
      ∙ sym (ap (λ (qs : List Held). with_texts way texts (flat_map keys_of (map reached qs))) (drop_step rs i r lt is))
      ∙ so_far

  pub reached_refused : (e : Refusal) → with_texts way texts (keys_of (reached r)) ≡ Err e → whole ≡ Err e
  reached_refused e gave = sym taken ∙ ap (λ (p : Result (List (List ℕ)) Refusal). p >>= λ more. with_texts way more rest) gave

  pub reached_more : (next : List (List ℕ)) → with_texts way texts (keys_of (reached r)) ≡ Ok next
      → with_texts way next (flat_map keys_of (map reached (drop (i + 1) rs))) ≡ whole
  unfolding rest
  reached_more next gave = sym (ap (λ (p : Result (List (List ℕ)) Refusal). p >>= λ more. with_texts way more rest) gave) ∙ taken

-- where something is reached
pub something : (rs : List Held) → (length rs == 0) ≡ false → or_missing (map reached rs) ≡ map reached rs
something [] e = absurd cc
something (r ∷ rs) e = refl

-- a refusal that a call hands on which changes a value
pub refused_doing : {X : Type 0} (new : X) (planned : Result X Refusal) (r : Result (Unit {0}) Refusal) (f : Refusal) → IsErrAnd r (λ e. e ≡ f)
    → (f ≢ refusals.OutOfMemory → planned ≡ Err f) → Does refusals.OutOfMemory r new planned
refused_doing new planned (Ok u) f is told = absurd is
refused_doing new planned (Err e) f is told = λ known. told (λ same. known (is ∙ same)) ∙ ap Err (sym is)

-- what one more item of an array gives
module _ (way : Direction) (vs : List Value) (i : ℕ) (v : Value) (texts : List (List ℕ)) (whole : Result (List (List ℕ)) Refusal) (lt : i < length vs)
    (is : v ≡ get_or vs i v) (so_far : with_texts way texts (map value (items_list (items_of (drop i vs)))) ≡ whole) where
  others : List Key
  others = map value (items_list (items_of (drop (i + 1) vs)))

  with_item : (with_texts way texts (value (tree v) ∷ []) >>= λ more. with_texts way more others) ≡ whole
  unfolding others
  with_item =
      sym (with_texts-append way texts (value (tree v) ∷ []) others)
      ∙ sym (ap (λ (ws : List Value). with_texts way texts (map value (items_list (items_of ws)))) (drop_step vs i v lt is))
      ∙ so_far

  pub item_refused : (e : Refusal) → with_texts way texts (value (tree v) ∷ []) ≡ Err e → whole ≡ Err e
  item_refused e gave = sym with_item ∙ ap (λ (p : Result (List (List ℕ)) Refusal). p >>= λ more. with_texts way more others) gave

  pub item_more : (next : List (List ℕ)) → with_texts way texts (value (tree v) ∷ []) ≡ Ok next
      → with_texts way next (map value (items_list (items_of (drop (i + 1) vs)))) ≡ whole
  unfolding others
  item_more next gave = sym (ap (λ (p : Result (List (List ℕ)) Refusal). p >>= λ more. with_texts way more others) gave) ∙ with_item

-- what one more field gives, which its longest text decides
module _ (fs : List Field) (i : ℕ) (f : Field) (ps : Pairs) (room : ℕ) (done : List (List (List ℕ))) (whole : Result (List (List (List ℕ))) Refusal)
    (lt : i < length fs) (is : f ≡ get_or fs i f) (so_far : texts_within room done (drop i fs) ps ≡ whole) where
  extends : List (List ℕ) → Result (List (List (List ℕ))) Refusal
  extends texts =
      unless (nat_lt room (longest texts)) refusals.KeyTooLong (texts_within (room - longest texts) (done ++ texts ∷ []) (drop (i + 1) fs) ps)

  with_field : (texts_at f ps >>= extends) ≡ whole
  unfolding extends
  with_field = sym (ap (λ (gs : List Field). texts_within room done gs ps) (drop_step fs i f lt is)) ∙ so_far

  pub field_refused : (e : Refusal) → texts_at f ps ≡ Err e → whole ≡ Err e
  field_refused e gave = sym with_field ∙ ap (λ (p : Result (List (List ℕ)) Refusal). p >>= extends) gave

  tried : (texts : List (List ℕ)) → texts_at f ps ≡ Ok texts → extends texts ≡ whole
  tried texts gave = sym (ap (λ (p : Result (List (List ℕ)) Refusal). p >>= extends) gave) ∙ with_field

  pub field_without_room : (texts : List (List ℕ)) → texts_at f ps ≡ Ok texts → room < longest texts → whole ≡ Err refusals.KeyTooLong
  unfolding extends
  field_without_room texts gave long =
      let test : nat_lt room (longest texts) ≡ true = grind (arith, nat_tests) in
      sym (tried texts gave)
      ∙ ap (λ (b : Bool). unless b refusals.KeyTooLong (texts_within (room - longest texts) (done ++ texts ∷ []) (drop (i + 1) fs) ps)) test

  pub field_more : (texts : List (List ℕ)) (next : List (List (List ℕ))) (left : ℕ) → texts_at f ps ≡ Ok texts → longest texts ≤ room
      → left ≡ room - longest texts → next ≡ done ++ texts ∷ [] → texts_within left next (drop (i + 1) fs) ps ≡ whole
  unfolding extends
  field_more texts next left gave short left_is grown =
      let test : nat_lt room (longest texts) ≡ false = grind (arith, nat_tests) in
      (λ j. texts_within (left_is j) (grown j) (drop (i + 1) fs) ps)
      ∙ sym (ap (λ (b : Bool). unless b refusals.KeyTooLong (texts_within (room - longest texts) (done ++ texts ∷ []) (drop (i + 1) fs) ps)) test)
      ∙ tried texts gave

-- an array that has an item
pub keys_listed : (vs : List Value) (ts : Items) (i : ℕ) → items_of vs ≡ ts → i < length vs → map value (items_list ts) ≡ array_keys ts
keys_listed [] ts i e lt = absurd (omega (arith, lt))
keys_listed (v ∷ vs) ts i e lt = subst (λ (us : Items). map value (items_list us) ≡ array_keys us) e refl

-- a refusal is that of all, whatever comes behind
pub refused_any : {X Y : Type 0} (b : Bool) (x : X) (e : Refusal) → unless b refusals.KeyTooLong (Ok x) ≡ Err e → (rest : Bool) (more : Result Y Refusal)
    → unless (b || rest) refusals.KeyTooLong more ≡ Err e
refused_any true x e h rest more = let same : refusals.KeyTooLong ≡ e = cc in ap Err same
refused_any false x e h rest more = absurd cc
