-- That one of a document's keys is too long is told by the longest text of each field.
use Rattle.std.proofs.Common.{◌≡◌, ℕ, ◌+◌, ◌-◌, ◌≤◌, Bool, true, false, nat_lt, ◌||◌, max, List, [], ◌∷◌, ◌++◌, length, map, Some, None, Result, Ok, refl, sym}
use Rattle.std.proofs.Common.{ap, ◌∙◌, arith, append_assoc, append-nil, length-append}
use Rattle.std.specs.List.{flat_map, list_any}
use Rattle.std.proofs.lemmas.List.Folds.{list_any-append}
use Rattle.std.proofs.lemmas.Bool.Decides.{nat_tests}
use Rattle.outcome.specs.Outcome.{unless, ◌>>=◌}
use Rattle.bson.specs.Tree.{scalar, document, array, Pairs, no_items, item}
use Rattle.value_order.specs.Order.{Key}
use Rattle.value_order.specs.KeyText.{directed_text}
use Rattle.value_order.specs.declared.texts.Direction.{Direction}
use Rattle.path.specs.Parts.{parts_of}
use Rattle.path.specs.Reach.{Reached, reach}
use Rattle.path.specs.declared.refusal.Refusal.{Refusal}
use Rattle.path.specs.declared.refusal.Refusal.TheVariants as refusals
use Rattle.index.specs.Definition.{Field}
use Rattle.index.specs.IndexKeys.{keys_of, or_missing, field_keys, index_keys}
use Rattle.index.specs.KeyTexts.{key_bytes, is_too_long}
use Rattle.index.specs.Steps.{with_texts, longest, texts_at, texts_within}

-- ---- tests on numbers

lt_max : (n a b : ℕ) → nat_lt n (max a b) ≡ (nat_lt n a || nat_lt n b)
lt_max n a b = grind (arith, nat_tests)

lt_either : (n m a b w : ℕ) → (nat_lt n ((m + a) + w) || nat_lt n (m + (b + w))) ≡ nat_lt n (m + (max a b + w))
lt_either n m a b w = grind (arith, nat_tests)

or_false : (b : Bool) → (b || false) ≡ b
or_false true = refl
or_false false = refl

-- ---- the texts of one field

abbrev pub field_texts : Field → Pairs → List (List ℕ)
field_texts f ps = map (directed_text f.direction) (field_keys f.path ps)

some_long : (n : ℕ) (ts : List (List ℕ)) → nat_lt n (longest ts) ≡ list_any (λ t. nat_lt n (length t)) ts
some_long n [] = grind (arith, nat_tests)
some_long n (t ∷ ts) = lt_max n (length t) (longest ts) ∙ ap (λ (b : Bool). nat_lt n (length t) || b) (some_long n ts)

with_texts_is : (way : Direction) (ts : List (List ℕ)) (ks : List Key)
    → with_texts way ts ks
    ≡ unless (list_any (λ t. nat_lt 500 (length t)) (map (directed_text way) ks)) refusals.KeyTooLong (Ok (ts ++ map (directed_text way) ks))
with_texts_is way ts [] = ap Ok (sym (append-nil ts))
with_texts_is way ts (k ∷ ks) =
    by (nat_lt 500 (length (directed_text way k)))
    (with_texts_is way (ts ++ directed_text way k ∷ []) ks
    ∙ ap (λ (all : List (List ℕ)). unless (list_any (λ t. nat_lt 500 (length t)) (map (directed_text way) ks)) refusals.KeyTooLong (Ok all))
    (append_assoc ts (directed_text way k ∷ []) (map (directed_text way) ks)))
  where
    by : (long : Bool)
        → with_texts way (ts ++ directed_text way k ∷ []) ks
        ≡ unless (list_any (λ t. nat_lt 500 (length t)) (map (directed_text way) ks)) refusals.KeyTooLong (Ok (ts ++ map (directed_text way) (k ∷ ks)))
        → unless long refusals.KeyTooLong (with_texts way (ts ++ directed_text way k ∷ []) ks)
        ≡ unless (long || list_any (λ t. nat_lt 500 (length t)) (map (directed_text way) ks)) refusals.KeyTooLong (Ok (ts ++ map (directed_text way) (k ∷ ks)))
    by true later = refl
    by false later = later

texts_at_is : (f : Field) (ps : Pairs) → texts_at f ps ≡ unless (nat_lt 500 (longest (field_texts f ps))) refusals.KeyTooLong (Ok (field_texts f ps))
texts_at_is f ps =
    with_texts_is f.direction [] (field_keys f.path ps)
    ∙ ap (λ (b : Bool). unless b refusals.KeyTooLong (Ok (field_texts f ps))) (sym (some_long 500 (field_texts f ps)))

-- ---- the texts of all fields

abbrev pub all_texts : List Field → Pairs → List (List (List ℕ))
all_texts fs ps = map (λ f. field_texts f ps) fs

abbrev widths : List Field → Pairs → ℕ
widths [] ps = 0
widths (f ∷ fs) ps = longest (field_texts f ps) + widths fs ps

one_refused : {X : Type 0} (room wide more : ℕ) (x : X) → room ≤ 500
    → unless (nat_lt room wide) refusals.KeyTooLong (unless (nat_lt (room - wide) more) refusals.KeyTooLong (Ok x))
    ≡ unless (nat_lt room (wide + more)) refusals.KeyTooLong (Ok x)
one_refused room wide more x small = by (nat_lt room wide) refl
  where
    by : (b : Bool) → nat_lt room wide ≡ b
        → unless b refusals.KeyTooLong (unless (nat_lt (room - wide) more) refusals.KeyTooLong (Ok x))
        ≡ unless (nat_lt room (wide + more)) refusals.KeyTooLong (Ok x)
    by true e =
        let over : nat_lt room (wide + more) ≡ true = grind (arith, nat_tests) in
        sym (ap (λ (b : Bool). unless b refusals.KeyTooLong (Ok x)) over)
    by false e =
        let same : nat_lt (room - wide) more ≡ nat_lt room (wide + more) = grind (arith, nat_tests) in
        ap (λ (b : Bool). unless b refusals.KeyTooLong (Ok x)) same

-- a text that is too long by itself has no room either
no_room : {X : Type 0} (room : ℕ) (texts : List (List ℕ)) (go : List (List ℕ) → Result X Refusal) → room ≤ 500
    → ((unless (nat_lt 500 (longest texts)) refusals.KeyTooLong (Ok texts)) >>= λ ts. unless (nat_lt room (longest ts)) refusals.KeyTooLong (go ts))
    ≡ unless (nat_lt room (longest texts)) refusals.KeyTooLong (go texts)
no_room room texts go small = by (nat_lt 500 (longest texts)) refl
  where
    by : (b : Bool) → nat_lt 500 (longest texts) ≡ b
        → ((unless b refusals.KeyTooLong (Ok texts)) >>= λ ts. unless (nat_lt room (longest ts)) refusals.KeyTooLong (go ts))
        ≡ unless (nat_lt room (longest texts)) refusals.KeyTooLong (go texts)
    by true e =
        let over : nat_lt room (longest texts) ≡ true = grind (arith, nat_tests) in
        sym (ap (λ (b : Bool). unless b refusals.KeyTooLong (go texts)) over)
    by false e = refl

pub within_is : (room : ℕ) (done : List (List (List ℕ))) (fs : List Field) (ps : Pairs) → room ≤ 500
    → texts_within room done fs ps ≡ unless (nat_lt room (widths fs ps)) refusals.KeyTooLong (Ok (done ++ all_texts fs ps))
within_is room done [] ps small =
    let fits : nat_lt room 0 ≡ false = grind (arith, nat_tests) in
    ap Ok (sym (append-nil done)) ∙ sym (ap (λ (b : Bool). unless b refusals.KeyTooLong (Ok (done ++ []))) fits)
within_is room done (f ∷ fs) ps small =
    let texts = field_texts f ps in
    let wide = longest texts in
    let left : room - wide ≤ 500 = omega arith in
    let go : List (List ℕ) → Result (List (List (List ℕ))) Refusal = λ ts. texts_within (room - longest ts) (done ++ ts ∷ []) fs ps in
    ap (λ (p : Result (List (List ℕ)) Refusal). p >>= λ ts. unless (nat_lt room (longest ts)) refusals.KeyTooLong (go ts)) (texts_at_is f ps)
    ∙ no_room room texts go small
    ∙ ap (unless (nat_lt room wide) refusals.KeyTooLong)
    (within_is (room - wide) (done ++ texts ∷ []) fs ps left
    ∙ ap (λ (all : List (List (List ℕ))). unless (nat_lt (room - wide) (widths fs ps)) refusals.KeyTooLong (Ok all))
    (append_assoc done (texts ∷ []) (all_texts fs ps)))
    ∙ one_refused room wide (widths fs ps) (done ++ all_texts (f ∷ fs) ps) small

-- ---- the keys

-- a field has a key
abbrev HasOne : List Key → Type 0
HasOne ks = (k : Key) × (rest : List Key) × (ks ≡ k ∷ rest)

keys_some : (r : Reached) (more : List Key) → HasOne (keys_of r ++ more)
keys_some None more = (_, _, refl)
keys_some (Some (scalar s)) more = (_, _, refl)
keys_some (Some (document ps)) more = (_, _, refl)
keys_some (Some (array no_items)) more = (_, _, refl)
keys_some (Some (array (item t ts))) more = (_, _, refl)

field_some : (rs : List Reached) → HasOne (flat_map keys_of (or_missing rs))
field_some [] = keys_some None []
field_some (r ∷ rs) = keys_some r (flat_map keys_of rs)

any_map : {A B : Type 0} (p : B → Bool) (f : A → B) (xs : List A) → list_any p (map f xs) ≡ list_any (λ x. p (f x)) xs
any_map p f [] = refl
any_map p f (x ∷ xs) = ap (λ (b : Bool). p (f x) || b) (any_map p f xs)

any_same : {A : Type 0} (p q : A → Bool) (xs : List A) → ((x : A) → p x ≡ q x) → list_any p xs ≡ list_any q xs
any_same p q [] same = refl
any_same p q (x ∷ xs) same = λ i. same x i || any_same p q xs same i

any_flat : {A B : Type 0} (p : B → Bool) (f : A → List B) (xs : List A) → list_any p (flat_map f xs) ≡ list_any (λ x. list_any p (f x)) xs
any_flat p f [] = refl
any_flat p f (x ∷ xs) = list_any-append p (f x) (flat_map f xs) ∙ ap (λ (b : Bool). list_any p (f x) || b) (any_flat p f xs)

most_of : (way : Direction) (m w : ℕ) (k : Key) (ks : List Key)
    → list_any (λ l. nat_lt 500 ((m + length (directed_text way l)) + w)) (k ∷ ks) ≡ nat_lt 500 (m + (longest (map (directed_text way) (k ∷ ks)) + w))
most_of way m w k [] =
    let last : nat_lt 500 ((m + length (directed_text way k)) + w) ≡ nat_lt 500 (m + (max (length (directed_text way k)) 0 + w)) = grind (arith, nat_tests) in
    or_false _ ∙ last
most_of way m w k (l ∷ ks) =
    ap (λ (b : Bool). nat_lt 500 ((m + length (directed_text way k)) + w) || b) (most_of way m w l ks)
    ∙ lt_either 500 m (length (directed_text way k)) (longest (map (directed_text way) (l ∷ ks))) w

some_most : (way : Direction) (m w : ℕ) (ks : List Key) → HasOne ks
    → list_any (λ l. nat_lt 500 ((m + length (directed_text way l)) + w)) ks ≡ nat_lt 500 (m + (longest (map (directed_text way) ks) + w))
some_most way m w [] (k, rest, e) = absurd cc
some_most way m w (k ∷ ks) one = most_of way m w k ks

longer : (m : ℕ) (f : Field) (fs : List Field) (k : Key) (ks : List Key)
    → m + length (key_bytes (f ∷ fs) (k ∷ ks)) ≡ (m + length (directed_text f.direction k)) + length (key_bytes fs ks)
longer m f fs k ks = omega (arith, length-append (directed_text f.direction k) (key_bytes fs ks))

-- the keys that begin with one value
long_behind : (m : ℕ) (f : Field) (fs : List Field) (ps : Pairs) (k : Key)
    → ((n : ℕ) → list_any (λ ks. nat_lt 500 (n + length (key_bytes fs ks))) (index_keys fs ps) ≡ nat_lt 500 (n + widths fs ps))
    → list_any (λ ks. nat_lt 500 (m + length (key_bytes (f ∷ fs) ks))) (map (λ ks. k ∷ ks) (index_keys fs ps))
    ≡ nat_lt 500 ((m + length (directed_text f.direction k)) + widths fs ps)
long_behind m f fs ps k more =
    any_map (λ ks. nat_lt 500 (m + length (key_bytes (f ∷ fs) ks))) (λ ks. k ∷ ks) (index_keys fs ps)
    ∙ any_same _ _ (index_keys fs ps) (λ ks. ap (nat_lt 500) (longer m f fs k ks))
    ∙ more (m + length (directed_text f.direction k))

long_from : (m : ℕ) (fs : List Field) (ps : Pairs)
    → list_any (λ ks. nat_lt 500 (m + length (key_bytes fs ks))) (index_keys fs ps) ≡ nat_lt 500 (m + widths fs ps)
long_from m [] ps = or_false _
long_from m (f ∷ fs) ps =
    any_flat (λ ks. nat_lt 500 (m + length (key_bytes (f ∷ fs) ks))) (λ k. map (λ ks. k ∷ ks) (index_keys fs ps)) (field_keys f.path ps)
    ∙ any_same _ _ (field_keys f.path ps) (λ k. long_behind m f fs ps k (λ n. long_from n fs ps))
    ∙ some_most f.direction m (widths fs ps) (field_keys f.path ps) (field_some (reach (parts_of f.path) (document ps)))

pub too_long_is : (fs : List Field) (ps : Pairs) → is_too_long fs ps ≡ nat_lt 500 (widths fs ps)
too_long_is fs ps = any_same _ _ (index_keys fs ps) (λ ks. ap (nat_lt 500) (zero_front (length (key_bytes fs ks)))) ∙ long_from 0 fs ps
    ∙ ap (nat_lt 500) (sym (zero_front (widths fs ps)))
  where
    zero_front : (n : ℕ) → n ≡ 0 + n
    zero_front n = omega arith

-- what the code finds of the fields' texts is what the definition says of the keys
pub texts_found : (fs : List Field) (ps : Pairs) → texts_within 500 [] fs ps ≡ unless (is_too_long fs ps) refusals.KeyTooLong (Ok (all_texts fs ps))
texts_found fs ps =
    within_is 500 [] fs ps (omega arith) ∙ ap (λ (b : Bool). unless b refusals.KeyTooLong (Ok (all_texts fs ps))) (sym (too_long_is fs ps))
