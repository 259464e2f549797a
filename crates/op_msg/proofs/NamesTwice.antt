-- Names that stand twice.
use Rattle.std.proofs.Common.{◌≡◌, ◌⊎◌, ℕ, zero, suc, ◌+◌, ◌<◌, ◌≤◌, Bool, true, false, ◌||◌, List, [], ◌∷◌, ◌++◌, length, take, drop, refl, sym, ap, ◌∙◌}
use Rattle.std.proofs.Common.{arith, inl, inr}
use Rattle.std.specs.Str.{bytes_eq}
use Rattle.std.proofs.lemmas.Bool.{cases_lt}
use Rattle.std.proofs.lemmas.List.{take-append-drop, length-append, length-take}
use Rattle.bson.specs.Lookup.{stands_in}
use Rattle.bson_bytes.specs.RawNames.{AreNew}
use Rattle.bson_bytes.proofs.TableLaws.{at_place, cons_is, take_front}
use Rattle.bson.proofs.PushLaws.{ne-bytes_eq, bytes_eq-ne}
use Rattle.op_msg.specs.Frame.{has_twice}

abbrev Name : Type 0
Name = List ℕ

turned : (a b : Name) → bytes_eq a b ≡ false → bytes_eq b a ≡ false
turned a b e = bytes_eq-ne b a (λ same. ne-bytes_eq a b e (sym same))

-- the first of a disjunction is false, and the second
neither : (a b : Bool) → (a || b) ≡ false → (a ≡ false) × (b ≡ false)
neither true b e = absurd cc
neither false b e = (refl, e)

-- ---- none stands twice

none_later : (x : Name) (xs : List Name) → ((earlier : List Name) (name : Name) (later : List Name) → xs ≡ earlier ++ name ∷ later → bytes_eq x name ≡ false)
    → stands_in xs x ≡ false
none_later x [] h = refl
none_later x (y ∷ ys) h = rw (h [] y ys refl, none_later x ys (λ earlier name later e. h (y ∷ earlier) name later (ap (λ (ns : List Name). y ∷ ns) e))) refl

pub none_twice : (names : List Name) (n : ℕ) → AreNew n names → length names ≤ n → has_twice names ≡ false
none_twice [] n h le = refl
none_twice (x ∷ xs) n h le = rw (none_later x xs first, none_twice xs (length xs) others (omega arith)) refl
  where
    new : (earlier : List Name) (name : Name) (later : List Name) → xs ≡ earlier ++ name ∷ later → length earlier < length xs
        → (bytes_eq name x ≡ false) × (stands_in earlier name ≡ false)
    new earlier name later e lt =
        neither (bytes_eq name x) (stands_in earlier name) (h (x ∷ earlier) name later (ap (λ (ns : List Name). x ∷ ns) e) (omega (arith, lt, le)))

    within : (earlier : List Name) (name : Name) (later : List Name) → xs ≡ earlier ++ name ∷ later → length earlier < length xs
    within earlier name later e = omega (arith, ap length e, length-append earlier (name ∷ later))

    first : (earlier : List Name) (name : Name) (later : List Name) → xs ≡ earlier ++ name ∷ later → bytes_eq x name ≡ false
    first earlier name later e = turned name x (new earlier name later e (within earlier name later e)).0

    others : AreNew (length xs) xs
    others earlier name later e lt = (new earlier name later e lt).1

-- fewer than two names
pub few_names : (names : List Name) → length names < 2 → false ≡ has_twice names
few_names [] lt = refl
few_names (x ∷ []) lt = refl
few_names (x ∷ y ∷ names) lt = absurd (omega arith)

-- ---- one name more

pub one_new : (names rest : List Name) (n : ℕ) (next : Name) → AreNew n names → drop n names ≡ next ∷ rest → stands_in (take n names) next ≡ false
    → AreNew (n + 1) names
one_new names rest n next h found fresh earlier name later e lt = by (cases_lt (length earlier) n)
  where
    by : (length earlier < n) ⊎ (n ≤ length earlier) → stands_in earlier name ≡ false
    by (inl less) = h earlier name later e less
    by (inr same) =
        let one = cons_is name next later rest (sym (at_place names earlier later name n e (omega arith)) ∙ found) in
        let front : take n names ≡ earlier = ap (take n) e ∙ take_front earlier (name ∷ later) n (omega arith) in
        (λ i. stands_in (sym front i) (one i)) ∙ fresh

-- a name that is new by its place
pub new_at : (names rest : List Name) (distinct n : ℕ) (next : Name) → AreNew distinct names → drop n names ≡ next ∷ rest → n < distinct
    → stands_in (take n names) next ≡ false
new_at names rest distinct n next h found lt =
    h (take n names) next rest (sym (take-append-drop n names) ∙ ap (λ (ns : List Name). take n names ++ ns) found) (omega (arith, lt, length-take n names))

-- ---- one stands twice

either_true : (a b : Bool) → b ≡ true → (a || b) ≡ true
either_true true b e = refl
either_true false b e = e

same_true : (x y next : Name) (b : Bool) → y ≡ next → bytes_eq next x ≡ true → (bytes_eq x y || b) ≡ true
same_true x y next b is e = by (bytes_eq x y) refl
  where
    by : (c : Bool) → bytes_eq x y ≡ c → (c || b) ≡ true
    by true f = refl
    by false f = let both : true ≡ false = sym e ∙ ap (λ (n : Name). bytes_eq n x) (sym is) ∙ turned x y f in absurd cc

there : (xs rest : List Name) (n : ℕ) (next x : Name) → drop n xs ≡ next ∷ rest → bytes_eq next x ≡ true → stands_in xs x ≡ true
there [] rest zero next x found e = absurd cc
there [] rest (suc n) next x found e = absurd cc
there (y ∷ ys) rest zero next x found e = same_true x y next (stands_in ys x) (cons_is y next ys rest found) e
there (y ∷ ys) rest (suc n) next x found e = either_true (bytes_eq x y) (stands_in ys x) (there ys rest n next x found e)

here_or_later : (x next : Name) (xs ys : List Name) → (bytes_eq next x ≡ true → stands_in xs x ≡ true) → (stands_in ys next ≡ true → has_twice xs ≡ true)
    → (bytes_eq next x || stands_in ys next) ≡ true → (stands_in xs x || has_twice xs) ≡ true
here_or_later x next xs ys here later = by (bytes_eq next x) here
  where
    by : (b : Bool) → (b ≡ true → stands_in xs x ≡ true) → (b || stands_in ys next) ≡ true → (stands_in xs x || has_twice xs) ≡ true
    by true h e = ap (λ (c : Bool). c || has_twice xs) (h refl)
    by false h e = either_true (stands_in xs x) (has_twice xs) (later e)

pub some_twice : (names rest : List Name) (n : ℕ) (next : Name) → drop n names ≡ next ∷ rest → stands_in (take n names) next ≡ true → has_twice names ≡ true
some_twice [] rest zero next found e = absurd cc
some_twice [] rest (suc n) next found e = absurd cc
some_twice (x ∷ xs) rest zero next found e = absurd cc
some_twice (x ∷ xs) rest (suc n) next found e =
    here_or_later x next xs (take n xs) (λ f. there xs rest n next x found f) (λ f. some_twice xs rest n next found f) e
