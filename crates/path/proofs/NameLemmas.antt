-- Parts of a path, one after another.
use Rattle.std.proofs.Common.{◌≡◌, ℕ, suc, ◌+◌, ◌*◌, ◌-◌, ◌<◌, Bool, true, false, if◌then◌else◌, List, [], ◌∷◌, length, drop, get_or, Option, Some, None, min}
use Rattle.std.proofs.Common.{refl, sym, ap, ◌∙◌, arith, drop-cons, eq-eqb}
use Rattle.std.proofs.lemmas.Bool.{false≢true}
use Rattle.std.proofs.lemmas.List.Splits.{length-slice_split}
use Rattle.std.specs.Prelude.{◌≢◌, ◌==◌, ◌||◌, nat_lt}
use Rattle.std.specs.List.{list_any}
use Rattle.bson.specs.Lawful.{NoZero}
use Rattle.path.specs.Parts.{is_empty, begins_with_dollar, has_zero, path_fault, parts_of, Passes, number}
use Rattle.path.specs.declared.fault.PathFault.{PathFault}
use Rattle.path.specs.declared.fault.PathFault.TheVariants as faults

pub drop_step : {X : Type 0} (xs : List X) (i : ℕ) (x : X) → i < length xs → x ≡ get_or xs i x → drop i xs ≡ x ∷ drop (i + 1) xs
drop_step xs i x within is =
    let next : suc i ≡ i + 1 = omega arith in
    drop-cons xs i x within ∙ (λ j. sym is j ∷ drop (next j) xs)

-- each part passes the tests that a part has to
abbrev pub AllPass : List (List ℕ) → Type 0
AllPass [] = Unit {0}
AllPass (name ∷ names) = Passes name × AllPass names

or_none : (a b : Bool) → (a || b) ≡ false → (a ≡ false) × (b ≡ false)
or_none true b e = absurd cc
or_none false b e = (refl, e)

all_pass : (names : List (List ℕ)) → list_any is_empty names ≡ false → list_any begins_with_dollar names ≡ false → list_any has_zero names ≡ false
    → AllPass names
all_pass [] a b c = tt
all_pass (name ∷ names) a b c =
    let p = or_none (is_empty name) (list_any is_empty names) a in
    let q = or_none (begins_with_dollar name) (list_any begins_with_dollar names) b in
    let r = or_none (has_zero name) (list_any has_zero names) c in
    (record { not_empty = p.0; no_dollar = q.0; no_zero = r.0 }, all_pass names p.1 q.1 r.1)

no_fault : (b : Bool) (e : PathFault) (o : Option PathFault) → (if b then Some e else o) ≡ None → (b ≡ false) × (o ≡ None)
no_fault true e o is = absurd cc
no_fault false e o is = (refl, is)

pub faultless : (text : List ℕ) (names : List (List ℕ)) → path_fault text names ≡ None → AllPass names
faultless text names e =
    let a = no_fault (is_empty text) faults.Empty _ e in
    let b = no_fault (list_any is_empty names) faults.EmptyPart _ a.1 in
    let c = no_fault (list_any begins_with_dollar names) faults.Dollar _ b.1 in
    let d = no_fault (nat_lt 255 (length text)) faults.TooLong _ c.1 in
    let f = no_fault (list_any has_zero names) faults.Zero _ d.1 in
    all_pass names b.0 c.0 f.0

pub no_zero : (name : List ℕ) → has_zero name ≡ false → NoZero name
no_zero [] e = tt
no_zero (b ∷ bs) e =
    let p = or_none (b == 0) (has_zero bs) e in
    (λ same. false≢true (sym p.0 ∙ eq-eqb b 0 same), no_zero bs p.1)

pub some_part : (text : List ℕ) → parts_of text ≢ []
some_part text e = absurd (omega (arith, length-slice_split (λ (b : ℕ). b == 46) text, ap length e))

-- ---- the number that digits write

pub number-capped : (m a : ℕ) (bs : List ℕ) → min m (number (min m a) bs) ≡ min m (number a bs)
number-capped m a [] = omega arith
number-capped m a (b ∷ bs) =
    let same : min m (min m a * 10 + (b - 48)) ≡ min m (a * 10 + (b - 48)) = omega arith in
    sym (number-capped m (min m a * 10 + (b - 48)) bs) ∙ ap (λ (n : ℕ). min m (number n bs)) same ∙ number-capped m (a * 10 + (b - 48)) bs

pub number_step : (m n next total : ℕ) (b : ℕ) (bs left : List ℕ) → left ≡ b ∷ bs → next ≡ min m (n * 10 + (b - 48)) → min m (number n left) ≡ min m total
    → min m (number next bs) ≡ min m total
number_step m n next total b bs left e same h =
    ap (λ (k : ℕ). min m (number k bs)) same ∙ number-capped m (n * 10 + (b - 48)) bs ∙ ap (λ (l : List ℕ). min m (number n l)) (sym e) ∙ h
