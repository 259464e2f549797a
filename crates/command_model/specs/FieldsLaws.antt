-- What each field keeps all fields keep, and what each value that is read has all of them have.
use Rattle.std.proofs.Common.{◌≡◌, ℕ, Bool, true, false, List, [], ◌∷◌, Option, Some, None, Result}
use Rattle.std.proofs.Common.{Ok, Err, refl, ap, subst, arith}
use Rattle.std.specs.Prelude.{◌||◌, All}
use Rattle.std.proofs.lemmas.List.Elements.{All-cons}
use Rattle.bson.specs.Tree.{Tree, Pairs, no_pairs, pair, Items, no_items, item}
use Rattle.outcome.specs.Outcome.{◌>>=◌, or_refused}
use Rattle.path.specs.declared.refusal.Refusal.{Refusal}
use Rattle.path.specs.declared.refusal.Refusal.TheVariants as refusals
use Rattle.command_model.specs.Fields.{read_fields}
use Rattle.command_model.specs.OutcomeLaws.{step_of}
use Rattle.command_model.specs.Statements.{each_of}

pub later_false : (a b : Bool) → (a || b) ≡ false → b ≡ false
later_false true b e = absurd cc
later_false false b e = e

pub first_false : (a b : Bool) → (a || b) ≡ false → a ≡ false
first_false true b e = absurd cc
first_false false b e = refl

-- what each field keeps, all fields keep
pub fields_keep : {F : Type 0} (P : F → Type 0) (read : F → List ℕ → Tree → Result F Refusal)
    → ((found next : F) (name : List ℕ) (t : Tree) → P found → read found name t ≡ Ok next → P next)
    → (ps : Pairs) (found next : F) → P found → read_fields read found ps ≡ Ok next → P next
fields_keep P read one no_pairs found next h e = let same : found ≡ next = cc in subst P same h
fields_keep P read one (pair name t ps) found next h e =
    let s = step_of (read found name t) (λ mid. read_fields read mid ps) next e in
    fields_keep P read one ps s.0 next (one found s.0 name t h s.1) s.2

-- what holds of whatever is read holds of all that are read
pub each_has : {X : Type 0} (P : X → Type 0) (read : Tree → Result X Refusal)
    → ((t : Tree) (x : X) → read t ≡ Ok x → P x) → (ts : Items) (xs : List X)
    → each_of read ts ≡ Ok xs → All P xs
each_has {X} P read one no_items xs e = let none : [] ≡ xs = cc in
    subst (λ (ys : List X). All P ys) none (λ k d below. absurd (omega arith))
each_has {X} P read one (item t ts) xs e =
    let s = step_of (read t)
    (λ x. each_of read ts >>= (λ others. let r : Result (List X) Refusal = Ok (x ∷ others) in r))
    xs e in
    let more : List X → Result (List X) Refusal = λ others. Ok (s.0 ∷ others) in
    let o = step_of (each_of read ts) more xs s.2 in
    let same : s.0 ∷ o.0 ≡ xs = cc in
    subst (λ (ys : List X). All P ys) same
    (All-cons P s.0 o.0 (one t s.0 s.1) (each_has P read one ts o.0 o.1))

pub there : {X : Type 0} (o : Option X) (x : X) → or_refused o refusals.FailedToParse ≡ Ok x
    → o ≡ Some x
there None x e = absurd cc
there {X} (Some y) x e = let same : y ≡ x = cc in ap (λ (z : X). Some z) same
