-- What a function gives of each member of a list: one more.
use Rattle.std.proofs.Common.{◌≡◌, ◌++◌, List, [], ◌∷◌, Result, Ok, Err, refl, sym, ap, ◌∙◌}
use Rattle.std.proofs.lemmas.List.{append_assoc}
use Rattle.path.specs.declared.refusal.Refusal.{Refusal}
use Rattle.aggregate_model.specs.Each.{behind, each}

pub behind-none : {X : Type 0} (more : Result (List X) Refusal) → behind [] more ≡ more
behind-none (Ok xs) = refl
behind-none (Err e) = refl

behind-twice : {X : Type 0} (xs ys : List X) (more : Result (List X) Refusal) → behind xs (behind ys more) ≡ behind (xs ++ ys) more
behind-twice xs ys (Ok zs) = ap Ok (sym (append_assoc xs ys zs))
behind-twice xs ys (Err e) = refl

module _ {X Y : Type 0} (give : X → Result (List Y) Refusal) where
  pub each_more : (before next : List Y) (x : X) (xs : List X) (planned : Result (List Y) Refusal) → behind before (give x) ≡ Ok next
      → behind before (each give (x ∷ xs)) ≡ planned → behind next (each give xs) ≡ planned
  each_more before next x xs planned made so_far = by (give x) refl made
    where
      by : (r : Result (List Y) Refusal) → give x ≡ r → behind before r ≡ Ok next → behind next (each give xs) ≡ planned
      by (Err e) is grown = absurd cc
      by (Ok ys) is grown =
          let same : before ++ ys ≡ next = cc grown in
          ap (λ (zs : List Y). behind zs (each give xs)) (sym same) ∙ sym (behind-twice before ys (each give xs)) ∙ sym (rw is refl) ∙ so_far

  pub each_stops : (before : List Y) (x : X) (xs : List X) (e : Refusal) (planned : Result (List Y) Refusal) → behind before (give x) ≡ Err e
      → behind before (each give (x ∷ xs)) ≡ planned → planned ≡ Err e
  each_stops before x xs e planned made so_far = by (give x) refl made
    where
      by : (r : Result (List Y) Refusal) → give x ≡ r → behind before r ≡ Err e → planned ≡ Err e
      by (Err f) is grown = let same : ◌≡◌ {A = Result (List Y) Refusal} (Err f) (Err e) = cc grown in sym so_far ∙ rw is same
      by (Ok ys) is grown = absurd cc
