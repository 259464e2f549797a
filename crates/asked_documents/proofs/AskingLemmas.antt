-- What is known before anything is read, of vectors that came, and of answers.
use Rattle.std.proofs.Common.{◌≡◌, ◌≢◌, inl, inr, ℕ, true, false, List, [], ◌∷◌, length, Result, Ok, Err, refl, ap, sym, ◌∙◌, arith}
use Rattle.std.specs.Prelude.{◌==◌, IfOk}
use Rattle.std.specs.Global.{Vec}
use Rattle.std.proofs.lemmas.Bool.{eqb-true}
use Rattle.page.specs.History.{History}
use Rattle.path.specs.declared.refusal.Refusal.{Refusal}
use Rattle.path.specs.declared.refusal.Refusal.TheVariants as refusals
use Rattle.entry_model.specs.State.{Collection}
use Rattle.collections.specs.Lookups.{ReadsOf}
use Rattle.collections.specs.State.{State}
use Rattle.collections.specs.View.{is_stopped}
use Rattle.asked_documents.proofs.ReadingLemmas.{goes_itself}

-- before anything is read
module _ {D A X : Type 0} (history : D → History) (Is : List Collection → A → Type 0) (Q : List Collection → A → X → Type 0) (old : State D) where
  pub asks_stopped : is_stopped old ≡ true → ReadsOf history Is Q (Err refusals.StorageFailed) old old
  asks_stopped stopped = record
      { extends = goes_itself history old; unchanged = refl; same = λ start now has. has; answers = λ k start now has asked is. inr (refl, inl stopped) }

  pub asks_memory : (e : Refusal) → e ≡ refusals.OutOfMemory → ReadsOf history Is Q (Err e) old old
  asks_memory e is = record { extends = goes_itself history old; unchanged = refl; same = λ start now has. has; answers = λ k start now has asked so. inl is }

-- a vector that is empty has no items
pub none_there : {X : Type 0} (v : Vec X) → (v.len == 0) ≡ true → v.items ≡ []
none_there v is = none v.items (omega (arith, eqb-true v.len 0 is, v.ok.0))
  where
    none : {X : Type 0} (xs : List X) → length xs ≡ 0 → xs ≡ []
    none [] e = refl
    none (x ∷ xs) e = absurd (omega (arith, e))

-- one that is not empty has some
pub some_there : {X : Type 0} (v : Vec X) → (v.len == 0) ≡ false → v.items ≢ []
some_there v is none =
    let zero : v.len ≡ 0 = omega (arith, v.ok.0, ap length none) in
    let both : true ≡ false = sym (ap (λ (n : ℕ). n == 0) zero) ∙ is in
    absurd cc

-- what holds of an answer holds less of it
pub if_ok : {X E : Type 0} {P Q : X → Type 0} (r : Result X E) → ((x : X) → P x → Q x) → IfOk r P → IfOk r Q
if_ok (Ok x) f h = f x h
if_ok (Err e) f h = tt
