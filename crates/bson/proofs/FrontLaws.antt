-- What stands at the front of a list that grew.
use Rattle.std.proofs.Common.{◌≡◌, ℕ, List, ◌++◌, length, take, drop, refl, sym, ◌∙◌, ap, append_assoc}
use Rattle.std.proofs.lemmas.List.{take_at, take-append-drop}
use Rattle.bson.specs.Writing.{IsFront}

-- more behind it
longer : (old new more : List ℕ) → new ≡ old ++ more → IsFront old new
longer old new more e = ap (take (length old)) e ∙ take_at old more (length old) refl

-- a list is its front and what comes behind
whole : (old new : List ℕ) → IsFront old new → new ≡ old ++ drop (length old) new
whole old new e = sym (take-append-drop (length old) new) ∙ ap (λ (x : List ℕ). x ++ drop (length old) new) e

-- a front of a front
pub onwards : (old mid new : List ℕ) → IsFront old mid → IsFront mid new → IsFront old new
onwards old mid new a b =
    longer old new (drop (length old) mid ++ drop (length mid) new)
    (whole mid new b ∙ ap (λ (x : List ℕ). x ++ drop (length mid) new) (whole old mid a) ∙ append_assoc old (drop (length old) mid) (drop (length mid) new))

-- behind two pieces more
pub after_two : (old a b new : List ℕ) → new ≡ (old ++ a) ++ b → IsFront old new
after_two old a b new e = longer old new (a ++ b) (e ∙ append_assoc old a b)
