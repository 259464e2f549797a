-- Filters by which documents are looked for, and texts of `_id`s that are put behind others.
use Rattle.std.proofs.Common.{◌≡◌, ℕ, zero, suc, Bool, true, false, List, [], ◌∷◌, refl}
use Rattle.std.specs.Prelude.{◌||◌, get_or}
use Rattle.value_order.specs.KeyText.{tree_text}
use Rattle.filter.specs.Condition.{Conditions}
use Rattle.filter.specs.Matches.{matches}
use Rattle.index.specs.Changes.{is_among}
use Rattle.entry_model.specs.State.{key_of}
use Rattle.asked_documents.specs.ById.{ArePut, TellIdsBeside, one_matches}

-- ---- texts behind others

pub put_none : (old : List (List ℕ)) → ArePut old old
put_none old = record { texts = λ h. h; kept = λ text h. h }

pub put_on : (a b c : List (List ℕ)) → ArePut a b → ArePut b c → ArePut a c
put_on a b c first second = record {
  texts = λ h. second.texts (first.texts h);
  kept = λ text h. second.kept text (first.kept text h);
}

-- ---- one filter alone

pub or_last : (a b : Bool) → b ≡ true → (a || (b || false)) ≡ true
or_last true b e = refl
or_last false true e = refl
or_last false false e = absurd cc

pub alone_tells : (rs : Conditions) (texts : List (List ℕ)) → TellIdsBeside (matches rs) (one_matches (rs ∷ [])) texts
alone_tells rs texts d has passes = or_last (is_among texts (tree_text (key_of d))) (matches rs d) passes

-- the only one
pub only_at : {X : Type 0} (x : X) (at : ℕ) → x ≡ get_or (x ∷ []) at x
only_at x zero = refl
only_at x (suc at) = refl
