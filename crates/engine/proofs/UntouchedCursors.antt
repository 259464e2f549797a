-- Cursors that the running turn has neither opened nor advanced.
use Rattle.std.proofs.Common.{◌≡◌, Bool, true, false, List, [], ◌∷◌, map, refl}
use Rattle.std.specs.List.{filter}
use Rattle.std.specs.Prelude.{◌&&◌, not}
use Rattle.database_model.specs.World.{Cursor, at_rest, untouched, are_untouched}

pub rested_untouched : (cs : List Cursor) → are_untouched (map at_rest cs) ≡ true
rested_untouched [] = refl
rested_untouched (c ∷ cs) = rested_untouched cs

pub filter_untouched : (p : Cursor → Bool) (cs : List Cursor) → are_untouched cs ≡ true → are_untouched (filter p cs) ≡ true
filter_untouched p [] e = refl
filter_untouched p (c ∷ cs) e = at (not c.touched) (p c) refl refl e (λ f. filter_untouched p cs f)
  where
    at : (clean kept : Bool) → not c.touched ≡ clean → p c ≡ kept → (clean && are_untouched cs) ≡ true
        → (are_untouched cs ≡ true → are_untouched (filter p cs) ≡ true) → are_untouched (filter p (c ∷ cs)) ≡ true
    at true true r k e later = rw k (rw r (later e))
    at true false r k e later = rw k (later e)
    at false kept r k e later = absurd cc

pub untouched_untouched : (cs : List Cursor) → are_untouched (untouched cs) ≡ true
untouched_untouched [] = refl
untouched_untouched (c ∷ cs) = at (not c.touched) refl (untouched_untouched cs)
  where
    at : (clean : Bool) → not c.touched ≡ clean → are_untouched (untouched cs) ≡ true → are_untouched (untouched (c ∷ cs)) ≡ true
    at true r later = rw r (rw r later)
    at false r later = rw r later
