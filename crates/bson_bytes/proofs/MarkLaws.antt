-- Marks of names: one more byte, one more name.
use Rattle.std.proofs.Common.{◌≡◌, ◌≢◌, ℕ, ◌+◌, ◌*◌, ◌^◌, ◌<◌, Bool, true, false, List, [], ◌∷◌, ◌++◌, length, get_or, set, take, refl, sym, ap, ◌∙◌, arith}
use Rattle.std.specs.Prelude.{◌%◌}
use Rattle.std.proofs.lemmas.Grind.{get_or-set_at}
use Rattle.std.proofs.lemmas.List.{get_or-set_other, take_more}
use Rattle.std.proofs.lemmas.List.Folds.{list_any-append}
use Rattle.std.specs.Str.{bytes_eq}
use Rattle.bson_bytes.specs.Marks.{mixed, mark, name_mark, AreMarked}
use Rattle.bson.proofs.PushLaws.{bytes_eq-ne}

pub mark_within : (m : ℕ) → mark m < 256
unfolding mark
mark_within m = omega arith

pub mixed-append : (m : ℕ) (bytes : List ℕ) (b : ℕ) → mixed m (bytes ++ b ∷ []) ≡ ((mixed m bytes * 9) % 2 ^ 64 + b) % 2 ^ 64
mixed-append m [] b = refl
mixed-append m (c ∷ bytes) b = mixed-append (((m * 9) % 2 ^ 64 + c) % 2 ^ 64) bytes b

-- one byte more of a name that begins bytes
pub mixed_more : (bytes : List ℕ) (n m : ℕ) → n < length bytes → m ≡ mixed 0 (take n bytes)
    → ((m * 9) % 2 ^ 64 + get_or bytes n 0) % 2 ^ 64 ≡ mixed 0 (take (n + 1) bytes)
mixed_more bytes n m lt is =
    ap (λ (k : ℕ). ((k * 9) % 2 ^ 64 + get_or bytes n 0) % 2 ^ 64) is ∙ sym (mixed-append 0 (take n bytes) (get_or bytes n 0))
    ∙ ap (mixed 0) (sym (take_more bytes n 0 lt))

pub none_marked : (marks : List Bool) → AreMarked [] marks
none_marked marks name off = refl

-- one name more
pub marked_more : (names : List (List ℕ)) (marks : List Bool) (name : List ℕ) (place : ℕ) → place ≡ name_mark name → place < length marks
    → AreMarked names marks → AreMarked (names ++ name ∷ []) (set marks place true)
marked_more names marks name place is lt h other off =
    list_any-append (bytes_eq other) names (name ∷ []) ∙ rw (h other kept, differ) refl
  where
    apart : name_mark other ≢ place
    apart same = absurd (set_on (sym (get_or-set_at marks place (name_mark other) true false same lt) ∙ off))
      where
        set_on : true ≡ false → ⊥
        set_on e = absurd cc

    kept : get_or marks (name_mark other) false ≡ false
    kept = sym (get_or-set_other marks place (name_mark other) true false apart) ∙ off

    differ : bytes_eq other name ≡ false
    differ = bytes_eq-ne other name (λ same. apart (ap name_mark same ∙ sym is))
