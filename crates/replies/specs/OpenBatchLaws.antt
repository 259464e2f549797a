-- How many documents a batch has of those that were offered to it.
use Rattle.std.proofs.Common.{◌≡◌, ℕ, zero, suc, ◌+◌, ◌-◌, Bool, false, List, [], ◌∷◌, ◌++◌}
use Rattle.std.proofs.Common.{length, refl, sym, ap, ◌∙◌, arith}
use Rattle.std.specs.Prelude.{not, ◌&&◌, ◌||◌, ◌==◌, nat_le, if◌then◌else◌}
use Rattle.std.proofs.lemmas.Bool.Decides.{nat_tests}
use Rattle.std.proofs.lemmas.List.{append-nil}
use Rattle.bson.specs.Tree.{Pairs}
use Rattle.database_model.specs.Cursors.{batch_len, batch_of, item_size}
use Rattle.replies.specs.OpenBatch.{HasGiven, has_room}
use Rattle.replies.specs.declared.open_batch.OpenBatch.{OpenBatch}

-- all of them
pub counts_all : (b : OpenBatch) (ds : List Pairs) → HasGiven b ds → batch_of b.most ds ≡ length ds
counts_all b ds h =
    let whole : batch_of b.most ds ≡ b.count + batch_len b.count (b.most - b.count) b.room [] =
    ap (batch_of b.most) (sym (append-nil ds)) ∙ h.goes_on [] in
    omega (arith, whole, h.counted)

-- whether it goes in by its size
abbrev fits_in : ℕ → ℕ → Pairs → Bool
fits_in i room d = i == 0 || nat_le (item_size i d) room

none_goes : (i most room : ℕ) (d : Pairs) (more : List Pairs)
    → (not (nat_le most i) && fits_in i room d) ≡ false
    → batch_len i (most - i) room (d ∷ more) ≡ 0
none_goes i most room d more full = at (most - i) refl
  where
    at : (left : ℕ) → most - i ≡ left → batch_len i left room (d ∷ more) ≡ 0
    at zero e = refl
    at (suc left) e =
        let some : nat_le most i ≡ false = grind (arith, nat_tests) in
        let over : fits_in i room d ≡ false =
        sym (ap (λ (b : Bool). not b && fits_in i room d) some) ∙ full in
        let next = batch_len (i + 1) left (room - item_size i d) more in
        ap (λ (b : Bool). if b then suc next else 0) over

-- those before the first one for which there was no room
pub counts_front : (b : OpenBatch) (ds : List Pairs) (d : Pairs) (more : List Pairs) → HasGiven b ds
    → has_room b d ≡ false → batch_of b.most (ds ++ d ∷ more) ≡ length ds
counts_front b ds d more h full =
    omega (
      arith,
      h.goes_on (d ∷ more),
      none_goes b.count b.most b.room d more full,
      h.counted,
    )
