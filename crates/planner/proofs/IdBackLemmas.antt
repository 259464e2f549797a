-- The text of the `_id` in the text of an index's entry stands at its end.
use Rattle.std.proofs.Common.{◌≡◌, ℕ, zero, suc, ◌+◌, ◌-◌, Bool, true, false, List, [], ◌∷◌, ◌++◌, length, take, drop, Option, Some, None, refl, sym, ap}
use Rattle.std.proofs.Common.{◌∙◌, subst, arith, append_assoc, length-append}
use Rattle.std.specs.Prelude.{IfSome, ◌==◌, nat_lt, if◌then◌else◌}
use Rattle.std.specs.Option.{option_and_then}
use Rattle.std.proofs.lemmas.List.{take-append-drop}
use Rattle.std.proofs.Math.Seq.{drop-append_seam}
use Rattle.value_order.specs.declared.texts.Direction.{Direction}
use Rattle.index.specs.Definition.{Field}
use Rattle.planner.specs.KeyScan.{plain, behind, behind_name, behind_string, number_in, behind_binary, behind_scalar, behind_value, behind_pairs}
use Rattle.planner.specs.KeyScan.{behind_items, behind_fields, id_text}

-- it stands at the end of the other
pub record StandsBack (all rest : List ℕ) : Type 0 where
  pub front : List ℕ
  pub is : all ≡ front ++ rest

abbrev IsBack : List ℕ → Option (List ℕ) → Type 0
IsBack all o = IfSome o (StandsBack all)

whole_back : (all : List ℕ) → StandsBack all all
whole_back all = record { front = []; is = refl }

back_on : (all mid rest : List ℕ) → StandsBack all mid → StandsBack mid rest → StandsBack all rest
back_on all mid rest m r = record {
  front = m.front ++ r.front;
  is = m.is ∙ ap (λ (zs : List ℕ). m.front ++ zs) r.is ∙ sym (append_assoc m.front r.front rest);
}

further : (all mid : List ℕ) (o : Option (List ℕ)) → StandsBack all mid → IsBack mid o → IsBack all o
further all mid None m h = tt
further all mid (Some rest) m h = back_on all mid rest m h

next : (b : ℕ) (bs : List ℕ) → StandsBack (b ∷ bs) bs
next b bs = record { front = b ∷ []; is = refl }

behind_one : (b : ℕ) (bs : List ℕ) (o : Option (List ℕ)) → IsBack bs o → IsBack (b ∷ bs) o
behind_one b bs o h = further (b ∷ bs) bs o (next b bs) h

either : (c : Bool) (all : List ℕ) (x y : Option (List ℕ)) → IsBack all x → IsBack all y → IsBack all (if c then x else y)
either true all x y h k = h
either false all x y h k = k

and_then : (all : List ℕ) (f : List ℕ → Option (List ℕ)) (o : Option (List ℕ)) → IsBack all o → ((mid : List ℕ) → IsBack mid (f mid))
    → IsBack all (option_and_then f o)
and_then all f None h each = tt
and_then all f (Some mid) h each = further all mid (f mid) h (each mid)

-- ---- behind what holds no other value

dropped : (n : ℕ) (bs : List ℕ) → StandsBack bs (drop n bs)
dropped n bs = record { front = take n bs; is = sym (take-append-drop n bs) }

behind_back : (n : ℕ) (bs : List ℕ) → IsBack bs (behind n bs)
behind_back n bs = either (nat_lt (length bs) n) bs None (Some (drop n bs)) tt (dropped n bs)

name_back : (d : Direction) (bs : List ℕ) → IsBack bs (behind_name d bs)
name_back d [] = tt
name_back d (b ∷ bs) =
    either (plain d b == 0) (b ∷ bs) (Some bs) (behind_name d bs) (next b bs) (behind_one b bs (behind_name d bs) (name_back d bs))

string_back : (d : Direction) (after_zero : Bool) (bs : List ℕ) → IsBack bs (behind_string d after_zero bs)
string_back d after_zero [] = tt
string_back d after_zero (b ∷ bs) =
    either (plain d b == 0) (b ∷ bs) (if after_zero then Some bs else behind_string d true bs) (behind_string d false bs)
    (either after_zero (b ∷ bs) (Some bs) (behind_string d true bs) (next b bs) (behind_one b bs (behind_string d true bs) (string_back d true bs)))
    (behind_one b bs (behind_string d false bs) (string_back d false bs))

binary_back : (d : Direction) (bs : List ℕ) → IsBack bs (behind_binary d bs)
binary_back d bs =
    either (nat_lt (length bs) 4) bs None (behind (number_in d bs + 1) (drop 4 bs)) tt
    (further bs (drop 4 bs) (behind (number_in d bs + 1) (drop 4 bs)) (dropped 4 bs) (behind_back (number_in d bs + 1) (drop 4 bs)))

scalar_back : (d : Direction) (class : ℕ) (bs : List ℕ) → IsBack bs (behind_scalar d class bs)
scalar_back d class bs =
    either (class == 0x30) bs _ _ (behind_back 8 bs)
    (either (class == 0x40) bs _ _ (string_back d false bs)
    (either (class == 0x70) bs _ _ (binary_back d bs)
    (either (class == 0x80) bs _ _ (behind_back 12 bs)
    (either (class == 0x90) bs _ _ (behind_back 1 bs)
    (either (class == 0xa0) bs _ _ (behind_back 8 bs)
    (either (class == 0xb0) bs _ _ (behind_back 8 bs) (whole_back bs)))))))

-- ---- behind a value

pub record AllBack (d : Direction) (steps : ℕ) : Type 0 where
  pub value : (bs : List ℕ) → IsBack bs (behind_value d steps bs)
  pub pairs : (bs : List ℕ) → IsBack bs (behind_pairs d steps bs)
  pub items : (bs : List ℕ) → IsBack bs (behind_items d steps bs)

one_more_step : (d : Direction) (steps : ℕ) → AllBack d steps → AllBack d (suc steps)
one_more_step d steps later = record { value = value; pairs = pairs; items = items }
  where
    value : (bs : List ℕ) → IsBack bs (behind_value d (suc steps) bs)
    value [] = tt
    value (b ∷ bs) =
        either (plain d b == 0x50) (b ∷ bs) _ _ (behind_one b bs (behind_pairs d steps bs) (later.pairs bs))
        (either (plain d b == 0x60) (b ∷ bs) _ _ (behind_one b bs (behind_items d steps bs) (later.items bs))
        (behind_one b bs (behind_scalar d (plain d b) bs) (scalar_back d (plain d b) bs)))

    pairs : (bs : List ℕ) → IsBack bs (behind_pairs d (suc steps) bs)
    pairs [] = tt
    pairs (b ∷ bs) =
        either (plain d b == 0) (b ∷ bs) _ _ (next b bs)
        (behind_one b bs (option_and_then (behind_pairs d steps) (option_and_then (behind_value d steps) (behind_name d bs)))
        (and_then bs (behind_pairs d steps) (option_and_then (behind_value d steps) (behind_name d bs))
        (and_then bs (behind_value d steps) (behind_name d bs) (name_back d bs) later.value) later.pairs))

    items : (bs : List ℕ) → IsBack bs (behind_items d (suc steps) bs)
    items [] = tt
    items (b ∷ bs) =
        either (plain d b == 0) (b ∷ bs) _ _ (next b bs)
        (and_then (b ∷ bs) (behind_items d steps) (behind_value d steps (b ∷ bs)) (later.value (b ∷ bs)) later.items)

all_back : (d : Direction) (steps : ℕ) → AllBack d steps
all_back d zero = record { value = λ bs. tt; pairs = λ bs. tt; items = λ bs. tt }
all_back d (suc steps) = one_more_step d steps (all_back d steps)

-- ---- behind a key

fields_back : (fields : List Field) (steps : ℕ) (bs : List ℕ) → IsBack bs (behind_fields fields steps bs)
fields_back [] steps bs = whole_back bs
fields_back (f ∷ fs) steps bs =
    and_then bs (behind_fields fs steps) (behind_value f.direction steps bs) ((all_back f.direction steps).value bs) (λ mid. fields_back fs steps mid)

pub id_back : (fields : List Field) (text id : List ℕ) → id_text fields text ≡ Some id → drop (length text - length id) text ≡ id
id_back fields text id e = at (subst (λ (o : Option (List ℕ)). IsBack text o) e (fields_back fields (length text) text))
  where
    at : StandsBack text id → drop (length text - length id) text ≡ id
    at h =
        let few : length text - length id ≡ length h.front = omega (arith, ap length h.is, length-append h.front id) in
        ap (λ (n : ℕ). drop n text) few ∙ ap (drop (length h.front)) h.is ∙ drop-append_seam h.front id
