-- Elements and sections that are written one after the other, counted down: what stands in the output before a step and behind it.
use Rattle.std.proofs.Common.{◌≡◌, ℕ, suc, ◌+◌, ◌-◌, ◌<◌, ◌≤◌, List, [], ◌∷◌, ◌++◌, length, take, drop, refl, ap, sym, ◌∙◌, append_assoc, arith}
use Rattle.std.proofs.Common.{ℤ, true, false}
use Rattle.std.specs.Fmt.{decimal}
use Rattle.std.specs.Prelude.{◌==◌}
use Rattle.std.proofs.lemmas.Bool.Decides.{nat_tests}
use Rattle.bson_bytes.specs.Raw.{number_at}
use Rattle.driver_messages.specs.Seeking.{Place}
use Rattle.bson.specs.Spelling.{element}
use Rattle.driver_messages.specs.WithIntegers.{Passed, kept, integer, passed, int64_element, written}
use Rattle.driver_messages.specs.WithIntegers.{elements_with, document_with, documents_with, section_with, sections_with}

counted : (most i : ℕ) → i < most → most - i ≡ suc (most - (i + 1))
counted most i h = omega arith

finished : (most i : ℕ) → most ≤ i → most - i ≡ 0
finished most i h = omega arith

pub element_put : (type : ℕ) (name value out head all : List ℕ) → head ≡ out ++ (type ∷ (name ++ 0 ∷ [])) → all ≡ head ++ value
    → all ≡ out ++ element type name value
element_put type name value out head all h is =
    is ∙ ap (λ (x : List ℕ). x ++ value) h ∙ append_assoc out (type ∷ (name ++ 0 ∷ [])) value
    ∙ ap (λ (x : List ℕ). out ++ (type ∷ x)) (append_assoc name (0 ∷ []) value)

-- ---- elements

elements_one : (n : ℕ) (place : Place) (bytes : List ℕ)
    → elements_with (suc n) place bytes ≡ written (elements_with n) bytes (passed place bytes)
unfolding elements_with
elements_one n place bytes = refl

elements_none : (place : Place) (bytes : List ℕ) → elements_with 0 place bytes ≡ bytes
unfolding elements_with
elements_none place bytes = refl

-- what a step writes with so many left
pub elements_step : (most i : ℕ) (place : Place) (bytes : List ℕ) (found : Passed) → i < most → found ≡ passed place bytes
    → written (elements_with (most - (i + 1))) bytes found ≡ elements_with (most - i) place bytes
elements_step most i place bytes found h is =
    ap (written (elements_with (most - (i + 1))) bytes) is ∙ sym (elements_one (most - (i + 1)) place bytes)
    ∙ sym (ap (λ (n : ℕ). elements_with n place bytes) (counted most i h))

front_put : (out out' front rest rest' : List ℕ) → out' ≡ out ++ front → rest' ≡ rest → out' ++ rest' ≡ out ++ (front ++ rest)
front_put out out' front rest rest' put same =
    ap (λ (x : List ℕ). x ++ rest') put ∙ append_assoc out front rest' ∙ ap (λ (x : List ℕ). out ++ (front ++ x)) same

pub elements_kept : (most i count : ℕ) (place place' : Place) (bytes rest out out' : List ℕ) → i < most → kept count place' ≡ passed place bytes
    → out' ≡ out ++ take count bytes → rest ≡ drop count bytes
    → out' ++ elements_with (most - (i + 1)) place' rest ≡ out ++ elements_with (most - i) place bytes
elements_kept most i count place place' bytes rest out out' h is put behind =
    front_put out out' (take count bytes) _ _ put (ap (elements_with (most - (i + 1)) place') behind)
    ∙ ap (λ (x : List ℕ). out ++ x) (elements_step most i place bytes (kept count place') h is)

pub elements_integer : (most i : ℕ) (name : List ℕ) (z : ℤ) (place place' : Place) (bytes rest out out' : List ℕ) → i < most
    → integer name z place' ≡ passed place bytes → out' ≡ out ++ int64_element name z → rest ≡ drop (length name + 10) bytes
    → out' ++ elements_with (most - (i + 1)) place' rest ≡ out ++ elements_with (most - i) place bytes
elements_integer most i name z place place' bytes rest out out' h is put behind =
    front_put out out' (int64_element name z) _ _ put (ap (elements_with (most - (i + 1)) place') behind)
    ∙ ap (λ (x : List ℕ). out ++ x) (elements_step most i place bytes (integer name z place') h is)

pub elements_end : (most i : ℕ) (place : Place) (bytes : List ℕ) → most ≤ i → bytes ≡ elements_with (most - i) place bytes
elements_end most i place bytes h =
    sym (ap (λ (n : ℕ). elements_with n place bytes) (finished most i h) ∙ elements_none place bytes)

-- ---- sections

sections_one : (n kind : ℕ) (bytes : List ℕ)
    → sections_with (suc n) (kind ∷ bytes)
    ≡ kind ∷ (section_with kind (take (number_at bytes) bytes) ++ sections_with n (drop (number_at bytes) bytes))
unfolding sections_with
sections_one n kind bytes = refl

sections_nothing : (n : ℕ) → sections_with (suc n) [] ≡ []
unfolding sections_with
sections_nothing n = refl

sections_none : (bytes : List ℕ) → sections_with 0 bytes ≡ bytes
unfolding sections_with
sections_none bytes = refl

pub sections_step : (most i kind : ℕ) (rest bytes part after : List ℕ) → i < most → rest ≡ kind ∷ bytes
    → part ≡ take (number_at bytes) bytes → after ≡ drop (number_at bytes) bytes
    → kind ∷ (section_with kind part ++ sections_with (most - (i + 1)) after) ≡ sections_with (most - i) rest
sections_step most i kind rest bytes part after h whole is_part is_after =
    ap (λ (x : List ℕ). kind ∷ (section_with kind x ++ sections_with (most - (i + 1)) after)) is_part
    ∙ ap (λ (x : List ℕ). kind ∷ (section_with kind (take (number_at bytes) bytes) ++ sections_with (most - (i + 1)) x)) is_after
    ∙ sym (sections_one (most - (i + 1)) kind bytes) ∙ sym (ap (λ (n : ℕ). sections_with n (kind ∷ bytes)) (counted most i h))
    ∙ sym (ap (sections_with (most - i)) whole)

pub section_put : (most i kind : ℕ) (rest bytes part after out out' out'' : List ℕ) → i < most → rest ≡ kind ∷ bytes
    → part ≡ take (number_at bytes) bytes → after ≡ drop (number_at bytes) bytes → out' ≡ out ++ kind ∷ [] → out'' ≡ out' ++ section_with kind part
    → out'' ++ sections_with (most - (i + 1)) after ≡ out ++ sections_with (most - i) rest
section_put most i kind rest bytes part after out out' out'' h whole is_part is_after pushed put =
    let others = sections_with (most - (i + 1)) after in
    front_put out' out'' (section_with kind part) others others put refl
    ∙ front_put out out' (kind ∷ []) (section_with kind part ++ others) _ pushed refl
    ∙ ap (λ (x : List ℕ). out ++ x) (sections_step most i kind rest bytes part after h whole is_part is_after)

pub sections_empty : (most i : ℕ) (rest : List ℕ) → i < most → rest ≡ [] → [] ≡ sections_with (most - i) rest
sections_empty most i rest h e =
    sym (ap (sections_with (most - i)) e ∙ ap (λ (n : ℕ). sections_with n []) (counted most i h) ∙ sections_nothing (most - (i + 1)))

pub sections_end : (most i : ℕ) (bytes : List ℕ) → most ≤ i → bytes ≡ sections_with (most - i) bytes
sections_end most i bytes h =
    sym (ap (λ (n : ℕ). sections_with n bytes) (finished most i h) ∙ sections_none bytes)

-- ---- documents

documents_one : (n i : ℕ) (name bytes : List ℕ) → (length bytes == 0) ≡ false
    → documents_with (suc n) i name bytes
    ≡ document_with (name ∷ decimal i ∷ []) (take (number_at bytes) bytes) ++ documents_with n (i + 1) name (drop (number_at bytes) bytes)
unfolding documents_with
documents_one n i name [] e = absurd cc
documents_one n i name (b ∷ bytes) e = refl

documents_nothing : (n i : ℕ) (name bytes : List ℕ) → (length bytes == 0) ≡ true → documents_with (suc n) i name bytes ≡ []
unfolding documents_with
documents_nothing n i name [] e = refl
documents_nothing n i name (b ∷ bytes) e = absurd (grind (arith, nat_tests))

documents_none : (i : ℕ) (name bytes : List ℕ) → documents_with 0 i name bytes ≡ bytes
unfolding documents_with
documents_none i name bytes = refl

pub document_put : (most i : ℕ) (name bytes part after out out' : List ℕ) → i < most → (length bytes == 0) ≡ false
    → part ≡ take (number_at bytes) bytes → after ≡ drop (number_at bytes) bytes → out' ≡ out ++ document_with (name ∷ decimal i ∷ []) part
    → out' ++ documents_with (most - (i + 1)) (i + 1) name after ≡ out ++ documents_with (most - i) i name bytes
document_put most i name bytes part after out out' h e is_part is_after put =
    let later = documents_with (most - (i + 1)) (i + 1) name (drop (number_at bytes) bytes) in
    front_put out out' (document_with (name ∷ decimal i ∷ []) part) _ _ put (ap (documents_with (most - (i + 1)) (i + 1) name) is_after)
    ∙ ap (λ (x : List ℕ). out ++ (document_with (name ∷ decimal i ∷ []) x ++ later)) is_part
    ∙ ap (λ (x : List ℕ). out ++ x)
    (sym (documents_one (most - (i + 1)) i name bytes e) ∙ sym (ap (λ (n : ℕ). documents_with n i name bytes) (counted most i h)))

pub documents_empty : (most i : ℕ) (name bytes : List ℕ) → i < most → (length bytes == 0) ≡ true → [] ≡ documents_with (most - i) i name bytes
documents_empty most i name bytes h e =
    sym (ap (λ (n : ℕ). documents_with n i name bytes) (counted most i h) ∙ documents_nothing (most - (i + 1)) i name bytes e)

pub documents_end : (most i : ℕ) (name bytes : List ℕ) → most ≤ i → bytes ≡ documents_with (most - i) i name bytes
documents_end most i name bytes h =
    sym (ap (λ (n : ℕ). documents_with n i name bytes) (finished most i h) ∙ documents_none i name bytes)
