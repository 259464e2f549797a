-- Documents and sections that a search goes through, counted down.
use Rattle.std.proofs.Common.{◌≡◌, ℕ, suc, ◌+◌, ◌-◌, ◌<◌, ◌≤◌, true, false, List, [], ◌∷◌, length, take, drop, Option, Some, None, refl, ap, sym, ◌∙◌, arith}
use Rattle.std.specs.Prelude.{◌==◌, is_some}
use Rattle.std.specs.Option.{option_or}
use Rattle.std.specs.Fmt.{decimal}
use Rattle.std.proofs.lemmas.Bool.Decides.{nat_tests}
use Rattle.bson_bytes.specs.Raw.{number_at}
use Rattle.driver_messages.specs.Seeking.{foreign_in, in_documents, in_section, in_sections}
use Rattle.driver_messages.specs.declared.foreign.Foreign.{Foreign}

or_found : {X : Type 0} (found others : Option X) → is_some found ≡ true → option_or found others ≡ found
or_found (Some x) others e = refl
or_found None others e = absurd cc

or_others : {X : Type 0} (found others : Option X) → is_some found ≡ false → option_or found others ≡ others
or_others (Some x) others e = absurd cc
or_others None others e = refl

counted : (most i : ℕ) → i < most → most - i ≡ suc (most - (i + 1))
counted most i h = omega arith

-- ---- documents

documents-one : (n i : ℕ) (name bytes : List ℕ) → (length bytes == 0) ≡ false
    → in_documents (suc n) i name bytes
    ≡ option_or (foreign_in (name ∷ decimal i ∷ []) (take (number_at bytes) bytes)) (in_documents n (i + 1) name (drop (number_at bytes) bytes))
unfolding in_documents
documents-one n i name [] e = absurd cc
documents-one n i name (b ∷ bytes) e = refl

documents-nothing : (n i : ℕ) (name bytes : List ℕ) → (length bytes == 0) ≡ true → in_documents (suc n) i name bytes ≡ None
unfolding in_documents
documents-nothing n i name [] e = refl
documents-nothing n i name (b ∷ bytes) e = absurd (grind (arith, nat_tests))

documents-zero : (i : ℕ) (name bytes : List ℕ) → in_documents 0 i name bytes ≡ None
unfolding in_documents
documents-zero i name bytes = refl

documents-step : (most i : ℕ) (name bytes : List ℕ) → i < most → (length bytes == 0) ≡ false
    → in_documents (most - i) i name bytes ≡ option_or (foreign_in (name ∷ decimal i ∷ []) (take (number_at bytes) bytes))
    (in_documents (most - (i + 1)) (i + 1) name (drop (number_at bytes) bytes))
documents-step most i name bytes h e =
    ap (λ (n : ℕ). in_documents n i name bytes) (counted most i h) ∙ documents-one (most - (i + 1)) i name bytes e

pub documents-empty : (most i : ℕ) (name bytes : List ℕ) → i < most → (length bytes == 0) ≡ true → None ≡ in_documents (most - i) i name bytes
documents-empty most i name bytes h e =
    sym (ap (λ (n : ℕ). in_documents n i name bytes) (counted most i h) ∙ documents-nothing (most - (i + 1)) i name bytes e)

pub documents-end : (most i : ℕ) (name bytes : List ℕ) → most ≤ i → None ≡ in_documents (most - i) i name bytes
documents-end most i name bytes h =
    let none : most - i ≡ 0 = omega arith in
    sym (ap (λ (n : ℕ). in_documents n i name bytes) none ∙ documents-zero i name bytes)

pub documents-found : (most i : ℕ) (name bytes part : List ℕ) (found : Option Foreign) → i < most → (length bytes == 0) ≡ false
    → part ≡ take (number_at bytes) bytes → found ≡ foreign_in (name ∷ decimal i ∷ []) part → is_some found ≡ true
    → found ≡ in_documents (most - i) i name bytes
documents-found most i name bytes part found h e is_part is some =
    let same : found ≡ foreign_in (name ∷ decimal i ∷ []) (take (number_at bytes) bytes) = is ∙ ap (foreign_in (name ∷ decimal i ∷ [])) is_part in
    let others = in_documents (most - (i + 1)) (i + 1) name (drop (number_at bytes) bytes) in
    sym (or_found found others some) ∙ ap (λ (x : Option Foreign). option_or x others) same ∙ sym (documents-step most i name bytes h e)

pub documents-next : (most i : ℕ) (name bytes part after : List ℕ) (found : Option Foreign) → i < most → (length bytes == 0) ≡ false
    → part ≡ take (number_at bytes) bytes → after ≡ drop (number_at bytes) bytes → found ≡ foreign_in (name ∷ decimal i ∷ []) part → is_some found ≡ false
    → in_documents (most - (i + 1)) (i + 1) name after ≡ in_documents (most - i) i name bytes
documents-next most i name bytes part after found h e is_part is_after is none =
    let same : found ≡ foreign_in (name ∷ decimal i ∷ []) (take (number_at bytes) bytes) = is ∙ ap (foreign_in (name ∷ decimal i ∷ [])) is_part in
    let others = in_documents (most - (i + 1)) (i + 1) name (drop (number_at bytes) bytes) in
    ap (in_documents (most - (i + 1)) (i + 1) name) is_after ∙ sym (or_others found others none) ∙ ap (λ (x : Option Foreign). option_or x others) same
    ∙ sym (documents-step most i name bytes h e)

-- ---- sections

sections-one : (n kind : ℕ) (bytes : List ℕ)
    → in_sections (suc n) (kind ∷ bytes) ≡ option_or (in_section kind (take (number_at bytes) bytes)) (in_sections n (drop (number_at bytes) bytes))
unfolding in_sections
sections-one n kind bytes = refl

sections-nothing : (n : ℕ) → in_sections (suc n) [] ≡ None
unfolding in_sections
sections-nothing n = refl

sections-zero : (bytes : List ℕ) → in_sections 0 bytes ≡ None
unfolding in_sections
sections-zero bytes = refl

sections-step : (most i kind : ℕ) (bytes : List ℕ) → i < most
    → in_sections (most - i) (kind ∷ bytes)
    ≡ option_or (in_section kind (take (number_at bytes) bytes)) (in_sections (most - (i + 1)) (drop (number_at bytes) bytes))
sections-step most i kind bytes h =
    ap (λ (n : ℕ). in_sections n (kind ∷ bytes)) (counted most i h) ∙ sections-one (most - (i + 1)) kind bytes

pub sections-empty : (most i : ℕ) (rest : List ℕ) → i < most → rest ≡ [] → None ≡ in_sections (most - i) rest
sections-empty most i rest h e =
    sym (ap (in_sections (most - i)) e ∙ ap (λ (n : ℕ). in_sections n []) (counted most i h) ∙ sections-nothing (most - (i + 1)))

pub sections-end : (most i : ℕ) (bytes : List ℕ) → most ≤ i → None ≡ in_sections (most - i) bytes
sections-end most i bytes h =
    let none : most - i ≡ 0 = omega arith in
    sym (ap (λ (n : ℕ). in_sections n bytes) none ∙ sections-zero bytes)

pub sections-found : (most i kind : ℕ) (rest bytes part : List ℕ) (found : Option Foreign) → i < most → rest ≡ kind ∷ bytes
    → part ≡ take (number_at bytes) bytes → found ≡ in_section kind part → is_some found ≡ true → found ≡ in_sections (most - i) rest
sections-found most i kind rest bytes part found h whole is_part is some =
    let same : found ≡ in_section kind (take (number_at bytes) bytes) = is ∙ ap (in_section kind) is_part in
    let others = in_sections (most - (i + 1)) (drop (number_at bytes) bytes) in
    sym (or_found found others some) ∙ ap (λ (x : Option Foreign). option_or x others) same ∙ sym (sections-step most i kind bytes h)
    ∙ sym (ap (in_sections (most - i)) whole)

pub sections-next : (most i kind : ℕ) (rest bytes part after : List ℕ) (found : Option Foreign) → i < most → rest ≡ kind ∷ bytes
    → part ≡ take (number_at bytes) bytes → after ≡ drop (number_at bytes) bytes → found ≡ in_section kind part → is_some found ≡ false
    → in_sections (most - (i + 1)) after ≡ in_sections (most - i) rest
sections-next most i kind rest bytes part after found h whole is_part is_after is none =
    let same : found ≡ in_section kind (take (number_at bytes) bytes) = is ∙ ap (in_section kind) is_part in
    let others = in_sections (most - (i + 1)) (drop (number_at bytes) bytes) in
    ap (in_sections (most - (i + 1))) is_after ∙ sym (or_others found others none) ∙ ap (λ (x : Option Foreign). option_or x others) same
    ∙ sym (sections-step most i kind bytes h) ∙ sym (ap (in_sections (most - i)) whole)
