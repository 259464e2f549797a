-- Reading one section or document after the other, as loops do.
use Rattle.std.proofs.Common.{◌≡◌, ℕ, zero, suc, ◌≤◌, ◌<◌, ◌+◌, ◌==◌, ◌-◌, take, drop, List, [], ◌∷◌, length, refl, sym, ◌∙◌, ap, subst, arith, length-drop}
use Rattle.std.proofs.Common.{length-take}
use Rattle.std.specs.Prelude.{Bool, true, false, not, ◌||◌, nat_lt, nat_le, if◌then◌else◌, Result, Ok, Err, Some, None}
use Rattle.std.specs.Str.{is_utf8}
use Rattle.std.proofs.lemmas.List.Sums.{fails_before_first}
use Rattle.bson.proofs.PushLaws.{NoZero-take}
use Rattle.bson.specs.Lawful.{NoZero}
use Rattle.bson.specs.Lookup.{stands_in}
use Rattle.bson_bytes.specs.Decoding.{zero_at}
use Rattle.bson_bytes.specs.Decoding as names
use Rattle.bson_bytes.specs.declared.fault.BsonFault.{BsonFault}
use Rattle.outcome.specs.Outcome.{◌>>=◌, unless}
use Rattle.op_msg.specs.Frame.{Part, Sequence, Section, body, sequence, number_at, part_at, or_section, name_at, each_from, each_by, each_in, is_more}
use Rattle.op_msg.specs.Frame.{sequence_in, body_at, sequence_at, section_at, sections_in, bodies_of, names_of, has_twice, only_of, body_of_all}
use Rattle.op_msg.specs.View.{only_from, HasName}
use Rattle.op_msg.specs.declared.fault.FrameFault.{FrameFault}
use Rattle.op_msg.specs.declared.fault.FrameFault.TheVariants as faults

-- ---- results

abbrev pub done : {A E : Type 0} → A → Result A E
done x = Ok x

pub ok_is : {A E : Type 0} (x y : A) → done {A = A} {E = E} x ≡ done y → x ≡ y
ok_is x y e = cc

section_ok : {X : Type 0} (read : Result X BsonFault) (x : X) → or_section read ≡ Ok x → read ≡ Ok x
section_ok (Ok y) x e = cc
section_ok (Err fault) x e = absurd cc

pub unless_ok : {X E : Type 0} (test : Bool) (fault : E) (read : Result X E) (x : X) → unless test fault read ≡ Ok x → (test ≡ false) × (read ≡ Ok x)
unless_ok true fault read x e = absurd cc
unless_ok false fault read x e = (refl, e)

pub bind_ok : {A B : Type 0} (read : Result A FrameFault) (f : A → Result B FrameFault) (y : B) → (read >>= f) ≡ Ok y → (x : A) × (read ≡ Ok x) × (f x ≡ Ok y)
bind_ok (Ok x) f y e = (x, refl, e)
bind_ok (Err fault) f y e = absurd cc

-- ---- one after the other

module _ {X : Type 0} (read : List ℕ → Part X) (shrinks : (bytes : List ℕ) (x : X × List ℕ) → read bytes ≡ Ok x → length x.1 < length bytes) where
  none_left : (n : ℕ) (bytes : List ℕ) → length bytes ≤ 0 → each_by read n bytes ≡ ([], bytes)
  unfolding each_by
  none_left zero bytes empty = refl
  none_left (suc n) bytes empty = by (read bytes) refl
    where
      by : (r : Part X) → read bytes ≡ r → each_from (each_by read n) bytes r ≡ ([], bytes)
      by (Ok x) e = absurd (omega (arith, shrinks bytes x e))
      by (Err fault) e = refl

  enough : (m n : ℕ) (bytes : List ℕ) → length bytes ≤ m → length bytes ≤ n → each_by read m bytes ≡ each_by read n bytes
  unfolding each_by
  enough zero n bytes a b = sym (none_left n bytes a)
  enough (suc m) zero bytes a b = none_left (suc m) bytes b
  enough (suc m) (suc n) bytes a b = by (enough m n) (read bytes) refl
    where
      by : ((left : List ℕ) → length left ≤ m → length left ≤ n → each_by read m left ≡ each_by read n left) → (r : Part X) → read bytes ≡ r
          → each_from (each_by read m) bytes r ≡ each_from (each_by read n) bytes r
      by ih (Ok x) e =
          let less = shrinks bytes x e in
          ap (λ (o : List X × List ℕ). (x.0 ∷ o.0, o.1)) (ih x.1 (omega (arith, less)) (omega (arith, less)))
      by ih (Err fault) e = refl

  -- one more stands at the front
  pub one_more : (bytes : List ℕ) (x : X × List ℕ) → read bytes ≡ Ok x → each_in read bytes ≡ (x.0 ∷ (each_in read x.1).0, (each_in read x.1).1)
  unfolding each_by
  one_more bytes x e = by (length bytes) refl
    where
      by : (n : ℕ) → n ≡ length bytes → each_by read n bytes ≡ (x.0 ∷ (each_in read x.1).0, (each_in read x.1).1)
      by zero is = absurd (omega (arith, shrinks bytes x e, is))
      by (suc n) is =
          ap (each_from (each_by read n) bytes) e
          ∙ ap (λ (o : List X × List ℕ). (x.0 ∷ o.0, o.1)) (enough n (length x.1) x.1 (omega (arith, shrinks bytes x e, is)) (omega arith))

-- none stands at the front
pub no_more : {X : Type 0} (read : List ℕ → Part X) (bytes : List ℕ) (fault : FrameFault) → read bytes ≡ Err fault → each_in read bytes ≡ ([], bytes)
unfolding each_by
no_more read bytes fault e = by (length bytes)
  where
    by : (n : ℕ) → each_by read n bytes ≡ ([], bytes)
    by zero = refl
    by (suc n) = ap (each_from (each_by read n) bytes) e

-- ---- loops that go on while one stands at the front

pub all_left : {X : Type 0} (read : List ℕ → Part X) (bytes rest : List ℕ) (fault : FrameFault) → (each_in read rest).1 ≡ (each_in read bytes).1
    → read rest ≡ Err fault → (each_in read bytes).1 ≡ rest
all_left read bytes rest fault same e = sym same ∙ ap (λ (o : List _ × List ℕ). o.1) (no_more read rest fault e)

-- ---- documents and sections are shorter than what they stand in

not_less : (k n : ℕ) → nat_lt k n ≡ false → n ≤ k
not_less k n e = grind arith

pub part_shrinks : (bytes : List ℕ) (x : List ℕ × List ℕ) → part_at bytes ≡ Ok x → length x.1 < length bytes
unfolding part_at
part_shrinks bytes x e =
    let n = number_at 0 bytes in
    let a = unless_ok (nat_lt (length bytes) 4) faults.Section _ x e in
    let b = unless_ok (nat_lt n 5) faults.Section _ x a.1 in
    let c = unless_ok (nat_lt (length bytes) n) faults.Section _ x b.1 in
    let is : x ≡ (take n bytes, drop n bytes) = sym (ok_is _ _ c.1) in
    let len : length x.1 ≡ length bytes - n = ap (λ (y : List ℕ × List ℕ). length y.1) is ∙ length-drop n bytes in
    omega (arith, len, not_less n 5 b.0, not_less (length bytes) n c.0)

pub part_long : (bytes : List ℕ) (x : List ℕ × List ℕ) → part_at bytes ≡ Ok x → 5 ≤ length x.0
unfolding part_at
part_long bytes x e =
    let n = number_at 0 bytes in
    let a = unless_ok (nat_lt (length bytes) 4) faults.Section _ x e in
    let b = unless_ok (nat_lt n 5) faults.Section _ x a.1 in
    let c = unless_ok (nat_lt (length bytes) n) faults.Section _ x b.1 in
    let is : x ≡ (take n bytes, drop n bytes) = sym (ok_is _ _ c.1) in
    omega (arith, ap (λ (y : List ℕ × List ℕ). length y.0) is, length-take n bytes, not_less n 5 b.0, not_less (length bytes) n c.0)

-- a section of each kind
either : (P : Section × List ℕ → Type 0) (a b : Bool) (bytes : List ℕ) (x : Section × List ℕ) → (body_at bytes ≡ Ok x → P x) → (sequence_at bytes ≡ Ok x → P x)
    → (if a then body_at bytes else if b then sequence_at bytes else Err faults.Section) ≡ Ok x → P x
either P true b bytes x f g e = f e
either P false true bytes x f g e = g e
either P false false bytes x f g e = absurd cc

abbrev made : Section → List ℕ → Part Section
made s rest = Ok (s, rest)

body_shrinks : (bytes : List ℕ) (x : Section × List ℕ) → body_at bytes ≡ Ok x → length x.1 < length bytes
body_shrinks bytes x e =
    let a = bind_ok (part_at bytes) (λ part. made (body part.0) part.1) x e in
    let is : a.0.1 ≡ x.1 = ap (λ (y : Section × List ℕ). y.1) (ok_is _ _ a.2) in
    omega (arith, part_shrinks bytes a.0 a.1, ap length is)

-- what a section of kind 1 was read from
sequence_from : (bytes : List ℕ) (x : Section × List ℕ) → sequence_at bytes ≡ Ok x
    → (part : List ℕ × List ℕ) × (found : Sequence) × (part_at bytes ≡ Ok part) × (sequence_in (drop 4 part.0) ≡ Ok found) × (x ≡ (sequence found, part.1))
sequence_from bytes x e =
    let a = bind_ok (part_at bytes) (λ part. sequence_in (drop 4 part.0) >>= λ found. made (sequence found) part.1) x e in
    let b = bind_ok (sequence_in (drop 4 a.0.0)) (λ found. made (sequence found) a.0.1) x a.2 in
    (a.0, b.0, a.1, b.1, sym (ok_is _ _ b.2))

sequence_shrinks : (bytes : List ℕ) (x : Section × List ℕ) → sequence_at bytes ≡ Ok x → length x.1 < length bytes
sequence_shrinks bytes x e =
    let s = sequence_from bytes x e in
    omega (arith, part_shrinks bytes s.0 s.2, ap (λ (y : Section × List ℕ). length y.1) s.4)

pub section_shrinks : (bytes : List ℕ) (x : Section × List ℕ) → section_at bytes ≡ Ok x → length x.1 < length bytes
unfolding section_at
section_shrinks [] x e = absurd cc
section_shrinks (kind ∷ bytes) x e =
    either (λ y. length y.1 < length (kind ∷ bytes)) (kind == 0) (kind == 1) bytes x (λ f. omega (arith, body_shrinks bytes x f))
    (λ f. omega (arith, sequence_shrinks bytes x f)) e

-- ---- names have no zero

name_is : (bytes : List ℕ) (x : List ℕ × List ℕ) → name_at bytes ≡ Ok x → NoZero x.0
unfolding names.name_at
name_is bytes x e =
    let z = zero_at bytes in
    let a = unless_ok (nat_le (length bytes) z) _ _ x (section_ok (names.name_at bytes) x e) in
    let b = unless_ok (not (is_utf8 (take z bytes))) _ _ x a.1 in
    subst (λ (y : List ℕ × List ℕ). NoZero y.0) (ok_is (take z bytes, drop (z + 1) bytes) x b.1)
    (NoZero-take z bytes (λ k below. fails_before_first (λ b. b == 0) bytes k 0 below))

sequence_named : (bytes : List ℕ) (found : Sequence) → sequence_in bytes ≡ Ok found → NoZero found.name
sequence_named bytes found e =
    let a = bind_ok (name_at bytes)
    (λ name. unless (is_more (each_in part_at name.1).1) faults.Section (Ok (record { name = name.0; documents = (each_in part_at name.1).0 }))) found e in
    let b = unless_ok (is_more (each_in part_at a.0.1).1) faults.Section _ found a.2 in
    subst (λ (s : Sequence). NoZero s.name) (ok_is _ found b.1) (name_is bytes a.0 a.1)

body_named : (bytes : List ℕ) (x : Section × List ℕ) → body_at bytes ≡ Ok x → HasName x.0
body_named bytes x e =
    let a = bind_ok (part_at bytes) (λ part. made (body part.0) part.1) x e in
    subst (λ (y : Section × List ℕ). HasName y.0) (ok_is (body a.0.0, a.0.1) x a.2) tt

pub section_named : (bytes : List ℕ) (x : Section × List ℕ) → section_at bytes ≡ Ok x → HasName x.0
unfolding section_at
section_named [] x e = absurd cc
section_named (kind ∷ bytes) x e =
    either (λ y. HasName y.0) (kind == 0) (kind == 1) bytes x (body_named bytes x)
    (λ f. let s = sequence_from bytes x f in subst (λ (y : Section × List ℕ). HasName y.0) (sym s.4) (sequence_named (drop 4 s.0.0) s.1 s.3)) e

-- ---- what was found

several : (bytes : List ℕ) (others : List (List ℕ)) → only_from (Some bytes) true others ≡ Err faults.TwoBodies
several bytes [] = refl
several bytes (other ∷ others) = several bytes others

pub only_first : (bodies : List (List ℕ)) → only_from None false bodies ≡ only_of bodies
only_first [] = refl
only_first (bytes ∷ []) = refl
only_first (bytes ∷ other ∷ others) = several bytes others

-- one section more at the front
pub names_here : (rest : List ℕ) (x : Section × List ℕ) → section_at rest ≡ Ok x → names_of (sections_in rest).0 ≡ names_of (x.0 ∷ (sections_in x.1).0)
names_here rest x e = ap (λ (o : List Section × List ℕ). names_of o.0) (one_more section_at section_shrinks rest x e)

pub names_counted : (section : Section) (sections : List Section)
    → length (names_of (section ∷ sections)) ≡ length (names_of (section ∷ [])) + length (names_of sections)
names_counted (body bytes) sections = omega arith
names_counted (sequence found) sections = omega arith

pub one_at_most : (section : Section) → length (names_of (section ∷ [])) ≤ 1
one_at_most (body bytes) = omega arith
one_at_most (sequence found) = omega arith

pub no_names : (rest : List ℕ) (fault : FrameFault) → section_at rest ≡ Err fault → names_of (sections_in rest).0 ≡ []
no_names rest fault e = ap (λ (o : List Section × List ℕ). names_of o.0) (no_more section_at rest fault e)

-- ---- the body of all sections

-- bytes are left that are no section
pub wrong_end : (all : List Section × List ℕ) (left : List ℕ) (empty : Bool) → all.1 ≡ left → empty ≡ (length left == 0) → empty ≡ false
    → body_of_all all ≡ Err faults.Section
wrong_end all left empty is found wrong =
    ap (λ (b : Bool). unless (not b || has_twice (names_of all.0)) faults.Section (only_of (bodies_of all.0)))
    (ap (λ (bytes : List ℕ). length bytes == 0) is ∙ sym found ∙ wrong)

-- nothing is left, and no name stands twice
pub right_sections : (all : List Section × List ℕ) (left : List ℕ) (empty twice : Bool) → all.1 ≡ left → empty ≡ (length left == 0) → empty ≡ true
    → twice ≡ has_twice (names_of all.0) → twice ≡ false → only_of (bodies_of all.0) ≡ body_of_all all
right_sections all left empty twice is found right named differ =
    sym (λ i. unless (not (end i) || none i) faults.Section (only_of (bodies_of all.0)))
  where
    end : (length all.1 == 0) ≡ true
    end = ap (λ (bytes : List ℕ). length bytes == 0) is ∙ sym found ∙ right

    none : has_twice (names_of all.0) ≡ false
    none = sym named ∙ differ
