-- A scalar that is read is spelled so, and a scalar that is spelled is read.
use Rattle.std.proofs.Common.{◌≡◌, ◌≢◌, ℕ, ℤ, zero, suc, ◌+◌, ◌^◌, ◌<◌, Bool, true, false, eqb, List, [], ◌∷◌, ◌++◌, length, Ok, refl, sym, ap, subst, ◌∙◌}
use Rattle.std.proofs.Common.{arith}
use Rattle.std.specs.Int.{Width, w32, w64, byte_len, from_le_bytes, to_le_bytes, cast_signed, cast_unsigned}
use Rattle.std.proofs.lemmas.Int.{to_z-of_z, of_z-to_z}
use Rattle.std.proofs.lemmas.List.{length-append}
use Rattle.bson_bytes.specs.declared.fault.BsonFault.TheVariants as faults
use Rattle.bson.specs.declared.kind.Kind.{Kind}
use Rattle.bson.specs.declared.kind.Kind.TheVariants as kinds
use Rattle.bson.specs.Tree.{Scalar, text, binary, object_id, boolean, date, null, int32, timestamp, int64, min_key, max_key}
use Rattle.bson.specs.Kinds.{scalar_kind}
use Rattle.bson.specs.Lawful.{IsBytes, IsScalar}
use Rattle.bson.specs.Spelling.{scalar_bytes}
use Rattle.outcome.specs.Outcome.{◌>>=◌}
use Rattle.bson_bytes.specs.Decoding.{fixed_at, count_at, text_at, string_at, binary_of, binary_at, object_id_at, boolean_at, date_at, int32_at, timestamp_at}
use Rattle.bson_bytes.specs.Decoding.{int64_at, scalar_at}
use Rattle.bson_bytes.proofs.FrameLaws.{Takes, Takes-then, IsWide, wide32, wide64, bind_ok, unless_ok, done, ok_is, fixed_takes, fixed_again, number_takes}
use Rattle.bson_bytes.proofs.FrameLaws.{count_takes, count_again, text_takes, text_again, signed_fits32, signed_fits64, unsigned_fits32, unsigned_fits64}

-- a scalar that was read
pub record IsScalarRead (k : Kind) (bytes : List ℕ) (s : Scalar) (rest : List ℕ) : Type 0 where
  pub takes : Takes bytes (scalar_bytes s) rest
  pub lawful : IsScalar s
  pub same_kind : scalar_kind s ≡ k

string_takes : (bytes : List ℕ) (x : Scalar × List ℕ) → IsBytes bytes → string_at bytes ≡ Ok x → IsScalarRead kinds.String bytes x.0 x.1
unfolding string_at
string_takes bytes x fits e =
    let a = bind_ok (text_at bytes) (λ s. Ok (text s.0, s.1)) x e in
    let t = text_takes bytes a.0 fits a.1 in
    let made : Scalar × List ℕ = (text a.0.0, a.0.1) in
    subst (λ (y : Scalar × List ℕ). IsScalarRead kinds.String bytes y.0 y.1) (ok_is made x a.2) (record { takes = t.0; lawful = t.1; same_kind = refl })

string_again : (s rest : List ℕ) → IsScalar (text s) → length (scalar_bytes (text s)) < 2 ^ 31 → string_at (scalar_bytes (text s) ++ rest) ≡ Ok (text s, rest)
unfolding string_at
string_again s rest lawful short = rw (text_again s rest lawful (omega (arith, length-append s (0 ∷ [])))) refl

-- ---- binaries

eqb-ne : (a b : ℕ) → eqb a b ≡ false → a ≢ b
eqb-ne a b e same = absurd (grind (arith, e, same))

ne-eqb : (a b : ℕ) → a ≢ b → eqb a b ≡ false
ne-eqb a b h = grind arith

binary_of_takes : (n : ℕ) (bytes after body rest : List ℕ) (x : Scalar × List ℕ) → Takes bytes (to_le_bytes w32 n) after → Takes after body rest → IsBytes body
    → length body ≡ n + 1
    → binary_of body rest ≡ Ok x → IsScalarRead kinds.Binary bytes x.0 x.1
binary_of_takes n bytes after [] rest x first second fits len e = absurd cc
binary_of_takes n bytes after (subtype ∷ content) rest x first second fits len e =
    let made : Scalar × List ℕ = (binary subtype content, rest) in
    let a = unless_ok (eqb subtype 2) faults.Subtype (Ok made) x e in
    let both = Takes-then bytes (to_le_bytes w32 n) after (subtype ∷ content) rest first second in
    let size : n ≡ length content = omega (arith, len) in
    subst (λ (y : Scalar × List ℕ). IsScalarRead kinds.Binary bytes y.0 y.1) (ok_is made x a.1) (record {
      takes = subst (λ (k : ℕ). Takes bytes (to_le_bytes w32 k ++ subtype ∷ content) rest) size both;
      lawful = (eqb-ne subtype 2 a.0, fits 0, λ i. fits (suc i));
      same_kind = refl;
    })

binary_takes : (bytes : List ℕ) (x : Scalar × List ℕ) → IsBytes bytes → binary_at bytes ≡ Ok x → IsScalarRead kinds.Binary bytes x.0 x.1
unfolding binary_at
binary_takes bytes x fits e =
    let a = bind_ok (count_at 0 bytes) (λ n. fixed_at (n.0 + 1) n.1 >>= λ body. binary_of body.0 body.1) x e in
    let b = bind_ok (fixed_at (a.0.0 + 1) a.0.1) (λ body. binary_of body.0 body.1) x a.2 in
    let first = count_takes 0 bytes a.0 fits a.1 in
    let second = fixed_takes (a.0.0 + 1) a.0.1 b.0 first.0.rest_fits b.1 in
    binary_of_takes a.0.0 bytes a.0.1 b.0.0 b.0.1 x first.0 second.0 second.1 second.2 b.2

binary_again : (subtype : ℕ) (bytes rest : List ℕ) → IsScalar (binary subtype bytes) → length (scalar_bytes (binary subtype bytes)) < 2 ^ 31
    → binary_at (scalar_bytes (binary subtype bytes) ++ rest) ≡ Ok (binary subtype bytes, rest)
unfolding binary_at
binary_again subtype bytes rest lawful short =
    let first = count_again 0 (length bytes) ((subtype ∷ bytes) ++ rest) (omega arith) (omega arith) in
    let second = fixed_again (length bytes + 1) (subtype ∷ bytes) rest (omega arith) in
    rw (first, second, ne-eqb subtype 2 lawful.0) refl

-- ---- object ids

object_id_takes : (bytes : List ℕ) (x : Scalar × List ℕ) → IsBytes bytes → object_id_at bytes ≡ Ok x → IsScalarRead kinds.ObjectId bytes x.0 x.1
unfolding object_id_at
object_id_takes bytes x fits e =
    let a = bind_ok (fixed_at 12 bytes) (λ twelve. Ok (object_id twelve.0, twelve.1)) x e in
    let t = fixed_takes 12 bytes a.0 fits a.1 in
    let made : Scalar × List ℕ = (object_id a.0.0, a.0.1) in
    subst (λ (y : Scalar × List ℕ). IsScalarRead kinds.ObjectId bytes y.0 y.1) (ok_is made x a.2)
    (record { takes = t.0; lawful = (t.2, t.1); same_kind = refl })

object_id_again : (bytes rest : List ℕ) → IsScalar (object_id bytes) → object_id_at (bytes ++ rest) ≡ Ok (object_id bytes, rest)
unfolding object_id_at
object_id_again bytes rest lawful = rw (fixed_again 12 bytes rest lawful.0) refl

-- ---- truth values

boolean_takes : (bytes : List ℕ) (x : Scalar × List ℕ) → IsBytes bytes → boolean_at bytes ≡ Ok x → IsScalarRead kinds.Bool bytes x.0 x.1
unfolding boolean_at
boolean_takes [] x fits e = absurd cc
boolean_takes (zero ∷ rest) x fits e =
    subst (λ (y : Scalar × List ℕ). IsScalarRead kinds.Bool (0 ∷ rest) y.0 y.1) (ok_is (boolean false, rest) x e)
    (record { takes = record { parts = refl; rest_fits = λ i. fits (suc i) }; lawful = tt; same_kind = refl })
boolean_takes (suc zero ∷ rest) x fits e =
    subst (λ (y : Scalar × List ℕ). IsScalarRead kinds.Bool (1 ∷ rest) y.0 y.1) (ok_is (boolean true, rest) x e)
    (record { takes = record { parts = refl; rest_fits = λ i. fits (suc i) }; lawful = tt; same_kind = refl })
boolean_takes (suc (suc b) ∷ rest) x fits e = absurd cc

boolean_again : (b : Bool) (rest : List ℕ) → boolean_at (scalar_bytes (boolean b) ++ rest) ≡ Ok (boolean b, rest)
unfolding boolean_at
boolean_again false rest = refl
boolean_again true rest = refl

-- ---- numbers

-- what a kind of signed numbers does with the bytes of one
module _ (w : Width) (limit : ℕ) (wide : IsWide w limit) (make : ℤ → Scalar) (k : Kind) (kind_is : (z : ℤ) → scalar_kind (make z) ≡ k)
    (spelled : (z : ℤ) → scalar_bytes (make z) ≡ to_le_bytes w (cast_unsigned w z)) (lawful : (n : ℕ) → n < limit → IsScalar (make (cast_signed w n)))
    (same : (n : ℕ) → n < limit → cast_unsigned w (cast_signed w n) ≡ n) where
  signed_takes : (bytes : List ℕ) (x : Scalar × List ℕ) → IsBytes bytes
      → (fixed_at (byte_len w) bytes >>= λ y. Ok (make (cast_signed w (from_le_bytes w y.0)), y.1)) ≡ Ok x → IsScalarRead k bytes x.0 x.1
  signed_takes bytes x fits e =
      let a = bind_ok (fixed_at (byte_len w) bytes) (λ y. Ok (make (cast_signed w (from_le_bytes w y.0)), y.1)) x e in
      let n = from_le_bytes w a.0.0 in
      let t = number_takes w limit wide bytes a.0 fits a.1 in
      let made : Scalar × List ℕ = (make (cast_signed w n), a.0.1) in
      let spelled_so : to_le_bytes w n ≡ scalar_bytes (make (cast_signed w n)) = ap (to_le_bytes w) (sym (same n t.1)) ∙ sym (spelled (cast_signed w n)) in
      subst (λ (y : Scalar × List ℕ). IsScalarRead k bytes y.0 y.1) (ok_is made x a.2)
      (record { takes = subst (λ (text : List ℕ). Takes bytes text a.0.1) spelled_so t.0; lawful = lawful n t.1; same_kind = kind_is (cast_signed w n) })

same32 : (n : ℕ) → n < 2 ^ 32 → cast_unsigned w32 (cast_signed w32 n) ≡ n
same32 n below = of_z-to_z w32 n below

same64 : (n : ℕ) → n < 2 ^ 64 → cast_unsigned w64 (cast_signed w64 n) ≡ n
same64 n below = of_z-to_z w64 n below

date_takes : (bytes : List ℕ) (x : Scalar × List ℕ) → IsBytes bytes → date_at bytes ≡ Ok x → IsScalarRead kinds.Date bytes x.0 x.1
unfolding date_at
date_takes = signed_takes w64 (2 ^ 64) wide64 date kinds.Date (λ z. refl) (λ z. refl) signed_fits64 same64

date_again : (z : ℤ) (rest : List ℕ) → IsScalar (date z) → date_at (scalar_bytes (date z) ++ rest) ≡ Ok (date z, rest)
unfolding date_at
date_again z rest lawful =
    rw (
      fixed_again 8 (to_le_bytes w64 (cast_unsigned w64 z)) rest refl,
      wide64.again (cast_unsigned w64 z) (unsigned_fits64 z lawful),
      to_z-of_z w64 z lawful,
    ) refl

int32_takes : (bytes : List ℕ) (x : Scalar × List ℕ) → IsBytes bytes → int32_at bytes ≡ Ok x → IsScalarRead kinds.Int32 bytes x.0 x.1
unfolding int32_at
int32_takes = signed_takes w32 (2 ^ 32) wide32 int32 kinds.Int32 (λ z. refl) (λ z. refl) signed_fits32 same32

int32_again : (z : ℤ) (rest : List ℕ) → IsScalar (int32 z) → int32_at (scalar_bytes (int32 z) ++ rest) ≡ Ok (int32 z, rest)
unfolding int32_at
int32_again z rest lawful =
    rw (
      fixed_again 4 (to_le_bytes w32 (cast_unsigned w32 z)) rest refl,
      wide32.again (cast_unsigned w32 z) (unsigned_fits32 z lawful),
      to_z-of_z w32 z lawful,
    ) refl

timestamp_takes : (bytes : List ℕ) (x : Scalar × List ℕ) → IsBytes bytes → timestamp_at bytes ≡ Ok x → IsScalarRead kinds.Timestamp bytes x.0 x.1
unfolding timestamp_at
timestamp_takes bytes x fits e =
    let a = bind_ok (fixed_at 8 bytes) (λ y. Ok (timestamp (from_le_bytes w64 y.0), y.1)) x e in
    let t = number_takes w64 (2 ^ 64) wide64 bytes a.0 fits a.1 in
    let made : Scalar × List ℕ = (timestamp (from_le_bytes w64 a.0.0), a.0.1) in
    subst (λ (y : Scalar × List ℕ). IsScalarRead kinds.Timestamp bytes y.0 y.1) (ok_is made x a.2) (record { takes = t.0; lawful = t.1; same_kind = refl })

timestamp_again : (n : ℕ) (rest : List ℕ) → IsScalar (timestamp n) → timestamp_at (scalar_bytes (timestamp n) ++ rest) ≡ Ok (timestamp n, rest)
unfolding timestamp_at
timestamp_again n rest lawful = rw (fixed_again 8 (to_le_bytes w64 n) rest refl, wide64.again n lawful) refl

int64_takes : (bytes : List ℕ) (x : Scalar × List ℕ) → IsBytes bytes → int64_at bytes ≡ Ok x → IsScalarRead kinds.Int64 bytes x.0 x.1
unfolding int64_at
int64_takes = signed_takes w64 (2 ^ 64) wide64 int64 kinds.Int64 (λ z. refl) (λ z. refl) signed_fits64 same64

int64_again : (z : ℤ) (rest : List ℕ) → IsScalar (int64 z) → int64_at (scalar_bytes (int64 z) ++ rest) ≡ Ok (int64 z, rest)
unfolding int64_at
int64_again z rest lawful =
    rw (
      fixed_again 8 (to_le_bytes w64 (cast_unsigned w64 z)) rest refl,
      wide64.again (cast_unsigned w64 z) (unsigned_fits64 z lawful),
      to_z-of_z w64 z lawful,
    ) refl

-- ---- all kinds

-- a scalar of no bytes
bare_takes : (k : Kind) (s : Scalar) (bytes : List ℕ) (x : Scalar × List ℕ) → IsBytes bytes → scalar_bytes s ≡ [] → IsScalar s → scalar_kind s ≡ k
    → done (s, bytes) ≡ Ok x → IsScalarRead k bytes x.0 x.1
bare_takes k s bytes x fits none lawful same e =
    let made : Scalar × List ℕ = (s, bytes) in
    subst (λ (y : Scalar × List ℕ). IsScalarRead k bytes y.0 y.1) (ok_is made x e)
    (record { takes = record { parts = ap (λ (t : List ℕ). t ++ bytes) (sym none); rest_fits = fits }; lawful = lawful; same_kind = same })

pub scalar_takes : (k : Kind) (bytes : List ℕ) (x : Scalar × List ℕ) → IsBytes bytes → scalar_at k bytes ≡ Ok x → IsScalarRead k bytes x.0 x.1
unfolding scalar_at
scalar_takes kinds.String bytes x fits e = string_takes bytes x fits e
scalar_takes kinds.Document bytes x fits e = absurd cc
scalar_takes kinds.Array bytes x fits e = absurd cc
scalar_takes kinds.Binary bytes x fits e = binary_takes bytes x fits e
scalar_takes kinds.ObjectId bytes x fits e = object_id_takes bytes x fits e
scalar_takes kinds.Bool bytes x fits e = boolean_takes bytes x fits e
scalar_takes kinds.Date bytes x fits e = date_takes bytes x fits e
scalar_takes kinds.Null bytes x fits e = bare_takes kinds.Null null bytes x fits refl tt refl e
scalar_takes kinds.Int32 bytes x fits e = int32_takes bytes x fits e
scalar_takes kinds.Timestamp bytes x fits e = timestamp_takes bytes x fits e
scalar_takes kinds.Int64 bytes x fits e = int64_takes bytes x fits e
scalar_takes kinds.MinKey bytes x fits e = bare_takes kinds.MinKey min_key bytes x fits refl tt refl e
scalar_takes kinds.MaxKey bytes x fits e = bare_takes kinds.MaxKey max_key bytes x fits refl tt refl e

pub scalar_again : (s : Scalar) (rest : List ℕ) → IsScalar s → length (scalar_bytes s) < 2 ^ 31
    → scalar_at (scalar_kind s) (scalar_bytes s ++ rest) ≡ Ok (s, rest)
unfolding scalar_at
scalar_again (text s) rest lawful short = string_again s rest lawful short
scalar_again (binary subtype bytes) rest lawful short = binary_again subtype bytes rest lawful short
scalar_again (object_id bytes) rest lawful short = object_id_again bytes rest lawful
scalar_again (boolean b) rest lawful short = boolean_again b rest
scalar_again (date z) rest lawful short = date_again z rest lawful
scalar_again null rest lawful short = refl
scalar_again (int32 z) rest lawful short = int32_again z rest lawful
scalar_again (timestamp n) rest lawful short = timestamp_again n rest lawful
scalar_again (int64 z) rest lawful short = int64_again z rest lawful
scalar_again min_key rest lawful short = refl
scalar_again max_key rest lawful short = refl
