-- What bytes that spell a value lend, by its kind.
use Rattle.std.proofs.Common.{◌≡◌, ◌≢◌, ℕ, ◌-◌, ◌≤◌, true, false, nat_eq, None, List, [], ◌∷◌, length, take, drop, slice_index_or}
use Rattle.std.proofs.Common.{refl, sym, ap, subst, arith}
use Rattle.std.specs.Int.{w32, w64, from_le_bytes, cast_signed}
use Rattle.std.proofs.lemmas.Int.{to_z-of_z}
use Rattle.std.proofs.lemmas.List.{length-append, take_at}
use Rattle.bson.specs.declared.kind.Kind.{Kind}
use Rattle.bson.specs.declared.kind.Kind.TheVariants as kinds
use Rattle.bson.specs.Tree.{Scalar, text, binary, object_id, boolean, date, null, int32, timestamp, int64, min_key, max_key, Tree, scalar, document, array}
use Rattle.bson.specs.Kinds.{scalar_kind}
use Rattle.bson.specs.Lawful.{IsScalar}
use Rattle.bson.specs.Spelling.{scalar_bytes, tree_bytes}
use Rattle.bson_bytes.specs.Raw.{SpellsValue, value_spelled}
use Rattle.bson.specs.Lent.{scalar_in}
use Rattle.bson_bytes.proofs.FrameLaws.{wide32, wide64, unsigned_fits32, unsigned_fits64}

-- the value of a kind that stands in bytes, and how many there are
abbrev pub IsLent : Kind → List ℕ → Tree → Type 0
IsLent kinds.String bytes t = (5 ≤ length bytes) × (scalar (text (take (length bytes - 5) (drop 4 bytes))) ≡ t)
IsLent kinds.Document bytes t = None ≡ scalar_in t
IsLent kinds.Array bytes t = None ≡ scalar_in t
IsLent kinds.Binary bytes t =
    (5 ≤ length bytes) × (slice_index_or bytes 4 0 ≢ 2) × (scalar (binary (slice_index_or bytes 4 0) (drop 5 bytes)) ≡ t)
IsLent kinds.ObjectId bytes t = scalar (object_id bytes) ≡ t
IsLent kinds.Bool bytes t = (1 ≤ length bytes) × (scalar (boolean (nat_eq (slice_index_or bytes 0 0) 1)) ≡ t)
IsLent kinds.Date bytes t = (length bytes ≡ 8) × (scalar (date (cast_signed w64 (from_le_bytes w64 bytes))) ≡ t)
IsLent kinds.Null bytes t = scalar null ≡ t
IsLent kinds.Int32 bytes t = (length bytes ≡ 4) × (scalar (int32 (cast_signed w32 (from_le_bytes w32 bytes))) ≡ t)
IsLent kinds.Timestamp bytes t = (length bytes ≡ 8) × (scalar (timestamp (from_le_bytes w64 bytes)) ≡ t)
IsLent kinds.Int64 bytes t = (length bytes ≡ 8) × (scalar (int64 (cast_signed w64 (from_le_bytes w64 bytes))) ≡ t)
IsLent kinds.MinKey bytes t = scalar min_key ≡ t
IsLent kinds.MaxKey bytes t = scalar max_key ≡ t

scalar_lent : (s : Scalar) → IsScalar s → IsLent (scalar_kind s) (scalar_bytes s) (scalar s)
scalar_lent (text s) lawful =
    let size = length-append s (0 ∷ []) in
    (omega (arith, size), ap (λ (xs : List ℕ). scalar (text xs)) (take_at s (0 ∷ []) _ (omega (arith, size))))
scalar_lent (binary subtype bytes) lawful = (omega arith, lawful.0, refl)
scalar_lent (object_id bytes) lawful = refl
scalar_lent (boolean true) lawful = (omega arith, refl)
scalar_lent (boolean false) lawful = (omega arith, refl)
scalar_lent (date z) lawful = (refl, rw (wide64.again _ (unsigned_fits64 z lawful), to_z-of_z w64 z lawful) refl)
scalar_lent null lawful = refl
scalar_lent (int32 z) lawful = (refl, rw (wide32.again _ (unsigned_fits32 z lawful), to_z-of_z w32 z lawful) refl)
scalar_lent (timestamp n) lawful = (refl, rw (wide64.again n lawful) refl)
scalar_lent (int64 z) lawful = (refl, rw (wide64.again _ (unsigned_fits64 z lawful), to_z-of_z w64 z lawful) refl)
scalar_lent min_key lawful = refl
scalar_lent max_key lawful = refl

value_lent : (k : Kind) (bytes : List ℕ) (t : Tree) → SpellsValue k bytes t → IsLent k bytes t
unfolding tree_bytes
value_lent k bytes (scalar s) v =
    subst (λ (j : Kind). IsLent j bytes (scalar s)) (sym v.same_kind)
    (subst (λ (xs : List ℕ). IsLent (scalar_kind s) xs (scalar s)) (sym v.spelled) (scalar_lent s v.lawful))
value_lent k bytes (document ps) v = subst (λ (j : Kind). IsLent j bytes (document ps)) (sym v.same_kind) refl
value_lent k bytes (array ts) v = subst (λ (j : Kind). IsLent j bytes (array ts)) (sym v.same_kind) refl

-- of this kind
pub lent_at : (k j : Kind) (bytes : List ℕ) → k ≡ j → SpellsValue k bytes (value_spelled k bytes) → IsLent j bytes (value_spelled k bytes)
lent_at k j bytes same v = subst (λ (i : Kind). IsLent i bytes (value_spelled k bytes)) same (value_lent k bytes (value_spelled k bytes) v)
