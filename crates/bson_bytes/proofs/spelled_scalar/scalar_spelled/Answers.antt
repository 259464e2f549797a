use Rattle.std.proofs.Common.{◌≡◌, ap, ◌∙◌, ◌-◌, arith, length, take, drop, List, ℕ, of_z}
use Rattle.std.specs.Int.{w32, w64, cast_signed}
use Rattle.std.proofs.lemmas.Int.{of_z-to_z}
use Rattle.bson.specs.declared.kind.Kind.TheVariants as kinds
use Rattle.bson.specs.Tree.{scalar, text, binary, date, int32, int64, timestamp}
use Rattle.bson.specs.Lent.{scalar_in}
use Rattle.bson_bytes.proofs.LentLaws.{lent_at}
use Rattle.bson_bytes.proofs.spelled_scalar.scalar_spelled.Goals as goal

pub split_at-requires : goal.split_at-requires
split_at-requires c = omega (arith, (lent_at c.args.kind kinds.String c.args.bytes.now c.in-String.is c.requires).0)

pub overflow_sub-counted : goal.overflow_sub-counted
overflow_sub-counted c =
    let same = lent_at c.args.kind kinds.String c.args.bytes.now c.in-String.is c.requires in
    omega (arith, same.0, ap length c.split_at.ensures.back)

pub split_at-requires-in-Binary : goal.split_at-requires-in-Binary
split_at-requires-in-Binary c = (lent_at c.args.kind kinds.Binary c.args.bytes.now c.in-Binary.is c.requires).0

pub unreachable-requires : goal.unreachable-requires
unreachable-requires c = (lent_at c.args.kind kinds.Binary c.args.bytes.now c.in-Binary.is c.requires).1 c.in-None.ensures

pub bounds-bytes-0 : goal.bounds-bytes-0
bounds-bytes-0 c = (lent_at c.args.kind kinds.Bool c.args.bytes.now c.in-Bool.is c.requires).0

pub number_of_eight-requires : goal.number_of_eight-requires
number_of_eight-requires c = (lent_at c.args.kind kinds.Date c.args.bytes.now c.in-Date.is c.requires).0

pub number_of_four-requires : goal.number_of_four-requires
number_of_four-requires c = (lent_at c.args.kind kinds.Int32 c.args.bytes.now c.in-Int32.is c.requires).0

pub number_of_eight-requires-in-Timestamp : goal.number_of_eight-requires-in-Timestamp
number_of_eight-requires-in-Timestamp c = (lent_at c.args.kind kinds.Timestamp c.args.bytes.now c.in-Timestamp.is c.requires).0

pub number_of_eight-requires-in-Int64 : goal.number_of_eight-requires-in-Int64
number_of_eight-requires-in-Int64 c = (lent_at c.args.kind kinds.Int64 c.args.bytes.now c.in-Int64.is c.requires).0

pub returns-in-String : goal.returns-in-String
returns-in-String c =
    let same = lent_at c.args.kind kinds.String c.args.bytes.now c.in-String.is c.requires in
    let size : length c.split_at.result.1.now - 1 ≡ length c.args.bytes.now - 5 = omega (arith, same.0, ap length c.split_at.ensures.back) in
    let found : c.split_at-in-String.result.0.now ≡ take (length c.args.bytes.now - 5) (drop 4 c.args.bytes.now) =
    c.split_at-in-String.ensures.front ∙ (λ i. take (size i) (c.split_at.ensures.back i)) in
    ap (λ (s : List ℕ). scalar_in (scalar (text s))) found ∙ ap scalar_in same.1

pub returns-in-Some : goal.returns-in-Some
returns-in-Some c =
    let same = lent_at c.args.kind kinds.Binary c.args.bytes.now c.in-Binary.is c.requires in
    (λ i. scalar_in (scalar (binary (c.in-Some.ensures.0 i) (c.split_at-in-Binary.ensures.back i)))) ∙ ap scalar_in same.2

pub returns-in-ObjectId : goal.returns-in-ObjectId
returns-in-ObjectId c = ap scalar_in (lent_at c.args.kind kinds.ObjectId c.args.bytes.now c.in-ObjectId.is c.requires)

pub returns-in-Bool : goal.returns-in-Bool
returns-in-Bool c = ap scalar_in (lent_at c.args.kind kinds.Bool c.args.bytes.now c.in-Bool.is c.requires).1

pub returns-in-Date : goal.returns-in-Date
returns-in-Date c =
    let same = lent_at c.args.kind kinds.Date c.args.bytes.now c.in-Date.is c.requires in
    let bits = ap (of_z w64) c.cast_signed.ensures ∙ of_z-to_z w64 c.number_of_eight.result c.number_of_eight.type_inv ∙ c.number_of_eight.ensures in
    ap (λ n. scalar_in (scalar (date (cast_signed w64 n)))) bits ∙ ap scalar_in same.1

pub returns-in-Int32 : goal.returns-in-Int32
returns-in-Int32 c =
    let same = lent_at c.args.kind kinds.Int32 c.args.bytes.now c.in-Int32.is c.requires in
    let bits = ap (of_z w32) c.cast_signed-in-Int32.ensures ∙ of_z-to_z w32 c.number_of_four.result c.number_of_four.type_inv ∙ c.number_of_four.ensures in
    ap (λ n. scalar_in (scalar (int32 (cast_signed w32 n)))) bits ∙ ap scalar_in same.1

pub returns-in-Timestamp : goal.returns-in-Timestamp
returns-in-Timestamp c =
    let same = lent_at c.args.kind kinds.Timestamp c.args.bytes.now c.in-Timestamp.is c.requires in
    ap (λ n. scalar_in (scalar (timestamp n))) c.number_of_eight-in-Timestamp.ensures ∙ ap scalar_in same.1

pub returns-in-Int64 : goal.returns-in-Int64
returns-in-Int64 c =
    let same = lent_at c.args.kind kinds.Int64 c.args.bytes.now c.in-Int64.is c.requires in
    let n = c.number_of_eight-in-Int64.result in
    let bits = ap (of_z w64) c.cast_signed-in-Int64.ensures ∙ of_z-to_z w64 n c.number_of_eight-in-Int64.type_inv ∙ c.number_of_eight-in-Int64.ensures in
    ap (λ n. scalar_in (scalar (int64 (cast_signed w64 n)))) bits ∙ ap scalar_in same.1
