use Rattle.std.proofs.Common.{arith}
use Rattle.bson_bytes.specs.Raw.{pairs_spelled}
use Rattle.bson_bytes.proofs.RawLaws.{has_front, no_front, kind_found, name_found, value_fits, first_is}
use Rattle.bson_bytes.proofs.elements.split_element.Goals as goal

pub returns-in_default : goal.returns-in_default
returns-in_default c = no_front c.args.elements.now (pairs_spelled c.args.elements.now) c.requires c.in_default.ensures.cases

pub unreachable-requires : goal.unreachable-requires
unreachable-requires c =
    kind_found (pairs_spelled c.args.elements.now) c.in-Some.type_byte.now c.in-Some.after.now c.in_default-read_kind.field-0
    (has_front c.args.elements.now (pairs_spelled c.args.elements.now) c.in-Some.type_byte.now c.in-Some.after.now c.requires c.in-Some.ensures.cases.0)
    c.in_default-read_kind.ensures

pub unreachable-requires-in_default-read_name_bytes : goal.unreachable-requires-in_default-read_name_bytes
unreachable-requires-in_default-read_name_bytes c =
    name_found (pairs_spelled c.args.elements.now) c.in-Some.type_byte.now c.in-Some.after.now c.in_default-read_name_bytes.field-0
    (has_front c.args.elements.now (pairs_spelled c.args.elements.now) c.in-Some.type_byte.now c.in-Some.after.now c.requires c.in-Some.ensures.cases.0)
    c.in_default-read_name_bytes.ensures

pub split_at-requires : goal.split_at-requires
split_at-requires c =
    let fits = value_fits (pairs_spelled c.args.elements.now) c.in-Some.type_byte.now c.in-Some.after.now c.in-Ok.kind
    (c.in-Ok-read_name_bytes.name.now, c.in-Ok-read_name_bytes.after.now)
    (has_front c.args.elements.now (pairs_spelled c.args.elements.now) c.in-Some.type_byte.now c.in-Some.after.now c.requires c.in-Some.ensures.cases.0)
    c.in-Ok.ensures c.in-Ok-read_name_bytes.ensures in
    omega (arith, fits, c.value_len.ensures)

pub returns : goal.returns
returns c =
    first_is (pairs_spelled c.args.elements.now) c.in-Some.type_byte.now c.in-Some.after.now c.in-Ok.kind
    (c.in-Ok-read_name_bytes.name.now, c.in-Ok-read_name_bytes.after.now) c.split_at.result.0.now c.split_at.result.1.now c.value_len.result
    (has_front c.args.elements.now (pairs_spelled c.args.elements.now) c.in-Some.type_byte.now c.in-Some.after.now c.requires c.in-Some.ensures.cases.0)
    c.in-Ok.ensures c.in-Ok-read_name_bytes.ensures c.value_len.ensures c.split_at.ensures.front c.split_at.ensures.back
