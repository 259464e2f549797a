use Rattle.std.proofs.Common.{◌≡◌, ℕ, List, Ok, get_or, sym, ◌∙◌, arith}
use Rattle.bson_bytes.specs.Decoding.{Read}
use Rattle.bson_bytes.proofs.PlainNames.{plain_name, no_name_end}
use Rattle.bson_bytes.proofs.frames.read_marked_name.Goals as goal

pub returns-in_default-clause-gives : goal.returns-in_default-clause-gives
returns-in_default-clause-gives c = no_name_end c.args.bytes.now c.in_default.ensures

pub returns-clause-gives : goal.returns-clause-gives
returns-clause-gives c =
    let ends : get_or c.args.bytes.now c.in-Some.end 0 ≡ 0 = grind (arith, c.if-bytes-end-ne0.false) in
    plain_name c.args.bytes.now c.in-Some.end c.in-Some.ensures.0 ends
    ∙ (λ i. let r : Read (List ℕ) = Ok (sym c.split_at.ensures.front i, sym c.split_at-2.ensures.back i) in r)
