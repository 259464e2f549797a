use Rattle.std.proofs.Common.{Ok, sym, ap, subst, ◌∙◌, arith}
use Rattle.bson.specs.Spelling.{Spells}
use Rattle.bson_bytes.specs.Raw.{only_document, document_spelled}
use Rattle.bson_bytes.specs.Decoding.{document_at}
use Rattle.bson_bytes.proofs.RawLaws.{raw_found, raw_only, length_err}
use Rattle.bson_bytes.proofs.FirstFaultLaws.{raw_fault}
use Rattle.bson_bytes.proofs.FaultLaws.{fault_no}
use Rattle.bson_bytes.proofs.raw.RawDoc.new.Goals as goal

pub split_at-requires : goal.split_at-requires
split_at-requires c = (raw_found c.args.bytes.now c.in-Ok.len (λ i. omega (arith, c.type_inv.bytes i)) c.in-Ok.ensures).within

pub invariant_of-result : goal.invariant_of-result
invariant_of-result c =
    let found = raw_found c.args.bytes.now c.in-Ok.len (λ i. omega (arith, c.type_inv.bytes i)) c.in-Ok.ensures in
    subst (λ bytes. Spells bytes (document_spelled bytes)) (sym c.split_at.ensures.front) found.spells

pub returns-in-Ok-clause-gives : goal.returns-in-Ok-clause-gives
returns-in-Ok-clause-gives c =
    let found = raw_found c.args.bytes.now c.in-Ok.len (λ i. omega (arith, c.type_inv.bytes i)) c.in-Ok.ensures in
    ap (λ bytes. Ok (document_spelled bytes)) c.split_at.ensures.front ∙ sym found.gives

pub returns-in-Ok-clause-only : goal.returns-in-Ok-clause-only
returns-in-Ok-clause-only c = λ front rest ps s e.
    let found = raw_found c.args.bytes.now c.in-Ok.len (λ i. omega (arith, c.type_inv.bytes i)) c.in-Ok.ensures in
    ap (λ bytes. Ok (document_spelled bytes)) c.split_at.ensures.front ∙ sym found.gives ∙ raw_only c.args.bytes.now front rest ps s e

pub returns-in-Err-clause-only : goal.returns-in-Err-clause-only
returns-in-Err-clause-only c = λ front rest ps s e.
    ap only_document (sym (length_err (document_at c.args.bytes.now) c.in-Err.fault c.in-Err.ensures)) ∙ raw_only c.args.bytes.now front rest ps s e

pub returns-in-Err-clause-fault : goal.returns-in-Err-clause-fault
returns-in-Err-clause-fault c =
    raw_fault c.args.bytes.now c.in-Err.fault (λ i. omega (arith, c.type_inv.bytes i))
    (length_err (document_at c.args.bytes.now) c.in-Err.fault c.in-Err.ensures)

pub returns-in-Err-clause-memory : goal.returns-in-Err-clause-memory
returns-in-Err-clause-memory c = fault_no c.args.bytes.now c.in-Err.fault (length_err (document_at c.args.bytes.now) c.in-Err.fault c.in-Err.ensures)
