use Rattle.std.proofs.Common.{◌≡◌, length, arith}
use Rattle.std.proofs.lemmas.Bool.{eqb-true}
use Rattle.bson_bytes.proofs.RawLaws.{all_found, no_fault, no_other_length}
use Rattle.bson_bytes.proofs.spelled.is_document.Goals as goal

pub returns-in-Ok-clause-reads : goal.returns-in-Ok-clause-reads
returns-in-Ok-clause-reads c = λ d s.
    let same : c.in-Ok.len ≡ length c.args.bytes.now = no_other_length c.args.bytes.now d c.in-Ok.len c.in-Ok.ensures s in
    grind (arith, same)

pub returns-in-Ok-clause-only : goal.returns-in-Ok-clause-only
returns-in-Ok-clause-only c = λ is.
    all_found c.args.bytes.now c.in-Ok.len (λ i. omega (arith, c.type_inv.bytes i)) c.in-Ok.ensures (eqb-true c.in-Ok.len _ is)

pub returns-in-Err-clause-reads : goal.returns-in-Err-clause-reads
returns-in-Err-clause-reads c = λ d s. absurd (no_fault c.args.bytes.now d c.in-Err.field-0 c.in-Err.ensures s)
