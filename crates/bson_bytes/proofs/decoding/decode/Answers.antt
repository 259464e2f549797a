use Rattle.std.proofs.Common.{arith}
use Rattle.bson_bytes.proofs.TreeLaws.{is_found, is_only}
use Rattle.bson_bytes.proofs.FirstFaultLaws.{is_fault}
use Rattle.bson_bytes.proofs.decoding.decode.Goals as goal

pub returns-clause-found : goal.returns-clause-found
returns-clause-found c = is_found c.args.bytes.now c.read_document.result (λ i. omega (arith, c.type_inv.bytes i)) c.read_document.ensures

pub returns-clause-only : goal.returns-clause-only
returns-clause-only c = λ front rest ps s e. is_only c.args.bytes.now front rest ps c.read_document.result c.read_document.ensures s e

pub returns-clause-fault : goal.returns-clause-fault
returns-clause-fault c = is_fault c.args.bytes.now c.read_document.result (λ i. omega (arith, c.type_inv.bytes i)) c.read_document.ensures
