use Rattle.bson_bytes.proofs.FaultLaws.{document_no}
use Rattle.bson_bytes.proofs.laws.no_bytes_want_memory.Goals as goal

pub returns : goal.returns
returns c = λ bytes. (document_no bytes).never
