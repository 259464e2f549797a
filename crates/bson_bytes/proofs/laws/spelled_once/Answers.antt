use Rattle.bson_bytes.proofs.RawLaws.{document_spelled-is}
use Rattle.bson_bytes.proofs.laws.spelled_once.Goals as goal

pub returns : goal.returns
returns c = document_spelled-is
