use Rattle.bson_bytes.proofs.WrongLaws.{document_refused}
use Rattle.bson_bytes.proofs.laws.what_is_wrong_is_refused.Goals as goal

pub returns : goal.returns
returns c = document_refused
