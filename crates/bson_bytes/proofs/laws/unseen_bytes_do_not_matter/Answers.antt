use Rattle.bson_bytes.proofs.SeenLaws.{document_stays}
use Rattle.bson_bytes.proofs.laws.unseen_bytes_do_not_matter.Goals as goal

pub returns : goal.returns
returns c = document_stays
