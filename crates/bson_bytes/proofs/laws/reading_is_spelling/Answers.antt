use Rattle.bson_bytes.proofs.TreeLaws.{document_takes, document_again}
use Rattle.bson_bytes.proofs.laws.reading_is_spelling.Goals as goal

pub returns-clause-read : goal.returns-clause-read
returns-clause-read c = λ bytes ps n fits e. document_takes bytes (ps, n) fits e

pub returns-clause-spelled : goal.returns-clause-spelled
returns-clause-spelled c = λ front rest ps s. document_again front ps rest s
