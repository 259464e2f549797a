use Rattle.opening.specs.Judging.{with_document_at}
use Rattle.opening.proofs.loading.take_document.Given as goal

abbrev pub ghost-change : goal.ghost-change
ghost-change g a = with_document_at a.with.now.0 a.with.now.1 a.self.now.value.now
