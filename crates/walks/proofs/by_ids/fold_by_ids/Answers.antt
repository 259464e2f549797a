use Rattle.index.specs.View.{texts_of}
use Rattle.walks.proofs.ByIdsLemmas.{walked_by_ids}
use Rattle.walks.proofs.by_ids.fold_by_ids.Goals as goal

pub returns-clause-reads : goal.returns-clause-reads
returns-clause-reads g c = λ passes.
    walked_by_ids g.D.Disk.history g.F.DocumentFold.makes c.args.fold c.args.number (texts_of c.args.ids.now) c.args.file.now
    c.fold_documents_among.new.self c.fold_documents_among.result passes c.fold_documents_among.ensures.reads
