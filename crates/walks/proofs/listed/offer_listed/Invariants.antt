use Rattle.index.specs.View.{texts_of}
use Rattle.walks.proofs.ListedLemmas.{HasOffered}
use Rattle.walks.proofs.listed.offer_listed.Given as goal

abbrev pub invariant-ids : goal.invariant-ids
invariant-ids g l =
    HasOffered g.D.Disk.history l.version l.number (texts_of l.listed.ids.now) l.listed.projection.now l.fn.batch l.fn.file l.file l.id-index l.batch
