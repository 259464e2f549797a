use Rattle.index.specs.View.{texts_of}
use Rattle.walks.proofs.InOrderLendLemmas.{HasLent}
use Rattle.walks.proofs.in_order.give_texts.Given as goal

abbrev pub invariant-texts : goal.invariant-texts
invariant-texts g l =
    HasLent g.D.Disk.history l.version l.number l.index (texts_of l.texts) l.fn.giving l.fn.file l.file l.text-index l.giving
