use Rattle.walks.proofs.InOrderReadLemmas.{HasCome}
use Rattle.walks.proofs.in_order.give_in_order.Given as goal

abbrev pub invariant-loop : goal.invariant-loop
invariant-loop g l = HasCome g.D.Disk.history l.version l.number l.walk l.fn.giving l.fn.file l.file l.from.items l.giving
