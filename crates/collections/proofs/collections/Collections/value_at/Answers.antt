use Rattle.std.proofs.Common.{ap}
use Rattle.collections.specs.Lookups.{IsInTree, IsValueAt}
use Rattle.collections.specs.State.{State}
use Rattle.collections.proofs.BelowLemmas.{reads_turn}
use Rattle.collections.proofs.collections.Collections.value_at.Goals as goal

pub returns : goal.returns
returns g c =
    let call = c.value_from-2 in
    reads_turn g.D.Disk.history (IsInTree (IsValueAt c.args.key.now)) c.args.self.now call.new.self call.result c.value_from.inside.root call.ensures.reads
    (ap (λ (s : State g.row.D.Denot). s.root) c.value_from.view_is)
