use Rattle.std.proofs.Common.{ap}
use Rattle.collections.specs.Lookups.{IsBatchOf, IsInTree}
use Rattle.collections.specs.State.{State}
use Rattle.collections.proofs.BelowLemmas.{reads_turn}
use Rattle.collections.proofs.collections.Collections.entries_in.Goals as goal

pub returns : goal.returns
returns g c =
    let call = c.entries_from-2 in
    reads_turn g.D.Disk.history (IsInTree (IsBatchOf c.args.range)) c.args.self.now call.new.self call.result c.entries_from.inside.root call.ensures
    (ap (λ (s : State g.row.D.Denot). s.root) c.entries_from.view_is)
