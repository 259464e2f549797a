use Rattle.std.proofs.Common.{◌≡◌, ap}
use Rattle.collections.specs.Lookups.{IsPlaceOf, stored_at}
use Rattle.collections.specs.State.{State}
use Rattle.collections.proofs.BelowLemmas.{asks_turn}
use Rattle.collections.proofs.collections.Collections.document.Goals as goal

pub returns : goal.returns
returns g c =
    let call = c.document_from-2 in
    asks_turn g.D.Disk.history (IsPlaceOf c.args.number c.args.id.now) (λ now place found. found ≡ stored_at place) c.args.self.now call.new.self
    call.result c.document_from.inside.root call.ensures (λ now place found. found ≡ stored_at place)
    (ap (λ (s : State g.row.D.Denot). s.root) c.document_from.view_is) (λ running k start now has place at found right. right)
