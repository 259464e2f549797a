use Rattle.std.proofs.Common.{◌≡◌, refl}
use Rattle.collections.specs.Lookups.{IsPlaceOf, stored_at}
use Rattle.collections.proofs.BelowLemmas.{asks_version}
use Rattle.collections.proofs.collections.Collections.document_in.Goals as goal

pub returns : goal.returns
returns g c =
    asks_version g.D.Disk.history (IsPlaceOf c.args.number c.args.id.now) (λ now place found. found ≡ stored_at place) c.args.self.now
    c.document_from.new.self c.document_from.result c.args.version.root c.document_from.ensures (λ now place found. found ≡ stored_at place)
    c.args.version refl (λ now has place at found right. right)
