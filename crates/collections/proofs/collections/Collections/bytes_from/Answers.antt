use Rattle.std.proofs.Common.{◌∙◌}
use Rattle.collections.specs.Lookups.{AreBytesAt, IsInTree, IsPlaceOf, IsValueAt}
use Rattle.collections.proofs.BelowLemmas.{below_asked}
use Rattle.collections.proofs.FoundLemmas.{bytes_there}
use Rattle.collections.proofs.collections.Collections.bytes_from.Goals as goal

pub returns : goal.returns
returns g c =
    let number = c.args.number in
    let id = c.args.id.now in
    let key = c.deref.result.now in
    below_asked g.D.Disk.history c.args.root (IsPlaceOf number id) (IsInTree (IsValueAt key))
    (λ now place found. AreBytesAt place found) c.args.self.now c.value_from.new.self c.value_from.result c.value_from.ensures.reads
    (λ now place found at p. bytes_there now number id key (c.deref.ensures.value ∙ c.in_ok-key.ensures) place found at p)
