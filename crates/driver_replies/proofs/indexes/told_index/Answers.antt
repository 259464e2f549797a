use Rattle.std.proofs.Common.{rules, ◌≡◌}
use Rattle.driver_replies.specs.Indexes.{told_index}
use Rattle.driver_replies.proofs.IndexLemmas.{index_flat}
use Rattle.driver_replies.proofs.indexes.told_index.Goals as goal

pub returns-clause-flat : goal.returns-clause-flat
returns-clause-flat c =
    let is : c.set.new.document ≡ told_index c.args.entry.now = search rules in
    index_flat c.args.entry.now c.set.new.document c.requires is
