use Rattle.std.proofs.Common.{◌≡◌, ◌≤◌, ◌-◌}
use Rattle.bson.specs.Tree.{Tree}
use Rattle.bson.specs.Edits.{items_len}
use Rattle.path.specs.Edits.{put_item}
use Rattle.path.proofs.setting.pad.Given as goal

abbrev pub invariant-nulls : goal.invariant-nulls
invariant-nulls l = record {
  short : items_len l.array ≤ l.at;
  same : (u : Tree) → put_item l.array l.at u ≡ put_item l.initial.array l.at u;
}

abbrev pub decreases-nulls : goal.decreases-nulls
decreases-nulls l = l.at - items_len l.array
