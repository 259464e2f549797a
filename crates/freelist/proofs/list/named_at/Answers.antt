use Rattle.std.proofs.Common.{rules}
use Rattle.freelist.proofs.PartsOfLists.{part_cut}
use Rattle.freelist.proofs.list.named_at.Goals as goal

pub returns : goal.returns
returns c =
    part_cut c.args.named.now c.args.at c.min-from.result c.min-to.result (search rules) (search rules) (search rules)
