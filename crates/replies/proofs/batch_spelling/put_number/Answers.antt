use Rattle.std.proofs.Common.{◌≤◌, [], length, sym, subst}
use Rattle.std.specs.Prelude.{if◌then◌else◌}
use Rattle.bson.specs.Tree.{Tree}
use Rattle.bson.specs.Spelling.{tree_bytes}
use Rattle.replies.proofs.CursorSpelling.{long_short}
use Rattle.replies.proofs.batch_spelling.put_number.Goals as goal

pub put-requires : goal.put-requires
put-requires c =
    subst (λ (t : Tree). length (tree_bytes t) ≤ 1048576) (sym c.id_value.ensures) (long_short [] [] (if c.args.is_done then 0 else c.args.number) [])
