use Rattle.driver_replies.specs.LevelLaws.{flat-levels}
use Rattle.driver_replies.proofs.upserts.put_filter.Goals as goal

pub set-requires-2-clause-flat : goal.set-requires-2-clause-flat
set-requires-2-clause-flat c = flat-levels _ _ _ _ c.requires.flat c.in_ok-set.ensures
