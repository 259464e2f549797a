use Rattle.driver_replies.specs.LevelLaws.{flat-levels}
use Rattle.drivers.proofs.answering.put_cursor.Goals as goal

pub put-requires-clause-flat : goal.put-requires-clause-flat
put-requires-clause-flat c = flat-levels _ _ _ _ c.requires.flat c.in_ok-set.ensures
