use Rattle.pinned_cursors.proofs.EndingLemmas.{releases_one}
use Rattle.pinned_cursors.proofs.ending.end.Goals as goal

pub returns-clause-releases : goal.returns-clause-releases
returns-clause-releases g c = λ changed.
    releases_one g.D.Disk.history changed c.args.file.now c.end_pin.new.file c.args.cursors.now c.end_at-pinned.new.self c.args.at c.end_at-pinned.result
    c.requires.there c.end_at-pinned.ensures.pinned c.end_at-pinned.ensures.left c.end_pin.ensures
