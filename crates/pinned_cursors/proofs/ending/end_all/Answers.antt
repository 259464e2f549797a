use Rattle.std.proofs.Common.{sym, ◌∙◌}
use Rattle.pinned_cursors.proofs.EndingLemmas.{ended_fewer, ended_last, ended_none, ended_on}
use Rattle.pinned_cursors.proofs.ending.end_all.Goals as goal

pub ended-init : goal.ended-init
ended-init g c = ended_none g.D.Disk.history c.args.ends.now c.args.file.now c.args.cursors.now

pub ended-smaller : goal.ended-smaller
ended-smaller g c =
    ended_fewer g.D.Disk.history c.args.ends.now c.args.file.now c.args.cursors.now c.ended.cursors c.end_first.new.self c.in-Some.pinned
    (sym c.in-Some.is ∙ c.end_first.ensures.pinned) c.end_first.ensures.left

pub ended-preserved : goal.ended-preserved
ended-preserved g c =
    ended_on g.D.Disk.history c.args.ends.now c.args.file.now c.args.cursors.now c.ended.cursors c.end_first.new.self c.ended.file c.end_pin.new.file
    c.in-Some.pinned c.ended.invariant (sym c.in-Some.is ∙ c.end_first.ensures.pinned) c.end_first.ensures.left c.end_pin.ensures

pub returns : goal.returns
returns g c =
    let last = ended_last g.D.Disk.history c.args.ends.now c.args.file.now c.args.cursors.now c.ended.cursors c.end_first.new.self c.ended.file
    c.ended.invariant (sym c.in_default.is ∙ c.end_first.ensures.pinned) c.end_first.ensures.left in
    record { left = last.0; releases = last.1 }
