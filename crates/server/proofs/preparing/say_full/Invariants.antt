use Rattle.std.proofs.Common.{◌≡◌, take, drop}
use Rattle.server.specs.Taking.{respelled_frames}
use Rattle.server.specs.View.{frames_in}
use Rattle.server.proofs.preparing.say_full.Given as goal

abbrev pub invariant-frames : goal.invariant-frames
invariant-frames l = record {
  done : frames_in (take l.frame-index l.frames) ≡ respelled_frames (frames_in (take l.frame-index l.initial.frames));
  left : drop l.frame-index l.frames ≡ drop l.frame-index l.initial.frames;
}
