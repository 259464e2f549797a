use Rattle.std.proofs.Common.{◌≡◌, ℕ, suc, ◌+◌, length, take, drop, set, get_or, refl, ap, sym, ◌∙◌, arith}
use Rattle.path.specs.declared.refusal.Refusal.TheVariants.{Full}
use Rattle.replies.proofs.SpelledSizes.{refusal-sendable}
use Rattle.op_msg.specs.Request.{respelled}
use Rattle.server.specs.Taking.{full_body, respelled_frames}
use Rattle.server.specs.View.{frames_in}
use Rattle.server.proofs.Refusing.{room_at, respell_step}
use Rattle.server.proofs.preparing.say_full.Goals as goal

pub respell-requires-clause-room : goal.respell-requires-clause-room
respell-requires-clause-room c =
    let room = room_at c.frames.frames c.args.frames.now c.frames.frame-index c.frames-item.result (omega (arith, c.frames-test.true, c.frames.auto.frames))
    (omega (arith, c.frames-test.true)) c.frames.invariant.left c.requires in
    omega (arith, room, ap length c.full_bytes.ensures)

pub respell-requires-clause-limit : goal.respell-requires-clause-limit
respell-requires-clause-limit c = omega (arith, refusal-sendable Full, ap length c.full_bytes.ensures)

pub frames-preserved : goal.frames-preserved
frames-preserved c =
    let i = c.frames.frame-index in
    let first = c.args.frames.now in
    let x = get_or c.frames.frames i c.frames-item.result in
    let body : c.respell.new.frame.items ≡ respelled x.1.items full_body = c.respell.ensures ∙ ap (respelled x.1.items) c.full_bytes.ensures in
    let s = respell_step c.frames.frames first i c.frames-item.result (x.0, c.respell.new.frame) (omega (arith, c.frames-test.true, c.frames.auto.frames))
    (omega (arith, c.frames-test.true)) c.frames.invariant.done c.frames.invariant.left refl body in
    let next : i + 1 ≡ suc i = omega arith in
    record {
      done = ap (λ (m : ℕ). frames_in (take m (set c.frames.frames i (x.0, c.respell.new.frame)))) next ∙ s.done
          ∙ ap (λ (m : ℕ). respelled_frames (frames_in (take m first))) (sym next);
      left = ap (λ (m : ℕ). drop m (set c.frames.frames i (x.0, c.respell.new.frame))) next ∙ s.left ∙ ap (λ (m : ℕ). drop m first) (sym next);
    }
