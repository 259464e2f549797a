use Rattle.std.proofs.Common.{◌++◌, ◌∷◌, [], List, ℕ, length, ap, refl, ◌∙◌}
use Rattle.replies.specs.View.{batch_name}
use Rattle.replies.proofs.BatchLoop.{begins, begun_bytes}
use Rattle.replies.proofs.open_batch.OpenBatch.begin.Goals as goal

pub returns : goal.returns
returns c =
    let name = batch_name c.args.kind in
    let head = c.in_ok-put_head-2.ensures ∙ ap (λ (x : List ℕ). c.begin_frame-2.new.out.items ++ 4 ∷ (x ++ 0 ∷ [])) c.name.ensures in
    let at = begun_bytes name c.in_ok-out.out.items c.begin_frame.new.out.items c.put_head.new.out.items c.begin_frame-2.new.out.items
    c.put_head-2.new.out.items c.begin_frame-3.new.out.items c.in_ok-out.ensures.items c.in_ok-_start.ensures.bytes c.in_ok-put_head.ensures
    c.in_ok-cursor_start.ensures.bytes head c.in_ok-array_start.ensures.bytes in
    begins _ c.args.kind c.args.most refl refl refl refl at.2 (c.in_ok-cursor_start.ensures.start ∙ ap length at.0)
    (c.in_ok-array_start.ensures.start ∙ ap length at.1)
