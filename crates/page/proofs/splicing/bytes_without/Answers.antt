use Rattle.std.proofs.Common.{ℕ, List, take, ap, ◌∙◌, ◌++◌, arith, vec_len}
use Rattle.page.proofs.SplicingLemmas.{filled_up}
use Rattle.page.proofs.splicing.bytes_without.Goals as goal

pub returns : goal.returns
returns c =
    let bytes = c.args.bytes.now in
    filled_up bytes c.extend_from_slice.new.self.items c.extend_from_slice-2.new.self.items c.resize.new.self.items c.args.from c.args.to
    (vec_len c.extend_from_slice-2.new.self) c.requires.len c.requires.order c.requires.room
    (c.in_ok-extend_from_slice.ensures.items ∙ ap (λ (l : List ℕ). l ++ take c.args.from bytes) c.in_ok-made.ensures.items)
    c.in_ok-extend_from_slice-2.ensures.items (omega (arith, c.extend_from_slice-2.new.self.ok)) c.in_ok-resize.ensures.items
