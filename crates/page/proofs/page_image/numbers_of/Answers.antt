use Rattle.std.proofs.Common.{◌+◌, ◌-◌, ◌*◌, ◌++◌, ◌∷◌, [], ℕ, List, drop, ap, sym, ◌∙◌, arith}
use Rattle.byteorder.specs.Endian.{little_number}
use Rattle.page.specs.Format.{numbers_in}
use Rattle.page.proofs.ReadLemmas.{numbers_step, slice_same}
use Rattle.page.proofs.page_image.numbers_of.Goals as goal

pub loop-i-preserved : goal.loop-i-preserved
loop-i-preserved c =
    let more = numbers_in (c.args.count - (c.loop-i.i + 1)) (drop (4 * (c.loop-i.i + 1)) c.args.bytes.now) in
    record {
      numbers =
          c.loop-i.invariant.numbers ∙ numbers_step c.loop-i.numbers.items c.args.count c.loop-i.i c.args.bytes.now (omega arith)
          ∙ ap (λ (l : List ℕ). l ++ more)
          (ap (λ (n : ℕ). c.loop-i.numbers.items ++ n ∷ [])
          (ap (little_number 4) (sym (slice_same (4 * c.loop-i.i) c.args.bytes.now)) ∙ sym c.read_u32.ensures) ∙ sym c.in_ok-push.ensures.items);
      len = omega (arith, c.in_ok-push.ensures.len, c.loop-i.invariant.len);
    }
