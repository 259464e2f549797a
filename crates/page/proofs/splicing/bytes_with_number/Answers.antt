use Rattle.std.proofs.Common.{◌∙◌, ◌++◌, ◌+◌, List, ℕ, append_assoc, ap, drop, take}
use Rattle.byteorder.specs.Endian.{little_bytes}
use Rattle.page.proofs.ReadLemmas.{slice_same}
use Rattle.page.proofs.splicing.bytes_with_number.Goals as goal

pub returns : goal.returns
returns c =
    let bytes = c.args.bytes.now in
    let next = c.args.at + 4 in
    let front = take c.args.at bytes in
    let four = little_bytes 4 c.args.number in
    c.in_ok-extend_from_slice-2.ensures.items
    ∙ (λ i. (c.in_ok-append_number.ensures
    ∙ ap (λ (l : List ℕ). l ++ four) (c.in_ok-extend_from_slice.ensures.items ∙ ap (λ (l : List ℕ). l ++ front) c.in_ok-made.ensures.items)) i
    ++ slice_same next bytes i)
    ∙ append_assoc front four (drop next bytes)
