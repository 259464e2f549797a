use Rattle.std.proofs.Common.{◌≡◌, ℕ, suc, ◌+◌, ◌-◌, ◌≤◌, List, ◌++◌, length, drop, replicate, ap, ◌∙◌, arith}
use Rattle.std.proofs.lemmas.List.{drop-replicate}
use Rattle.byteorder.specs.Endian.{little_bytes}
use Rattle.page.specs.Format.{header, page_bytes}
use Rattle.page.proofs.page_image.write_chain_page.Goals as goal

tail_zeros : (n : ℕ) → n ≤ 4076 → drop {A = ℕ} (20 + n - 20) (replicate 4076 0) ≡ replicate (4080 - suc (suc (suc (suc n)))) 0
tail_zeros n le =
    let same : 20 + n - 20 ≡ n = omega arith in
    let left : 4076 - n ≡ 4080 - suc (suc (suc (suc n))) = omega arith in
    ap (λ (k : ℕ). drop {A = ℕ} k (replicate 4076 0)) same ∙ drop-replicate {X = ℕ} n 4076 0 ∙ ap (λ (k : ℕ). replicate k 0) left

pub returns : goal.returns
unfolding page_bytes
returns c =
    let b = c.args.content.now in
    rw (c.copy_from_slice.ensures.after, c.linked_head.ensures, c.copy_from_slice-2.ensures.after)
    (ap (λ (r : List ℕ). (header 3 (length b) c.args.page c.args.generation ++ little_bytes 4 c.args.next) ++ (b ++ r)) (tail_zeros (length b) c.requires))
