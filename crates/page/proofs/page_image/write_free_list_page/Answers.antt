use Rattle.std.proofs.Common.{◌≡◌, ℕ, suc, ◌+◌, ◌-◌, ◌*◌, ◌≤◌, List, ◌++◌, length, drop, replicate, ap, ◌∙◌, arith}
use Rattle.std.proofs.lemmas.List.{drop-replicate}
use Rattle.std.specs.List.{flat_map}
use Rattle.byteorder.specs.Endian.{little_bytes}
use Rattle.page.specs.Format.{header, page_bytes}
use Rattle.page.proofs.CellLemmas.{numbers_len}
use Rattle.page.proofs.page_image.write_free_list_page.Goals as goal

tail_zeros : (numbers : List ℕ) → length numbers ≤ 1019
    → drop {A = ℕ} (20 + 4 * length numbers - 20) (replicate 4076 0) ≡ replicate (4080 - suc (suc (suc (suc (length (flat_map (little_bytes 4) numbers)))))) 0
tail_zeros numbers le =
    let n = 4 * length numbers in
    let same : 20 + n - 20 ≡ n = omega arith in
    let left : 4076 - n ≡ 4080 - suc (suc (suc (suc (length (flat_map (little_bytes 4) numbers))))) = omega (arith, numbers_len numbers) in
    ap (λ (k : ℕ). drop {A = ℕ} k (replicate 4076 0)) same ∙ drop-replicate {X = ℕ} n 4076 0 ∙ ap (λ (k : ℕ). replicate k 0) left

pub returns : goal.returns
unfolding page_bytes
returns c =
    let b = c.args.numbers.now in
    rw (c.write_u32_into.ensures, c.copy_from_slice.ensures.after, c.linked_head.ensures)
    (ap (λ (r : List ℕ). (header 4 (length b) c.args.page c.args.generation ++ little_bytes 4 c.args.next) ++ (flat_map (little_bytes 4) b ++ r))
    (tail_zeros b c.requires))
