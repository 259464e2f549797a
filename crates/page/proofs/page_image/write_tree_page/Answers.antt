use Rattle.std.proofs.Common.{◌≡◌, ℕ, List, [], ◌++◌, length, drop, ap, ◌∙◌, arith, append-nil}
use Rattle.std.proofs.lemmas.List.{drop_all, length-drop}
use Rattle.page.specs.Format.{header}
use Rattle.page.proofs.page_image.write_tree_page.Goals as goal

none_behind : (bytes : List ℕ) → length bytes ≡ 4096 → drop 4080 (drop 16 bytes) ≡ []
none_behind bytes long = drop_all 4080 (drop 16 bytes) (omega (arith, length-drop 16 bytes, long))

pub returns : goal.returns
returns c =
    let head = header c.args.kind c.args.count c.args.page c.args.generation in
    rw (c.copy_from_slice.ensures.after, c.page_head.ensures, c.copy_from_slice-2.ensures.after)
    (ap (λ (r : List ℕ). head ++ (c.args.body.now ++ r)) (none_behind c.args.bytes.now (omega arith))
    ∙ ap (λ (b : List ℕ). head ++ b) (append-nil c.args.body.now))
