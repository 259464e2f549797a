-- Every page that is written is read again.
use Rattle.std.proofs.Common.{◌≡◌, ℕ, suc, ◌-◌, ◌*◌, ◌^◌, ◌<◌, ◌≤◌, Bool, true, false, List, [], ◌∷◌, ◌++◌, length, take, drop, replicate, refl, sym, ◌∙◌, ap}
use Rattle.std.proofs.Common.{arith}
use Rattle.std.specs.Prelude.{◌==◌, not, ◌||◌, nat_lt, Ok}
use Rattle.std.specs.List.{flat_map}
use Rattle.std.proofs.lemmas.Bool.Decides.{nat_tests}
use Rattle.std.proofs.lemmas.List.{take_all}
use Rattle.std.proofs.Math.Seq.{drop-append_seam}
use Rattle.byteorder.specs.Endian.{little_bytes, little_number}
use Rattle.byteorder.specs.Numbers.{little_number-reads_back}
use Rattle.outcome.specs.Outcome.{unless}
use Rattle.page.specs.Content.{Item, Pivot, Content, leaf, branch, chain, free_list, IsContent, IsLeaf, IsBranch, IsItem, IsPivot, item_size, pivot_size}
use Rattle.page.specs.Content.{item_keys}
use Rattle.page.specs.Content.{pivot_keys, rise}
use Rattle.page.specs.Format.{header, page_bytes, body_and_zeros, body_of, item_bytes, pivot_bytes, pivots_bytes, item_in, pivot_in, items_at, pivots_at}
use Rattle.page.specs.Format.{leaf_cell_size, branch_cell_size, places_in, leaf_in, branch_in, free_list_in, numbers_in, are_zeros, content_in, generation_in}
use Rattle.page.specs.Format.{model_in}
use Rattle.page.specs.PageLaws.{ReadsBack}
use Rattle.page.specs.declared.page_fault.PageFault.TheVariants as faults
use Rattle.page.specs.Kept.{starts}
use Rattle.page.proofs.PlaceLemmas.{found_again, zeros_are}
use Rattle.page.proofs.CellLemmas.{length-item, item_back, item_size_back, length-pivot, pivot_back, pivot_size_back, numbers_len, numbers_back}
use Rattle.page.proofs.KeptLemmas.{leaf_again, branch_again, few_items, few_pivots, leaf_len, branch_len, body_len}
use Rattle.page.proofs.ReadLemmas.{leaf_judged, branch_judged, model_planned}
use Rattle.page.proofs.ReadsBack.{chain_read_back}

-- ---- contents

leaf_back : (items : List Item) → IsLeaf items → leaf_in (length items) (body_and_zeros (flat_map item_bytes items)) ≡ Ok (leaf items)
leaf_back items sound =
    let body = body_and_zeros (flat_map item_bytes items) in
    let places : places_in leaf_cell_size (length items) 0 body ≡ Ok (starts item_size 0 items) =
    found_again leaf_cell_size item_in item_bytes item_size IsItem length-item (λ x r s. item_back x r s) (λ x r s. item_size_back x r s)
    (λ x s. s.size) body 0 items (4080 - length (flat_map item_bytes items)) sound.each refl in
    let again : items_at body (starts item_size 0 items) ≡ items = leaf_again items sound body refl in
    leaf_judged (length items) body (starts item_size 0 items) true sound.some places (ap (λ (l : List Item). rise (item_keys l)) again ∙ sound.ascending)
    ∙ ap (λ (l : List Item). Ok (leaf l)) again

branch_back : (pivots : List Pivot) → IsBranch pivots → branch_in (length pivots) (body_and_zeros (pivots_bytes pivots)) ≡ Ok (branch pivots)
branch_back [] sound = absurd (omega (arith, sound.some))
branch_back (first ∷ pivots) sound =
    let body = body_and_zeros (pivots_bytes (first ∷ pivots)) in
    let less : suc (length pivots) - 1 ≡ length pivots = omega arith in
    let places : places_in branch_cell_size (suc (length pivots) - 1) 4 body ≡ Ok (starts pivot_size 4 pivots) =
    ap (λ (n : ℕ). places_in branch_cell_size n 4 body) less
    ∙ found_again branch_cell_size pivot_in pivot_bytes pivot_size IsPivot length-pivot (λ x r s. pivot_back x r s) (λ x r s. pivot_size_back x r s)
    (λ x s. s.size) body 4 pivots (4080 - length (pivots_bytes (first ∷ pivots))) sound.each.1 refl in
    let again : pivots_at body (starts pivot_size 4 pivots) ≡ first ∷ pivots = branch_again first pivots sound body refl in
    branch_judged (suc (length pivots)) body (starts pivot_size 4 pivots) true sound.some places (ap (λ (l : List Pivot). rise (pivot_keys l)) again
    ∙ sound.ascending)
    ∙ ap (λ (l : List Pivot). Ok (branch l)) again

list_passes : (t : Bool) (content : Content) → t ≡ false → unless t faults.Length (Ok content) ≡ Ok content
list_passes t content is = rw is refl

list_back : (next : ℕ) (pages : List ℕ) → IsContent (free_list next pages)
    → free_list_in (length pages) next (flat_map (little_bytes 4) pages ++ replicate (4080 - length (body_of (free_list next pages))) 0)
    ≡ Ok (free_list next pages)
list_back next pages (near, few, small) =
    let rest = replicate {A = ℕ} (4080 - length (body_of (free_list next pages))) 0 in
    let joined = flat_map (little_bytes 4) pages in
    let tail : drop (4 * length pages) (joined ++ rest) ≡ rest =
    ap (λ (n : ℕ). drop n (joined ++ rest)) (sym (numbers_len pages)) ∙ drop-append_seam joined rest in
    let zeros : are_zeros (drop (4 * length pages) (joined ++ rest)) ≡ true = ap are_zeros tail ∙ zeros_are (4080 - length (body_of (free_list next pages))) in
    let test : (nat_lt 1019 (length pages) || not (are_zeros (drop (4 * length pages) (joined ++ rest)))) ≡ false = grind (arith, nat_tests, few, zeros) in
    list_passes (nat_lt 1019 (length pages) || not (are_zeros (drop (4 * length pages) (joined ++ rest))))
    (free_list next (numbers_in (length pages) (joined ++ rest))) test
    ∙ ap (λ (l : List ℕ). Ok (free_list next l)) (numbers_back pages rest small)

-- ---- pages

two_pass : (t1 t2 : Bool) (born : ℕ) → t1 ≡ false → t2 ≡ false → unless t1 faults.Kind (unless t2 faults.Number (Ok born)) ≡ Ok born
two_pass t1 t2 born one two = rw (one, two) refl

generation_back : (kind count page born generation : ℕ) (body : List ℕ) → 1 ≤ kind → kind ≤ 4 → page < 2 ^ 32 → born < 2 ^ 64 → 1 ≤ born → born ≤ generation
    → generation_in page generation (header kind count page born ++ body) ≡ Ok born
generation_back kind count page born generation body low high near short some until =
    let bs = header kind count page born ++ body in
    let own : little_number 4 (drop 4 bs) ≡ page = little_number-reads_back 4 page (drop 8 bs) (omega arith) in
    let is_born : little_number 8 (drop 8 bs) ≡ born = little_number-reads_back 8 born (drop 16 bs) (omega arith) in
    let one : (kind == 0 || nat_lt 4 kind || not (0 == 0)) ≡ false = grind (arith, nat_tests, low, high) in
    let two : (not (little_number 4 (drop 4 bs) == page) || little_number 8 (drop 8 bs) == 0 || nat_lt generation (little_number 8 (drop 8 bs))) ≡ false =
    grind (arith, nat_tests, own, is_born, some, until) in
    two_pass (kind == 0 || nat_lt 4 kind || not (0 == 0))
    (not (little_number 4 (drop 4 bs) == page) || little_number 8 (drop 8 bs) == 0 || nat_lt generation (little_number 8 (drop 8 bs)))
    (little_number 8 (drop 8 bs)) one two
    ∙ ap (λ (n : ℕ). Ok n) is_born

module _ (generation page born kind count : ℕ) (content : Content) (body : List ℕ) (near : page < 2 ^ 32) (short : born < 2 ^ 64) (some : 1 ≤ born)
    (until : born ≤ generation)
    (low : 1 ≤ kind) (high : kind ≤ 4) (few : count < 2 ^ 16) (len : length body ≡ 4080) (back : content_in kind count body ≡ Ok content) where
  pub whole_back : model_in page generation (header kind count page born ++ body) ≡ Ok (record { page = page; generation = born; content = content })
  whole_back =
      let bs = header kind count page born ++ body in
      let all : length bs ≡ 4096 = omega (arith, len) in
      let two : take 4094 (drop 2 bs) ≡ drop 2 bs = take_all 4094 (drop 2 bs) (omega (arith, len)) in
      let front : count ≡ little_number 2 (take 4094 (drop 2 bs)) =
      sym (ap (little_number 2) two ∙ little_number-reads_back 2 count (drop 4 bs) (omega arith)) in
      let behind : take 4080 body ≡ body = take_all 4080 body (omega (arith, len)) in
      model_planned page generation born count bs (Ok content) all (generation_back kind count page born generation body low high near short some until) front
      (ap (content_in kind count) behind ∙ back)

pub reads_back : ReadsBack
unfolding page_bytes
reads_back generation model sound = back model.page model.generation model.content sound.page sound.small sound.some sound.until sound.content
  where
    back : (page born : ℕ) (content : Content) → page < 2 ^ 32 → born < 2 ^ 64 → 1 ≤ born → born ≤ generation → IsContent content
        → model_in page generation (page_bytes (record { page = page; generation = born; content = content }))
        ≡ Ok (record { page = page; generation = born; content = content })
    back page born (leaf items) near short some until is =
        whole_back generation page born 1 (length items) (leaf items) (body_and_zeros (flat_map item_bytes items)) near short some until (omega arith)
        (omega arith)
        (omega (arith, few_items items, is.room)) (leaf_len items is) (leaf_back items is)
    back page born (branch pivots) near short some until is =
        whole_back generation page born 2 (length pivots) (branch pivots) (body_and_zeros (pivots_bytes pivots)) near short some until (omega arith)
        (omega arith)
        (omega (arith, few_pivots pivots, is.room)) (branch_len pivots is) (branch_back pivots is)
    back page born (chain next bytes) near short some until (small, fits, full) =
        chain_read_back page born next generation bytes near small short some until fits full
    back page born (free_list next pages) near short some until is =
        let onward : little_number 4 (body_and_zeros (body_of (free_list next pages))) ≡ next =
        little_number-reads_back 4 next (drop 4 (body_and_zeros (body_of (free_list next pages)))) (omega (arith, is.0)) in
        whole_back generation page born 4 (length pages) (free_list next pages) (body_and_zeros (body_of (free_list next pages))) near short some until
        (omega arith) (omega arith)
        (omega (arith, is.1)) (body_len (body_of (free_list next pages)) (omega (arith, is.1, numbers_len pages)))
        (ap (λ (n : ℕ). free_list_in (length pages) n (drop 4 (body_and_zeros (body_of (free_list next pages))))) onward ∙ list_back next pages is)
