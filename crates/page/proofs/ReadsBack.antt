-- A page that is written is read again.
use Rattle.std.proofs.Common.{◌≡◌, inl, inr, ℕ, ◌-◌, ◌^◌, ◌<◌, ◌≤◌, Bool, true, false, suc, List, ◌++◌, length, take, drop, replicate, refl, ◌∙◌, ap, arith}
use Rattle.std.specs.Prelude.{◌⊎◌, ◌==◌, not, ◌&&◌, ◌||◌, nat_lt, slice_index, Result, Ok}
use Rattle.std.proofs.lemmas.Bool.Decides.{nat_tests}
use Rattle.std.proofs.Math.Seq.{drop-append_seam, take-append_seam}
use Rattle.byteorder.specs.Endian.{little_number}
use Rattle.byteorder.specs.Numbers.{little_number-reads_back}
use Rattle.page.specs.Content.{Content, chain}
use Rattle.page.specs.Format.{PageModel, page_bytes, are_zeros, model_in}
use Rattle.page.proofs.PlaceLemmas.{zeros_are}
use Rattle.outcome.specs.Outcome.{◌>>=◌, unless}
use Rattle.page.specs.declared.page_fault.PageFault.{PageFault}
use Rattle.page.specs.declared.page_fault.PageFault.TheVariants as faults

-- where no test fails, reading gives the content
steps : Bool → Bool → ℕ → Content → ℕ → Result PageModel PageFault
steps t1 t2 born inside number = do
  b ← unless t1 faults.Number (Ok born)
  i ← unless t2 faults.Length (Ok inside)
  Ok (record { page = number; generation = b; content = i })

all_pass : (t1 t2 : Bool) (born : ℕ) (inside : Content) (number : ℕ) → t1 ≡ false → t2 ≡ false
    → steps t1 t2 born inside number ≡ Ok (record { page = number; generation = born; content = inside })
unfolding steps
all_pass t1 t2 born inside number e1 e2 = rw (e1, e2) refl

module _ (number generation : ℕ) (bs : List ℕ) (n next born : ℕ) (bytes : List ℕ)
    (kind : slice_index bs 0 ≡ 3) (gap : slice_index bs 1 ≡ 0) (own : little_number 4 (drop 4 bs) ≡ number) (is_born : little_number 8 (drop 8 bs) ≡ born)
    (some : 1 ≤ born) (until : born ≤ generation) (count : little_number 2 (drop 2 bs) ≡ n) (onward : little_number 4 (drop 16 bs) ≡ next)
    (fits : n ≤ 4076) (full : (next ≡ 0) ⊎ (n ≡ 4076)) (tail : are_zeros (drop n (drop 4 (drop 16 bs))) ≡ true)
    (inside : take n (drop 4 (drop 16 bs)) ≡ bytes) where
  full_test : (not (next == 0) && nat_lt n 4076) ≡ false
  full_test = elim full [ inl last ↦ grind (arith, nat_tests, last) | inr whole ↦ grind (arith, nat_tests, whole) ]

  pub model_by : model_in number generation bs ≡ Ok (record { page = number; generation = born; content = chain next bytes })
  unfolding steps
  model_by =
      rw (kind, gap, count, onward, own, is_born, inside)
      (all_pass (not (number == number) || born == 0 || nat_lt generation born)
      (nat_lt 4076 n || (not (next == 0) && nat_lt n 4076) || not (are_zeros (drop n (drop 4 (drop 16 bs))))) born (chain next bytes) number
      (grind (arith, nat_tests, some, until)) (grind (arith, nat_tests, fits, full_test, tail)))

-- A chain's page is read as what it was written as, under any root from its own generation on.
pub chain_read_back : (page born next generation : ℕ) (bytes : List ℕ) → page < 2 ^ 32 → next < 2 ^ 32 → born < 2 ^ 64 → 1 ≤ born → born ≤ generation
    → length bytes ≤ 4076 → (next ≡ 0) ⊎ (length bytes ≡ 4076)
    → model_in page generation (page_bytes (record { page = page; generation = born; content = chain next bytes }))
    ≡ Ok (record { page = page; generation = born; content = chain next bytes })
unfolding page_bytes
chain_read_back page born next generation bytes small near short some until fits full =
    let bs = page_bytes (record { page = page; generation = born; content = chain next bytes }) in
    let pad = replicate {A = ℕ} (4080 - suc (suc (suc (suc (length bytes))))) 0 in
    let tail : drop (length bytes) (bytes ++ pad) ≡ pad = drop-append_seam bytes pad in
    model_by page generation bs (length bytes) next born bytes refl refl
    (little_number-reads_back 4 page (drop 8 bs) (omega arith))
    (little_number-reads_back 8 born (drop 16 bs) (omega arith))
    some until
    (little_number-reads_back 2 (length bytes) (drop 4 bs) (omega arith))
    (little_number-reads_back 4 next (drop 20 bs) (omega arith))
    fits full (ap are_zeros tail ∙ zeros_are (4080 - suc (suc (suc (suc (length bytes)))))) (take-append_seam bytes pad)
