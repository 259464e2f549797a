-- The part of a list that a query gives, where the list goes on.
use Rattle.std.proofs.Common.{◌≡◌, ℕ, zero, suc, ◌-◌, ◌<◌, ◌≤◌, true, false, List, [], ◌∷◌, ◌++◌, length, take, drop, sym, ap, ◌∙◌, arith}
use Rattle.std.proofs.lemmas.Bool.Decides.{nat_tests}
use Rattle.std.proofs.lemmas.List.{drop_all, drop-append-le, length-drop, length-take, take_all, take-append-le}
use Rattle.database_model.specs.Find.{limited, window}
use Rattle.walks.specs.Batches.{is_reached}

module _ {X : Type 0} where
  take_past : (n : ℕ) (xs ys : List X) → length xs ≤ n → take n (xs ++ ys) ≡ xs ++ take (n - length xs) ys
  take_past n [] ys few = let same : n ≡ n - 0 = omega arith in ap (λ (m : ℕ). take m ys) same
  take_past zero (x ∷ xs) ys few = absurd (omega (arith, few))
  take_past (suc n) (x ∷ xs) ys few =
      let same : n - length xs ≡ suc n - suc (length xs) = omega arith in
      ap (λ (zs : List X). x ∷ zs) (take_past n xs ys (omega (arith, few))) ∙ ap (λ (m : ℕ). x ∷ (xs ++ take m ys)) same

  -- none are given where all are left out
  pub all_skipped : (skip limit : ℕ) (xs : List X) → length xs ≤ skip → window skip limit xs ≡ []
  all_skipped skip zero xs few = drop_all skip xs few
  all_skipped skip (suc n) xs few = ap (take (suc n)) (drop_all skip xs few)

  -- as many came as may
  pub window_full : (skip limit : ℕ) (xs more : List X) → is_reached limit (length (window skip limit xs)) ≡ true
      → window skip limit (xs ++ more) ≡ window skip limit xs
  window_full skip zero xs more full = absurd cc
  window_full skip (suc n) xs more full =
      let enough : suc n ≤ length (take (suc n) (drop skip xs)) = grind (arith, nat_tests, full) in
      let left : suc n ≤ length (drop skip xs) = omega (arith, enough, length-take (suc n) (drop skip xs)) in
      let few : skip ≤ length xs = omega (arith, left, length-drop skip xs) in
      ap (take (suc n)) (drop-append-le skip xs more few) ∙ take-append-le (suc n) (drop skip xs) more left

  -- more may come
  pub window_more : (skip limit : ℕ) (xs more : List X) → skip ≤ length xs → is_reached limit (length (window skip limit xs)) ≡ false
      → window skip limit (xs ++ more) ≡ window skip limit xs ++ limited (limit - length (window skip limit xs)) more
  window_more skip zero xs more few open_end =
      let none : 0 - length (drop skip xs) ≡ 0 = omega arith in
      drop-append-le skip xs more few ∙ ap (λ (m : ℕ). drop skip xs ++ limited m more) (sym none)
  window_more skip (suc n) xs more few open_end =
      let all = drop skip xs in
      let less : length (take (suc n) all) < suc n = grind (arith, nat_tests, open_end) in
      let short : length all ≤ suc n = omega (arith, less, length-take (suc n) all) in
      let same : take (suc n) all ≡ all = take_all (suc n) all short in
      let some : suc n - length (take (suc n) all) ≡ suc (n - length (take (suc n) all)) = omega (arith, less) in
      ap (take (suc n)) (drop-append-le skip xs more few) ∙ take_past (suc n) all more short
      ∙ (λ k. sym same k ++ take (suc n - length (sym same k)) more)
      ∙ ap (λ (m : ℕ). take (suc n) all ++ take m more) some
      ∙ ap (λ (m : ℕ). take (suc n) all ++ limited m more) (sym some)
