-- What the pages of a list that is written hold.
use Rattle.std.proofs.Common.{◌≡◌, ◌<◌, ◌≤◌, ◌+◌, ◌-◌, ◌*◌, ℕ, zero, suc, List, [], ◌∷◌, length, take, drop, sym, ap, ◌∙◌, arith, refl, inl, inr, Some}
use Rattle.std.proofs.Common.{length-drop}
use Rattle.std.specs.Prelude.{◌^◌, get_or, min, Option}
use Rattle.std.proofs.lemmas.Bool.{cases_lt}
use Rattle.std.proofs.lemmas.List.{drop-drop, drop_all, take_all}
use Rattle.freelist.specs.FreeList.{ListContent, first_page, written}
use Rattle.freelist.specs.ListWriting.{content_at}

first_written : (pages named : List ℕ) → first_page (written pages named) ≡ get_or pages 0 0
first_written [] named = refl
first_written (page ∷ pages) named = refl

abbrev part_at : List ℕ → List ℕ → ℕ → ListContent
part_at pages named at = record { next = get_or pages (at + 1) 0; named = take 1019 (drop (1019 * at) named) }

pub same_part : {n m : ℕ} {ns ms : List ℕ} → n ≡ m → ns ≡ ms
    → ◌≡◌ {A = Option ListContent} (Some (record { next = n; named = ns })) (Some (record { next = m; named = ms }))
same_part e f = λ i. Some (record { next = e i; named = f i })

pub content_written : (pages named : List ℕ) (at : ℕ) → at < length pages → content_at (written pages named) at ≡ Some (part_at pages named at)
content_written [] named at within = absurd (omega (arith, within))
content_written (page ∷ pages) named zero within =
    ap (λ (n : ℕ). Some (record { next = n; named = take 1019 named })) (first_written pages (drop 1019 named))
content_written (page ∷ pages) named (suc at) within =
    let moved : 1019 + 1019 * at ≡ 1019 * suc at = omega arith in
    let behind : suc at + 1 ≡ suc (at + 1) = omega arith in
    content_written pages (drop 1019 named) at (omega (arith, within))
    ∙ same_part (sym (ap (λ (n : ℕ). get_or (page ∷ pages) n 0) behind))
    (ap (take 1019) (drop-drop (1019 * at) 1019 named ∙ ap (λ (n : ℕ). drop n named) moved))

-- ---- the pages that one page names

pub part_cut : (xs : List ℕ) (at from to : ℕ) → length xs < 2 ^ 64 → from ≡ min (min (at * 1019) (2 ^ 64 - 1)) (length xs)
    → to ≡ min (from + 1019) (length xs) → take (to - from) (drop from xs) ≡ take 1019 (drop (1019 * at) xs)
part_cut xs at from to small from_is to_is = elim (cases_lt (1019 * at) (length xs)) [
  | inl inside ↦
      let here : from ≡ 1019 * at = omega (arith, from_is, inside, small) in
      elim (cases_lt (from + 1019) (length xs)) [
        | inl more ↦
            let full : to - from ≡ 1019 = omega (arith, to_is, more) in
            ap (λ (n : ℕ). take n (drop from xs)) full ∙ ap (λ (n : ℕ). take 1019 (drop n xs)) here
        | inr last ↦
            let long : length (drop from xs) ≤ to - from = omega (arith, to_is, last, length-drop from xs) in
            let few : length (drop from xs) ≤ 1019 = omega (arith, last, length-drop from xs) in
            take_all (to - from) (drop from xs) long ∙ sym (take_all 1019 (drop from xs) few) ∙ ap (λ (n : ℕ). take 1019 (drop n xs)) here
      ]
  | inr past ↦
      let end : length xs ≤ from = omega (arith, from_is, past, small) in
      ap (take (to - from)) (drop_all from xs end) ∙ take_all (to - from) [] (omega arith) ∙ ap (take 1019) (sym (drop_all (1019 * at) xs past))
]
