-- The search for the least free page, and for a pin.
use Rattle.std.proofs.Common.{◌≡◌, ◌<◌, ◌≤◌, ◌+◌, ◌-◌, ◌*◌, ◌/◌, ℕ, zero, suc, Bool, true, false, List, [], ◌∷◌, ◌++◌, length, drop, sym, ap, ◌∙◌, arith}
use Rattle.std.proofs.Common.{Some, None, refl}
use Rattle.std.proofs.Common.{inl, inr, set, subst, take, replicate, ◌^◌}
use Rattle.std.specs.Prelude.{◌≢◌, ◌==◌, get_or}
use Rattle.std.specs.List.{remove}
use Rattle.std.proofs.lemmas.Bool.Decides.{nat_tests}
use Rattle.std.proofs.lemmas.Bool.{cases_Bool, cases_eq, cases_lt}
use Rattle.std.proofs.lemmas.Grind.{get_or-set_at}
use Rattle.std.proofs.lemmas.List.{drop-drop, get_or-drop, get_or-take, get_or-set_other, get_or_past, drop_more, drop_all, length-drop, length-replicate}
use Rattle.std.proofs.lemmas.List.{length-set, length-take-le}
use Rattle.std.proofs.Math.Nat.{mod-add-div'}
use Rattle.std.proofs.Math.Seq.{take-append_seam}
use Rattle.freelist.specs.Book.{is_free_state, first_free, least_free, without, IsStart}
use Rattle.freelist.specs.Search.{MarksHold, IsFirst, IsSearch, NoneFits, fits, marks_after, marks_passed}
use Rattle.freelist.specs.declared.states.PageState.{PageState}
use Rattle.freelist.specs.declared.states.PageState.TheVariants as states
use Rattle.freelist.specs.declared.states.Sought.{Sought}
use Rattle.freelist.specs.declared.states.Sought.TheVariants as soughts

-- pages in front that aren't free are passed over
passed_over : (k n : ℕ) (pages : List PageState) → k ≤ length pages → ((i : ℕ) → i < k → is_free_state (get_or pages i states.Retired) ≡ false)
    → first_free n pages ≡ first_free (n + k) (drop k pages)
passed_over zero n pages h none = ap (λ (m : ℕ). first_free m pages) (omega arith)
passed_over (suc k) n [] h none = absurd (omega (arith, h))
passed_over (suc k) n (s ∷ pages) h none =
    rw (none 0 (omega arith)) (passed_over k (n + 1) pages (omega (arith, h)) (λ i below. none (suc i) (omega (arith, below)))
    ∙ ap (λ (m : ℕ). first_free m (drop k pages)) (omega arith))

-- a state past the limit is no free one, whichever of the two it is
free_past : (pages : List PageState) (k : ℕ) → is_free_state (get_or pages k states.Retired) ≡ is_free_state (get_or pages k states.InUse)
free_past [] k = refl
free_past (s ∷ pages) zero = refl
free_past (s ∷ pages) (suc k) = free_past pages k

pub least_from : (start : ℕ) (pages : List PageState) → IsStart start pages → least_free pages ≡ first_free start (drop start pages)
least_from start pages is =
    let front : 1 + (start - 1) ≡ start = omega (arith, is.after) in
    passed_over (start - 1) 1 (drop 1 pages) (omega (arith, is.within, length-drop 1 pages))
    (λ i below. ap is_free_state (get_or-drop 1 pages i states.Retired) ∙ is.passed (1 + i) (omega arith) (omega (arith, below)))
    ∙ ap (first_free (1 + (start - 1))) (drop-drop (start - 1) 1 pages)
    ∙ ap (λ (m : ℕ). first_free m (drop m pages)) front

pub least_here : (start : ℕ) (pages : List PageState) → IsStart start pages → start < length pages
    → is_free_state (get_or pages start states.InUse) ≡ true → Some start ≡ least_free pages
least_here start pages is within free =
    sym (least_from start pages is ∙ ap (first_free start) (drop_more pages start states.InUse within) ∙ rw free refl)

pub least_none : (start : ℕ) (pages : List PageState) → IsStart start pages → length pages ≤ start → None ≡ least_free pages
least_none start pages is past = sym (least_from start pages is ∙ ap (first_free start) (drop_all start pages past))

-- the search for a free page begins at the first one that it found
pub starts_at : (start page : ℕ) (pages : List PageState) → IsStart start pages → IsFirst soughts.Free start page pages → IsStart page pages
starts_at start page pages is first = record {
  after = omega (arith, is.after, first.rises);
  within = omega (arith, is.within, first.within);
  few = is.few;
  passed = passed;
}
  where
    passed : (k : ℕ) → 1 ≤ k → k < page → is_free_state (get_or pages k states.Retired) ≡ false
    passed k from below = elim (cases_lt k start) [
      | inl front ↦ is.passed k from front
      | inr behind ↦ free_past pages k ∙ first.passed k behind below
    ]

-- ---- where a search begins

none_marked : (n k : ℕ) → get_or (replicate n false) k false ≡ false
none_marked zero k = refl
none_marked (suc n) zero = refl
none_marked (suc n) (suc k) = none_marked n k

-- no block is marked yet
begins_with : (sought : Sought) (count : ℕ) (marks : List Bool) (pages : List PageState) → length pages ≡ count
    → marks ≡ replicate (count / 256) false → MarksHold sought marks pages
begins_with sought count marks pages many are = subst (λ (ms : List Bool). MarksHold sought ms pages) (sym are) (record {
  none = λ block marked. absurd (let never : true ≡ false = sym marked ∙ none_marked (count / 256) block in cc);
  whole = omega (arith, many, length-replicate (count / 256) false, mod-add-div' count 256);
})

pub search_begins : (count : ℕ) (full used : List Bool) (pages : List PageState) → length pages ≡ count → 1 ≤ count → count < 2 ^ 32
    → full ≡ replicate (count / 256) false → used ≡ replicate (count / 256) false → IsSearch 1 full used pages
search_begins count full used pages many some few full_are used_are = record {
  starts = record {
    after = omega arith;
    within = omega (arith, many, some);
    few = omega (arith, many, few);
    passed = λ k from below. absurd (omega (arith, from, below));
  };
  full_blocks = begins_with soughts.Free count full pages many full_are;
  used_blocks = begins_with soughts.Unused count used pages many used_are;
}

-- ---- the marks

module _ (sought : Sought) (pages : List PageState) where
  -- what was found of a part of the pages
  pub place_within : (from to at : ℕ) → to ≤ length pages → IsFirst sought 0 at (take (to - from) (drop from pages)) → at ≤ to - from
  place_within from to at inside first =
      omega (arith, first.within, length-take-le (to - from) (drop from pages) (omega (arith, inside, length-drop from pages)))

  pub none_in_part : (from to at : ℕ) → to ≤ length pages → IsFirst sought 0 at (take (to - from) (drop from pages))
      → NoneFits sought from (from + at) pages
  none_in_part from to at inside first k after below =
      let there : from + (k - from) ≡ k = omega (arith, after) in
      let within : k - from < to - from = omega (arith, after, below, place_within from to at inside first) in
      ap (λ (j : ℕ). fits sought (get_or pages j states.InUse)) (sym there)
      ∙ ap (fits sought) (sym (get_or-drop from pages (k - from) states.InUse))
      ∙ ap (fits sought) (sym (get_or-take (to - from) (drop from pages) (k - from) states.InUse within))
      ∙ first.passed (k - from) (omega arith) (omega (arith, after, below))

  -- a block that was passed over is marked
  pub marks_block : (marks : List Bool) (block from passed : ℕ) → MarksHold sought marks pages → NoneFits sought from (from + passed) pages
      → (passed ≡ 256 → from ≡ block * 256) → MarksHold sought (marks_passed block passed marks) pages
  marks_block marks block from passed are none begins = elim (cases_eq passed 256) [
    | inl all ↦ subst (λ (ms : List Bool). MarksHold sought ms pages) (sym (now all)) (record {
      none = there all;
      whole = omega (arith, are.whole, length-set marks block true);
    })
    | inr some ↦ subst (λ (ms : List Bool). MarksHold sought ms pages) (sym (still some)) are
  ]
    where
      now : passed ≡ 256 → marks_passed block passed marks ≡ set marks block true
      now all = (let eq : (passed == 256) ≡ true = grind (arith, nat_tests) in rw eq refl)

      still : passed ≢ 256 → marks_passed block passed marks ≡ marks
      still some = (let eq : (passed == 256) ≡ false = grind (arith, nat_tests) in rw eq refl)

      there : passed ≡ 256 → (j : ℕ) → get_or (set marks block true) j false ≡ true → NoneFits sought (j * 256) (j * 256 + 256) pages
      there all j marked = elim (cases_eq j block) [
        | inl same ↦ λ k after below. none k (omega (arith, after, same, begins all)) (omega (arith, below, same, begins all, all))
        | inr other ↦ are.none j (sym (get_or-set_other marks block j true false other) ∙ marked)
      ]

used_never_fits : (sought : Sought) → fits sought states.InUse ≡ false
used_never_fits soughts.Free = refl
used_never_fits soughts.Unused = refl

-- a page is of another state now, and isn't sought in it
fits_no_more : (sought : Sought) (pages : List PageState) (page k : ℕ) (state : PageState) → (k ≡ page → fits sought state ≡ false)
    → fits sought (get_or pages k states.InUse) ≡ false → fits sought (get_or (set pages page state) k states.InUse) ≡ false
fits_no_more sought pages page k state now was = elim (cases_eq k page) [
  | inl same ↦ elim (cases_lt page (length pages)) [
    | inl inside ↦ ap (fits sought) (get_or-set_at pages page k state states.InUse same inside) ∙ now same
    | inr past ↦
        ap (fits sought) (get_or_past (set pages page state) k states.InUse (omega (arith, same, past, length-set pages page state)))
        ∙ used_never_fits sought
  ]
  | inr other ↦ ap (fits sought) (get_or-set_other pages page k state states.InUse other) ∙ was
]

mark_is_gone : (marks : List Bool) (block : ℕ) → get_or (set marks block false) block false ≡ false
mark_is_gone [] block = refl
mark_is_gone (m ∷ marks) zero = refl
mark_is_gone (m ∷ marks) (suc block) = mark_is_gone marks block

-- a block that is marked still was, and isn't that of a page which is sought now
pub stays_marked : (sought : Sought) (pages : List PageState) (marks : List Bool) (page : ℕ) (state : PageState) → MarksHold sought marks pages
    → MarksHold sought (marks_after sought page state marks) (set pages page state)
stays_marked sought pages marks page state are = elim (cases_Bool (fits sought state)) [
  | inl so ↦ subst (λ (ms : List Bool). MarksHold sought ms (set pages page state)) (sym (taken so)) (record {
    none = λ j marked k after below. elim (cases_eq j (page / 256)) [
      | inl same ↦ absurd (let never : true ≡ false =
          sym marked ∙ ap (λ (i : ℕ). get_or (set marks (page / 256) false) i false) same ∙ mark_is_gone marks (page / 256) in cc)
      | inr other ↦ fits_no_more sought pages page k state (λ same. absurd (other (in_block j k after below same)))
          (are.none j (sym (get_or-set_other marks (page / 256) j false false other) ∙ marked) k after below)
    ];
    whole = omega (arith, are.whole, length-set marks (page / 256) false, length-set pages page state);
  })
  | inr not_so ↦ subst (λ (ms : List Bool). MarksHold sought ms (set pages page state)) (sym (left not_so)) (record {
    none = λ j marked k after below. fits_no_more sought pages page k state (λ same. not_so) (are.none j marked k after below);
    whole = omega (arith, are.whole, length-set pages page state);
  })
]
  where
    taken : fits sought state ≡ true → marks_after sought page state marks ≡ set marks (page / 256) false
    taken so = rw so refl

    left : fits sought state ≡ false → marks_after sought page state marks ≡ marks
    left not_so = rw not_so refl

    in_block : (j k : ℕ) → j * 256 ≤ k → k < j * 256 + 256 → k ≡ page → j ≡ page / 256
    in_block j k after below same = omega (arith, after, below, same, mod-add-div' page 256)

-- what a call left of a part of a vector that is the whole of it
pub whole_part : (xs ys : List Bool) (n : ℕ) → length xs ≡ n → take n (xs ++ ys) ≡ xs
whole_part xs ys n same = ap (λ (k : ℕ). take k (xs ++ ys)) (sym same) ∙ take-append_seam xs ys

-- ---- a pin

pub without_at : (version : ℕ) (pins : List ℕ) (i : ℕ) → i < length pins → ((k : ℕ) → k < i → get_or pins k 0 ≢ version) → get_or pins i 0 ≡ version
    → without version pins ≡ remove pins i
without_at version [] i within none here = absurd (omega (arith, within))
without_at version (p ∷ pins) zero within none here =
    let same : (p == version) ≡ true = grind (arith, nat_tests) in
    rw same refl
without_at version (p ∷ pins) (suc i) within none here =
    let first : p ≢ version = none 0 (omega arith) in
    let other : (p == version) ≡ false = grind (arith, nat_tests) in
    rw other (ap (λ (ps : List ℕ). p ∷ ps) (without_at version pins i (omega (arith, within)) (λ k below. none (suc k) (omega (arith, below))) here))

pub without_none : (version : ℕ) (pins : List ℕ) → ((k : ℕ) → k < length pins → get_or pins k 0 ≢ version) → without version pins ≡ pins
without_none version [] none = refl
without_none version (p ∷ pins) none =
    let first : p ≢ version = none 0 (omega arith) in
    let other : (p == version) ≡ false = grind (arith, nat_tests) in
    rw other (ap (λ (ps : List ℕ). p ∷ ps) (without_none version pins (λ k below. none (suc k) (omega (arith, below)))))
