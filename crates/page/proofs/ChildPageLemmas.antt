-- A branch with another page for a child: four bytes of it are others.
use Rattle.std.proofs.Common.{◌≡◌, ℕ, zero, suc, ◌+◌, ◌-◌, ◌^◌, ◌<◌, ◌≤◌, List, [], ◌∷◌, ◌++◌, length, take, drop, replicate, get_or, refl, sym, ap, ◌∙◌, subst}
use Rattle.std.proofs.Common.{arith, append_assoc}
use Rattle.std.specs.Prelude.{Option, Some, None, slice_get}
use Rattle.std.proofs.lemmas.Option.{slice_get-get_or}
use Rattle.std.specs.List.{AllByRecursion, flat_map}
use Rattle.std.proofs.lemmas.List.{length-map}
use Rattle.std.proofs.Math.Seq.{drop-append-add, take-append-add}
use Rattle.byteorder.specs.Endian.{little_bytes}
use Rattle.page.specs.ChildPage.{later_place, page_place, with_child}
use Rattle.page.specs.Content.{Pivot, IsPivot, IsBranch, pivot_keys, pivot_size, pivots_size, first_key, rise, total}
use Rattle.page.specs.Format.{pivot_bytes, pivot_in, pivots_at, pivots_bytes, body_and_zeros}
use Rattle.page.specs.Kept.{KeepsBranch, starts}
use Rattle.page.proofs.PlaceLemmas.{get_starts, length-joined}
use Rattle.page.proofs.CellLemmas.{length-pivot}
use Rattle.page.proofs.KeptLemmas.{branch_again, branch_made}

-- ---- four bytes that are others

abbrev pub patched : ℕ → ℕ → List ℕ → List ℕ
patched at n bytes = take at bytes ++ (little_bytes 4 n ++ drop (at + 4) bytes)

patched_behind : (xs ys : List ℕ) (at n : ℕ) → patched (length xs + at) n (xs ++ ys) ≡ xs ++ patched at n ys
patched_behind xs ys at n =
    let e : length xs + at + 4 ≡ length xs + (at + 4) = omega arith in
    (λ i. take-append-add xs ys at i ++ (little_bytes 4 n ++ drop (e i) (xs ++ ys)))
    ∙ ap (λ (l : List ℕ). (xs ++ take at ys) ++ (little_bytes 4 n ++ l)) (drop-append-add xs ys (at + 4))
    ∙ append_assoc xs (take at ys) (little_bytes 4 n ++ drop (at + 4) ys)

patched_here : (old n : ℕ) (rest : List ℕ) → patched 0 n (little_bytes 4 old ++ rest) ≡ little_bytes 4 n ++ rest
patched_here old n rest = refl

pivot_patched : (pivot : Pivot) (n : ℕ) (rest : List ℕ)
    → patched (2 + length pivot.key) n (pivot_bytes pivot ++ rest) ≡ pivot_bytes (record { key = pivot.key; child = n }) ++ rest
pivot_patched pivot n rest =
    let xs = little_bytes 2 (length pivot.key) ++ pivot.key in
    let e : 2 + length pivot.key ≡ length xs + 0 = omega arith in
    (λ i. patched (e i) n (append_assoc xs (little_bytes 4 pivot.child) rest i))
    ∙ patched_behind xs (little_bytes 4 pivot.child ++ rest) 0 n
    ∙ ap (λ (l : List ℕ). xs ++ l) (patched_here pivot.child n rest)
    ∙ sym (append_assoc xs (little_bytes 4 n) rest)

pivots_patched : (i n : ℕ) (pivots : List Pivot) (rest : List ℕ) → i < length pivots
    → patched (later_place i pivots) n (flat_map pivot_bytes pivots ++ rest) ≡ flat_map pivot_bytes (with_child i n pivots) ++ rest
pivots_patched i n [] rest lt = absurd (omega arith)
pivots_patched zero n (pivot ∷ pivots) rest lt =
    ap (patched (2 + length pivot.key) n) (append_assoc (pivot_bytes pivot) (flat_map pivot_bytes pivots) rest)
    ∙ pivot_patched pivot n (flat_map pivot_bytes pivots ++ rest)
    ∙ sym (append_assoc (pivot_bytes (record { key = pivot.key; child = n })) (flat_map pivot_bytes pivots) rest)
pivots_patched (suc i) n (pivot ∷ pivots) rest lt =
    let e : pivot_size pivot + later_place i pivots ≡ length (pivot_bytes pivot) + later_place i pivots = ap (λ (k : ℕ). k + later_place i pivots)
    (sym (length-pivot pivot)) in
    (λ j. patched (e j) n (append_assoc (pivot_bytes pivot) (flat_map pivot_bytes pivots) rest j))
    ∙ patched_behind (pivot_bytes pivot) (flat_map pivot_bytes pivots ++ rest) (later_place i pivots) n
    ∙ ap (λ (l : List ℕ). pivot_bytes pivot ++ l) (pivots_patched i n pivots rest (omega arith))
    ∙ sym (append_assoc (pivot_bytes pivot) (flat_map pivot_bytes (with_child i n pivots)) rest)

branch_patched : (i n : ℕ) (pivots : List Pivot) (rest : List ℕ) → i < length pivots
    → patched (page_place i pivots) n (pivots_bytes pivots ++ rest) ≡ pivots_bytes (with_child i n pivots) ++ rest
branch_patched i n [] rest lt = absurd (omega arith)
branch_patched zero n (first ∷ pivots) rest lt = refl
branch_patched (suc i) n (first ∷ pivots) rest lt =
    patched_behind (little_bytes 4 first.child) (flat_map pivot_bytes pivots ++ rest) (later_place i pivots) n
    ∙ ap (λ (l : List ℕ). little_bytes 4 first.child ++ l) (pivots_patched i n pivots rest (omega arith))

-- ---- all else stays

pub with_long : (i n : ℕ) (pivots : List Pivot) → length (with_child i n pivots) ≡ length pivots
with_long i n [] = refl
with_long zero n (pivot ∷ pivots) = refl
with_long (suc i) n (pivot ∷ pivots) = ap (λ (k : ℕ). suc k) (with_long i n pivots)

with_total : (i n : ℕ) (pivots : List Pivot) → total pivot_size (with_child i n pivots) ≡ total pivot_size pivots
with_total i n [] = refl
with_total zero n (pivot ∷ pivots) = refl
with_total (suc i) n (pivot ∷ pivots) = ap (λ (k : ℕ). pivot_size pivot + k) (with_total i n pivots)

with_keys : (i n : ℕ) (pivots : List Pivot) → pivot_keys (with_child i n pivots) ≡ pivot_keys pivots
with_keys i n [] = refl
with_keys zero n (pivot ∷ pivots) = refl
with_keys (suc i) n (pivot ∷ pivots) = ap (λ (l : List (List ℕ)). pivot.key ∷ l) (with_keys i n pivots)

with_starts : (i n at : ℕ) (pivots : List Pivot) → starts pivot_size at (with_child i n pivots) ≡ starts pivot_size at pivots
with_starts i n at [] = refl
with_starts zero n at (pivot ∷ pivots) = refl
with_starts (suc i) n at (pivot ∷ pivots) = ap (λ (l : List ℕ). at ∷ l) (with_starts i n (at + pivot_size pivot) pivots)

with_each : (i n : ℕ) (pivots : List Pivot) → n < 2 ^ 32 → AllByRecursion IsPivot pivots → AllByRecursion IsPivot (with_child i n pivots)
with_each i n [] range all = tt
with_each zero n (pivot ∷ pivots) range all = (record { size = all.0.size; child = range }, all.1)
with_each (suc i) n (pivot ∷ pivots) range all = (all.0, with_each i n pivots range all.1)

with_first : (i n : ℕ) (pivots : List Pivot) → first_key (with_child i n pivots) ≡ first_key pivots
with_first i n [] = refl
with_first zero n (pivot ∷ pivots) = refl
with_first (suc i) n (pivot ∷ pivots) = refl

with_size : (i n : ℕ) (pivots : List Pivot) → pivots_size (with_child i n pivots) ≡ pivots_size pivots
with_size i n [] = refl
with_size zero n (pivot ∷ pivots) = refl
with_size (suc i) n (pivot ∷ pivots) = ap (λ (k : ℕ). 4 + k) (with_total i n pivots)

pub with_branch : (i n : ℕ) (pivots : List Pivot) → n < 2 ^ 32 → IsBranch pivots → IsBranch (with_child i n pivots)
with_branch i n pivots range sound = record {
  some = omega (arith, sound.some, with_long i n pivots);
  bare = with_first i n pivots ∙ sound.bare;
  each = with_each i n pivots range sound.each;
  ascending = ap rise (with_keys i n pivots) ∙ sound.ascending;
  room = omega (arith, sound.room, with_size i n pivots);
}

bytes_long : (pivots : List Pivot) → length (pivots_bytes pivots) ≡ pivots_size pivots
bytes_long [] = refl
bytes_long (first ∷ pivots) = omega (arith, length-joined pivot_bytes pivot_size length-pivot pivots)

-- ---- the branch that was made

module _ (i n : ℕ) (range : n < 2 ^ 32) where
  made_whole : (pivots : List Pivot) (bytes made : List ℕ) → i < length pivots → bytes ≡ body_and_zeros (pivots_bytes pivots)
      → made ≡ patched (page_place i pivots) n bytes → made ≡ body_and_zeros (pivots_bytes (with_child i n pivots))
  made_whole pivots bytes made lt is made_is =
      let same : length (pivots_bytes pivots) ≡ length (pivots_bytes (with_child i n pivots)) =
      bytes_long pivots ∙ sym (with_size i n pivots) ∙ sym (bytes_long (with_child i n pivots)) in
      made_is ∙ ap (patched (page_place i pivots) n) is ∙ branch_patched i n pivots (replicate (4080 - length (pivots_bytes pivots)) 0) lt
      ∙ ap (λ (k : ℕ). pivots_bytes (with_child i n pivots) ++ replicate (4080 - k) 0) same

  abbrev IsMadeOf : List Pivot → List ℕ → List ℕ → Type 0
  IsMadeOf pivots made places = KeepsBranch made places × (pivots_at made places ≡ pivots)

  made_of : (first : Pivot) (pivots : List Pivot) (made places : List ℕ) → IsBranch (first ∷ pivots) → made ≡ body_and_zeros (pivots_bytes (first ∷ pivots))
      → places ≡ starts pivot_size 4 pivots → IsMadeOf (first ∷ pivots) made places
  made_of first pivots made places sound whole at =
      (subst (KeepsBranch made) (sym at) (branch_made first pivots sound made whole), ap (pivots_at made) at ∙ branch_again first pivots sound made whole)

  with_made : (i' : ℕ) (first : Pivot) (pivots : List Pivot) (made places : List ℕ) → IsBranch (with_child i' n (first ∷ pivots))
      → made ≡ body_and_zeros (pivots_bytes (with_child i' n (first ∷ pivots))) → places ≡ starts pivot_size 4 pivots
      → IsMadeOf (with_child i' n (first ∷ pivots)) made places
  with_made zero first pivots made places sound whole at = made_of (record { key = first.key; child = n }) pivots made places sound whole at
  with_made (suc k) first pivots made places sound whole at = made_of first (with_child k n pivots) made places sound whole
      (at ∙ sym (with_starts k n 4 pivots))

  module _ (bytes places made : List ℕ) (now : List Pivot) (kept : KeepsBranch bytes places) (seen : pivots_at bytes places ≡ now) (lt : i < length now)
      (made_is : made ≡ patched (page_place i now) n bytes) where
    made_there : KeepsBranch made places × (pivots_at made places ≡ with_child i n (pivots_at bytes places))
    made_there =
        let there : i < length (pivots_at bytes places) = omega (arith, ap (λ (l : List Pivot). length l) seen) in
        let is : made ≡ patched (page_place i (pivots_at bytes places)) n bytes = made_is ∙ ap (λ (l : List Pivot). patched (page_place i l) n bytes)
        (sym seen) in
        with_made i _ _ made places (with_branch i n (pivots_at bytes places) range kept.sound)
        (made_whole (pivots_at bytes places) bytes made there kept.spelled is) kept.placed

    pub with_kept : KeepsBranch made places
    with_kept = made_there.0

    pub with_is : pivots_at made places ≡ with_child i n now
    with_is = made_there.1 ∙ ap (with_child i n) seen

-- ---- where the number stands

later_is : (i : ℕ) (pivots : List Pivot) → i < length pivots → later_place i pivots ≡ total pivot_size (take i pivots) + 2 + length
    (get_or (pivot_keys pivots) i [])
later_is i [] lt = absurd (omega arith)
later_is zero (pivot ∷ pivots) lt = omega arith
later_is (suc i) (pivot ∷ pivots) lt = omega (arith, later_is i pivots (omega arith))

later_room : (i : ℕ) (pivots : List Pivot) → i < length pivots → later_place i pivots + 4 ≤ total pivot_size pivots
later_room i [] lt = absurd (omega arith)
later_room zero (pivot ∷ pivots) lt = omega arith
later_room (suc i) (pivot ∷ pivots) lt = omega (arith, later_room i pivots (omega arith))

pub place_room : (i : ℕ) (pivots : List Pivot) → i < length pivots → page_place i pivots + 4 ≤ pivots_size pivots
place_room i [] lt = absurd (omega arith)
place_room zero (first ∷ pivots) lt = omega arith
place_room (suc i) (first ∷ pivots) lt = omega (arith, later_room i pivots (omega arith))

later_last : (i : ℕ) (pivots : List Pivot) → i + 1 ≡ length pivots → later_place i pivots + 4 ≡ total pivot_size pivots
later_last i [] last = absurd (omega arith)
later_last zero (pivot ∷ []) last = omega arith
later_last zero (pivot ∷ more ∷ pivots) last = absurd (omega arith)
later_last (suc i) (pivot ∷ pivots) last = omega (arith, later_last i pivots (omega arith))

pub place_last : (i : ℕ) (pivots : List Pivot) → i + 1 ≡ length pivots → page_place i pivots + 4 ≡ pivots_size pivots
place_last i [] last = absurd (omega arith)
place_last zero (first ∷ []) last = omega arith
place_last zero (first ∷ pivot ∷ pivots) last = absurd (omega arith)
place_last (suc i) (first ∷ pivots) last = omega (arith, later_last i pivots (omega arith))

key_or : List ℕ → Option (List ℕ) → List ℕ
key_or d None = d
key_or d (Some key) = key

key_found : (keys : List (List ℕ)) (i : ℕ) (key : List ℕ) → i < length keys → slice_get keys i ≡ Some key → get_or keys i [] ≡ key
unfolding key_or
key_found keys i key lt is = ap (key_or []) (sym (slice_get-get_or keys i [] lt) ∙ is)

place_there : (i at : ℕ) (key : List ℕ) (first : Pivot) (pivots : List Pivot) (places : List ℕ) → (i ≡ 0 → ⊥) → i < length (first ∷ pivots)
    → places ≡ starts pivot_size 4 pivots → at ≡ get_or places (i - 1) at
    → slice_get (pivot_keys (first ∷ pivots)) i ≡ Some key → at + 2 + length key ≡ page_place i (first ∷ pivots)
place_there zero at key first pivots places some lt placed is key_is = absurd (some refl)
place_there (suc i) at key first pivots places some lt placed is key_is =
    let less : suc i - 1 ≡ i = omega arith in
    let start : at ≡ 4 + total pivot_size (take i pivots) = is ∙ (λ j. get_or (placed j) (less j) at) ∙ get_starts pivot_size 4 i at pivots (omega arith) in
    let there : get_or (pivot_keys pivots) i [] ≡ key =
    key_found (pivot_keys (first ∷ pivots)) (suc i) key (omega (arith, length-map pivots (λ (pivot : Pivot). pivot.key))) key_is in
    omega (arith, start, later_is i pivots (omega arith), ap (λ (l : List ℕ). length l) there)

module _ (bytes places : List ℕ) (now : List Pivot) (kept : KeepsBranch bytes places) (seen : pivots_at bytes places ≡ now) where
  pub place_seen : (i at : ℕ) (key : List ℕ) → (i ≡ 0 → ⊥) → i < length now → at ≡ get_or places (i - 1) at → slice_get (pivot_keys now) i ≡ Some key
      → at + 2 + length key ≡ page_place i now
  place_seen i at key some lt is key_is =
      place_there i at key _ _ places some (omega (arith, ap (λ (l : List Pivot). length l) seen)) kept.placed is
      (ap (λ (l : List Pivot). slice_get (pivot_keys l) i) seen ∙ key_is)
      ∙ ap (page_place i) seen

  pub now_long : length places + 1 ≡ length now
  now_long = omega (arith, ap (λ (l : List Pivot). length l) seen, length-map places (λ (at : ℕ). pivot_in (drop at bytes)))

  pub now_room : pivots_size now ≤ 4080
  now_room = (subst IsBranch seen kept.sound).room
