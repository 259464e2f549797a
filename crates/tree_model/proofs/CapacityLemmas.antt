-- How many entries a tree may have, and how many pages.
use Rattle.std.proofs.Common.{◌≡◌, ◌≢◌, ℕ, zero, suc, ◌+◌, ◌*◌, ◌<◌, ◌≤◌, List, [], ◌∷◌, length, map, Option, None, true, false, if◌then◌else◌, ◌==◌, refl, ap}
use Rattle.std.proofs.Common.{arith, inl, inr, length-append}
use Rattle.std.proofs.lemmas.Bool.{cases_eq}
use Rattle.std.proofs.lemmas.Bool.Decides.{nat_tests}
use Rattle.std.proofs.lemmas.List.{length-map}
use Rattle.page.specs.Content.{Item, IsLeaf, item_size, total}
use Rattle.tree_model.specs.Keys.{Each, Pair, entry_of, times}
use Rattle.tree_model.specs.Laws.{EntriesAreFew, PagesAreFew}
use Rattle.tree_model.specs.Tree.{Body, IsFan, IsSound, IsWhole, Subtree, high_of, item_of, pages_of, pairs_of, with_low}

-- ---- entries

items_small : (items : List Item) → 6 * length items ≤ total item_size items
items_small [] = omega arith
items_small (x ∷ xs) = omega (arith, items_small xs)

leaf_few : (pairs : List Pair) → IsLeaf (map item_of pairs) → length pairs ≤ 680
leaf_few pairs whole = omega (arith, items_small (map item_of pairs), whole.room, length-map pairs item_of)

abbrev AreFew : (d : ℕ) → Body d → Type 0
AreFew d body = length (pairs_of d body) ≤ 680 * (1 + length (pages_of d body))

abbrev Lies : (d : ℕ) → List ℕ → Option (List ℕ) → Body d → Type 0
Lies d low high body = IsWhole d body × IsSound d low high body

fan_few : (d : ℕ) → ((low : List ℕ) (high : Option (List ℕ)) (body : Body d) → Lies d low high body → AreFew d body)
    → (high : Option (List ℕ)) (subtrees : List (Subtree (Body d))) → IsFan (Lies d) high subtrees
    → length (pairs_of (suc d) subtrees) ≤ 680 * length (pages_of (suc d) subtrees)
fan_few d few high [] fan = omega arith
fan_few d few high (w ∷ ws) fan =
    omega (
      arith,
      few w.key (high_of high ws) w.body fan.0,
      fan_few d few high ws fan.1,
      length-append (pairs_of d w.body) (pairs_of (suc d) ws),
      length-append (w.page ∷ pages_of d w.body) (pages_of (suc d) ws),
    )

same_pairs : (d : ℕ) (low : List ℕ) (subtrees : List (Subtree (Body d))) → pairs_of (suc d) (with_low low subtrees) ≡ pairs_of (suc d) subtrees
same_pairs d low [] = refl
same_pairs d low (w ∷ ws) = refl

same_pages : (d : ℕ) (low : List ℕ) (subtrees : List (Subtree (Body d))) → pages_of (suc d) (with_low low subtrees) ≡ pages_of (suc d) subtrees
same_pages d low [] = refl
same_pages d low (w ∷ ws) = refl

body_few : (d : ℕ) (low : List ℕ) (high : Option (List ℕ)) (body : Body d) → Lies d low high body → AreFew d body
body_few zero low high pairs lies = omega (arith, leaf_few pairs lies.0)
body_few (suc d) low high subtrees lies =
    omega (arith, fan_few d (body_few d) high (with_low low subtrees) lies.1.0, ap length (same_pairs d low subtrees), ap length (same_pages d low subtrees))

pub entries_are_few : EntriesAreFew
entries_are_few s root pages entries (inl none) = omega (arith, ap length none.1.1)
entries_are_few s root pages entries (inr t) =
    omega (
      arith,
      body_few t.d [] None t.body (t.tree.whole, t.tree.sound),
      ap length t.entries_are,
      length-map (pairs_of t.d t.body) entry_of,
      ap length t.pages_are,
    )

-- ---- pages

without : ℕ → List ℕ → List ℕ
without n [] = []
without n (x ∷ xs) = if n == x then without n xs else x ∷ without n xs

-- what is left is no more often there, has the rest of the length, and lies below the number
record IsRest (n : ℕ) (xs rest : List ℕ) : Type 0 where
  fewer : (m : ℕ) → times m rest ≤ times m xs
  count : length xs ≡ times n xs + length rest
  below : Each (λ m. m < suc n) xs → Each (λ m. m < n) rest

rest_here : (n x : ℕ) (xs rest : List ℕ) → n ≡ x → IsRest n xs rest → IsRest n (x ∷ xs) rest
rest_here n x xs rest is r =
    let test : (n == x) ≡ true = grind (arith, nat_tests, is) in
    record {
      fewer = λ m. omega (arith, r.fewer m);
      count = rw test (omega (arith, r.count));
      below = λ all. r.below all.1;
    }

rest_later : (n x : ℕ) (xs rest : List ℕ) → n ≢ x → IsRest n xs rest → IsRest n (x ∷ xs) (x ∷ rest)
rest_later n x xs rest ne r =
    let test : (n == x) ≡ false = grind (arith, nat_tests, ne) in
    record {
      fewer = λ m. omega (arith, r.fewer m);
      count = rw test (omega (arith, r.count));
      below = λ all. (omega (arith, all.0, ne), r.below all.1);
    }

rest_of : (n : ℕ) (xs : List ℕ) → IsRest n xs (without n xs)
unfolding without
rest_of n [] = record { fewer = λ m. omega arith; count = refl; below = λ all. tt }
rest_of n (x ∷ xs) = elim (cases_eq n x) [
  | inl is ↦
      let test : (n == x) ≡ true = grind (arith, nat_tests, is) in
      rw test (rest_here n x xs (without n xs) is (rest_of n xs))
  | inr ne ↦
      let test : (n == x) ≡ false = grind (arith, nat_tests, ne) in
      rw test (rest_later n x xs (without n xs) ne (rest_of n xs))
]

pub pages_are_few : PagesAreFew
pages_are_few zero [] once below = omega arith
pages_are_few zero (x ∷ xs) once below = absurd (omega (arith, below.0))
pages_are_few (suc most) pages once below =
    let r : IsRest most pages (without most pages) = rest_of most pages in
    omega (arith, r.count, once most, pages_are_few most (without most pages) (λ n. omega (arith, r.fewer n, once n)) (r.below below))
