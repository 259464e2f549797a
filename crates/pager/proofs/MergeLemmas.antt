-- Two lists of pages as one.
use Rattle.std.proofs.Common.{◌≡◌, ◌≢◌, ℕ, zero, suc, ◌<◌, ◌≤◌, max, Bool, true, false, List, [], ◌∷◌, ◌++◌, ◌-◌, length, take, drop}
use Rattle.std.proofs.Common.{refl, sym, ◌∙◌, ap, subst, arith, inl, inr}
use Rattle.std.specs.Prelude.{◌⊎◌, nat_lt, if◌then◌else◌}
use Rattle.std.specs.List.{AllByRecursion}
use Rattle.std.proofs.lemmas.Bool.{cases_lt}
use Rattle.std.proofs.lemmas.Bool.Decides.{nat_tests}
use Rattle.std.proofs.lemmas.List.{append-nil, append_assoc, length-drop, take_all}
use Rattle.page.specs.Format.{PageModel}
use Rattle.roots.specs.Turn.{LieBehind, end_behind}
use Rattle.roots.proofs.MadeLemmas.{end_grows, end_most, inside_end}
use Rattle.pager.specs.Order.{merged, put_before}
use Rattle.pager.specs.Writing.{IsAmong}
use Rattle.pager.proofs.ListLemmas.{all_weaker}
use Rattle.pager.proofs.MemberLemmas.{all_among}
use Rattle.pager.proofs.OrderLemmas.{each_among}

-- ---- one step

put_first : (x : PageModel) (next : List PageModel → List PageModel) (y : PageModel) (ys : List PageModel) → x.page < y.page
    → put_before x next (y ∷ ys) ≡ x ∷ next (y ∷ ys)
put_first x next y ys less =
    let test : nat_lt x.page y.page ≡ true = grind (arith, nat_tests, less) in
    ap (λ (b : Bool). if b then x ∷ next (y ∷ ys) else y ∷ put_before x next ys) test

put_later : (x : PageModel) (next : List PageModel → List PageModel) (y : PageModel) (ys : List PageModel) → y.page ≤ x.page
    → put_before x next (y ∷ ys) ≡ y ∷ put_before x next ys
put_later x next y ys le =
    let test : nat_lt x.page y.page ≡ false = grind (arith, nat_tests, le) in
    ap (λ (b : Bool). if b then x ∷ next (y ∷ ys) else y ∷ put_before x next ys) test

merged_none : (xs : List PageModel) → merged xs [] ≡ xs
merged_none [] = refl
merged_none (x ∷ xs) = ap (λ (l : List PageModel). x ∷ l) (merged_none xs)

dropped : (n : ℕ) (xs : List PageModel) → length xs ≤ n → drop n xs ≡ []
dropped zero [] le = refl
dropped zero (x ∷ xs) le = absurd (omega (arith, le))
dropped (suc n) [] le = refl
dropped (suc n) (x ∷ xs) le = dropped n xs (omega (arith, le))

-- where one of them is at its end, the rest of both goes behind
pub merged_done : (pages one other mid last : List PageModel) (i j : ℕ) → (length one ≤ i) ⊎ (length other ≤ j)
    → pages ++ merged (drop i one) (drop j other) ≡ merged one other → mid ≡ pages ++ take (length one - i) (drop i one)
    → last ≡ mid ++ take (length other - j) (drop j other) → last ≡ merged one other
merged_done pages one other mid last i j ends so first second =
    second ∙ (λ k. (first ∙ ap (λ (l : List PageModel). pages ++ l) (whole i one)) k ++ whole j other k) ∙ append_assoc pages (drop i one) (drop j other)
    ∙ ap (λ (l : List PageModel). pages ++ l) (sym (rest ends)) ∙ so
  where
    whole : (n : ℕ) (xs : List PageModel) → take (length xs - n) (drop n xs) ≡ drop n xs
    whole n xs = take_all (length xs - n) (drop n xs) (omega (arith, length-drop n xs))

    rest : (length one ≤ i) ⊎ (length other ≤ j) → merged (drop i one) (drop j other) ≡ drop i one ++ drop j other
    rest (inl end) =
        let none : drop i one ≡ [] = dropped i one end in
        ap (λ (l : List PageModel). merged l (drop j other)) none ∙ ap (λ (l : List PageModel). l ++ drop j other) (sym none)
    rest (inr end) =
        let none : drop j other ≡ [] = dropped j other end in
        ap (merged (drop i one)) none ∙ merged_none (drop i one) ∙ sym (append-nil (drop i one)) ∙ ap (λ (l : List PageModel). drop i one ++ l) (sym none)

-- ---- what holds of all

all_put : (P : PageModel → Type 0) (x : PageModel) (next : List PageModel → List PageModel)
    → ((zs : List PageModel) → AllByRecursion P zs → AllByRecursion P (next zs)) → P x
    → (ys : List PageModel) → AllByRecursion P ys → AllByRecursion P (put_before x next ys)
all_put P x next to here [] all = (here, to [] tt)
all_put P x next to here (y ∷ ys) all = elim (cases_lt x.page y.page) [
  | inl less ↦ subst (AllByRecursion P) (sym (put_first x next y ys less)) (here, to (y ∷ ys) all)
  | inr not_less ↦ subst (AllByRecursion P) (sym (put_later x next y ys (omega (arith, not_less)))) (all.0, all_put P x next to here ys all.1)
]

pub all_merged : (P : PageModel → Type 0) (xs ys : List PageModel) → AllByRecursion P xs → AllByRecursion P ys → AllByRecursion P (merged xs ys)
all_merged P [] ys front back = back
all_merged P (x ∷ xs) ys front back = all_put P x (merged xs) (λ zs all. all_merged P xs zs front.1 all) front.0 ys back

put_parts : (P : PageModel → Type 0) (x : PageModel) (xs : List PageModel) (next : List PageModel → List PageModel)
    → ((zs : List PageModel) → AllByRecursion P (next zs) → AllByRecursion P xs × AllByRecursion P zs)
    → (ys : List PageModel) → AllByRecursion P (put_before x next ys) → AllByRecursion P (x ∷ xs) × AllByRecursion P ys
put_parts P x xs next to [] all = ((all.0, (to [] all.1).0), tt)
put_parts P x xs next to (y ∷ ys) all = elim (cases_lt x.page y.page) [
  | inl less ↦
      let parts : AllByRecursion P (x ∷ next (y ∷ ys)) = subst (AllByRecursion P) (put_first x next y ys less) all in
      let later = to (y ∷ ys) parts.1 in
      ((parts.0, later.0), later.1)
  | inr not_less ↦
      let parts : AllByRecursion P (y ∷ put_before x next ys) = subst (AllByRecursion P) (put_later x next y ys (omega (arith, not_less))) all in
      let later = put_parts P x xs next to ys parts.1 in
      (later.0, (parts.0, later.1))
]

pub all_parts : (P : PageModel → Type 0) (xs ys : List PageModel) → AllByRecursion P (merged xs ys) → AllByRecursion P xs × AllByRecursion P ys
all_parts P [] ys all = (tt, all)
all_parts P (x ∷ xs) ys all = put_parts P x xs (merged xs) (λ zs part. all_parts P xs zs part) ys all

-- one of the first list is one of both
pub among_first : (xs ys : List PageModel) (x : PageModel) → IsAmong x xs → IsAmong x (merged xs ys)
among_first xs ys x among =
    let all = merged xs ys in
    all_among (λ (m : PageModel). IsAmong m (merged xs ys)) xs x (all_parts (λ (m : PageModel). IsAmong m (merged xs ys)) xs ys (each_among all)).0 among

-- ---- in ascending order

-- these have none of the other list's numbers
abbrev pub AreApart : List PageModel → List PageModel → Type 0
AreApart xs ys = AllByRecursion (λ (y : PageModel). AllByRecursion (λ (x : PageModel). x.page ≢ y.page) xs) ys

lie_put : (last : ℕ) (x : PageModel) (xs : List PageModel) (next : List PageModel → List PageModel) → last < x.page
    → ((zs : List PageModel) → LieBehind x.page zs → AreApart xs zs → LieBehind x.page (next zs))
    → (ys : List PageModel) → LieBehind last ys → AreApart (x ∷ xs) ys → LieBehind last (put_before x next ys)
lie_put last x xs next up to [] lies apart = (up, to [] tt tt)
lie_put last x xs next up to (y ∷ ys) lies apart = elim (cases_lt x.page y.page) [
  | inl less ↦ subst (LieBehind last) (sym (put_first x next y ys less)) (
    up,
    to (y ∷ ys) (less, lies.1) (
      apart.0.1,
      all_weaker _ (λ (z : PageModel). AllByRecursion (λ (m : PageModel). m.page ≢ z.page) xs) (λ z away. away.1) ys
          apart.1,
    ),
  )
  | inr not_less ↦
      let over : y.page < x.page = omega (arith, not_less, apart.0.0) in
      subst (LieBehind last) (sym (put_later x next y ys (omega (arith, not_less)))) (lies.0, lie_put y.page x xs next over to ys lies.1 apart.1)
]

pub lie_merged : (last : ℕ) (xs ys : List PageModel) → LieBehind last xs → LieBehind last ys → AreApart xs ys → LieBehind last (merged xs ys)
lie_merged last [] ys lie lies apart = lies
lie_merged last (x ∷ xs) ys lie lies apart =
    lie_put last x xs (merged xs) lie.0 (λ zs later away. lie_merged x.page xs zs lie.1 later away) ys lies apart

-- they end where the later one does
pub end_merged : (xs ys : List PageModel) → LieBehind 0 xs → LieBehind 0 ys → LieBehind 0 (merged xs ys)
    → end_behind 1 (merged xs ys) ≡ max (end_behind 1 xs) (end_behind 1 ys)
end_merged xs ys lie lies both =
    let one = end_behind 1 xs in
    let other = end_behind 1 ys in
    let whole = end_behind 1 (merged xs ys) in
    let inside : AllByRecursion (λ (m : PageModel). m.page < max (end_behind 1 xs) (end_behind 1 ys)) (merged xs ys) =
    all_merged (λ (m : PageModel). m.page < max (end_behind 1 xs) (end_behind 1 ys)) xs ys
    (all_weaker (λ (m : PageModel). m.page < end_behind 1 xs) (λ (m : PageModel). m.page < max (end_behind 1 xs) (end_behind 1 ys))
    (λ m less. omega (arith, less)) xs
    (inside_end xs 0 1 lie))
    (all_weaker (λ (m : PageModel). m.page < end_behind 1 ys) (λ (m : PageModel). m.page < max (end_behind 1 xs) (end_behind 1 ys))
    (λ m less. omega (arith, less)) ys
    (inside_end ys 0 1 lies)) in
    let parts = all_parts (λ (m : PageModel). m.page < end_behind 1 (merged xs ys)) xs ys (inside_end (merged xs ys) 0 1 both) in
    let grown : 1 ≤ whole = end_grows (merged xs ys) 0 1 refl both in
    omega (
      arith,
      end_most (max one other) (merged xs ys) 1 (omega (arith, end_grows xs 0 1 refl lie)) inside,
      end_most whole xs 1 grown parts.0,
      end_most whole ys 1 grown parts.1,
    )
