-- Lists of pages.
use Rattle.std.proofs.Common.{◌≡◌, ◌≢◌, ℕ, zero, suc, ◌+◌, ◌<◌, Bool, true, false, List, [], ◌∷◌, ◌++◌, length, take, get_or, refl, sym, ◌∙◌, ap, subst}
use Rattle.std.proofs.Common.{arith}
use Rattle.std.specs.Prelude.{◌==◌, if◌then◌else◌, Result, Ok, is_ok}
use Rattle.std.specs.List.{AllByRecursion}
use Rattle.std.proofs.lemmas.Bool.Decides.{nat_tests}
use Rattle.std.proofs.lemmas.List.{take_more}
use Rattle.page.specs.Format.{PageModel}
use Rattle.page.specs.declared.page_fault.PageFault.{PageFault}
use Rattle.roots.specs.Turn.{LieBehind, made_or}

-- ---- of all

pub all_more : {X : Type 0} (P : X → Type 0) (xs : List X) (x : X) → AllByRecursion P xs → P x → AllByRecursion P (xs ++ x ∷ [])
all_more P [] x all here = (here, tt)
all_more P (y ∷ ys) x all here = (all.0, all_more P ys x all.1 here)

pub all_weaker : {X : Type 0} (P Q : X → Type 0) → ((x : X) → P x → Q x) → (xs : List X) → AllByRecursion P xs → AllByRecursion Q xs
all_weaker P Q to [] all = tt
all_weaker P Q to (x ∷ xs) all = (to x all.0, all_weaker P Q to xs all.1)

pub all_both : {X : Type 0} (P Q R : X → Type 0) → ((x : X) → P x → Q x → R x) → (xs : List X) → AllByRecursion P xs → AllByRecursion Q xs → AllByRecursion R xs
all_both P Q R to [] all every = tt
all_both P Q R to (x ∷ xs) all every = (to x all.0 every.0, all_both P Q R to xs all.1 every.1)

pub all_take : {X : Type 0} (P : X → Type 0) (n : ℕ) (xs : List X) → AllByRecursion P xs → AllByRecursion P (take n xs)
all_take P zero xs all = tt
all_take P (suc n) [] all = tt
all_take P (suc n) (x ∷ xs) all = (all.0, all_take P n xs all.1)

pub all_taken_more : {X : Type 0} (P : X → Type 0) (xs : List X) (i : ℕ) (x : X) → i < length xs → x ≡ get_or xs i x → AllByRecursion P (take i xs) → P x
    → AllByRecursion P (take (i + 1) xs)
all_taken_more P xs i x lt is all here =
    subst (AllByRecursion P) (sym (take_more xs i x lt ∙ ap (λ y. take i xs ++ y ∷ []) (sym is))) (all_more P (take i xs) x all here)

pub all_joined : {X : Type 0} (P : X → Type 0) (xs ys : List X) → AllByRecursion P xs → AllByRecursion P ys → AllByRecursion P (xs ++ ys)
all_joined P [] ys front back = back
all_joined P (x ∷ xs) ys front back = (front.0, all_joined P xs ys front.1 back)

-- ---- the page of a number

pub made_here : (m : PageModel) (ms : List PageModel) (n : ℕ) (other : Result PageModel PageFault) → m.page ≡ n → made_or (m ∷ ms) n other ≡ Ok m
made_here m ms n other is =
    let test : (m.page == n) ≡ true = grind (arith, nat_tests, is) in
    ap (λ (b : Bool). if b then Ok m else made_or ms n other) test

pub made_none : (made : List PageModel) (n : ℕ) (other : Result PageModel PageFault) → AllByRecursion (λ (m : PageModel). m.page ≢ n) made
    → made_or made n other ≡ other
made_none [] n other ne = refl
made_none (m ∷ ms) n other ne =
    let test : (m.page == n) ≡ false = grind (arith, nat_tests, ne.0) in
    ap (λ (b : Bool). if b then Ok m else made_or ms n other) test ∙ made_none ms n other ne.1

-- one more behind them
pub made_last : (made : List PageModel) (model : PageModel) (other : Result PageModel PageFault) → AllByRecursion (λ (m : PageModel). m.page ≢ model.page) made
    → made_or (made ++ model ∷ []) model.page other ≡ Ok model
made_last [] model other ne = made_here model [] model.page other refl
made_last (m ∷ ms) model other ne =
    let test : (m.page == model.page) ≡ false = grind (arith, nat_tests, ne.0) in
    ap (λ (b : Bool). if b then Ok m else made_or (ms ++ model ∷ []) model.page other) test ∙ made_last ms model other ne.1

pub made_others : (made : List PageModel) (model : PageModel) (n : ℕ) (other : Result PageModel PageFault) → n ≢ model.page
    → made_or (made ++ model ∷ []) n other ≡ made_or made n other
made_others [] model n other ne =
    let test : (model.page == n) ≡ false = grind (arith, nat_tests, ne) in
    ap (λ (b : Bool). if b then Ok model else other) test
made_others (m ∷ ms) model n other ne = ap (λ (r : Result PageModel PageFault). if m.page == n then Ok m else r) (made_others ms model n other ne)

pub made_joined : (xs ys : List PageModel) (n : ℕ) (other : Result PageModel PageFault) → made_or (xs ++ ys) n other ≡ made_or xs n (made_or ys n other)
made_joined [] ys n other = refl
made_joined (x ∷ xs) ys n other = ap (λ (r : Result PageModel PageFault). if x.page == n then Ok x else r) (made_joined xs ys n other)

pub lie_higher : (low high : ℕ) (those : List PageModel) → LieBehind low those → AllByRecursion (λ (y : PageModel). high < y.page) those → LieBehind high those
lie_higher low high [] lies above = tt
lie_higher low high (y ∷ those) lies above = (above.0, lies.1)

pub pushed_on : {X V E : Type 0} (items xs made : List X) (x : X) (result : Result V E) (v : V) → items ≡ (if is_ok result then xs ++ x ∷ [] else xs)
    → result ≡ Ok v → xs ≡ made → items ≡ made ++ x ∷ []
pushed_on {X = X} {V = V} {E = E} items xs made x result v is ok same =
    is ∙ ap (λ (r : Result V E). if is_ok r then xs ++ x ∷ [] else xs) ok ∙ ap (λ (l : List X). l ++ x ∷ []) same
