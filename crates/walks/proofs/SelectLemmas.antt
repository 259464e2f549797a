-- Documents that are selected as they come, up to so many.
use Rattle.std.proofs.Common.{◌≡◌, ℕ, zero, suc, ◌≤◌, ◌<◌, Bool, true, false, List, [], ◌∷◌, ◌++◌, length, take, refl, sym, ap, subst, ◌∙◌, arith}
use Rattle.std.proofs.Common.{append_assoc, length-append}
use Rattle.std.specs.Prelude.{All, IfSome, Option, Some, None}
use Rattle.std.specs.List.{filter}
use Rattle.std.proofs.lemmas.List.{take_all, append-nil, length-take}
use Rattle.std.proofs.lemmas.List.Elements.{All-append, All-cons, All-nil, filter-append}
use Rattle.std.proofs.Math.Seq.{take-append_seam}
use Rattle.bson.specs.Tree.{Pairs}
use Rattle.database_model.specs.Lawful.{IsWithin}
use Rattle.planner.specs.IdLaws.{with_found}
use Rattle.walks.specs.Scanning.{Selected}
use Rattle.walks.specs.declared.scanning.Selecting.{Selecting}

-- of all documents and those that are still to come
pub record AreSelected {X : Type 0} (p : X → Bool) (most : ℕ) (now all left : List X) : Type 0 where
  pub few : length now ≤ most
  pub same : take most (now ++ filter p left) ≡ take most (filter p all)

module _ {X : Type 0} (p : X → Bool) (most : ℕ) where
  pub all_selected : (now all : List X) → AreSelected p most now all [] → now ≡ take most (filter p all)
  all_selected now all h = sym (take_all most now (omega (arith, h.few))) ∙ ap (take most) (sym (append-nil now)) ∙ h.same

  pub enough_selected : (now all left : List X) → most ≤ length now → AreSelected p most now all left → now ≡ take most (filter p all)
  enough_selected now all left full h =
      let same : length now ≡ most = omega (arith, full, h.few) in
      sym (ap (λ (n : ℕ). take n (now ++ filter p left)) (sym same) ∙ take-append_seam now (filter p left)) ∙ h.same

-- ---- the front of a list that grows

take_twice : {X : Type 0} (most : ℕ) (xs ys : List X) → take most (take most xs ++ ys) ≡ take most (xs ++ ys)
take_twice zero xs ys = refl
take_twice (suc n) [] ys = refl
take_twice {X} (suc n) (x ∷ xs) ys = ap (λ (zs : List X). x ∷ zs) (take_twice n xs ys)

module _ {X : Type 0} (most : ℕ) (now xs ys : List X) (is : now ≡ take most xs) where
  -- there is no room for more
  pub full_front : most ≤ length now → now ≡ take most (xs ++ ys)
  full_front full =
      let same : length now ≡ most = omega (arith, full, ap length is, length-take most xs) in
      sym (ap (λ (n : ℕ). take n (now ++ ys)) (sym same) ∙ take-append_seam now ys) ∙ ap (λ (zs : List X). take most (zs ++ ys)) is ∙ take_twice most xs ys

  pub longer_front : length (now ++ ys) ≤ most → now ++ ys ≡ take most (xs ++ ys)
  longer_front few = sym (take_all most (now ++ ys) few) ∙ ap (λ (zs : List X). take most (zs ++ ys)) is ∙ take_twice most xs ys

-- ---- documents that are lent

one_or_none : (o : Option Pairs) → length (with_found o []) ≤ 1
one_or_none None = omega arith
one_or_none (Some d) = omega arith

-- one that was found is one of those within the limits
pub found_are_within : (o : Option Pairs) → IfSome o (λ d. IsWithin d) → All IsWithin (with_found o [])
found_are_within None h = All-nil IsWithin
found_are_within (Some d) h = All-cons IsWithin d [] h (All-nil IsWithin)

-- one that is asked alone
module _ (p : Pairs → Bool) (d : Pairs) where
  pub taken_one : p d ≡ true → with_found (Some d) [] ≡ filter p (d ∷ [])
  taken_one e = rw e refl

  pub left_one : p d ≡ false → with_found None [] ≡ filter p (d ∷ [])
  left_one e = rw e refl

pub none_selected : {S : Type 0} (selects : S → Pairs → Bool) (start : Selecting S) → start.found.items ≡ [] → Selected selects start [] start
none_selected selects start none = record {
  which = refl;
  most = refl;
  found = none ∙ sym (ap (λ (ys : List Pairs). take start.most (ys ++ [])) none ∙ take_all start.most [] (omega arith));
  within = λ h. h;
}

module _ {S : Type 0} (selects : S → Pairs → Bool) (start now : Selecting S) (all : List Pairs) (h : Selected selects start all now) where
  abbrev p : Pairs → Bool
  p = selects start.which.now

  abbrev before : List Pairs
  before = start.found.items ++ filter p all

  wanted : (more : List Pairs) → before ++ filter p more ≡ start.found.items ++ filter p (all ++ more)
  wanted more =
      append_assoc start.found.items (filter p all) (filter p more)
      ∙ ap (λ (ys : List Pairs). start.found.items ++ ys) (sym (filter-append p all more))

  pub done_selected : (more : List Pairs) → now.most ≤ length now.found.items → Selected selects start (all ++ more) now
  done_selected more full = record {
    which = h.which;
    most = h.most;
    found =
        full_front start.most now.found.items before (filter p more) h.found (omega (arith, full, h.most))
        ∙ ap (take start.most) (wanted more);
    within = h.within;
  }

  -- one more was asked, and put behind the others if it is looked for
  pub one_selected : (d : Pairs) (o : Option Pairs) (next : Selecting S) → with_found o [] ≡ filter (selects now.which.now) (d ∷ [])
      → IfSome o (λ d. IsWithin d) → length now.found.items < now.most → next.which.now ≡ now.which.now → next.most ≡ now.most
      → next.found.items ≡ now.found.items ++ with_found o [] → Selected selects start (all ++ d ∷ []) next
  one_selected d o next is within room same_which same_most put =
      let one : with_found o [] ≡ filter p (d ∷ []) = is ∙ ap (λ w. filter (selects w) (d ∷ [])) h.which in
      let few : length (now.found.items ++ with_found o []) ≤ start.most =
      omega (arith, length-append now.found.items (with_found o []), one_or_none o, room, h.most) in
      record {
        which = same_which ∙ h.which;
        most = same_most ∙ h.most;
        found =
            put ∙ longer_front start.most now.found.items before (with_found o []) h.found few
            ∙ ap (λ (ys : List Pairs). take start.most (before ++ ys)) one ∙ ap (take start.most) (wanted (d ∷ []));
        within = λ all_within. subst (All IsWithin) (sym put)
            (All-append IsWithin now.found.items (with_found o []) (h.within all_within) (found_are_within o within));
      }

  pub lent_selected : start.found.items ≡ [] → now.found.items ≡ take start.most (filter p all)
  lent_selected none = h.found ∙ ap (λ (ys : List Pairs). take start.most (ys ++ filter p all)) none

  pub lent_within : start.found.items ≡ [] → All IsWithin now.found.items
  lent_within none = h.within (subst (All IsWithin) (sym none) (All-nil IsWithin))
