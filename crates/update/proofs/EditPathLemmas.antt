-- What the set of the paths of edits tells of an edit that meets one of them.
use Rattle.std.proofs.Common.{◌≡◌, Bool, true, false, ◌||◌, List, [], ◌∷◌, refl, sym, ap, ◌∙◌}
use Rattle.std.specs.List.{list_any}
use Rattle.update_model.specs.Update.{Path, Edit, meets_any, paths_of}
use Rattle.update_model.specs.Parsing.{conflicts, meets_itself}
use Rattle.update.specs.EditPaths.{HavePathsOf, conflicts_with}

-- ---- both ways round

or_both : (a b c d : Bool) → ((a || b) || (c || d)) ≡ ((a || c) || (b || d))
or_both true b c d = refl
or_both false true true d = refl
or_both false true false d = refl
or_both false false c d = refl

module _ {X Y : Type 0} (f : X → Y → Bool) where
  any_split : (x : X) (xs : List X) (ys : List Y)
      → list_any (λ y. f x y || list_any (λ z. f z y) xs) ys ≡ (list_any (f x) ys || list_any (λ y. list_any (λ z. f z y) xs) ys)
  any_split x xs [] = refl
  any_split x xs (y ∷ ys) =
      ap (λ (b : Bool). (f x y || list_any (λ z. f z y) xs) || b) (any_split x xs ys)
      ∙ or_both (f x y) (list_any (λ z. f z y) xs) (list_any (f x) ys) (list_any (λ w. list_any (λ z. f z w) xs) ys)

  no_one : (ys : List Y) → list_any (λ y. list_any (λ z. f z y) []) ys ≡ false
  no_one [] = refl
  no_one (y ∷ ys) = no_one ys

  any_of_any : (xs : List X) (ys : List Y) → list_any (λ y. list_any (λ x. f x y) xs) ys ≡ list_any (λ x. list_any (f x) ys) xs
  any_of_any [] ys = no_one ys
  any_of_any (x ∷ xs) ys = any_split x xs ys ∙ ap (λ (b : Bool). list_any (f x) ys || b) (any_of_any xs ys)

-- ---- edits

pub conflicts_so : (paths : List Path) (es : List Edit) (e : Edit) → HavePathsOf paths es → conflicts_with paths e ≡ conflicts es e
conflicts_so paths es e have =
    (λ i. list_any (λ p. have p i) (paths_of e) || meets_itself e.path e.action)
    ∙ ap (λ (b : Bool). b || meets_itself e.path e.action) (sym (any_of_any (λ (p : Path) (o : Edit). meets_any p (paths_of o)) (paths_of e) es))
