-- One cell more is written behind those so far.
use Rattle.std.proofs.Common.{◌≡◌, ℕ, suc, ◌+◌, ◌-◌, ◌<◌, ◌≤◌, List, [], ◌∷◌, ◌++◌, length, map, take, drop, replicate, get_or, sym, ap, ◌∙◌, subst, arith}
use Rattle.std.specs.List.{AllByRecursion, flat_map}
use Rattle.std.proofs.lemmas.List.{length-map, take_all, take_more, get_or-map, append-nil}
use Rattle.std.proofs.lemmas.Grind.{flat_map-append}
use Rattle.page.specs.Content.{Pivot, IsBranch, total}
use Rattle.page.specs.Format.{body_and_zeros}
use Rattle.page.specs.Kept.{starts}
use Rattle.page.proofs.PlaceLemmas.{starts_more, each_at}

module _ {C X : Type 0} (f : C → X) (cells : List C) where
  pub all_taken : (i : ℕ) → length cells ≤ i → take i (map f cells) ≡ map f cells
  all_taken i le = take_all i (map f cells) (omega (arith, length-map cells f))

  module _ (i : ℕ) (d : C) (within : i < length cells) where
    this : get_or (map f cells) i (f d) ≡ f (get_or cells i d)
    this = get_or-map f cells i d (f d) within

    taken : take (i + 1) (map f cells) ≡ take i (map f cells) ++ f (get_or cells i d) ∷ []
    taken =
        take_more (map f cells) i (f d) (omega (arith, length-map cells f))
        ∙ ap (λ (x : X). take i (map f cells) ++ x ∷ []) this

    pub sound_at : (P : X → Type 0) → AllByRecursion P (map f cells) → P (f (get_or cells i d))
    sound_at P each = subst P this (each_at P (map f cells) i (f d) (omega (arith, length-map cells f)) each)

    pub bytes_more : (bytes_of : X → List ℕ)
        → flat_map bytes_of (take i (map f cells)) ++ bytes_of (f (get_or cells i d)) ≡ flat_map bytes_of (take (i + 1) (map f cells))
    bytes_more bytes_of =
        ap (λ (l : List ℕ). flat_map bytes_of (take i (map f cells)) ++ l) (sym (append-nil (bytes_of (f (get_or cells i d)))))
        ∙ sym (flat_map-append bytes_of (take i (map f cells)) (f (get_or cells i d) ∷ []))
        ∙ ap (flat_map bytes_of) (sym taken)

    pub places_more : (width : X → ℕ) (at n : ℕ) → n ≡ at + total width (take i (map f cells))
        → starts width at (take i (map f cells)) ++ n ∷ [] ≡ starts width at (take (i + 1) (map f cells))
    places_more width at n is =
        ap (λ (k : ℕ). starts width at (take i (map f cells)) ++ k ∷ []) is
        ∙ sym (starts_more width at (take i (map f cells)) (f (get_or cells i d)))
        ∙ ap (starts width at) (sym taken)

-- a branch's children are the first one and those behind it
pub front_child : {C : Type 0} (f : C → Pivot) (children : List C) (d : C) → IsBranch (map f children)
    → map f children ≡ f (get_or children 0 d) ∷ map f (take (length children - 1) (drop 1 children))
front_child f [] d sound = absurd (omega (arith, sound.some))
front_child {C = C} f (child ∷ children) d sound =
    ap (λ (l : List C). f child ∷ map f l) (sym (take_all (suc (length children) - 1) children (omega arith)))

-- bytes that are filled up with zeros
pub filled : (bytes body new : List ℕ) (n : ℕ) → bytes ≡ body → n ≡ length bytes → length body ≤ 4080 → new ≡ take 4080 bytes ++ replicate (4080 - n) 0
    → new ≡ body_and_zeros body
filled bytes body new n is len room made =
    let short : length bytes ≤ 4080 = subst (λ (l : List ℕ). length l ≤ 4080) (sym is) room in
    made ∙ ap (λ (l : List ℕ). l ++ replicate (4080 - n) 0) (take_all 4080 bytes short)
    ∙ ap (λ (k : ℕ). bytes ++ replicate (4080 - k) 0) len
    ∙ ap body_and_zeros is
