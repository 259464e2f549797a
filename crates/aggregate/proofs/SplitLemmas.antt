-- Entries that grow one after the other are the list split by its keys, in the order of first appearance.
use Rattle.std.proofs.Common.{◌≡◌, Bool, true, false, List, [], ◌∷◌, ◌++◌, map, fold, refl, sym, ap, ◌∙◌, append-nil}
use Rattle.std.proofs.lemmas.List.{append_assoc}
use Rattle.std.specs.Cmp.{IsEquivalence}
use Rattle.std.specs.List.{filter}
use Rattle.std.specs.Prelude.{◌&&◌, ◌||◌, not, if◌then◌else◌}
use Rattle.aggregate.specs.Table.{put, has as has_key, Apart as IsApart}

-- ---- lists

pub filter-both : {X : Type 0} (r p q : X → Bool) → ((x : X) → r x ≡ (p x && q x)) → (xs : List X) → filter r xs ≡ filter p (filter q xs)
filter-both r p q both [] = refl
filter-both {X} r p q both (x ∷ xs) = by (p x) (q x) (r x) refl refl (both x) (filter-both r p q both xs)
  where
    by : (a b c : Bool) → p x ≡ a → q x ≡ b → c ≡ (a && b) → filter r xs ≡ filter p (filter q xs)
        → ◌≡◌ {A = List X} (if c then x ∷ filter r xs else filter r xs) (filter p (if b then x ∷ filter q xs else filter q xs))
    by true true c pa qb e later = rw e (rw pa (ap (λ (ys : List X). x ∷ ys) later))
    by false true c pa qb e later = rw e (rw pa later)
    by true false c pa qb e later = rw e later
    by false false c pa qb e later = rw e later

pub filter-all : {X : Type 0} (p : X → Bool) → ((x : X) → p x ≡ true) → (xs : List X) → filter p xs ≡ xs
filter-all p all [] = refl
filter-all p all (x ∷ xs) = rw (all x) (ap (λ ys. x ∷ ys) (filter-all p all xs))

pub map-filter : {X Y : Type 0} (p : X → Bool) (f g : X → Y) → ((x : X) → p x ≡ true → f x ≡ g x) → (xs : List X) → map f (filter p xs) ≡ map g (filter p xs)
map-filter p f g alike [] = refl
map-filter {X} {Y} p f g alike (x ∷ xs) = by (p x) refl (map-filter p f g alike xs)
  where
    by : (b : Bool) → p x ≡ b → map f (filter p xs) ≡ map g (filter p xs)
        → map f (if b then x ∷ filter p xs else filter p xs) ≡ map g (if b then x ∷ filter p xs else filter p xs)
    by true e later = (λ i. alike x e i ∷ later i)
    by false e later = later

-- ---- truth values

or_false : (a : Bool) → (a || false) ≡ a
or_false true = refl
or_false false = refl

or_again : (a b : Bool) → (a || b) ≡ ((a || b) || a)
or_again true b = refl
or_again false true = refl
or_again false false = refl

or_assoc : (a b c : Bool) → (a || (b || c)) ≡ ((a || b) || c)
or_assoc true b c = refl
or_assoc false b c = refl

not_or : (a b : Bool) → not (a || b) ≡ (not a && not b)
not_or true b = refl
not_or false b = refl

and_right : (a b : Bool) → (a && b) ≡ true → b ≡ true
and_right true b e = e
and_right false b e = absurd cc

not_true : (a : Bool) → not a ≡ true → a ≡ false
not_true true e = absurd cc
not_true false e = refl

module _ {K D S : Type 0} (same : K → K → Bool) (laws : IsEquivalence same) (step : S → D → S) (begin : S) where
  abbrev Entries : Type 0
  Entries = List (K × S)

  abbrev add : K × D → Entries → Entries
  add = put same step begin

  abbrev pub add_all : List (K × D) → Entries → Entries
  add_all [] es = es
  add_all (x ∷ xs) es = add_all xs (add x es)

  abbrev pub firsts : List K → List K
  firsts [] = []
  firsts (k ∷ ks) = k ∷ filter (λ other. not (same k other)) (firsts ks)

  abbrev pub of_key : List (K × D) → K → List D
  of_key xs k = map (λ p. p.1) (filter (λ p. same k p.0) xs)

  abbrev keys_of : List (K × D) → List K
  keys_of xs = map (λ p. p.0) xs

  abbrev has : Entries → K → Bool
  has = has_key same

  abbrev Apart : Entries → Type 0
  Apart = IsApart same

  abbrev old_one : List (K × D) → K × S → K × S
  old_one xs e = (e.0, fold step e.1 (of_key xs e.0))

  abbrev old : List (K × D) → Entries → Entries
  old xs es = map (old_one xs) es

  abbrev new_one : List (K × D) → K → K × S
  new_one xs k = (k, fold step begin (of_key xs k))

  abbrev new : List (K × D) → Entries → Entries
  new xs es = map (new_one xs) (filter (λ k. not (has es k)) (firsts (keys_of xs)))

  -- ---- keys

  has-alike : (es : Entries) (a b : K) → same a b ≡ true → has es a ≡ has es b
  has-alike [] a b e = refl
  has-alike (x ∷ es) a b e =
      let one : same x.0 a ≡ same x.0 b = laws.symm x.0 a ∙ laws.congr a b x.0 e ∙ laws.symm b x.0 in
      (λ i. one i || has-alike es a b e i)

  has-add : (x : K × D) (es : Entries) (k : K) → has (add x es) k ≡ (has es k || same x.0 k)
  has-add x [] k = or_false (same x.0 k)
  has-add x (e ∷ es) k = by (same e.0 x.0) refl (has-add x es k)
    where
      by : (b : Bool) → same e.0 x.0 ≡ b → has (add x es) k ≡ (has es k || same x.0 k)
          → has (if b then (e.0, step e.1 x.1) ∷ es else e ∷ add x es) k ≡ ((same e.0 k || has es k) || same x.0 k)
      by true is later = or_again (same e.0 k) (has es k) ∙ ap (λ (c : Bool). (same e.0 k || has es k) || c) (laws.congr e.0 x.0 k is)
      by false is later = ap (λ (c : Bool). same e.0 k || c) later ∙ or_assoc (same e.0 k) (has es k) (same x.0 k)

  pub Apart-add : (x : K × D) (es : Entries) → Apart es → Apart (add x es)
  Apart-add x [] h = (refl, tt)
  Apart-add x (e ∷ es) h = by (same e.0 x.0) refl (Apart-add x es h.1)
    where
      by : (b : Bool) → same e.0 x.0 ≡ b → Apart (add x es) → Apart (if b then (e.0, step e.1 x.1) ∷ es else e ∷ add x es)
      by true is later = (h.0, h.1)
      by false is later = (has-add x es e.0 ∙ (λ i. h.0 i || (laws.symm x.0 e.0 ∙ is) i), later)

  -- ---- members

  of_key-there : (x : K × D) (xs : List (K × D)) (k : K) → same k x.0 ≡ true → of_key (x ∷ xs) k ≡ x.1 ∷ of_key xs k
  of_key-there x xs k e = rw e refl

  of_key-other : (x : K × D) (xs : List (K × D)) (k : K) → same k x.0 ≡ false → of_key (x ∷ xs) k ≡ of_key xs k
  of_key-other x xs k e = rw e refl

  -- ---- one more

  abbrev heads : (K × D) → List (K × D) → Bool → Entries
  heads x xs true = []
  heads x xs false = new_one (x ∷ xs) x.0 ∷ []

  old-other : (x : K × D) (xs : List (K × D)) (es : Entries) → has es x.0 ≡ false → old xs es ≡ old (x ∷ xs) es
  old-other x xs [] e = refl
  old-other x xs (f ∷ es) e = by (same f.0 x.0) refl e (old-other x xs es)
    where
      by : (b : Bool) → same f.0 x.0 ≡ b → (b || has es x.0) ≡ false → (has es x.0 ≡ false → old xs es ≡ old (x ∷ xs) es)
          → old xs (f ∷ es) ≡ old (x ∷ xs) (f ∷ es)
      by true is e later = absurd cc
      by false is e later = (λ i. (f.0, fold step f.1 (sym (of_key-other x xs f.0 is) i)) ∷ later e i)

  old-add : (x : K × D) (xs : List (K × D)) (es : Entries) → Apart es → old xs (add x es) ≡ old (x ∷ xs) es ++ heads x xs (has es x.0)
  old-add x xs [] h = ap (λ (ds : List D). (x.0, fold step begin ds) ∷ []) (sym (of_key-there x xs x.0 (laws.refl x.0)))
  old-add x xs (e ∷ es) h = by (same e.0 x.0) refl (old-add x xs es h.1)
    where
      by : (b : Bool) → same e.0 x.0 ≡ b → old xs (add x es) ≡ old (x ∷ xs) es ++ heads x xs (has es x.0)
          → old xs (if b then (e.0, step e.1 x.1) ∷ es else e ∷ add x es) ≡ old_one (x ∷ xs) e ∷ (old (x ∷ xs) es ++ heads x xs (b || has es x.0))
      by true is later =
          let none : has es x.0 ≡ false = sym (has-alike es e.0 x.0 is) ∙ h.0 in
          (λ i. (e.0, fold step e.1 (sym (of_key-there x xs e.0 is) i)) ∷ (old-other x xs es none ∙ sym (append-nil (old (x ∷ xs) es))) i)
      by false is later = (λ i. (e.0, fold step e.1 (sym (of_key-other x xs e.0 is) i)) ∷ later i)

  new-add : (x : K × D) (xs : List (K × D)) (es : Entries) → new (x ∷ xs) es ≡ heads x xs (has es x.0) ++ new xs (add x es)
  new-add x xs es = by (has es x.0) refl
    where
      others : map (new_one (x ∷ xs)) (filter (λ k. not (has es k)) (filter (λ k. not (same x.0 k)) (firsts (keys_of xs)))) ≡ new xs (add x es)
      others =
          ap (map (new_one (x ∷ xs)))
          (sym (filter-both (λ k. not (has (add x es) k)) (λ k. not (has es k)) (λ k. not (same x.0 k))
          (λ k. ap not (has-add x es k) ∙ not_or (has es k) (same x.0 k)) (firsts (keys_of xs))))
          ∙ map-filter (λ k. not (has (add x es) k)) (new_one (x ∷ xs)) (new_one xs)
          (λ k is. ap (λ (ds : List D). (k, fold step begin ds)) (of_key-other x xs k
          (laws.symm k x.0
          ∙ not_true (same x.0 k) (and_right (not (has es k)) (not (same x.0 k)) (sym (ap not (has-add x es k) ∙ not_or (has es k) (same x.0 k)) ∙ is)))))
          (firsts (keys_of xs))

      by : (b : Bool) → has es x.0 ≡ b → new (x ∷ xs) es ≡ heads x xs b ++ new xs (add x es)
      by true is = rw is others
      by false is = rw is (ap (λ (es : Entries). new_one (x ∷ xs) x.0 ∷ es) others)

  pub split_from : (xs : List (K × D)) (es : Entries) → Apart es → add_all xs es ≡ old xs es ++ new xs es
  split_from [] es h = sym (kept es) ∙ sym (append-nil (old [] es))
    where
      kept : (es : Entries) → old [] es ≡ es
      kept [] = refl
      kept (e ∷ es) = ap (λ (fs : Entries). e ∷ fs) (kept es)
  split_from (x ∷ xs) es h =
      split_from xs (add x es) (Apart-add x es h)
      ∙ ap (λ (fs : Entries). fs ++ new xs (add x es)) (old-add x xs es h)
      ∙ append_assoc (old (x ∷ xs) es) (heads x xs (has es x.0)) (new xs (add x es))
      ∙ ap (λ (fs : Entries). old (x ∷ xs) es ++ fs) (sym (new-add x xs es))

  pub split : (xs : List (K × D)) → add_all xs [] ≡ map (new_one xs) (firsts (keys_of xs))
  split xs = split_from xs [] tt ∙ ap (map (new_one xs)) (filter-all (λ k. true) (λ k. refl) (firsts (keys_of xs)))
