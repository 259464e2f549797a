-- A lawful state stays lawful with a collection more, with one replaced and without one.
use Rattle.std.proofs.Common.{◌≡◌, ℕ, zero, suc, ◌<◌, ◌≤◌, Bool, true, false, ◌||◌, List, [], ◌∷◌, length, map, get_or, Option, Some, None, ◌⊎◌, inl, inr, refl}
use Rattle.std.proofs.Common.{sym, ap, subst, ◌∙◌, arith, eq-eqb, eqb-true}
use Rattle.std.specs.Prelude.{All, ◌==◌, if◌then◌else◌}
use Rattle.std.specs.Str.{bytes_eq}
use Rattle.std.specs.List.{AllPairs}
use Rattle.std.specs.Ordering.{nat_cmp, ordering_reverse}
use Rattle.std.specs.Cmp.Lexicographic.{slice_cmp, nat_list_cmp_total}
use Rattle.std.specs.declared.cmp.Ordering.{Ordering}
use Rattle.std.specs.declared.cmp.Ordering.TheVariants as orders
use Rattle.std.proofs.lemmas.Map.Lookups.{exact_bytes}
use Rattle.std.proofs.lemmas.Slice.Eq.{bytes_eq-Decides}
use Rattle.entry_model.specs.State.{Collection, find_collection, uses, by_order, put_collection, without_collection}
use Rattle.entry_model.specs.LawfulState.{IsKept, AreNamedApart, AreNumberedApart}
use Rattle.entry_model.specs.StateLaws.{StaysLawful, MakesLawful, DropsLawful}
use Rattle.entry_model.proofs.MemberLemmas.{Among, of_all, first_of}
use Rattle.entry_model.proofs.PlaceLemmas.{same_name, name_itself, apart_rest, found_in, found_name, without_in, put_among}

abbrev IsBelow : Collection → Collection → Type 0
IsBelow c d = slice_cmp nat_cmp c.name d.name ≡ orders.Less

-- ---- what holds of each and of all pairs

among_get : {X : Type 0} (xs : List X) (k : ℕ) (d : X) → k < length xs → Among (get_or xs k d) xs
among_get [] k d below = absurd (omega arith)
among_get (x ∷ xs) zero d below = inl refl
among_get (x ∷ xs) (suc k) d below = inr (among_get xs k d (omega (arith, below)))

pub all_of : {X : Type 0} (P : X → Type 0) (xs : List X) → ((x : X) → Among x xs → P x) → All P xs
all_of P xs h k d below = h (get_or xs k d) (among_get xs k d below)

pub pairs_of : {X : Type 0} (R : X → X → Type 0) (x : X) (xs : List X) → ((y : X) → Among y xs → R x y) → AllPairs R xs → AllPairs R (x ∷ xs)
pairs_of R x xs h g zero zero d lt below = absurd (omega (arith, lt))
pairs_of R x xs h g zero (suc j) d lt below = h (get_or xs j d) (among_get xs j d (omega (arith, below)))
pairs_of R x xs h g (suc i) zero d lt below = absurd (omega (arith, lt))
pairs_of R x xs h g (suc i) (suc j) d lt below = g i j d (omega (arith, lt)) (omega (arith, below))

-- ---- names

pub put_in : (new : Collection) (cs : List Collection) (x : Collection) → AreNamedApart cs → Among x (put_collection new cs) → (x ≡ new) ⊎ Among x cs
put_in new cs x apart h = elim (put_among new cs x apart h) [ inl e ↦ inl e | inr g ↦ inr (without_in cs new.name x g) ]

put_apart : (new : Collection) (cs : List Collection) → AreNamedApart cs → AreNamedApart (put_collection new cs)
put_apart new [] h = λ i j d lt below. absurd (omega (arith, lt, below))
put_apart new (c ∷ cs) h = by (slice_cmp nat_cmp new.name c.name) refl (put_apart new cs (apart_rest c cs h))
  where
    rest : AreNamedApart cs
    rest = apart_rest c cs h

    by : (o : Ordering) → slice_cmp nat_cmp new.name c.name ≡ o → AreNamedApart (put_collection new cs)
        → AreNamedApart (by_order o (new ∷ c ∷ cs) (new ∷ cs) (c ∷ put_collection new cs))
    by orders.Less less later = pairs_of IsBelow new (c ∷ cs) below h
      where
        below : (y : Collection) → Among y (c ∷ cs) → IsBelow new y
        below y (inl e) = ap (λ (d : Collection). slice_cmp nat_cmp new.name d.name) e ∙ less
        below y (inr g) = nat_list_cmp_total.trans new.name c.name y.name less (first_of IsBelow c cs y h g)
    by orders.Equal same later =
        pairs_of IsBelow new cs
        (λ y g. subst (λ (m : List ℕ). slice_cmp nat_cmp m y.name ≡ orders.Less) (sym (exact_bytes new.name c.name same)) (first_of IsBelow c cs y h g)) rest
    by orders.Greater more later = pairs_of IsBelow c (put_collection new cs) over later
      where
        over : (y : Collection) → Among y (put_collection new cs) → IsBelow c y
        over y g = elim (put_in new cs y rest g) [
          | inl e ↦ ap (λ (d : Collection). slice_cmp nat_cmp c.name d.name) e ∙ nat_list_cmp_total.antisymm c.name new.name ∙ ap ordering_reverse more
          | inr k ↦ first_of IsBelow c cs y h k
        ]

without_apart : (name : List ℕ) (cs : List Collection) → AreNamedApart cs → AreNamedApart (without_collection name cs)
without_apart name [] h = h
without_apart name (c ∷ cs) h = by (bytes_eq name c.name) (without_apart name cs (apart_rest c cs h))
  where
    by : (b : Bool) → AreNamedApart (without_collection name cs) → AreNamedApart (if b then cs else c ∷ without_collection name cs)
    by true later = apart_rest c cs h
    by false later = pairs_of IsBelow c (without_collection name cs) (λ y g. first_of IsBelow c cs y h (without_in cs name y g)) later

-- ---- numbers

-- a collection in its place has its number
put_numbers : (now c : Collection) (cs : List Collection) → AreNamedApart cs → find_collection cs now.name ≡ Some c → now.number ≡ c.number
    → map (λ x. x.number) (put_collection now cs) ≡ map (λ x. x.number) cs
put_numbers now c [] h e n = absurd cc
put_numbers now c (d ∷ cs) h e n =
    by (slice_cmp nat_cmp now.name d.name) refl (bytes_eq now.name d.name) refl e (λ f. put_numbers now c cs (apart_rest d cs h) f n)
  where
    some_number : Some d ≡ Some c → d.number ≡ c.number
    some_number f = let g : Some d.number ≡ Some c.number = ap (λ (o : Option Collection). number_of o) f in same_number g
      where
        number_of : Option Collection → Option ℕ
        number_of None = None
        number_of (Some x) = Some x.number

        same_number : {a b : ℕ} → Some a ≡ Some b → a ≡ b
        same_number p = cc

    by : (o : Ordering) → slice_cmp nat_cmp now.name d.name ≡ o → (b : Bool) → bytes_eq now.name d.name ≡ b
        → (if b then Some d else find_collection cs now.name) ≡ Some c
        → (find_collection cs now.name ≡ Some c → map (λ x. x.number) (put_collection now cs) ≡ map (λ x. x.number) cs)
        → map (λ x. x.number) (by_order o (now ∷ d ∷ cs) (now ∷ cs) (d ∷ put_collection now cs)) ≡ d.number ∷ map (λ x. x.number) cs
    by orders.Less less true same f later =
        absurd (name_itself d.name (subst (λ (m : List ℕ). slice_cmp nat_cmp m d.name ≡ orders.Less) (same_name now.name d.name same) less))
    by orders.Less less false other f later =
        let there : IsBelow d c = first_of IsBelow d cs c h (found_in cs now.name c f) in
        let named : now.name ≡ c.name = found_name cs now.name c f in
        let below : slice_cmp nat_cmp now.name c.name ≡ orders.Less = nat_list_cmp_total.trans now.name d.name c.name less there in
        absurd (name_itself c.name (subst (λ (m : List ℕ). slice_cmp nat_cmp m c.name ≡ orders.Less) named below))
    by orders.Equal tied true same f later = ap (λ (m : ℕ). m ∷ map (λ x. x.number) cs) (n ∙ sym (some_number f))
    by orders.Equal tied false other f later =
        let itself : bytes_eq now.name d.name ≡ true = (bytes_eq-Decides now.name d.name).1 (exact_bytes now.name d.name tied) in
        absurd (let g : true ≡ false = sym itself ∙ other in cc)
    by orders.Greater more true same f later =
        let over : slice_cmp nat_cmp d.name now.name ≡ orders.Less = nat_list_cmp_total.antisymm d.name now.name ∙ ap ordering_reverse more in
        absurd (name_itself d.name (subst (λ (m : List ℕ). slice_cmp nat_cmp d.name m ≡ orders.Less) (same_name now.name d.name same) over))
    by orders.Greater more false other f later = ap (λ (ns : List ℕ). d.number ∷ ns) (later f)

-- some number is this one
number_among : ℕ → List ℕ → Bool
number_among n [] = false
number_among n (m ∷ ms) = (m == n) || number_among n ms

uses_is : (cs : List Collection) (n : ℕ) → uses cs n ≡ number_among n (map (λ x. x.number) cs)
unfolding number_among
uses_is [] n = refl
uses_is (c ∷ cs) n = ap (λ (b : Bool). (c.number == n) || b) (uses_is cs n)

abbrev AreApart : List ℕ → Type 0
AreApart [] = Unit {0}
AreApart (m ∷ ms) = (number_among m ms ≡ false) × AreApart ms

numbers_apart : (cs : List Collection) → AreNumberedApart cs → AreApart (map (λ x. x.number) cs)
numbers_apart [] h = tt
numbers_apart (c ∷ cs) h = (sym (uses_is cs c.number) ∙ h.0, numbers_apart cs h.1)

apart_numbers : (cs : List Collection) → AreApart (map (λ x. x.number) cs) → AreNumberedApart cs
apart_numbers [] h = tt
apart_numbers (c ∷ cs) h = (uses_is cs c.number ∙ h.0, apart_numbers cs h.1)

-- a number that none of them has
uses_none : (cs : List Collection) (n : ℕ) → ((x : Collection) → Among x cs → x.number ≡ n → ⊥) → uses cs n ≡ false
uses_none [] n h = refl
uses_none (c ∷ cs) n h = by (c.number == n) refl (uses_none cs n (λ x g. h x (inr g)))
  where
    by : (b : Bool) → (c.number == n) ≡ b → uses cs n ≡ false → (b || uses cs n) ≡ false
    by true same rest = absurd (h c (inl refl) (eqb-true c.number n same))
    by false other rest = rest

uses_no : (cs : List Collection) (n : ℕ) (x : Collection) → uses cs n ≡ false → Among x cs → x.number ≡ n → ⊥
uses_no [] n x h g e = g
uses_no (c ∷ cs) n x h (inl f) e = let same : (c.number == n) ≡ true = eq-eqb c.number n (sym (ap (λ (y : Collection). y.number) f) ∙ e) in
    let g : true ≡ false = sym (ap (λ (b : Bool). b || uses cs n) same) ∙ h in cc
uses_no (c ∷ cs) n x h (inr g) e = uses_no cs n x ((or_none (c.number == n) (uses cs n) h).1) g e
  where
    or_none : (a b : Bool) → (a || b) ≡ false → (a ≡ false) × (b ≡ false)
    or_none true b f = absurd cc
    or_none false b f = (refl, f)

without_numbers : (name : List ℕ) (cs : List Collection) → AreNumberedApart cs → AreNumberedApart (without_collection name cs)
without_numbers name [] h = tt
without_numbers name (c ∷ cs) h = by (bytes_eq name c.name) (without_numbers name cs h.1)
  where
    by : (b : Bool) → AreNumberedApart (without_collection name cs) → AreNumberedApart (if b then cs else c ∷ without_collection name cs)
    by true later = h.1
    by false later = (uses_none (without_collection name cs) c.number (λ x g e. uses_no cs c.number x h.0 (without_in cs name x g) e), later)

-- a new number among them
put_new_numbers : (new : Collection) (cs : List Collection) → AreNamedApart cs → find_collection cs new.name ≡ None → uses cs new.number ≡ false
    → AreNumberedApart cs → AreNumberedApart (put_collection new cs)
put_new_numbers new [] h missing unused apart = (refl, tt)
put_new_numbers new (c ∷ cs) h missing unused apart =
    by (slice_cmp nat_cmp new.name c.name) refl (bytes_eq new.name c.name) refl missing (λ f g. put_new_numbers new cs (apart_rest c cs h) f g apart.1)
  where
    by : (o : Ordering) → slice_cmp nat_cmp new.name c.name ≡ o → (b : Bool) → bytes_eq new.name c.name ≡ b
        → (if b then Some c else find_collection cs new.name) ≡ None
        → (find_collection cs new.name ≡ None → uses cs new.number ≡ false → AreNumberedApart (put_collection new cs))
        → AreNumberedApart (by_order o (new ∷ c ∷ cs) (new ∷ cs) (c ∷ put_collection new cs))
    by o is true same f later = absurd cc
    by orders.Less less false other f later = (unused, apart)
    by orders.Equal tied false other f later =
        let itself : bytes_eq new.name c.name ≡ true = (bytes_eq-Decides new.name c.name).1 (exact_bytes new.name c.name tied) in
        absurd (let g : true ≡ false = sym itself ∙ other in cc)
    by orders.Greater more false other f later =
        let none : uses cs new.number ≡ false = uses_none cs new.number (λ x g e. uses_no (c ∷ cs) new.number x unused (inr g) e) in (
          uses_none (put_collection new cs) c.number (λ x g e. elim (put_in new cs x (apart_rest c cs h) g) [
            | inl p ↦ uses_no (c ∷ cs) new.number c unused (inl refl) (sym e ∙ ap (λ (y : Collection). y.number) p)
            | inr k ↦ uses_no cs c.number x apart.0 k e
          ]),
          later f none,
        )

-- ---- how many

put_long : (new : Collection) (cs : List Collection) → length (put_collection new cs) ≤ suc (length cs)
put_long new [] = omega arith
put_long new (c ∷ cs) = by (slice_cmp nat_cmp new.name c.name) (put_long new cs)
  where
    by : (o : Ordering) → length (put_collection new cs) ≤ suc (length cs)
        → length (by_order o (new ∷ c ∷ cs) (new ∷ cs) (c ∷ put_collection new cs)) ≤ suc (suc (length cs))
    by orders.Less later = omega arith
    by orders.Equal later = omega arith
    by orders.Greater later = omega (arith, later)

without_short : (name : List ℕ) (cs : List Collection) → length (without_collection name cs) ≤ length cs
without_short name [] = omega arith
without_short name (c ∷ cs) = by (bytes_eq name c.name) (without_short name cs)
  where
    by : (b : Bool) → length (without_collection name cs) ≤ length cs → length (if b then cs else c ∷ without_collection name cs) ≤ suc (length cs)
    by true later = omega arith
    by false later = omega (arith, later)

same_long : (xs ys : List Collection) → map (λ x. x.number) xs ≡ map (λ x. x.number) ys → length xs ≡ length ys
same_long xs ys e = sym (long xs) ∙ ap length e ∙ long ys
  where
    long : (zs : List Collection) → length (map (λ x. x.number) zs) ≡ length zs
    long [] = refl
    long (z ∷ zs) = ap suc (long zs)

-- ---- the laws

put_kept : (new : Collection) (cs : List Collection) → AreNamedApart cs → All IsKept cs → IsKept new → All IsKept (put_collection new cs)
put_kept new cs apart h kept =
    all_of IsKept (put_collection new cs) (λ x g. elim (put_in new cs x apart g) [
      | inl e ↦ subst IsKept (sym e) kept
      | inr k ↦ of_all IsKept cs x h k
    ])

pub stays_lawful : StaysLawful
stays_lawful cs c now h =
    let numbers = put_numbers now c cs h.lawful.apart (subst (λ (m : List ℕ). find_collection cs m ≡ Some c) (sym h.named) h.found) h.numbered in
    record {
      apart = put_apart now cs h.lawful.apart;
      numbers = apart_numbers (put_collection now cs) (subst AreApart (sym numbers) (numbers_apart cs h.lawful.numbers));
      kept = put_kept now cs h.lawful.apart h.lawful.kept h.kept;
      few = omega (arith, same_long (put_collection now cs) cs numbers, h.lawful.few);
    }

pub makes_lawful : MakesLawful
makes_lawful cs new h missing unused kept room = record {
  apart = put_apart new cs h.apart;
  numbers = put_new_numbers new cs h.apart missing unused h.numbers;
  kept = put_kept new cs h.apart h.kept kept;
  few = omega (arith, put_long new cs, room);
}

pub drops_lawful : DropsLawful
drops_lawful cs name h = record {
  apart = without_apart name cs h.apart;
  numbers = without_numbers name cs h.numbers;
  kept = all_of IsKept (without_collection name cs) (λ x g. of_all IsKept cs x h.kept (without_in cs name x g));
  few = omega (arith, without_short name cs, h.few);
}
