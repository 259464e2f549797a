-- The collections of a state with one more, with one replaced, and without one.
use Rattle.std.proofs.Common.{◌≡◌, ℕ, suc, Bool, true, false, List, [], ◌∷◌, Option, Some, None, ◌⊎◌, inl, inr, refl, sym, ap, subst, ◌∙◌, arith}
use Rattle.std.specs.Prelude.{if◌then◌else◌}
use Rattle.std.specs.Str.{bytes_eq}
use Rattle.std.specs.Ordering.{nat_cmp, ordering_reverse}
use Rattle.std.specs.Cmp.Lexicographic.{slice_cmp, nat_list_cmp_total}
use Rattle.std.specs.declared.cmp.Ordering.{Ordering}
use Rattle.std.specs.declared.cmp.Ordering.TheVariants as orders
use Rattle.std.proofs.lemmas.Cmp.{tied_itself}
use Rattle.std.proofs.lemmas.Map.Lookups.{exact_bytes}
use Rattle.std.proofs.lemmas.Slice.Eq.{bytes_eq-Decides}
use Rattle.entry_model.specs.State.{Collection, find_collection, by_order, put_collection, without_collection}
use Rattle.entry_model.specs.LawfulState.{AreNamedApart}
use Rattle.entry_model.proofs.MemberLemmas.{Among, first_of}

pub same_name : (a b : List ℕ) → bytes_eq a b ≡ true → a ≡ b
same_name a b e = (bytes_eq-Decides a b).0 e

bytes_same : (a b : List ℕ) → a ≡ b → bytes_eq a b ≡ true
bytes_same a b e = (bytes_eq-Decides a b).1 e

pub name_itself : (a : List ℕ) → slice_cmp nat_cmp a a ≡ orders.Less → ⊥
name_itself a h = let e : slice_cmp nat_cmp a a ≡ orders.Equal = tied_itself nat_list_cmp_total a in cc

-- what is below isn't the same
differs : (a b : List ℕ) → slice_cmp nat_cmp a b ≡ orders.Less → bytes_eq a b ≡ false
differs a b less = by (bytes_eq a b) refl
  where
    by : (s : Bool) → bytes_eq a b ≡ s → bytes_eq a b ≡ false
    by true e = absurd (name_itself b (subst (λ (m : List ℕ). slice_cmp nat_cmp m b ≡ orders.Less) (same_name a b e) less))
    by false e = e

pub apart_rest : (c : Collection) (cs : List Collection) → AreNamedApart (c ∷ cs) → AreNamedApart cs
apart_rest c cs h = λ i j d lt below. h (suc i) (suc j) d (omega (arith, lt)) (omega (arith, below))

-- ---- looking one up

value_or : Collection → Option Collection → Collection
value_or d None = d
value_or d (Some x) = x

some_is : {a b : Collection} → Some a ≡ Some b → a ≡ b
unfolding value_or
some_is {a} {b} p = ap (value_or a) p

pub found_name : (cs : List Collection) (name : List ℕ) (old : Collection) → find_collection cs name ≡ Some old → name ≡ old.name
found_name [] name old e = absurd cc
found_name (c ∷ cs) name old e = by (bytes_eq name c.name) refl e (found_name cs name old)
  where
    by : (b : Bool) → bytes_eq name c.name ≡ b → (if b then Some c else find_collection cs name) ≡ Some old
        → (find_collection cs name ≡ Some old → name ≡ old.name) → name ≡ old.name
    by true same is later = same_name name c.name same ∙ ap (λ (d : Collection). d.name) (some_is is)
    by false other is later = later is

pub found_in : (cs : List Collection) (name : List ℕ) (old : Collection) → find_collection cs name ≡ Some old → Among old cs
found_in [] name old e = absurd cc
found_in (c ∷ cs) name old e = by (bytes_eq name c.name) e (found_in cs name old)
  where
    by : (b : Bool) → (if b then Some c else find_collection cs name) ≡ Some old → (find_collection cs name ≡ Some old → Among old cs) → Among old (c ∷ cs)
    by true is later = inl (sym (some_is is))
    by false is later = inr (later is)

-- ---- without one

pub without_in : (cs : List Collection) (name : List ℕ) (x : Collection) → Among x (without_collection name cs) → Among x cs
without_in [] name x h = h
without_in (c ∷ cs) name x h = by (bytes_eq name c.name) h (without_in cs name x)
  where
    by : (b : Bool) → Among x (if b then cs else c ∷ without_collection name cs) → (Among x (without_collection name cs) → Among x cs) → Among x (c ∷ cs)
    by true g later = inr g
    by false (inl e) later = inl e
    by false (inr g) later = inr (later g)

pub found_split : (cs : List Collection) (name : List ℕ) (old x : Collection) → find_collection cs name ≡ Some old → Among x cs
    → (x ≡ old) ⊎ Among x (without_collection name cs)
found_split [] name old x e h = absurd h
found_split (c ∷ cs) name old x e h = by (bytes_eq name c.name) e h (found_split cs name old x)
  where
    by : (b : Bool) → (if b then Some c else find_collection cs name) ≡ Some old → Among x (c ∷ cs)
        → (find_collection cs name ≡ Some old → Among x cs → (x ≡ old) ⊎ Among x (without_collection name cs))
        → (x ≡ old) ⊎ Among x (if b then cs else c ∷ without_collection name cs)
    by true is (inl f) later = inl (f ∙ some_is is)
    by true is (inr g) later = inr g
    by false is (inl f) later = inr (inl f)
    by false is (inr g) later = elim (later is g) [ inl f ↦ inl f | inr k ↦ inr (inr k) ]

pub none_without : (cs : List Collection) (name : List ℕ) → find_collection cs name ≡ None → without_collection name cs ≡ cs
none_without [] name e = refl
none_without (c ∷ cs) name e = by (bytes_eq name c.name) e (none_without cs name)
  where
    by : (b : Bool) → (if b then Some c else find_collection cs name) ≡ None → (find_collection cs name ≡ None → without_collection name cs ≡ cs)
        → (if b then cs else c ∷ without_collection name cs) ≡ c ∷ cs
    by true is later = absurd cc
    by false is later = ap (λ (ds : List Collection). c ∷ ds) (later is)

-- the others have other names
pub below_without : (cs : List Collection) (name : List ℕ) → ((x : Collection) → Among x cs → slice_cmp nat_cmp name x.name ≡ orders.Less)
    → without_collection name cs ≡ cs
below_without [] name h = refl
below_without (c ∷ cs) name h =
    ap (λ (b : Bool). if b then cs else c ∷ without_collection name cs) (differs name c.name (h c (inl refl)))
    ∙ ap (λ (ds : List Collection). c ∷ ds) (below_without cs name (λ x g. h x (inr g)))

pub without_other : (cs : List Collection) (name : List ℕ) (x : Collection) → AreNamedApart cs → Among x (without_collection name cs) → name ≡ x.name → ⊥
without_other [] name x apart h e = h
without_other (c ∷ cs) name x apart h e = by (bytes_eq name c.name) refl h (λ g. without_other cs name x (apart_rest c cs apart) g e)
  where
    by : (b : Bool) → bytes_eq name c.name ≡ b → Among x (if b then cs else c ∷ without_collection name cs) → (Among x (without_collection name cs) → ⊥) → ⊥
    by true same g later =
        let less = first_of (λ p q. slice_cmp nat_cmp p.name q.name ≡ orders.Less) c cs x apart g in
        name_itself x.name (subst (λ (m : List ℕ). slice_cmp nat_cmp m x.name ≡ orders.Less) (sym (same_name name c.name same) ∙ e) less)
    by false other (inl f) later = let g : true ≡ false = sym (bytes_same name c.name (e ∙ ap (λ (d : Collection). d.name) f)) ∙ other in cc
    by false other (inr g) later = later g

-- ---- one put among them

-- a collection that is put stands there with those of other names
put_is : (new : Collection) (cs : List Collection) → AreNamedApart cs → (x : Collection)
    → (Among x (put_collection new cs) → (x ≡ new) ⊎ Among x (without_collection new.name cs))
    × ((x ≡ new) ⊎ Among x (without_collection new.name cs) → Among x (put_collection new cs))
put_is new [] apart x = (λ h. h, λ h. h)
put_is new (c ∷ cs) apart x = by (slice_cmp nat_cmp new.name c.name) refl (put_is new cs (apart_rest c cs apart) x)
  where
    by : (o : Ordering) → slice_cmp nat_cmp new.name c.name ≡ o
        → ((Among x (put_collection new cs) → (x ≡ new) ⊎ Among x (without_collection new.name cs))
        × ((x ≡ new) ⊎ Among x (without_collection new.name cs) → Among x (put_collection new cs)))
        → (Among x (by_order o (new ∷ c ∷ cs) (new ∷ cs) (c ∷ put_collection new cs)) → (x ≡ new) ⊎ Among x (without_collection new.name (c ∷ cs)))
        × ((x ≡ new) ⊎ Among x (without_collection new.name (c ∷ cs)) → Among x (by_order o (new ∷ c ∷ cs) (new ∷ cs) (c ∷ put_collection new cs)))
    by orders.Less less later =
        let all : (y : Collection) → Among y (c ∷ cs) → slice_cmp nat_cmp new.name y.name ≡ orders.Less = λ y g. below y g in
        let same : without_collection new.name (c ∷ cs) ≡ c ∷ cs = below_without (c ∷ cs) new.name all in
        (λ h. subst (λ (ds : List Collection). (x ≡ new) ⊎ Among x ds) (sym same) h, λ h. subst (λ (ds : List Collection). (x ≡ new) ⊎ Among x ds) same h)
      where
        below : (y : Collection) → Among y (c ∷ cs) → slice_cmp nat_cmp new.name y.name ≡ orders.Less
        below y (inl f) = ap (λ (d : Collection). slice_cmp nat_cmp new.name d.name) f ∙ less
        below y (inr g) = nat_list_cmp_total.trans new.name c.name y.name less (first_of (λ p q. slice_cmp nat_cmp p.name q.name ≡ orders.Less) c cs y apart g)
    by orders.Equal same later =
        let is : (if bytes_eq new.name c.name then cs else c ∷ without_collection new.name cs) ≡ cs =
        ap (λ (b : Bool). if b then cs else c ∷ without_collection new.name cs) (bytes_same new.name c.name (exact_bytes new.name c.name same)) in
        (λ h. subst (λ (ds : List Collection). (x ≡ new) ⊎ Among x ds) (sym is) h, λ h. subst (λ (ds : List Collection). (x ≡ new) ⊎ Among x ds) is h)
    by orders.Greater more later =
        let over : slice_cmp nat_cmp c.name new.name ≡ orders.Less = nat_list_cmp_total.antisymm c.name new.name ∙ ap ordering_reverse more in
        let is : (if bytes_eq new.name c.name then cs else c ∷ without_collection new.name cs) ≡ c ∷ without_collection new.name cs =
        ap (λ (b : Bool). if b then cs else c ∷ without_collection new.name cs) (turned_differs over) in (
          λ h. subst (λ (ds : List Collection). (x ≡ new) ⊎ Among x ds) (sym is) (to h),
          λ h. from (subst (λ (ds : List Collection). (x ≡ new) ⊎ Among x ds) is h),
        )
      where
        turned_differs : slice_cmp nat_cmp c.name new.name ≡ orders.Less → bytes_eq new.name c.name ≡ false
        turned_differs over = at (bytes_eq new.name c.name) refl
          where
            at : (b : Bool) → bytes_eq new.name c.name ≡ b → bytes_eq new.name c.name ≡ false
            at true e = absurd (name_itself c.name (subst (λ (m : List ℕ). slice_cmp nat_cmp c.name m ≡ orders.Less) (same_name new.name c.name e) over))
            at false e = e

        to : Among x (c ∷ put_collection new cs) → (x ≡ new) ⊎ Among x (c ∷ without_collection new.name cs)
        to (inl f) = inr (inl f)
        to (inr g) = elim (later.0 g) [ inl f ↦ inl f | inr k ↦ inr (inr k) ]

        from : (x ≡ new) ⊎ Among x (c ∷ without_collection new.name cs) → Among x (c ∷ put_collection new cs)
        from (inl f) = inr (later.1 (inl f))
        from (inr (inl f)) = inl f
        from (inr (inr g)) = inr (later.1 (inr g))

pub put_among : (new : Collection) (cs : List Collection) (x : Collection) → AreNamedApart cs → Among x (put_collection new cs)
    → (x ≡ new) ⊎ Among x (without_collection new.name cs)
put_among new cs x apart = (put_is new cs apart x).0

pub among_put : (new : Collection) (cs : List Collection) (x : Collection) → AreNamedApart cs → (x ≡ new) ⊎ Among x (without_collection new.name cs)
    → Among x (put_collection new cs)
among_put new cs x apart = (put_is new cs apart x).1
