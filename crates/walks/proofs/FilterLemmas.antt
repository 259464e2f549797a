-- Documents of which a test leaves some in.
use Rattle.std.proofs.Common.{◌≡◌, inl, inr, suc, Bool, true, false, List, [], ◌∷◌, length, refl, sym, ap, ◌∙◌, arith}
use Rattle.std.specs.Prelude.{◌&&◌, ◌≤◌, Contains, cond}
use Rattle.std.specs.List.{filter}
use Rattle.bson.specs.Tree.{Pairs}
use Rattle.entry_model.proofs.MemberLemmas.{Among}
use Rattle.planner.proofs.RisingLemmas.{filter_among}
use Rattle.planner.proofs.UsableLemmas.{and_first, and_second}

pub filter_fewer : {X : Type 0} (p : X → Bool) (xs : List X) → length (filter p xs) ≤ length xs
filter_fewer p [] = omega arith
filter_fewer p (x ∷ xs) = at (p x) refl (filter_fewer p xs)
  where
    at : (b : Bool) → p x ≡ b → length (filter p xs) ≤ length xs → length (filter p (x ∷ xs)) ≤ length (x ∷ xs)
    at true e later = rw e (omega (arith, later))
    at false e later = rw e (omega (arith, later))

-- all pass
pub all_pass : (p : Pairs → Bool) (xs : List Pairs) → ((x : Pairs) → Among x xs → p x ≡ true) → filter p xs ≡ xs
all_pass p [] h = refl
all_pass p (x ∷ xs) h = rw (h x (inl refl)) (ap (λ (ys : List Pairs). x ∷ ys) (all_pass p xs (λ y g. h y (inr g))))

-- where both tests are passed by the same
pub filter_where : (q p : Pairs → Bool) (ds : List Pairs) → ((d : Pairs) → Among d ds → q d ≡ p d) → filter q ds ≡ filter p ds
filter_where q p [] same = refl
filter_where q p (d ∷ ds) same =
    ap (λ (b : Bool). cond b (d ∷ filter q ds) (filter q ds)) (same d (inl refl))
    ∙ ap (λ (es : List Pairs). cond (p d) (d ∷ es) es) (filter_where q p ds (λ e h. same e (inr h)))

-- where those that pass the one pass the other
pub filter_within : (p w : Pairs → Bool) (ds : List Pairs) → ((d : Pairs) → Contains ds d → p d ≡ true → w d ≡ true) → filter p (filter w ds) ≡ filter p ds
filter_within p w [] h = refl
filter_within p w (d ∷ ds) h =
    by (p d) (w d) refl refl (h d (0, omega arith, refl)) (filter_within p w ds (λ x g e. h x (suc g.0, omega (arith, g.1), g.2) e))
  where
    by : (a b : Bool) → p d ≡ a → w d ≡ b → (p d ≡ true → w d ≡ true) → filter p (filter w ds) ≡ filter p ds
        → filter p (filter w (d ∷ ds)) ≡ filter p (d ∷ ds)
    by true true e f here later = rw (f, e) (ap (λ (xs : List Pairs). d ∷ xs) later)
    by true false e f here later = absurd (let both : true ≡ false = sym (here e) ∙ f in cc)
    by false true e f here later = rw (f, e) later
    by false false e f here later = rw (f, e) later

-- Those that pass one test also pass a second, and of those that pass this the same pass a third.
pub narrowed : (r p q : Pairs → Bool) → ((d : Pairs) → r d ≡ true → q d ≡ true) → ((d : Pairs) → q d ≡ true → r d ≡ p d)
    → (ds : List Pairs) → filter r ds ≡ filter p (filter q ds)
narrowed r p q less same ds =
    sym (filter_within r q ds (λ d there. less d)) ∙ filter_where r p (filter q ds) (λ d there. same d (filter_among q d ds there).1)

-- two tests in either order
pub filter_twice : (p q : Pairs → Bool) (ds : List Pairs) → filter p (filter q ds) ≡ filter q (filter p ds)
filter_twice p q ds =
    sym (narrowed (λ d. p d && q d) p q (λ d. and_second (p d) (q d)) (λ d is. both (p d) (q d) is) ds)
    ∙ narrowed (λ d. p d && q d) q p (λ d. and_first (p d) (q d)) (λ d is. ap (λ (b : Bool). b && q d) is) ds
  where
    both : (a b : Bool) → b ≡ true → (a && b) ≡ a
    both true b is = is
    both false b is = refl
