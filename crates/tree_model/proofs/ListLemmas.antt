-- Lists: what holds of each element, what stands at a place, how often a number stands.
use Rattle.std.proofs.Common.{◌≡◌, ℕ, zero, suc, ◌+◌, ◌<◌, ◌≤◌, List, [], ◌∷◌, ◌++◌, length, map, take, drop, get_or, refl, sym, ap, ◌∙◌, arith, append_assoc}
use Rattle.std.specs.List.{flat_map}
use Rattle.tree_model.specs.Keys.{Each, times, Rises, IsUnder}

pub each_append : {X : Type 0} (P : X → Type 0) (xs ys : List X) → Each P xs → Each P ys → Each P (xs ++ ys)
each_append P [] ys h g = g
each_append P (x ∷ xs) ys h g = (h.0, each_append P xs ys h.1 g)

pub each_front : {X : Type 0} (P : X → Type 0) (xs ys : List X) → Each P (xs ++ ys) → Each P xs
each_front P [] ys h = tt
each_front P (x ∷ xs) ys h = (h.0, each_front P xs ys h.1)

pub each_back : {X : Type 0} (P : X → Type 0) (xs ys : List X) → Each P (xs ++ ys) → Each P ys
each_back P [] ys h = h
each_back P (x ∷ xs) ys h = each_back P xs ys h.1

pub each_map : {X : Type 0} (P Q : X → Type 0) → ((x : X) → P x → Q x) → (xs : List X) → Each P xs → Each Q xs
each_map P Q f [] h = tt
each_map P Q f (x ∷ xs) h = (f x h.0, each_map P Q f xs h.1)

pub each_of_map : {X Y : Type 0} (P : Y → Type 0) (f : X → Y) (xs : List X) → Each P (map f xs) → Each (λ x. P (f x)) xs
each_of_map P f [] h = tt
each_of_map P f (x ∷ xs) h = (h.0, each_of_map P f xs h.1)

pub each_get : {X : Type 0} (P : X → Type 0) (xs : List X) (i : ℕ) (d : X) → i < length xs → Each P xs → P (get_or xs i d)
each_get P [] i d lt h = absurd (omega arith)
each_get P (x ∷ xs) zero d lt h = h.0
each_get P (x ∷ xs) (suc i) d lt h = each_get P xs i d (omega arith) h.1

pub map_append : {X Y : Type 0} (f : X → Y) (xs ys : List X) → map f (xs ++ ys) ≡ map f xs ++ map f ys
map_append f [] ys = refl
map_append f (x ∷ xs) ys = ap (λ zs. f x ∷ zs) (map_append f xs ys)

pub long_map : {X Y : Type 0} (f : X → Y) (xs : List X) → length (map f xs) ≡ length xs
long_map f [] = refl
long_map f (x ∷ xs) = ap suc (long_map f xs)

pub long_append : {X : Type 0} (xs ys : List X) → length (xs ++ ys) ≡ length xs + length ys
long_append [] ys = omega arith
long_append (x ∷ xs) ys = omega (arith, long_append xs ys)

pub any_default : {X : Type 0} (xs : List X) (i : ℕ) (d e : X) → i < length xs → get_or xs i d ≡ get_or xs i e
any_default [] i d e lt = absurd (omega arith)
any_default (x ∷ xs) zero d e lt = refl
any_default (x ∷ xs) (suc i) d e lt = any_default xs i d e (omega arith)

pub flat_append : {X Y : Type 0} (f : X → List Y) (xs ys : List X) → flat_map f (xs ++ ys) ≡ flat_map f xs ++ flat_map f ys
flat_append f [] ys = refl
flat_append f (x ∷ xs) ys = ap (λ zs. f x ++ zs) (flat_append f xs ys) ∙ sym (append_assoc (f x) (flat_map f xs) (flat_map f ys))

pub times_append : (n : ℕ) (xs ys : List ℕ) → times n (xs ++ ys) ≡ times n xs + times n ys
times_append n [] ys = omega arith
times_append n (x ∷ xs) ys = omega (arith, times_append n xs ys)

-- the element at a place, and what stands around it
pub record At {X : Type 0} (xs : List X) (i : ℕ) : Type 0 where
  pub front : List X
  pub mid : X
  pub back : List X
  pub is : xs ≡ front ++ mid ∷ back
  pub place : length front ≡ i

pub at_place : {X : Type 0} (xs : List X) (i : ℕ) → i < length xs → At xs i
at_place [] i lt = absurd (omega arith)
at_place (x ∷ xs) zero lt = record { front = []; mid = x; back = xs; is = refl; place = refl }
at_place (x ∷ xs) (suc i) lt =
    let r = at_place xs i (omega arith) in
    record { front = x ∷ r.front; mid = r.mid; back = r.back; is = ap (λ zs. x ∷ zs) r.is; place = ap suc r.place }

-- some first elements and the others
pub record Cut {X : Type 0} (xs : List X) (i : ℕ) : Type 0 where
  pub front : List X
  pub back : List X
  pub is : xs ≡ front ++ back
  pub place : length front ≡ i

pub cut_at : {X : Type 0} (xs : List X) (i : ℕ) → i ≤ length xs → Cut xs i
cut_at xs zero le = record { front = []; back = xs; is = refl; place = refl }
cut_at [] (suc i) le = absurd (omega arith)
cut_at (x ∷ xs) (suc i) le =
    let r = cut_at xs i (omega arith) in
    record { front = x ∷ r.front; back = r.back; is = ap (λ zs. x ∷ zs) r.is; place = ap suc r.place }

pub get_here : {X : Type 0} (front : List X) (x : X) (back : List X) (d : X) → get_or (front ++ x ∷ back) (length front) d ≡ x
get_here [] x back d = refl
get_here (f ∷ fs) x back d = get_here fs x back d

next_here : {X : Type 0} (front : List X) (x y : X) (back : List X) (d : X) → get_or (front ++ x ∷ y ∷ back) (suc (length front)) d ≡ y
next_here [] x y back d = refl
next_here (f ∷ fs) x y back d = next_here fs x y back d

pub get_next : {X : Type 0} (front : List X) (x y : X) (back : List X) (d : X) → get_or (front ++ x ∷ y ∷ back) (length front + 1) d ≡ y
get_next front x y back d = let e : length front + 1 ≡ suc (length front) = omega arith in rw e (next_here front x y back d)

pub get_front : {X : Type 0} (xs ys : List X) (i : ℕ) (d : X) → i < length xs → get_or (xs ++ ys) i d ≡ get_or xs i d
get_front [] ys i d lt = absurd (omega arith)
get_front (x ∷ xs) ys zero d lt = refl
get_front (x ∷ xs) ys (suc i) d lt = get_front xs ys i d (omega arith)

-- lists that rise
pub rises_front : (xs ys : List (List ℕ)) → Rises (xs ++ ys) → Rises xs
rises_front [] ys h = tt
rises_front (x ∷ xs) ys h = (each_front _ xs ys h.0, rises_front xs ys h.1)

pub rises_back : (xs ys : List (List ℕ)) → Rises (xs ++ ys) → Rises ys
rises_back [] ys h = h
rises_back (x ∷ xs) ys h = rises_back xs ys h.1

pub rises_across : (xs ys : List (List ℕ)) → Rises (xs ++ ys) → Each (λ x. Each (IsUnder x) ys) xs
rises_across [] ys h = tt
rises_across (x ∷ xs) ys h = (each_back _ xs ys h.0, rises_across xs ys h.1)

pub rises_append : (xs ys : List (List ℕ)) → Rises xs → Rises ys → Each (λ x. Each (IsUnder x) ys) xs → Rises (xs ++ ys)
rises_append [] ys h g k = g
rises_append (x ∷ xs) ys h g k = (each_append _ xs ys h.0 k.0, rises_append xs ys h.1 g k.1)

-- what was mapped so far, with the next one
take_next_map : {X Y : Type 0} (f : X → Y) (xs : List X) (i : ℕ) (d : X) → i < length xs → take (suc i) (map f xs) ≡ take i (map f xs) ++ f (get_or xs i d) ∷ []
take_next_map f [] i d lt = absurd (omega arith)
take_next_map f (x ∷ xs) zero d lt = refl
take_next_map f (x ∷ xs) (suc i) d lt = ap (λ zs. f x ∷ zs) (take_next_map f xs i d (omega arith))

pub take_more_map : {X Y : Type 0} (f : X → Y) (xs : List X) (i : ℕ) (d : X) → i < length xs
    → take (i + 1) (map f xs) ≡ take i (map f xs) ++ f (get_or xs i d) ∷ []
take_more_map f xs i d lt = let n : i + 1 ≡ suc i = omega arith in ap (λ k. take k (map f xs)) n ∙ take_next_map f xs i d lt

pub map_map : {X Y Z : Type 0} (f : X → Y) (g : Y → Z) (xs : List X) → map g (map f xs) ≡ map (λ x. g (f x)) xs
map_map f g [] = refl
map_map f g (x ∷ xs) = ap (λ zs. g (f x) ∷ zs) (map_map f g xs)

take_next_of : {X : Type 0} (xs : List X) (i : ℕ) (d : X) → i < length xs → take (suc i) xs ≡ take i xs ++ get_or xs i d ∷ []
take_next_of [] i d lt = absurd (omega arith)
take_next_of (x ∷ xs) zero d lt = refl
take_next_of (x ∷ xs) (suc i) d lt = ap (λ zs. x ∷ zs) (take_next_of xs i d (omega arith))

pub take_more : {X : Type 0} (xs : List X) (i : ℕ) (d : X) → i < length xs → take (i + 1) xs ≡ take i xs ++ get_or xs i d ∷ []
take_more xs i d lt = let n : i + 1 ≡ suc i = omega arith in ap (λ k. take k xs) n ∙ take_next_of xs i d lt

pub get_mapped : {X Y : Type 0} (f : X → Y) (xs : List X) (i : ℕ) (d : Y) (d' : X) → i < length xs → get_or (map f xs) i d ≡ f (get_or xs i d')
get_mapped f [] i d d' lt = absurd (omega arith)
get_mapped f (x ∷ xs) zero d d' lt = refl
get_mapped f (x ∷ xs) (suc i) d d' lt = get_mapped f xs i d d' (omega arith)

pub drop_more : {X Y : Type 0} (f : X → Y) (xs : List X) (i : ℕ) (d : X) → i < length xs → drop i (map f xs) ≡ f (get_or xs i d) ∷ drop (suc i) (map f xs)
drop_more f [] i d lt = absurd (omega arith)
drop_more f (x ∷ xs) zero d lt = refl
drop_more f (x ∷ xs) (suc i) d lt = drop_more f xs i d (omega arith)
