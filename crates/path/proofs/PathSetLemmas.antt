-- What the neighbours of a path in order tell of those that it meets.
use Rattle.std.proofs.Common.{◌≡◌, ℕ, Bool, true, false, ◌||◌, ◌&&◌, List, [], ◌∷◌, ◌++◌, ◌⊎◌, inl, inr, ◌<◌, ◌≤◌, length, drop, drop-cons, arith, refl, sym}
use Rattle.std.proofs.Common.{ap, ◌∙◌, subst, bytes_eq, slice_get, IfSome}
use Rattle.std.proofs.lemmas.Bool.{cases_lt, true≢false}
use Rattle.std.proofs.lemmas.List.{drop_all}
use Rattle.std.specs.Cmp.{nat_cmp_is}
use Rattle.std.specs.BTreeMap.Range.{IsLeBy}
use Rattle.std.specs.BTreeSet.{BTreeSet, IsKeyInRange, IsKeyRangeOf, insert_key}
use Rattle.std.specs.Cmp.{both_ways, tied_itself}
use Rattle.std.specs.FinMap.{slice_cmp-IsAntisymmetric, nat_cmp-IsAntisymmetric}
use Rattle.std.specs.List.{list_any}
use Rattle.std.specs.Ordering.{is_eq, is_gt, is_lt, nat_cmp, match_ordering, ordering_reverse, ordering_then}
use Rattle.std.specs.declared.cmp.Ordering.{Ordering}
use Rattle.std.specs.declared.cmp.Ordering.TheVariants.{Less, Equal, Greater}
use Rattle.std.specs.declared.ops.Bound.TheVariants.{Included, Unbounded}
use Rattle.std.proofs.lemmas.Slice.Eq.{bytes_eq-Decides}
use Rattle.path.specs.Parts.{is_front, meets}
use Rattle.path.specs.PathOrder.{part_cmp, path_cmp, path_total, part_total}
use Rattle.path.specs.PathSets.{AreApart}

abbrev pub Path : Type 0
Path = List (List ℕ)

both_true : (a b : Bool) → (a && b) ≡ true → (a ≡ true) × (b ≡ true)
both_true true b e = (refl, e)
both_true false b e = absurd cc

-- ---- the order

part_exact : (x y : List ℕ) → part_cmp x y ≡ Equal → x ≡ y
part_exact = slice_cmp-IsAntisymmetric nat_cmp-IsAntisymmetric

pub path_exact : (a b : Path) → path_cmp a b ≡ Equal → a ≡ b
path_exact = slice_cmp-IsAntisymmetric part_exact

same_part : (x : List ℕ) → part_cmp x x ≡ Equal
same_part x = tied_itself part_total x

front_itself : (p : Path) → is_front p p ≡ true
front_itself [] = refl
front_itself (x ∷ xs) = λ i. (bytes_eq-Decides x x).1 refl i && front_itself xs i

-- a front stands no later
front_first : (p m : Path) → is_front p m ≡ true → is_gt (path_cmp p m) ≡ false
front_first [] [] e = refl
front_first [] (y ∷ ys) e = refl
front_first (x ∷ xs) [] e = absurd cc
front_first (x ∷ xs) (y ∷ ys) e =
    let told = both_true (bytes_eq x y) (is_front xs ys) e in
    let same : part_cmp x y ≡ Equal = subst (λ (z : List ℕ). part_cmp x z ≡ Equal) ((bytes_eq-Decides x y).0 told.0) (same_part x) in
    ap (λ (o : Ordering). is_gt (ordering_then o (path_cmp xs ys))) same ∙ front_first xs ys told.1

-- between a front and what it leads to stands only what it leads to
front_between : (p h m : Path) → is_front p m ≡ true → is_gt (path_cmp p h) ≡ false → is_gt (path_cmp h m) ≡ false → is_front p h ≡ true
front_between [] h m e low high = refl
front_between (x ∷ xs) h [] e low high = absurd cc
front_between (x ∷ xs) [] (y ∷ ys) e low high = absurd cc
front_between (x ∷ xs) (z ∷ zs) (y ∷ ys) e low high =
    let told = both_true (bytes_eq x y) (is_front xs ys) e in
    let same : x ≡ y = (bytes_eq-Decides x y).0 told.0 in
    by (part_cmp x z) refl low (subst (λ (w : List ℕ). is_gt (ordering_then (part_cmp z w) (path_cmp zs ys)) ≡ false) (sym same) high)
    (front_between xs zs ys told.1)
  where
    by : (o : Ordering) → part_cmp x z ≡ o → is_gt (ordering_then o (path_cmp xs zs)) ≡ false → is_gt (ordering_then (part_cmp z x) (path_cmp zs ys)) ≡ false
        → (is_gt (path_cmp xs zs) ≡ false → is_gt (path_cmp zs ys) ≡ false → is_front xs zs ≡ true) → is_front (x ∷ xs) (z ∷ zs) ≡ true
    by Less is low high on =
        let turned : part_cmp z x ≡ Greater = part_total.antisymm z x ∙ ap ordering_reverse is in
        absurd (let e : true ≡ false = sym (ap (λ (o : Ordering). is_gt (ordering_then o (path_cmp zs ys))) turned) ∙ high in cc)
    by Equal is low high on =
        let turned : part_cmp z x ≡ Equal = part_total.antisymm z x ∙ ap ordering_reverse is in
        let later : is_gt (path_cmp zs ys) ≡ false = sym (ap (λ (o : Ordering). is_gt (ordering_then o (path_cmp zs ys))) turned) ∙ high in
        λ i. (bytes_eq-Decides x z).1 (part_exact x z is) i && on low later i
    by Greater is low high on = absurd cc

-- where the parts of the one have ended
pub ended : (a b : Path) (i : ℕ) → length a ≤ i → i ≤ length a → i ≤ length b → path_cmp (drop i a) (drop i b) ≡ path_cmp a b
    → nat_cmp (length a) (length b) ≡ path_cmp a b
ended a b i past there within so_far = by (cases_lt (length a) (length b)) ∙ so_far
  where
    by : (length a < length b) ⊎ (length b ≤ length a) → nat_cmp (length a) (length b) ≡ path_cmp (drop i a) (drop i b)
    by (inl less) =
        sym (nat_cmp_is (length a) (length b) Less less) ∙ sym (λ j. path_cmp (drop_all i a past j) (drop-cons b i [] (omega (arith, there, less)) j))
    by (inr more) =
        let same : length a ≡ length b = omega (arith, past, there, within, more) in
        sym (nat_cmp_is (length a) (length b) Equal same) ∙ sym (λ j. path_cmp (drop_all i a past j) (drop_all i b (omega (arith, past, more)) j))

-- ---- members

-- whether the list has the path
abbrev has : Path → List Path → Bool
has q ps = list_any (λ k. is_eq (path_cmp q k)) ps

or_true : (a : Bool) {b : Bool} → b ≡ true → (a || b) ≡ true
or_true true e = refl
or_true false e = e

first_or_later : (q p : Path) (ps : List Path) → has q (p ∷ ps) ≡ true → (q ≡ p) ⊎ (has q ps ≡ true)
first_or_later q p ps e = by (path_cmp q p) refl e
  where
    by : (o : Ordering) → path_cmp q p ≡ o → (is_eq o || has q ps) ≡ true → (q ≡ p) ⊎ (has q ps ≡ true)
    by Less is e = inr e
    by Equal is e = inl (path_exact q p is)
    by Greater is e = inr e

module _ (f : Path → Bool) where
  record Passing (ps : List Path) : Type 0 where
    pub path : Path
    pub is_there : has path ps ≡ true
    pub passes : f path ≡ true

  passing : (ps : List Path) → list_any f ps ≡ true → Passing ps
  passing [] e = absurd cc
  passing (p ∷ ps) e = by (f p) refl e (passing ps)
    where
      by : (b : Bool) → f p ≡ b → (b || list_any f ps) ≡ true → (list_any f ps ≡ true → Passing ps) → Passing (p ∷ ps)
      by true is e on = record { path = p; is_there = ap (λ (o : Ordering). is_eq o || has p ps) (tied_itself path_total p); passes = is }
      by false is e on =
          let later = on e in
          record { path = later.path; is_there = or_true (is_eq (path_cmp later.path p)) later.is_there; passes = later.passes }

  passed : (ps : List Path) (q : Path) → has q ps ≡ true → f q ≡ true → list_any f ps ≡ true
  passed [] q there good = absurd cc
  passed (p ∷ ps) q there good = elim (first_or_later q p ps there) [
    | inl same ↦ ap (λ (b : Bool). b || list_any f ps) (subst (λ (r : Path). f r ≡ true) same good)
    | inr later ↦ or_true (f p) (passed ps q later good)
  ]

either : (a b : Bool) → a ≡ true → (a || b) ≡ true
either true b e = refl
either false b e = absurd cc

-- of two that are apart none leads to the other
one_of_both : (ps : List Path) → AreApart ps → (m h : Path) → has m ps ≡ true → has h ps ≡ true → is_front m h ≡ true → m ≡ h
one_of_both [] apart m h in_m in_h e = absurd cc
one_of_both (p ∷ ps) apart m h in_m in_h e = elim (first_or_later m p ps in_m) [
  | inl same ↦ elim (first_or_later h p ps in_h) [
    | inl as_well ↦ same ∙ sym as_well
    | inr later ↦
        absurd (true≢false
        (sym (passed (meets p) ps h later (either (is_front p h) (is_front h p) (subst (λ (q : Path). is_front q h ≡ true) same e))) ∙ apart.0))
  ]
  | inr earlier ↦ elim (first_or_later h p ps in_h) [
    | inl same ↦
        absurd (true≢false (sym (passed (meets p) ps m earlier (or_true (is_front p m) (subst (λ (q : Path). is_front m q ≡ true) same e))) ∙ apart.0))
    | inr later ↦ one_of_both ps apart.1 m h earlier later e
  ]
]

-- ---- the neighbours

none : (b : Bool) → (b ≡ true → ⊥) → false ≡ b
none true never = absurd (never refl)
none false never = refl

not_less : (o p : Ordering) → p ≡ ordering_reverse o → is_lt o ≡ false → is_gt p ≡ false
not_less Less p e above = absurd cc
not_less Equal p e above = ap is_gt e
not_less Greater p e above = ap is_gt e

module _ (s : BTreeSet Path) (path : Path) (r : List Path) where
  module _ (all : IsKeyRangeOf path_cmp (Included path) Unbounded s r) where
    -- the next one behind is led to, if any is
    pub next_tells : (h : Path) (t : List Path) → r ≡ h ∷ t → is_front path h ≡ list_any (is_front path) s.keys
    next_tells h t is =
        let first = subst (λ (l : List Path). IfSome (slice_get l 0) (IsKeyInRange path_cmp (Included path) Unbounded s)) is all.1 in
        both_ways (is_front path h) (list_any (is_front path) s.keys) (passed (is_front path) s.keys h first.1)
        (λ e. let m = passing (is_front path) s.keys e in
        let least = all.2 m.path (front_first path m.path m.passes, tt) m.is_there in
        front_between path h m.path m.passes first.0.0 (subst (λ (l : List Path). IfSome (slice_get l 0) (λ k. IsLeBy path_cmp k m.path)) is least))

    pub next_none : r ≡ [] → false ≡ list_any (is_front path) s.keys
    next_none is = none (list_any (is_front path) s.keys)
        (λ e. let m = passing (is_front path) s.keys e in
        true≢false (sym m.is_there ∙ all.5 is m.path (front_first path m.path m.passes, tt)))

  module _ (apart : AreApart s.keys) (all : IsKeyRangeOf path_cmp Unbounded (Included path) s r) where
    -- the last one before leads to the path, if any does
    pub last_tells : (h : Path) (t : List Path) → r ≡ t ++ h ∷ [] → is_front h path ≡ list_any (λ p. is_front p path) s.keys
    last_tells h t is =
        let last = all.3 h t is in
        both_ways (is_front h path) (list_any (λ p. is_front p path) s.keys) (passed (λ p. is_front p path) s.keys h last.1)
        (λ e. let m = passing (λ p. is_front p path) s.keys e in
        let greatest = all.4 h t is m.path (tt, front_first m.path path m.passes) m.is_there in
        let leads = front_between m.path h path m.passes (not_less (path_cmp h m.path) (path_cmp m.path h) (path_total.antisymm m.path h) greatest) last.0.1 in
        subst (λ (q : Path). is_front q path ≡ true) (one_of_both s.keys apart m.path h m.is_there last.1 leads) m.passes)

    pub last_none : r ≡ [] → false ≡ list_any (λ p. is_front p path) s.keys
    last_none is = none (list_any (λ p. is_front p path) s.keys)
        (λ e. let m = passing (λ p. is_front p path) s.keys e in
        true≢false (sym m.is_there ∙ all.5 is m.path (tt, front_first m.path path m.passes)))

-- ---- both together

swap_or : (a b c : Bool) → (a || (b || c)) ≡ (b || (a || c))
swap_or true true c = refl
swap_or true false c = refl
swap_or false b c = refl

or_comm : (a b : Bool) → (a || b) ≡ (b || a)
or_comm true true = refl
or_comm true false = refl
or_comm false true = refl
or_comm false false = refl

or_twice : (a b : Bool) → (a || b) ≡ (a || (a || b))
or_twice true b = refl
or_twice false b = refl

pub meets_back : (a b : Path) → meets a b ≡ meets b a
meets_back a b = or_comm (is_front a b) (is_front b a)

pub meets_either : (path : Path) (ps : List Path) → (list_any (is_front path) ps || list_any (λ p. is_front p path) ps) ≡ list_any (meets path) ps
meets_either path [] = refl
meets_either path (p ∷ ps) =
    four (is_front path p) (list_any (is_front path) ps) (is_front p path) (list_any (λ q. is_front q path) ps) (list_any (meets path) ps)
    (meets_either path ps)
  where
    four : (a b c d e : Bool) → (b || d) ≡ e → ((a || b) || (c || d)) ≡ ((a || c) || e)
    four true b c d e is = refl
    four false true c d e is = sym (or_true c (sym is))
    four false false c d e is = ap (λ (x : Bool). c || x) is

module _ (path : Path) (ps : List Path) (led_to : Bool) (is : led_to ≡ list_any (is_front path) ps) where
  pub told_first : led_to ≡ true → led_to ≡ list_any (meets path) ps
  told_first so = so ∙ sym (either (list_any (is_front path) ps) (list_any (λ p. is_front p path) ps) (sym is ∙ so)) ∙ meets_either path ps

  pub told_second : led_to ≡ false → (leads : Bool) → leads ≡ list_any (λ p. is_front p path) ps → leads ≡ list_any (meets path) ps
  told_second so leads as_well = as_well ∙ (λ i. sym (sym is ∙ so) i || list_any (λ p. is_front p path) ps) ∙ meets_either path ps

-- ---- one path more

pub one_more : (other path : Path) (ps : List Path) → list_any (meets other) (insert_key path_cmp ps path) ≡ (meets other path || list_any (meets other) ps)
one_more other path [] = refl
one_more other path (p ∷ ps) = by (path_cmp path p) refl (one_more other path ps)
  where
    by : (o : Ordering) → path_cmp path p ≡ o → list_any (meets other) (insert_key path_cmp ps path) ≡ (meets other path || list_any (meets other) ps)
        → list_any (meets other) (match_ordering o (path ∷ p ∷ ps) (p ∷ ps) (p ∷ insert_key path_cmp ps path))
        ≡ (meets other path || (meets other p || list_any (meets other) ps))
    by Less is later = refl
    by Equal is later =
        subst (λ (q : Path). (meets other p || list_any (meets other) ps) ≡ (meets other q || (meets other p || list_any (meets other) ps)))
        (sym (path_exact path p is))
        (or_twice (meets other p) (list_any (meets other) ps))
    by Greater is later = ap (λ (b : Bool). meets other p || b) later ∙ swap_or (meets other p) (meets other path) (list_any (meets other) ps)

neither : (a b : Bool) → (a || b) ≡ false → (a ≡ false) × (b ≡ false)
neither true b e = absurd cc
neither false b e = (refl, e)

pub still_apart : (path : Path) (ps : List Path) → AreApart ps → list_any (meets path) ps ≡ false → AreApart (insert_key path_cmp ps path)
still_apart path [] apart free = (refl, tt)
still_apart path (p ∷ ps) apart free =
    let none_of = neither (meets path p) (list_any (meets path) ps) free in
    by (path_cmp path p) none_of (still_apart path ps apart.1 none_of.1)
  where
    by : (o : Ordering) → (meets path p ≡ false) × (list_any (meets path) ps ≡ false) → AreApart (insert_key path_cmp ps path)
        → AreApart (match_ordering o (path ∷ p ∷ ps) (p ∷ ps) (p ∷ insert_key path_cmp ps path))
    by Less none_of later = (free, apart)
    by Equal none_of later = apart
    by Greater none_of later = (one_more p path ps ∙ (λ i. (meets_back p path ∙ none_of.0) i || apart.0 i), later)
