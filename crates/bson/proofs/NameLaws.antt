-- A name is among the keys of a set after an insertion if it is the new one or was among them.
use Rattle.std.proofs.Common.{◌≡◌, ℕ, Bool, true, false, ◌||◌, List, [], ◌∷◌, ◌++◌, map, refl, sym, ap, ◌∙◌}
use Rattle.std.specs.Borrow.{Bor}
use Rattle.std.specs.Str.{bytes_eq}
use Rattle.std.specs.List.{list_any}
use Rattle.std.specs.Cmp.Lexicographic.{slice_cmp}
use Rattle.std.specs.Ordering.{is_eq, nat_cmp, match_ordering}
use Rattle.std.specs.declared.cmp.Ordering.{Ordering}
use Rattle.std.specs.declared.cmp.Ordering.TheVariants.{Less, Equal, Greater}
use Rattle.std.specs.BTreeSet.{insert_key}
use Rattle.std.proofs.lemmas.List.Folds.{list_any-append}
use Rattle.std.proofs.lemmas.Map.Text.{is_eq-slice_cmp}
use Rattle.std.proofs.lemmas.Slice.Eq.{bytes_eq-Decides}
use Rattle.bson.specs.Lookup.{stands_in}

or_twice : (a b : Bool) → (a || b) ≡ (a || (a || b))
or_twice true b = refl
or_twice false b = refl

or_swap : (a b c : Bool) → (a || (b || c)) ≡ (b || (a || c))
or_swap true true c = refl
or_swap true false c = refl
or_swap false true c = refl
or_swap false false c = refl

abbrev texts : List (Bor (List ℕ)) → List (List ℕ)
texts keys = map (λ k. k.now) keys

abbrev inserted : List (Bor (List ℕ)) → Bor (List ℕ) → List (Bor (List ℕ))
inserted keys k = insert_key (λ x y. slice_cmp nat_cmp x.now y.now) keys k

insert_step : (x k : Bor (List ℕ)) (xs : List (Bor (List ℕ))) (other : List ℕ) (o : Ordering) → slice_cmp nat_cmp k.now x.now ≡ o
    → stands_in (texts (inserted xs k)) other ≡ (bytes_eq other k.now || stands_in (texts xs) other)
    → stands_in (texts (match_ordering o (k ∷ x ∷ xs) (x ∷ xs) (x ∷ inserted xs k))) other
    ≡ (bytes_eq other k.now || (bytes_eq other x.now || stands_in (texts xs) other))
insert_step x k xs other Less e more = refl
insert_step x k xs other Equal e more =
    let same : k.now ≡ x.now = (bytes_eq-Decides k.now x.now).0 (sym (is_eq-slice_cmp k.now x.now) ∙ ap is_eq e) in
    or_twice (bytes_eq other x.now) (stands_in (texts xs) other)
    ∙ ap (λ (name : List ℕ). bytes_eq other name || (bytes_eq other x.now || stands_in (texts xs) other)) (sym same)
insert_step x k xs other Greater e more =
    ap (λ (b : Bool). bytes_eq other x.now || b) more ∙ or_swap (bytes_eq other x.now) (bytes_eq other k.now) (stands_in (texts xs) other)

set_insert : (keys : List (Bor (List ℕ))) (k : Bor (List ℕ)) (other : List ℕ)
    → stands_in (texts (inserted keys k)) other ≡ (bytes_eq other k.now || stands_in (texts keys) other)
set_insert [] k other = refl
set_insert (x ∷ xs) k other = insert_step x k xs other (slice_cmp nat_cmp k.now x.now) refl (set_insert xs k other)

set_has : (keys : List (Bor (List ℕ))) (name : List ℕ) → list_any (λ k. is_eq (slice_cmp nat_cmp name k.now)) keys ≡ stands_in (texts keys) name
set_has [] name = refl
set_has (x ∷ xs) name = λ i. is_eq-slice_cmp name x.now i || set_has xs name i

pub names_has : (few : List (List ℕ)) (keys : List (Bor (List ℕ))) (names : List (List ℕ)) (name : List ℕ) (first later : Bool) → first ≡ stands_in few name
    → first ≡ false
    → later ≡ list_any (λ k. is_eq (slice_cmp nat_cmp name k.now)) keys → few ++ texts keys ≡ names → later ≡ stands_in names name
names_has few keys names name first later e none f same =
    f ∙ set_has keys name ∙ ap (λ (b : Bool). b || stands_in (texts keys) name) (sym none ∙ e) ∙ sym (list_any-append (bytes_eq name) few (texts keys))
    ∙ ap (λ (ns : List (List ℕ)). stands_in ns name) same

pub names_insert : (few : List (List ℕ)) (keys new : List (Bor (List ℕ))) (k : Bor (List ℕ)) (names : List (List ℕ)) (other : List ℕ) → new ≡ inserted keys k
    → few ++ texts keys ≡ names
    → stands_in (few ++ texts new) other ≡ (bytes_eq other k.now || stands_in names other)
names_insert few keys new k names other e same =
    list_any-append (bytes_eq other) few (texts new) ∙ ap (λ (ks : List (Bor (List ℕ))). stands_in few other || stands_in (texts ks) other) e
    ∙ ap (λ (b : Bool). stands_in few other || b) (set_insert keys k other)
    ∙ or_swap (stands_in few other) (bytes_eq other k.now) (stands_in (texts keys) other)
    ∙ ap (λ (b : Bool). bytes_eq other k.now || b)
    (sym (list_any-append (bytes_eq other) few (texts keys)) ∙ ap (λ (ns : List (List ℕ)). stands_in ns other) same)

-- a name that stands among them already adds nothing
stood : (names : List (List ℕ)) (name other : List ℕ) → stands_in names name ≡ true → stands_in names other ≡ (bytes_eq other name || stands_in names other)
stood names name other e = by (bytes_eq other name) refl
  where
    by : (b : Bool) → bytes_eq other name ≡ b → stands_in names other ≡ (b || stands_in names other)
    by true is = ap (stands_in names) ((bytes_eq-Decides other name).0 is) ∙ e
    by false is = refl

first_true : (a b : Bool) → a ≡ true → (a || b) ≡ true
first_true true b e = refl
first_true false b e = absurd cc

pub names_stay : (few : List (List ℕ)) (keys : List (Bor (List ℕ))) (names : List (List ℕ)) (name other : List ℕ) → stands_in few name ≡ true
    → few ++ texts keys ≡ names → stands_in names other ≡ (bytes_eq other name || stands_in names other)
names_stay few keys names name other e same =
    stood names name other (ap (λ (ns : List (List ℕ)). stands_in ns name) (sym same) ∙ list_any-append (bytes_eq name) few (texts keys)
    ∙ first_true (stands_in few name) (stands_in (texts keys) name) e)
