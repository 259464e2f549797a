-- The sorted map after edits, key by key.
use Rattle.std.proofs.Common.{◌≡◌, ℕ, Bool, true, false, List, [], ◌∷◌, ◌++◌, Option, Some, None, refl, sym, ap, ◌∙◌}
use Rattle.std.specs.Prelude.{if◌then◌else◌}
use Rattle.std.specs.declared.cmp.Ordering.{Ordering}
use Rattle.std.specs.declared.cmp.Ordering.TheVariants.{Less, Equal, Greater}
use Rattle.std.specs.Ordering.{is_lt, is_eq, ordering_reverse}
use Rattle.std.specs.Cmp.Lexicographic.{nat_list_cmp_total}
use Rattle.std.proofs.lemmas.Cmp.{tied_itself}
use Rattle.std.proofs.lemmas.Map.Lookups.{exact_bytes}
use Rattle.tree_model.specs.Keys.{Entry, Edit, Each, IsUnder, Rises, key_cmp, keep_if, before, behind, entries_at, edit_map, change, value_at}
use Rattle.entry_model.specs.StateEntries.{entry_keys}

-- ---- keys

tie : (o : Ordering) → is_eq o ≡ true → o ≡ Equal
tie Less e = absurd cc
tie Equal e = refl
tie Greater e = absurd cc

pub same_key : (a b : List ℕ) → is_eq (key_cmp a b) ≡ true → a ≡ b
same_key a b e = exact_bytes a b (tie (key_cmp a b) e)

pub key_itself : (k : List ℕ) → is_eq (key_cmp k k) ≡ true
key_itself k = ap is_eq (tied_itself nat_list_cmp_total k)

pub turned : (a b : List ℕ) → key_cmp a b ≡ ordering_reverse (key_cmp b a)
turned a b = nat_list_cmp_total.antisymm a b

pub not_under_itself : (a : List ℕ) → IsUnder a a → ⊥
not_under_itself a h = let e : key_cmp a a ≡ Equal = tied_itself nat_list_cmp_total a in cc

-- ---- what stands at a key

abbrev pub or_value : Option (List ℕ) → Option (List ℕ) → Option (List ℕ)
or_value None w = w
or_value (Some v) w = Some v

pub value_append : (k : List ℕ) (xs ys : List Entry) → value_at k (xs ++ ys) ≡ or_value (value_at k xs) (value_at k ys)
value_append k [] ys = refl
value_append k (x ∷ xs) ys =
    elim (is_eq (key_cmp x.key k)) as
    (λ (b : Bool). (if b then Some x.value else value_at k (xs ++ ys)) ≡ or_value (if b then Some x.value else value_at k xs) (value_at k ys))
    [ true ↦ refl | false ↦ value_append k xs ys ]

neither : (b : Bool) → (let none : Option (List ℕ) = None in none) ≡ (if b then None else None)
neither true = refl
neither false = refl

before_value : (key k : List ℕ) (xs : List Entry) → value_at k (before key xs) ≡ (if is_lt (key_cmp k key) then value_at k xs else None)
before_value key k [] = neither (is_lt (key_cmp k key))
before_value key k (x ∷ xs) = by (is_lt (key_cmp x.key key)) refl (is_eq (key_cmp x.key k)) refl (before_value key k xs)
  where
    by : (b : Bool) → is_lt (key_cmp x.key key) ≡ b → (s : Bool) → is_eq (key_cmp x.key k) ≡ s
        → value_at k (before key xs) ≡ (if is_lt (key_cmp k key) then value_at k xs else None)
        → value_at k (keep_if b x (before key xs)) ≡ (if is_lt (key_cmp k key) then (if s then Some x.value else value_at k xs) else None)
    by true kept true same rest =
        let under : is_lt (key_cmp k key) ≡ true = ap (λ (m : List ℕ). is_lt (key_cmp m key)) (sym (same_key x.key k same)) ∙ kept in
        ap (λ (t : Bool). if t then Some x.value else value_at k (before key xs)) same ∙ sym (ap (λ (t : Bool). if t then Some x.value else None) under)
    by true kept false same rest = ap (λ (t : Bool). if t then Some x.value else value_at k (before key xs)) same ∙ rest
    by false kept true same rest =
        let over : is_lt (key_cmp k key) ≡ false = ap (λ (m : List ℕ). is_lt (key_cmp m key)) (sym (same_key x.key k same)) ∙ kept in
        rest ∙ ap (λ (t : Bool). if t then value_at k xs else None) over ∙ sym (ap (λ (t : Bool). if t then Some x.value else None) over)
    by false kept false same rest = rest

behind_value : (key k : List ℕ) (xs : List Entry) → value_at k (behind key xs) ≡ (if is_lt (key_cmp key k) then value_at k xs else None)
behind_value key k [] = neither (is_lt (key_cmp key k))
behind_value key k (x ∷ xs) = by (is_lt (key_cmp key x.key)) refl (is_eq (key_cmp x.key k)) refl (behind_value key k xs)
  where
    by : (b : Bool) → is_lt (key_cmp key x.key) ≡ b → (s : Bool) → is_eq (key_cmp x.key k) ≡ s
        → value_at k (behind key xs) ≡ (if is_lt (key_cmp key k) then value_at k xs else None)
        → value_at k (keep_if b x (behind key xs)) ≡ (if is_lt (key_cmp key k) then (if s then Some x.value else value_at k xs) else None)
    by true kept true same rest =
        let over : is_lt (key_cmp key k) ≡ true = ap (λ (m : List ℕ). is_lt (key_cmp key m)) (sym (same_key x.key k same)) ∙ kept in
        ap (λ (t : Bool). if t then Some x.value else value_at k (behind key xs)) same ∙ sym (ap (λ (t : Bool). if t then Some x.value else None) over)
    by true kept false same rest = ap (λ (t : Bool). if t then Some x.value else value_at k (behind key xs)) same ∙ rest
    by false kept true same rest =
        let under : is_lt (key_cmp key k) ≡ false = ap (λ (m : List ℕ). is_lt (key_cmp key m)) (sym (same_key x.key k same)) ∙ kept in
        rest ∙ ap (λ (t : Bool). if t then value_at k xs else None) under ∙ sym (ap (λ (t : Bool). if t then Some x.value else None) under)
    by false kept false same rest = rest

edited_value : (k key : List ℕ) (v : Option (List ℕ)) → value_at k (entries_at key v) ≡ (if is_eq (key_cmp key k) then v else None)
edited_value k key None = neither (is_eq (key_cmp key k))
edited_value k key (Some v) = refl

picked : (o : Ordering) (v w : Option (List ℕ))
    → or_value (if is_lt (ordering_reverse o) then w else None) (or_value (if is_eq o then v else None) (if is_lt o then w else None))
    ≡ (if is_eq o then v else w)
picked Less v w = refl
picked Equal None w = refl
picked Equal (Some v) w = refl
picked Greater v None = refl
picked Greater v (Some w) = refl

-- an edit says what stands at its key, and nothing of the others
pub edit_value : (k : List ℕ) (e : Edit) (xs : List Entry) → value_at k (edit_map e xs) ≡ (if is_eq (key_cmp e.key k) then e.value else value_at k xs)
edit_value k e xs =
    let under : value_at k (before e.key xs) ≡ (if is_lt (ordering_reverse (key_cmp e.key k)) then value_at k xs else None) =
    before_value e.key k xs ∙ ap (λ (o : Ordering). if is_lt o then value_at k xs else None) (turned k e.key) in
    value_append k (before e.key xs) (entries_at e.key e.value ++ behind e.key xs)
    ∙ (λ i. or_value (under i) (value_append k (entries_at e.key e.value) (behind e.key xs) i))
    ∙ (λ i. or_value (if is_lt (ordering_reverse (key_cmp e.key k)) then value_at k xs else None)
    (or_value (edited_value k e.key e.value i) (behind_value e.key k xs i)))
    ∙ picked (key_cmp e.key k) e.value (value_at k xs)

-- what stands at a key after edits where this stood before
abbrev pub value_after : List ℕ → List Edit → Option (List ℕ) → Option (List ℕ)
value_after k [] v = v
value_after k (e ∷ es) v = value_after k es (if is_eq (key_cmp e.key k) then e.value else v)

pub change_value : (k : List ℕ) (es : List Edit) (xs : List Entry) → value_at k (change es xs) ≡ value_after k es (value_at k xs)
change_value k [] xs = refl
change_value k (e ∷ es) xs = change_value k es (edit_map e xs) ∙ ap (value_after k es) (edit_value k e xs)

-- ---- keys go on rising

each_append : (P : List ℕ → Type 0) (xs ys : List Entry) → Each P (entry_keys xs) → Each P (entry_keys ys) → Each P (entry_keys (xs ++ ys))
each_append P [] ys h g = g
each_append P (x ∷ xs) ys h g = (h.0, each_append P xs ys h.1 g)

each_map : (P Q : List ℕ → Type 0) → ((k : List ℕ) → P k → Q k) → (xs : List Entry) → Each P (entry_keys xs) → Each Q (entry_keys xs)
each_map P Q f [] h = tt
each_map P Q f (x ∷ xs) h = (f x.key h.0, each_map P Q f xs h.1)

each_before : (P : List ℕ → Type 0) (key : List ℕ) (xs : List Entry) → Each P (entry_keys xs) → Each P (entry_keys (before key xs))
each_before P key [] h = tt
each_before P key (x ∷ xs) h = by (is_lt (key_cmp x.key key)) (each_before P key xs h.1)
  where
    by : (b : Bool) → Each P (entry_keys (before key xs)) → Each P (entry_keys (keep_if b x (before key xs)))
    by true rest = (h.0, rest)
    by false rest = rest

each_behind : (P : List ℕ → Type 0) (key : List ℕ) (xs : List Entry) → Each P (entry_keys xs) → Each P (entry_keys (behind key xs))
each_behind P key [] h = tt
each_behind P key (x ∷ xs) h = by (is_lt (key_cmp key x.key)) (each_behind P key xs h.1)
  where
    by : (b : Bool) → Each P (entry_keys (behind key xs)) → Each P (entry_keys (keep_if b x (behind key xs)))
    by true rest = (h.0, rest)
    by false rest = rest

less : (o : Ordering) → is_lt o ≡ true → o ≡ Less
less Less e = refl
less Equal e = absurd cc
less Greater e = absurd cc

all_under : (key : List ℕ) (xs : List Entry) → Each (λ y. IsUnder y key) (entry_keys (before key xs))
all_under key [] = tt
all_under key (x ∷ xs) = by (is_lt (key_cmp x.key key)) refl (all_under key xs)
  where
    by : (b : Bool) → is_lt (key_cmp x.key key) ≡ b → Each (λ y. IsUnder y key) (entry_keys (before key xs))
        → Each (λ y. IsUnder y key) (entry_keys (keep_if b x (before key xs)))
    by true e rest = (less (key_cmp x.key key) e, rest)
    by false e rest = rest

all_over : (key : List ℕ) (xs : List Entry) → Each (λ y. IsUnder key y) (entry_keys (behind key xs))
all_over key [] = tt
all_over key (x ∷ xs) = by (is_lt (key_cmp key x.key)) refl (all_over key xs)
  where
    by : (b : Bool) → is_lt (key_cmp key x.key) ≡ b → Each (λ y. IsUnder key y) (entry_keys (behind key xs))
        → Each (λ y. IsUnder key y) (entry_keys (keep_if b x (behind key xs)))
    by true e rest = (less (key_cmp key x.key) e, rest)
    by false e rest = rest

rises_before : (key : List ℕ) (xs : List Entry) → Rises (entry_keys xs) → Rises (entry_keys (before key xs))
rises_before key [] h = tt
rises_before key (x ∷ xs) h = by (is_lt (key_cmp x.key key)) (rises_before key xs h.1)
  where
    by : (b : Bool) → Rises (entry_keys (before key xs)) → Rises (entry_keys (keep_if b x (before key xs)))
    by true rest = (each_before (λ y. IsUnder x.key y) key xs h.0, rest)
    by false rest = rest

rises_behind : (key : List ℕ) (xs : List Entry) → Rises (entry_keys xs) → Rises (entry_keys (behind key xs))
rises_behind key [] h = tt
rises_behind key (x ∷ xs) h = by (is_lt (key_cmp key x.key)) (rises_behind key xs h.1)
  where
    by : (b : Bool) → Rises (entry_keys (behind key xs)) → Rises (entry_keys (keep_if b x (behind key xs)))
    by true rest = (each_behind (λ y. IsUnder x.key y) key xs h.0, rest)
    by false rest = rest

rises_append : (xs ys : List Entry) → Rises (entry_keys xs) → Rises (entry_keys ys) → Each (λ x. Each (λ y. IsUnder x y) (entry_keys ys)) (entry_keys xs)
    → Rises (entry_keys (xs ++ ys))
rises_append [] ys h g across = g
rises_append (x ∷ xs) ys h g across = (each_append (λ y. IsUnder x.key y) xs ys h.0 across.0, rises_append xs ys h.1 g across.1)

rises_at : (key : List ℕ) (v : Option (List ℕ)) (ys : List Entry) → Each (λ y. IsUnder key y) (entry_keys ys) → Rises (entry_keys ys)
    → Rises (entry_keys (entries_at key v ++ ys))
rises_at key None ys over h = h
rises_at key (Some v) ys over h = (over, h)

over_at : (low key : List ℕ) (v : Option (List ℕ)) (ys : List Entry) → IsUnder low key → Each (λ y. IsUnder key y) (entry_keys ys)
    → Each (λ y. IsUnder low y) (entry_keys (entries_at key v ++ ys))
over_at low key None ys under over = each_map (λ y. IsUnder key y) (λ y. IsUnder low y) (λ y h. nat_list_cmp_total.trans low key y under h) ys over
over_at low key (Some v) ys under over = (under, each_map (λ y. IsUnder key y) (λ y. IsUnder low y) (λ y h. nat_list_cmp_total.trans low key y under h) ys over)

rises_edit : (e : Edit) (xs : List Entry) → Rises (entry_keys xs) → Rises (entry_keys (edit_map e xs))
rises_edit e xs h =
    let behind_all = all_over e.key xs in
    rises_append (before e.key xs) (entries_at e.key e.value ++ behind e.key xs) (rises_before e.key xs h)
    (rises_at e.key e.value (behind e.key xs) behind_all (rises_behind e.key xs h))
    (each_map (λ x. IsUnder x e.key) (λ x. Each (λ y. IsUnder x y) (entry_keys (entries_at e.key e.value ++ behind e.key xs)))
    (λ x under. over_at x e.key e.value (behind e.key xs) under behind_all) (before e.key xs) (all_under e.key xs))

pub rises_change : (es : List Edit) (xs : List Entry) → Rises (entry_keys xs) → Rises (entry_keys (change es xs))
rises_change [] xs h = h
rises_change (e ∷ es) xs h = rises_change es (edit_map e xs) (rises_edit e xs h)

-- ---- one map

-- nothing stands at a key below all of them
pub none_at : (k : List ℕ) (xs : List Entry) → Each (λ y. IsUnder k y) (entry_keys xs) → value_at k xs ≡ None
none_at k [] h = refl
none_at k (x ∷ xs) h = ap (λ (o : Ordering). if is_eq o then Some x.value else value_at k xs) (turned x.key k ∙ ap ordering_reverse h.0) ∙ none_at k xs h.1

at_first : (x : Entry) (xs : List Entry) → value_at x.key (x ∷ xs) ≡ Some x.value
at_first x xs = ap (λ (b : Bool). if b then Some x.value else value_at x.key xs) (key_itself x.key)

some_none : (v : List ℕ) (o : Option (List ℕ)) → o ≡ Some v → o ≡ None → ⊥
some_none v o e f = let g : Some v ≡ None = sym e ∙ f in cc

below_rest : (k l : List ℕ) (xs : List Entry) → IsUnder k l → Each (λ y. IsUnder l y) (entry_keys xs) → Each (λ y. IsUnder k y) (entry_keys xs)
below_rest k l xs e h = each_map (λ y. IsUnder l y) (λ y. IsUnder k y) (λ y g. nat_list_cmp_total.trans k l y e g) xs h

first_same : (x y : Entry) (xs ys : List Entry) → Rises (entry_keys (x ∷ xs)) → Rises (entry_keys (y ∷ ys))
    → ((k : List ℕ) → value_at k (x ∷ xs) ≡ value_at k (y ∷ ys)) → x.key ≡ y.key
first_same x y xs ys hx hy same = by (key_cmp x.key y.key) refl
  where
    by : (o : Ordering) → key_cmp x.key y.key ≡ o → x.key ≡ y.key
    by Less e = absurd (some_none x.value (value_at x.key (x ∷ xs)) (at_first x xs) (same x.key ∙ none_at x.key (y ∷ ys) (e, below_rest x.key y.key ys e hy.0)))
    by Equal e = exact_bytes x.key y.key e
    by Greater e =
        let under : IsUnder y.key x.key = turned y.key x.key ∙ ap ordering_reverse e in
        absurd (some_none y.value (value_at y.key (y ∷ ys)) (at_first y ys)
        (sym (same y.key) ∙ none_at y.key (x ∷ xs) (under, below_rest y.key x.key xs under hx.0)))

same_some : {v w : List ℕ} → Some v ≡ Some w → v ≡ w
same_some e = cc

pub entry_is : (x y : Entry) → x.key ≡ y.key → x.value ≡ y.value → x ≡ y
entry_is x y k v = λ i. record { key = k i; value = v i }

rest_same : (x y : Entry) (xs ys : List Entry) → Each (λ z. IsUnder x.key z) (entry_keys xs) → Each (λ z. IsUnder y.key z) (entry_keys ys) → x.key ≡ y.key
    → ((k : List ℕ) → value_at k (x ∷ xs) ≡ value_at k (y ∷ ys))
    → (k : List ℕ) → value_at k xs ≡ value_at k ys
rest_same x y xs ys hx hy first same k = by (is_eq (key_cmp x.key k)) refl (is_eq (key_cmp y.key k)) refl (same k)
  where
    by : (s : Bool) → is_eq (key_cmp x.key k) ≡ s → (t : Bool) → is_eq (key_cmp y.key k) ≡ t
        → (if s then Some x.value else value_at k xs) ≡ (if t then Some y.value else value_at k ys) → value_at k xs ≡ value_at k ys
    by true e t f h =
        let at_x : x.key ≡ k = same_key x.key k e in
        ap (λ (m : List ℕ). value_at m xs) (sym at_x) ∙ none_at x.key xs hx ∙ sym (none_at y.key ys hy) ∙ ap (λ (m : List ℕ). value_at m ys) (sym first ∙ at_x)
    by false e true f h = absurd (let g : false ≡ true = sym e ∙ ap (λ (m : List ℕ). is_eq (key_cmp m k)) first ∙ f in cc)
    by false e false f h = h

-- two maps with the same values are one list
pub one_map : (xs ys : List Entry) → Rises (entry_keys xs) → Rises (entry_keys ys) → ((k : List ℕ) → value_at k xs ≡ value_at k ys) → xs ≡ ys
one_map [] [] hx hy same = refl
one_map [] (y ∷ ys) hx hy same = absurd (some_none y.value (value_at y.key (y ∷ ys)) (at_first y ys) (sym (same y.key)))
one_map (x ∷ xs) [] hx hy same = absurd (some_none x.value (value_at x.key (x ∷ xs)) (at_first x xs) (same x.key))
one_map (x ∷ xs) (y ∷ ys) hx hy same =
    let first : x.key ≡ y.key = first_same x y xs ys hx hy same in
    let value : x.value ≡ y.value = same_some (sym (at_first x xs) ∙ same x.key ∙ ap (λ (m : List ℕ). value_at m (y ∷ ys)) first ∙ at_first y ys) in
    λ i. entry_is x y first value i ∷ one_map xs ys hx.1 hy.1 (rest_same x y xs ys hx.0 hy.0 first same) i
