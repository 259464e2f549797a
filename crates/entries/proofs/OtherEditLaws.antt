-- Which entries of other `_id`s stand in a map after edits.
use Rattle.std.proofs.Common.{◌≡◌, ℕ, Bool, true, false, not, ◌&&◌, ◌||◌, List, [], ◌∷◌, ◌++◌, Option, Some, None, ◌⊎◌, inl, inr, refl, sym, ap, subst, ◌∙◌}
use Rattle.std.specs.Prelude.{is_some, if◌then◌else◌, nat_eq}
use Rattle.std.specs.List.{list_any, starts_with}
use Rattle.std.specs.Ordering.{is_eq, is_lt, ordering_reverse}
use Rattle.std.specs.declared.cmp.Ordering.{Ordering}
use Rattle.std.specs.declared.cmp.Ordering.TheVariants.{Less, Equal, Greater}
use Rattle.tree_model.specs.Keys.{edit_keys}
use Rattle.tree_model.specs.Keys.{Each, Edit, Entry, IsUnder, Rises, change, is_within, key_cmp, keep_if, value_at, window}
use Rattle.index.specs.Changes.{is_among}
use Rattle.entries.specs.OtherKeys.{is_another, puts_another, IsEndOf}
use Rattle.entry_model.specs.StateEntries.{entry_keys}
use Rattle.entries.proofs.EditLemmas.{key_itself, same_key, turned, value_after, change_value, rises_change}
use Rattle.entries.proofs.EditListLaws.{untouched}
use Rattle.entries.proofs.ExchangeLaws.{value_entry, entry_value}
use Rattle.entries.proofs.FrontLemmas.{another_told, goes_on_between, not_under_front, starts_there}
use Rattle.entry_model.proofs.MemberLemmas.{Among}

-- ---- tests of lists

pub one_truth : (a b : Bool) → (a ≡ true → b ≡ true) → (b ≡ true → a ≡ true) → a ≡ b
one_truth true b f g = sym (f refl)
one_truth false true f g = g refl
one_truth false false f g = refl

pub record IsOne {X : Type 0} (p : X → Bool) (xs : List X) : Type 0 where
  pub one : X
  pub there : Among one xs
  pub so : p one ≡ true

pub any_told : {X : Type 0} (p : X → Bool) (xs : List X) → list_any p xs ≡ true → IsOne p xs
any_told p [] e = absurd (let f : false ≡ true = e in cc)
any_told p (x ∷ xs) e = by (p x) refl e (any_told p xs)
  where
    by : (b : Bool) → p x ≡ b → (b || list_any p xs) ≡ true → (list_any p xs ≡ true → IsOne p xs) → IsOne p (x ∷ xs)
    by true is f later = record { one = x; there = inl refl; so = is }
    by false is f later = let l = later f in record { one = l.one; there = inr l.there; so = l.so }

or_true : (b : Bool) → (b || true) ≡ true
or_true true = refl
or_true false = refl

pub any_there : {X : Type 0} (p : X → Bool) (xs : List X) (x : X) → Among x xs → p x ≡ true → list_any p xs ≡ true
any_there p [] x h e = absurd h
any_there p (y ∷ ys) x (inl f) e = ap (λ b. b || list_any p ys) (ap p (sym f) ∙ e)
any_there p (y ∷ ys) x (inr h) e = ap (λ b. p y || b) (any_there p ys x h e) ∙ or_true (p y)

both_true : (a b : Bool) → (a && b) ≡ true → (a ≡ true) × (b ≡ true)
both_true true b e = (refl, e)
both_true false b e = absurd cc

either_true : (a b : Bool) → (a || b) ≡ true → (a ≡ true) ⊎ (b ≡ true)
either_true true b e = inl refl
either_true false b e = inr e

-- ---- what stands at a key after edits whose keys rise

abbrev AtKey : List ℕ → List Edit → Option (List ℕ) → Type 0
AtKey k es v = ((e : Edit) × Among e es × (e.key ≡ k) × (value_after k es v ≡ e.value))
    ⊎ ((is_among (edit_keys es) k ≡ false) × (value_after k es v ≡ v))

later_none : (k : List ℕ) (es : List Edit) → Each (λ l. IsUnder k l) (edit_keys es) → is_among (edit_keys es) k ≡ false
later_none k [] h = refl
later_none k (e ∷ es) h = (λ i. is_eq (h.0 i) || later_none k es h.1 i)

at_key : (k : List ℕ) (es : List Edit) (v : Option (List ℕ)) → Rises (edit_keys es) → AtKey k es v
at_key k [] v h = inr (refl, refl)
at_key k (e ∷ es) v h = by (is_eq (key_cmp e.key k)) refl (λ w. at_key k es w h.1)
  where
    here : (b : Bool) → is_eq (key_cmp e.key k) ≡ b → value_after k (e ∷ es) v ≡ value_after k es (if b then e.value else v)
    here b is = ap (λ (c : Bool). value_after k es (if c then e.value else v)) is

    not_here : is_eq (key_cmp e.key k) ≡ false → is_eq (key_cmp k e.key) ≡ false
    not_here other = by_turn (key_cmp e.key k) (key_cmp k e.key) (turned k e.key) other
      where
        by_turn : (o p : Ordering) → p ≡ ordering_reverse o → is_eq o ≡ false → is_eq p ≡ false
        by_turn Less p e f = ap is_eq e
        by_turn Equal p e f = absurd cc
        by_turn Greater p e f = ap is_eq e

    by : (b : Bool) → is_eq (key_cmp e.key k) ≡ b → ((w : Option (List ℕ)) → AtKey k es w) → AtKey k (e ∷ es) v
    by true is later =
        let same : e.key ≡ k = same_key e.key k is in
        inl (e, inl refl, same, here true is ∙ untouched k es e.value (subst (λ (j : List ℕ). Each (λ l. IsUnder j l) (edit_keys es)) same h.0))
    by false is later = elim (later v) [
      | inl p ↦ inl (p.0, inr p.1, p.2, here false is ∙ p.3)
      | inr q ↦ inr ((λ i. not_here is i || q.0 i), here false is ∙ q.1)
    ]

named_among : (e : Edit) (es : List Edit) → Among e es → is_among (edit_keys es) e.key ≡ true
named_among e [] h = absurd h
named_among e (f ∷ fs) (inl same) =
    ap (λ (b : Bool). b || is_among (edit_keys fs) e.key) (ap (λ (g : Edit). is_eq (key_cmp e.key g.key)) (sym same) ∙ key_itself e.key)
named_among e (f ∷ fs) (inr h) = ap (λ (b : Bool). is_eq (key_cmp e.key f.key) || b) (named_among e fs h) ∙ or_true (is_eq (key_cmp e.key f.key))

-- two edits of one key in a list whose keys rise are one
one_edit : (e f : Edit) (es : List Edit) → Rises (edit_keys es) → Among e es → Among f es → e.key ≡ f.key → e ≡ f
one_edit e f [] h p q same = absurd p
one_edit e f (g ∷ gs) h (inl p) (inl q) same = p ∙ sym q
one_edit e f (g ∷ gs) h (inl p) (inr q) same =
    absurd (let t : true ≡ false = sym (named_among f gs q)
    ∙ later_none f.key gs (subst (λ (k : List ℕ). Each (λ l. IsUnder k l) (edit_keys gs)) (ap (λ (x : Edit). x.key) (sym p) ∙ same) h.0) in cc)
one_edit e f (g ∷ gs) h (inr p) (inl q) same =
    absurd (let t : true ≡ false = sym (named_among e gs p)
    ∙ later_none e.key gs (subst (λ (k : List ℕ). Each (λ l. IsUnder k l) (edit_keys gs)) (ap (λ (x : Edit). x.key) (sym q) ∙ sym same) h.0) in cc)
one_edit e f (g ∷ gs) h (inr p) (inr q) same = one_edit e f gs h.1 p q same

some_of : (o : Option (List ℕ)) → is_some o ≡ true → (v : List ℕ) × (o ≡ Some v)
some_of None e = absurd cc
some_of (Some v) e = (v, refl)

-- the entries that the edits leave
abbrev pub is_left : (List ℕ → Bool) → List Edit → Entry → Bool
is_left p es x = p x.key && not (is_among (edit_keys es) x.key)

-- After edits one of these keys stands where one is put, or stood there and is left.
pub after_edits : (p : List ℕ → Bool) (es : List Edit) (xs : List Entry) → Rises (edit_keys es) → Rises (entry_keys xs)
    → list_any (λ x. p x.key) (change es xs) ≡ (list_any (λ e. is_some e.value && p e.key) es || list_any (is_left p es) xs)
after_edits p es xs he hx =
    one_truth (list_any (λ x. p x.key) (change es xs)) (list_any (λ e. is_some e.value && p e.key) es || list_any (is_left p es) xs) forth back
  where
    rises : Rises (entry_keys (change es xs))
    rises = rises_change es xs hx

    forth : list_any (λ x. p x.key) (change es xs) ≡ true → (list_any (λ e. is_some e.value && p e.key) es || list_any (is_left p es) xs) ≡ true
    forth t =
        let o = any_told (λ (x : Entry). p x.key) (change es xs) t in
        let x = o.one in
        let there : value_after x.key es (value_at x.key xs) ≡ Some x.value = sym (change_value x.key es xs) ∙ entry_value x (change es xs) rises o.there in
        elim (at_key x.key es (value_at x.key xs) he) [
          | inl q ↦ ap (λ (b : Bool). b || list_any (is_left p es) xs)
              (any_there (λ e. is_some e.value && p e.key) es q.0 q.1 (λ i. is_some ((sym q.3 ∙ there) i) && (ap p q.2 ∙ o.so) i))
          | inr q ↦ ap (λ (b : Bool). list_any (λ e. is_some e.value && p e.key) es || b)
              (any_there (is_left p es) xs x (value_entry x.key x.value xs (sym q.1 ∙ there)) (λ i. o.so i && not (q.0 i)))
              ∙ or_true (list_any (λ e. is_some e.value && p e.key) es)
        ]

    put : list_any (λ e. is_some e.value && p e.key) es ≡ true → list_any (λ x. p x.key) (change es xs) ≡ true
    put t =
        let o = any_told (λ (e : Edit). is_some e.value && p e.key) es t in
        let e = o.one in
        let told = both_true (is_some e.value) (p e.key) o.so in
        let v = some_of e.value told.0 in
        elim (at_key e.key es (value_at e.key xs) he) [
          | inl q ↦
              let same : q.0 ≡ e = one_edit q.0 e es he q.1 o.there q.2 in
              let there : value_at e.key (change es xs) ≡ Some v.0 = change_value e.key es xs ∙ q.3 ∙ ap (λ (f : Edit). f.value) same ∙ v.1 in
              any_there (λ (x : Entry). p x.key) (change es xs) (record { key = e.key; value = v.0 }) (value_entry e.key v.0 (change es xs) there) told.1
          | inr q ↦ absurd (let f : true ≡ false = sym (named_among e es o.there) ∙ q.0 in cc)
        ]

    kept : list_any (is_left p es) xs ≡ true → list_any (λ x. p x.key) (change es xs) ≡ true
    kept t =
        let o = any_told (is_left p es) xs t in
        let x = o.one in
        let told = both_true (p x.key) (not (is_among (edit_keys es) x.key)) o.so in
        elim (at_key x.key es (value_at x.key xs) he) [
          | inl q ↦ absurd (touched x (subst (λ (k : List ℕ). is_among (edit_keys es) k ≡ true) q.2 (named_among q.0 es q.1)) told.1)
          | inr q ↦
              let there : value_at x.key (change es xs) ≡ Some x.value = change_value x.key es xs ∙ q.1 ∙ entry_value x xs hx o.there in
              any_there (λ (y : Entry). p y.key) (change es xs) x (value_entry x.key x.value (change es xs) there) told.0
        ]
      where
        touched : (x : Entry) → is_among (edit_keys es) x.key ≡ true → not (is_among (edit_keys es) x.key) ≡ true → ⊥
        touched x e f = let g : false ≡ true = sym (ap not e) ∙ f in cc

    back : (list_any (λ e. is_some e.value && p e.key) es || list_any (is_left p es) xs) ≡ true → list_any (λ x. p x.key) (change es xs) ≡ true
    back t = elim (either_true (list_any (λ e. is_some e.value && p e.key) es) (list_any (is_left p es) xs) t) [ inl u ↦ put u | inr u ↦ kept u ]

-- ---- a range holds all that goes on from a front

pub in_range : (front id : List ℕ) (end : Option (List ℕ)) (q : List ℕ → Bool) (xs : List Entry) → IsEndOf front end
    → list_any (λ x. is_another front id x.key && q x.key) (window front end xs) ≡ list_any (λ x. is_another front id x.key && q x.key) xs
in_range front id end q [] ends = refl
in_range front id end q (x ∷ xs) ends = by (not (is_lt (key_cmp x.key front)) && is_within end x.key) refl (in_range front id end q xs ends)
  where
    test : Entry → Bool
    test x = is_another front id x.key && q x.key

    outside : (b : Bool) → is_another front id x.key ≡ b → (not (is_lt (key_cmp x.key front)) && is_within end x.key) ≡ false → (b && q x.key) ≡ false
    outside false e out = refl
    outside true e out =
        let there = another_told front id x.key e in
        let inside : (not (is_lt (key_cmp x.key front)) && is_within end x.key) ≡ true =
        ap (λ (k : List ℕ). not (is_lt (key_cmp k front)) && is_within end k) there.is ∙ (λ i. not (not_under_front front there.rest i) && ends there.rest i) in
        absurd (let f : true ≡ false = sym inside ∙ out in cc)

    by : (b : Bool) → (not (is_lt (key_cmp x.key front)) && is_within end x.key) ≡ b
        → list_any (λ x. is_another front id x.key && q x.key) (window front end xs) ≡ list_any (λ x. is_another front id x.key && q x.key) xs
        → list_any (λ x. is_another front id x.key && q x.key) (keep_if b x (window front end xs))
        ≡ ((is_another front id x.key && q x.key) || list_any (λ x. is_another front id x.key && q x.key) xs)
    by true is later = ap (λ (b : Bool). (is_another front id x.key && q x.key) || b) later
    by false is later =
        later ∙ sym (ap (λ (b : Bool). b || list_any (λ x. is_another front id x.key && q x.key) xs) (outside (is_another front id x.key) refl is))

-- ---- edits behind a front

not_another : (front id key : List ℕ) → ((rest : List ℕ) → key ≡ front ++ rest → ⊥) → is_another front id key ≡ false
not_another front id key never = by (is_another front id key) refl
  where
    by : (b : Bool) → is_another front id key ≡ b → is_another front id key ≡ false
    by true e = absurd (let there = another_told front id key e in never there.rest there.is)
    by false e = e

and_false : (a b : Bool) → b ≡ false → (a && b) ≡ false
and_false true b e = e
and_false false b e = refl

-- an edit below the front puts no such entry
pub below_front : (front id : List ℕ) (e : Edit) → is_lt (key_cmp e.key front) ≡ true → (is_some e.value && is_another front id e.key) ≡ false
below_front front id e below =
    and_false (is_some e.value) (is_another front id e.key) (not_another front id e.key (λ rest is.
    let f : true ≡ false = sym below ∙ ap (λ (k : List ℕ). is_lt (key_cmp k front)) is ∙ not_under_front front rest in cc))

-- behind a key that isn't below the front and doesn't go on from it no key goes on from it
pub none_behind : (front id key : List ℕ) (es : List Edit) → Each (λ l. IsUnder key l) (edit_keys es) → is_lt (key_cmp key front) ≡ false
    → starts_with nat_eq key front ≡ false
    → puts_another front id es ≡ false
none_behind front id key [] h above other = refl
none_behind front id key (e ∷ es) h above other =
    (λ i. first i || none_behind front id key es h.1 above other i)
  where
    first : (is_some e.value && is_another front id e.key) ≡ false
    first = and_false (is_some e.value) (is_another front id e.key) (not_another front id e.key (λ rest is.
        let there = goes_on_between front key rest above (ap (key_cmp key) (sym is) ∙ h.0) in
        let f : true ≡ false = sym (starts_there front there.rest) ∙ ap (λ (k : List ℕ). starts_with nat_eq k front) (sym there.is) ∙ other in cc))
