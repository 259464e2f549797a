-- An edit more in a list of edits by their keys.
use Rattle.std.proofs.Common.{◌≡◌, ℕ, Bool, true, false, List, [], ◌∷◌, Option, Result, Ok, Err, refl, sym, ap, subst, ◌∙◌}
use Rattle.std.specs.Prelude.{if◌then◌else◌, OnOk, OnErr}
use Rattle.std.specs.declared.cmp.Ordering.{Ordering}
use Rattle.std.specs.declared.cmp.Ordering.TheVariants.{Less, Equal, Greater}
use Rattle.std.specs.Ordering.{is_eq, ordering_reverse}
use Rattle.std.specs.Cmp.Lexicographic.{nat_list_cmp_total}
use Rattle.std.proofs.lemmas.Map.Lookups.{exact_bytes}
use Rattle.tree_model.specs.Keys.{edit_keys}
use Rattle.tree_model.specs.Keys.{Each, Edit, Entry, IsUnder, Rises, change, edit_map, key_cmp, value_at}
use Rattle.entries.specs.EditList.{Noted, edits_in, with_edit, IsEditList, IsShortEdit, LeadsWith}
use Rattle.entry_model.specs.State.{by_order}
use Rattle.entry_model.specs.StateEntries.{Spells, entry_keys}
use Rattle.entries.proofs.EditLemmas.{same_key, turned, value_after, change_value, edit_value, rises_change, one_map}

-- ---- keys go on rising

below_all : (j k : List ℕ) (fs : List Edit) → IsUnder j k → Each (λ l. IsUnder k l) (edit_keys fs) → Each (λ l. IsUnder j l) (edit_keys fs)
below_all j k [] e h = tt
below_all j k (f ∷ fs) e h = (nat_list_cmp_total.trans j k f.key e h.0, below_all j k fs e h.1)

with_below : (j : List ℕ) (e : Edit) (fs : List Edit) → IsUnder j e.key → Each (λ l. IsUnder j l) (edit_keys fs)
    → Each (λ l. IsUnder j l) (edit_keys (with_edit e fs))
with_below j e [] under h = (under, tt)
with_below j e (f ∷ fs) under h = by (key_cmp e.key f.key) (with_below j e fs under h.1)
  where
    by : (o : Ordering) → Each (λ l. IsUnder j l) (edit_keys (with_edit e fs))
        → Each (λ l. IsUnder j l) (edit_keys (by_order o (e ∷ f ∷ fs) (e ∷ fs) (f ∷ with_edit e fs)))
    by Less later = (under, h)
    by Equal later = (under, h.1)
    by Greater later = (h.0, later)

pub with_rises : (e : Edit) (fs : List Edit) → Rises (edit_keys fs) → Rises (edit_keys (with_edit e fs))
with_rises e [] h = (tt, tt)
with_rises e (f ∷ fs) h = by (key_cmp e.key f.key) refl (with_rises e fs h.1)
  where
    by : (o : Ordering) → key_cmp e.key f.key ≡ o → Rises (edit_keys (with_edit e fs))
        → Rises (edit_keys (by_order o (e ∷ f ∷ fs) (e ∷ fs) (f ∷ with_edit e fs)))
    by Less under later = ((under, below_all e.key f.key fs under h.0), h)
    by Equal same later = (subst (λ (k : List ℕ). Each (λ l. IsUnder k l) (edit_keys fs)) (sym (exact_bytes e.key f.key same)) h.0, h.1)
    by Greater over later = (with_below f.key e fs (turned f.key e.key ∙ ap ordering_reverse over) h.0, later)

with_short : (e : Edit) (fs : List Edit) → IsShortEdit e → Each IsShortEdit fs → Each IsShortEdit (with_edit e fs)
with_short e [] here h = (here, tt)
with_short e (f ∷ fs) here h = by (key_cmp e.key f.key) (with_short e fs here h.1)
  where
    by : (o : Ordering) → Each IsShortEdit (with_edit e fs) → Each IsShortEdit (by_order o (e ∷ f ∷ fs) (e ∷ fs) (f ∷ with_edit e fs))
    by Less later = (here, h)
    by Equal later = (here, h.1)
    by Greater later = (h.0, later)

pub with_lawful : (e : Edit) (fs : List Edit) → IsShortEdit e → IsEditList fs → IsEditList (with_edit e fs)
with_lawful e fs here h = record { rises = with_rises e fs h.rises; short = with_short e fs here h.short }

-- ---- what the list makes of a map

-- edits above a key leave what stands there
pub untouched : (k : List ℕ) (fs : List Edit) (v : Option (List ℕ)) → Each (λ l. IsUnder k l) (edit_keys fs) → value_after k fs v ≡ v
untouched k [] v h = refl
untouched k (f ∷ fs) v h =
    ap (λ (o : Ordering). value_after k fs (if is_eq o then f.value else v)) (turned f.key k ∙ ap ordering_reverse h.0) ∙ untouched k fs v h.1

with_value : (k : List ℕ) (e : Edit) (fs : List Edit) (v : Option (List ℕ)) → Rises (edit_keys fs)
    → value_after k (with_edit e fs) v ≡ (if is_eq (key_cmp e.key k) then e.value else value_after k fs v)
with_value k e [] v h = refl
with_value k e (f ∷ fs) v h = by (key_cmp e.key f.key) refl (with_value k e fs (if is_eq (key_cmp f.key k) then f.value else v) h.1)
  where
    rest : Option (List ℕ)
    rest = value_after k fs (if is_eq (key_cmp f.key k) then f.value else v)

    first : (o : Ordering) → key_cmp e.key f.key ≡ o → o ≡ Less → (s : Bool) → is_eq (key_cmp e.key k) ≡ s
        → value_after k fs (if is_eq (key_cmp f.key k) then f.value else (if s then e.value else v)) ≡ (if s then e.value else rest)
    first o is under true at_e =
        let same : e.key ≡ k = same_key e.key k at_e in
        let less : IsUnder e.key f.key = is ∙ under in
        untouched k (f ∷ fs) e.value (subst (λ (m : List ℕ). Each (λ l. IsUnder m l) (edit_keys (f ∷ fs))) same (less, below_all e.key f.key fs less h.0))
    first o is under false at_e = refl

    tied : key_cmp e.key f.key ≡ Equal → (s : Bool) → is_eq (key_cmp e.key k) ≡ s → value_after k fs (if s then e.value else v) ≡ (if s then e.value else rest)
    tied same true at_e =
        let here : f.key ≡ k = sym (exact_bytes e.key f.key same) ∙ same_key e.key k at_e in
        untouched k fs e.value (subst (λ (m : List ℕ). Each (λ l. IsUnder m l) (edit_keys fs)) here h.0)
    tied same false at_e =
        let other : is_eq (key_cmp f.key k) ≡ false = ap (λ (m : List ℕ). is_eq (key_cmp m k)) (sym (exact_bytes e.key f.key same)) ∙ at_e in
        ap (λ (b : Bool). value_after k fs (if b then f.value else v)) (sym other)

    by : (o : Ordering) → key_cmp e.key f.key ≡ o
        → value_after k (with_edit e fs) (if is_eq (key_cmp f.key k) then f.value else v) ≡ (if is_eq (key_cmp e.key k) then e.value else rest)
        → value_after k (by_order o (e ∷ f ∷ fs) (e ∷ fs) (f ∷ with_edit e fs)) v ≡ (if is_eq (key_cmp e.key k) then e.value else rest)
    by Less is later = first Less is refl (is_eq (key_cmp e.key k)) refl
    by Equal is later = tied is (is_eq (key_cmp e.key k)) refl
    by Greater is later = later

-- the edit more is made of the map that the others make
pub with_change : (e : Edit) (fs : List Edit) (xs : List Entry) → Rises (edit_keys fs) → Rises (entry_keys xs)
    → change (with_edit e fs) xs ≡ edit_map e (change fs xs)
with_change e fs xs up h =
    one_map (change (with_edit e fs) xs) (change (e ∷ []) (change fs xs)) (rises_change (with_edit e fs) xs h)
    (rises_change (e ∷ []) (change fs xs) (rises_change fs xs h))
    (λ k. change_value k (with_edit e fs) xs ∙ with_value k e fs (value_at k xs) up
    ∙ ap (λ (w : Option (List ℕ)). if is_eq (key_cmp e.key k) then e.value else w) (sym (change_value k fs xs)) ∙ sym (edit_value k e (change fs xs)))

pub leads_with : (e : Edit) (fs : List Edit) → Rises (edit_keys fs) → LeadsWith fs e (with_edit e fs)
leads_with e fs up a b c first second xs h =
    subst (λ (ys : List Entry). Spells ys c) (sym (with_change e fs xs up h.rises)) (second (change fs xs) (first xs h))

-- ---- noted, or left where memory ran out

pub noted_lawful : {A E : Type 0} (r : Result A E) (e : Edit) (xs ys : List Noted) → IsShortEdit e → IsEditList (edits_in xs)
    → OnOk r (edits_in ys ≡ with_edit e (edits_in xs)) → OnErr r (ys ≡ xs) → IsEditList (edits_in ys)
noted_lawful (Ok a) e xs ys short h ok err = subst IsEditList (sym ok) (with_lawful e (edits_in xs) short h)
noted_lawful (Err f) e xs ys short h ok err = subst IsEditList (sym (ap (λ (zs : List Noted). edits_in zs) err)) h

pub noted_leads : {A E : Type 0} (r : Result A E) (e : Edit) (xs ys : List Noted) (old : List Edit) → IsEditList (edits_in xs) → edits_in xs ≡ old
    → OnOk r (edits_in ys ≡ with_edit e (edits_in xs)) → OnOk r (LeadsWith old e (edits_in ys))
noted_leads (Ok a) e xs ys old h view ok =
    subst (λ (es : List Edit). LeadsWith es e (edits_in ys)) view
    (subst (λ (es : List Edit). LeadsWith (edits_in xs) e es) (sym ok) (leads_with e (edits_in xs) h.rises))
noted_leads (Err f) e xs ys old h view ok = ok
