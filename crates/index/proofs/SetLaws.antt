-- The laws of sets of keys, and of what changes.
use Rattle.std.proofs.Common.{◌≡◌, ℕ, Bool, true, false, not, ◌||◌, ◌&&◌, List, [], ◌∷◌, ◌++◌, refl, sym, ap, ◌∙◌}
use Rattle.std.specs.Prelude.{cond}
use Rattle.std.specs.Ordering.{eq_by_cmp, is_eq}
use Rattle.std.specs.declared.cmp.Ordering.{Ordering}
use Rattle.std.specs.declared.cmp.Ordering.TheVariants.{Less, Equal, Greater}
use Rattle.std.proofs.lemmas.List.Folds.{list_any-append}
use Rattle.std.proofs.lemmas.Map.Lookups.{exact_bytes}
use Rattle.value_order.specs.Order.{bytes_cmp}
use Rattle.index.specs.KeyTexts.{ascending_set}
use Rattle.index.specs.Changes.{is_among, without}
use Rattle.index.specs.Laws.{SetAscends, ChangesLead}
use Rattle.index.proofs.SetLemmas.{one_list, set_sorted, set_among, same_itself}

pub set_ascends : SetAscends
set_ascends keys = (
  set_sorted keys,
  set_among keys,
  λ others up same. one_list others (ascending_set keys) up (set_sorted keys) (λ key. same key ∙ sym (set_among keys key)),
)

-- ---- changes

same_member : (ks : List (List ℕ)) (k l : List ℕ) → is_eq (bytes_cmp k l) ≡ true → is_among ks l ≡ is_among ks k
same_member ks k l e = ap (is_among ks) (sym (exact_bytes k l (tie (bytes_cmp k l) e)))
  where
    tie : (o : Ordering) → is_eq o ≡ true → o ≡ Equal
    tie Less e = absurd cc
    tie Equal e = refl
    tie Greater e = absurd cc

and_false : (a : Bool) → (a && false) ≡ false
and_false true = refl
and_false false = refl

pub not_among : (keys others : List (List ℕ)) (key : List ℕ) → is_among (without keys others) key ≡ (is_among keys key && not (is_among others key))
not_among [] others key = refl
not_among (k ∷ ks) others key = by (is_among others k) refl (eq_by_cmp bytes_cmp key k) refl (not_among ks others key)
  where
    by : (b : Bool) → is_among others k ≡ b → (tie : Bool) → eq_by_cmp bytes_cmp key k ≡ tie
        → is_among (without ks others) key ≡ (is_among ks key && not (is_among others key))
        → is_among (cond (not b) (k ∷ without ks others) (without ks others)) key ≡ ((tie || is_among ks key) && not (is_among others key))
    by true there true e later =
        let told : is_among others key ≡ true = sym (same_member others key k e) ∙ there in
        later ∙ ap (λ (b : Bool). is_among ks key && not b) told ∙ and_false (is_among ks key) ∙ sym (ap not told)
    by true there false e later = later
    by false absent true e later =
        let told : is_among others key ≡ false = sym (same_member others key k e) ∙ absent in
        ap (λ (b : Bool). b || is_among (without ks others) key) e ∙ sym (ap not told)
    by false absent false e later = ap (λ (b : Bool). b || is_among (without ks others) key) e ∙ later

-- what stays of the old ones, and the new ones that weren't there
both_parts : (o n : Bool) → ((o && not (o && not n)) || (n && not o)) ≡ n
both_parts true true = refl
both_parts true false = refl
both_parts false true = refl
both_parts false false = refl

none_left : (keys others : List (List ℕ)) → ((k : List ℕ) → is_among keys k ≡ true → is_among others k ≡ true) → without keys others ≡ []
none_left [] others there = refl
none_left (k ∷ ks) others there =
    ap (λ (b : Bool). cond (not b) (k ∷ without ks others) (without ks others)) (there k (ap (λ (b : Bool). b || is_among ks k) (same_itself k)))
    ∙ none_left ks others (λ l e. there l (ap (λ (b : Bool). eq_by_cmp bytes_cmp l k || b) e ∙ or_true (eq_by_cmp bytes_cmp l k)))
  where
    or_true : (a : Bool) → (a || true) ≡ true
    or_true true = refl
    or_true false = refl

pub changes_lead : ChangesLead
changes_lead old new up =
    let left = without old (without old new) in
    let added = without new old in (
      one_list (ascending_set (left ++ added)) new (set_sorted (left ++ added)) up (λ key.
          set_among (left ++ added) key ∙ list_any-append (eq_by_cmp bytes_cmp key) left added
          ∙ (λ i. not_among old (without old new) key i || not_among new old key i)
          ∙ ap (λ (b : Bool). (is_among old key && not b) || (is_among new key && not (is_among old key))) (not_among old new key)
          ∙ both_parts (is_among old key) (is_among new key)),
      none_left new new (λ k e. e),
    )
