-- What is found in a cache after each of its calls.
use Rattle.std.proofs.Common.{◌≡◌, ◌≢◌, ℕ, zero, suc, ◌-◌, Bool, true, false, List, [], ◌∷◌, take, refl, sym, ap, ◌∙◌, subst, arith, inl, inr, cond}
use Rattle.std.specs.Prelude.{◌⊎◌, Option, Some, None, nat_eq, Result, Ok, Err, IsSome, IsOk, OnOk, OnErr}
use Rattle.std.specs.Map.{lookup, lookup_entry, remove_entry, keys_of}
use Rattle.std.specs.List.{IsDistinct}
use Rattle.std.specs.Option.{option_map_or}
use Rattle.std.proofs.lemmas.Bool.Decides.{nat_tests}
use Rattle.std.proofs.lemmas.Cmp.{nat_eq_equiv}
use Rattle.std.proofs.lemmas.Map.{lookup-remove_entry}
use Rattle.lru.specs.LruCache.{LruCache, lru_cache, promoted, put_entries}
use Rattle.lru.proofs.CallerLemmas.{Contains-lookup_entry, lookup-put_entries}

apart_tests : (p k n : ℕ) → k ≢ p → nat_eq p n ≡ true → nat_eq k n ≡ false
apart_tests p k n other is = grind (arith, nat_tests, other, is)

module _ {V : Type 0} where
  pub removed_other : (p k : ℕ) → k ≢ p → (es : List (ℕ × V)) → lookup (nat_eq k) (remove_entry (nat_eq p) es) ≡ lookup (nat_eq k) es
  removed_other p k other [] = refl
  removed_other p k other (e ∷ es) =
      (elim (nat_eq p e.0) as (λ b. nat_eq p e.0 ≡ b
      → lookup (nat_eq k) (cond b es (e ∷ remove_entry (nat_eq p) es)) ≡ cond (nat_eq k e.0) (Some e.1) (lookup (nat_eq k) es)) [
        | true ↦ λ t. ap (λ (b : Bool). cond b (Some e.1) (lookup (nat_eq k) es)) (sym (apart_tests p k e.0 other t))
        | false ↦ λ t. ap (λ (o : Option V). cond (nat_eq k e.0) (Some e.1) o) (removed_other p k other es)
      ]) refl

  pub removed_this : (p : ℕ) (es : List (ℕ × V)) → IsDistinct nat_eq (keys_of es) → lookup (nat_eq p) (remove_entry (nat_eq p) es) ≡ None
  removed_this p es distinct =
      let self : nat_eq p p ≡ true = grind (arith, nat_tests) in
      lookup-remove_entry nat_eq_equiv (nat_eq p) (λ x y t. same_tests p x y t) p es distinct
      ∙ ap (λ (b : Bool). cond b None (lookup (nat_eq p) es)) self
    where
      same_tests : (p x y : ℕ) → nat_eq p x ≡ true → nat_eq p y ≡ nat_eq x y
      same_tests p x y t = let e : p ≡ x = grind (arith, nat_tests, t) in ap (λ (n : ℕ). nat_eq n y) e

  found_value : (p : ℕ) (es : List (ℕ × V)) (e : ℕ × V) → lookup_entry (nat_eq p) es ≡ Some e → lookup (nat_eq p) es ≡ Some e.1
  found_value p [] e is = cc
  found_value p (f ∷ es) e is =
      (elim (nat_eq p f.0) as (λ b. cond b (Some f) (lookup_entry (nat_eq p) es) ≡ Some e → cond b (Some f.1) (lookup (nat_eq p) es) ≡ Some e.1) [
        | true ↦ λ t. let same : f ≡ e = cc in ap (λ (x : ℕ × V). Some x.1) same
        | false ↦ λ t. found_value p es e t
      ]) is

  front_same : (p k : ℕ) (es : List (ℕ × V)) (e : ℕ × V) → lookup_entry (nat_eq p) es ≡ Some e
      → cond (nat_eq k e.0) (Some e.1) (lookup (nat_eq k) (remove_entry (nat_eq p) es)) ≡ lookup (nat_eq k) es
  front_same p k es e is =
      let here : nat_eq p e.0 ≡ true = (Contains-lookup_entry (nat_eq p) es e is).1 in
      (elim (nat_eq k p) as (λ b. nat_eq k p ≡ b → cond (nat_eq k e.0) (Some e.1) (lookup (nat_eq k) (remove_entry (nat_eq p) es)) ≡ lookup (nat_eq k) es) [
        | true ↦ λ t.
            let same : p ≡ k = grind (arith, nat_tests, t) in
            let at : nat_eq k e.0 ≡ true = subst (λ (n : ℕ). nat_eq n e.0 ≡ true) same here in
            ap (λ (b : Bool). cond b (Some e.1) (lookup (nat_eq k) (remove_entry (nat_eq p) es))) at
            ∙ sym (subst (λ (n : ℕ). lookup (nat_eq n) es ≡ Some e.1) same (found_value p es e is))
        | false ↦ λ t.
            let other : k ≢ p = λ e. grind (arith, nat_tests, t, e) in
            ap (λ (b : Bool). cond b (Some e.1) (lookup (nat_eq k) (remove_entry (nat_eq p) es))) (apart_tests p k e.0 other here)
            ∙ removed_other p k other es
      ]) refl

  promoted_by : (p k : ℕ) (es : List (ℕ × V)) (o : Option (ℕ × V)) → lookup_entry (nat_eq p) es ≡ o
      → lookup (nat_eq k) (option_map_or (λ e. e ∷ remove_entry (nat_eq p) es) o es) ≡ lookup (nat_eq k) es
  promoted_by p k es None is = refl
  promoted_by p k es (Some e) is = front_same p k es e is

  pub promoted_same : (p k : ℕ) (es : List (ℕ × V)) → lookup (nat_eq k) (promoted (nat_eq p) es) ≡ lookup (nat_eq k) es
  promoted_same p k es = promoted_by p k es (lookup_entry (nat_eq p) es) refl

  taken : (k n : ℕ) (es : List (ℕ × V)) → (lookup (nat_eq k) (take n es) ≡ lookup (nat_eq k) es) ⊎ (lookup (nat_eq k) (take n es) ≡ None)
  taken k zero es = inr refl
  taken k (suc n) [] = inl refl
  taken k (suc n) (e ∷ es) = elim (taken k n es) [
    | inl same ↦ inl (ap (λ (o : Option V). cond (nat_eq k e.0) (Some e.1) o) same)
    | inr none ↦ elim (nat_eq k e.0) as
        (λ b. (cond b (Some e.1) (lookup (nat_eq k) (take n es)) ≡ cond b (Some e.1) (lookup (nat_eq k) es))
        ⊎ (cond b (Some e.1) (lookup (nat_eq k) (take n es)) ≡ None)) [ true ↦ inl refl | false ↦ inr none ]
  ]

  put_by : (p k : ℕ) (v : V) (n : ℕ) (es : List (ℕ × V)) → k ≢ p → (o : Option (ℕ × V)) → lookup_entry (nat_eq p) es ≡ o
      → (lookup (nat_eq k) (option_map_or (λ e. (e.0, v) ∷ remove_entry (nat_eq p) es) o ((p, v) ∷ take n es)) ≡ lookup (nat_eq k) es)
      ⊎ (lookup (nat_eq k) (option_map_or (λ e. (e.0, v) ∷ remove_entry (nat_eq p) es) o ((p, v) ∷ take n es)) ≡ None)
  put_by p k v n es other None is =
      let t : nat_eq k p ≡ false = grind (arith, nat_tests, other) in
      let skip : cond (nat_eq k p) (Some v) (lookup (nat_eq k) (take n es)) ≡ lookup (nat_eq k) (take n es) =
      ap (λ (b : Bool). cond b (Some v) (lookup (nat_eq k) (take n es))) t in
      elim (taken k n es) [ inl same ↦ inl (skip ∙ same) | inr none ↦ inr (skip ∙ none) ]
  put_by p k v n es other (Some e) is =
      let here : nat_eq p e.0 ≡ true = (Contains-lookup_entry (nat_eq p) es e is).1 in
      inl (ap (λ (b : Bool). cond b (Some v) (lookup (nat_eq k) (remove_entry (nat_eq p) es))) (apart_tests p k e.0 other here) ∙ removed_other p k other es)

  pub put_others : (p k : ℕ) (v : V) (c : LruCache ℕ V) → k ≢ p
      → (lookup (nat_eq k) (put_entries nat_eq c p v) ≡ lookup (nat_eq k) c.entries) ⊎ (lookup (nat_eq k) (put_entries nat_eq c p v) ≡ None)
  put_others p k v c other = put_by p k v (c.cap - 1) c.entries other (lookup_entry (nat_eq p) c.entries) refl

  not_there : (o : Option V) → (IsSome o → ⊥) → o ≡ None
  not_there None none = refl
  not_there (Some v) none = absurd (none refl)

  -- after a put that may have found no memory
  pub put_this_by : {E : Type 0} (r : Result (Option V) E) (old new : LruCache ℕ V) (p : ℕ) (v : V)
      → OnOk r (new ≡ lru_cache (put_entries nat_eq old p v) old.cap) → OnErr r (new ≡ old)
      → (IsSome (lookup (nat_eq p) old.entries) → IsOk r) → (lookup (nat_eq p) new.entries ≡ Some v) ⊎ (lookup (nat_eq p) new.entries ≡ None)
  put_this_by (Ok o) old new p v is same there =
      inl (ap (λ (c : LruCache ℕ V). lookup (nat_eq p) c.entries) is ∙ lookup-put_entries nat_eq old p v nat_eq_equiv)
  put_this_by (Err e) old new p v is same there =
      inr (ap (λ (c : LruCache ℕ V). lookup (nat_eq p) c.entries) same ∙ not_there (lookup (nat_eq p) old.entries) (λ some. let no_ok = there some in cc))

  pub put_others_by : {E : Type 0} (r : Result (Option V) E) (old new : LruCache ℕ V) (p k : ℕ) (v : V)
      → OnOk r (new ≡ lru_cache (put_entries nat_eq old p v) old.cap) → OnErr r (new ≡ old)
      → k ≢ p → (lookup (nat_eq k) new.entries ≡ lookup (nat_eq k) old.entries) ⊎ (lookup (nat_eq k) new.entries ≡ None)
  put_others_by (Ok o) old new p k v is same other =
      let at = ap (λ (c : LruCache ℕ V). lookup (nat_eq k) c.entries) is in
      elim (put_others p k v old other) [ inl as_before ↦ inl (at ∙ as_before) | inr none ↦ inr (at ∙ none) ]
  put_others_by (Err e) old new p k v is same other = inl (ap (λ (c : LruCache ℕ V). lookup (nat_eq k) c.entries) same)
