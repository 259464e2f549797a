-- Which edits lead from one state to another: some entries are removed, and others are put.
use Rattle.std.proofs.Common.{◌≡◌, ℕ, Bool, true, false, List, [], ◌∷◌, ◌++◌, Option, Some, None, ◌⊎◌, inl, inr, refl, sym, ap, subst, ◌∙◌}
use Rattle.std.specs.Prelude.{if◌then◌else◌}
use Rattle.std.specs.Ordering.{is_eq}
use Rattle.tree_model.specs.Keys.{Entry, Each, IsUnder, Rises, key_cmp, change, value_at}
use Rattle.entry_model.specs.State.{Collection}
use Rattle.entry_model.specs.StateEntries.{Leads, entry_keys, state_entries, puts, removals}
use Rattle.entries.proofs.EditLemmas.{same_key, key_itself, not_under_itself, value_after, change_value, rises_change, entry_is}
use Rattle.entries.proofs.EditOrderLaws.{after_append}
use Rattle.entry_model.proofs.MemberLemmas.{Among, among_of, contains_of}

-- no two of them have one key
abbrev pub IsMap : List Entry → Type 0
IsMap xs = (x y : Entry) → Among x xs → Among y xs → x.key ≡ y.key → x ≡ y

abbrev pub HasKey : List ℕ → List Entry → Type 0
HasKey k xs = (x : Entry) × Among x xs × (x.key ≡ k)

-- ---- a map's values and its entries

pub value_entry : (k v : List ℕ) (xs : List Entry) → value_at k xs ≡ Some v → Among (record { key = k; value = v }) xs
value_entry k v [] e = absurd cc
value_entry k v (x ∷ xs) e = by (is_eq (key_cmp x.key k)) refl e (value_entry k v xs)
  where
    by : (b : Bool) → is_eq (key_cmp x.key k) ≡ b → (if b then Some x.value else value_at k xs) ≡ Some v
        → (value_at k xs ≡ Some v → Among (record { key = k; value = v }) xs) → Among (record { key = k; value = v }) (x ∷ xs)
    by true same is later = let value : x.value ≡ v = some_is is in inl (entry_is (record { key = k; value = v }) x (sym (same_key x.key k same)) (sym value))
      where
        some_is : {a b : List ℕ} → Some a ≡ Some b → a ≡ b
        some_is p = cc
    by false other is later = inr (later is)

each_among : (P : List ℕ → Type 0) (xs : List Entry) (x : Entry) → Each P (entry_keys xs) → Among x xs → P x.key
each_among P [] x h g = absurd g
each_among P (y ∷ ys) x h (inl e) = subst (λ (z : Entry). P z.key) (sym e) h.0
each_among P (y ∷ ys) x h (inr g) = each_among P ys x h.1 g

pub entry_value : (x : Entry) (xs : List Entry) → Rises (entry_keys xs) → Among x xs → value_at x.key xs ≡ Some x.value
entry_value x [] h g = absurd g
entry_value x (y ∷ ys) h (inl e) =
    ap (λ (b : Bool). if b then Some y.value else value_at x.key ys) (ap (λ (z : Entry). is_eq (key_cmp z.key x.key)) (sym e) ∙ key_itself x.key)
    ∙ ap (λ (z : Entry). Some z.value) (sym e)
entry_value x (y ∷ ys) h (inr g) = by (is_eq (key_cmp y.key x.key)) refl (entry_value x ys h.1 g)
  where
    by : (b : Bool) → is_eq (key_cmp y.key x.key) ≡ b → value_at x.key ys ≡ Some x.value → (if b then Some y.value else value_at x.key ys) ≡ Some x.value
    by true same later =
        let under : IsUnder y.key x.key = each_among (λ z. IsUnder y.key z) ys x h.0 g in
        absurd (not_under_itself x.key (subst (λ z. IsUnder z x.key) (same_key y.key x.key same) under))
    by false other later = later

-- ---- the values after removals and after puts

abbrev AfterRemovals : List ℕ → List Entry → Option (List ℕ) → Type 0
AfterRemovals k gone v =
    (HasKey k gone × (value_after k (removals gone) v ≡ None)) ⊎ ((HasKey k gone → ⊥) × (value_after k (removals gone) v ≡ v))

later_key : (k : List ℕ) (x : Entry) (xs : List Entry) → HasKey k xs → HasKey k (x ∷ xs)
later_key k x xs h = (h.0, inr h.1, h.2)

not_here : (k : List ℕ) (x : Entry) (xs : List Entry) → is_eq (key_cmp x.key k) ≡ false → (HasKey k xs → ⊥) → HasKey k (x ∷ xs) → ⊥
not_here k x xs other rest h = by h.1
  where
    by : Among h.0 (x ∷ xs) → ⊥
    by (inl e) = let g : true ≡ false = sym (key_itself k) ∙ ap (λ (m : List ℕ). is_eq (key_cmp m k)) (sym h.2 ∙ ap (λ (y : Entry). y.key) e) ∙ other in cc
    by (inr g) = rest (h.0, g, h.2)

after_removals : (k : List ℕ) (gone : List Entry) (v : Option (List ℕ)) → AfterRemovals k gone v
after_removals k [] v = inr (λ h. h.1, refl)
after_removals k (g ∷ gs) v = by (is_eq (key_cmp g.key k)) refl (after_removals k gs (if is_eq (key_cmp g.key k) then None else v))
  where
    by : (b : Bool) → is_eq (key_cmp g.key k) ≡ b → AfterRemovals k gs (if is_eq (key_cmp g.key k) then None else v) → AfterRemovals k (g ∷ gs) v
    by b is (inl found) = inl (later_key k g gs found.0, found.1)
    by true is (inr none) = inl ((g, inl refl, same_key g.key k is), none.1 ∙ ap (λ (c : Bool). if c then None else v) is)
    by false is (inr none) = inr (not_here k g gs is none.0, none.1 ∙ ap (λ (c : Bool). if c then None else v) is)

abbrev AfterPuts : List ℕ → List Entry → Option (List ℕ) → Type 0
AfterPuts k new v =
    ((x : Entry) × Among x new × (x.key ≡ k) × (value_after k (puts new) v ≡ Some x.value)) ⊎ ((HasKey k new → ⊥) × (value_after k (puts new) v ≡ v))

after_puts : (k : List ℕ) (new : List Entry) (v : Option (List ℕ)) → AfterPuts k new v
after_puts k [] v = inr (λ h. h.1, refl)
after_puts k (g ∷ gs) v = by (is_eq (key_cmp g.key k)) refl (after_puts k gs (if is_eq (key_cmp g.key k) then Some g.value else v))
  where
    by : (b : Bool) → is_eq (key_cmp g.key k) ≡ b → AfterPuts k gs (if is_eq (key_cmp g.key k) then Some g.value else v) → AfterPuts k (g ∷ gs) v
    by b is (inl found) = inl (found.0, inr found.1, found.2, found.3)
    by true is (inr none) = inl (g, inl refl, same_key g.key k is, none.1 ∙ ap (λ (c : Bool). if c then Some g.value else v) is)
    by false is (inr none) = inr (not_here k g gs is none.0, none.1 ∙ ap (λ (c : Bool). if c then Some g.value else v) is)

-- ---- an exchange of entries

-- Of the one list's entries those that are gone or whose key is put again may be missing in the other, which has those that are put, and else
-- only the one's, of which none has the key of one that is gone.
pub record Exchanges (gone new old now : List Entry) : Type 0 where
  pub is_map : IsMap now
  pub put : (x : Entry) → Among x new → Among x now
  pub left : (x : Entry) → Among x old → HasKey x.key gone ⊎ (HasKey x.key new ⊎ Among x now)
  pub from : (x : Entry) → Among x now → Among x new ⊎ Among x old
  pub away : (x : Entry) → Among x now → HasKey x.key gone → Among x new

none_some : {v : List ℕ} (o : Option (List ℕ)) → o ≡ None → o ≡ Some v → ⊥
none_some o e f = let g = sym e ∙ f in cc

same_some : {v w : List ℕ} → Some v ≡ Some w → v ≡ w
same_some e = cc

key_of_itself : (x : Entry) (xs : List Entry) → Among x xs → HasKey x.key xs
key_of_itself x xs h = (x, h, refl)

module _ (gone new old now xs : List Entry) (rises : Rises (entry_keys xs)) (to : (x : Entry) → Among x xs → Among x old) (back : (x : Entry) → Among x old
    → Among x xs) (h : Exchanges gone new old now) where
  kept_one : (x : Entry) → (HasKey x.key new → ⊥) → (HasKey x.key gone → ⊥) → value_at x.key xs ≡ Some x.value → Among x now
  kept_one x not_new not_gone is = by (h.left x (to x (value_entry x.key x.value xs is)))
    where
      by : HasKey x.key gone ⊎ (HasKey x.key new ⊎ Among x now) → Among x now
      by (inl g) = absurd (not_gone g)
      by (inr (inl g)) = absurd (not_new g)
      by (inr (inr g)) = g

  made_one : (x : Entry) → value_after x.key (puts new) (value_after x.key (removals gone) (value_at x.key xs)) ≡ Some x.value → Among x now
  made_one x is = by (after_puts x.key new (value_after x.key (removals gone) (value_at x.key xs))) (after_removals x.key gone (value_at x.key xs))
    where
      by : AfterPuts x.key new (value_after x.key (removals gone) (value_at x.key xs)) → AfterRemovals x.key gone (value_at x.key xs) → Among x now
      by (inl put) r =
          let one : put.0 ≡ x = entry_is put.0 x put.2 (same_some (sym put.3 ∙ is)) in
          subst (λ (y : Entry). Among y now) one (h.put put.0 put.1)
      by (inr none) (inl removed) = absurd (none_some (value_after x.key (removals gone) (value_at x.key xs)) removed.1 (sym none.1 ∙ is))
      by (inr none) (inr stays) = kept_one x none.0 stays.0 (sym (none.1 ∙ stays.1) ∙ is)

  stays_one : (x : Entry) → Among x now → value_after x.key (puts new) (value_after x.key (removals gone) (value_at x.key xs)) ≡ Some x.value
  stays_one x there =
      by (after_puts x.key new (value_after x.key (removals gone) (value_at x.key xs))) (after_removals x.key gone (value_at x.key xs)) (h.from x there)
    where
      by : AfterPuts x.key new (value_after x.key (removals gone) (value_at x.key xs)) → AfterRemovals x.key gone (value_at x.key xs)
          → Among x new ⊎ Among x old
          → value_after x.key (puts new) (value_after x.key (removals gone) (value_at x.key xs)) ≡ Some x.value
      by (inl put) r f = put.3 ∙ ap (λ (y : Entry). Some y.value) (h.is_map put.0 x (h.put put.0 put.1) there put.2)
      by (inr none) (inl removed) f = absurd (none.0 (key_of_itself x new (h.away x there removed.0)))
      by (inr none) (inr stays) (inl put) = absurd (none.0 (key_of_itself x new put))
      by (inr none) (inr stays) (inr was) = none.1 ∙ stays.1 ∙ entry_value x xs rises (back x was)

  both_steps : (x : Entry)
      → value_at x.key (change (removals gone ++ puts new) xs) ≡ value_after x.key (puts new) (value_after x.key (removals gone) (value_at x.key xs))
  both_steps x = change_value x.key (removals gone ++ puts new) xs ∙ after_append x.key (removals gone) (puts new) (value_at x.key xs)

  exchanged_to : (x : Entry) → Among x (change (removals gone ++ puts new) xs) → Among x now
  exchanged_to x g =
      made_one x (sym (both_steps x) ∙ entry_value x (change (removals gone ++ puts new) xs) (rises_change (removals gone ++ puts new) xs rises) g)

  exchanged_from : (x : Entry) → Among x now → Among x (change (removals gone ++ puts new) xs)
  exchanged_from x g = value_entry x.key x.value (change (removals gone ++ puts new) xs) (both_steps x ∙ stays_one x g)

pub exchange_leads : (gone new : List Entry) (a b : List Collection) → Exchanges gone new (state_entries a) (state_entries b)
    → Leads (removals gone ++ puts new) a b
exchange_leads gone new a b h xs s =
    let to : (x : Entry) → Among x xs → Among x (state_entries a) = λ x g. among_of (state_entries a) x ((s.same x).0 (contains_of xs x g)) in
    let back : (x : Entry) → Among x (state_entries a) → Among x xs = λ x g. among_of xs x ((s.same x).1 (contains_of (state_entries a) x g)) in
    let now : List Entry = change (removals gone ++ puts new) xs in
    record {
      rises = rises_change (removals gone ++ puts new) xs s.rises;
      same = λ x. (
        λ g. contains_of (state_entries b) x (exchanged_to gone new (state_entries a) (state_entries b) xs s.rises to back h x (among_of now x g)),
        λ g. contains_of now x (exchanged_from gone new (state_entries a) (state_entries b) xs s.rises to back h x (among_of (state_entries b) x g)),
      );
    }
