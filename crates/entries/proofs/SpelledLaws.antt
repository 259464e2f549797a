-- A lawful state is spelled by one map.
use Rattle.std.proofs.Common.{◌≡◌, ℕ, List, [], Option, Some, None, inl, refl, sym, ◌∙◌}
use Rattle.tree_model.specs.Keys.{Entry, Rises, change, value_at}
use Rattle.entry_model.specs.State.{Collection}
use Rattle.entry_model.specs.StateEntries.{Spells, entry_keys, state_entries, puts}
use Rattle.entry_model.specs.LawfulState.{IsLawfulState}
use Rattle.entry_model.specs.StateLaws.{SpelledOnce}
use Rattle.entries.proofs.EditLemmas.{one_map}
use Rattle.entry_model.proofs.MemberLemmas.{Among, among_of, contains_of}
use Rattle.entries.proofs.ExchangeLaws.{value_entry, entry_value, exchange_leads}
use Rattle.entries.proofs.HomeLemmas.{is_map}

nothing : Spells [] []
nothing = record { rises = tt; same = λ x. (λ h. h, λ h. h) }

pub is_spelled : (cs : List Collection) → IsLawfulState cs → Spells (change (puts (state_entries cs)) []) cs
is_spelled cs h =
    exchange_leads [] (state_entries cs) [] cs (record {
      is_map = is_map cs h;
      put = λ x p. p;
      left = λ x p. absurd p;
      from = λ x p. inl p;
      away = λ x p k. absurd k.1;
    }) [] nothing

-- ---- one list

same_values : (xs ys : List Entry) → Rises (entry_keys xs) → Rises (entry_keys ys) → ((x : Entry) → Among x xs → Among x ys)
    → ((x : Entry) → Among x ys → Among x xs) → (k : List ℕ) → value_at k xs ≡ value_at k ys
same_values xs ys hx hy to from k = by (value_at k xs) refl (value_at k ys) refl
  where
    by : (v : Option (List ℕ)) → value_at k xs ≡ v → (w : Option (List ℕ)) → value_at k ys ≡ w → value_at k xs ≡ value_at k ys
    by (Some v) e w f = let x : Entry = record { key = k; value = v } in e ∙ sym (entry_value x ys hy (to x (value_entry k v xs e)))
    by None e (Some w) f = let x : Entry = record { key = k; value = w } in entry_value x xs hx (from x (value_entry k w ys f)) ∙ sym f
    by None e None f = e ∙ sym f

-- two maps with the same entries are one list
pub same_map : (xs ys : List Entry) → Rises (entry_keys xs) → Rises (entry_keys ys) → ((x : Entry) → Among x xs → Among x ys)
    → ((x : Entry) → Among x ys → Among x xs) → xs ≡ ys
same_map xs ys hx hy to from = one_map xs ys hx hy (same_values xs ys hx hy to from)

-- the one has each entry of the other
has_all : (xs ys : List Entry) (cs : List Collection) → Spells xs cs → Spells ys cs → (x : Entry) → Among x xs → Among x ys
has_all xs ys cs h g x there = among_of ys x ((g.same x).1 ((h.same x).0 (contains_of xs x there)))

pub spelled_once : SpelledOnce
spelled_once cs h = (is_spelled cs h, λ xs ys p q. same_map xs ys p.rises q.rises (has_all xs ys cs p q) (has_all ys xs cs q p))
