-- A collection in place of another of its name, by the entries of the two.
use Rattle.std.proofs.Common.{◌≡◌, ℕ, List, [], ◌++◌, ◌⊎◌, inl, inr, refl, sym, ap, subst, append-nil}
use Rattle.tree_model.specs.Keys.{Entry, Edit}
use Rattle.entry_model.specs.State.{Collection, put_collection, without_collection}
use Rattle.entry_model.specs.StateEntries.{collection_entries, state_entries, removals, puts, Leads}
use Rattle.entry_model.specs.LawfulState.{IsKept}
use Rattle.entry_model.specs.StateLaws.{MayBecome}
use Rattle.entry_model.proofs.MemberLemmas.{Among, among_flat, among_each}
use Rattle.entries.proofs.ExchangeLaws.{HasKey, exchange_leads}
use Rattle.entry_model.proofs.PlaceLemmas.{found_in, found_split, without_in, without_other, put_among, among_put}
use Rattle.entries.proofs.EntryLemmas.{one_of}
use Rattle.entry_model.proofs.LawfulLaws.{stays_lawful}
use Rattle.entries.proofs.HomeLemmas.{one_home, is_map}
use Rattle.entry_model.proofs.LawfulParts.{kept_of}

-- what an exchange asks of the entries of the one collection and of the other
pub record Exchanged (gone new old now : List Entry) : Type 0 where
  pub put : (x : Entry) → Among x new → Among x now
  pub left : (x : Entry) → Among x old → HasKey x.key gone ⊎ (HasKey x.key new ⊎ Among x now)
  pub from : (x : Entry) → Among x now → Among x new ⊎ Among x old
  pub away : (x : Entry) → Among x now → HasKey x.key gone → Among x new
  pub own : (x : Entry) → Among x gone → Among x old

module _ (gone new : List Entry) (cs : List Collection) (c now : Collection) (h : MayBecome c now cs)
    (t : Exchanged gone new (collection_entries c) (collection_entries now)) where
  others : (d : Collection) → Among d (without_collection c.name cs) → Among d (put_collection now cs)
  others d g = among_put now cs d h.lawful.apart (inr (subst (λ (m : List ℕ). Among d (without_collection m cs)) (sym h.named) g))

  split_put : (d : Collection) → Among d (put_collection now cs) → (d ≡ now) ⊎ Among d (without_collection c.name cs)
  split_put d there = subst (λ (m : List ℕ). (d ≡ now) ⊎ Among d (without_collection m cs)) h.named (put_among now cs d h.lawful.apart there)

  in_now : (x : Entry) → Among x (collection_entries now) → Among x (state_entries (put_collection now cs))
  in_now x p = among_each collection_entries x now (put_collection now cs) (among_put now cs now h.lawful.apart (inl refl)) p

  left_all : (x : Entry) → Among x (state_entries cs) → HasKey x.key gone ⊎ (HasKey x.key new ⊎ Among x (state_entries (put_collection now cs)))
  left_all x p = let d = among_flat collection_entries x cs p in by d.0 d.2 (found_split cs c.name c d.0 h.found d.1)
    where
      inside : HasKey x.key gone ⊎ (HasKey x.key new ⊎ Among x (collection_entries now))
          → HasKey x.key gone ⊎ (HasKey x.key new ⊎ Among x (state_entries (put_collection now cs)))
      inside (inl k) = inl k
      inside (inr (inl k)) = inr (inl k)
      inside (inr (inr g)) = inr (inr (in_now x g))

      by : (d : Collection) → Among x (collection_entries d) → (d ≡ c) ⊎ Among d (without_collection c.name cs)
          → HasKey x.key gone ⊎ (HasKey x.key new ⊎ Among x (state_entries (put_collection now cs)))
      by d here (inl e) = inside (t.left x (subst (λ (y : Collection). Among x (collection_entries y)) e here))
      by d here (inr g) = inr (inr (among_each collection_entries x d (put_collection now cs) (others d g) here))

  from_all : (x : Entry) → Among x (state_entries (put_collection now cs)) → Among x new ⊎ Among x (state_entries cs)
  from_all x p = let d = among_flat collection_entries x (put_collection now cs) p in by d.0 d.2 (split_put d.0 d.1)
    where
      by : (d : Collection) → Among x (collection_entries d) → (d ≡ now) ⊎ Among d (without_collection c.name cs) → Among x new ⊎ Among x (state_entries cs)
      by d here (inl e) = elim (t.from x (subst (λ (y : Collection). Among x (collection_entries y)) e here)) [
        | inl k ↦ inl k
        | inr k ↦ inr (among_each collection_entries x c cs (found_in cs c.name c h.found) k)
      ]
      by d here (inr g) = inr (among_each collection_entries x d cs (without_in cs c.name d g) here)

  away_all : (x : Entry) → Among x (state_entries (put_collection now cs)) → HasKey x.key gone → Among x new
  away_all x p k = let d = among_flat collection_entries x (put_collection now cs) p in by d.0 d.2 (split_put d.0 d.1)
    where
      by : (d : Collection) → Among x (collection_entries d) → (d ≡ now) ⊎ Among d (without_collection c.name cs) → Among x new
      by d here (inl e) = t.away x (subst (λ (y : Collection). Among x (collection_entries y)) e here) k
      by d here (inr g) =
          let same : d ≡ c =
          one_home cs d c x k.0 h.lawful (without_in cs c.name d g) (found_in cs c.name c h.found) (one_of d x here) (one_of c k.0 (t.own k.0 k.1)) (sym k.2) in
          absurd (without_other cs c.name d h.lawful.apart g (sym (ap (λ (y : Collection). y.name) same)))

  pub exchanged_leads : Leads (removals gone ++ puts new) cs (put_collection now cs)
  exchanged_leads = exchange_leads gone new cs (put_collection now cs) (record {
    is_map = is_map (put_collection now cs) (stays_lawful cs c now h);
    put = λ x p. in_now x (t.put x p);
    left = left_all;
    from = from_all;
    away = away_all;
  })

pub old_kept : (cs : List Collection) (c now : Collection) → MayBecome c now cs → IsKept c
old_kept cs c now h = kept_of cs c h.lawful (found_in cs c.name c h.found)

-- removals alone
pub removals_alone : (gone : List Entry) (a b : List Collection) → Leads (removals gone ++ puts []) a b → Leads (removals gone) a b
removals_alone gone a b h = subst (λ (es : List Edit). Leads es a b) (append-nil (removals gone)) h
