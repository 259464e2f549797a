-- The documents that the statements of an update may mean are looked up.
use Rattle.std.proofs.Common.{◌≡◌, ◌⊎◌, ◌<◌, ◌≤◌, inl, inr, ℕ, Bool, true, false, List, [], length, take, Option, Some, None, Result, Ok, Err, refl, sym, ap}
use Rattle.std.proofs.Common.{subst, ◌∙◌, arith}
use Rattle.std.specs.Prelude.{◌^◌, ◌-◌, All, MatchResult}
use Rattle.std.specs.Global.{Vec}
use Rattle.std.specs.List.{filter}
use Rattle.std.proofs.lemmas.List.{take_all, length-take}
use Rattle.bson.specs.Tree.{Pairs}
use Rattle.page.specs.History.{History, KeepsWord}
use Rattle.path.specs.declared.refusal.Refusal.{Refusal}
use Rattle.path.specs.declared.refusal.Refusal.TheVariants as refusals
use Rattle.command_model.specs.Update.{UpdateStatement, IsRead}
use Rattle.collections.specs.Calls.{HasReadCause}
use Rattle.entry_model.specs.State.{Collection, find_collection}
use Rattle.engine.specs.Durable.{disk_history, file_of, IsSound}
use Rattle.engine.specs.Looking.{Looks, LooksOf, OnlyReads}
use Rattle.database_model.specs.Merging.{is_meant, makes_any}
use Rattle.engine.specs.Numbering.{IsNewNumber, IsTooMany}
use Rattle.engine.specs.Putting.{AreMeantOf, IsFullFor, IsFullWithout, IsMeant, IsUpdate, MeansIn, FirstAreEnough}
use Rattle.engine.specs.Trying.{MayRefuse}
use Rattle.statements.specs.Updating.{IsRan}
use Rattle.engine.specs.View.{world}
use Rattle.engine.specs.declared.engine.Engine.{Engine}
use Rattle.engine.specs.declared.updates.Candidates.{Candidates}
use Rattle.statements.specs.declared.statements.Ran.{Ran}
use Rattle.engine.proofs.LookingLemmas.{looks_behind}
use Rattle.engine.specs.TakingOut.{IsHome}
use Rattle.entries.specs.declared.catalogue_reading.Catalogued.{Catalogued}
use Rattle.engine.proofs.CataloguedLemmas.{IsCatalogueOf, has_home, not_catalogued}
use Rattle.engine.proofs.OnlyReading.{cause_from, now_same, reads_none, reads_on, word_before}
use Rattle.engine.proofs.PlannedUpdates.{ran_update}

-- ---- a collection that is missing

module _ {D : Type 0} (history : D → History) (ss : List UpdateStatement) (old new : Engine D) where
  abbrev MeantNone : Result Candidates Refusal → Engine D → Type 0
  MeantNone r last = MayRefuse history (MeansIn None (world old).collections ss) (IsFullWithout (world old).collections ss) r old last

  -- no statement makes a document
  pub none_meant : (m : Candidates) → IsSound history old → m.documents.items ≡ [] → m.is_new ≡ false → makes_any ss ≡ false → MeantNone (Ok m) old
  none_meant m h none still makes = record {
    reads = reads_none history old h;
    answers = λ k. (none, still ∙ sym makes, λ made. absurd (let no = sym still ∙ made in cc));
  }

  abbrev Numbers : Result ℕ Refusal → Type 0
  Numbers r = MayRefuse history (IsNewNumber (world old).collections) (IsTooMany (world old).collections) r old new

  -- one does, and the collection gets a number
  pub new_meant : (m : Candidates) (n : ℕ) → Numbers (Ok n) → m.documents.items ≡ [] → m.is_new ≡ true → m.number ≡ n → makes_any ss ≡ true
      → MeantNone (Ok m) new
  new_meant m n tries none made numbered makes = record {
    reads = tries.reads;
    answers = λ k. let room = tries.answers k in (none, made ∙ sym makes, λ e. (room.0, numbered ∙ room.1));
  }

  pub none_numbered : (e : Refusal) → Numbers (Err e) → makes_any ss ≡ true → MeantNone (Err e) new
  none_numbered e tries makes = record {
    reads = tries.reads;
    answers = λ k. elim (tries.answers k) [
      | inl many ↦ inl (many.0, makes, many.1)
      | inr cause ↦ inr cause
    ];
  }

-- ---- of a name

module _ {D : Type 0} (history : D → History) (name : List ℕ) (ss : List UpdateStatement) (old mid : Engine D) where
  abbrev now : List Collection
  now = (world old).collections

  abbrev Means : Result Candidates Refusal → Engine D → Type 0
  Means r last = MayRefuse history (IsMeant now name ss) (IsFullFor now name ss) r old last

  pub meant_unread : (e : Refusal) → Looks history (IsCatalogueOf name) (Err e) old mid → Means (Err e) mid
  meant_unread e first = record { reads = first.reads; answers = λ k. inr (first.answers k) }

  pub meant_without_memory : (e : Refusal) → e ≡ refusals.OutOfMemory → OnlyReads history old mid → Means (Err e) mid
  meant_without_memory e is reads = record { reads = reads; answers = λ k. inr (inl is) }

  -- it is missing
  pub meant_missing : (last : Engine D) → Looks history (IsCatalogueOf name) (Ok None) old mid → (r : Result Candidates Refusal)
      → MayRefuse history (MeansIn None (world mid).collections ss) (IsFullWithout (world mid).collections ss) r mid last → Means r last
  meant_missing last first r second = record {
    reads = reads_on history old mid last first.reads second.reads;
    answers = λ k. at r (is_none k) k (second.answers k);
  }
    where
      is_none : KeepsWord (disk_history history last) → find_collection now name ≡ None
      is_none k = not_catalogued now name (first.answers (word_before history (file_of mid) (file_of last) second.reads.continues k))

      same : (world mid).collections ≡ now
      same = now_same history old mid first.reads

      at : (q : Result Candidates Refusal) → find_collection now name ≡ None → KeepsWord (disk_history history last)
          → MatchResult q (MeansIn None (world mid).collections ss)
          (λ e. IsFullWithout (world mid).collections ss e ⊎ HasReadCause history (file_of mid) (file_of last) e)
          → MatchResult q (IsMeant now name ss) (λ e. IsFullFor now name ss e ⊎ HasReadCause history (file_of old) (file_of last) e)
      at (Ok m) none k right =
          subst (λ (o : Option Collection). MeansIn o now ss m) (sym none) (subst (λ (cs : List Collection). MeansIn None cs ss m) same right)
      at (Err e) none k (inl full) = inl (none, subst (λ (cs : List Collection). IsFullWithout cs ss e) same full)
      at (Err e) none k (inr cause) =
          inr (cause_from history (file_of old) (file_of mid) (file_of last) first.reads.continues
          (word_before history (file_of mid) (file_of last) second.reads.continues k) e cause)

  -- it is there
  module _ (home : Catalogued) (first : Looks history (IsCatalogueOf name) (Ok (Some home)) old mid) (select : Pairs → Bool) (selects : (d : Pairs)
      → select d ≡ is_meant ss d) (most : ℕ) (suffices : FirstAreEnough ss most) (last : Engine D) where
    abbrev Found : List Collection → Collection → Vec Pairs → Type 0
    Found cs c found = found.items ≡ take most (filter select c.documents)

    abbrev meant_of : Vec Pairs → Candidates
    meant_of found = record { number = home.number; is_new = false; documents = found }

    same_filter : (ds : List Pairs) → filter select ds ≡ filter (is_meant ss) ds
    same_filter ds = λ i. filter (λ d. selects d i) ds

    meant_so : (ds : List Pairs) (found : Vec Pairs) → found.items ≡ take most (filter (is_meant ss) ds) → AreMeantOf ss ds found.items
    meant_so ds found is = at suffices
      where
        among : List Pairs
        among = filter (is_meant ss) ds

        at : FirstAreEnough ss most → AreMeantOf ss ds found.items
        at (inl greatest) =
            let few : length found.items < 2 ^ 64 - 1 = omega (arith, found.ok.0, found.ok.1, found.small) in
            let all : length among ≤ most = omega (arith, length-take most among, few, ap length is, greatest) in
            inl (is ∙ take_all most among all)
        at (inr (one, first)) = inr (first, is ∙ ap (λ (n : ℕ). take n among) one)

    means : (c : Collection) → find_collection now name ≡ Some c → c.number ≡ home.number → (found : Vec Pairs) → Found now c found
        → IsMeant now name ss (meant_of found)
    means c there numbered found is =
        subst (λ (o : Option Collection). MeansIn o now ss (meant_of found)) (sym there)
        (refl, numbered, meant_so c.documents found (is ∙ ap (take most) (same_filter c.documents)))

    looked : (r : Result (Vec Pairs) Refusal) → LooksOf history (λ cs c. IsHome cs c home) Found r mid last
        → Looks history (λ cs found. IsMeant cs name ss (meant_of found)) r old last
    looked r second =
        looks_behind history (IsCatalogueOf name) (λ cs c. IsHome cs c home) Found (λ cs found. IsMeant cs name ss (meant_of found)) old mid last
        (Some home) r first second (λ p.
        let t = has_home now name home p in
        record {
          asked = t.collection;
          is = t.catalogued;
          right = λ found is. means t.collection t.found t.catalogued.numbered.same found is;
        })

    pub meant_there : (found : Vec Pairs) → LooksOf history (λ cs c. IsHome cs c home) Found (Ok found) mid last → Means (Ok (meant_of found)) last
    meant_there found second = let l = looked (Ok found) second in record { reads = l.reads; answers = l.answers }

    pub meant_unselected : (e : Refusal) → LooksOf history (λ cs c. IsHome cs c home) Found (Err e) mid last → Means (Err e) last
    meant_unselected e second = let l = looked (Err e) second in record { reads = l.reads; answers = λ k. inr (l.answers k) }

-- ---- what the statements make of them

module _ {D : Type 0} (history : D → History) (name : List ℕ) (ss : List UpdateStatement) (old mid : Engine D) where
  abbrev Plans : Result Ran Refusal → Type 0
  Plans r = MayRefuse history (IsUpdate (world old).collections name ss) (IsFullFor (world old).collections name ss) r old mid

  abbrev Meaning : Result Candidates Refusal → Type 0
  Meaning r = MayRefuse history (IsMeant (world old).collections name ss) (IsFullFor (world old).collections name ss) r old mid

  pub updated_unmeant : (e : Refusal) → Meaning (Err e) → Plans (Err e)
  updated_unmeant e tries = record { reads = tries.reads; answers = tries.answers }

  module _ (m : Candidates) (tries : Meaning (Ok m)) where
    pub updated_without_memory : (e : Refusal) → e ≡ refusals.OutOfMemory → Plans (Err e)
    updated_without_memory e is = record { reads = tries.reads; answers = λ k. inr (inl is) }

    pub updated_tries : IsSound history old → All (λ (s : UpdateStatement). IsRead s.change) ss → (x : Ran) → IsRan true ss m.documents.items x → Plans (Ok x)
    updated_tries h read x ran = record {
      reads = tries.reads;
      answers = λ k. ran_update ss m read (world old).collections name h.lawful (tries.answers k) x ran;
    }
