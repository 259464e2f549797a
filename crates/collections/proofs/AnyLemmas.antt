-- Looks at the tree one after the other, until one finds what is looked for.
use Rattle.std.proofs.Common.{◌≡◌, inl, inr, ℕ, zero, suc, ◌+◌, ◌<◌, ◌≤◌, Bool, true, false, ◌||◌, ◌&&◌, List, [], ◌∷◌, length, drop, get_or, map, Ok, Err}
use Rattle.std.proofs.Common.{refl, sym, ap, ◌∙◌, arith, drop-cons}
use Rattle.std.specs.Global.{Vec}
use Rattle.std.proofs.lemmas.List.{drop_all}
use Rattle.page.specs.History.{History, KeepsWord}
use Rattle.tree_model.specs.Keys.{Edit, Entry, change}
use Rattle.path.specs.declared.refusal.Refusal.{Refusal}
use Rattle.path.specs.declared.refusal.Refusal.TheVariants as refusals
use Rattle.index.specs.Definition.{Definition}
use Rattle.entries.specs.OtherKeys.{has_other_key}
use Rattle.entry_model.specs.State.{Collection}
use Rattle.index.specs.View.{texts_of}
use Rattle.entry_model.specs.StateEntries.{Spells}
use Rattle.entries.proofs.SpelledLaws.{spelled_once}
use Rattle.collections.specs.Calls.{ExtendsTurn, IsUnchanged, Reads}
use Rattle.collections.specs.OtherKeys.{TellsOf, any_other_key, is_taken}
use Rattle.collections.specs.Standing.{HasState, IsTurnOf}
use Rattle.collections.specs.State.{State}
use Rattle.collections.specs.View.{disk_history, is_stopped}
use Rattle.collections.proofs.CauseLemmas.{read_cause_from, word_before}
use Rattle.collections.proofs.LawLemmas.{goes_from_itself, goes_further}

-- Looks were taken that change nothing, and the test comes to the one that is left.
pub record LooksOn {D : Type 0} (history : D → History) (edits : List Edit) (test rest : List Entry → Bool) (old new : State D) : Type 0 where
  pub extends : ExtendsTurn history old new
  pub unchanged : IsUnchanged history old new
  pub same : (start now : List Collection) → HasState history old start now → HasState history new start now
  pub left : KeepsWord (disk_history history new) → (start now : List Collection) → HasState history old start now → (entries : List Entry) → Spells entries now
      → test (change edits entries) ≡ rest (change edits entries)

module _ {D : Type 0} (history : D → History) (edits : List Edit) (test : List Entry → Bool) where
  pub looks_begin : (old : State D) → LooksOn history edits test test old old
  looks_begin old = record {
    extends = goes_from_itself history old;
    unchanged = refl;
    same = λ start now has. has;
    left = λ k start now has entries spells.
        refl;
  }

  -- what is left is the same as this
  pub looks_skip : (rest later : List Entry → Bool) (old new : State D) → LooksOn history edits test rest old new
      → ((entries : List Entry) → rest entries ≡ later entries) → LooksOn history edits test later old new
  looks_skip rest later old new far same = record {
    extends = far.extends;
    unchanged = far.unchanged;
    same = far.same;
    left = λ k start now has entries spells. far.left k start now has entries spells ∙ same (change edits entries);
  }

  module _ (rest one later : List Entry → Bool) (old mid new : State D) (far : LooksOn history edits test rest old mid) (split : (entries : List Entry)
      → rest entries ≡ (one entries || later entries)) where
    pub looks_step : Reads history (TellsOf one edits) (Ok false) mid new → LooksOn history edits test later old new
    looks_step reads = record {
      extends = goes_further history old mid new far.extends reads.extends;
      unchanged = reads.unchanged ∙ far.unchanged;
      same = λ start now has. reads.same start now (far.same start now has);
      left = λ k start now has entries spells.
          let p = reads.answers k start now (far.same start now has) in
          let one_map : p.entries ≡ entries = (spelled_once now p.state).1 p.entries entries p.spells spells in
          let none : one (change edits entries) ≡ false = ap (λ (xs : List Entry). one (change edits xs)) (sym one_map) ∙ sym p.right in
          far.left (word_before history mid new reads.extends k) start now has entries spells ∙ split (change edits entries)
          ∙ ap (λ (b : Bool). b || later (change edits entries)) none;
    }

    pub looks_found : Reads history (TellsOf one edits) (Ok true) mid new → Reads history (TellsOf test edits) (Ok true) old new
    looks_found reads = record {
      extends = goes_further history old mid new far.extends reads.extends;
      unchanged = reads.unchanged ∙ far.unchanged;
      same = λ start now has. reads.same start now (far.same start now has);
      answers = λ k start now has.
          let p = reads.answers k start now (far.same start now has) in
          record {
            entries = p.entries;
            spells = p.spells;
            state = p.state;
            right = sym (far.left (word_before history mid new reads.extends k) start now has p.entries p.spells ∙ split (change edits p.entries)
                ∙ ap (λ (b : Bool). b || later (change edits p.entries)) (sym p.right));
          };
    }

    pub looks_failed : (e : Refusal) → Reads history (TellsOf one edits) (Err e) mid new → Reads history (TellsOf test edits) (Err e) old new
    looks_failed e reads = record {
      extends = goes_further history old mid new far.extends reads.extends;
      unchanged = reads.unchanged ∙ far.unchanged;
      same = λ start now has. reads.same start now (far.same start now has);
      answers = λ k start now has. read_cause_from history old mid new far.extends (word_before history mid new reads.extends k) e
          (reads.answers k start now (far.same start now has));
    }

  -- nothing is left to be looked for
  pub looks_none : (rest : List Entry → Bool) (old new : State D) → is_stopped old ≡ false → LooksOn history edits test rest old new
      → ((entries : List Entry) → rest entries ≡ false) → Reads history (TellsOf test edits) (Ok false) old new
  looks_none rest old new running far none = record {
    extends = far.extends;
    unchanged = far.unchanged;
    same = far.same;
    answers = λ k start now has.
        let t : IsTurnOf history old start now = has running (word_before history old new far.extends k) in
        record {
          entries = t.after;
          spells = t.spells_now;
          state = t.now_state;
          right = sym (far.left k start now has t.after t.spells_now ∙ none (change edits t.after));
        };
  }

  pub looks_stopped : (old : State D) → is_stopped old ≡ true → Reads history (TellsOf test edits) (Err refusals.StorageFailed) old old
  looks_stopped old stopped =
      record { extends = goes_from_itself history old; unchanged = refl; same = λ start now has. has; answers = λ k start now has. inr (refl, inl stopped) }

-- ---- keys and indexes, one after the other

pub left_step : {X : Type 0} (xs : List X) (i : ℕ) (x : X) → i < length xs → x ≡ get_or xs i x → drop i xs ≡ x ∷ drop (i + 1) xs
left_step xs i x within is =
    let next : suc i ≡ i + 1 = omega arith in
    drop-cons xs i x within ∙ (λ j. sym is j ∷ drop (next j) xs)

abbrev rest_of : {X : Type 0} → List X → List X
rest_of [] = []
rest_of (x ∷ xs) = xs

rest_drop : {X : Type 0} (i : ℕ) (xs : List X) → rest_of (drop i xs) ≡ drop (suc i) xs
rest_drop zero [] = refl
rest_drop zero (x ∷ xs) = refl
rest_drop (suc i) [] = refl
rest_drop (suc i) (x ∷ xs) = rest_drop i xs

module _ (number : ℕ) (id : List ℕ) where
  -- the first key that is left, and those behind it
  pub first_key_left : (index : ℕ) (keys : List (Vec ℕ)) (i : ℕ) (item : Vec ℕ) (key : List ℕ) → i < length keys → item ≡ get_or keys i item → key ≡ item.items
      → (entries : List Entry)
      → any_other_key number index id (texts_of (drop i keys)) entries
      ≡ (has_other_key number index key id entries || any_other_key number index id (texts_of (drop (i + 1) keys)) entries)
  first_key_left index keys i item key within is same entries =
      ap (λ (ks : List (Vec ℕ)). any_other_key number index id (texts_of ks) entries) (left_step keys i item within is)
      ∙ ap (λ (k : List ℕ). has_other_key number index k id entries || any_other_key number index id (texts_of (drop (i + 1) keys)) entries) (sym same)

  pub no_key_left : (index : ℕ) (keys : List (Vec ℕ)) (i : ℕ) → length keys ≤ i → (entries : List Entry)
      → any_other_key number index id (texts_of (drop i keys)) entries ≡ false
  no_key_left index keys i whole entries = ap (λ (ks : List (Vec ℕ)). any_other_key number index id (texts_of ks) entries) (drop_all i keys whole)

  -- the first index that is left, and those behind it
  pub first_index_left : (is : List Definition) (all : List (Vec (Vec ℕ))) (at : ℕ) (i : Definition) (ks : Vec (Vec ℕ)) (n : ℕ) (keys : List (Vec ℕ))
      → at < length is → length all ≡ length is
      → i ≡ get_or is at i → ks ≡ get_or all at ks → n ≡ i.number → keys ≡ ks.items → (entries : List Entry)
      → is_taken number id (drop at is) (map (λ k. texts_of k.items) (drop at all)) entries
      ≡ ((i.is_unique && any_other_key number n id (texts_of keys) entries)
      || is_taken number id (drop (at + 1) is) (map (λ k. texts_of k.items) (drop (at + 1) all)) entries)
  first_index_left is all at i ks n keys within one_each this these numbered same entries =
      let here : at < length all = omega (arith, within, one_each) in
      (λ j. is_taken number id (left_step is at i within this j) (map (λ k. texts_of k.items) (left_step all at ks here these j)) entries)
      ∙ (λ j. (i.is_unique && any_other_key number (sym numbered j) id (texts_of (sym same j)) entries)
      || is_taken number id (drop (at + 1) is) (map (λ k. texts_of k.items) (drop (at + 1) all)) entries)

  -- so of one that is unique
  pub unique_index_left : (is : List Definition) (all : List (Vec (Vec ℕ))) (at : ℕ) (i : Definition) (ks : Vec (Vec ℕ)) (n : ℕ) (keys : List (Vec ℕ))
      → at < length is → length all ≡ length is
      → i ≡ get_or is at i → ks ≡ get_or all at ks → n ≡ i.number → keys ≡ ks.items → i.is_unique ≡ true → (entries : List Entry)
      → is_taken number id (drop at is) (map (λ k. texts_of k.items) (drop at all)) entries
      ≡ (any_other_key number n id (texts_of keys) entries || is_taken number id (drop (at + 1) is) (map (λ k. texts_of k.items) (drop (at + 1) all)) entries)
  unique_index_left is all at i ks n keys within one_each this these numbered same unique entries =
      first_index_left is all at i ks n keys within one_each this these numbered same entries
      ∙ ap (λ (b : Bool). (b && any_other_key number n id (texts_of keys) entries)
      || is_taken number id (drop (at + 1) is) (map (λ k. texts_of k.items) (drop (at + 1) all)) entries) unique

  -- an index that isn't unique is passed over
  past_index : (i : Definition) (is : List Definition) (all : List (Vec (Vec ℕ))) → i.is_unique ≡ false → (entries : List Entry)
      → is_taken number id (i ∷ is) (map (λ k. texts_of k.items) all) entries ≡ is_taken number id is (map (λ k. texts_of k.items) (rest_of all)) entries
  past_index i [] [] plain entries = refl
  past_index i (j ∷ is) [] plain entries = refl
  past_index i is (ks ∷ all) plain entries =
      ap (λ (b : Bool). (b && any_other_key number i.number id (texts_of ks.items) entries)
      || is_taken number id is (map (λ k. texts_of k.items) all) entries) plain

  pub index_passed : (is : List Definition) (all : List (Vec (Vec ℕ))) (at : ℕ) (i : Definition) → at < length is → i ≡ get_or is at i → i.is_unique ≡ false
      → (entries : List Entry)
      → is_taken number id (drop at is) (map (λ k. texts_of k.items) (drop at all)) entries
      ≡ is_taken number id (drop (at + 1) is) (map (λ k. texts_of k.items) (drop (at + 1) all)) entries
  index_passed is all at i within this plain entries =
      let next : suc at ≡ at + 1 = omega arith in
      ap (λ (js : List Definition). is_taken number id js (map (λ k. texts_of k.items) (drop at all)) entries) (left_step is at i within this)
      ∙ past_index i (drop (at + 1) is) (drop at all) plain entries
      ∙ ap (λ (ks : List (Vec (Vec ℕ))). is_taken number id (drop (at + 1) is) (map (λ k. texts_of k.items) ks) entries)
      (rest_drop at all ∙ ap (λ (n : ℕ). drop n all) next)

  pub no_index_left : (is : List Definition) (all : List (Vec (Vec ℕ))) (at : ℕ) → length is ≤ at → (entries : List Entry)
      → is_taken number id (drop at is) (map (λ k. texts_of k.items) (drop at all)) entries ≡ false
  no_index_left is all at whole entries =
      ap (λ (js : List Definition). is_taken number id js (map (λ k. texts_of k.items) (drop at all)) entries) (drop_all at is whole)
