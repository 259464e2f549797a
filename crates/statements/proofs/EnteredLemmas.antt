-- What stays of a collection where documents are inserted or written, and how many it has.
use Rattle.std.proofs.Common.{◌≡◌, ◌⊎◌, ◌+◌, inl, inr, ℕ, true, false, List, [], ◌∷◌, length, length-append, Ok, refl, sym, ap, subst, ◌∙◌, arith}
use Rattle.std.specs.Prelude.{All, is_some}
use Rattle.std.proofs.lemmas.List.Elements.{All-head, All-tail}
use Rattle.bson.specs.Tree.{Pairs}
use Rattle.update_model.specs.Stored.{id_first}
use Rattle.command_model.specs.OutcomeLaws.{step_of}
use Rattle.entry_model.specs.Documents.{put_document}
use Rattle.entry_model.specs.Entering.{DocumentWrite, enter_each, entered}
use Rattle.entry_model.specs.LawfulState.{IsRising}
use Rattle.entry_model.specs.State.{Collection}
use Rattle.entry_model.specs.StateReads.{find_document}
use Rattle.entry_model.proofs.DocumentPlaces.{IsBetween, IsInstead, placed, all_put, some_instead}
use Rattle.entry_model.proofs.EnteringLemmas.{has_entered, stay_with}
use Rattle.database_model.specs.Documents.{checked, insert_all, insert_one, key_of}
use Rattle.database_model.specs.Lawful.{AreShortIndexes, IsStored}
use Rattle.statements.specs.WriteLaws.{documents_in}
use Rattle.statements.proofs.Checked.{keeps}
use Rattle.database_model.proofs.ShortIndexes.{noted_short}

-- a document put among others keeps them in ascending order
pub rising_put : (d : Pairs) (ds : List Pairs) → IsRising ds → IsRising (put_document d ds)
rising_put d ds up = (stay_with [] ds d [] refl refl (record {
  rising = up;
  indexes = λ k i below. absurd (omega (arith, below));
  distinct = λ i j x less below. absurd (omega (arith, below));
  few = omega arith;
})).rising

-- where none of its `_id` is there, it is one more
longer_put : (d : Pairs) (ds : List Pairs) → IsBetween d ds ⊎ IsInstead d ds → is_some (find_document ds (key_of d)) ≡ false
    → length (put_document d ds) ≡ length ds + 1
longer_put d ds (inl b) none = omega (arith, ap length b.put, ap length b.split, length-append b.front (d ∷ b.back), length-append b.front b.back)
longer_put d ds (inr b) none = let both : true ≡ false = sym (ap is_some (some_instead d ds b)) ∙ none in absurd cc

-- A collection that documents were inserted into: its name and its number are as they were, and its documents are in order and stored.
pub record HasGrown (c next : Collection) (by : ℕ) : Type 0 where
  pub named : next.name ≡ c.name
  pub numbered : next.number ≡ c.number
  pub rising : IsRising c.documents → IsRising next.documents
  pub stored : IsRising c.documents → All IsStored c.documents → All IsStored next.documents
  pub longer : IsRising c.documents → length next.documents ≡ length c.documents + by
  pub indexes : AreShortIndexes c.indexes → AreShortIndexes next.indexes

grown_none : (c : Collection) → HasGrown c c 0
grown_none c = record { named = refl; numbered = refl; rising = λ up. up; stored = λ up all. all; longer = λ up. omega arith; indexes = λ h. h }

grown_one : (c next : Collection) (ps : Pairs) → insert_one c ps ≡ Ok next → HasGrown c next 1
unfolding insert_one
grown_one c next ps e =
    let d = id_first ps in
    let s = step_of (checked ps) (λ id. entered c (record { is_new = true; document = d })) next e in
    let x = has_entered c next (record { is_new = true; document = d }) s.2 in
    let same = ap (λ (n : Collection). n.documents) x.is in
    record {
      named = ap (λ (n : Collection). n.name) x.is;
      numbered = ap (λ (n : Collection). n.number) x.is;
      rising = λ up. subst IsRising (sym same) (rising_put d c.documents up);
      stored = λ up all. subst (All IsStored) (sym same) (all_put IsStored d c.documents (placed d c.documents up) all (keeps ps s.0 s.1).lawful);
      longer = λ up. ap length same ∙ longer_put d c.documents (placed d c.documents up) x.is_new;
      indexes = λ h. subst AreShortIndexes (sym (ap (λ (n : Collection). n.indexes) x.is)) (noted_short d c.indexes h);
    }

-- as many more as there are
pub has_grown : (c next : Collection) (documents : List Pairs) → insert_all c documents ≡ Ok next → HasGrown c next (length documents)
has_grown c next [] e = let same : c ≡ next = cc in subst (λ (n : Collection). HasGrown c n 0) same (grown_none c)
has_grown c next (ps ∷ rest) e =
    let s = step_of (insert_one c ps) (λ mid. insert_all mid rest) next e in
    let first = grown_one c s.0 ps s.1 in
    let later = has_grown s.0 next rest s.2 in
    record {
      named = later.named ∙ first.named;
      numbered = later.numbered ∙ first.numbered;
      rising = λ up. later.rising (first.rising up);
      stored = λ up all. later.stored (first.rising up) (first.stored up all);
      longer = λ up. omega (arith, first.longer up, later.longer (first.rising up));
      indexes = λ h. later.indexes (first.indexes h);
    }

-- ---- what is written

-- A collection that documents were written to: its name and its number are as they were, and its documents are in order and stored.
pub record StaysKept (c next : Collection) : Type 0 where
  pub named : next.name ≡ c.name
  pub numbered : next.number ≡ c.number
  pub rising : IsRising c.documents → IsRising next.documents
  pub stored : IsRising c.documents → All IsStored c.documents → All IsStored next.documents
  pub indexes : AreShortIndexes c.indexes → AreShortIndexes next.indexes

stays_one : (c next : Collection) (w : DocumentWrite) → IsStored w.document → entered c w ≡ Ok next → StaysKept c next
stays_one c next w good e =
    let x = has_entered c next w e in
    let same = ap (λ (n : Collection). n.documents) x.is in
    record {
      named = ap (λ (n : Collection). n.name) x.is;
      numbered = ap (λ (n : Collection). n.number) x.is;
      rising = λ up. subst IsRising (sym same) (rising_put w.document c.documents up);
      stored = λ up all. subst (All IsStored) (sym same) (all_put IsStored w.document c.documents (placed w.document c.documents up) all good);
      indexes = λ h. subst AreShortIndexes (sym (ap (λ (n : Collection). n.indexes) x.is)) (noted_short w.document c.indexes h);
    }

pub stays_kept : (c next : Collection) (ws : List DocumentWrite) → All IsStored (documents_in ws) → enter_each c ws ≡ Ok next → StaysKept c next
stays_kept c next [] stored e = let same : c ≡ next = cc in
    subst (StaysKept c) same (record { named = refl; numbered = refl; rising = λ up. up; stored = λ up all. all; indexes = λ h. h })
stays_kept c next (w ∷ ws) stored e =
    let s = step_of (entered c w) (λ mid. enter_each mid ws) next e in
    let first = stays_one c s.0 w (All-head IsStored w.document (documents_in ws) stored) s.1 in
    let later = stays_kept s.0 next ws (All-tail IsStored w.document (documents_in ws) stored) s.2 in
    record {
      named = later.named ∙ first.named;
      numbered = later.numbered ∙ first.numbered;
      rising = λ up. later.rising (first.rising up);
      stored = λ up all. later.stored (first.rising up) (first.stored up all);
      indexes = λ h. later.indexes (first.indexes h);
    }
