-- A first batch of documents of which the `_id`s are told.
use Rattle.std.proofs.Common.{◌≡◌, List, [], ℕ, Bool, Option, Some, None, false, refl, sym, ap, ◌∙◌}
use Rattle.std.specs.Prelude.{Result, is_some}
use Rattle.std.specs.List.{filter}
use Rattle.page.specs.History.{History}
use Rattle.path.specs.declared.refusal.Refusal.{Refusal}
use Rattle.collections.specs.Lookups.{ReadsOf}
use Rattle.collections.specs.State.{State}
use Rattle.collections.specs.View.{is_stopped}
use Rattle.filter.specs.Matches.{matches}
use Rattle.entry_model.specs.LawfulState.{IsLawfulState}
use Rattle.entry_model.specs.State.{Collection}
use Rattle.entries.specs.declared.catalogue_reading.Catalogued.{Catalogued}
use Rattle.entry_model.proofs.FoundLawLemmas.{found_collection}
use Rattle.walks.specs.Batches.{Gives, rest_from}
use Rattle.asked_documents.specs.ById.{AreIdsOf, AreIdsOfAsked}
use Rattle.walks.specs.IdRange.{IsWalked}
use Rattle.walks.specs.declared.batches.Giving.{Giving}
use Rattle.walks.specs.declared.batches.Walk.{Walk}
use Rattle.walks.proofs.GivenLemmas.{AreLent}
use Rattle.asked_documents.proofs.ReadingLemmas.{reads_as}
use Rattle.walks.proofs.WalkLeftLemmas.{from_beginning}

module _ (w : Walk) (from : w.from.now ≡ []) (start : Giving) (home : Catalogued) (texts : List (List ℕ)) where
  lent_walked : (now : List Collection) (c : Collection) (done : Giving) → IsLawfulState now → AreIdsOfAsked home (matches w.filter.now) texts now c
      → IsWalked (matches w.filter.now) Gives start c.documents done → AreLent w start c.documents done
  lent_walked now c done state h walked =
      let kept = (found_collection now c.name c state h.asked.numbered.found).0 in
      record {
        lent = filter walked.chosen c.documents;
        folded = walked.folded;
        same = walked.same
            ∙ ap (filter (matches w.filter.now)) (sym (ap (λ (f : List ℕ). rest_from f c.documents) from ∙ from_beginning c.documents));
        storable = kept.storable;
        stored = h.asked.stored;
        rising = kept.rising;
      }

  -- of the collection that is asked
  pub lent_asked : {D : Type 0} (history : D → History) (old new : State D) (r : Result Giving Refusal) → is_stopped old ≡ false
      → ReadsOf history (AreIdsOf home.number (matches w.filter.now) texts) (λ now c done. IsWalked (matches w.filter.now) Gives start c.documents done) r old
      new
      → ReadsOf history (AreIdsOfAsked home (matches w.filter.now) texts) (λ now c done. AreLent w start c.documents done) r old new
  lent_asked history old new r running reads =
      reads_as history (AreIdsOfAsked home (matches w.filter.now) texts) (AreIdsOf home.number (matches w.filter.now) texts)
      (λ now c done. IsWalked (matches w.filter.now) Gives start c.documents done) (λ now c done. AreLent w start c.documents done) old new r running reads
      (λ now state c asked. record { other = c; was = asked.ids; right = λ done walked. lent_walked now c done state asked walked })

pub is_none : {X : Type 0} (o : Option X) (some : Bool) → some ≡ is_some o → some ≡ false → o ≡ None
is_none None some told is = refl
is_none (Some x) some told is = absurd cc
