-- A document that a statement makes where none matches.
use Rattle.std.proofs.Common.{◌≡◌, ℕ, List, [], ◌∷◌, ◌++◌, map, Option, Result, Ok, Err, sym, ap, subst, ◌∙◌}
use Rattle.bson.specs.Tree.{document, Pairs, no_items, item, append_items}
use Rattle.bson.specs.Lawful.{IsDocument}
use Rattle.outcome.specs.Outcome.{◌>>=◌, Fails, or_refused}
use Rattle.path.specs.declared.refusal.Refusal.{Refusal}
use Rattle.path.specs.declared.refusal.Refusal.TheVariants as refusals
use Rattle.command_model.specs.Update.{UpdateStatement}
use Rattle.entry_model.specs.Entering.{DocumentWrite}
use Rattle.database_model.specs.Documents.{key_of, place}
use Rattle.database_model.specs.Lawful.{IsStored}
use Rattle.database_model.specs.Merging.{Listed, one_or_none, upsert_listed, with_listed}
use Rattle.database_model.specs.Update.{counted, upsert_document, upserted_entry}
use Rattle.statements.specs.Updating.{HasInserted, HasStopped, HasWritten, IsThere, listed_of, written, Wrote}
use Rattle.database_model.specs.Writes.{made_write}
use Rattle.statements.specs.declared.statements.Run.{Run}
use Rattle.statements.specs.declared.statements.Tally.{Tally}
use Rattle.statements.proofs.UpdatingLoop.{inserts_on, made_stops, some_upserted, wrote_made}

module _ (index : ℕ) (s : UpdateStatement) (d : Pairs) (old : Run) (is : upsert_document s ≡ Ok d) where
  abbrev put_with : Result (List Pairs) Refusal → Result Listed Refusal
  put_with r = r >>= (λ stored. Ok (with_listed index d stored (listed_of old)))

  made : upsert_listed index s (listed_of old) ≡ put_with (or_refused (place (key_of d) d old.documents.items) refusals.DuplicateKey)
  made = ap (λ (r : Result Pairs Refusal). r
      >>= (λ new. or_refused (place (key_of new) new old.documents.items) refusals.DuplicateKey >>=
      (λ stored. let x : Result Listed Refusal = Ok (with_listed index new stored (listed_of old)) in x))) is

  pub upsert_refused : (e : Refusal) → Fails refusals.OutOfMemory e (or_refused (place (key_of d) d old.documents.items) refusals.DuplicateKey)
      → Fails refusals.OutOfMemory e (upsert_listed index s (listed_of old))
  upsert_refused e refused = λ other. made ∙ ap put_with (refused other)

  abbrev upsert_writes : List DocumentWrite
  upsert_writes = map made_write (one_or_none (upsert_document s))

  its_write : upsert_writes ≡ made_write d ∷ []
  its_write = ap (λ (r : Result Pairs Refusal). map made_write (one_or_none r)) is

  -- another has its `_id`
  pub upsert_stopped : (e : Refusal) (new : Run) → IsStored d → IsDocument d → IsThere d e old new → Wrote (Err e) upsert_writes old new
  upsert_stopped e new stored readable there other =
      subst (λ (ws : List DocumentWrite). HasStopped ws old new) (sym its_write) (made_stops d old new stored readable (there.writes other))

  module _ (mid new : Run) (put : HasInserted d old mid) (documents : new.documents.items ≡ mid.documents.items) (entry : Pairs)
      (named : entry ≡ upserted_entry index (key_of d))
      (upserted : new.tally.upserted ≡ append_items mid.tally.upserted (item (document entry) no_items)) where
    pub upsert_done : new.tally.matched ≡ counted mid.tally.matched → new.tally.modified ≡ mid.tally.modified
        → upsert_listed index s (listed_of old) ≡ Ok (listed_of new)
    upsert_done matched modified =
        let before : mid.tally ≡ old.tally = put.tally in
        let count : new.tally.matched ≡ counted old.tally.matched = matched ∙ ap (λ (t : Tally). counted t.matched) before in
        let same : new.tally.modified ≡ old.tally.modified = modified ∙ ap (λ (t : Tally). t.modified) before in
        let says : new.tally.upserted ≡ append_items old.tally.upserted (item (document (upserted_entry index (key_of d))) no_items) =
        upserted ∙ (λ k. append_items (before k).upserted (item (document (named k)) no_items)) in
        made ∙ ap (λ (o : Option (List Pairs)). put_with (or_refused o refusals.DuplicateKey)) put.placed
        ∙ (λ k. Ok (record { documents = sym documents k; matched = sym count k; modified = sym same k; upserted = sym says k }))

    pub upsert_wrote : IsStored d → IsDocument d → new.writes.items ≡ mid.writes.items → new.keeps_old ≡ mid.keeps_old → HasWritten upsert_writes old new
    upsert_wrote stored readable writes keeps = record {
      wrote = wrote_made d old new stored readable (writes ∙ put.writes) ∙ ap (λ (ws : List DocumentWrite). written old ++ ws) (sym its_write);
      extends = inserts_on d old mid new stored readable put documents writes keeps
          (λ none. some_upserted mid.tally.upserted new.tally.upserted entry upserted none.1);
    }
