-- What statements come to in their collection, seen as what they come to over its documents.
use Rattle.std.proofs.Common.{◌≡◌, ℕ, suc, Bool, true, false, List, [], ◌∷◌, ◌++◌, map, Option, Some, None, Result, Ok, Err, refl, sym, ap, ◌∙◌}
use Rattle.std.specs.Prelude.{not, ◌&&◌, ◌||◌, if◌then◌else◌}
use Rattle.std.specs.List.{list_any}
use Rattle.bson.specs.Tree.{document, Pairs, item, no_items, append_items}
use Rattle.filter.specs.Matches.{matches}
use Rattle.outcome.specs.Outcome.{◌>>=◌, or_refused, unless}
use Rattle.path.specs.declared.refusal.Refusal.{Refusal}
use Rattle.path.specs.declared.refusal.Refusal.TheVariants as refusals
use Rattle.update_model.specs.Applying.{apply}
use Rattle.command_model.specs.OutcomeLaws.{passed, step_of}
use Rattle.command_model.specs.Update.{UpdateStatement}
use Rattle.entry_model.specs.State.{Collection, find_collection}
use Rattle.entry_model.proofs.PlaceLemmas.{found_name}
use Rattle.database_model.specs.Documents.{key_of, place}
use Rattle.database_model.specs.Insert.{is_full}
use Rattle.database_model.specs.Merging.{Listed, listed_to, one_or_none, run_each, run_listed, upsert_listed, with_listed}
use Rattle.database_model.specs.Update.{Changed, changed_in, changed_to, counted, not_changed, passed_over, run_statement, run_statements}
use Rattle.database_model.specs.Update.{update_from, Updated, updated_to, upsert}
use Rattle.database_model.specs.Update.{upsert_document, upserted_entry, with_upserted}
use Rattle.database_model.specs.World.{documents_of, documents_or_none, with_documents}
use Rattle.database_model.specs.Writes.{made_write, statement_writes}
use Rattle.statements.proofs.MeantUpdates.{one_step}
use Rattle.statements.proofs.WriteSteps.{writes_upsert}
use Rattle.bulk_writes.proofs.Putting.{found_put}

both : (a b : Bool) → (not a && b) ≡ true → (a ≡ false) × (b ≡ true)
both true b e = absurd cc
both false b e = (refl, e)

-- where none was found none matched
unmatched : (s : UpdateStatement) (b : Changed) (xs : List Pairs) (d : Changed) → update_from s b xs ≡ Ok d → d.found ≡ false
    → (b.found ≡ false) × (list_any (matches s.filter) xs ≡ false)
unmatched s b [] d e none = let same : b ≡ d = cc in (ap (λ (x : Changed). x.found) same ∙ none, refl)
unmatched s b (x ∷ xs) d e none = at (matches s.filter x) (apply s.change 65535 x) s.multi (λ c f. unmatched s c xs d f none) e
  where
    at : (m : Bool) (r : Result Pairs Refusal) (multi : Bool)
        → ((c : Changed) → update_from s c xs ≡ Ok d → (c.found ≡ false) × (list_any (matches s.filter) xs ≡ false))
        → one_step s b x xs m r multi ≡ Ok d → (b.found ≡ false) × ((m || list_any (matches s.filter) xs) ≡ false)
    at false r multi go f = go (passed_over x b) f
    at true (Err z) multi go f = absurd cc
    at true (Ok new) true go f = let never : true ≡ false = (go (changed_to x new b) f).0 in absurd cc
    at true (Ok new) false go f =
        let last : Changed = changed_to x new b in
        let same : record last { documents = last.documents ++ xs } ≡ d = cc in
        let never : true ≡ false = ap (λ (y : Changed). y.found) same ∙ none in
        absurd cc

-- so a statement that makes one writes it
pub its_write : (s : UpdateStatement) (b : Changed) (xs : List Pairs) (c : Changed) (new : Pairs) → update_from s b xs ≡ Ok c
    → (not c.found && s.upsert) ≡ true → upsert_document s ≡ Ok new → statement_writes s xs ≡ made_write new ∷ []
its_write s b xs c new e asked makes =
    let h = both c.found s.upsert asked in
    writes_upsert s xs (unmatched s b xs c e h.0).1 h.1 ∙ ap (λ (r : Result Pairs Refusal). map made_write (one_or_none r)) makes

module _ (name : List ℕ) where
  abbrev pub seen_in : Updated → Listed
  seen_in u = record { documents = documents_of u.collections name; matched = u.matched; modified = u.modified; upserted = u.upserted }

  -- a document was made
  seen_upserted : (i : ℕ) (new : Pairs) (stored : List Pairs) (u : Updated) → seen_in (with_upserted name i new stored u) ≡ with_listed i new stored (seen_in u)
  seen_upserted i new stored u =
      let there = ap (λ (o : Option Collection). documents_or_none o) (found_put (with_documents u.collections name stored) u.collections name refl) in
      λ k. record {
        documents = there k;
        matched = counted u.matched;
        modified = u.modified;
        upserted = append_items u.upserted (item (document (upserted_entry i (key_of new))) no_items);
      }

  -- documents that match were changed; of a missing collection none were
  seen_changed : (s : UpdateStatement) (u : Updated) (c : Changed) → update_from s (not_changed u) (documents_of u.collections name) ≡ Ok c
      → seen_in (updated_to name u c) ≡ listed_to (seen_in u) c
  seen_changed s u c is =
      let there = at (find_collection u.collections name) refl in
      λ k. record { documents = there k; matched = c.matched; modified = c.modified; upserted = u.upserted }
    where
      at : (o : Option Collection) → find_collection u.collections name ≡ o
          → documents_of (changed_in (find_collection u.collections name) c.documents u.collections) name ≡ c.documents
      at None missing =
          let none : update_from s (not_changed u) [] ≡ Ok c =
          ap (λ (o : Option Collection). update_from s (not_changed u) (documents_or_none o)) (sym missing) ∙ is in
          let same : not_changed u ≡ c = cc in
          ap (λ (o : Option Collection). documents_of (changed_in o c.documents u.collections) name) missing ∙ ap documents_or_none missing
          ∙ ap (λ (x : Changed). x.documents) same
      at (Some d) found =
          ap (λ (o : Option Collection). documents_of (changed_in o c.documents u.collections) name) found
          ∙ ap documents_or_none (found_put (record d { documents = c.documents }) u.collections name (sym (found_name u.collections name d found)))

  abbrev ends : ℕ → UpdateStatement → Updated → Changed → Result Updated Refusal
  ends i s u c = if not c.found && s.upsert then upsert name i s u else Ok (updated_to name u c)

  abbrev ends_listed : ℕ → UpdateStatement → Listed → Changed → Result Listed Refusal
  ends_listed i s l c = if not c.found && s.upsert then upsert_listed i s l else Ok (listed_to l c)

  abbrev putting : ℕ → Updated → Pairs → List Pairs → Result Updated Refusal
  putting i u new stored = Ok (with_upserted name i new stored u)

  abbrev putting_listed : ℕ → Listed → Pairs → List Pairs → Result Listed Refusal
  putting_listed i l new stored = Ok (with_listed i new stored l)

  -- ---- what is done in the collection is done over its documents

  pub one_seen : (i : ℕ) (s : UpdateStatement) (u v : Updated) → run_statement name i s u ≡ Ok v → run_listed i s (seen_in u) ≡ Ok (seen_in v)
  one_seen i s u v e =
      let c = step_of (update_from s (not_changed u) (documents_of u.collections name)) (ends i s u) v e in
      ap (λ (r : Result Changed Refusal). r >>= ends_listed i s (seen_in u)) c.1 ∙ at c.0 c.1 (not c.0.found && s.upsert) c.2
    where
      placed : (new : Pairs) (o : Option (List Pairs)) → (or_refused o refusals.DuplicateKey >>= putting i u new) ≡ Ok v
          → (or_refused o refusals.DuplicateKey >>= putting_listed i (seen_in u) new) ≡ Ok (seen_in v)
      placed new None f = absurd cc
      placed new (Some stored) f =
          let same : with_upserted name i new stored u ≡ v = cc in
          ap (λ (l : Listed). Ok l) (sym (seen_upserted i new stored u) ∙ ap seen_in same)

      at : (c : Changed) → update_from s (not_changed u) (documents_of u.collections name) ≡ Ok c → (b : Bool)
          → (if b then upsert name i s u else Ok (updated_to name u c)) ≡ Ok v
          → (if b then upsert_listed i s (seen_in u) else Ok (listed_to (seen_in u) c)) ≡ Ok (seen_in v)
      at c is false f =
          let same : updated_to name u c ≡ v = cc in
          ap (λ (l : Listed). Ok l) (sym (seen_changed s u c is) ∙ ap seen_in same)
      at c is true f =
          let p = passed (is_full u.collections name) refusals.TooMany _ v f in
          let n = step_of (upsert_document s)
          (λ new. or_refused (place (key_of new) new (documents_of u.collections name)) refusals.DuplicateKey >>= putting i u new) v p.1 in
          ap (λ (r : Result Pairs Refusal). r >>=
          (λ new. or_refused (place (key_of new) new (documents_of u.collections name)) refusals.DuplicateKey >>= putting_listed i (seen_in u) new)) n.1
          ∙ placed n.0 (place (key_of n.0) n.0 (documents_of u.collections name)) n.2

  pub all_seen : (i : ℕ) (ss : List UpdateStatement) (u v : Updated) → run_statements name i ss u ≡ Ok v → run_each i ss (seen_in u) ≡ Ok (seen_in v)
  all_seen i [] u v e = let same : u ≡ v = cc in ap (λ (x : Updated). Ok (seen_in x)) same
  all_seen i (s ∷ ss) u v e =
      let n = step_of (run_statement name i s u) (run_statements name (suc i) ss) v e in
      ap (λ (r : Result Listed Refusal). r >>= run_each (suc i) ss) (one_seen i s u n.0 n.1) ∙ all_seen (suc i) ss n.0 v n.2

  -- ---- and the other way round, where there is room for a collection that is made

  -- What a statement came to.
  pub record Came (i : ℕ) (s : UpdateStatement) (u : Updated) (m : Listed) : Type 0 where
    pub to : Updated
    pub is : run_statement name i s u ≡ Ok to
    pub seen : seen_in to ≡ m

  pub one_came : (i : ℕ) (s : UpdateStatement) (u : Updated) (m : Listed)
      → ((new : Pairs) → upsert_document s ≡ Ok new → (c : Changed) → update_from s (not_changed u) (documents_of u.collections name) ≡ Ok c
      → (not c.found && s.upsert) ≡ true → is_full u.collections name ≡ false)
      → run_listed i s (seen_in u) ≡ Ok m → Came i s u m
  one_came i s u m room e =
      let c = step_of (update_from s (not_changed u) (documents_of u.collections name)) (ends_listed i s (seen_in u)) m e in
      at c.0 c.1 (not c.0.found && s.upsert) refl c.2
    where
      placed : (c : Changed) → update_from s (not_changed u) (documents_of u.collections name) ≡ Ok c → (not c.found && s.upsert) ≡ true
          → (new : Pairs) → upsert_document s ≡ Ok new → (o : Option (List Pairs)) → place (key_of new) new (documents_of u.collections name) ≡ o
          → (or_refused o refusals.DuplicateKey >>= putting_listed i (seen_in u) new) ≡ Ok m → Came i s u m
      placed c is asked new makes None there f = absurd cc
      placed c is asked new makes (Some stored) there f =
          let same : with_listed i new stored (seen_in u) ≡ m = cc in
          record {
            to = with_upserted name i new stored u;
            is = ap (λ (r : Result Changed Refusal). r >>= ends i s u) is
                ∙ ap (λ (b : Bool). if b then upsert name i s u else Ok (updated_to name u c)) asked
                ∙ ap (λ (b : Bool). unless b refusals.TooMany (upsert_document s >>= (λ x.
                or_refused (place (key_of x) x (documents_of u.collections name)) refusals.DuplicateKey >>= putting i u x))) (room new makes c is asked)
                ∙ ap (λ (r : Result Pairs Refusal). r >>= (λ x.
                or_refused (place (key_of x) x (documents_of u.collections name)) refusals.DuplicateKey >>= putting i u x)) makes
                ∙ ap (λ (o : Option (List Pairs)). or_refused o refusals.DuplicateKey >>= putting i u new) there;
            seen = seen_upserted i new stored u ∙ same;
          }

      at : (c : Changed) → update_from s (not_changed u) (documents_of u.collections name) ≡ Ok c → (b : Bool) → (not c.found && s.upsert) ≡ b
          → (if b then upsert_listed i s (seen_in u) else Ok (listed_to (seen_in u) c)) ≡ Ok m → Came i s u m
      at c is false asked f =
          let same : listed_to (seen_in u) c ≡ m = cc in
          record {
            to = updated_to name u c;
            is = ap (λ (r : Result Changed Refusal). r >>= ends i s u) is
                ∙ ap (λ (b : Bool). if b then upsert name i s u else Ok (updated_to name u c)) asked;
            seen = seen_changed s u c is ∙ same;
          }
      at c is true asked f =
          let n = step_of (upsert_document s)
          (λ new. or_refused (place (key_of new) new (documents_of u.collections name)) refusals.DuplicateKey >>= putting_listed i (seen_in u) new) m f in
          placed c is asked n.0 n.1 (place (key_of n.0) n.0 (documents_of u.collections name)) refl n.2
