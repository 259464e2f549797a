-- What an update makes of the collections is what it makes of the documents of its collection.
use Rattle.std.proofs.Common.{◌≡◌, ℕ, suc, Bool, true, false, List, [], ◌∷◌, length, Option, Some, None, Result, Ok, Err, refl, sym, ap, ◌∙◌}
use Rattle.std.specs.Prelude.{not, ◌||◌, ◌&&◌, if◌then◌else◌, nat_le, is_some}
use Rattle.bson.specs.Tree.{document, Pairs, Items, item, no_items, append_items}
use Rattle.outcome.specs.Outcome.{◌>>=◌, or_refused, unless}
use Rattle.path.specs.declared.refusal.Refusal.{Refusal}
use Rattle.path.specs.declared.refusal.Refusal.TheVariants as refusals
use Rattle.command_model.specs.Update.{UpdateStatement}
use Rattle.entry_model.specs.State.{Collection, find_collection, put_collection}
use Rattle.entry_model.proofs.FoundLawLemmas.{finds_put, put_twice}
use Rattle.database_model.specs.Documents.{key_of, place}
use Rattle.database_model.specs.Merging.{Listed, none_changed, listed_to, with_listed, upsert_listed, run_listed, run_each, makes_any, listed_in}
use Rattle.database_model.specs.Update.{counted, Changed, update_from, changed_in, Updated, not_changed, updated_to, upsert_document, upserted_entry}
use Rattle.database_model.specs.Update.{with_upserted, upsert, run_statement, run_statements}
use Rattle.database_model.specs.World.{documents_or_none, documents_of, or_empty, unused, with_documents}
use Rattle.statements.proofs.MeantUpdates.{listed_with}

abbrev pub each_in : Collection → List Collection → Result Listed Refusal → Result Updated Refusal
each_in c cs (Ok l) = Ok (listed_in c cs l)
each_in c cs (Err e) = Err e

and_false : (b : Bool) → (b && false) ≡ false
and_false true = refl
and_false false = refl

-- what is done once the documents that match are
abbrev ends : List ℕ → ℕ → UpdateStatement → Updated → Changed → Result Updated Refusal
ends name i s u changed = if not changed.found && s.upsert then upsert name i s u else Ok (updated_to name u changed)

-- a document is made, where there is room
abbrev makes : List ℕ → ℕ → UpdateStatement → Updated → Result Updated Refusal
makes name i s u =
    upsert_document s >>=
    (λ new. or_refused (place (key_of new) new (documents_of u.collections name)) refusals.DuplicateKey >>= (λ stored. Ok (with_upserted name i new stored u)))

-- ---- a collection that is there

module _ (c : Collection) (cs : List Collection) (i : ℕ) (s : UpdateStatement) (l : Listed) where
  abbrev here : Collection
  here = record c { documents = l.documents }

  abbrev u : Updated
  u = listed_in c cs l

  found : find_collection u.collections c.name ≡ Some here
  found = finds_put here cs

  put_again : (ds : List Pairs) → put_collection (record c { documents = ds }) u.collections ≡ put_collection (record c { documents = ds }) cs
  put_again ds = put_twice (record c { documents = ds }) here cs refl

  changed_there : (changed : Changed) → updated_to c.name u changed ≡ listed_in c cs (listed_to l changed)
  changed_there changed =
      let put = ap (λ (o : Option Collection). changed_in o changed.documents u.collections) found ∙ put_again changed.documents in
      λ k. record { collections = put k; matched = changed.matched; modified = changed.modified; upserted = l.upserted }

  upserted_there : (new : Pairs) (stored : List Pairs) → with_upserted c.name i new stored u ≡ listed_in c cs (with_listed i new stored l)
  upserted_there new stored =
      let made : put_collection (with_documents u.collections c.name stored) u.collections ≡ put_collection (record c { documents = stored }) cs =
      ap (λ (o : Option Collection). put_collection (record (or_empty c.name (unused u.collections) o) { documents = stored }) u.collections) found
      ∙ put_again stored in
      λ k. record {
        collections = made k;
        matched = counted l.matched;
        modified = l.modified;
        upserted = append_items l.upserted (item (document (upserted_entry i (key_of new))) no_items);
      }

  upsert_there : upsert c.name i s u ≡ each_in c cs (upsert_listed i s l)
  upsert_there =
      ap (λ (b : Bool). unless b refusals.TooMany (makes c.name i s u))
      (ap (λ (o : Option Collection). nat_le 1000 (length u.collections) && not (is_some o)) found ∙ and_false (nat_le 1000 (length u.collections)))
      ∙ at (upsert_document s)
    where
      put : (new : Pairs) (o : Option (List Pairs))
          → (or_refused o refusals.DuplicateKey >>= (λ stored. let r : Result Updated Refusal = Ok (with_upserted c.name i new stored u) in r))
          ≡ each_in c cs (or_refused o refusals.DuplicateKey >>= (λ stored. Ok (with_listed i new stored l)))
      put new None = refl
      put new (Some stored) = ap (λ (x : Updated). Ok x) (upserted_there new stored)

      at : (r : Result Pairs Refusal)
          → (r >>= (λ new. or_refused (place (key_of new) new (documents_of u.collections c.name)) refusals.DuplicateKey >>=
          (λ stored. let r : Result Updated Refusal = Ok (with_upserted c.name i new stored u) in r)))
          ≡ each_in c cs (r >>= (λ new. or_refused (place (key_of new) new l.documents) refusals.DuplicateKey >>= (λ stored. Ok (with_listed i new stored l))))
      at (Err e) = refl
      at (Ok new) =
          ap (λ (o : Option Collection). or_refused (place (key_of new) new (documents_or_none o)) refusals.DuplicateKey >>=
          (λ stored. let r : Result Updated Refusal = Ok (with_upserted c.name i new stored u) in r)) found
          ∙ put new (place (key_of new) new l.documents)

  pub one_there : run_statement c.name i s u ≡ each_in c cs (run_listed i s l)
  one_there = ap (λ (o : Option Collection). update_from s (not_changed u) (documents_or_none o) >>= ends c.name i s u) found
      ∙ at (update_from s (none_changed l) l.documents)
    where
      by : (b : Bool) (changed : Changed)
          → (if b then upsert c.name i s u else Ok (updated_to c.name u changed)) ≡ each_in c cs (if b then upsert_listed i s l else Ok (listed_to l changed))
      by true changed = upsert_there
      by false changed = ap (λ (x : Updated). Ok x) (changed_there changed)

      at : (r : Result Changed Refusal) → (r >>= (λ changed. if not changed.found && s.upsert then upsert c.name i s u else Ok (updated_to c.name u changed)))
          ≡ each_in c cs (r >>= (λ changed. if not changed.found && s.upsert then upsert_listed i s l else Ok (listed_to l changed)))
      at (Err e) = refl
      at (Ok changed) = by (not changed.found && s.upsert) changed

pub each_there : (c : Collection) (cs : List Collection) (i : ℕ) (ss : List UpdateStatement) (l : Listed)
    → run_statements c.name i ss (listed_in c cs l) ≡ each_in c cs (run_each i ss l)
each_there c cs i [] l = refl
each_there c cs i (s ∷ ss) l =
    ap (λ (r : Result Updated Refusal). r >>= run_statements c.name (suc i) ss) (one_there c cs i s l) ∙ at (run_listed i s l) (each_there c cs (suc i) ss)
  where
    at : (r : Result Listed Refusal) → ((m : Listed) → run_statements c.name (suc i) ss (listed_in c cs m) ≡ each_in c cs (run_each (suc i) ss m))
        → (each_in c cs r >>= run_statements c.name (suc i) ss) ≡ each_in c cs (r >>= run_each (suc i) ss)
    at (Err e) go = refl
    at (Ok m) go = go m

-- ---- a missing one

module _ (name : List ℕ) (cs : List Collection) (missing : find_collection cs name ≡ None) where
  abbrev made : Collection
  made = or_empty name (unused cs) None

  abbrev updated_with : ℕ → ℕ → Items → Updated
  updated_with a n us = record { collections = cs; matched = a; modified = n; upserted = us }

  abbrev none_listed : ℕ → ℕ → Items → Listed
  none_listed a n us = listed_with [] a n us

  -- a statement that makes none does nothing
  nothing : (i : ℕ) (s : UpdateStatement) (a n : ℕ) (us : Items) → s.upsert ≡ false → run_statement name i s (updated_with a n us) ≡ Ok (updated_with a n us)
  nothing i s a n us none =
      ap (λ (o : Option Collection). update_from s (not_changed (updated_with a n us)) (documents_or_none o) >>= ends name i s (updated_with a n us)) missing
      ∙ ap (λ (b : Bool). if b then upsert name i s (updated_with a n us)
      else Ok (updated_to name (updated_with a n us) (not_changed (updated_with a n us)))) none
      ∙ ap (λ (o : Option Collection). Ok (record (updated_with a n us) { collections = changed_in o [] cs })) missing

  nothing_listed : (i : ℕ) (s : UpdateStatement) (a n : ℕ) (us : Items) → s.upsert ≡ false → run_listed i s (none_listed a n us) ≡ Ok (none_listed a n us)
  nothing_listed i s a n us none = ap (λ (b : Bool). if b then upsert_listed i s (none_listed a n us) else Ok (none_listed a n us)) none

  -- the first that makes one makes the collection
  upserts : (i : ℕ) (s : UpdateStatement) (a n : ℕ) (us : Items) → s.upsert ≡ true
      → run_statement name i s (updated_with a n us) ≡ upsert name i s (updated_with a n us)
  upserts i s a n us makes =
      ap (λ (o : Option Collection). update_from s (not_changed (updated_with a n us)) (documents_or_none o) >>= ends name i s (updated_with a n us)) missing
      ∙ ap (λ (b : Bool). if b then upsert name i s (updated_with a n us)
      else Ok (updated_to name (updated_with a n us) (not_changed (updated_with a n us)))) makes

  upserts_listed : (i : ℕ) (s : UpdateStatement) (a n : ℕ) (us : Items) → s.upsert ≡ true
      → run_listed i s (none_listed a n us) ≡ upsert_listed i s (none_listed a n us)
  upserts_listed i s a n us makes = ap (λ (b : Bool). if b then upsert_listed i s (none_listed a n us) else Ok (none_listed a n us)) makes

  first_made : (i : ℕ) (s : UpdateStatement) (a n : ℕ) (us : Items) → nat_le 1000 (length cs) ≡ false
      → upsert name i s (updated_with a n us) ≡ each_in made cs (upsert_listed i s (none_listed a n us))
  first_made i s a n us room =
      ap (λ (b : Bool). unless (b && not (is_some (find_collection cs name))) refusals.TooMany (makes name i s (updated_with a n us))) room
      ∙ at (upsert_document s)
    where
      at : (r : Result Pairs Refusal)
          → (r >>= (λ new. or_refused (place (key_of new) new (documents_of cs name)) refusals.DuplicateKey >>=
          (λ stored. let r : Result Updated Refusal = Ok (with_upserted name i new stored (updated_with a n us)) in r)))
          ≡ each_in made cs
          (r >>= (λ new. or_refused (place (key_of new) new []) refusals.DuplicateKey >>= (λ stored. Ok (with_listed i new stored (none_listed a n us)))))
      at (Err e) = refl
      at (Ok new) =
          ap (λ (o : Option Collection). or_refused (place (key_of new) new (documents_or_none o)) refusals.DuplicateKey
          >>= (λ stored. let r : Result Updated Refusal = Ok (with_upserted name i new stored (updated_with a n us)) in r)) missing
          ∙ ap (λ (o : Option Collection). Ok (record {
            collections = put_collection (record (or_empty name (unused cs) o) { documents = new ∷ [] }) cs;
            matched = counted a;
            modified = n;
            upserted = append_items us (item (document (upserted_entry i (key_of new))) no_items);
          })) missing

  -- without a statement that makes one nothing is done, else they go on in the collection that is made
  pub each_missing : (i : ℕ) (ss : List UpdateStatement) (a n : ℕ) (us : Items) → nat_le 1000 (length cs) ≡ false
      → run_statements name i ss (updated_with a n us)
      ≡ (if makes_any ss then each_in made cs (run_each i ss (none_listed a n us)) else Ok (updated_with a n us))
  each_missing i [] a n us room = refl
  each_missing i (s ∷ ss) a n us room = at s.upsert refl (each_missing (suc i) ss a n us room)
    where
      goes_on : (r : Result Listed Refusal) → (each_in made cs r >>= run_statements name (suc i) ss) ≡ each_in made cs (r >>= run_each (suc i) ss)
      goes_on (Err e) = refl
      goes_on (Ok m) = each_there made cs (suc i) ss m

      at : (b : Bool) → s.upsert ≡ b
          → run_statements name (suc i) ss (updated_with a n us)
          ≡ (if makes_any ss then each_in made cs (run_each (suc i) ss (none_listed a n us)) else Ok (updated_with a n us))
          → run_statements name i (s ∷ ss) (updated_with a n us)
          ≡ (if b || makes_any ss then each_in made cs (run_each i (s ∷ ss) (none_listed a n us)) else Ok (updated_with a n us))
      at true e later =
          ap (λ (r : Result Updated Refusal). r >>= run_statements name (suc i) ss) (upserts i s a n us e ∙ first_made i s a n us room)
          ∙ goes_on (upsert_listed i s (none_listed a n us))
          ∙ ap (λ (r : Result Listed Refusal). each_in made cs (r >>= run_each (suc i) ss)) (sym (upserts_listed i s a n us e))
      at false e later =
          ap (λ (r : Result Updated Refusal). r >>= run_statements name (suc i) ss) (nothing i s a n us e) ∙ later
          ∙ ap (λ (r : Result Listed Refusal). if makes_any ss then each_in made cs (r >>= run_each (suc i) ss) else Ok (updated_with a n us))
          (sym (nothing_listed i s a n us e))

  -- with no room for it, the first statement that makes one is refused
  pub each_full : (i : ℕ) (ss : List UpdateStatement) (a n : ℕ) (us : Items) → nat_le 1000 (length cs) ≡ true
      → run_statements name i ss (updated_with a n us) ≡ (if makes_any ss then Err refusals.TooMany else Ok (updated_with a n us))
  each_full i [] a n us full = refl
  each_full i (s ∷ ss) a n us full = at s.upsert refl (each_full (suc i) ss a n us full)
    where
      refused : upsert name i s (updated_with a n us) ≡ Err refusals.TooMany
      refused =
          let none : (nat_le 1000 (length cs) && not (is_some (find_collection cs name))) ≡ true =
          ap (λ (b : Bool). b && not (is_some (find_collection cs name))) full ∙ ap (λ (o : Option Collection). not (is_some o)) missing in
          ap (λ (b : Bool). unless b refusals.TooMany (upsert_document s
          >>= (λ new. or_refused (place (key_of new) new (documents_of cs name)) refusals.DuplicateKey >>=
          (λ stored. Ok (with_upserted name i new stored (updated_with a n us)))))) none

      at : (b : Bool) → s.upsert ≡ b
          → run_statements name (suc i) ss (updated_with a n us) ≡ (if makes_any ss then Err refusals.TooMany else Ok (updated_with a n us))
          → run_statements name i (s ∷ ss) (updated_with a n us) ≡ (if b || makes_any ss then Err refusals.TooMany else Ok (updated_with a n us))
      at true e later = ap (λ (r : Result Updated Refusal). r >>= run_statements name (suc i) ss) (upserts i s a n us e ∙ refused)
      at false e later = ap (λ (r : Result Updated Refusal). r >>= run_statements name (suc i) ss) (nothing i s a n us e) ∙ later
