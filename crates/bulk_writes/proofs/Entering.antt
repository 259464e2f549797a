-- What is written to a collection, at once or some of it first and the rest then.
use Rattle.std.proofs.Common.{◌≡◌, ℕ, false, List, [], ◌∷◌, ◌++◌, append-nil, Option, Result, Ok, Err, refl, sym, ap, ◌∙◌}
use Rattle.outcome.specs.Outcome.{◌>>=◌}
use Rattle.path.specs.declared.refusal.Refusal.{Refusal}
use Rattle.path.specs.declared.refusal.Refusal.TheVariants as refusals
use Rattle.command_model.specs.OutcomeLaws.{passed, step_of}
use Rattle.entry_model.specs.Entering.{DocumentWrite, enter_each, entered}
use Rattle.entry_model.specs.State.{Collection, put_collection}
use Rattle.entry_model.proofs.EnteringLemmas.{has_entered}
use Rattle.database_model.specs.Insert.{is_full}
use Rattle.database_model.specs.Merging.{put_each}
use Rattle.database_model.specs.UpdateCommand.{entered_in, written_in}
use Rattle.database_model.specs.World.{collection_of, documents_of, documents_or_none}
use Rattle.statements.specs.WriteLaws.{documents_in}
use Rattle.bulk_writes.proofs.Putting.{found_put, put_append, room_put}

each_append : (c : Collection) (a b : List DocumentWrite) → enter_each c (a ++ b) ≡ (enter_each c a >>= (λ m. enter_each m b))
each_append c [] b = refl
each_append c (w ∷ a) b = by (entered c w) (λ m. each_append m a b)
  where
    by : (r : Result Collection Refusal) → ((m : Collection) → enter_each m (a ++ b) ≡ (enter_each m a >>= (λ n. enter_each n b)))
        → (r >>= (λ m. enter_each m (a ++ b))) ≡ ((r >>= (λ m. enter_each m a)) >>= (λ m. enter_each m b))
    by (Err e) later = refl
    by (Ok m) later = later m

each_named : (c next : Collection) (ws : List DocumentWrite) → enter_each c ws ≡ Ok next → next.name ≡ c.name
each_named c next [] e = let same : c ≡ next = cc in ap (λ (n : Collection). n.name) (sym same)
each_named c next (w ∷ ws) e =
    let s = step_of (entered c w) (λ m. enter_each m ws) next e in
    each_named s.0 next ws s.2 ∙ ap (λ (n : Collection). n.name) (has_entered c s.0 w s.1).is

each_documents : (ws : List DocumentWrite) (c next : Collection) → enter_each c ws ≡ Ok next → next.documents ≡ put_each (documents_in ws) c.documents
each_documents [] c next e = let same : c ≡ next = cc in ap (λ (n : Collection). n.documents) (sym same)
each_documents (w ∷ ws) c next e =
    let s = step_of (entered c w) (λ m. enter_each m ws) next e in
    each_documents ws s.0 next s.2 ∙ ap (λ (n : Collection). put_each (documents_in ws) n.documents) (has_entered c s.0 w s.1).is

module _ (name : List ℕ) where
  -- some are written, and then the others
  pub entered_append : (a b : List DocumentWrite) (cs : List Collection)
      → entered_in name (a ++ b) cs ≡ (entered_in name a cs >>= (λ next. entered_in name b next))
  entered_append [] b cs = refl
  entered_append (w ∷ a) [] cs = ap (λ (ws : List DocumentWrite). written_in name (w ∷ ws) cs) (append-nil a) ∙ by (written_in name (w ∷ a) cs)
    where
      by : (r : Result (List Collection) Refusal) → r ≡ (r >>= (λ next. entered_in name [] next))
      by (Err e) = refl
      by (Ok next) = refl
  entered_append (w ∷ a) (v ∷ b) cs = put_append enter_each each_append each_named name cs (w ∷ a) (v ∷ b)

  -- what is written where there is room
  pub record IsWritten (ws : List DocumentWrite) (cs next : List Collection) : Type 0 where
    pub room : is_full cs name ≡ false
    pub after : is_full next name ≡ false
    pub left : documents_of next name ≡ put_each (documents_in ws) (documents_of cs name)

  pub is_written : (ws : List DocumentWrite) (cs next : List Collection) → written_in name ws cs ≡ Ok next → IsWritten ws cs next
  is_written ws cs next e =
      let there = collection_of cs name in
      let p = passed (is_full cs name) refusals.TooMany _ next e in
      let s = step_of (enter_each there ws) (λ m. let r : Result (List Collection) Refusal = Ok (put_collection m cs) in r) next p.1 in
      let same : put_collection s.0 cs ≡ next = cc in
      record {
        room = p.0;
        after = ap (λ (xs : List Collection). is_full xs name) (sym same) ∙ room_put s.0 cs name (each_named there s.0 ws s.1);
        left = ap (λ (xs : List Collection). documents_of xs name) (sym same)
            ∙ ap (λ (o : Option Collection). documents_or_none o) (found_put s.0 cs name (each_named there s.0 ws s.1)) ∙ each_documents ws there s.0 s.1;
      }

  pub entered_documents : (ws : List DocumentWrite) (cs next : List Collection) → entered_in name ws cs ≡ Ok next
      → documents_of next name ≡ put_each (documents_in ws) (documents_of cs name)
  entered_documents [] cs next e = let same : cs ≡ next = cc in ap (λ (xs : List Collection). documents_of xs name) (sym same)
  entered_documents (w ∷ ws) cs next e = (is_written (w ∷ ws) cs next e).left
