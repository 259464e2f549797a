-- Of the documents that an update reads its statements make and write what they do of all of their collection.
use Rattle.std.proofs.Common.{◌≡◌, inl, inr, Bool, true, false, List, [], ◌∷◌, take, Some, None, Ok, Err, refl, sym, subst, ◌∙◌}
use Rattle.std.proofs.Common.{arith}
use Rattle.std.specs.Prelude.{All, if◌then◌else◌}
use Rattle.std.specs.List.{filter}
use Rattle.std.specs.Ordering.{is_eq}
use Rattle.std.specs.declared.cmp.Ordering.TheVariants as orders
use Rattle.std.proofs.lemmas.List.Elements.{All-filter, All-take}
use Rattle.std.proofs.lemmas.List.Kept.{AllPairs-filter}
use Rattle.bson.specs.Tree.{Pairs}
use Rattle.value_order.specs.Order.{compare}
use Rattle.path.specs.declared.refusal.Refusal.{Refusal}
use Rattle.command_model.specs.Update.{UpdateStatement, IsRead}
use Rattle.entry_model.specs.LawfulState.{IsRising}
use Rattle.entry_model.specs.StateReads.{find_document}
use Rattle.database_model.specs.Documents.{key_of}
use Rattle.database_model.specs.Lawful.{IsStored}
use Rattle.database_model.specs.Merging.{Listed, is_meant, not_listed, put_each, run_each}
use Rattle.database_model.specs.Writes.{writes_of}
use Rattle.engine.specs.Putting.{AreMeantOf, ChangesFirst}
use Rattle.statements.proofs.FirstUpdates.{all_match, done_first, refused_first, writes_first}
use Rattle.statements.proofs.MeantUpdates.{done_alike, refused_alike}
use Rattle.statements.proofs.WriteLawLemmas.{writes_of_meant}
use Rattle.engine.proofs.ReplacedLemmas.{IsSub, sub_filter}

-- Of the few the statements make and write what they do of all.
pub record AreEnough (ss : List UpdateStatement) (few all : List Pairs) : Type 0 where
  pub refused : (e : Refusal) → run_each 0 ss (not_listed few) ≡ Err e → run_each 0 ss (not_listed all) ≡ Err e
  pub done : (news : List Pairs) (l : Listed) → run_each 0 ss (not_listed few) ≡ Ok l → put_each news few ≡ l.documents
      → run_each 0 ss (not_listed all) ≡ Ok (record l { documents = put_each news all })
  pub writes : writes_of ss few ≡ writes_of ss all
  pub sub : IsSub few all
  pub rising : IsRising few
  pub stored : All IsStored few

rising_first : (ds : List Pairs) → IsRising ds → IsRising (take 1 ds)
rising_first [] up = up
rising_first (d ∷ ds) up = λ i j x less within. absurd (omega (arith, less, within))

sub_first : (ds : List Pairs) → IsSub (take 1 ds) ds
sub_first [] id d e = e
sub_first (x ∷ ds) id d e = at (is_eq (compare id (key_of x))) e
  where
    at : (b : Bool) → (if b then Some x else None) ≡ Some d → (if b then Some x else find_document ds id) ≡ Some d
    at true is = is
    at false missing = absurd cc

-- The first is enough where the only statement changes one and makes none.
first_enough : (ss : List UpdateStatement) → ChangesFirst ss → (ds : List Pairs) → IsRising ds → All IsStored ds
    → AreEnough ss (take 1 (filter (is_meant ss) ds)) (filter (is_meant ss) ds)
first_enough [] none ds rising stored = absurd none
first_enough (s ∷ []) first ds rising stored =
    let among = filter (is_meant (s ∷ [])) ds in
    let all = all_match s first.0 first.1 ds in
    record {
      refused = λ e. refused_first s first.0 e among all;
      done = λ news l. done_first s first.0 news l among all;
      writes = writes_first s first.0 among all;
      sub = sub_first among;
      rising = rising_first among (AllPairs-filter (λ (d e : Pairs). compare (key_of d) (key_of e) ≡ orders.Less) (is_meant (s ∷ [])) ds rising);
      stored = All-take IsStored 1 among (All-filter (is_meant (s ∷ [])) IsStored ds stored);
    }
first_enough (s ∷ t ∷ ss) none ds rising stored = absurd none

module _ (ss : List UpdateStatement) (ds : List Pairs) (read : All (λ (s : UpdateStatement). IsRead s.change) ss) (rising : IsRising ds)
    (stored : All IsStored ds) where
  -- So are all that are meant.
  meant_enough : AreEnough ss (filter (is_meant ss) ds) ds
  meant_enough = record {
    refused = refused_alike ss ds read rising stored;
    done = done_alike ss ds read rising stored;
    writes = writes_of_meant ss ds (record { read = read; rising = rising; stored = stored });
    sub = sub_filter (is_meant ss) ds rising;
    rising = AllPairs-filter (λ (d e : Pairs). compare (key_of d) (key_of e) ≡ orders.Less) (is_meant ss) ds rising;
    stored = All-filter (is_meant ss) IsStored ds stored;
  }

  first_meant_enough : ChangesFirst ss → AreEnough ss (take 1 (filter (is_meant ss) ds)) ds
  first_meant_enough first =
      let all = meant_enough in
      let few = first_enough ss first ds rising stored in
      record {
        refused = λ e is. all.refused e (few.refused e is);
        done = λ news l is puts. all.done news (record l { documents = put_each news (filter (is_meant ss) ds) }) (few.done news l is puts) refl;
        writes = few.writes ∙ all.writes;
        sub = λ id d found. all.sub id d (few.sub id d found);
        rising = few.rising;
        stored = few.stored;
      }

  pub are_enough : (found : List Pairs) → AreMeantOf ss ds found → AreEnough ss found ds
  are_enough found (inl all) = subst (λ (few : List Pairs). AreEnough ss few ds) (sym all) meant_enough
  are_enough found (inr (first, is)) = subst (λ (few : List Pairs). AreEnough ss few ds) (sym is) (first_meant_enough first)
