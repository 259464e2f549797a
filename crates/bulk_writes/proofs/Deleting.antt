-- The statements of a delete, one after the other.
use Rattle.std.proofs.Common.{◌≡◌, ◌≤◌, ◌+◌, ◌-◌, ℕ, suc, Bool, true, false, List, [], ◌∷◌, length, map, Option, Some, None, Result, Ok, refl, sym, ap, ◌∙◌}
use Rattle.std.proofs.Common.{arith, length-append, length-take, length-drop, take, drop, sum}
use Rattle.std.specs.Prelude.{not, if◌then◌else◌}
use Rattle.std.specs.List.{filter, position}
use Rattle.std.proofs.lemmas.List.Sums.{sum_by-cons}
use Rattle.bson.specs.Tree.{Pairs}
use Rattle.filter.specs.Matches.{matches}
use Rattle.outcome.specs.Outcome.{◌>>=◌}
use Rattle.path.specs.declared.refusal.Refusal.{Refusal}
use Rattle.command_model.specs.Delete.{Deletion}
use Rattle.entry_model.specs.State.{Collection, find_collection, put_collection}
use Rattle.entry_model.proofs.FoundLawLemmas.{put_twice}
use Rattle.entry_model.proofs.PlaceLemmas.{found_name}
use Rattle.database_model.specs.Delete.{after_deletion, after_deletions, deleted_in, run_delete, without_at}
use Rattle.database_model.specs.World.{World, documents_of, documents_or_none}
use Rattle.bulk_writes.specs.InTurn.{delete_one, run_in_turn}
use Rattle.bulk_writes.specs.Laws.{DeleteInTurn, taken_by, total_reply}
use Rattle.bulk_writes.proofs.Putting.{found_put}

-- ---- how many are taken away

filtered_length : (p : Pairs → Bool) (ds : List Pairs) → length (filter p ds) ≤ length ds
filtered_length p [] = omega arith
filtered_length p (d ∷ ds) = at (p d) (filtered_length p ds)
  where
    at : (b : Bool) → length (filter p ds) ≤ length ds → length (if b then d ∷ filter p ds else filter p ds) ≤ length (d ∷ ds)
    at true later = omega (arith, later)
    at false later = omega (arith, later)

without_length : (o : Option ℕ) (ds : List Pairs) → length (without_at o ds) ≤ length ds
without_length None ds = omega arith
without_length (Some i) ds = omega (arith, length-append (take i ds) (drop (suc i) ds), length-take i ds, length-drop (suc i) ds)

-- a statement makes none
no_more : (d : Deletion) (ds : List Pairs) → length (after_deletion d ds) ≤ length ds
no_more d ds = at d.only_first
  where
    at : (b : Bool)
        → length (if b then without_at (position (matches d.filter) ds) ds else filter (λ ps. not (matches d.filter ps)) ds) ≤ length ds
    at true = without_length (position (matches d.filter) ds) ds
    at false = filtered_length (λ ps. not (matches d.filter ps)) ds

none_more : (ss : List Deletion) (ds : List Pairs) → length (after_deletions ss ds) ≤ length ds
none_more [] ds = omega arith
none_more (d ∷ ss) ds = omega (arith, none_more ss (after_deletion d ds), no_more d ds)

taken_sum : (ss : List Deletion) (ds : List Pairs) → sum (taken_by ss ds) ≡ length ds - length (after_deletions ss ds)
taken_sum [] ds = omega arith
taken_sum (d ∷ ss) ds =
    let next = after_deletion d ds in
    sum_by-cons (λ (x : ℕ). x) (length ds - length next) (taken_by ss next)
    ∙ ap (λ (n : ℕ). (length ds - length next) + n) (taken_sum ss next)
    ∙ omega (arith, no_more d ds, none_more ss next)

-- ---- in the collections

nothing_left : (d : Deletion) → after_deletion d [] ≡ []
nothing_left d = at d.only_first
  where
    at : (b : Bool) → (if b then without_at (position (matches d.filter) []) [] else filter (λ ps. not (matches d.filter ps)) []) ≡ []
    at true = refl
    at false = refl

module _ (name : List ℕ) where
  abbrev deleted : List Deletion → List Collection → List Collection
  deleted ss cs = deleted_in (find_collection cs name) ss cs

  -- what the first statement leaves, and then the others
  record GoesOn (d : Deletion) (cs : List Collection) : Type 0 where
    pub left : documents_of (deleted (d ∷ []) cs) name ≡ after_deletion d (documents_of cs name)
    pub then_others : (s : Deletion) (ss : List Deletion) → deleted (s ∷ ss) (deleted (d ∷ []) cs) ≡ deleted (d ∷ s ∷ ss) cs

  goes_on : (d : Deletion) (cs : List Collection) → GoesOn d cs
  goes_on d cs = at (find_collection cs name) refl
    where
      at : (o : Option Collection) → find_collection cs name ≡ o → GoesOn d cs
      at None missing =
          let same : deleted (d ∷ []) cs ≡ cs = ap (λ (o : Option Collection). deleted_in o (d ∷ []) cs) missing in
          record {
            left = ap (λ (xs : List Collection). documents_of xs name) same ∙ ap documents_or_none missing ∙ sym (nothing_left d)
                ∙ sym (ap (λ (o : Option Collection). after_deletion d (documents_or_none o)) missing);
            then_others = λ s ss. ap (deleted (s ∷ ss)) same ∙ ap (λ (o : Option Collection). deleted_in o (s ∷ ss) cs) missing
                ∙ sym (ap (λ (o : Option Collection). deleted_in o (d ∷ s ∷ ss) cs) missing);
          }
      at (Some c) found =
          let next : Collection = record c { documents = after_deletion d c.documents } in
          let put : deleted (d ∷ []) cs ≡ put_collection next cs = ap (λ (o : Option Collection). deleted_in o (d ∷ []) cs) found in
          let there : find_collection (put_collection next cs) name ≡ Some next = found_put next cs name (sym (found_name cs name c found)) in
          record {
            left = ap (λ (xs : List Collection). documents_of xs name) put ∙ ap documents_or_none there
                ∙ sym (ap (λ (o : Option Collection). after_deletion d (documents_or_none o)) found);
            then_others = λ s ss. ap (deleted (s ∷ ss)) put
                ∙ ap (λ (o : Option Collection). deleted_in o (s ∷ ss) (put_collection next cs)) there
                ∙ put_twice (record next { documents = after_deletions (s ∷ ss) next.documents }) next cs refl
                ∙ sym (ap (λ (o : Option Collection). deleted_in o (d ∷ s ∷ ss) cs) found);
          }

-- ---- in a world

module _ (connection : ℕ) (name : List ℕ) where
  abbrev left_in : World → List Deletion → World
  left_in world ss = record world { collections = deleted name ss world.collections }

  abbrev told : World → List Deletion → List Pairs
  told world ss = map total_reply (taken_by ss (documents_of world.collections name))

  in_turn_so : (world : World) (d : Deletion) (ss : List Deletion)
      → run_in_turn world connection (map (delete_one name) (d ∷ ss)) ≡ Ok (left_in world (d ∷ ss), told world (d ∷ ss))
  unfolding run_delete
  in_turn_so world d [] = refl
  in_turn_so world d (s ∷ ss) =
      let on = goes_on name d world.collections in
      let first = total_reply (length (documents_of world.collections name) - length (after_deletion d (documents_of world.collections name))) in
      ap (λ (r : Result (World × List Pairs) Refusal). r >>= (λ later. Ok (later.0, first ∷ later.1))) (in_turn_so (left_in world (d ∷ [])) s ss)
      ∙ (λ k. Ok (
        record world { collections = on.then_others s ss k },
        first ∷ map total_reply (taken_by (s ∷ ss) (on.left k)),
      ))

-- ---- the law

pub delete_in_turn : DeleteInTurn
unfolding run_delete
delete_in_turn world connection c some = record {
  new = left_in connection c.namespace world c.deletions;
  whole = ap (λ (n : ℕ). Ok (left_in connection c.namespace world c.deletions, total_reply n))
      (sym (taken_sum c.deletions (documents_of world.collections c.namespace)));
  same = at c.deletions refl;
}
  where
    at : (ss : List Deletion) → c.deletions ≡ ss
        → run_in_turn world connection (map (delete_one c.namespace) c.deletions)
        ≡ Ok (left_in connection c.namespace world c.deletions, told connection c.namespace world c.deletions)
    at [] is = absurd (some is)
    at (d ∷ ss) is =
        ap (λ (xs : List Deletion). run_in_turn world connection (map (delete_one c.namespace) xs)) is ∙ in_turn_so connection c.namespace world d ss
        ∙ ap (λ (xs : List Deletion). Ok (left_in connection c.namespace world xs, told connection c.namespace world xs)) (sym is)
