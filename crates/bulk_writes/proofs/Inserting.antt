-- The documents of an insert, inserted one after the other.
use Rattle.std.proofs.Common.{◌≡◌, ℕ, Bool, true, false, List, [], ◌∷◌, ◌++◌, length, map, Result, Ok, Err, refl, sym, ap, ◌∙◌}
use Rattle.bson.specs.Tree.{Pairs}
use Rattle.outcome.specs.Outcome.{◌>>=◌, unless}
use Rattle.path.specs.declared.refusal.Refusal.{Refusal}
use Rattle.path.specs.declared.refusal.Refusal.TheVariants as refusals
use Rattle.update_model.specs.Stored.{id_first}
use Rattle.command_model.specs.Command.{Command}
use Rattle.command_model.specs.Insert.{Insert}
use Rattle.command_model.specs.OutcomeLaws.{step_of}
use Rattle.entry_model.specs.Entering.{entered}
use Rattle.entry_model.specs.State.{Collection, put_collection}
use Rattle.entry_model.proofs.EnteringLemmas.{has_entered}
use Rattle.database_model.specs.Documents.{checked, insert_all, insert_one as enter_one}
use Rattle.database_model.specs.Insert.{inserted, is_full, run_insert}
use Rattle.database_model.specs.World.{World, collection_of}
use Rattle.bulk_writes.specs.InTurn.{insert_one, run_in_turn}
use Rattle.bulk_writes.specs.Laws.{InsertInTurn, n_reply, ones}
use Rattle.bulk_writes.proofs.Putting.{put_append}

-- ---- in a collection

all_append : (c : Collection) (a b : List Pairs) → insert_all c (a ++ b) ≡ (insert_all c a >>= (λ m. insert_all m b))
all_append c [] b = refl
all_append c (ps ∷ a) b = by (enter_one c ps) (λ m. all_append m a b)
  where
    by : (r : Result Collection Refusal) → ((m : Collection) → insert_all m (a ++ b) ≡ (insert_all m a >>= (λ n. insert_all n b)))
        → (r >>= (λ m. insert_all m (a ++ b))) ≡ ((r >>= (λ m. insert_all m a)) >>= (λ m. insert_all m b))
    by (Err e) later = refl
    by (Ok m) later = later m

one_named : (c next : Collection) (ps : Pairs) → enter_one c ps ≡ Ok next → next.name ≡ c.name
unfolding enter_one
one_named c next ps e =
    let s = step_of (checked ps) (λ id. entered c (record { is_new = true; document = id_first ps })) next e in
    ap (λ (n : Collection). n.name) (has_entered c next (record { is_new = true; document = id_first ps }) s.2).is

all_named : (c next : Collection) (ds : List Pairs) → insert_all c ds ≡ Ok next → next.name ≡ c.name
all_named c next [] e = let same : c ≡ next = cc in ap (λ (n : Collection). n.name) (sym same)
all_named c next (ps ∷ ds) e =
    let s = step_of (enter_one c ps) (λ m. insert_all m ds) next e in
    all_named s.0 next ds s.2 ∙ one_named c s.0 ps s.1

-- some are inserted, and then the others
inserted_append : (cs : List Collection) (name : List ℕ) (a b : List Pairs)
    → inserted cs name (a ++ b) ≡ (inserted cs name a >>= (λ next. inserted next name b))
inserted_append cs name a b = put_append insert_all all_append all_named name cs a b

-- ---- in a world

module _ (world : World) where
  abbrev with_next : List Collection → World
  with_next next = record world { collections = next }

  -- the world with these, or the refusal
  abbrev come_to : Result (List Collection) Refusal → Pairs → Result (World × Pairs) Refusal
  come_to r reply = r >>= (λ next. Ok (with_next next, reply))

  abbrev all_come_to : Result (List Collection) Refusal → List Pairs → Result (World × List Pairs) Refusal
  all_come_to r replies = r >>= (λ next. Ok (with_next next, replies))

  inserts_so : (c : Insert) → run_insert world c ≡ come_to (inserted world.collections c.namespace c.documents) (n_reply (length c.documents))
  unfolding run_insert
  inserts_so c = at (is_full world.collections c.namespace) (insert_all (collection_of world.collections c.namespace) c.documents)
    where
      at : (full : Bool) (r : Result Collection Refusal)
          → unless full refusals.TooMany (r >>= (λ next. Ok (with_next (put_collection next world.collections), n_reply (length c.documents))))
          ≡ come_to (unless full refusals.TooMany (r >>= (λ next. Ok (put_collection next world.collections)))) (n_reply (length c.documents))
      at true r = refl
      at false (Err e) = refl
      at false (Ok next) = refl

-- with the reply of the first in front
abbrev behind : Pairs → Result (World × List Pairs) Refusal → Result (World × List Pairs) Refusal
behind reply r = r >>= (λ later. Ok (later.0, reply ∷ later.1))

module _ (connection : ℕ) (name : List ℕ) where
  abbrev each : List Pairs → List Command
  each ds = map (insert_one name) ds

  abbrev goes_on : List Pairs → Result (World × Pairs) Refusal → Result (World × List Pairs) Refusal
  goes_on ds r = r >>= (λ first. behind first.1 (run_in_turn first.0 connection (each ds)))

  in_turn_so : (world : World) (ps : Pairs) (ds : List Pairs)
      → run_in_turn world connection (each (ps ∷ ds)) ≡ all_come_to world (inserted world.collections name (ps ∷ ds)) (ones (ps ∷ ds))
  in_turn_so world ps [] = ap (goes_on []) (inserts_so world (record { namespace = name; documents = ps ∷ [] }))
      ∙ at (inserted world.collections name (ps ∷ []))
    where
      at : (r : Result (List Collection) Refusal) → goes_on [] (come_to world r (n_reply 1)) ≡ all_come_to world r (ones (ps ∷ []))
      at (Err e) = refl
      at (Ok next) = refl
  in_turn_so world ps (d ∷ ds) =
      ap (goes_on (d ∷ ds)) (inserts_so world (record { namespace = name; documents = ps ∷ [] }))
      ∙ at (inserted world.collections name (ps ∷ [])) (λ next. in_turn_so (with_next world next) d ds)
      ∙ ap (λ (r : Result (List Collection) Refusal). all_come_to world r (ones (ps ∷ d ∷ ds)))
      (sym (inserted_append world.collections name (ps ∷ []) (d ∷ ds)))
    where
      by : (r : Result (List Collection) Refusal) → behind (n_reply 1) (all_come_to world r (ones (d ∷ ds))) ≡ all_come_to world r (ones (ps ∷ d ∷ ds))
      by (Err e) = refl
      by (Ok next) = refl

      at : (r : Result (List Collection) Refusal)
          → ((next : List Collection) → run_in_turn (with_next world next) connection (each (d ∷ ds))
          ≡ all_come_to (with_next world next) (inserted next name (d ∷ ds)) (ones (d ∷ ds)))
          → goes_on (d ∷ ds) (come_to world r (n_reply 1)) ≡ all_come_to world (r >>= (λ next. inserted next name (d ∷ ds))) (ones (ps ∷ d ∷ ds))
      at (Err e) later = refl
      at (Ok next) later = ap (behind (n_reply 1)) (later next) ∙ by (inserted next name (d ∷ ds))

-- ---- the law

reply_of : (world : World) (c : Insert) (new : World) (reply : Pairs) → run_insert world c ≡ Ok (new, reply) → reply ≡ n_reply (length c.documents)
reply_of world c new reply e = at (inserted world.collections c.namespace c.documents) (sym (inserts_so world c) ∙ e)
  where
    at : (r : Result (List Collection) Refusal) → come_to world r (n_reply (length c.documents)) ≡ Ok (new, reply) → reply ≡ n_reply (length c.documents)
    at (Err x) f = absurd cc
    at (Ok next) f =
        let same : (with_next world next, n_reply (length c.documents)) ≡ (new, reply) = cc in
        sym (ap (λ (x : World × Pairs). x.1) same)

whole_so : (world : World) (connection : ℕ) (c : Insert) (ds : List Pairs) → c.documents ≡ ds
    → all_come_to world (inserted world.collections c.namespace c.documents) (ones c.documents)
    ≡ (run_insert world c >>= (λ x. Ok (x.0, ones c.documents)))
whole_so world connection c ds is =
    at (inserted world.collections c.namespace c.documents)
    ∙ ap (λ (r : Result (World × Pairs) Refusal). r >>= (λ x. Ok (x.0, ones c.documents))) (sym (inserts_so world c))
  where
    at : (r : Result (List Collection) Refusal)
        → all_come_to world r (ones c.documents) ≡ (come_to world r (n_reply (length c.documents)) >>= (λ x. Ok (x.0, ones c.documents)))
    at (Err e) = refl
    at (Ok next) = refl

pub insert_in_turn : InsertInTurn
insert_in_turn world connection c some = record {
  same = at c.documents refl ∙ whole_so world connection c c.documents refl;
  counted = reply_of world c;
}
  where
    at : (ds : List Pairs) → c.documents ≡ ds
        → run_in_turn world connection (map (insert_one c.namespace) c.documents)
        ≡ all_come_to world (inserted world.collections c.namespace c.documents) (ones c.documents)
    at [] is = absurd (some is)
    at (ps ∷ ds) is =
        ap (λ (xs : List Pairs). run_in_turn world connection (map (insert_one c.namespace) xs)) is ∙ in_turn_so connection c.namespace world ps ds
        ∙ ap (λ (xs : List Pairs). all_come_to world (inserted world.collections c.namespace xs) (ones xs)) (sym is)
