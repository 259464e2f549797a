-- A collection that is made, and one that is dropped.
use Rattle.std.proofs.Common.{◌≡◌, ℕ, zero, suc, ◌+◌, ◌≤◌, Bool, true, false, List, [], ◌∷◌, length, remove, Option, Some, None, Result, Ok, Err, refl, sym, ap}
use Rattle.std.proofs.Common.{subst, ◌∙◌, arith}
use Rattle.std.specs.Prelude.{◌==◌, ◌||◌, ◌&&◌, not, nat_le, if◌then◌else◌, is_some, All}
use Rattle.std.specs.List.{AllPairs}
use Rattle.std.specs.Str.{bytes_eq}
use Rattle.std.specs.Cmp.Lexicographic.{slice_cmp}
use Rattle.std.specs.Ordering.{nat_cmp}
use Rattle.std.specs.declared.cmp.Ordering.TheVariants as orders
use Rattle.std.proofs.lemmas.List.Elements.{All-cons, All-head, All-tail}
use Rattle.bson.specs.Tree.{Pairs, no_pairs}
use Rattle.outcome.specs.Outcome.{◌>>=◌, unless}
use Rattle.path.specs.declared.refusal.Refusal.{Refusal}
use Rattle.path.specs.declared.refusal.Refusal.TheVariants as refusals
use Rattle.command_model.specs.OutcomeLaws.{passed}
use Rattle.database_model.specs.World.{World, with_documents}
use Rattle.entry_model.specs.State.{Collection, find_collection, uses, put_collection, without_collection}
use Rattle.database_model.specs.Lawful.{IsKept, IsLawfulState}
use Rattle.entry_model.specs.LawfulState.{AreNamedApart, AreNumberedApart}
use Rattle.database_model.specs.Places.{IsThere}
use Rattle.database_model.specs.Insert.{is_full}
use Rattle.database_model.specs.Create.{created, run_create}
use Rattle.database_model.specs.DropCollection.{drop_reply, dropped, index_count, run_drop}
use Rattle.engine.specs.Writing.{planned_or}
use Rattle.engine.proofs.Growing.{put_found}
use Rattle.database_model.proofs.Ordered.{without_there}

-- ---- a collection is made

pub created-full : (cs : List Collection) (name : List ℕ) (e : Refusal) → find_collection cs name ≡ None → (e ≡ refusals.TooMany) × (is_full cs name ≡ true)
    → created cs name ≡ Err e
created-full cs name e none full =
    let new = with_documents cs name [] in
    let many : nat_le 1000 (length cs) ≡ true =
    more (nat_le 1000 (length cs)) (ap (λ (o : Option Collection). nat_le 1000 (length cs) && not (is_some o)) (sym none) ∙ full.1) in
    ap (λ (o : Option Collection). unless (is_some o) refusals.NamespaceExists
    (unless (nat_le 1000 (length cs)) refusals.TooMany (Ok (put_collection new cs)))) none
    ∙ ap (λ (b : Bool). unless b refusals.TooMany (Ok (put_collection new cs))) many ∙ ap (λ (r : Refusal). Err r) (sym full.0)
  where
    more : (b : Bool) → (b && true) ≡ true → b ≡ true
    more true e = refl
    more false e = absurd cc

pub created-exists : (cs : List Collection) (name : List ℕ) (c : Collection) → find_collection cs name ≡ Some c → created cs name ≡ Err refusals.NamespaceExists
created-exists cs name c some =
    ap (λ (o : Option Collection). unless (is_some o) refusals.NamespaceExists
    (unless (nat_le 1000 (length cs)) refusals.TooMany (Ok (put_collection (with_documents cs name []) cs)))) some

-- the collections are others then
pub created_differs : (cs : List Collection) (name : List ℕ) (next : List Collection) → created cs name ≡ Ok next → next ≡ cs → ⊥
created_differs cs name next e same =
    let new = with_documents cs name [] in
    let p = passed (is_some (find_collection cs name)) refusals.NamespaceExists
    (unless (nat_le 1000 (length cs)) refusals.TooMany (Ok (put_collection new cs))) next e in
    let q = passed (nat_le 1000 (length cs)) refusals.TooMany (Ok (put_collection new cs)) next p.1 in
    let now : put_collection new cs ≡ next = cc in
    let found : find_collection cs name ≡ Some new = ap (λ (ds : List Collection). find_collection ds name) (sym (now ∙ same)) ∙ put_found new cs in
    let yes : is_some (find_collection cs name) ≡ true = ap is_some found in
    absurd cc

pub run_create-is : (w : World) (name : List ℕ) (cs : List Collection) → created w.collections name ≡ Ok cs
    → run_create w (record { namespace = name }) ≡ Ok (record w { collections = cs }, no_pairs)
unfolding run_create
run_create-is w name cs e =
    ap (λ (r : Result (List Collection) Refusal). r >>= (λ ds. let x : Result (World × Pairs) Refusal = Ok (record w { collections = ds }, no_pairs) in x)) e

pub run_create-refused : (w : World) (name : List ℕ) (e : Refusal) → created w.collections name ≡ Err e → run_create w (record { namespace = name }) ≡ Err e
unfolding run_create
run_create-refused w name e f =
    ap (λ (r : Result (List Collection) Refusal). r >>= (λ ds. let x : Result (World × Pairs) Refusal = Ok (record w { collections = ds }, no_pairs) in x)) f

-- ---- a collection is dropped

pub dropped-done : (cs : List Collection) (name : List ℕ) (at : ℕ) → AreNamedApart cs → IsThere name cs at → dropped cs name ≡ Ok (remove cs at)
dropped-done cs name at apart there =
    ap (λ (o : Option Collection). unless (not (is_some o)) refusals.NamespaceNotFound (Ok (without_collection name cs))) there.found
    ∙ ap (λ (n : List ℕ). let r : Result (List Collection) Refusal = Ok (without_collection n cs) in r) (sym there.named)
    ∙ ap (λ (ds : List Collection). Ok ds) (without_there cs at apart there.within)

pub dropped-missing : (cs : List Collection) (name : List ℕ) → find_collection cs name ≡ None → dropped cs name ≡ Err refusals.NamespaceNotFound
dropped-missing cs name none = ap (λ (o : Option Collection). unless (not (is_some o)) refusals.NamespaceNotFound (Ok (without_collection name cs))) none

less_one : (name : List ℕ) (cs : List Collection) → is_some (find_collection cs name) ≡ true → length (without_collection name cs) + 1 ≡ length cs
less_one name [] e = absurd cc
less_one name (c ∷ cs) e = at (bytes_eq name c.name) e (less_one name cs)
  where
    at : (b : Bool) → is_some (if b then Some c else find_collection cs name) ≡ true
        → (is_some (find_collection cs name) ≡ true → length (without_collection name cs) + 1 ≡ length cs)
        → length (if b then cs else c ∷ without_collection name cs) + 1 ≡ suc (length cs)
    at true e later = omega arith
    at false e later = omega (arith, later e)

not_true : (b : Bool) → not b ≡ false → b ≡ true
not_true true e = refl
not_true false e = absurd cc

pub dropped_differs : (cs : List Collection) (name : List ℕ) (next : List Collection) → dropped cs name ≡ Ok next → next ≡ cs → ⊥
dropped_differs cs name next e same =
    let p = passed (not (is_some (find_collection cs name))) refusals.NamespaceNotFound (Ok (without_collection name cs)) next e in
    let now : without_collection name cs ≡ next = cc in
    absurd (omega (arith, less_one name cs (not_true (is_some (find_collection cs name)) p.0), ap length (now ∙ same)))

module _ (w : World) (name : List ℕ) where
  abbrev reply : Pairs
  reply = drop_reply (index_count w.collections name) name

  pub run_drop-is : (cs : List Collection) → dropped w.collections name ≡ Ok cs
      → run_drop w (record { namespace = name }) ≡ Ok (record w { collections = cs }, reply)
  unfolding run_drop
  run_drop-is cs e =
      ap (λ (r : Result (List Collection) Refusal). r >>= (λ ds. let x : Result (World × Pairs) Refusal = Ok (record w { collections = ds }, reply) in x)) e

  pub run_drop-refused : (e : Refusal) → dropped w.collections name ≡ Err e → run_drop w (record { namespace = name }) ≡ Err e
  unfolding run_drop
  run_drop-refused e f =
      ap (λ (r : Result (List Collection) Refusal). r >>= (λ ds. let x : Result (World × Pairs) Refusal = Ok (record w { collections = ds }, reply) in x)) f

-- ---- what a drop leaves is lawful

All-without : (P : Collection → Type 0) (name : List ℕ) (cs : List Collection) → All P cs → All P (without_collection name cs)
All-without P name [] h = h
All-without P name (c ∷ cs) h = at (bytes_eq name c.name) (All-without P name cs (All-tail P c cs h))
  where
    at : (b : Bool) → All P (without_collection name cs) → All P (if b then cs else c ∷ without_collection name cs)
    at true later = All-tail P c cs h
    at false later = All-cons P c (without_collection name cs) (All-head P c cs h) later

pairs_cons : (R : Collection → Collection → Type 0) (c : Collection) (cs : List Collection) → All (R c) cs → AllPairs R cs → AllPairs R (c ∷ cs)
pairs_cons R c cs first rest zero zero d lt within = absurd (omega (arith, lt))
pairs_cons R c cs first rest zero (suc j) d lt within = first j d (omega (arith, within))
pairs_cons R c cs first rest (suc i) zero d lt within = absurd (omega (arith, lt))
pairs_cons R c cs first rest (suc i) (suc j) d lt within = rest i j d (omega (arith, lt)) (omega (arith, within))

pairs_without : (R : Collection → Collection → Type 0) (name : List ℕ) (cs : List Collection) → AllPairs R cs → AllPairs R (without_collection name cs)
pairs_without R name [] h = h
pairs_without R name (c ∷ cs) h =
    let later : AllPairs R cs = λ i j d lt within. h (suc i) (suc j) d (omega (arith, lt)) (omega (arith, within)) in
    let first : All (R c) cs = λ k d below. h 0 (suc k) d (omega arith) (omega (arith, below)) in
    at (bytes_eq name c.name) later (pairs_cons R c (without_collection name cs) (All-without (R c) name cs first) (pairs_without R name cs later))
  where
    at : (b : Bool) → AllPairs R cs → AllPairs R (c ∷ without_collection name cs) → AllPairs R (if b then cs else c ∷ without_collection name cs)
    at true rest kept = rest
    at false rest kept = kept

left_false : (a b : Bool) → (a || b) ≡ false → (a ≡ false) × (b ≡ false)
left_false true b e = absurd cc
left_false false b e = (refl, e)

uses_without : (name : List ℕ) (cs : List Collection) (n : ℕ) → uses cs n ≡ false → uses (without_collection name cs) n ≡ false
uses_without name [] n e = refl
uses_without name (c ∷ cs) n e =
    let parts = left_false (c.number == n) (uses cs n) e in
    let kept : uses (c ∷ without_collection name cs) n ≡ false =
    ap (λ (b : Bool). b || uses (without_collection name cs) n) parts.0 ∙ uses_without name cs n parts.1 in
    at (bytes_eq name c.name) parts.1 kept
  where
    at : (b : Bool) → uses cs n ≡ false → uses (c ∷ without_collection name cs) n ≡ false → uses (if b then cs else c ∷ without_collection name cs) n ≡ false
    at true rest kept = rest
    at false rest kept = kept

numbers_without : (name : List ℕ) (cs : List Collection) → AreNumberedApart cs → AreNumberedApart (without_collection name cs)
numbers_without name [] h = h
numbers_without name (c ∷ cs) h = at (bytes_eq name c.name) (numbers_without name cs h.1)
  where
    at : (b : Bool) → AreNumberedApart (without_collection name cs) → AreNumberedApart (if b then cs else c ∷ without_collection name cs)
    at true later = h.1
    at false later = (uses_without name cs c.number h.0, later)

no_longer : (name : List ℕ) (cs : List Collection) → length (without_collection name cs) ≤ length cs
no_longer name [] = omega arith
no_longer name (c ∷ cs) = at (bytes_eq name c.name) (no_longer name cs)
  where
    at : (b : Bool) → length (without_collection name cs) ≤ length cs → length (if b then cs else c ∷ without_collection name cs) ≤ suc (length cs)
    at true later = omega arith
    at false later = omega (arith, later)

without_lawful : (cs : List Collection) (name : List ℕ) → IsLawfulState cs → IsLawfulState (without_collection name cs)
without_lawful cs name h = record {
  apart = pairs_without (λ (a b : Collection). slice_cmp nat_cmp a.name b.name ≡ orders.Less) name cs h.apart;
  numbers = numbers_without name cs h.numbers;
  kept = All-without IsKept name cs h.kept;
  few = omega (arith, h.few, no_longer name cs);
}

pub dropped_lawful : (cs : List Collection) (name : List ℕ) (next : List Collection) → IsLawfulState cs → dropped cs name ≡ Ok next → IsLawfulState next
dropped_lawful cs name next h e =
    let p = passed (not (is_some (find_collection cs name))) refusals.NamespaceNotFound (Ok (without_collection name cs)) next e in
    let now : without_collection name cs ≡ next = cc in
    subst IsLawfulState now (without_lawful cs name h)

pub dropped_planned_lawful : (cs : List Collection) (name : List ℕ) → IsLawfulState cs → IsLawfulState (planned_or cs (dropped cs name))
dropped_planned_lawful cs name h = by (dropped cs name) refl
  where
    by : (planned : Result (List Collection) Refusal) → dropped cs name ≡ planned → IsLawfulState (planned_or cs planned)
    by (Ok next) is = dropped_lawful cs name next h is
    by (Err e) is = h
