-- What an update makes of the documents that are meant is what is planned for all of their collection.
use Rattle.std.proofs.Common.{◌≡◌, ℕ, suc, ◌<◌, Bool, true, false, List, [], ◌∷◌, length, map, Option, Some, None, Result, Ok, Err, refl, sym, ap, subst, ◌∙◌}
use Rattle.std.proofs.Common.{arith, inl}
use Rattle.std.specs.Prelude.{nat_le, if◌then◌else◌, All}
use Rattle.std.proofs.lemmas.Bool.Decides.{nat_tests}
use Rattle.bson.specs.Tree.{Pairs, no_items}
use Rattle.outcome.specs.Outcome.{◌>>=◌}
use Rattle.path.specs.declared.refusal.Refusal.{Refusal}
use Rattle.path.specs.declared.refusal.Refusal.TheVariants as refusals
use Rattle.command_model.specs.Update.{UpdateStatement, IsRead}
use Rattle.entry_model.specs.LawfulState.{IsRising}
use Rattle.entry_model.specs.State.{Collection, find_collection}
use Rattle.entry_model.proofs.PlaceLemmas.{found_name}
use Rattle.entries.proofs.StateEditLaws.{put_same}
use Rattle.database_model.specs.Lawful.{IsLawfulState, IsStored}
use Rattle.database_model.specs.Merging.{Listed, listed_in, makes_any, not_listed, put_each, run_each, upsert_listed}
use Rattle.engine.specs.Putting.{AreMeantOf, EndsIn, IsFullFor, IsMeant, IsUpdate, MeansIn}
use Rattle.database_model.specs.Update.{counts_reply, judged, not_updated, run_all, run_statements, Updated, update_reply}
use Rattle.statements.specs.Updating.{EndsAs, HasNone, IsRan, IsRun, IsRunOf, listed_of, news_of, seen}
use Rattle.database_model.specs.World.{documents_of, documents_or_none, or_empty, unused}
use Rattle.statements.specs.WriteLaws.{AreRun, AreThere}
use Rattle.statements.specs.declared.statements.Ran.{Ran}
use Rattle.statements.specs.declared.statements.Run.{Run}
use Rattle.statements.specs.declared.statements.Tally.{Tally}
use Rattle.engine.specs.declared.updates.Candidates.{Candidates}
use Rattle.statements.proofs.KeptLemmas.{stored_at}
use Rattle.statements.proofs.ListedUpdates.{each_full, each_in, each_missing, each_there}
use Rattle.statements.proofs.MeantDeletions.{or_first, or_second}
use Rattle.engine.proofs.EnoughUpdates.{AreEnough, are_enough}
use Rattle.engine.proofs.ReplacedLemmas.{writes_among}
use Rattle.statements.proofs.WritePlaceLemmas.{writes_replace}

-- statements that make none do nothing where no document is
none_made : (i : ℕ) (ss : List UpdateStatement) → makes_any ss ≡ false → run_each i ss (not_listed []) ≡ Ok (not_listed [])
none_made i [] e = refl
none_made i (s ∷ ss) e =
    let first : s.upsert ≡ false = or_first s.upsert (makes_any ss) e in
    let later : makes_any ss ≡ false = or_second s.upsert (makes_any ss) e in
    ap (λ (b : Bool). (if b then upsert_listed i s (not_listed []) else Ok (not_listed [])) >>= run_each (suc i) ss) first ∙ none_made (suc i) ss later

ok_once : {X : Type 0} (x y : X) (r : Result X Refusal) → r ≡ Ok x → r ≡ Ok y → x ≡ y
ok_once x y r first second = cc

-- What the statements come to, of all the collections.
pub record Comes (now : List Collection) (name : List ℕ) (ss : List UpdateStatement) (m : Candidates) (r : Run) : Type 0 where
  pub after : Updated
  pub is : run_statements name 0 ss (not_updated now) ≡ Ok after
  pub says : update_reply after ≡ counts_reply r.tally.matched r.tally.modified r.tally.upserted
  pub quiet : after.modified ≡ 0 → after.upserted ≡ no_items → HasNone r.tally

module _ (now : List Collection) (name : List ℕ) (ss : List UpdateStatement) (m : Candidates) (h : IsLawfulState now)
    (read : All (λ (s : UpdateStatement). IsRead s.change) ss) where
  abbrev planned : Result Updated Refusal
  planned = run_statements name 0 ss (not_updated now)

  abbrev run_of : List Pairs → Result Listed Refusal
  run_of ds = run_each 0 ss (not_listed ds)

  -- ---- a collection that is there

  module _ (c : Collection) (found : find_collection now name ≡ Some c) (are : AreMeantOf ss c.documents m.documents.items) where
    kept : IsRising c.documents × All IsStored c.documents
    kept = subst (λ (o : Option Collection). IsRising (documents_or_none o) × All IsStored (documents_or_none o)) found (stored_at now name h.kept)

    enough : AreEnough ss m.documents.items c.documents
    enough = are_enough ss c.documents read kept.0 kept.1 m.documents.items are

    found_so : find_collection now c.name ≡ Some c
    found_so = ap (find_collection now) (sym (found_name now name c found)) ∙ found

    begun : not_updated now ≡ listed_in c now (not_listed c.documents)
    begun k = record { collections = sym (put_same c now h.apart found_so) k; matched = 0; modified = 0; upserted = no_items }

    all_there : planned ≡ each_in c now (run_of c.documents)
    all_there = (λ k. run_statements (found_name now name c found k) 0 ss (begun k)) ∙ each_there c now 0 ss (not_listed c.documents)

    refused_there : (e : Refusal) → run_of m.documents.items ≡ Err e → planned ≡ Err e
    refused_there e refused = all_there ∙ ap (each_in c now) (enough.refused e refused)

    module _ (r : Run) (is : run_of m.documents.items ≡ Ok (listed_of r)) (run : IsRun m.documents.items r) where
      up : IsRunOf m.documents.items r
      up = run.keeps enough.rising enough.stored

      abbrev all_listed : Listed
      all_listed = record (listed_of r) { documents = put_each (news_of r.writes.items) c.documents }

      listed : run_of c.documents ≡ Ok all_listed
      listed = enough.done (news_of r.writes.items) (listed_of r) is up.puts

      abbrev after_there : Updated
      after_there = listed_in c now all_listed

      comes_there : Comes now name ss m r
      comes_there = record {
        after = after_there;
        is = all_there ∙ ap (each_in c now) listed;
        says = refl;
        quiet = λ none made. (none, made);
      }

  -- ---- a missing one

  module _ (missing : find_collection now name ≡ None) (empty : m.documents.items ≡ []) where
    abbrev made : Collection
    made = or_empty name (unused now) None

    -- a statement makes one
    module _ (makes : makes_any ss ≡ true) (few : length now < 1000) where
      all_made : planned ≡ each_in made now (run_of [])
      all_made =
          let room : nat_le 1000 (length now) ≡ false = grind (arith, nat_tests) in
          each_missing name now missing 0 ss 0 0 no_items room
          ∙ ap (λ (b : Bool). if b then each_in made now (run_of []) else Ok (not_updated now)) makes

      refused_new : (e : Refusal) → run_of m.documents.items ≡ Err e → planned ≡ Err e
      refused_new e refused = all_made ∙ ap (each_in made now) (ap run_of (sym empty) ∙ refused)

      comes_new : (r : Run) → run_of m.documents.items ≡ Ok (listed_of r) → IsRun m.documents.items r → Comes now name ss m r
      comes_new r is run =
          let after = listed_in made now (listed_of r) in
          record {
            after = after;
            is = all_made ∙ ap (each_in made now) (ap run_of (sym empty) ∙ is);
            says = refl;
            quiet = λ none made. (none, made);
          }

    -- none makes one
    module _ (makes : makes_any ss ≡ false) where
      none_done : planned ≡ Ok (not_updated now)
      none_done = at (nat_le 1000 (length now)) refl
        where
          at : (b : Bool) → nat_le 1000 (length now) ≡ b → planned ≡ Ok (not_updated now)
          at false room =
              each_missing name now missing 0 ss 0 0 no_items room ∙ ap (λ (b : Bool). if b then each_in made now (run_of []) else Ok (not_updated now)) makes
          at true full = each_full name now missing 0 ss 0 0 no_items full ∙ ap (λ (b : Bool). if b then Err refusals.TooMany else Ok (not_updated now)) makes

      none_run : run_of m.documents.items ≡ Ok (not_listed [])
      none_run = ap run_of empty ∙ none_made 0 ss makes

      refused_none : (e : Refusal) → run_of m.documents.items ≡ Err e → planned ≡ Err e
      refused_none e refused = absurd (let no = sym none_run ∙ refused in cc)

      comes_none : (r : Run) → run_of m.documents.items ≡ Ok (listed_of r) → IsRun m.documents.items r → Comes now name ss m r
      comes_none r is run =
          let same = ok_once (listed_of r) (not_listed []) (run_of m.documents.items) is none_run in
          let none : HasNone r.tally = (ap (λ (l : Listed). l.modified) same, ap (λ (l : Listed). l.upserted) same) in
          record {
            after = not_updated now;
            is = none_done;
            says = ap (λ (l : Listed). counts_reply l.matched l.modified l.upserted) (sym same);
            quiet = λ a b. none;
          }

  -- ---- either

  pub comes : IsMeant now name ss m → (r : Run) → run_of m.documents.items ≡ Ok (listed_of r) → IsRun m.documents.items r → Comes now name ss m r
  comes meant r is run = at (find_collection now name) refl meant
    where
      missing : find_collection now name ≡ None → MeansIn None now ss m → (b : Bool) → makes_any ss ≡ b → Comes now name ss m r
      missing none means true makes =
          let room = means.2 (means.1 ∙ makes) in
          comes_new none means.0 makes room.0 r is run
      missing none means false makes = comes_none none means.0 makes r is run

      at : (o : Option Collection) → find_collection now name ≡ o → MeansIn o now ss m → Comes now name ss m r
      at (Some c) found means = comes_there c found means.2 r is run
      at None none means = missing none means (makes_any ss) refl

  pub refused : IsMeant now name ss m → (e : Refusal) → run_of m.documents.items ≡ Err e → planned ≡ Err e
  refused meant e is = at (find_collection now name) refl meant
    where
      missing : find_collection now name ≡ None → MeansIn None now ss m → (b : Bool) → makes_any ss ≡ b → planned ≡ Err e
      missing none means true makes = let room = means.2 (means.1 ∙ makes) in refused_new none means.0 makes room.0 e is
      missing none means false makes = refused_none none means.0 makes e is

      at : (o : Option Collection) → find_collection now name ≡ o → MeansIn o now ss m → planned ≡ Err e
      at (Some c) found means = refused_there c found means.2 e is
      at None none means = missing none means (makes_any ss) refl

-- ---- what is written, and what it comes to

module _ (ss : List UpdateStatement) (m : Candidates) (read : All (λ (s : UpdateStatement). IsRead s.change) ss) (now : List Collection) (name : List ℕ)
    (h : IsLawfulState now) (meant : IsMeant now name ss m) (x : Ran) (ran : IsRan true ss m.documents.items x) where
  abbrev all_of_name : List Pairs
  all_of_name = documents_of now name

  kept_all : IsRising all_of_name × All IsStored all_of_name
  kept_all = stored_at now name h.kept

  among_all : AreMeantOf ss all_of_name m.documents.items
  among_all = at (find_collection now name) meant
    where
      at : (o : Option Collection) → MeansIn o now ss m → AreMeantOf ss (documents_or_none o) m.documents.items
      at (Some c) means = means.2
      at None means = inl means.0

  enough_all : AreEnough ss m.documents.items all_of_name
  enough_all = are_enough ss all_of_name read kept_all.0 kept_all.1 m.documents.items among_all

  run_meant : AreRun ss m.documents.items
  run_meant = record { read = read; rising = enough_all.rising; stored = enough_all.stored }

  ends : EndsIn now name ss x.writes.items x.end
  ends = at x.end ran.end
    where
      at : (r : Result Tally Refusal) → EndsAs ss m.documents.items x.writes.items r → EndsIn now name ss x.writes.items r
      at (Ok t) d =
          let c = comes now name ss m h read meant d.run d.planned d.is in
          record {
            after = c.after;
            planned = c.is;
            counts = c.says ∙ ap (λ (u : Tally). counts_reply u.matched u.modified u.upserted) d.tally;
            quiet = λ none made. sym d.writes ∙ d.is.quiet (c.quiet none made);
          }
      at (Err e) f = ap (λ (r : Result Updated Refusal). r >>= judged) (refused now name ss m h read meant e f)

  pub ran_update : IsUpdate now name ss x
  ran_update =
      let written = ran.written run_meant.rising run_meant.stored in
      let there : AreThere m.documents.items (map seen x.writes.items) =
      subst (AreThere m.documents.items) (sym ran.writes) (writes_replace ss m.documents.items run_meant) in
      record {
        planned = ran.writes ∙ enough_all.writes;
        writes = writes_among m.documents.items all_of_name x.writes.items enough_all.sub (written.old refl) there written.storable;
        end = ends;
      }

-- a collection for a document that a statement makes would be one too many
pub full_refused : (now : List Collection) (name : List ℕ) (ss : List UpdateStatement) (e : Refusal) → IsFullFor now name ss e → run_all name ss now ≡ Err e
full_refused now name ss e (missing, (is, makes, many)) =
    let full : nat_le 1000 (length now) ≡ true = grind (arith, nat_tests) in
    ap (λ (r : Result Updated Refusal). r >>= judged)
    (each_full name now missing 0 ss 0 0 no_items full ∙ ap (λ (b : Bool). if b then Err refusals.TooMany else Ok (not_updated now)) makes
    ∙ ap (λ (x : Refusal). Err x) (sym is))
