-- Statement after statement, over documents in memory.
use Rattle.std.proofs.Common.{◌≡◌, ◌≢◌, ℕ, suc, ◌+◌, ◌<◌, ◌≤◌, Bool, List, [], ◌++◌, length, map, drop, get_or, Result, Ok, Err, refl, sym, ap, subst, ◌∙◌}
use Rattle.std.proofs.Common.{arith, append_assoc}
use Rattle.std.specs.Prelude.{All}
use Rattle.std.proofs.lemmas.List.{drop_all, append-nil}
use Rattle.bson.specs.Tree.{Pairs}
use Rattle.outcome.specs.Outcome.{◌>>=◌, Fails}
use Rattle.path.specs.declared.refusal.Refusal.{Refusal}
use Rattle.path.specs.declared.refusal.Refusal.TheVariants as refusals
use Rattle.command_model.specs.Update.{UpdateStatement}
use Rattle.entry_model.specs.LawfulState.{IsRising, IsStorable}
use Rattle.entry_model.specs.Entering.{DocumentWrite}
use Rattle.database_model.specs.Lawful.{IsStored, IsWithin}
use Rattle.database_model.specs.Merging.{Listed, not_listed, put_each, run_each, run_listed}
use Rattle.statements.specs.Updating.{AreWritten, HasWritten, HaveOld, IsRan, IsRun, IsRunOf, listed_of, MayBePut, news_of, RunsOn, seen, written, Wrote}
use Rattle.database_model.specs.Writes.{statement_writes, unless_refused, writes_from, writes_of}
use Rattle.statements.specs.declared.statements.Run.{Run}
use Rattle.statements.specs.declared.statements.Write.{Write}
use Rattle.replies.proofs.Steps.{drop_step}
use Rattle.statements.proofs.UpdatingLoop.{RunsOn-refl, RunsOn-trans}

-- ---- statement after statement

pub run_one : (i : ℕ) (ss : List UpdateStatement) (s : UpdateStatement) (l : Listed) → i < length ss → s ≡ get_or ss i s
    → run_each i (drop i ss) l ≡ (run_listed i s l >>= run_each (i + 1) (drop (i + 1) ss))
run_one i ss s l within is =
    let next : suc i ≡ i + 1 = omega arith in
    ap (λ (xs : List UpdateStatement). run_each i xs l) (drop_step ss i s within is) ∙ ap (λ (n : ℕ). run_listed i s l >>= run_each n (drop (i + 1) ss)) next

pub run_none : (i : ℕ) (ss : List UpdateStatement) (l : Listed) → length ss ≤ i → run_each i (drop i ss) l ≡ Ok l
run_none i ss l whole = ap (λ (xs : List UpdateStatement). run_each i xs l) (drop_all i ss whole)

-- what is written from here on
pub left_writes_of : (i : ℕ) (ss : List UpdateStatement) (s : UpdateStatement) (l : Listed) → i < length ss → s ≡ get_or ss i s
    → writes_from i (drop i ss) l ≡ statement_writes s l.documents ++ unless_refused (writes_from (i + 1) (drop (i + 1) ss)) (run_listed i s l)
left_writes_of i ss s l within is =
    let next : suc i ≡ i + 1 = omega arith in
    ap (λ (xs : List UpdateStatement). writes_from i xs l) (drop_step ss i s within is)
    ∙ ap (λ (n : ℕ). statement_writes s l.documents ++ unless_refused (writes_from n (drop (i + 1) ss)) (run_listed i s l)) next

-- What statements wrote up to this one, and what is left.
pub record HasLeft (ss : List UpdateStatement) (start now : Run) (i : ℕ) : Type 0 where
  pub extends : RunsOn start now
  pub same : run_each i (drop i ss) (listed_of now) ≡ run_each 0 ss (listed_of start)
  pub wrote : written now ++ writes_from i (drop i ss) (listed_of now) ≡ written start ++ writes_from 0 ss (listed_of start)

pub none_left : (ss : List UpdateStatement) (start : Run) → All IsWithin start.documents.items → HasLeft ss start start 0
none_left ss start within = record { extends = RunsOn-refl start within; same = refl; wrote = refl }

module _ (ss : List UpdateStatement) (start now : Run) (i : ℕ) (far : HasLeft ss start now i) where
  module _ (s : UpdateStatement) (within : i < length ss) (is : s ≡ get_or ss i s) (next : Run) where
    abbrev later_writes : Result Listed Refusal → List DocumentWrite
    later_writes r = written now ++ (statement_writes s now.documents.items ++ unless_refused (writes_from (i + 1) (drop (i + 1) ss)) r)

    writes_left : (r : Result Listed Refusal) → run_listed i s (listed_of now) ≡ r → later_writes r ≡ written start ++ writes_from 0 ss (listed_of start)
    writes_left r planned =
        ap later_writes (sym planned) ∙ ap (λ (ws : List DocumentWrite). written now ++ ws) (sym (left_writes_of i ss s (listed_of now) within is)) ∙ far.wrote

    -- one is done
    pub left_on : run_listed i s (listed_of now) ≡ Ok (listed_of next) → HasWritten (statement_writes s now.documents.items) now next
        → HasLeft ss start next (i + 1)
    left_on planned one = record {
      extends = RunsOn-trans start now next far.extends one.extends;
      same = sym (run_one i ss s (listed_of now) within is ∙ ap (λ (r : Result Listed Refusal). r >>= run_each (i + 1) (drop (i + 1) ss)) planned) ∙ far.same;
      wrote = ap (λ (ws : List DocumentWrite). ws ++ writes_from (i + 1) (drop (i + 1) ss) (listed_of next)) one.wrote
          ∙ append_assoc (written now) (statement_writes s now.documents.items) (writes_from (i + 1) (drop (i + 1) ss) (listed_of next))
          ∙ writes_left (Ok (listed_of next)) planned;
    }

    -- one is refused
    pub left_refused : (e : Refusal) → Fails refusals.OutOfMemory e (run_listed i s (listed_of now))
        → Wrote (Err e) (statement_writes s now.documents.items) now next
        → Wrote (Err e) (writes_from 0 ss (listed_of start)) start next
    left_refused e planned one other =
        let stop = one other in
        record {
          wrote = stop.wrote ∙ ap (λ (ws : List DocumentWrite). written now ++ ws) (sym (append-nil (statement_writes s now.documents.items)))
              ∙ writes_left (Err e) (planned other);
          puttable = λ h. stop.puttable (far.extends.puttable h);
          keeps = λ from h. subst (λ (k : Bool). AreWritten k from next.writes.items) far.extends.kept (stop.keeps from (far.extends.keeps from h));
        }

  -- all are done
  pub left_none : length ss ≤ i → HasWritten (writes_from 0 ss (listed_of start)) start now
  left_none whole = record {
    wrote = sym (append-nil (written now)) ∙ ap (λ (xs : List UpdateStatement). written now ++ writes_from i xs (listed_of now)) (sym (drop_all i ss whole))
        ∙ far.wrote;
    extends = far.extends;
  }

-- ---- from the beginning

no_writes : (P : Pairs → Type 0) (ws : List Write) → ws ≡ [] → All P (news_of ws)
no_writes P ws none = subst (λ (xs : List Write). All P (news_of xs)) (sym none) (λ k d below. absurd (omega (arith, below)))

module _ (start new : Run) (from : List Pairs) (same : start.documents.items ≡ from) (none : start.writes.items ≡ []) where
  starts : IsRising from → All IsStored from → IsRunOf from start
  starts up stored = record {
    puts = ap (λ (ws : List Write). put_each (news_of ws) from) none ∙ sym same;
    rising = subst IsRising (sym same) up;
    stored = subst (All IsStored) (sym same) stored;
    written = record { old = λ k. subst (HaveOld from) (sym none) tt; storable = no_writes IsStorable start.writes.items none };
  }

  -- what was run from the beginning
  pub ran_from : RunsOn start new → IsRun from new
  ran_from extends = record {
    quiet = λ h. (extends.quiet h).1 ∙ none;
    keeps = λ up stored. extends.keeps from (starts up stored);
  }

  module _ (ss : List UpdateStatement) (keeps_old : Bool) (keeps : start.keeps_old ≡ keeps_old) (begun : listed_of start ≡ not_listed from) where
    all_written : written new ≡ written start ++ writes_from 0 ss (listed_of start) → written new ≡ writes_of ss from
    all_written wrote = wrote ∙ ap (λ (ws : List Write). map seen ws ++ writes_from 0 ss (listed_of start)) none ∙ ap (writes_from 0 ss) begun

    pub ran_to_end : run_each 0 ss (listed_of start) ≡ Ok (listed_of new) → HasWritten (writes_from 0 ss (listed_of start)) start new
        → IsRan keeps_old ss from (record { writes = new.writes; end = Ok new.tally })
    ran_to_end planned one = record {
      writes = all_written one.wrote;
      puttable = one.extends.puttable (no_writes MayBePut start.writes.items none);
      written = λ up stored. subst (λ (k : Bool). AreWritten k from new.writes.items) (one.extends.kept ∙ keeps)
          (one.extends.keeps from (starts up stored)).written;
      end = record { run = new; planned = ap (run_each 0 ss) (sym begun) ∙ planned; writes = refl; tally = refl; is = ran_from one.extends };
    }

    pub ran_to_refusal : (e : Refusal) → e ≢ refusals.OutOfMemory → Fails refusals.OutOfMemory e (run_each 0 ss (listed_of start))
        → Wrote (Err e) (writes_from 0 ss (listed_of start)) start new
        → IsRan keeps_old ss from (record { writes = new.writes; end = Err e })
    ran_to_refusal e other planned stopped =
        let stop = stopped other in
        record {
          writes = all_written stop.wrote;
          puttable = stop.puttable (no_writes MayBePut start.writes.items none);
          written = λ up stored. subst (λ (k : Bool). AreWritten k from new.writes.items) keeps (stop.keeps from (starts up stored));
          end = ap (run_each 0 ss) (sym begun) ∙ planned other;
        }
