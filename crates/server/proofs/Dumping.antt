-- What a dump gives, by the batches of its walk.
use Rattle.std.proofs.Common.{◌≡◌, List, [], ◌++◌, map, drop, length, Option, Some, None, Result, Ok, Err, ℕ, refl, sym, ap, subst, ◌∙◌, append_assoc}
use Rattle.std.specs.Prelude.{MatchResult, String}
use Rattle.std.specs.Global.{Vec, Global}
use Rattle.std.specs.Option.{option_map}
use Rattle.std.proofs.lemmas.List.{append-nil, map-append, take-append-drop}
use Rattle.bson.specs.Tree.{Pairs}
use Rattle.page.specs.History.{History, KeepsWord}
use Rattle.entry_model.specs.State.{Collection, find_collection}
use Rattle.collections.specs.Walk.{AreNext, IsWalk}
use Rattle.collections.specs.declared.walk.Walk.{Walk}
use Rattle.engine.specs.Dump.{BeginsDump, GoesOnDumping, HasFaultCause, WalksThrough}
use Rattle.engine.specs.Durable.{IsSound, disk_history, file_of}
use Rattle.engine.specs.Looking.{OnlyReads}
use Rattle.engine.specs.View.{world}
use Rattle.engine.specs.declared.check_fault.CheckFault.{CheckFault}
use Rattle.engine.specs.declared.check_fault.CheckFault.TheVariants as faults
use Rattle.engine.specs.declared.engine.Engine.{Engine}
use Rattle.engine.proofs.OnlyReading.{failed_from, now_same, reads_none, reads_on, word_before}
use Rattle.server.specs.Dump.{Dumps, ListsRest, dump_line, dump_of, lines_in}

-- the lines of a batch and of what comes behind it
lines_next : (limit : ℕ) (rest batch : List Pairs) → AreNext limit rest batch
    → map dump_line rest ≡ map dump_line batch ++ map dump_line (drop (length batch) rest)
lines_next limit rest batch next =
    let whole : rest ≡ batch ++ drop (length batch) rest =
    sym (take-append-drop (length batch) rest) ∙ ap (λ (xs : List Pairs). xs ++ drop (length batch) rest) (sym next.first) in
    ap (map dump_line) whole ∙ map-append dump_line batch (drop (length batch) rest)

-- The lines so far, and those of what is still to come, are the lines of all.
pub record IsListed (now : List Collection) (all : List Pairs) (lines : List (List ℕ)) (walk : Walk) : Type 0 where
  pub rest : List Pairs
  pub continues : IsWalk now walk rest
  pub so : lines ++ map dump_line rest ≡ map dump_line all

module _ {D : Type 0} (history : D → History) where
  -- a cause after reads is one from before them
  cause_before : (IsMissing : Type 0) (a b c : Engine D) → OnlyReads history a b → OnlyReads history b c → KeepsWord (disk_history history c) → (e : CheckFault)
      → HasFaultCause history ⊥ b c e → HasFaultCause history IsMissing a c e
  cause_before IsMissing a b c first later k faults.Device failed =
      failed_from history (file_of a) (file_of b) (file_of c) first.continues (word_before history (file_of b) (file_of c) later.continues k) failed
  cause_before IsMissing a b c first later k faults.Memory cause = tt
  cause_before IsMissing a b c first later k faults.Damaged cause = absurd cause
  cause_before IsMissing a b c first later k faults.NamespaceNotFound cause = absurd cause

  -- ---- the lines of a walk

  module _ (begun : Walk) (old : Engine D) where
    -- a walk so far, from where it began
    pub record HasListed (lines : List (List ℕ)) (walk : Walk) (new : Engine D) : Type 0 where
      pub reads : OnlyReads history old new
      pub there : KeepsWord (disk_history history new) → (all : List Pairs) → IsWalk (world old).collections begun all
          → IsListed (world old).collections all lines walk

    pub listed_none : IsSound history old → HasListed [] begun old
    listed_none h = record { reads = reads_none history old h; there = λ k all w. record { rest = all; continues = w; so = refl } }

    -- want of memory promises nothing
    pub list_memory : (new : Engine D) → OnlyReads history old new → ListsRest history begun (Err faults.Memory) old new
    list_memory new reads = record { reads = reads; answers = λ k rest w. tt }

    module _ (lines : List (List ℕ)) (walk : Walk) (mid : Engine D) (come : HasListed lines walk mid) (after : Walk) (new : Engine D) where
      -- a batch of the documents that are still to come
      pub list_on : (batch : Vec Pairs) → GoesOnDumping history walk after (Ok batch) mid new → HasListed (lines ++ map dump_line batch.items) after new
      list_on batch step = record {
        reads = reads_on history old mid new come.reads step.reads;
        there = λ k all w.
            let same : (world mid).collections ≡ (world old).collections = now_same history old mid come.reads in
            let at = come.there (word_before history (file_of mid) (file_of new) step.reads.continues k) all w in
            let next = step.answers k at.rest (subst (λ (cs : List Collection). IsWalk cs walk at.rest) (sym same) at.continues) in
            let left : List Pairs = drop (length batch.items) at.rest in
            record {
              rest = left;
              continues = subst (λ (cs : List Collection). IsWalk cs after left) same next.1;
              so = append_assoc lines (map dump_line batch.items) (map dump_line left)
                  ∙ ap (λ (xs : List (List ℕ)). lines ++ xs) (sym (lines_next 64 at.rest batch.items next.0)) ∙ at.so;
            };
      }

      -- nothing was still to come
      pub list_ends : (batch : Vec Pairs) → GoesOnDumping history walk after (Ok batch) mid new → batch.items ≡ [] → (all : Vec (String Global))
          → lines_in all ≡ lines
          → ListsRest history begun (Ok all) old new
      list_ends batch step none all is = record {
        reads = reads_on history old mid new come.reads step.reads;
        answers = λ k rest w.
            let same : (world mid).collections ≡ (world old).collections = now_same history old mid come.reads in
            let at = come.there (word_before history (file_of mid) (file_of new) step.reads.continues k) rest w in
            let next = step.answers k at.rest (subst (λ (cs : List Collection). IsWalk cs walk at.rest) (sym same) at.continues) in
            is ∙ sym (append-nil lines) ∙ ap (λ (ds : List Pairs). lines ++ map dump_line ds) (sym (next.0.none none)) ∙ at.so;
      }

      -- the next ones can't be read
      pub list_fails : (e : CheckFault) → GoesOnDumping history walk after (Err e) mid new → ListsRest history begun (Err e) old new
      list_fails e step = record {
        reads = reads_on history old mid new come.reads step.reads;
        answers = λ k rest w.
            let same : (world mid).collections ≡ (world old).collections = now_same history old mid come.reads in
            let at = come.there (word_before history (file_of mid) (file_of new) step.reads.continues k) rest w in
            cause_before ⊥ old mid new come.reads step.reads k e
            (step.answers k at.rest (subst (λ (cs : List Collection). IsWalk cs walk at.rest) (sym same) at.continues));
      }

  -- ---- a dump

  module _ (name : List ℕ) (old : Engine D) where
    -- it didn't begin
    pub not_begun : (e : CheckFault) (new : Engine D) → BeginsDump history name (Err e) old new → Dumps history name (Err e) old new
    not_begun e new begins = record { reads = begins.reads; answers = λ k. cause e (begins.answers k) }
      where
        cause : (f : CheckFault) → HasFaultCause history (find_collection (world old).collections name ≡ None) old new f
            → HasFaultCause history (dump_of (world old).collections name ≡ None) old new f
        cause faults.Device failed = failed
        cause faults.Memory h = tt
        cause faults.Damaged h = absurd h
        cause faults.NamespaceNotFound none = ap (λ (o : Option Collection). option_map (λ (c : Collection). map dump_line c.documents) o) none

    -- what it began with was listed
    pub all_listed : (walk : Walk) (mid new : Engine D) → BeginsDump history name (Ok walk) old mid → (r : Result (Vec (String Global)) CheckFault)
        → ListsRest history walk r mid new → Dumps history name r old new
    all_listed walk mid new begins r lists = record { reads = reads_on history old mid new begins.reads lists.reads; answers = λ k. answer r k lists.answers }
      where
        walk_on : (whole : WalksThrough (world old).collections name walk) → IsWalk (world mid).collections walk whole.collection.documents
        walk_on whole = subst (λ (cs : List Collection). IsWalk cs walk whole.collection.documents) (sym (now_same history old mid begins.reads)) whole.all

        answer : (x : Result (Vec (String Global)) CheckFault) → KeepsWord (disk_history history new)
            → (KeepsWord (disk_history history new) → (rest : List Pairs) → IsWalk (world mid).collections walk rest
            → MatchResult x (λ lines. lines_in lines ≡ map dump_line rest) (HasFaultCause history ⊥ mid new))
            → MatchResult x (λ lines. dump_of (world old).collections name ≡ Some (lines_in lines))
            (HasFaultCause history (dump_of (world old).collections name ≡ None) old new)
        answer (Ok all) k answers =
            let whole : WalksThrough (world old).collections name walk = begins.answers
            (word_before history (file_of mid) (file_of new) lists.reads.continues k) in
            let listed : lines_in all ≡ map dump_line whole.collection.documents = answers k whole.collection.documents (walk_on whole) in
            ap (λ (o : Option Collection). option_map (λ (c : Collection). map dump_line c.documents) o) whole.found ∙ ap Some (sym listed)
        answer (Err e) k answers =
            let whole : WalksThrough (world old).collections name walk = begins.answers
            (word_before history (file_of mid) (file_of new) lists.reads.continues k) in
            cause_before (dump_of (world old).collections name ≡ None) old mid new begins.reads lists.reads k e
            (answers k whole.collection.documents (walk_on whole))
