-- The steps of an update, over engines as values.
use Rattle.std.proofs.Common.{◌≡◌, inl, inr, ℕ, ◌+◌, ◌<◌, ◌≤◌, Bool, true, false, List, [], ◌∷◌, length, map, drop, get_or, Result, Ok, Err, refl, sym, ap}
use Rattle.std.proofs.Common.{subst, ◌∙◌, arith}
use Rattle.std.specs.Prelude.{All}
use Rattle.std.proofs.lemmas.List.{drop_all, get_or-map, length-map}
use Rattle.bson.specs.Tree.{Pairs}
use Rattle.page.specs.History.{History, KeepsWord}
use Rattle.tree_model.specs.Keys.{Edit}
use Rattle.outcome.specs.Outcome.{◌>>=◌, unless}
use Rattle.path.specs.declared.refusal.Refusal.{Refusal}
use Rattle.path.specs.declared.refusal.Refusal.TheVariants as refusals
use Rattle.collections.specs.Lookups.{IsWithinLimits}
use Rattle.entry_model.specs.Entering.{DocumentWrite, enter_each, entered}
use Rattle.entry_model.specs.State.{Collection, put_collection}
use Rattle.entries.specs.declared.catalogue_reading.Catalogued.{Catalogued}
use Rattle.entry_model.proofs.EnteringLemmas.{has_entered}
use Rattle.engine.specs.Durable.{disk_history}
use Rattle.database_model.specs.Insert.{is_full}
use Rattle.engine.specs.Looking.{OnlyReads}
use Rattle.engine.specs.Putting.{ArePlanned, AreWritesOf, NotesWrites}
use Rattle.engine.specs.Storing.{AreNoted, HasNoted, IsFull, MayEnter, Notes, entering, write_of}
use Rattle.engine.specs.Trying.{MayRefuse}
use Rattle.database_model.specs.UpdateCommand.{written_in}
use Rattle.statements.specs.Updating.{MayBePut, news_of, seen}
use Rattle.engine.specs.View.{world}
use Rattle.database_model.specs.World.{collection_of, documents_of}
use Rattle.engine.specs.declared.engine.Engine.{Engine}
use Rattle.statements.specs.declared.statements.Write.{Write}
use Rattle.engine.proofs.OnlyReading.{cause_from, now_same, reads_on, word_before}
use Rattle.replies.proofs.Steps.{drop_step}

-- ---- write after write

-- the document of a write
pub news_at : (ws : List Write) (i : ℕ) (w : Write) → i < length ws → w ≡ get_or ws i w → (i < length (news_of ws)) × (w.new ≡ get_or (news_of ws) i w.new)
news_at ws i w within is =
    (omega (arith, within, length-map ws (λ (v : Write). v.new)), ap (λ (v : Write). v.new) is ∙ sym (get_or-map (λ (v : Write). v.new) ws i w w.new within))

pub puttable_at : (ws : List Write) (i : ℕ) (w : Write) → i < length ws → w ≡ get_or ws i w → All MayBePut (news_of ws) → MayBePut w.new
puttable_at ws i w within is all = let at = news_at ws i w within is in subst MayBePut (sym at.1) (all i w.new at.0)

-- what is noted, and which writes are left of all
pub record WritesSoFar (cs : List Collection) (name : List ℕ) (home : Catalogued) (edits : List Edit) (all left : List Write)
    (first : Collection) : Type 0 where
  pub reached : Collection
  pub noted : AreNoted cs name home edits reached
  pub same : enter_each first (map seen all) ≡ enter_each reached (map seen left)
  pub writes : AreWritesOf reached.documents left

module _ (cs : List Collection) (name : List ℕ) (all : List Write) (first : Collection) (home : Catalogued) (edits : List Edit) (w : Write) (left : List Write)
    (far : WritesSoFar cs name home edits all (w ∷ left) first) where
  is_seen : write_of w.old w.new ≡ seen w
  is_seen i = record { is_new = sym far.writes.0.kind i; document = w.new }

  enters_seen : (r : Result Collection Refusal) → entering w.old w.new far.reached ≡ r
      → enter_each first (map seen all) ≡ (r >>= (λ c. enter_each c (map seen left)))
  enters_seen r is = far.same ∙ ap (λ (q : Result Collection Refusal). q >>= (λ c. enter_each c (map seen left))) (ap (entered far.reached) (sym is_seen) ∙ is)

  one_more : (home_after : Catalogued) (next : List Edit) → HasNoted cs name home_after next (entering w.old w.new far.reached)
      → WritesSoFar cs name home_after next all left first
  one_more home_after next has =
      let put = has_entered far.reached has.next (write_of w.old w.new) has.is in
      record {
        reached = has.next;
        noted = has.noted;
        same = enters_seen (Ok has.next) has.is;
        writes = subst (λ (ds : List Pairs). AreWritesOf ds left) (sym (ap (λ (c : Collection). c.documents) put.is)) far.writes.1;
      }

-- so over engines
pub record WritesNoted {D : Type 0} (history : D → History) (name : List ℕ) (all left : List Write) (home_before home : Catalogued) (before after : List Edit)
    (old new : Engine D) : Type 0 where
  pub reads : OnlyReads history old new
  pub limits : IsWithinLimits home
  pub answers : KeepsWord (disk_history history new) → (first : Collection) → AreNoted (world old).collections name home_before before first
      → AreWritesOf first.documents all
      → WritesSoFar (world old).collections name home after all left first

module _ {D : Type 0} (history : D → History) (name : List ℕ) (all : List Write) (home_before : Catalogued) (before : List Edit) (old : Engine D) where
  abbrev WritesAll : Catalogued → List Edit → Result (Unit {0}) Refusal → Engine D → Type 0
  WritesAll home after r new = Notes history name (λ c. AreWritesOf c.documents all) (λ c. enter_each c (map seen all)) home_before home before after r old new

  pub writes_none : OnlyReads history old old → IsWithinLimits home_before → WritesNoted history name all all home_before home_before before before old old
  writes_none reads limits = record
      { reads = reads; limits = limits; answers = λ k first noted writes. record { reached = first; noted = noted; same = refl; writes = writes } }

  module _ (mid new : Engine D) (w : Write) (left : List Write) (home home_after : Catalogued) (edits after : List Edit)
      (far : WritesNoted history name all (w ∷ left) home_before home before edits old mid) where
    abbrev Step : Result (Unit {0}) Refusal → Type 0
    Step r = Notes history name (MayEnter w.old w.new) (entering w.old w.new) home home_after edits after r mid new

    same_now : (world mid).collections ≡ (world old).collections
    same_now = now_same history old mid far.reads

    so_far : {first : Collection} → OnlyReads history mid new → KeepsWord (disk_history history new)
        → AreNoted (world old).collections name home_before before first → AreWritesOf first.documents all
        → WritesSoFar (world old).collections name home edits all (w ∷ left) first
    so_far {first} later k noted writes = far.answers (word_before history mid.file new.file later.continues k) first noted writes

    noted_now : {first : Collection} (f : WritesSoFar (world old).collections name home edits all (w ∷ left) first)
        → AreNoted (world mid).collections name home edits f.reached
    noted_now f = subst (λ (cs : List Collection). AreNoted cs name home edits f.reached) (sym same_now) f.noted

    pub writes_on : Step (Ok tt) → IsWithinLimits home_after → WritesNoted history name all left home_before home_after before after old new
    writes_on step limits = record {
      reads = reads_on history old mid new far.reads step.reads;
      limits = limits;
      answers = λ k first noted writes.
          let f = so_far step.reads k noted writes in
          let has = step.answers k f.reached (noted_now f) (f.writes.0.storable, f.writes.0.there) in
          one_more (world old).collections name all first home edits w left f home_after after
          (subst (λ (cs : List Collection). HasNoted cs name home_after after (entering w.old w.new f.reached)) same_now has);
    }

    pub writes_refused : (e : Refusal) → Step (Err e) → WritesAll home_after after (Err e) new
    writes_refused e step = record {
      reads = reads_on history old mid new far.reads step.reads;
      answers = λ k first noted writes.
          let f = so_far step.reads k noted writes in
          elim (step.answers k f.reached (noted_now f) (f.writes.0.storable, f.writes.0.there)) [
            | inl refused ↦ inl (enters_seen (world old).collections name all first home edits w left f (Err e) refused)
            | inr cause ↦ inr (cause_from history old.file mid.file new.file far.reads.continues
                (word_before history mid.file new.file step.reads.continues k) e cause)
          ];
    }

  pub writes_all : (new : Engine D) (home : Catalogued) (edits : List Edit) → WritesNoted history name all [] home_before home before edits old new
      → WritesAll home edits (Ok tt) new
  writes_all new home edits far = record {
    reads = far.reads;
    answers = λ k first noted writes. let f = far.answers k first noted writes in record { next = f.reached; is = f.same; noted = f.noted };
  }

pub left_of : (ws : List Write) (i : ℕ) (w : Write) → i < length ws → w ≡ get_or ws i w → drop i ws ≡ w ∷ drop (i + 1) ws
left_of ws i w within is = drop_step ws i w within is

pub none_of : (ws : List Write) (i : ℕ) → length ws ≤ i → drop i ws ≡ []
none_of ws i whole = drop_all i ws whole

-- ---- the edits

abbrev put_in : List Collection → Collection → Result (List Collection) Refusal
put_in cs c = Ok (put_collection c cs)

written_there : (cs : List Collection) (name : List ℕ) (ws : List DocumentWrite) (r : Result Collection Refusal) → is_full cs name ≡ false
    → enter_each (collection_of cs name) ws ≡ r
    → written_in name ws cs ≡ (r >>= put_in cs)
written_there cs name ws r room is =
    ap (λ (b : Bool). unless b refusals.TooMany (enter_each (collection_of cs name) ws >>= put_in cs)) room
    ∙ ap (λ (q : Result Collection Refusal). q >>= put_in cs) is

pub written_full : (cs : List Collection) (name : List ℕ) (ws : List DocumentWrite) (e : Refusal) → (e ≡ refusals.TooMany) × (is_full cs name ≡ true)
    → written_in name ws cs ≡ Err e
written_full cs name ws e (is, full) =
    ap (λ (b : Bool). unless b refusals.TooMany (enter_each (collection_of cs name) ws >>= put_in cs)) full
    ∙ ap (λ (x : Refusal). let r : Result (List Collection) Refusal = Err x in r) (sym is)

module _ {D : Type 0} (history : D → History) (name : List ℕ) (ws : List Write) (old mid : Engine D) (before : List Edit) where
  abbrev TargetOf : Result Catalogued Refusal → Type 0
  TargetOf r =
      MayRefuse history (λ home. AreNoted (world old).collections name home before (collection_of (world old).collections name))
      (IsFull (world old).collections name) r old mid

  pub edits_untargeted : (e : Refusal) → TargetOf (Err e) → NotesWrites history name ws (Err e) old mid
  edits_untargeted e target = record {
    reads = target.reads;
    answers = λ k are. elim (target.answers k) [
      | inl full ↦ inl (written_full (world old).collections name (map seen ws) e full)
      | inr cause ↦ inr cause
    ];
  }

  module _ (home : Catalogued) (target : TargetOf (Ok home)) (last : Engine D) (home_after : Catalogued) (edits : List Edit) where
    abbrev Noted : Result (Unit {0}) Refusal → Type 0
    Noted r = Notes history name (λ c. AreWritesOf c.documents ws) (λ c. enter_each c (map seen ws)) home home_after before edits r mid last

    same_there : (world mid).collections ≡ (world old).collections
    same_there = now_same history old mid target.reads

    noted_first : OnlyReads history mid last → KeepsWord (disk_history history last)
        → AreNoted (world mid).collections name home before (collection_of (world mid).collections name)
    noted_first later k =
        subst (λ (cs : List Collection). AreNoted cs name home before (collection_of cs name)) (sym same_there)
        (target.answers (word_before history mid.file last.file later.continues k))

    there_too : AreWritesOf (documents_of (world old).collections name) ws → AreWritesOf (documents_of (world mid).collections name) ws
    there_too are = subst (λ (cs : List Collection). AreWritesOf (documents_of cs name) ws) (sym same_there) are

    pub edits_refused : (e : Refusal) → Noted (Err e) → NotesWrites history name ws (Err e) old last
    edits_refused e notes = record {
      reads = reads_on history old mid last target.reads notes.reads;
      answers = λ k are.
          let noted = noted_first notes.reads k in
          let cs = (world mid).collections in
          elim (notes.answers k (collection_of cs name) noted (there_too are)) [
            | inl refused ↦ inl (ap (written_in name (map seen ws)) (sym same_there) ∙ written_there cs name (map seen ws) (Err e) noted.room refused)
            | inr cause ↦ inr
                (cause_from history old.file mid.file last.file target.reads.continues (word_before history mid.file last.file notes.reads.continues k) e cause)
          ];
    }

    pub edits_made : Noted (Ok tt) → NotesWrites history name ws (Ok edits) old last
    edits_made notes = record {
      reads = reads_on history old mid last target.reads notes.reads;
      answers = λ k are.
          let noted = noted_first notes.reads k in
          let cs = (world mid).collections in
          let has = notes.answers k (collection_of cs name) noted (there_too are) in
          let there : ArePlanned edits cs (written_in name (map seen ws) cs) = record {
            next = put_collection has.next cs;
            is = written_there cs name (map seen ws) (Ok has.next) noted.room has.is;
            leads = has.noted.leads;
          } in
          subst (λ (s : List Collection). ArePlanned edits s (written_in name (map seen ws) s)) same_there there;
    }
