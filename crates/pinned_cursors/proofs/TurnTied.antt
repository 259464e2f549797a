-- Cursors stay tied to their file while a turn goes on, and where it ends.
use Rattle.std.proofs.Common.{◌≡◌, ◌≢◌, Bool, false, true, List, [], ◌∷◌, map, Option, Some, None, Result, Ok, Err, refl, sym, ap, subst, ◌∙◌, arith}
use Rattle.std.specs.Prelude.{◌&&◌, cond, not, MatchOption, ⊤}
use Rattle.std.specs.List.{AllByRecursion, filter}
use Rattle.entry_model.specs.State.{Collection}
use Rattle.pager.specs.declared.version.Version.{Version}
use Rattle.page.specs.History.{History, KeepsWord}
use Rattle.tree_model.specs.Keys.{times}
use Rattle.roots.specs.declared.store.CommitFault.{CommitFault}
use Rattle.collections.specs.Calls.{ExtendsTurn}
use Rattle.collections.specs.Committing.{CommitsCollections}
use Rattle.collections.specs.State.{State}
use Rattle.collections.specs.Marks.{Undoes}
use Rattle.collections.specs.Versions.{CommitsVersions, KeepsSinceStart, pins_of}
use Rattle.collections.specs.View.{disk_history, is_stopped}
use Rattle.collections.proofs.StandingLemmas.{stopped_same}
use Rattle.collections.proofs.VersionLemmas.{pins_stay}
use Rattle.roots.specs.declared.store.CommitFault.TheVariants as faults
use Rattle.cursors.specs.Changes.{rested}
use Rattle.cursors.specs.Ending.{others}
use Rattle.cursors.specs.Held.{Held, HeldCursor, HeldWalk}
use Rattle.cursors.specs.declared.ending.Ends.TheVariants as cases
use Rattle.pinned_cursors.specs.Tied.{AreTied, HasFor, IsTied, ReadsRest, passes, pins_by, with_pin}
use Rattle.pinned_cursors.proofs.TiedLemmas.{each_as, each_on, has_now, keeps_for, keeps_on, reads_to}

module _ {D : Type 0} (history : D → History) (old new : State D) (list : List HeldCursor) where
  -- The file goes on with what each version has had.
  tied_still : (changed : Bool) → (is_stopped new ≡ false → is_stopped old ≡ false)
      → (KeepsWord (disk_history history new) → KeepsWord (disk_history history old))
      → (is_stopped new ≡ false → (passing : Bool) (version : Version) (cs : List Collection) → HasFor passing history old version cs
      → HasFor passing history new version cs)
      → pins_of new ≡ pins_of old → AreTied changed history old list → AreTied changed history new list
  tied_still changed ran word keeps pins tied = record {
    each = λ running k.
        each_on history changed old new (pins_by list) (λ p v cs had some. keeps running p v cs had) list (λ n. omega arith)
        (tied.each (ran running) (word k));
    pins = λ n. ap (times n) pins ∙ tied.pins n;
  }

  -- Commands read, and take and retire pages.
  pub tied_on : (changed : Bool) → ExtendsTurn history old new → AreTied changed history old list → AreTied changed history new list
  tied_on changed continues =
      tied_still changed (λ running. sym (stopped_same history old.pager new.pager continues.stays) ∙ running) continues.stays.reads.extends.kept
      (λ running. keeps_on history old new continues) (pins_stay history old new continues)

  -- What a turn changed isn't committed, and is still to be taken back.
  pub tied_failed : (changed : Bool) (result : Result (Unit {0}) CommitFault) → result ≢ Err faults.Device → CommitsCollections history result old new
      → CommitsVersions history result old new → pins_of new ≡ pins_of old → (is_stopped new ≡ false → is_stopped old ≡ false)
      → AreTied changed history old list → AreTied changed history new list
  tied_failed changed result other commits versions pins ran =
      tied_still changed ran commits.extends.kept (λ running. keeps_for history old new versions.each (versions.still other)) pins

-- Where the turn changes something, less is asked of what a cursor reads that it opened or advanced.
pub tied_changed : {D : Type 0} (history : D → History) (file : State D) (list : List HeldCursor) (changed : Bool) → AreTied changed history file list
    → AreTied true history file list
tied_changed {D = D} history file list changed tied = record {
  each = λ running k. each_as history changed true file file less list (tied.each running k);
  pins = tied.pins;
}
  where
    less : (h : HeldCursor) (version : Version) (cs : List Collection) → HasFor (passes changed h) history file version cs
        → HasFor (passes true h) history file version cs
    less h = by_touched h.cursor.touched
      where
        by_touched : (touched : Bool) (version : Version) (cs : List Collection) → HasFor (touched && changed) history file version cs
            → HasFor (touched && true) history file version cs
        by_touched true version cs had = has_now history changed file version cs had
        by_touched false version cs had = had

-- ---- the cursors are at rest

-- Of a turn that has changed nothing the same is asked for each cursor.
for_each : {D : Type 0} (history : D → History) (touched : Bool) (file : State D) (version : Version) (cs : List Collection)
    → HasFor false history file version cs → HasFor (touched && false) history file version cs
for_each history true file version cs had = had
for_each history false file version cs had = had

module _ {D : Type 0} (history : D → History) (file : State D) where
  each_rested : (hs : List HeldCursor) → AllByRecursion (IsTied false history file) hs → AllByRecursion (IsTied false history file) (map rested hs)
  each_rested [] each = tt
  each_rested (h ∷ hs) each = (at h.cursor.touched h.walk each.0, each_rested hs each.1)
    where
      at : (touched : Bool) (walk : Option HeldWalk) → MatchOption walk ⊤ (λ w. ReadsRest (touched && false) history file w h.cursor.rest)
          → MatchOption walk ⊤ (λ w. ReadsRest false history file w h.cursor.rest)
      at true walk tied = tied
      at false walk tied = tied

  pins_rested : (hs : List HeldCursor) → pins_by (map rested hs) ≡ pins_by hs
  pins_rested [] = refl
  pins_rested (h ∷ hs) = ap (with_pin h.walk) (pins_rested hs)

  -- It changed nothing.
  pub tied_rested : (hs : List HeldCursor) → AreTied false history file hs → AreTied false history file (map rested hs)
  tied_rested hs tied = record {
    each = λ running k. each_rested hs (tied.each running k);
    pins = λ n. tied.pins n ∙ sym (ap (times n) (pins_rested hs));
  }

module _ {D : Type 0} (history : D → History) (old new : State D) (list : List HeldCursor) (changed : Bool) (pins : pins_of new ≡ pins_of old) where
  -- What it changed is committed.
  pub tied_committed : CommitsCollections history (Ok tt) old new → CommitsVersions history (Ok tt) old new → AreTied changed history old list
      → AreTied false history new (map rested list)
  tied_committed commits versions tied = tied_rested history new list (record {
    each = λ running k.
        each_as history changed false old new
        (λ h version cs had. for_each history h.cursor.touched new version cs (versions.begun version cs (has_now history
        (passes changed h) old version cs had)))
        list (tied.each commits.running.0 (commits.extends.kept k));
    pins = λ n. ap (times n) pins ∙ tied.pins n;
  })

  -- It was cut off, and the file has stopped.
  pub tied_cut : CommitsCollections history (Err faults.Device) old new → AreTied changed history old list → AreTied false history new (map rested list)
  tied_cut commits tied = record {
    each = λ running k. not_both running (commits.stops refl);
    pins = λ n. ap (times n) pins ∙ tied.pins n ∙ sym (ap (times n) (pins_rested history new list));
  }
    where
      not_both : {X : Type 0} → is_stopped new ≡ false → is_stopped new ≡ true → X
      not_both a b = let no : false ≡ true = sym a ∙ b in cc

-- ---- the turn was taken back

-- none of these was opened or advanced in the turn
abbrev pub AreUntouched : List HeldCursor → Type 0
AreUntouched hs = AllByRecursion (λ (h : HeldCursor). h.cursor.touched ≡ false) hs

others_so : (hs : List HeldCursor) → AreUntouched (filter (λ h. not h.cursor.touched) hs)
others_so [] = tt
others_so (h ∷ hs) = at (others_so hs) h.cursor.touched refl
  where
    rest : List HeldCursor
    rest = filter (λ h. not h.cursor.touched) hs

    at : AreUntouched rest → (touched : Bool) → h.cursor.touched ≡ touched → AreUntouched (cond (not h.cursor.touched) (h ∷ rest) rest)
    at so true is = subst (λ (t : Bool). AreUntouched (cond (not t) (h ∷ rest) rest)) (sym is) so
    at so false is = subst (λ (t : Bool). AreUntouched (cond (not t) (h ∷ rest) rest)) (sym is) (is, so)

-- Where those end that the turn opened or advanced, none of the others was.
pub others_untouched : (held : Held) → AreUntouched (others cases.Touched held).list
others_untouched held = others_so held.list

module _ {D : Type 0} (history : D → History) (old new : State D) (versions : KeepsSinceStart history old new) (changed : Bool) where
  -- so none of them is tied to what the turn made
  each_undone : (hs : List HeldCursor) → AreUntouched hs → AllByRecursion (IsTied changed history old) hs
      → AllByRecursion (IsTied false history new) hs
  each_undone [] rest each = tt
  each_undone (h ∷ hs) rest each = (at h.cursor.touched rest.0 h.walk each.0, each_undone hs rest.1 each.1)
    where
      at : (touched : Bool) → touched ≡ false → (walk : Option HeldWalk)
          → MatchOption walk ⊤ (λ w. ReadsRest (touched && changed) history old w h.cursor.rest)
          → MatchOption walk ⊤ (λ w. ReadsRest (touched && false) history new w h.cursor.rest)
      at true is walk tied = absurd cc
      at false is None tied = tt
      at false is (Some w) tied = reads_to history false false old new w h.cursor.rest (versions w.version) tied

  pub tied_undone : (list : List HeldCursor) → AreUntouched list → Undoes history old new → pins_of new ≡ pins_of old
      → AreTied changed history old list → AreTied false history new list
  tied_undone list rest undoes pins tied = record {
    each = λ running k.
        each_undone list rest (tied.each (sym undoes.untouched.stopped ∙ running) (subst KeepsWord undoes.untouched.disk k));
    pins = λ n. ap (times n) pins ∙ tied.pins n;
  }
