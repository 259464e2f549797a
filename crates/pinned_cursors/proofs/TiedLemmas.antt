-- Cursors stay tied to their file: where it goes on, where one comes or goes on, and where one ends.
use Rattle.std.proofs.Common.{◌≡◌, ℕ, ◌<◌, ◌≤◌, Bool, true, false, List, [], ◌∷◌, ◌++◌, length, Option, Some, None, refl, sym, ap, subst, ◌∙◌, arith}
use Rattle.std.specs.Prelude.{◌&&◌, ⊤, MatchOption, Ok, slice_index_or, slice_set, remove}
use Rattle.std.specs.List.{AllByRecursion}
use Rattle.bson.specs.Tree.{Pairs}
use Rattle.page.specs.History.{History, KeepsWord}
use Rattle.tree_model.specs.Keys.{times}
use Rattle.pager.specs.Pinning.{IsPinned}
use Rattle.pager.specs.declared.version.Version.{Version}
use Rattle.pager.proofs.BookLemmas.{one_time}
use Rattle.entry_model.specs.State.{Collection}
use Rattle.collections.specs.State.{State}
use Rattle.collections.specs.Calls.{ExtendsTurn}
use Rattle.collections.specs.Versions.{HasSinceStart, HasVersion, KeepsEach, KeepsSinceStart, PinsNow, UnpinsVersion, pins_of}
use Rattle.collections.specs.View.{disk_history, is_stopped}
use Rattle.collections.proofs.VersionLemmas.{has_still, since_start_stays, versions_stay}
use Rattle.cursors.specs.Held.{HeldCursor, HeldWalk, no_held_cursor}
use Rattle.pinned_cursors.specs.Tied.{AreTied, HasFor, IsTied, ReadsRest, TiedBeside, passes, pins_by, with_pin}
use Rattle.pinned_cursors.proofs.ListLemmas.{each_added, each_removed, each_set, pins_added, pins_removed, pins_set, with_more}

module _ {D : Type 0} (history : D → History) where
  -- ---- what a version has

  -- What it has had since the turn began it has now.
  pub has_now : (passing : Bool) (file : State D) (version : Version) (cs : List Collection) → HasFor passing history file version cs
      → HasVersion history file version cs
  has_now true file version cs has = has
  has_now false file version cs has = has_still history file version cs has

  -- so it has it also where less is asked
  pub has_either : (a b : Bool) (file : State D) (version : Version) (cs : List Collection) → HasFor (a && b) history file version cs
      → HasFor b history file version cs
  has_either true b file version cs has = has
  has_either false true file version cs has = has_still history file version cs has
  has_either false false file version cs has = has

  pub keeps_for : (old new : State D) → KeepsEach history old new → KeepsSinceStart history old new → (passing : Bool) (version : Version)
      (cs : List Collection) → HasFor passing history old version cs → HasFor passing history new version cs
  keeps_for old new each since true version cs has = each version cs has
  keeps_for old new each since false version cs has = since version cs has

  -- commands read, and take and retire pages
  pub keeps_on : (old new : State D) → ExtendsTurn history old new → (passing : Bool) (version : Version) (cs : List Collection)
      → HasFor passing history old version cs → HasFor passing history new version cs
  keeps_on old new continues = keeps_for old new (versions_stay history old new continues) (since_start_stays history old new continues)

  -- ---- what is left of cursors

  -- What a walk is still to give stays where its version has what it had.
  pub reads_to : (a b : Bool) (old new : State D) (w : HeldWalk) (rest : List Pairs) → ((cs : List Collection) → HasFor a history old w.version cs
      → HasFor b history new w.version cs) → ReadsRest a history old w rest → ReadsRest b history new w rest
  reads_to a b old new w rest keeps r =
      record { collections = r.collections; had = keeps r.collections r.had; home = r.home; numbered = r.numbered; stored = r.stored; left = r.left }

  -- Each that is pinned stays so.
  pub each_on : (changed : Bool) (old new : State D) (pins : List ℕ)
      → ((passing : Bool) (version : Version) (cs : List Collection) → HasFor passing history old version cs → 1 ≤ times version.generation pins
      → HasFor passing history new version cs)
      → (hs : List HeldCursor) → ((n : ℕ) → times n (pins_by hs) ≤ times n pins) → AllByRecursion (IsTied changed history old) hs
      → AllByRecursion (IsTied changed history new) hs
  each_on changed old new pins keeps [] few each = tt
  each_on changed old new pins keeps (h ∷ hs) few each = (
    at h.walk few each.0,
    each_on changed old new pins keeps hs (λ n. omega (arith, few n, with_more n h.walk (pins_by hs))) each.1,
  )
    where
      at : (walk : Option HeldWalk) → ((n : ℕ) → times n (with_pin walk (pins_by hs)) ≤ times n pins)
          → IsTied changed history old (record h { walk = walk }) → IsTied changed history new (record h { walk = walk })
      at None few tied = tt
      at (Some w) few tied =
          let g = w.version.generation in
          let p = passes changed h in
          reads_to p p old new w h.cursor.rest (λ cs had. keeps p w.version cs had (omega (arith, few g, one_time g g (pins_by hs) refl))) tied

  -- Each is tied in another way, whatever it reads.
  pub each_as : (a b : Bool) (old new : State D)
      → ((h : HeldCursor) (version : Version) (cs : List Collection) → HasFor (passes a h) history old version cs
      → HasFor (passes b h) history new version cs)
      → (hs : List HeldCursor) → AllByRecursion (IsTied a history old) hs → AllByRecursion (IsTied b history new) hs
  each_as a b old new keeps [] each = tt
  each_as a b old new keeps (h ∷ hs) each = (at h.walk each.0, each_as a b old new keeps hs each.1)
    where
      at : (walk : Option HeldWalk) → MatchOption walk ⊤ (λ w. ReadsRest (passes a h) history old w h.cursor.rest)
          → MatchOption walk ⊤ (λ w. ReadsRest (passes b h) history new w h.cursor.rest)
      at None tied = tt
      at (Some w) tied = reads_to (passes a h) (passes b h) old new w h.cursor.rest (keeps h w.version) tied

  -- ---- one pin beside those of the cursors

  module _ (changed : Bool) (old new : State D) (version : Version) (list : List HeldCursor) where
    pub tied_pinned : {E : Type 0} (pin : PinsNow {E = E} history (Ok version) old new) → AreTied changed history old list
        → TiedBeside changed history new version list
    tied_pinned {E} pin tied = record {
      each = λ running k.
          each_on changed old new (pins_by list)
          keeps
          list (λ n. omega arith)
          (tied.each (sym pin.stays.untouched.stopped ∙ running) (subst KeepsWord pin.stays.untouched.disk k));
      pins = λ n. omega (arith, pin.once n, tied.pins n);
    }
      where
        keeps : (passing : Bool) (v : Version) (cs : List Collection) → HasFor passing history old v cs → 1 ≤ times v.generation (pins_by list)
            → HasFor passing history new v cs
        keeps true v cs had some = pin.others v cs had
        keeps false v cs had some = pin.stays.since_start v cs had (omega (arith, some, tied.pins v.generation, pin.once v.generation))

    pub tied_unpinned : UnpinsVersion history version old new → TiedBeside changed history old version list → AreTied changed history new list
    tied_unpinned unpin tied =
        let g = version.generation in
        let pinned : IsPinned version old.pager = omega (arith, tied.pins g, one_time g g (pins_by list) refl) in
        let left : (n : ℕ) → times n (pins_of new) ≡ times n (pins_by list) = λ n. omega (arith, unpin.once pinned n, tied.pins n) in
        record {
          each = λ running k.
              each_on changed old new (pins_by list) (keeps left)
              list (λ n. omega arith)
              (tied.each (sym unpin.stays.untouched.stopped ∙ running) (subst KeepsWord unpin.stays.untouched.disk k));
          pins = left;
        }
      where
        keeps : ((n : ℕ) → times n (pins_of new) ≡ times n (pins_by list)) → (passing : Bool) (v : Version) (cs : List Collection)
            → HasFor passing history old v cs → 1 ≤ times v.generation (pins_by list) → HasFor passing history new v cs
        keeps left true v cs had some = unpin.others v cs had (omega (arith, some, left v.generation))
        keeps left false v cs had some = unpin.stays.since_start v cs had (omega (arith, some, left v.generation))

  -- ---- a cursor comes, goes on or goes

  module _ (changed : Bool) (file : State D) (list : List HeldCursor) where
    -- The cursor that reads the version has its pin.
    pub tied_opened : (h : HeldCursor) (w : HeldWalk) → h.walk ≡ Some w → TiedBeside changed history file w.version list
        → (is_stopped file ≡ false → KeepsWord (disk_history history file) → ReadsRest (passes changed h) history file w h.cursor.rest)
        → AreTied changed history file (list ++ h ∷ [])
    tied_opened h w is tied reads = record {
      each = λ running k.
          each_added (IsTied changed history file) list h
          (subst (λ (walk : Option HeldWalk). IsTied changed history file (record h { walk = walk })) (sym is) (reads running k)) (tied.each running k);
      pins = λ n. tied.pins n ∙ ap (λ (walk : Option HeldWalk). times n (with_pin walk (pins_by list))) (sym is) ∙ sym (pins_added n list h);
    }

    -- One that keeps its documents pins nothing.
    pub tied_kept : (h : HeldCursor) → h.walk ≡ None → AreTied changed history file list → AreTied changed history file (list ++ h ∷ [])
    tied_kept h is tied = record {
      each = λ running k.
          each_added (IsTied changed history file) list h (subst (λ (walk : Option HeldWalk). IsTied changed history file (record h { walk = walk }))
          (sym is) tt)
          (tied.each running k);
      pins = λ n. tied.pins n ∙ ap (λ (walk : Option HeldWalk). times n (with_pin walk (pins_by list))) (sym is) ∙ sym (pins_added n list h);
    }

    module _ (at : ℕ) (there : at < length list) where
      abbrev here : HeldCursor
      here = slice_index_or list at no_held_cursor

      -- It has the same pin as before.
      pub tied_set : (h : HeldCursor) → with_pin h.walk [] ≡ with_pin here.walk [] → AreTied changed history file list
          → (is_stopped file ≡ false → KeepsWord (disk_history history file) → IsTied changed history file h)
          → AreTied changed history file (slice_set list at h)
      tied_set h same tied reads = record {
        each = λ running k. each_set (IsTied changed history file) list at h (reads running k) (tied.each running k);
        pins = λ n. tied.pins n ∙ sym (pins_set n list at h there same);
      }

      -- One without a pin goes.
      pub tied_removed : here.walk ≡ None → AreTied changed history file list → AreTied changed history file (remove list at)
      tied_removed is tied = record {
        each = λ running k. each_removed (IsTied changed history file) list at (tied.each running k);
        pins = λ n. tied.pins n ∙ pins_removed n list at there
            ∙ ap (λ (walk : Option HeldWalk). times n (with_pin walk (pins_by (remove list at)))) is;
      }

      -- One goes whose pin is still to be ended.
      pub tied_left : (w : HeldWalk) → here.walk ≡ Some w → AreTied changed history file list
          → TiedBeside changed history file w.version (remove list at)
      tied_left w is tied = record {
        each = λ running k. each_removed (IsTied changed history file) list at (tied.each running k);
        pins = λ n. tied.pins n ∙ pins_removed n list at there
            ∙ ap (λ (walk : Option HeldWalk). times n (with_pin walk (pins_by (remove list at)))) is;
      }
