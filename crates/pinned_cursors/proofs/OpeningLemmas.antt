-- A cursor is opened on what a walk has left, in the version that is pinned for it.
use Rattle.std.specs.Prelude.{Option, cond, is_some, not}
use Rattle.std.specs.List.{filter}
use Rattle.std.proofs.Common.{◌≡◌, ℕ, Bool, true, false, List, [], ◌∷◌, ◌++◌, Some, Result, Ok, Err, refl, sym, ap, subst, ◌∙◌}
use Rattle.bson.specs.Tree.{Pairs}
use Rattle.page.specs.History.{History, KeepsWord}
use Rattle.pager.specs.declared.version.Version.{Version}
use Rattle.collections.specs.State.{State}
use Rattle.collections.specs.Versions.{PinsNow, UnpinsVersion}
use Rattle.collections.specs.View.{disk_history, is_changed, is_stopped}
use Rattle.database_model.specs.Cursors.{new_cursor}
use Rattle.projection.specs.Projection.{Projection}
use Rattle.cursors.specs.Changes.{opened}
use Rattle.cursors.specs.Held.{Held, HeldCursor, HeldWalk, Way, table_of}
use Rattle.cursors.specs.TableLaws.{opened_in_table}
use Rattle.pinned_cursors.specs.Opening.{IsLeftOf, OpensPinned, Tells, held_walk, that_keep}
use Rattle.entry_model.specs.State.{Collection}
use Rattle.collections.specs.Standing.{HasState}
use Rattle.pinned_cursors.specs.Tied.{AreTied, HasFor, ReadsRest}
use Rattle.pinned_cursors.specs.Turns.{OnlyPins}
use Rattle.pinned_cursors.proofs.TiedLemmas.{tied_opened, tied_pinned, tied_unpinned}
use Rattle.pinned_cursors.proofs.TurnLemmas.{no_pins, pins_further, pins_of_stays}

-- One more that keeps none leaves those that keep documents.
one_more : (hs : List HeldCursor) (h : HeldCursor) (w : HeldWalk) → h.walk ≡ Some w
    → filter (λ x. not (is_some x.walk)) (hs ++ h ∷ []) ≡ filter (λ x. not (is_some x.walk)) hs
one_more [] h w is = ap (λ (walk : Option HeldWalk). cond (not (is_some walk)) (h ∷ []) []) is
one_more (x ∷ hs) h w is = ap (λ (ys : List HeldCursor). cond (not (is_some x.walk)) (x ∷ ys) ys) (one_more hs h w is)

pub opened_keeps : (held : Held) (connection : ℕ) (namespace : List ℕ) (rest : List Pairs) (w : HeldWalk)
    → that_keep (opened held connection namespace rest (Some w)) ≡ that_keep held
opened_keeps held connection namespace rest w =
    one_more held.list (record { cursor = new_cursor held.next connection namespace rest; walk = Some w }) w refl

module _ {D E : Type 0} (history : D → History) (connection : ℕ) (namespace : List ℕ) (number : ℕ) (p : Projection) (way : Way) (rest : List Pairs)
    (old : State D) (held : Held) where
  abbrev Opens : Result (Unit {0}) E → State D → Held → Type 0
  Opens result new after = OpensPinned history connection namespace number p way rest result old new held after

  -- Nothing was pinned.
  pub opens_unpinned : (e : E) (new : State D) → new ≡ old → Opens (Err e) new held
  opens_unpinned e new same = record {
    ok = tt;
    err = refl;
    keep = refl;
    pins = subst (λ (f : State D). OnlyPins history old f) (sym same) (no_pins history old);
    tied = λ here changed tells tied. subst (λ (f : State D). AreTied changed history f held.list) (sym same) tied;
  }

  module _ (version : Version) (pinned : State D) (pin : PinsNow {E = E} history (Ok version) old pinned) where
    -- What was pinned was unpinned again.
    pub opens_none : (e : E) (new : State D) (after : Held) → after ≡ held → UnpinsVersion history version pinned new → Opens (Err e) new after
    opens_none e new after same unpin = record {
      ok = tt;
      err = same;
      keep = ap that_keep same;
      pins = pins_further history old pinned new (pins_of_stays history old pinned pin.stays) (pins_of_stays history pinned new unpin.stays);
      tied = λ here changed tells tied. subst (λ (h : Held). AreTied changed history new h.list) (sym same)
          (tied_unpinned history changed pinned new version held.list unpin (tied_pinned history changed old pinned version held.list pin tied));
    }

    -- The walk gives what is left of the collections that are pinned.
    abbrev goes_on : HeldWalk
    goes_on = held_walk version number p way

    -- what is asked of the version where the turn has changed something, and where not
    pinned_for : (changed : Bool) → Tells changed old → (start now : List Collection) → is_stopped old ≡ false → KeepsWord (disk_history history old)
        → HasState history old start now → HasFor changed history pinned version now
    pinned_for true tells start now running k has = pin.version start now running k has
    pinned_for false tells start now running k has = pin.rested start now running k has (tells running refl)

    pub reads_left : (changed : Bool) → Tells changed old → is_stopped old ≡ false → KeepsWord (disk_history history old)
        → IsLeftOf history old number p way rest → ReadsRest changed history pinned goes_on rest
    reads_left changed tells running k here = record {
      collections = here.now;
      had = pinned_for changed tells here.start here.now running k here.has;
      home = here.home;
      numbered = here.numbered;
      stored = here.stored;
      left = here.left;
    }

    pub opens_walk : (after : Held) → after ≡ opened held connection namespace rest (Some goes_on) → Opens (Ok tt) pinned after
    opens_walk after same = record {
      ok = ap table_of same ∙ opened_in_table held connection namespace rest (Some goes_on);
      err = tt;
      keep = ap that_keep same ∙ opened_keeps held connection namespace rest goes_on;
      pins = pins_of_stays history old pinned pin.stays;
      tied = λ here changed tells tied. subst (λ (h : Held). AreTied changed history pinned h.list) (sym same)
          (tied_opened history changed pinned held.list (record { cursor = new_cursor held.next connection namespace rest; walk = Some goes_on }) goes_on refl
          (tied_pinned history changed old pinned version held.list pin tied)
          (λ running k. let k_old : KeepsWord (disk_history history old) = subst KeepsWord pin.stays.untouched.disk k in
          reads_left changed tells (sym pin.stays.untouched.stopped ∙ running) k_old (here k_old)));
    }
