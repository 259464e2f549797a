-- Cursors end one after the other, and their pins with them.
use Rattle.std.proofs.Common.{◌≡◌, ℕ, ◌<◌, Bool, length, Some, None, refl, sym, ap, subst, ◌∙◌, arith}
use Rattle.std.specs.Prelude.{Option, option_map}
use Rattle.std.proofs.lemmas.List.Quantifiers.{position-Some}
use Rattle.page.specs.History.{History}
use Rattle.pager.specs.declared.version.Version.{Version}
use Rattle.collections.specs.State.{State}
use Rattle.collections.specs.Versions.{UnpinsVersion}
use Rattle.cursors.specs.Changes.{pinned_by, without}
use Rattle.cursors.specs.Ending.{first_ended, given_back, is_ended, left, others}
use Rattle.cursors.specs.EndingLaws.{none_left, one_fewer, others_left}
use Rattle.cursors.specs.Held.{Held, HeldCursor, HeldWalk, held_at, no_held_cursor}
use Rattle.cursors.specs.declared.ending.Ends.{Ends}
use Rattle.pinned_cursors.specs.Tied.{AreTied}
use Rattle.pinned_cursors.specs.Turns.{EndsPin, OnlyPins, Releases}
use Rattle.pinned_cursors.proofs.TiedLemmas.{tied_left, tied_removed, tied_unpinned}
use Rattle.pinned_cursors.proofs.TurnLemmas.{no_pins, pins_further, pins_of_stays}

none_some : {X Y : Type 0} (x : X) → Some x ≡ None → Y
none_some x e = absurd cc

same_some : {X : Type 0} (x y : X) → Some x ≡ Some y → x ≡ y
same_some x y e = cc

module _ {D : Type 0} (history : D → History) where
  pub releases_none : (changed : Bool) (file : State D) (held : Held) → Releases changed history file file held held
  releases_none changed file held = record { pins = no_pins history file; tied = λ tied. tied }

  pub releases_further : (changed : Bool) (old mid new : State D) (a b c : Held) → Releases changed history old mid a b
      → Releases changed history mid new b c → Releases changed history old new a c
  releases_further changed old mid new a b c first then = record {
    pins = pins_further history old mid new first.pins then.pins;
    tied = λ tied. then.tied (first.tied tied);
  }

  -- The cursor at a place ended, and the pin that it had.
  pub releases_one : (changed : Bool) (old new : State D) (held after : Held) (at : ℕ) (pinned : Option Version) → at < length held.list
      → pinned ≡ pinned_by (held_at held at) → after ≡ without held at → EndsPin history pinned old new → Releases changed history old new held after
  releases_one changed old new held after at pinned there is ended ends =
      subst (λ (h : Held). Releases changed history old new held h) (sym ended) (by_walk (held_at held at).walk refl)
    where
      by_walk : (walk : Option HeldWalk) → (held_at held at).walk ≡ walk → Releases changed history old new held (without held at)
      by_walk None none =
          let no : pinned ≡ None = is ∙ ap (option_map (λ (w : HeldWalk). w.version)) none in
          let same : new ≡ old = subst (λ (p : Option Version). EndsPin history p old new) no ends in
          record {
            pins = subst (λ (f : State D). OnlyPins history old f) (sym same) (no_pins history old);
            tied = λ tied. subst (λ (f : State D). AreTied changed history f (without held at).list) (sym same)
                (tied_removed history changed old held.list at there none tied);
          }
      by_walk (Some w) some =
          let one : pinned ≡ Some w.version = is ∙ ap (option_map (λ (v : HeldWalk). v.version)) some in
          let unpins : UnpinsVersion history w.version old new = subst (λ (p : Option Version). EndsPin history p old new) one ends in
          record {
            pins = pins_of_stays history old new unpins.stays;
            tied = λ tied.
                tied_unpinned history changed old new w.version (without held at).list unpins (tied_left history changed old held.list at there w some tied);
          }

  -- ---- one after the other

  module _ (ends : Ends) (start : State D) (first : Held) where
    -- Some have ended, and what is left to end gives the same in the end.
    pub record HasEnded (file : State D) (held : Held) : Type 0 where
      pub others_are : others ends held ≡ others ends first
      pub releases : (changed : Bool) → Releases changed history start file first held

    pub ended_none : HasEnded start first
    ended_none = record { others_are = refl; releases = λ changed. releases_none changed start first }

    module _ (held after : Held) where
      -- the first of them is at this place, and its pin was given back
      first_at : (pinned : Option Version) (place : Option ℕ) → first_ended ends held ≡ place → Some pinned ≡ given_back held place
          → (at : ℕ) × (first_ended ends held ≡ Some at) × (at < length held.list) × (pinned ≡ pinned_by (held_at held at))
      first_at pinned None is given = none_some pinned given
      first_at pinned (Some at) is given = (
        at,
        is,
        (position-Some (λ (h : HeldCursor). is_ended ends h.cursor) held.list at no_held_cursor is).0,
        same_some pinned (pinned_by (held_at held at)) given,
      )

      pub ended_fewer : (pinned : Option Version) → Some pinned ≡ given_back held (first_ended ends held) → after ≡ left held (first_ended ends held)
          → length after.list < length held.list
      ended_fewer pinned given continues =
          let it = first_at pinned (first_ended ends held) refl given in
          let shorter : length after.list ≡ length (without held it.0).list = ap (λ (h : Held). length h.list) (continues ∙ ap (left held) it.1) in
          omega (arith, one_fewer ends held it.0 it.1, shorter)

      pub ended_on : (file new : State D) (pinned : Option Version) → HasEnded file held → Some pinned ≡ given_back held (first_ended ends held)
          → after ≡ left held (first_ended ends held) → EndsPin history pinned file new → HasEnded new after
      ended_on file new pinned so_far given continues unpins =
          let it = first_at pinned (first_ended ends held) refl given in
          record {
            others_are = ap (others ends) continues ∙ others_left ends held ∙ so_far.others_are;
            releases = λ changed. releases_further changed start file new first held after (so_far.releases changed)
                (releases_one changed file new held after it.0 pinned it.2 it.3 (continues ∙ ap (left held) it.1) unpins);
          }

      -- None was left that is to end.
      pub ended_last : (file : State D) → HasEnded file held → None ≡ given_back held (first_ended ends held) → after ≡ left held (first_ended ends held)
          → (after ≡ others ends first) × ((changed : Bool) → Releases changed history start file first after)
      ended_last file so_far given continues =
          let none : first_ended ends held ≡ None = at_none (first_ended ends held) given in
          let same : after ≡ held = continues ∙ ap (left held) none in (
            same ∙ sym (none_left ends held none) ∙ so_far.others_are,
            λ changed. subst (λ (h : Held). Releases changed history start file first h) (sym same) (so_far.releases changed),
          )
        where
          at_none : (place : Option ℕ) → None ≡ given_back held place → place ≡ None
          at_none None given = refl
          at_none (Some at) given = none_some (pinned_by (held_at held at)) (sym given)
