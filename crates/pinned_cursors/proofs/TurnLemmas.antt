-- Pins come and go, one after the other.
use Rattle.std.proofs.Common.{refl, ◌∙◌}
use Rattle.page.specs.History.{History}
use Rattle.collections.specs.State.{State}
use Rattle.collections.specs.Versions.{StaysInTurn}
use Rattle.collections.proofs.LawLemmas.{goes_from_itself}
use Rattle.pinned_cursors.specs.Batches.{ReadsThenPins}
use Rattle.pinned_cursors.specs.Turns.{OnlyPins}

module _ {D : Type 0} (history : D → History) where
  pub no_pins : (file : State D) → OnlyPins history file file
  no_pins file = record {
    untouched = record { disk = refl; stopped = refl; version = refl; reads = refl };
    takes = refl;
    unchanged = refl;
    state = λ start now has. has;
  }

  pub nothing_read : (file : State D) → ReadsThenPins history file file
  nothing_read file = record {
    read = file;
    extends = goes_from_itself history file;
    unchanged = refl;
    same = λ start now has. has;
    pins = no_pins file;
  }

  pub pins_of_stays : (old new : State D) → StaysInTurn history old new → OnlyPins history old new
  pins_of_stays old new s = record { untouched = s.untouched; takes = s.takes; unchanged = s.unchanged; state = s.state }

  pub pins_further : (old mid new : State D) → OnlyPins history old mid → OnlyPins history mid new → OnlyPins history old new
  pins_further old mid new a b = record {
    untouched = record {
      disk = b.untouched.disk ∙ a.untouched.disk;
      stopped = b.untouched.stopped ∙ a.untouched.stopped;
      version = b.untouched.version ∙ a.untouched.version;
      reads = b.untouched.reads ∙ a.untouched.reads;
    };
    takes = b.takes ∙ a.takes;
    unchanged = b.unchanged ∙ a.unchanged;
    state = λ start now has. b.state start now (a.state start now has);
  }
