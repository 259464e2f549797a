-- Nothing is pinned and no pin ends where the cursors stay, or one is opened that keeps its documents.
use Rattle.std.proofs.Common.{◌≡◌, ℕ, Bool, List, None, refl, sym, subst}
use Rattle.bson.specs.Tree.{Pairs}
use Rattle.page.specs.History.{History}
use Rattle.collections.specs.State.{State}
use Rattle.cursors.specs.Changes.{opened}
use Rattle.cursors.specs.Held.{Held}
use Rattle.database_model.specs.Cursors.{new_cursor}
use Rattle.pinned_cursors.specs.Tied.{AreTied}
use Rattle.pinned_cursors.specs.Turns.{Releases}
use Rattle.pinned_cursors.proofs.EndingLemmas.{releases_none}
use Rattle.pinned_cursors.proofs.TiedLemmas.{tied_kept}
use Rattle.pinned_cursors.proofs.TurnLemmas.{no_pins}

module _ {D : Type 0} (changed : Bool) (history : D → History) (file : State D) (before after : Held) where
  pub pins_as_before : after ≡ before → Releases changed history file file before after
  pins_as_before same = subst (Releases changed history file file before) (sym same) (releases_none history changed file before)

  pub pins_of_opened : (connection : ℕ) (name : List ℕ) (ds : List Pairs) → after ≡ opened before connection name ds None
      → Releases changed history file file before after
  pins_of_opened connection name ds is = record {
    pins = no_pins history file;
    tied = λ tied. subst (λ (held : Held). AreTied changed history file held.list) (sym is)
        (tied_kept history changed file before.list (record { cursor = new_cursor before.next connection name ds; walk = None }) refl tied);
  }
