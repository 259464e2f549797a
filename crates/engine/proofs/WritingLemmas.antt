-- Edits are put into the file of an engine.
use Rattle.std.proofs.Common.{◌≡◌, inl, inr, true, List, Ok, Err, refl, sym, ap, subst, ◌∙◌}
use Rattle.page.specs.History.{History, KeepsWord}
use Rattle.tree_model.specs.Keys.{Edit}
use Rattle.path.specs.declared.refusal.Refusal.{Refusal}
use Rattle.path.specs.declared.refusal.Refusal.TheVariants as refusals
use Rattle.entry_model.specs.LawfulState as states
use Rattle.entry_model.specs.State.{Collection}
use Rattle.entry_model.specs.StateEntries.{Leads}
use Rattle.collections.specs.Calls.{Applies}
use Rattle.collections.specs.Standing.{HasState}
use Rattle.collections.specs.State.{State}
use Rattle.collections.proofs.LawLemmas as laws
use Rattle.engine.specs.Durable.{disk_history, is_stopped, IsRunning, IsSound}
use Rattle.opening.specs.TurnStates.{TurnStates}
use Rattle.pinned_cursors.proofs.TurnTied.{tied_changed, tied_on}
use Rattle.database_model.specs.Lawful.{IsLawfulState}
use Rattle.engine.specs.View.{world}
use Rattle.engine.specs.Writing.{Writes}
use Rattle.engine.specs.declared.engine.Engine.{Engine}
use Rattle.opening.specs.declared.ghost_state.GhostState.{GhostState}

module _ {D : Type 0} (history : D → History) (old : Engine D) (h : IsSound history old) where
  -- a file that has stopped takes nothing
  pub writes_stopped : (after : List Collection) → is_stopped old ≡ true → Writes history after (Err refusals.StorageFailed) old old
  writes_stopped after stopped = record {
    sound = h;
    continues = laws.goes_from_itself history old.file;
    start = refl;
    cursors = refl;
    ok = tt;
    err = (refl, refl);
    kinds = inr (inl refl);
    cause = λ k. inl (inr (inl (refl, inl stopped)));
    keeps = λ t. t;
  }

  module _ (edits : List Edit) (after : List Collection) (leads : KeepsWord (disk_history history old) → IsRunning old
      → Leads edits (world old).collections after × states.IsLawfulState after)
      (running : IsRunning old) (file : State D) where
    -- they were put into it
    pub writes_done : (told : GhostState) → told.value ≡ record { start = old.told.value.start; now = after } → IsLawfulState after
        → Applies history edits (Ok tt) old.file file
        → Writes history after (Ok tt) old (record old { file = file; told = told; is_changed = true })
    writes_done told is lawful applies = record {
      sound = record {
        lawful = subst (λ (k : TurnStates). IsLawfulState k.now) (sym is) lawful;
        cursors = h.cursors;
        before = subst (λ (k : TurnStates). IsLawfulState k.start) (sym is) h.before;
        quiet = λ clean. absurd cc;
        file = subst (λ (k : TurnStates). HasState history file k.start k.now) (sym is) has;
        unchanged = λ running clean. absurd cc;
        tied = tied_on history old.file file old.cursors.list true applies.extends (tied_changed history old.file old.cursors.list old.is_changed h.tied);
      };
      continues = applies.extends;
      start = ap (λ (k : TurnStates). k.start) is;
      cursors = refl;
      ok = ap (λ (k : TurnStates). k.now) is;
      err = tt;
      kinds = tt;
      cause = λ k. tt;
      keeps = λ t. refl;
    }
      where
        has : HasState history file old.told.value.start after
        has run k =
            let l = leads (applies.extends.frame k).word running in
            applies.state old.told.value.start old.told.value.now after h.file l.0 l.1 run k

    -- nothing of them was
    pub writes_undone : (e : Refusal) → Applies history edits (Err e) old.file file → Writes history after (Err e) old (record old { file = file })
    writes_undone e applies = record {
      sound = record {
        lawful = h.lawful;
        cursors = h.cursors;
        before = h.before;
        quiet = h.quiet;
        file = has;
        unchanged = λ extends clean. applies.unchanged ∙ h.unchanged running clean;
        tied = tied_on history old.file file old.cursors.list old.is_changed applies.extends h.tied;
      };
      continues = applies.extends;
      start = refl;
      cursors = refl;
      ok = tt;
      err = (refl, refl);
      kinds = applies.kinds;
      cause = λ k. let l = leads (applies.extends.frame k).word running in applies.cause k old.told.value.start old.told.value.now after h.file l.0 l.1;
      keeps = λ t. t;
    }
      where
        has : HasState history file old.told.value.start old.told.value.now
        has run k =
            let l = leads (applies.extends.frame k).word running in
            applies.state old.told.value.start old.told.value.now after h.file l.0 l.1 run k
