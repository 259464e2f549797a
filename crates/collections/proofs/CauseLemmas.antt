-- Causes of refusals between two moments are causes between earlier and later ones.
use Rattle.std.proofs.Common.{◌≢◌, inl, inr, List, sym, ◌∙◌, arith}
use Rattle.page.specs.History.{History, KeepsWord}
use Rattle.tree_model.specs.Store.{HasNoPage}
use Rattle.path.specs.declared.refusal.Refusal.{Refusal}
use Rattle.path.specs.declared.refusal.Refusal.TheVariants as refusals
use Rattle.entry_model.specs.State.{Collection}
use Rattle.collections.specs.Calls.{ExtendsTurn, HasCause, HasFailed, HasReadCause, HasWriteCause}
use Rattle.collections.specs.State.{State}
use Rattle.collections.specs.View.{disk_history, pages_of}
use Rattle.collections.proofs.StandingLemmas.{stopped_same}

module _ {D : Type 0} (history : D → History) where
  -- the disk kept its word before
  pub word_before : (a b : State D) → ExtendsTurn history a b → KeepsWord (disk_history history b) → KeepsWord (disk_history history a)
  word_before a b continues k = (continues.frame k).word

  -- what is a cause of a read is one of any call
  pub any_cause : (a b : State D) (e : Refusal) → HasReadCause history a b e → HasCause history a b e
  any_cause a b e (inl memory) = inl memory
  any_cause a b e (inr failed) = inr (inl failed)

  -- that no page is free is none of these
  pub read_not_full : (a b : State D) (e : Refusal) → HasReadCause history a b e → e ≢ refusals.Full
  read_not_full a b e (inl is) full = let both = sym is ∙ full in cc
  read_not_full a b e (inr (is, failed)) full = let both = sym is ∙ full in cc

  module _ (a b c : State D) (continues : ExtendsTurn history a b) (k : KeepsWord (disk_history history b)) where
    failed_from : HasFailed history b c → HasFailed history a c
    failed_from (inl stopped) = inl (sym (stopped_same history a.pager b.pager continues.stays) ∙ stopped)
    failed_from (inr more) = inr (omega (arith, more, (continues.frame k).failures))

    full_from : HasNoPage (pages_of history b) (pages_of history c) → HasNoPage (pages_of history a) (pages_of history c)
    full_from (inl more) = inl (omega (arith, more, (continues.frame k).failed_allocations))
    full_from (inr most) = inr most

    pub cause_from : (e : Refusal) → HasCause history b c e → HasCause history a c e
    cause_from e (inl memory) = inl memory
    cause_from e (inr (inl (is, failed))) = inr (inl (is, failed_from failed))
    cause_from e (inr (inr (is, full))) = inr (inr (is, full_from full))

    pub read_cause_from : (e : Refusal) → HasReadCause history b c e → HasReadCause history a c e
    read_cause_from e (inl memory) = inl memory
    read_cause_from e (inr (is, failed)) = inr (is, failed_from failed)

    pub write_cause_from : (after : List Collection) (e : Refusal) → HasWriteCause history after b c e → HasWriteCause history after a c e
    write_cause_from after e (inl cause) = inl (cause_from e cause)
    write_cause_from after e (inr large) = inr large
