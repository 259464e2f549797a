-- How putting edits into the tree ends.
use Rattle.std.proofs.Common.{◌≡◌, ◌⊎◌, ℕ, true, false, List, [], ◌∷◌, length, refl, sym, ◌∙◌, ap, subst, arith, inl, inr}
use Rattle.std.specs.Prelude.{◌==◌, not, Ok, Err}
use Rattle.std.proofs.lemmas.Bool.Decides.{nat_tests}
use Rattle.page.specs.History.{History, KeepsWord}
use Rattle.btree.specs.Change.{IsChanged, IsTooHigh}
use Rattle.tree_model.specs.Keys.{Edit, Entry, change}
use Rattle.tree_model.specs.Store.{Grows, HasCause as HasTreeCause}
use Rattle.tree_model.specs.declared.pages.TreeFault.{TreeFault}
use Rattle.tree_model.specs.declared.pages.TreeFault.TheVariants as faults
use Rattle.tree_model.proofs.StoreLemmas.{grows_itself}
use Rattle.path.specs.declared.refusal.Refusal.TheVariants as refusals
use Rattle.pager.specs.State.{State as PagerState}
use Rattle.pager.specs.Turn.{IsOrderly, Returns, undone_to}
use Rattle.pager.specs.View.{pager_history, store_of}
use Rattle.entry_model.specs.State.{Collection}
use Rattle.entry_model.specs.StateEntries.{Spells}
use Rattle.collections.specs.State.{State}
use Rattle.collections.specs.Calls.{Applies, ExtendsTurn, HasWriteCause, IsOfFile}
use Rattle.collections.specs.Applying.{ChangesTree, refusal_of}
use Rattle.collections.specs.Standing.{IsTurnOf}
use Rattle.collections.specs.View.{disk_history, is_stopped}
use Rattle.collections.proofs.StandingLemmas.{state_on, state_stays, tree_same, turn_on}

-- what a fault of the tree is refused as
kind_of : (e : TreeFault) → IsOfFile (refusal_of e)
kind_of faults.Memory = inl refl
kind_of faults.Full = inr (inr refl)
kind_of faults.Device = inr (inl refl)
kind_of faults.Kind = inr (inl refl)
kind_of faults.Number = inr (inl refl)
kind_of faults.Order = inr (inl refl)
kind_of faults.Length = inr (inl refl)

module _ {D : Type 0} (history : D → History) (edits : List Edit) (old : State D) where
  pub applies_stopped : is_stopped old ≡ true → Applies history edits (Err refusals.StorageFailed) old old
  applies_stopped stopped = record {
    extends = grows_itself (store_of history old.pager);
    idle = λ none. refl;
    unchanged = refl;
    kinds = inr (inl refl);
    state = λ start before after has leads state. has;
    cause = λ k start before after has leads state. inl (inr (inl (refl, inl stopped)));
  }

  pub applies_none : edits ≡ [] → Applies history edits (Ok tt) old old
  applies_none none = record {
    extends = grows_itself (store_of history old.pager);
    idle = λ _. refl;
    unchanged = tt;
    kinds = tt;
    state = λ start before after has leads state. state_on history old old start before after (grows_itself (store_of history old.pager)) (λ k t. record {
      pages = t.pages;
      after = t.after;
      turn = t.turn;
      spells = subst (λ (es : List Edit). Spells (change es t.after) after) none (leads t.after t.spells_now);
      state = state;
    }) has;
    cause = λ k start before after has leads state. tt;
  }

  pub applies_done : (pager : PagerState D) (root : ℕ) → (edits ≡ [] → ⊥) → Grows (store_of history old.pager) (store_of history pager)
      → ChangesTree history edits old.root (Ok root) old.pager pager
      → Applies history edits (Ok tt) old (record old { pager = pager; root = root })
  applies_done pager root some grows changes =
      let new : State D = record old { pager = pager; root = root } in
      record {
        extends = grows;
        idle = λ none. absurd (some none);
        unchanged = tt;
        kinds = tt;
        state = λ start before after has leads state. state_on history old new start before after grows (λ k t.
            let c : IsChanged (store_of history old.pager) (store_of history pager) root (change edits t.after) t.pages =
            changes t.pages t.after t.turn.holds k in
            record {
              pages = c.after;
              after = change edits t.after;
              turn = turn_on history t.began old.pager pager old.root root t.live t.pages t.after (change edits t.after) t.turn grows k c;
              spells = leads t.after t.spells_now;
              state = state;
            }) has;
        cause = λ k start before after has leads state. tt;
      }

  -- the pager after the change, and after what was made was taken back
  module _ (mid back : PagerState D) (e : TreeFault) (grows : Grows (store_of history old.pager) (store_of history mid))
      (changes : ChangesTree history edits old.root (Err e) old.pager mid)
      (disk : pager_history history back ≡ pager_history history mid)
      (takes : (store_of history back).failed_allocations ≡ (store_of history mid).failed_allocations) where
    abbrev new : State D
    new = record old { pager = back }

    cause_of : (after : List Collection) (entries : List Entry) (fault : TreeFault) → fault ≡ e
        → HasTreeCause (store_of history old.pager) (store_of history mid) fault ⊎ IsTooHigh entries fault → Spells entries after
        → HasWriteCause history after old new (refusal_of fault)
    cause_of after entries faults.Memory same cause spells = inl (inl refl)
    cause_of after entries faults.Device same (inl failed) spells = inl (inr (inl (refl, inr (omega (arith, failed, ap (λ (h : History). h.failures) disk)))))
    cause_of after entries faults.Full same (inl (inl more)) spells = inl (inr (inr (refl, inl (omega (arith, more, takes)))))
    cause_of after entries faults.Full same (inl (inr most)) spells = inl (inr (inr (refl, inr (takes ∙ most))))
    cause_of after entries faults.Full same (inr high) spells = inr (refl, record { entries = entries; spells = spells; many = high.1 })
    cause_of after entries faults.Device same (inr high) spells = let never : faults.Device ≡ faults.Full = high.0 in absurd cc
    cause_of after entries faults.Kind same (inl cause) spells = absurd cause
    cause_of after entries faults.Kind same (inr high) spells = let never : faults.Kind ≡ faults.Full = high.0 in absurd cc
    cause_of after entries faults.Number same (inl cause) spells = absurd cause
    cause_of after entries faults.Number same (inr high) spells = let never : faults.Number ≡ faults.Full = high.0 in absurd cc
    cause_of after entries faults.Order same (inl cause) spells = absurd cause
    cause_of after entries faults.Order same (inr high) spells = let never : faults.Order ≡ faults.Full = high.0 in absurd cc
    cause_of after entries faults.Length same (inl cause) spells = absurd cause
    cause_of after entries faults.Length same (inr high) spells = let never : faults.Length ≡ faults.Full = high.0 in absurd cc

    pub applies_failed : (edits ≡ [] → ⊥) → is_stopped old ≡ false → ExtendsTurn history old new
        → (KeepsWord (disk_history history new) → (store_of history back).made ≡ (store_of history old.pager).made)
        → (KeepsWord (disk_history history new) → (store_of history back).retired ≡ (store_of history old.pager).retired)
        → Applies history edits (Err (refusal_of e)) old new
    applies_failed some running continues made retired = record {
      extends = continues;
      idle = λ none. absurd (some none);
      unchanged = ap (λ (tree : ℕ). not (old.root == tree)) (tree_same history old.pager back continues.stays);
      kinds = kind_of e;
      state = λ start before after has leads state. state_stays history old new start before continues refl made retired has;
      cause = λ k start before after has leads state.
          let t : IsTurnOf history old start before = has running (continues.frame k).word in
          cause_of after (change edits t.after) e refl (changes t.pages t.after t.turn.holds (subst (λ (h : History). KeepsWord h) disk k))
          (leads t.after t.spells_now);
    }

  -- what was made and retired was taken back
  pub applies_undone : (mid back : PagerState D) (e : TreeFault) (made retired : ℕ) → Grows (store_of history old.pager) (store_of history mid)
      → ChangesTree history edits old.root (Err e) old.pager mid
      → back ≡ undone_to made retired mid → Returns history made retired mid back → IsOrderly old.pager → made ≡ length old.pager.made
      → retired ≡ length old.pager.retired → (edits ≡ [] → ⊥) → is_stopped old ≡ false
      → Applies history edits (Err (refusal_of e)) old (record old { pager = back })
  applies_undone mid back e made retired grows changes undone returns orderly all_made all_retired some running =
      let r = returns old.pager orderly grows all_made all_retired in
      applies_failed mid back e grows changes (ap (λ (p : PagerState D). pager_history history p) undone)
      (ap (λ (p : PagerState D). (store_of history p).failed_allocations) undone) some running r.0 (λ k. (r.1 k).made) (λ k. (r.1 k).retired)

-- a list without members
pub none_of : {X : Type 0} (xs : List X) → (length xs == 0) ≡ true → xs ≡ []
none_of [] is = refl
none_of (x ∷ xs) is = let never : (length (x ∷ xs) == 0) ≡ false = grind (arith, nat_tests) in let both : true ≡ false = sym is ∙ never in absurd cc

pub some_of : {X : Type 0} (xs : List X) → (length xs == 0) ≡ false → xs ≡ [] → ⊥
some_of [] is none = let never : true ≡ false = is in absurd cc
some_of (x ∷ xs) is none = let never : (x ∷ xs) ≡ [] = none in absurd cc
