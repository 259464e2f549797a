-- The state of a turn, as it goes on.
use Rattle.std.proofs.Common.{◌≡◌, ℕ, Bool, true, false, List, get_or, refl, sym, ◌∙◌, ap, subst, arith, inl, inr}
use Rattle.std.specs.Prelude.{◌==◌, not}
use Rattle.std.proofs.lemmas.Bool.{cases_eq}
use Rattle.std.proofs.lemmas.Bool.Decides.{nat_tests}
use Rattle.page.specs.History.{History, KeepsWord}
use Rattle.btree.specs.Change.{IsChanged}
use Rattle.tree_model.specs.Keys.{Entry, times}
use Rattle.tree_model.specs.Reach.{HasMap}
use Rattle.tree_model.specs.Store.{Frame, Grows, Stays, flag}
use Rattle.tree_model.proofs.OnceLemmas.{old_trees_stay}
use Rattle.tree_model.proofs.StoreLemmas.{grows_trans}
use Rattle.roots.specs.declared.root.Root.{Root}
use Rattle.roots.specs.Store as stores
use Rattle.pager.specs.Commit.{IsTurn}
use Rattle.pager.specs.State.{State as PagerState}
use Rattle.pager.specs.Turn.{IsBegun}
use Rattle.pager.specs.View.{pager_history, store_of}
use Rattle.pager.proofs.BeginLemmas.{turn_begins}
use Rattle.pager.proofs.TurnLemmas.{same_root}
use Rattle.entry_model.specs.LawfulState.{IsLawfulState}
use Rattle.entry_model.specs.State.{Collection}
use Rattle.entry_model.specs.StateEntries.{Spells}
use Rattle.collections.specs.State.{State}
use Rattle.collections.specs.Calls.{ExtendsTurn}
use Rattle.collections.specs.Standing.{HasState, IsTurnOf}
use Rattle.collections.specs.View.{disk_history}

flag_one : (a b : Bool) → flag a ≡ flag b → a ≡ b
flag_one true true same = refl
flag_one true false same = absurd (omega (arith, same))
flag_one false true same = absurd (omega (arith, same))
flag_one false false same = refl

-- What no call but a commit changes.
module _ {D : Type 0} (history : D → History) (old new : PagerState D) (stays : Stays (store_of history old) (store_of history new)) where
  pub stopped_same : stores.is_stopped new.store ≡ stores.is_stopped old.store
  stopped_same = flag_one (stores.is_stopped new.store) (stores.is_stopped old.store) (ap (λ (numbers : List ℕ). get_or numbers 0 0) stays.base)

  pub tree_same : (stores.durable_root new.store).tree ≡ (stores.durable_root old.store).tree
  tree_same = ap (λ (root : Root). root.tree) (same_root new old stays.base)

-- ---- the tree of now

-- A tree of these collections, made by a turn that began there.
pub record IsNow {D : Type 0} (history : D → History) (began : PagerState D) (live : List ℕ) (c : State D) (now : List Collection) : Type 0 where
  pub pages : List ℕ
  pub after : List Entry
  pub turn : IsTurn history began c.pager c.root live pages after
  pub spells : Spells after now
  pub state : IsLawfulState now

pub turned : {D : Type 0} (history : D → History) (old new : State D) (start before after : List Collection) (t : IsTurnOf history old start before)
    → IsNow history t.began t.live new after → IsTurnOf history new start after
turned history old new start before after t n = record {
  began = t.began;
  live = t.live;
  before = t.before;
  begun = t.begun;
  spells_start = t.spells_start;
  start_state = t.start_state;
  pages = n.pages;
  after = n.after;
  turn = n.turn;
  spells_now = n.spells;
  now_state = n.state;
}

-- What a call makes of the tree, it makes of the state.
pub state_on : {D : Type 0} (history : D → History) (old new : State D) (start before after : List Collection) → ExtendsTurn history old new
    → (KeepsWord (disk_history history new) → (t : IsTurnOf history old start before) → IsNow history t.began t.live new after)
    → HasState history old start before → HasState history new start after
state_on history old new start before after continues makes has running k =
    let t : IsTurnOf history old start before = has (sym (stopped_same history old.pager new.pager continues.stays) ∙ running) (continues.frame k).word in
    turned history old new start before after t (makes k t)

-- a turn that made another tree
pub turn_on : {D : Type 0} (history : D → History) (began old new : PagerState D) (root changed : ℕ) (live pages : List ℕ) (before after : List Entry)
    → IsTurn history began old root live pages before → Grows (store_of history old) (store_of history new)
    → KeepsWord (pager_history history new) → (c : IsChanged (store_of history old) (store_of history new) changed after pages)
    → IsTurn history began new changed live c.after after
turn_on history began old new root changed live pages before after turn grows k c = record {
  grows = grows_trans (store_of history began) (store_of history old) (store_of history new) turn.grows grows;
  holds = c.map;
  account = λ n. omega (arith, turn.account n, c.turned n);
}

-- a tree that stays, where no page was made or retired
pub tree_stays : {D : Type 0} (history : D → History) (old new : PagerState D) (root : ℕ) (pages : List ℕ) (entries : List Entry)
    → HasMap (store_of history old) root pages entries → Frame (store_of history old) (store_of history new)
    → (store_of history new).made ≡ (store_of history old).made → (store_of history new).retired ≡ (store_of history old).retired
    → IsChanged (store_of history old) (store_of history new) root entries pages
tree_stays history old new root pages entries map frame made retired = record {
  after = pages;
  map = old_trees_stay (store_of history old) (store_of history new) root pages entries frame map;
  turned = λ n. omega (arith, ap (times n) made, ap (times n) retired);
}

-- Where nothing was made or retired, nothing changes.
pub state_stays : {D : Type 0} (history : D → History) (old new : State D) (start now : List Collection) → ExtendsTurn history old new → new.root ≡ old.root
    → (KeepsWord (disk_history history new) → (store_of history new.pager).made ≡ (store_of history old.pager).made)
    → (KeepsWord (disk_history history new) → (store_of history new.pager).retired ≡ (store_of history old.pager).retired)
    → HasState history old start now → HasState history new start now
state_stays history old new start now continues same made retired =
    state_on history old new start now now continues (λ k t.
    let c = tree_stays history old.pager new.pager old.root t.pages t.after t.turn.holds (continues.frame k) (made k) (retired k) in
    record {
      pages = c.after;
      after = t.after;
      turn = subst (λ (root : ℕ). IsTurn history t.began new.pager root t.live c.after t.after) (sym same)
          (turn_on history t.began old.pager new.pager old.root old.root t.live t.pages t.after t.after t.turn continues k c);
      spells = t.spells_now;
      state = t.now_state;
    })

-- ---- the beginning

-- no turn runs
pub begins : {D : Type 0} (history : D → History) (c : State D) (live : List ℕ) (entries : List Entry) (now : List Collection)
    → c.root ≡ (stores.durable_root c.pager.store).tree → KeepsWord (disk_history history c)
    → IsBegun history c.pager live entries → Spells entries now → IsLawfulState now → IsTurnOf history c now now
begins history c live entries now is k begun spells state = record {
  began = c.pager;
  live = live;
  before = entries;
  begun = begun;
  spells_start = spells;
  start_state = state;
  pages = live;
  after = entries;
  turn = subst (λ (root : ℕ). IsTurn history c.pager c.pager root live live entries) (sym is) (turn_begins history c.pager live entries begun k);
  spells_now = spells;
  now_state = state;
}

-- ---- whether it has changed

same_number : (n : ℕ) → (n == n) ≡ true
same_number n = grind (arith, nat_tests)

pub rests_at : (root tree : ℕ) → root ≡ tree → not (root == tree) ≡ false
rests_at root tree is = ap (λ (t : ℕ). not (root == t)) (sym is) ∙ ap not (same_number root)

pub is_at : (root tree : ℕ) → not (root == tree) ≡ false → root ≡ tree
is_at root tree clean = elim (cases_eq root tree) [
  | inl is ↦ is
  | inr ne ↦ let never : not (root == tree) ≡ true = grind (arith, nat_tests, ne) in let both : true ≡ false = sym never ∙ clean in absurd cc
]
