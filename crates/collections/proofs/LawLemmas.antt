-- What follows where collections have a state.
use Rattle.std.proofs.Common.{rules, arith, ◌≡◌, ℕ, false, List, [], inl, refl, sym, ◌∙◌, subst}
use Rattle.std.specs.Prelude.{replicate, Ok}
use Rattle.page.specs.History.{History, KeepsWord, now, reads}
use Rattle.tree_model.specs.Keys.{Entry}
use Rattle.tree_model.specs.Reach.{HasMap}
use Rattle.tree_model.proofs.OnceLemmas.{old_trees_stay}
use Rattle.tree_model.proofs.StoreLemmas.{grows_itself, grows_trans}
use Rattle.roots.specs.Root.{no_root, root_of}
use Rattle.roots.specs.Image.{StandsFor, model_at}
use Rattle.roots.specs.Store.{IsCommitted, durable_root}
use Rattle.roots.proofs.HeldFileLemmas.{empty_list}
use Rattle.roots.proofs.OneMap.{one_map, one_state}
use Rattle.roots.proofs.TurnLemmas.{stands_now}
use Rattle.pager.specs.View.{store_of}
use Rattle.pager.proofs.BeginLemmas.{begun_map}
use Rattle.pager.proofs.TurnLemmas.{committed_still}
use Rattle.entries.proofs.OneStateLaws.{spells_one}
use Rattle.entry_model.specs.LawfulState.{IsLawfulState}
use Rattle.entry_model.specs.State.{Collection}
use Rattle.entry_model.specs.StateEntries.{Spells}
use Rattle.collections.specs.State.{State}
use Rattle.collections.specs.Laws.{ExtendsItself, GoesFurther, HasOneState, HoldsOne, LeavesStart, RestsAtStart, ZerosHoldNothing}
use Rattle.collections.specs.Standing.{IsTurnOf}
use Rattle.collections.specs.View.{disk_history, is_changed}
use Rattle.collections.proofs.StandingLemmas.{is_at, tree_same}

-- what the turn began with is committed still
still : {D : Type 0} (history : D → History) (c : State D) (start now : List Collection) (t : IsTurnOf history c start now)
    → KeepsWord (disk_history history c) → IsCommitted history c.pager.store t.live t.before
still history c start now t k = committed_still history c.pager t.began t.turn.grows.stays k t.live t.before t.begun

pub leaves_start : {D : Type 0} (history : D → History) → LeavesStart history
leaves_start history c start now running has k image is =
    let t : IsTurnOf history c start now = has running k in
    record {
      entries = t.before;
      stands = stands_now (disk_history history c) (durable_root c.pager.store) t.live t.before (still history c start now t k).keeps k image is;
      spells = t.spells_start;
      state = t.start_state;
    }

-- The tree of a turn that has changed nothing is the one that it began with.
pub rested_tree : {D : Type 0} (history : D → History) (c : State D) (start now : List Collection) (t : IsTurnOf history c start now)
    → KeepsWord (disk_history history c) → is_changed c ≡ false → (t.after ≡ t.before) × (t.pages ≡ t.live)
rested_tree history c start now t k clean =
    let frame = t.turn.grows.frame k in
    let then_map : HasMap (store_of history t.began) (durable_root t.began.store).tree t.live t.before =
    begun_map history t.began t.live t.before t.begun frame.word in
    let same : (durable_root t.began.store).tree ≡ c.root =
    sym (tree_same history t.began c.pager t.turn.grows.stays) ∙ sym (is_at c.root (durable_root c.pager.store).tree clean) in
    let old_map : HasMap (store_of history c.pager) c.root t.live t.before =
    subst (λ (root : ℕ). HasMap (store_of history c.pager) root t.live t.before) same
    (old_trees_stay (store_of history t.began) (store_of history c.pager) (durable_root t.began.store).tree t.live t.before frame then_map) in
    let one = one_map (store_of history c.pager) c.root t.pages t.live t.after t.before t.turn.holds old_map in
    (one.entries_are, one.pages_are)

pub rests_at_start : {D : Type 0} (history : D → History) → RestsAtStart history
rests_at_start history c start now running k has clean =
    let t : IsTurnOf history c start now = has running k in
    let entries : t.after ≡ t.before = (rested_tree history c start now t k clean).0 in
    spells_one t.after now start t.now_state t.start_state t.spells_now (subst (λ (es : List Entry). Spells es start) (sym entries) t.spells_start)

pub has_one_state : {D : Type 0} (history : D → History) → HasOneState history
has_one_state history c start now' start' now'' running k one two =
    let t : IsTurnOf history c start now' = one running k in
    let u : IsTurnOf history c start' now'' = two running k in
    let entries : t.after ≡ u.after = (one_map (store_of history c.pager) c.root t.pages u.pages t.after u.after t.turn.holds u.turn.holds).entries_are in
    let image = reads (now (disk_history history c)) in
    let keeps = (still history c start now' t k).keeps in
    let others = (still history c start' now'' u k).keeps in
    let stands : StandsFor image t.before = record { root = durable_root c.pager.store; pages = t.live; opens = keeps.opens k; holds = keeps.holds k } in
    let stands' : StandsFor image u.before = record { root = durable_root c.pager.store; pages = u.live; opens = others.opens k; holds = others.holds k } in
    let before : t.before ≡ u.before = one_state image t.before u.before stands stands' in (
      spells_one t.before start start' t.start_state u.start_state t.spells_start (subst (λ (es : List Entry). Spells es start') (sym before) u.spells_start),
      spells_one t.after now' now'' t.now_state u.now_state t.spells_now (subst (λ (es : List Entry). Spells es now'') (sym entries) u.spells_now),
    )

pub holds_one : HoldsOne
holds_one image a b one two =
    let same : one.entries ≡ two.entries = one_state image one.entries two.entries one.stands two.stands in
    spells_one one.entries a b one.state two.state one.spells (subst (λ (es : List Entry). Spells es b) (sym same) two.spells)

zero_roots : root_of (replicate 512 0) (replicate 512 0) ≡ Ok no_root
zero_roots = refl

none_lawful : IsLawfulState []
none_lawful = record { apart = search rules; numbers = tt; kept = search rules; few = omega arith }

pub zeros_hold_nothing : ZerosHoldNothing
zeros_hold_nothing image even odd = record {
  entries = [];
  stands = record {
    root = no_root;
    pages = [];
    opens = (λ i. root_of (even i) (odd i)) ∙ zero_roots;
    holds = record {
      map = inl (refl, (refl, refl));
      once = λ n. omega arith;
      listed = ([], empty_list (model_at image no_root) no_root [] (refl, refl));
    };
  };
  spells = record { rises = search rules; same = λ entry. (λ x. x, λ x. x) };
  state = none_lawful;
}

pub goes_from_itself : {D : Type 0} (history : D → History) → ExtendsItself history
goes_from_itself history c = grows_itself (store_of history c.pager)

pub goes_further : {D : Type 0} (history : D → History) → GoesFurther history
goes_further history a b c first later = grows_trans (store_of history a.pager) (store_of history b.pager) (store_of history c.pager) first later
