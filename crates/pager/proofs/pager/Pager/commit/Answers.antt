use Rattle.std.proofs.Common.{◌≡◌, ℕ, ◌+◌, ◌*◌, List, [], ◌++◌, length, refl, ap, arith, rules, sym, subst, ◌∙◌, Ok, Err}
use Rattle.std.specs.Prelude.{Result}
use Rattle.page.specs.Calls.{MakesCalls}
use Rattle.page.specs.Format.{PageModel}
use Rattle.freelist.specs.Book.{Book, undone}
use Rattle.roots.specs.declared.store.CommitFault.{CommitFault}
use Rattle.roots.specs.declared.store.CommitFault.TheVariants as faults
use Rattle.roots.specs.Store.{disk_history, durable_root}
use Rattle.roots.specs.Commit.{CommitsRoot, LeavesPages, MovesMaps}
use Rattle.pager.specs.Asking.{OnlyWrites}
use Rattle.pager.specs.Commit.{CommitsPages, CountsTakes, MovesTurns}
use Rattle.pager.specs.Kept.{IsKept}
use Rattle.pager.specs.Order.{pages_at}
use Rattle.pager.specs.Pinning.{KeepsVersions}
use Rattle.pager.specs.Planning.{PlanFails}
use Rattle.pager.specs.State.{State}
use Rattle.pager.specs.Writing.{Forgets, KeepsAll}
use Rattle.pager.proofs.AskingLemmas.{planned_writes, stopped_writes, unplanned_writes}
use Rattle.pager.proofs.CommitLemmas.{done_commits, done_kept, done_moves, done_versions, failed_kept, failed_moves, failed_versions, full_same}
use Rattle.pager.proofs.CommitLemmas.{goes_back_all, told, told_of, unplanned}
use Rattle.pager.proofs.EndLemmas.{commits_failed, moves_nothing, ok_of}
use Rattle.pager.proofs.LimitLemmas.{planned_limit, unplanned_limit}
use Rattle.pager.proofs.KeepingLemmas.{planned_versions}
use Rattle.pager.proofs.pager.Pager.commit.Goals as goal

-- a count that is as it was
counted : {D : Type 0} (result : Result (Unit {0}) CommitFault) (old new : State D) → new.book.failed_allocations ≡ old.book.failed_allocations
    → CountsTakes result old new
counted result old new same = record { grows = omega (arith, same); same = λ _. same }

pub returns-in-Err-clause-commits : goal.returns-in-Err-clause-commits
returns-in-Err-clause-commits g c =
    let D = g.row.D.Denot in
    let history = g.D.Disk.history in
    let i = c.self.inside in
    let fault = c.in-Err.fault in
    let last = c.plan_commit.new.book in
    let after : State D = record { store = i.store; made = i.made.items; retired = i.retired.items; book = last } in
    let fails =
    told_of (λ root made pages. PlanFails root made pages fault i.book last) c.root.ensures c.deref.ensures.value c.deref-2.ensures.value
    c.deref-3.ensures.value c.deref-4.ensures.value c.in-Err.ensures.err in
    subst (λ (s : State D). CommitsPages history c.args.root (Err fault) s after) c.self.view_is
    (unplanned history i.store i.cache i.made.items i.retired.items i.book c.self.invariant (search rules) c.args.root fault last fails)

pub returns-in-Err-clause-moves : goal.returns-in-Err-clause-moves
returns-in-Err-clause-moves g c =
    let D = g.row.D.Denot in
    let history = g.D.Disk.history in
    let i = c.self.inside in
    let after : State D = record { store = i.store; made = i.made.items; retired = i.retired.items; book = c.plan_commit.new.book } in
    subst (λ (s : State D). MovesTurns history c.args.root (Err c.in-Err.fault) s after) c.self.view_is
    (moves_nothing history i.store i.cache i.made.items i.retired.items i.book c.self.invariant c.args.root c.in-Err.fault c.plan_commit.new.book)

pub invariant_of-self-in-Err-commit : goal.invariant_of-self-in-Err-commit
invariant_of-self-in-Err-commit g c =
    let history = g.D.Disk.history in
    let i = c.self.inside in
    let fault = c.in-Err-commit.fault in
    let new = c.commit.new.self in
    let cache = c.forget_all.new.cache in
    let plan = c.in-Ok.plan in
    let last = c.plan_commit.new.book in
    let is =
    told plan i.book last c.root.ensures c.deref.ensures.value c.deref-2.ensures.value c.deref-3.ensures.value c.deref-4.ensures.value c.in-Ok.ensures.plan in
    let forgets = subst (λ (pages : List ℕ). Forgets pages i.cache cache) c.deref-5.ensures.value c.forget_all.ensures in
    let leaves =
    subst (λ (w : List PageModel). LeavesPages history w c.args.root plan.free_list plan.free_count (Err fault) i.store new) c.deref-6.ensures.value
    c.in-Err-commit.ensures.pages in
    let back : c.undo_to.new.self ≡ i.book =
    c.undo_to.ensures ∙ ap (λ (n : ℕ). undone n last) c.mark-mark.ensures
    ∙ goes_back_all history i.store i.cache cache i.made.items i.retired.items i.book last c.self.invariant plan is forgets in
    subst (λ (b : Book). IsKept history new cache i.made.items b i.listed.items i.places.items) (sym back)
    (failed_kept history i.store i.cache cache i.made.items i.retired.items i.book last c.self.invariant plan is forgets c.args.root fault new
    c.in-Err-commit.ensures.commits leaves)

pub returns-in-Err-commit-clause-commits : goal.returns-in-Err-commit-clause-commits
returns-in-Err-commit-clause-commits g c =
    let D = g.row.D.Denot in
    let history = g.D.Disk.history in
    let i = c.self.inside in
    let fault = c.in-Err-commit.fault in
    let new = c.commit.new.self in
    let cache = c.forget_all.new.cache in
    let plan = c.in-Ok.plan in
    let last = c.plan_commit.new.book in
    let is =
    told plan i.book last c.root.ensures c.deref.ensures.value c.deref-2.ensures.value c.deref-3.ensures.value c.deref-4.ensures.value c.in-Ok.ensures.plan in
    let forgets = subst (λ (pages : List ℕ). Forgets pages i.cache cache) c.deref-5.ensures.value c.forget_all.ensures in
    let back : c.undo_to.new.self ≡ i.book =
    c.undo_to.ensures ∙ ap (λ (n : ℕ). undone n last) c.mark-mark.ensures
    ∙ goes_back_all history i.store i.cache cache i.made.items i.retired.items i.book last c.self.invariant plan is forgets in
    let start : State D = record { store = i.store; made = i.made.items; retired = i.retired.items; book = i.book } in
    let after : Book → State D = λ b. record { store = new; made = i.made.items; retired = i.retired.items; book = b } in
    subst (λ (s : State D). CommitsPages history c.args.root (Err fault) s (after c.undo_to.new.self)) c.self.view_is
    (subst (λ (b : Book). CommitsPages history c.args.root (Err fault) start (after b)) (sym back)
    (commits_failed history i.store i.cache i.made.items i.retired.items i.book c.self.invariant c.args.root fault new c.in-Err-commit.ensures.commits
    c.in-Err-commit.ensures.pages.still))

pub returns-in-Err-commit-clause-takes : goal.returns-in-Err-commit-clause-takes
returns-in-Err-commit-clause-takes g c =
    let D = g.row.D.Denot in
    let history = g.D.Disk.history in
    let i = c.self.inside in
    let cache = c.forget_all.new.cache in
    let plan = c.in-Ok.plan in
    let last = c.plan_commit.new.book in
    let is =
    told plan i.book last c.root.ensures c.deref.ensures.value c.deref-2.ensures.value c.deref-3.ensures.value c.deref-4.ensures.value c.in-Ok.ensures.plan in
    let forgets = subst (λ (pages : List ℕ). Forgets pages i.cache cache) c.deref-5.ensures.value c.forget_all.ensures in
    let back : c.undo_to.new.self ≡ i.book =
    c.undo_to.ensures ∙ ap (λ (n : ℕ). undone n last) c.mark-mark.ensures
    ∙ goes_back_all history i.store i.cache cache i.made.items i.retired.items i.book last c.self.invariant plan is forgets in
    counted _ _ _ (ap (λ (b : Book). b.failed_allocations) back ∙ ap (λ (s : State D). s.book.failed_allocations) c.self.view_is)

pub returns-in-Err-commit-clause-moves : goal.returns-in-Err-commit-clause-moves
returns-in-Err-commit-clause-moves g c =
    let D = g.row.D.Denot in
    let history = g.D.Disk.history in
    let i = c.self.inside in
    let fault = c.in-Err-commit.fault in
    let new = c.commit.new.self in
    let cache = c.forget_all.new.cache in
    let plan = c.in-Ok.plan in
    let last = c.plan_commit.new.book in
    let is =
    told plan i.book last c.root.ensures c.deref.ensures.value c.deref-2.ensures.value c.deref-3.ensures.value c.deref-4.ensures.value c.in-Ok.ensures.plan in
    let forgets = subst (λ (pages : List ℕ). Forgets pages i.cache cache) c.deref-5.ensures.value c.forget_all.ensures in
    let back : c.undo_to.new.self ≡ i.book =
    c.undo_to.ensures ∙ ap (λ (n : ℕ). undone n last) c.mark-mark.ensures
    ∙ goes_back_all history i.store i.cache cache i.made.items i.retired.items i.book last c.self.invariant plan is forgets in
    let moves =
    subst (λ (w : List PageModel). MovesMaps history w c.args.root plan.free_list plan.free_count (Err fault) i.store new) c.deref-6.ensures.value
    c.in-Err-commit.ensures.moves in
    let start : State D = record { store = i.store; made = i.made.items; retired = i.retired.items; book = i.book } in
    let after : Book → State D = λ b. record { store = new; made = i.made.items; retired = i.retired.items; book = b } in
    subst (λ (s : State D). MovesTurns history c.args.root (Err fault) s (after c.undo_to.new.self)) c.self.view_is
    (subst (λ (b : Book). MovesTurns history c.args.root (Err fault) start (after b)) (sym back)
    (failed_moves history i.store i.cache cache i.made.items i.retired.items i.book last c.self.invariant plan is forgets c.args.root fault new
    c.in-Err-commit.ensures.commits moves))

pub invariant_of-self-2 : goal.invariant_of-self-2
invariant_of-self-2 g c =
    let history = g.D.Disk.history in
    let i = c.self.inside in
    let new = c.commit.new.self in
    let cache = c.forget_all.new.cache in
    let plan = c.in-Ok.plan in
    let last = c.plan_commit.new.book in
    let is =
    told plan i.book last c.root.ensures c.deref.ensures.value c.deref-2.ensures.value c.deref-3.ensures.value c.deref-4.ensures.value c.in-Ok.ensures.plan in
    let forgets = subst (λ (pages : List ℕ). Forgets pages i.cache cache) c.deref-5.ensures.value c.forget_all.ensures in
    let ok = ok_of c.commit.result c.in_default.not-Err in
    let commits = subst (λ (r : Result (Unit {0}) CommitFault). CommitsRoot history c.args.root r i.store new) ok c.commit.ensures.commits in
    let leaves =
    subst (λ (w : List PageModel). LeavesPages history w c.args.root plan.free_list plan.free_count (Ok tt) i.store new) c.deref-6.ensures.value
    (subst (λ (r : Result (Unit {0}) CommitFault). LeavesPages history c.deref-6.result.now c.args.root plan.free_list plan.free_count r i.store new) ok
    c.commit.ensures.pages) in
    let version = c.root-2.result.generation in
    let keeps = subst (λ (w : List PageModel). KeepsAll w cache c.keep_all.new.cache) c.deref-7.ensures.value c.keep_all.ensures in
    subst (λ (places : List ℕ). IsKept history new c.keep_all.new.cache c.clear.new.self.items c.commit-2.new.self plan.listed.items places)
    (sym c.clear-3.ensures.items)
    (subst (λ (made : List PageModel). IsKept history new c.keep_all.new.cache made c.commit-2.new.self plan.listed.items []) (sym c.clear.ensures.items)
    (subst (λ (b : Book). IsKept history new c.keep_all.new.cache [] b plan.listed.items []) (sym c.commit-2.ensures)
    (done_kept history i.store i.cache cache i.made.items i.retired.items i.book last c.self.invariant plan is forgets c.args.root new commits
    leaves c.keep_all.new.cache keeps version)))

pub returns-clause-takes : goal.returns-clause-takes
returns-clause-takes g c =
    let D = g.row.D.Denot in
    let history = g.D.Disk.history in
    let i = c.self.inside in
    let cache = c.forget_all.new.cache in
    let plan = c.in-Ok.plan in
    let last = c.plan_commit.new.book in
    let is =
    told plan i.book last c.root.ensures c.deref.ensures.value c.deref-2.ensures.value c.deref-3.ensures.value c.deref-4.ensures.value c.in-Ok.ensures.plan in
    let forgets = subst (λ (pages : List ℕ). Forgets pages i.cache cache) c.deref-5.ensures.value c.forget_all.ensures in
    counted _ _ _
    (ap (λ (b : Book). b.failed_allocations) c.commit-2.ensures
    ∙ full_same history i.store i.cache cache i.made.items i.retired.items i.book last c.self.invariant plan is forgets
    ∙ ap (λ (s : State D). s.book.failed_allocations) c.self.view_is)

pub returns-clause-commits : goal.returns-clause-commits
returns-clause-commits g c =
    let D = g.row.D.Denot in
    let history = g.D.Disk.history in
    let i = c.self.inside in
    let new = c.commit.new.self in
    let cache = c.forget_all.new.cache in
    let plan = c.in-Ok.plan in
    let last = c.plan_commit.new.book in
    let is =
    told plan i.book last c.root.ensures c.deref.ensures.value c.deref-2.ensures.value c.deref-3.ensures.value c.deref-4.ensures.value c.in-Ok.ensures.plan in
    let forgets = subst (λ (pages : List ℕ). Forgets pages i.cache cache) c.deref-5.ensures.value c.forget_all.ensures in
    let ok = ok_of c.commit.result c.in_default.not-Err in
    let commits = subst (λ (r : Result (Unit {0}) CommitFault). CommitsRoot history c.args.root r i.store new) ok c.commit.ensures.commits in
    let leaves =
    subst (λ (w : List PageModel). LeavesPages history w c.args.root plan.free_list plan.free_count (Ok tt) i.store new) c.deref-6.ensures.value
    (subst (λ (r : Result (Unit {0}) CommitFault). LeavesPages history c.deref-6.result.now c.args.root plan.free_list plan.free_count r i.store new) ok
    c.commit.ensures.pages) in
    let version = c.root-2.result.generation in
    let keeps = subst (λ (w : List PageModel). KeepsAll w cache c.keep_all.new.cache) c.deref-7.ensures.value c.keep_all.ensures in
    let start : State D = record { store = i.store; made = i.made.items; retired = i.retired.items; book = i.book } in
    let after : List PageModel → List ℕ → Book → State D = λ m r b. record { store = new; made = m; retired = r; book = b } in
    subst (λ (s : State D). CommitsPages history c.args.root (Ok tt) s (after c.clear.new.self.items c.clear-2.new.self.items c.commit-2.new.self))
    c.self.view_is
    (subst (CommitsPages history c.args.root (Ok tt) start)
    (λ j. after (sym c.clear.ensures.items j) (sym c.clear-2.ensures.items j) (sym c.commit-2.ensures j))
    (done_commits history i.store i.cache cache i.made.items i.retired.items i.book last c.self.invariant plan is forgets c.args.root new commits
    leaves c.keep_all.new.cache keeps version))

pub returns-clause-moves : goal.returns-clause-moves
returns-clause-moves g c =
    let D = g.row.D.Denot in
    let history = g.D.Disk.history in
    let i = c.self.inside in
    let new = c.commit.new.self in
    let cache = c.forget_all.new.cache in
    let plan = c.in-Ok.plan in
    let last = c.plan_commit.new.book in
    let is =
    told plan i.book last c.root.ensures c.deref.ensures.value c.deref-2.ensures.value c.deref-3.ensures.value c.deref-4.ensures.value c.in-Ok.ensures.plan in
    let forgets = subst (λ (pages : List ℕ). Forgets pages i.cache cache) c.deref-5.ensures.value c.forget_all.ensures in
    let ok = ok_of c.commit.result c.in_default.not-Err in
    let commits = subst (λ (r : Result (Unit {0}) CommitFault). CommitsRoot history c.args.root r i.store new) ok c.commit.ensures.commits in
    let leaves =
    subst (λ (w : List PageModel). LeavesPages history w c.args.root plan.free_list plan.free_count (Ok tt) i.store new) c.deref-6.ensures.value
    (subst (λ (r : Result (Unit {0}) CommitFault). LeavesPages history c.deref-6.result.now c.args.root plan.free_list plan.free_count r i.store new) ok
    c.commit.ensures.pages) in
    let version = c.root-2.result.generation in
    let keeps = subst (λ (w : List PageModel). KeepsAll w cache c.keep_all.new.cache) c.deref-7.ensures.value c.keep_all.ensures in
    let moves =
    subst (λ (w : List PageModel). MovesMaps history w c.args.root plan.free_list plan.free_count (Ok tt) i.store new) c.deref-6.ensures.value
    (subst (λ (r : Result (Unit {0}) CommitFault). MovesMaps history c.deref-6.result.now c.args.root plan.free_list plan.free_count r i.store new) ok
    c.commit.ensures.moves) in
    let start : State D = record { store = i.store; made = i.made.items; retired = i.retired.items; book = i.book } in
    let after : List PageModel → List ℕ → Book → State D = λ m r b. record { store = new; made = m; retired = r; book = b } in
    subst (λ (s : State D). MovesTurns history c.args.root (Ok tt) s (after c.clear.new.self.items c.clear-2.new.self.items c.commit-2.new.self)) c.self.view_is
    (subst (MovesTurns history c.args.root (Ok tt) start)
    (λ j. after (sym c.clear.ensures.items j) (sym c.clear-2.ensures.items j) (sym c.commit-2.ensures j))
    (done_moves history i.store i.cache cache i.made.items i.retired.items i.book last c.self.invariant plan is forgets c.args.root new commits
    leaves c.keep_all.new.cache keeps version moves))

pub returns-in-Err-clause-versions : goal.returns-in-Err-clause-versions
returns-in-Err-clause-versions g c =
    let D = g.row.D.Denot in
    let history = g.D.Disk.history in
    let i = c.self.inside in
    let fault = c.in-Err.fault in
    let last = c.plan_commit.new.book in
    let after : State D = record { store = i.store; made = i.made.items; retired = i.retired.items; book = last } in
    let fails =
    told_of (λ root made pages. PlanFails root made pages fault i.book last) c.root.ensures c.deref.ensures.value c.deref-2.ensures.value
    c.deref-3.ensures.value c.deref-4.ensures.value c.in-Err.ensures.err in
    subst (λ (s : State D). KeepsVersions history s after) c.self.view_is
    (planned_versions history i.store i.made.items i.retired.items i.book last (durable_root i.store) (pages_at i.made.items i.places.items)
    (i.retired.items ++ i.listed.items) fault fails)

pub returns-in-Err-commit-clause-versions : goal.returns-in-Err-commit-clause-versions
returns-in-Err-commit-clause-versions g c =
    let D = g.row.D.Denot in
    let history = g.D.Disk.history in
    let i = c.self.inside in
    let fault = c.in-Err-commit.fault in
    let new = c.commit.new.self in
    let cache = c.forget_all.new.cache in
    let plan = c.in-Ok.plan in
    let last = c.plan_commit.new.book in
    let is =
    told plan i.book last c.root.ensures c.deref.ensures.value c.deref-2.ensures.value c.deref-3.ensures.value c.deref-4.ensures.value c.in-Ok.ensures.plan in
    let forgets = subst (λ (pages : List ℕ). Forgets pages i.cache cache) c.deref-5.ensures.value c.forget_all.ensures in
    let back : c.undo_to.new.self ≡ i.book =
    c.undo_to.ensures ∙ ap (λ (n : ℕ). undone n last) c.mark-mark.ensures
    ∙ goes_back_all history i.store i.cache cache i.made.items i.retired.items i.book last c.self.invariant plan is forgets in
    let leaves =
    subst (λ (w : List PageModel). LeavesPages history w c.args.root plan.free_list plan.free_count (Err fault) i.store new) c.deref-6.ensures.value
    c.in-Err-commit.ensures.pages in
    let start : State D = record { store = i.store; made = i.made.items; retired = i.retired.items; book = i.book } in
    let after : Book → State D = λ b. record { store = new; made = i.made.items; retired = i.retired.items; book = b } in
    subst (λ (s : State D). KeepsVersions history s (after c.undo_to.new.self)) c.self.view_is
    (subst (λ (b : Book). KeepsVersions history start (after b)) (sym back)
    (failed_versions history i.store i.cache cache i.made.items i.retired.items i.book last c.self.invariant plan is forgets c.args.root fault new
    c.in-Err-commit.ensures.commits leaves))

pub returns-clause-versions : goal.returns-clause-versions
returns-clause-versions g c =
    let D = g.row.D.Denot in
    let history = g.D.Disk.history in
    let i = c.self.inside in
    let new = c.commit.new.self in
    let cache = c.forget_all.new.cache in
    let plan = c.in-Ok.plan in
    let last = c.plan_commit.new.book in
    let is =
    told plan i.book last c.root.ensures c.deref.ensures.value c.deref-2.ensures.value c.deref-3.ensures.value c.deref-4.ensures.value c.in-Ok.ensures.plan in
    let forgets = subst (λ (pages : List ℕ). Forgets pages i.cache cache) c.deref-5.ensures.value c.forget_all.ensures in
    let ok = ok_of c.commit.result c.in_default.not-Err in
    let commits = subst (λ (r : Result (Unit {0}) CommitFault). CommitsRoot history c.args.root r i.store new) ok c.commit.ensures.commits in
    let leaves =
    subst (λ (w : List PageModel). LeavesPages history w c.args.root plan.free_list plan.free_count (Ok tt) i.store new) c.deref-6.ensures.value
    (subst (λ (r : Result (Unit {0}) CommitFault). LeavesPages history c.deref-6.result.now c.args.root plan.free_list plan.free_count r i.store new) ok
    c.commit.ensures.pages) in
    let version = c.root-2.result.generation in
    let keeps = subst (λ (w : List PageModel). KeepsAll w cache c.keep_all.new.cache) c.deref-7.ensures.value c.keep_all.ensures in
    let start : State D = record { store = i.store; made = i.made.items; retired = i.retired.items; book = i.book } in
    let after : List PageModel → List ℕ → Book → State D = λ m r b. record { store = new; made = m; retired = r; book = b } in
    subst (λ (s : State D). KeepsVersions history s (after c.clear.new.self.items c.clear-2.new.self.items c.commit-2.new.self)) c.self.view_is
    (subst (KeepsVersions history start)
    (λ j. after (sym c.clear.ensures.items j) (sym c.clear-2.ensures.items j) (sym c.commit-2.ensures j))
    (done_versions history i.store i.cache cache i.made.items i.retired.items i.book last c.self.invariant plan is forgets c.args.root new commits
    leaves c.keep_all.new.cache keeps version))

pub returns-then-is_stopped-clause-calls : goal.returns-then-is_stopped-clause-calls
returns-then-is_stopped-clause-calls g c =
    let D = g.row.D.Denot in
    let history = g.D.Disk.history in
    let i = c.self.inside in
    let p : State D = record { store = i.store; made = i.made.items; retired = i.retired.items; book = i.book } in
    subst (λ (s : State D). OnlyWrites history (Err faults.Device) s s) c.self.view_is
    (stopped_writes history p (sym c.is_stopped.ensures ∙ c.if-is_stopped.true))

pub returns-in-Err-clause-calls : goal.returns-in-Err-clause-calls
returns-in-Err-clause-calls g c =
    let D = g.row.D.Denot in
    let history = g.D.Disk.history in
    let i = c.self.inside in
    let fault = c.in-Err.fault in
    let last = c.plan_commit.new.book in
    let after : State D = record { store = i.store; made = i.made.items; retired = i.retired.items; book = last } in
    let fails =
    told_of (λ root made pages. PlanFails root made pages fault i.book last) c.root.ensures c.deref.ensures.value c.deref-2.ensures.value
    c.deref-3.ensures.value c.deref-4.ensures.value c.in-Err.ensures.err in
    subst (λ (s : State D). OnlyWrites history (Err fault) s after) c.self.view_is
    (unplanned_writes history i.store i.cache i.made.items i.retired.items i.book c.self.invariant fault last fails)

pub returns-in-Err-commit-clause-calls : goal.returns-in-Err-commit-clause-calls
returns-in-Err-commit-clause-calls g c =
    let D = g.row.D.Denot in
    let history = g.D.Disk.history in
    let i = c.self.inside in
    let fault = c.in-Err-commit.fault in
    let new = c.commit.new.self in
    let plan = c.in-Ok.plan in
    let last = c.plan_commit.new.book in
    let is =
    told plan i.book last c.root.ensures c.deref.ensures.value c.deref-2.ensures.value c.deref-3.ensures.value c.deref-4.ensures.value c.in-Ok.ensures.plan in
    let after : State D = record { store = new; made = i.made.items; retired = i.retired.items; book = c.undo_to.new.self } in
    let calls =
    subst (λ (w : List PageModel). MakesCalls {T = Unit {0}} {E = CommitFault} (8 * length w + 3) (Err fault) (disk_history history i.store)
    (disk_history history new)) c.deref-6.ensures.value c.in-Err-commit.ensures.calls in
    subst (λ (s : State D). OnlyWrites history (Err fault) s after) c.self.view_is
    (planned_writes history i.store i.cache i.made.items i.retired.items i.book c.self.invariant last plan is (Err fault) after calls)

pub returns-clause-calls : goal.returns-clause-calls
returns-clause-calls g c =
    let D = g.row.D.Denot in
    let history = g.D.Disk.history in
    let i = c.self.inside in
    let new = c.commit.new.self in
    let plan = c.in-Ok.plan in
    let last = c.plan_commit.new.book in
    let is =
    told plan i.book last c.root.ensures c.deref.ensures.value c.deref-2.ensures.value c.deref-3.ensures.value c.deref-4.ensures.value c.in-Ok.ensures.plan in
    let ok = ok_of c.commit.result c.in_default.not-Err in
    let after : State D = record { store = new; made = c.clear.new.self.items; retired = c.clear-2.new.self.items; book = c.commit-2.new.self } in
    let calls =
    subst (λ (w : List PageModel). MakesCalls {T = Unit {0}} {E = CommitFault} (8 * length w + 3) (Ok tt) (disk_history history i.store)
    (disk_history history new))
    c.deref-6.ensures.value
    (subst (λ (r : Result (Unit {0}) CommitFault). MakesCalls (8 * length c.deref-6.result.now + 3) r (disk_history history i.store) (disk_history history new))
    ok c.commit.ensures.calls) in
    subst (λ (s : State D). OnlyWrites history (Ok tt) s after) c.self.view_is
    (planned_writes history i.store i.cache i.made.items i.retired.items i.book c.self.invariant last plan is (Ok tt) after calls)

pub returns-in-Err-clause-limit : goal.returns-in-Err-clause-limit
returns-in-Err-clause-limit g c =
    let i = c.self.inside in
    let fault = c.in-Err.fault in
    let last = c.plan_commit.new.book in
    unplanned_limit c.root.result (pages_at c.deref.result.now c.deref-2.result.now) (c.deref-3.result.now ++ c.deref-4.result.now) fault i.book last
    c.in-Err.ensures.err ∙ ap (λ (s : State g.row.D.Denot). length s.book.states) c.self.view_is

pub returns-in-Err-commit-clause-limit : goal.returns-in-Err-commit-clause-limit
returns-in-Err-commit-clause-limit g c =
    let history = g.D.Disk.history in
    let i = c.self.inside in
    let cache = c.forget_all.new.cache in
    let plan = c.in-Ok.plan in
    let last = c.plan_commit.new.book in
    let is =
    told plan i.book last c.root.ensures c.deref.ensures.value c.deref-2.ensures.value c.deref-3.ensures.value c.deref-4.ensures.value c.in-Ok.ensures.plan in
    let forgets = subst (λ (pages : List ℕ). Forgets pages i.cache cache) c.deref-5.ensures.value c.forget_all.ensures in
    let back : c.undo_to.new.self ≡ i.book =
    c.undo_to.ensures ∙ ap (λ (n : ℕ). undone n last) c.mark-mark.ensures
    ∙ goes_back_all history i.store i.cache cache i.made.items i.retired.items i.book last c.self.invariant plan is forgets in
    ap (λ (b : Book). length b.states) back ∙ ap (λ (s : State g.row.D.Denot). length s.book.states) c.self.view_is

pub returns-clause-limit : goal.returns-clause-limit
returns-clause-limit g c =
    let history = g.D.Disk.history in
    let i = c.self.inside in
    let plan = c.in-Ok.plan in
    let last = c.plan_commit.new.book in
    let is =
    told plan i.book last c.root.ensures c.deref.ensures.value c.deref-2.ensures.value c.deref-3.ensures.value c.deref-4.ensures.value c.in-Ok.ensures.plan in
    ap (λ (b : Book). length b.states) c.commit-2.ensures
    ∙ planned_limit history i.store i.cache i.made.items i.retired.items i.book c.self.invariant last plan is c.root-2.result.generation
    ∙ ap (λ (s : State g.row.D.Denot). length s.book.states) c.self.view_is

pub returns-then-is_stopped-clause-limit : goal.returns-then-is_stopped-clause-limit
returns-then-is_stopped-clause-limit g c = refl
