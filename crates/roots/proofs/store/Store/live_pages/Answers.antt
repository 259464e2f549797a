use Rattle.std.proofs.Common.{rules, List, ◌++◌, ◌≡◌, ℕ, Ok, Err, subst}
use Rattle.page.specs.History.{Sector, now, reads}
use Rattle.roots.specs.HeldFile.{ChecksList}
use Rattle.roots.specs.Image.{model_at}
use Rattle.roots.proofs.FreeLemmas.{file_failed, only_read}
use Rattle.roots.proofs.HeldFileLemmas.{all_reached, no_list, no_tree}
use Rattle.roots.proofs.store.Store.live_pages.Goals as goal

pub returns-in-Err-clause-same : goal.returns-in-Err-clause-same
returns-in-Err-clause-same g c =
    only_read g.D.Disk.history (Err c.in-Err.fault) c.args.self.now c.reached_pages.new.disk c.failed_behind-self.result c.in-Err.ensures.looks
    c.failed_behind-self.ensures

pub returns-in-Err-clause-finds : goal.returns-in-Err-clause-finds
returns-in-Err-clause-finds g c =
    let root = c.args.self.now.root in
    let models = model_at (reads (now (g.D.Disk.history c.args.self.now.disk))) root in
    λ k. no_tree models root c.in-Err.fault (λ pages entries holds. c.in-Err.ensures.pages k pages entries holds)

pub returns-in_err-list-clause-finds : goal.returns-in_err-list-clause-finds
returns-in_err-list-clause-finds g c =
    let e = c.in_err-list.field-0.0 in
    let root = c.args.self.now.root in
    let live = c.in-Ok.live.items in
    let history = g.D.Disk.history in
    let models = model_at (reads (now (history c.args.self.now.disk))) root in
    λ k. let mid = c.in_err-list.ensures.reads.disk.extends.kept k in
    let there : ChecksList models root live (Err e) =
    subst (λ (s : ℕ → Sector). ChecksList (model_at (reads s) root) root live (Err e)) (c.reached_pages.ensures.looks.reads.same mid)
    (subst (λ (t : List ℕ). ChecksList (model_at (reads (now (history c.reached_pages.new.disk))) root) root t (Err e)) c.deref.ensures.value
    (c.in_err-list.ensures.list k)) in
    file_failed _ _ c.from_residual.result e (search rules)
    (no_list models root live e (λ pages entries holds. c.in-Ok.ensures.pages mid pages entries holds) there)

pub returns-clause-finds : goal.returns-clause-finds
returns-clause-finds g c =
    let root = c.args.self.now.root in
    let live = c.in-Ok.live.items in
    let list = c.in_ok-list.list in
    let history = g.D.Disk.history in
    let models = model_at (reads (now (history c.args.self.now.disk))) root in
    λ k. let mid = c.in_ok-list.ensures.reads.disk.extends.kept k in
    let there : ChecksList models root live (Ok list) =
    subst (λ (s : ℕ → Sector). ChecksList (model_at (reads s) root) root live (Ok list)) (c.reached_pages.ensures.looks.reads.same mid)
    (subst (λ (t : List ℕ). ChecksList (model_at (reads (now (history c.reached_pages.new.disk))) root) root t (Ok list)) c.deref.ensures.value
    (c.in_ok-list.ensures.list k)) in
    let all : c.extend_from_slice.new.self.items ≡ live ++ list.pages.items = search rules in
    all_reached models root live c.extend_from_slice.new.self _ list (c.in-Ok.ensures.found mid) there all (search rules)
