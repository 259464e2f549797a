use Rattle.std.proofs.Common.{◌≡◌, ℕ, List, length, take, sym, subst, ap, ◌∙◌}
use Rattle.page.specs.Format.{PageModel}
use Rattle.freelist.specs.Book.{Book, undone}
use Rattle.pager.specs.Kept.{IsKept}
use Rattle.pager.specs.Pinning.{KeepsOlder}
use Rattle.pager.specs.State.{State}
use Rattle.pager.specs.Turn.{LeadsBack, Returns}
use Rattle.pager.proofs.AgainLemmas.{undone_keeps}
use Rattle.pager.proofs.LimitLemmas.{undone_limit}
use Rattle.pager.proofs.OrderLemmas.{all_positive, lower_than}
use Rattle.pager.proofs.ReturnLemmas.{returns_back}
use Rattle.pager.proofs.UndoLemmas.{kept_undone, leads_back}
use Rattle.pager.proofs.pager.Pager.undo_to.Goals as goal

pub invariant_of-self : goal.invariant_of-self
invariant_of-self g c =
    let i = c.self.inside in
    let book : c.undo_to.new.self ≡ undone c.args.mark.made i.book = c.undo_to.ensures ∙ ap (λ (n : ℕ). undone n i.book) c.args.mark.same in
    subst (λ (ps : List ℕ). IsKept g.D.Disk.history i.store i.cache c.truncate.new.self.items c.undo_to.new.self i.listed.items ps)
    (sym c.keep_lower.ensures)
    (subst (λ (m : List PageModel). IsKept g.D.Disk.history i.store i.cache m c.undo_to.new.self i.listed.items (lower_than c.args.mark.made i.places.items))
    (sym c.truncate.ensures.items)
    (subst
    (λ (b : Book). IsKept g.D.Disk.history i.store i.cache (take c.args.mark.made i.made.items) b i.listed.items (lower_than c.args.mark.made i.places.items))
    (sym book)
    (kept_undone g.D.Disk.history i.store i.cache i.made.items i.book c.self.invariant c.args.mark.made)))

pub returns-clause-begun : goal.returns-clause-begun
returns-clause-begun g c =
    let D = g.row.D.Denot in
    let history = g.D.Disk.history in
    let i = c.self.inside in
    let made = c.args.mark.made in
    let retired = c.args.mark.retired in
    let book : c.undo_to.new.self ≡ undone made i.book = c.undo_to.ensures ∙ ap (λ (n : ℕ). undone n i.book) c.args.mark.same in
    let after : List PageModel → List ℕ → Book → State D = λ m r b. record { store = i.store; made = m; retired = r; book = b } in
    let p : State D = after i.made.items i.retired.items i.book in
    subst (λ (s : State D). LeadsBack history made retired s (after c.truncate.new.self.items c.truncate-2.new.self.items c.undo_to.new.self)) c.self.view_is
    (subst (LeadsBack history made retired p) (λ j. after (sym c.truncate.ensures.items j) (sym c.truncate-2.ensures.items j) (sym book j))
    (leads_back history i.store i.cache i.made.items i.retired.items i.book c.self.invariant made retired))

pub returns-clause-returns : goal.returns-clause-returns
returns-clause-returns g c =
    let D = g.row.D.Denot in
    let history = g.D.Disk.history in
    let i = c.self.inside in
    let made = c.args.mark.made in
    let retired = c.args.mark.retired in
    let book : c.undo_to.new.self ≡ undone made i.book = c.undo_to.ensures ∙ ap (λ (n : ℕ). undone n i.book) c.args.mark.same in
    let after : List PageModel → List ℕ → Book → State D = λ m r b. record { store = i.store; made = m; retired = r; book = b } in
    let p : State D = after i.made.items i.retired.items i.book in
    subst (λ (s : State D). Returns history made retired s (after c.truncate.new.self.items c.truncate-2.new.self.items c.undo_to.new.self)) c.self.view_is
    (subst (Returns history made retired p) (λ j. after (sym c.truncate.ensures.items j) (sym c.truncate-2.ensures.items j) (sym book j))
    (returns_back history p c.self.invariant.booked (all_positive i.made.items i.places.items c.self.invariant.order) made retired))

pub returns-clause-versions : goal.returns-clause-versions
returns-clause-versions g c =
    let D = g.row.D.Denot in
    let history = g.D.Disk.history in
    let i = c.self.inside in
    let made = c.args.mark.made in
    let retired = c.args.mark.retired in
    let book : c.undo_to.new.self ≡ undone made i.book = c.undo_to.ensures ∙ ap (λ (n : ℕ). undone n i.book) c.args.mark.same in
    let after : List PageModel → List ℕ → Book → State D = λ m r b. record { store = i.store; made = m; retired = r; book = b } in
    let p : State D = after i.made.items i.retired.items i.book in
    subst (λ (s : State D). KeepsOlder history made s (after c.truncate.new.self.items c.truncate-2.new.self.items c.undo_to.new.self)) c.self.view_is
    (subst (KeepsOlder history made p) (λ j. after (sym c.truncate.ensures.items j) (sym c.truncate-2.ensures.items j) (sym book j))
    (undone_keeps history p c.self.invariant.booked (all_positive i.made.items i.places.items c.self.invariant.order) made retired))

pub returns-clause-limit : goal.returns-clause-limit
returns-clause-limit g c =
    let i = c.self.inside in
    let book : c.undo_to.new.self ≡ undone c.args.mark.made i.book = c.undo_to.ensures ∙ ap (λ (n : ℕ). undone n i.book) c.args.mark.same in
    ap (λ (b : Book). length b.states) book ∙ undone_limit c.args.mark.made i.book ∙ ap (λ (s : State g.row.D.Denot). length s.book.states) c.self.view_is
