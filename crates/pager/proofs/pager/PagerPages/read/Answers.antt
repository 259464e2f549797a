use Rattle.std.proofs.Common.{◌≢◌, List, ap, subst}
use Rattle.std.specs.List.{AllByRecursion}
use Rattle.page.specs.Format.{PageModel}
use Rattle.pager.specs.State.{State}
use Rattle.pager.proofs.CallLemmas.{read_cause, read_kept, read_stays, read_value}
use Rattle.pager.proofs.pager.PagerPages.read.Goals as goal

pub invariant_of-self : goal.invariant_of-self
invariant_of-self g c =
    let ne = subst (λ (l : List PageModel). AllByRecursion (λ (m : PageModel). m.page ≢ c.args.page) l) c.deref.ensures.value c.in_default.ensures in
    read_kept g.D.Disk.history c.self.inside.store c.read_page.new.store c.self.inside.cache c.read_page.new.cache c.self.inside.made.items c.self.inside.book
    c.args.page c.read_page.result c.self.invariant c.read_page.ensures.reads ne

pub returns-clause-stays : goal.returns-clause-stays
returns-clause-stays g c =
    read_stays g.D.Disk.history c.self.inside.store c.read_page.new.store c.self.inside.cache c.read_page.new.cache c.self.inside.made.items
    c.self.inside.retired.items c.self.inside.book c.args.page c.read_page.result c.args.self.now
    c.self.view_is c.read_page.ensures.reads

pub returns-clause-value : goal.returns-clause-value
returns-clause-value g c =
    let ne = subst (λ (l : List PageModel). AllByRecursion (λ (m : PageModel). m.page ≢ c.args.page) l) c.deref.ensures.value c.in_default.ensures in
    read_value g.D.Disk.history c.self.inside.store c.read_page.new.store c.self.inside.cache c.read_page.new.cache c.self.inside.made.items
    c.self.inside.retired.items c.self.inside.book c.args.page c.read_page.result c.args.self.now
    c.self.view_is c.self.invariant c.read_page.ensures.reads ne

pub returns-clause-cause : goal.returns-clause-cause
returns-clause-cause g c =
    let ne = subst (λ (l : List PageModel). AllByRecursion (λ (m : PageModel). m.page ≢ c.args.page) l) c.deref.ensures.value c.in_default.ensures in
    read_cause g.D.Disk.history c.self.inside.store c.read_page.new.store c.self.inside.cache c.read_page.new.cache c.self.inside.made.items
    c.self.inside.retired.items c.self.inside.book c.args.page c.read_page.result c.args.self.now
    c.self.view_is c.read_page.ensures.reads ne

pub returns-clause-takes : goal.returns-clause-takes
returns-clause-takes g c = ap (λ (s : State g.row.D.Denot). s.book.failed_allocations) c.self.view_is

pub returns-clause-full : goal.returns-clause-full
returns-clause-full g c = c.read_page.ensures.full
