use Rattle.std.proofs.Common.{◌≡◌, ◌∙◌, List, arith, length, ℕ, rules, subst, sym, ap}
use Rattle.page.specs.Format.{PageModel}
use Rattle.tree_model.specs.View.{content_in}
use Rattle.pager.proofs.ListLemmas.{pushed_on}
use Rattle.pager.specs.Order.{StandsAt}
use Rattle.pager.proofs.OrderLemmas.{inserted}
use Rattle.pager.proofs.TakeLemmas.{few_kept, allocate_done, allocate_kept, allocate_refused, allocate_stays, allocate_stays_refused}
use Rattle.pager.proofs.pager.PagerPages.allocate.Goals as goal

pub returns-in_err-shared-clause-makes : goal.returns-in_err-shared-clause-makes
returns-in_err-shared-clause-makes g c =
    allocate_refused g.D.Disk.history c.self.inside.store c.self.inside.made.items c.reserve.new.self.items c.self.inside.retired.items c.self.inside.book
    c.take_page.new.book c.args.self.now
    c.self.invariant.booked.count c.self.view_is c.reserve.ensures.items c.in_err-shared.field-0.0 c.in_err-shared.ensures.refused
    (content_in c.args.content) c.from_residual-in_err-shared.result (search rules)

pub invariant_of-self-2 : goal.invariant_of-self-2
invariant_of-self-2 g c =
    allocate_kept g.D.Disk.history c.self.inside.store c.self.inside.cache c.remove.new.self c.self.inside.made.items c.push.new.self.items c.self.inside.book
    c.take_page.new.book c.self.invariant
    c.in_ok-shared.shared
    (pushed_on c.push.new.self.items c.reserve.new.self.items c.self.inside.made.items c.in_ok-shared.shared c.push.result c.unwrap-2.result
    c.push.ensures.items c.unwrap-2.ensures c.reserve.ensures.items)
    c.in_ok-shared.ensures.taken c.image.result.now.page (ap (λ (m : PageModel). m.page) (sym c.image.ensures)) c.remove.ensures.this c.remove.ensures.others
    c.saturating_add-generation.result c.in_ok-shared.ensures.generation (search rules)
    c.find_place-at.result
    (subst (λ (m : List PageModel). StandsAt m c.self.inside.places.items c.image.result.now.page c.find_place-at.result)
    (c.deref.ensures.value ∙ c.reserve.ensures.items)
    (subst (λ (ps : List ℕ). StandsAt c.deref.result.now ps c.image.result.now.page c.find_place-at.result)
    (c.deref-2.ensures.value ∙ c.reserve-2.ensures.items)
    c.find_place-at.ensures))
    c.insert.new.self.items
    (inserted c.insert.new.self.items c.reserve-2.new.self.items c.self.inside.places.items c.find_place-at.result _ _ c.insert.result c.unwrap.result
    c.insert.ensures.items c.unwrap.ensures c.reserve-2.ensures.items (search rules))

pub returns-clause-makes : goal.returns-clause-makes
returns-clause-makes g c =
    allocate_done g.D.Disk.history c.self.inside.store c.self.inside.cache c.self.inside.made.items c.push.new.self.items c.self.inside.retired.items
    c.self.inside.book c.take_page.new.book c.args.self.now
    c.self.invariant c.self.view_is c.in_ok-shared.shared
    (pushed_on c.push.new.self.items c.reserve.new.self.items c.self.inside.made.items c.in_ok-shared.shared c.push.result c.unwrap-2.result
    c.push.ensures.items c.unwrap-2.ensures c.reserve.ensures.items)
    c.in_ok-shared.ensures.taken c.image.result.now.page (ap (λ (m : PageModel). m.page) (sym c.image.ensures))
    (content_in c.args.content) c.in_ok-shared.ensures.content

pub returns-in_err-shared-clause-stays : goal.returns-in_err-shared-clause-stays
returns-in_err-shared-clause-stays g c =
    allocate_stays_refused g.D.Disk.history c.self.inside.store c.self.inside.made.items c.reserve.new.self.items c.self.inside.retired.items c.self.inside.book
    c.take_page.new.book c.args.self.now
    c.self.invariant.booked.count c.self.view_is c.reserve.ensures.items c.in_err-shared.field-0.0 c.in_err-shared.ensures.refused

pub returns-clause-stays : goal.returns-clause-stays
returns-clause-stays g c =
    allocate_stays g.D.Disk.history c.self.inside.store c.self.inside.cache c.self.inside.made.items c.push.new.self.items c.self.inside.retired.items
    c.self.inside.book c.take_page.new.book c.args.self.now
    c.self.invariant c.self.view_is c.in_ok-shared.shared
    (pushed_on c.push.new.self.items c.reserve.new.self.items c.self.inside.made.items c.in_ok-shared.shared c.push.result c.unwrap-2.result
    c.push.ensures.items c.unwrap-2.ensures c.reserve.ensures.items)
    c.in_ok-shared.ensures.taken

pub overflow_cast-len : goal.overflow_cast-len
overflow_cast-len g c =
    let i = c.self.inside in
    let few = few_kept g.D.Disk.history i.store i.cache i.made.items i.book c.self.invariant in
    let same : length c.reserve.new.self.items ≡ length i.made.items = ap length c.reserve.ensures.items in
    omega (arith, few, same, c.len.ensures)
