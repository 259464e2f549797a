use Rattle.std.proofs.Common.{ap, ◌∙◌}
use Rattle.page.specs.CellView.{place_of as place_in}
use Rattle.roots.specs.Walk.{pages_in, pages_so_far}
use Rattle.roots.proofs.FoundLemmas.{inline_found, value_found}
use Rattle.roots.proofs.WalkLemmas.{IsSpilled, spilled_links}
use Rattle.roots.proofs.reachable_pages.walk_value.Goals as goal

pub returns-in-Chained-clause-reaches : goal.returns-in-Chained-clause-reaches
returns-in-Chained-clause-reaches g c keeps x place has can =
    let spilled : IsSpilled x.links x.value c.in-Chained.len c.in-Chained.first =
    spilled_links x.links x.value c.in-Chained.len c.in-Chained.first (place ∙ ap place_in c.in-Chained.is) in
    c.walk_chain.ensures.reaches keeps x.links x.value (has spilled.some) spilled.next spilled.long can

pub returns-in-Inline-clause-found : goal.returns-in-Inline-clause-found
returns-in-Inline-clause-found g c keeps lawful =
    inline_found (pages_in (g.D.Disk.history c.args.disk.now) c.args.root) (place_in c.args.stored) _ (pages_so_far c.args.reached.now)
    (ap place_in c.in-Inline.is)

pub returns-in-Chained-clause-found : goal.returns-in-Chained-clause-found
returns-in-Chained-clause-found g c keeps lawful =
    value_found (pages_in (g.D.Disk.history c.args.disk.now) c.args.root) (place_in c.args.stored) c.in-Chained.len c.in-Chained.first
    (pages_so_far c.args.reached.now) (pages_so_far c.walk_chain.new.reached) c.walk_chain.result (ap place_in c.in-Chained.is) lawful
    (c.walk_chain.ensures.found keeps)
