use Rattle.std.proofs.Common.{ap, rules, sym, ◌∙◌}
use Rattle.page.specs.Format.{PageModel}
use Rattle.pager.proofs.FindLemmas.{another_there, found_at_place, none_behind, page_at_place}
use Rattle.pager.proofs.finding.find_page.Goals as goal

pub returns-then-at-places : goal.returns-then-at-places
returns-then-at-places c =
    none_behind c.args.made.now c.args.places.now c.requires c.args.page c.find_place-at.result c.find_place-at.ensures c.if-at-places.true

pub returns-then-image-page : goal.returns-then-image-page
returns-then-image-page c =
    let made = c.args.made.now in
    let places = c.args.places.now in
    found_at_place made places c.requires c.args.page c.find_place-at.result c.find_place-at.ensures c.index-made-places.result (search rules)
    (page_at_place made places c.find_place-at.result c.index-made-places.result c.requires.inside (search rules) c.index-made-places.is)
    (ap (λ (m : PageModel). m.page) (sym c.image.ensures) ∙ c.if-image-page.true)

pub returns-else-image-page : goal.returns-else-image-page
returns-else-image-page c =
    let made = c.args.made.now in
    let places = c.args.places.now in
    another_there made places c.requires c.args.page c.find_place-at.result c.find_place-at.ensures c.index-made-places.result (search rules)
    (page_at_place made places c.find_place-at.result c.index-made-places.result c.requires.inside (search rules) c.index-made-places.is)
    (λ same. c.if-image-page.false (ap (λ (m : PageModel). m.page) c.image.ensures ∙ same))
