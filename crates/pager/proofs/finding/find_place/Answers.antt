use Rattle.std.proofs.Common.{ℕ, arith, ap, get_or}
use Rattle.std.proofs.lemmas.List.{length-map}
use Rattle.page.specs.Format.{PageModel}
use Rattle.pager.specs.Order.{no_model, pages_at}
use Rattle.pager.proofs.FindLemmas.{between_down, between_up, page_at_place}
use Rattle.pager.proofs.finding.find_place.Goals as goal

pub loop-from-preserved-then-image-page : goal.loop-from-preserved-then-image-page
loop-from-preserved-then-image-page c =
    let made = c.args.made.now in
    let places = c.args.places.now in
    between_up (pages_at made places) c.args.page c.loop-from.from c.loop-from.to _ c.index-made-places.result c.requires.ascending c.loop-from.invariant
    (omega arith) (omega (arith, c.loop-from-test.true))
    (page_at_place made places _ c.index-made-places.result c.requires.inside
    (omega (arith, c.loop-from-test.true, c.loop-from.invariant.within, length-map places (λ (p : ℕ). get_or made p no_model))) c.index-made-places.is)
    (omega (arith, c.if-image-page.true, ap (λ (m : PageModel). m.page) c.image.ensures))

pub loop-from-preserved : goal.loop-from-preserved
loop-from-preserved c =
    let made = c.args.made.now in
    let places = c.args.places.now in
    between_down (pages_at made places) c.args.page c.loop-from.from c.loop-from.to _ c.index-made-places.result c.requires.ascending c.loop-from.invariant
    (omega arith) (omega (arith, c.loop-from-test.true))
    (page_at_place made places _ c.index-made-places.result c.requires.inside
    (omega (arith, c.loop-from-test.true, c.loop-from.invariant.within, length-map places (λ (p : ℕ). get_or made p no_model))) c.index-made-places.is)
    (omega (arith, c.if-image-page.false, ap (λ (m : PageModel). m.page) c.image.ensures))
