use Rattle.page.proofs.ChildPageLemmas.{place_seen}
use Rattle.page.proofs.branches.Branch.number_place.Goals as goal

pub returns : goal.returns
returns c =
    place_seen c.self.inside.bytes.items c.self.inside.places.items c.args.self.now c.self.invariant c.self.view_is c.args.i c.index.result.now
    c.key.result.now c.if-i-eq0.false c.requires c.index.ensures c.key.ensures
