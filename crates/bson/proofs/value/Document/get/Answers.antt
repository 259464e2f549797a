use Rattle.std.proofs.Common.{Some, ap, sym, ◌∙◌, arith}
use Rattle.std.specs.Prelude.{option_map}
use Rattle.bson.specs.EditsLaws.{place-there, place-absent}
use Rattle.bson.proofs.BuildLaws.{pairs_within, pair_there}
use Rattle.bson.proofs.value.Document.get.Goals as goal

pub index-requires : goal.index-requires
index-requires c =
    let there = place-there c.args.self.now c.args.name.now c.in-Some.at (sym c.in-Some.ensures) in
    omega (arith, pairs_within c.self.inside.pairs.items c.args.self.now c.in-Some.at c.self.view_is there.3, c.self.inside.pairs.ok.0)

pub returns-in-Some : goal.returns-in-Some
returns-in-Some c =
    let there = place-there c.args.self.now c.args.name.now c.in-Some.at (sym c.in-Some.ensures) in
    let within = pairs_within c.self.inside.pairs.items c.args.self.now c.in-Some.at c.self.view_is there.3 in
    let stands = pair_there c.self.inside.pairs.items c.args.self.now c.in-Some.at c.index.result.now c.self.view_is within c.index.ensures in
    ap (option_map (λ p. p.1)) (sym stands ∙ there.1) ∙ sym there.2

pub returns-in-None : goal.returns-in-None
returns-in-None c = sym (place-absent c.args.self.now c.args.name.now (sym c.in-None.ensures)).1
