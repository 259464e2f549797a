use Rattle.std.proofs.Common.{sym, ap, ◌∙◌, option_map}
use Rattle.bson.specs.EditsLaws.{place-there, place-absent, cut-place, cut-absent}
use Rattle.bson.proofs.value.Document.remove.Goals as goal

pub remove_at-value-requires : goal.remove_at-value-requires
remove_at-value-requires c = (place-there c.args.self.now c.args.name.now c.in-Some.at (sym c.in-Some.ensures)).3

pub returns-in-Some-clause-value : goal.returns-in-Some-clause-value
returns-in-Some-clause-value c =
    let there = place-there c.args.self.now c.args.name.now c.in-Some.at (sym c.in-Some.ensures) in
    sym (ap (option_map (λ p. p.1)) (sym there.1 ∙ c.remove_at-value.ensures.pair)) ∙ sym there.2

pub returns-in-Some-clause-rest : goal.returns-in-Some-clause-rest
returns-in-Some-clause-rest c = c.remove_at-value.ensures.rest ∙ sym (cut-place c.args.self.now c.args.name.now c.in-Some.at (sym c.in-Some.ensures))

pub returns-in-None-clause-value : goal.returns-in-None-clause-value
returns-in-None-clause-value c = sym (place-absent c.args.self.now c.args.name.now (sym c.in-None.ensures)).1

pub returns-in-None-clause-rest : goal.returns-in-None-clause-rest
returns-in-None-clause-rest c = sym (cut-absent c.args.self.now c.args.name.now (sym c.in-None.ensures))
