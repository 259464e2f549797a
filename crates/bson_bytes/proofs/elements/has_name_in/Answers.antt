use Rattle.std.proofs.Common.{Bool, ◌||◌, ap, sym, ◌∙◌}
use Rattle.bson.specs.Lookup.{stands_in}
use Rattle.bson_bytes.specs.RawNames.{names_in}
use Rattle.bson_bytes.proofs.DistinctLaws.{other_name, no_name, after_shorter}
use Rattle.bson_bytes.proofs.elements.has_name_in.Goals as goal

pub elements-smaller : goal.elements-smaller
elements-smaller c = after_shorter c.elements.rest.now c.in-Some.other.now c.in-Some.after.now c.in-Some.ensures

pub returns-then-eq : goal.returns-then-eq
returns-then-eq c =
    let step = other_name c.elements.rest.now c.args.name.now c.in-Some.other.now c.in-Some.after.now c.in-Some.ensures in
    sym (sym c.elements.invariant ∙ step ∙ ap (λ (b : Bool). b || stands_in (names_in c.in-Some.after.now) c.args.name.now) (sym c.eq.ensures ∙ c.if-eq.true))

pub elements-preserved : goal.elements-preserved
elements-preserved c =
    let step = other_name c.elements.rest.now c.args.name.now c.in-Some.other.now c.in-Some.after.now c.in-Some.ensures in
    ap (λ (b : Bool). b || stands_in (names_in c.in-Some.after.now) c.args.name.now) (sym (sym c.eq.ensures ∙ c.if-eq.false)) ∙ sym step ∙ c.elements.invariant

pub returns : goal.returns
returns c = sym (sym c.elements.invariant ∙ no_name c.elements.rest.now c.args.name.now c.in_default.ensures)
