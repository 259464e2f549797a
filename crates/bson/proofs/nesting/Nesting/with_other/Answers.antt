use Rattle.std.proofs.Common.{ap, sym, subst, arith}
use Rattle.bson.specs.View.{items_of}
use Rattle.bson.specs.Lawful.{items_levels}
use Rattle.bson.specs.EditPlaces.{items_levels-with_item, items_levels-with_deeper}
use Rattle.bson.specs.Depths.{items_at}
use Rattle.bson.specs.Overview.{nested, CountsItems, FitsItems}
use Rattle.bson.specs.declared.depths.Depths.{Depths}
use Rattle.bson.specs.declared.nesting.Nesting.{Nesting}
use Rattle.bson.proofs.DepthLaws.{items_deepest}
use Rattle.bson.proofs.NestingLaws.{counts_other}
use Rattle.bson.proofs.nesting.Nesting.with_other.Goals as goal

pub returns-in-Plain-clause-levels : goal.returns-in-Plain-clause-levels
returns-in-Plain-clause-levels c = λ ts i u t counted fits there changed old_is new_is.
    c.deepest_after.ensures (λ le. omega (
      arith,
      ap items_levels changed,
      items_levels-with_deeper ts i u t there (omega (arith, le, old_is, new_is)),
      ap nested c.in-Plain.is,
      counted,
      new_is,
    ))

pub returns-in-Counted-clause-fits : goal.returns-in-Counted-clause-fits
returns-in-Counted-clause-fits c = λ ts i u t fits there changed old_is new_is.
    let counts = subst (λ (n : Nesting). FitsItems n ts) c.in-Counted.is fits in
    let seen = subst (λ (d : Depths). CountsItems d ts) (sym c.deref_mut.ensures.value) counts in
    subst (CountsItems c.replace.new.self) (sym changed)
    (counts_other c.deref_mut.result.now c.replace.new.self c.args.old c.args.new c.replace.ensures ts i u t seen there old_is new_is)

pub returns-in-Counted-clause-levels : goal.returns-in-Counted-clause-levels
returns-in-Counted-clause-levels c = λ ts i u t counted fits there changed old_is new_is.
    let counts = subst (λ (n : Nesting). FitsItems n ts) c.in-Counted.is fits in
    let seen = subst (λ (d : Depths). CountsItems d ts) (sym c.deref_mut.ensures.value) counts in
    let now = subst (CountsItems c.replace.new.self) (sym changed)
    (counts_other c.deref_mut.result.now c.replace.new.self c.args.old c.args.new c.replace.ensures ts i u t seen there old_is new_is) in
    let looked_at = subst (λ (d : Depths). CountsItems d (items_of c.args.items.now)) (sym c.deref.ensures) now in
    c.deepest-deepest.ensures (items_at (items_of c.args.items.now)) (items_levels (items_of c.args.items.now)) looked_at.counts
    (items_deepest (items_of c.args.items.now)) (omega (
      arith,
      ap items_levels changed,
      items_levels-with_item ts i t,
      counted,
      ap nested c.in-Counted.is,
      new_is,
      c.max.ensures,
    ))
