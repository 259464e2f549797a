use Rattle.std.proofs.Common.{ap, sym, subst, arith}
use Rattle.bson.specs.View.{pairs_of}
use Rattle.bson.specs.Lawful.{pairs_levels}
use Rattle.bson.specs.EditPlaces.{pairs_levels-with_value, pairs_levels-with_deeper}
use Rattle.bson.specs.Overview.{levels_of, Tells, Fits}
use Rattle.bson.specs.declared.overview.Overview.{Overview}
use Rattle.bson.specs.declared.beside.Beside.{Beside}
use Rattle.bson.proofs.beside.Beside.with_value.Goals as goal

pub returns-in-Plain-clause-levels : goal.returns-in-Plain-clause-levels
returns-in-Plain-clause-levels c = λ ps i name u t counted fits there changed old_is new_is.
    c.deepest_after.ensures (λ le. omega (
      arith,
      ap pairs_levels changed,
      pairs_levels-with_deeper ps i name u t there (omega (arith, le, old_is, new_is)),
      ap levels_of c.in-Plain.is,
      counted,
      new_is,
    ))

pub returns-in-Many-clause-fits : goal.returns-in-Many-clause-fits
returns-in-Many-clause-fits c = λ ps i name u t fits there changed old_is new_is.
    let tells = subst (λ (b : Beside). Fits b ps) c.in-Many.is fits in
    let seen = subst (λ (o : Overview). Tells o ps) (sym c.deref_mut.ensures.value) tells in
    subst (Tells c.replace.new.self) (sym changed) (c.replace.ensures ps i name u t seen there old_is new_is)

pub returns-in-Many-clause-levels : goal.returns-in-Many-clause-levels
returns-in-Many-clause-levels c = λ ps i name u t counted fits there changed old_is new_is.
    let tells = subst (λ (b : Beside). Fits b ps) c.in-Many.is fits in
    let seen = subst (λ (o : Overview). Tells o ps) (sym c.deref_mut.ensures.value) tells in
    let now = subst (Tells c.replace.new.self) (sym changed) (c.replace.ensures ps i name u t seen there old_is new_is) in
    c.deepest-deepest.ensures (pairs_of c.args.pairs.now)
    (subst (λ (o : Overview). Tells o (pairs_of c.args.pairs.now)) (sym c.deref.ensures) now) (omega (
      arith,
      ap pairs_levels changed,
      pairs_levels-with_value ps i t,
      counted,
      ap levels_of c.in-Many.is,
      new_is,
      c.max.ensures,
    ))
