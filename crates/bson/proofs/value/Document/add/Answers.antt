use Rattle.std.proofs.Common.{◌≡◌, max, List, sym, ap, subst, ◌∙◌, arith}
use Rattle.std.specs.Prelude.{position, ◌==◌}
use Rattle.std.proofs.lemmas.Result.{err_from_is_err_and}
use Rattle.bson.specs.Tree.{Pairs}
use Rattle.bson.specs.View.{tree, pairs_of}
use Rattle.bson.specs.Lawful.{levels, HoldsDocument, IsName, Lacks}
use Rattle.bson.specs.Overview.{levels_of}
use Rattle.bson.specs.EditsLaws.{place-absent}
use Rattle.bson.specs.declared.value.Pair.{Pair}
use Rattle.bson.proofs.BuildLaws.{has_zero, is_name, stands-from_Lacks, HoldsDocument-push}
use Rattle.bson.proofs.OverviewLaws.{pairs_grown, fits_grown}
use Rattle.bson.proofs.value.Document.add.Goals as goal

pub returns-then-is_some-clause-fault : goal.returns-then-is_some-clause-fault
returns-then-is_some-clause-fault c = λ n.
    has_zero c.args.name.now c.first_zero.result (c.first_zero.ensures ∙ ap (position (λ b. b == 0)) c.as_bytes.ensures.value)
    (sym c.is_some.ensures ∙ c.if-is_some.true) n

pub returns-then-levels-ge-MOST_LEVELS-clause-fault : goal.returns-then-levels-ge-MOST_LEVELS-clause-fault
returns-then-levels-ge-MOST_LEVELS-clause-fault c = (
  is_name c.args.name.now c.as_bytes.result.now c.first_zero.result c.is_some.result c.utf8.name c.as_bytes.ensures.value c.first_zero.ensures
      c.is_some.ensures c.if-is_some.false,
  (place-absent c.args.self.now c.args.name.now c.requires).0,
  omega (arith, c.levels-levels.ensures.levels, c.if-levels-ge-MOST_LEVELS.true),
)

pub returns-in_err-text-clause-fault : goal.returns-in_err-text-clause-fault
returns-in_err-text-clause-fault c =
    let p = err_from_is_err_and c.from_residual.result c.from_residual.ensures.1 in
    rw (p.1, p.2) (
      is_name c.args.name.now c.as_bytes.result.now c.first_zero.result c.is_some.result c.utf8.name c.as_bytes.ensures.value c.first_zero.ensures
          c.is_some.ensures c.if-is_some.false,
      (place-absent c.args.self.now c.args.name.now c.requires).0,
      omega (arith, c.levels-levels.ensures.levels, c.if-levels-ge-MOST_LEVELS.false),
    )

pub returns-in_err-push-clause-fault : goal.returns-in_err-push-clause-fault
returns-in_err-push-clause-fault c =
    let p = err_from_is_err_and c.from_residual-in_err-push.result c.from_residual-in_err-push.ensures.1 in
    rw (p.1, p.2) (
      is_name c.args.name.now c.as_bytes.result.now c.first_zero.result c.is_some.result c.utf8.name c.as_bytes.ensures.value c.first_zero.ensures
          c.is_some.ensures c.if-is_some.false,
      (place-absent c.args.self.now c.args.name.now c.requires).0,
      omega (arith, c.levels-levels.ensures.levels, c.if-levels-ge-MOST_LEVELS.false),
    )

pub with_pair-requires : goal.with_pair-requires
with_pair-requires c = c.levels-levels.ensures.most

pub invariant_of-self-2 : goal.invariant_of-self-2
invariant_of-self-2 c =
    let p : Pair = record { name = c.in_ok-text.text; value = c.args.value } in
    let absent = (place-absent c.args.self.now c.args.name.now c.requires).0 in
    let lacks : Lacks (pairs_of c.self.inside.pairs.items) c.in_ok-text.text =
    subst (λ (ps : Pairs). Lacks ps c.in_ok-text.text) (sym c.self.view_is) (subst (Lacks c.args.self.now) (sym c.in_ok-text.ensures) absent) in
    let named = is_name c.args.name.now c.as_bytes.result.now c.first_zero.result c.is_some.result c.utf8.name c.as_bytes.ensures.value c.first_zero.ensures
    c.is_some.ensures c.if-is_some.false in
    let deeper : levels_of c.with_pair.result ≡ max (levels_of c.self.inside.beside) (levels (tree c.args.value)) =
    omega (arith, c.with_pair.ensures.levels, ap levels_of c.take-beside.ensures, c.levels-levels.ensures.levels) in
    let next = HoldsDocument-push c.self.inside.pairs.items p (levels_of c.self.inside.beside) (levels_of c.with_pair.result) c.self.invariant.0
    (subst IsName (sym c.in_ok-text.ensures) named) c.levels-levels.ensures.lawful
    (omega (arith, c.levels-levels.ensures.levels, c.if-levels-ge-MOST_LEVELS.false)) (stands-from_Lacks c.self.inside.pairs.items c.in_ok-text.text lacks)
    deeper in (
      subst (λ (ps : List Pair). HoldsDocument (levels_of c.with_pair.result) (pairs_of ps)) (sym c.in_ok-push.ensures.items) next,
      fits_grown c.self.inside.beside c.take-beside.result c.with_pair.result c.self.inside.pairs.items c.push.new.self.items c.args.self.now p c.args.name.now
          c.len-at.result c.self.inside.pairs.len c.levels-levels.result c.self.invariant.1 c.take-beside.ensures c.self.view_is c.in_ok-push.ensures.items
          c.in_ok-text.ensures absent c.self.inside.pairs.ok.0 c.len-at.ensures (omega arith) c.levels-levels.ensures.levels c.with_pair.ensures.fits,
    )

pub returns-clause-ok : goal.returns-clause-ok
returns-clause-ok c =
    let p : Pair = record { name = c.in_ok-text.text; value = c.args.value } in
    c.count_edit.ensures
    ∙ pairs_grown c.self.inside.pairs.items c.push.new.self.items c.args.self.now p c.args.name.now c.self.view_is c.in_ok-push.ensures.items
    c.in_ok-text.ensures
