use Rattle.std.proofs.Common.{◌≡◌, Bool, true, false, not, List, take, refl, sym, ap, subst, ◌∙◌, arith}
use Rattle.std.specs.Prelude.{position, ◌==◌}
use Rattle.std.proofs.lemmas.Result.{err_from_is_err_and}
use Rattle.bson.specs.View.{pairs_of, names_of}
use Rattle.bson.specs.Lawful.{HoldsDocument}
use Rattle.bson.specs.Lookup.{stands_in}
use Rattle.bson.specs.declared.value.Pair.{Pair}
use Rattle.bson.specs.declared.fault.BuildFault.TheVariants as builds
use Rattle.bson.proofs.PushLaws.{names_pushed}
use Rattle.bson.proofs.BuildLaws.{has_zero, is_name, is_repeated, Lacks-from_stands, HoldsDocument-push, refused, one_more}
use Rattle.bson.proofs.document.check_all.Goals as goal

turned : (b c : Bool) → not b ≡ c → b ≡ not c
turned true c e = ap not e
turned false c e = ap not e

pub returns-then-is_some-clause-fault : goal.returns-then-is_some-clause-fault
returns-then-is_some-clause-fault c =
    refused c.args.pairs.now c.pairs.pair-index c.pair-item.result c.pairs.levels builds.Name c.pairs-test.true c.pair-item.is c.pairs.invariant.0
    (λ n. has_zero c.pair-item.result.name c.first_zero.result
    (c.first_zero.ensures ∙ ap (position (λ b. b == 0)) (c.as_bytes.ensures.value ∙ c.as_str-name.ensures.value)) (sym c.is_some.ensures ∙ c.if-is_some.true) n)

pub returns-then-value_levels-ge-MOST_LEVELS-clause-fault : goal.returns-then-value_levels-ge-MOST_LEVELS-clause-fault
returns-then-value_levels-ge-MOST_LEVELS-clause-fault c =
    refused c.args.pairs.now c.pairs.pair-index c.pair-item.result c.pairs.levels builds.Deep c.pairs-test.true c.pair-item.is c.pairs.invariant.0 (
      is_name c.pair-item.result.name c.as_bytes.result.now c.first_zero.result c.is_some.result c.as_str-name.ensures.utf8
          (c.as_bytes.ensures.value ∙ c.as_str-name.ensures.value) c.first_zero.ensures c.is_some.ensures c.if-is_some.false,
      Lacks-from_stands (take c.pairs.pair-index c.args.pairs.now) c.pair-item.result.name
          (sym (c.pairs.invariant.1 c.pair-item.result.name) ∙ ap (stands_in c.pairs.names) (sym c.as_str-name.ensures.value) ∙ sym c.contains.ensures
          ∙ c.if-contains.false),
      omega (arith, c.levels-value_levels.ensures.levels, c.if-value_levels-ge-MOST_LEVELS.true),
    )

pub returns-then-contains-clause-fault : goal.returns-then-contains-clause-fault
returns-then-contains-clause-fault c =
    refused c.args.pairs.now c.pairs.pair-index c.pair-item.result c.pairs.levels builds.Repeated c.pairs-test.true c.pair-item.is c.pairs.invariant.0 (
      is_name c.pair-item.result.name c.as_bytes.result.now c.first_zero.result c.is_some.result c.as_str-name.ensures.utf8
          (c.as_bytes.ensures.value ∙ c.as_str-name.ensures.value) c.first_zero.ensures c.is_some.ensures c.if-is_some.false,
      λ h. is_repeated (take c.pairs.pair-index c.args.pairs.now) (pairs_of (take c.pairs.pair-index c.args.pairs.now)) c.pair-item.result.name refl
          (sym (c.pairs.invariant.1 c.pair-item.result.name) ∙ ap (stands_in c.pairs.names) (sym c.as_str-name.ensures.value) ∙ sym c.contains.ensures
          ∙ c.if-contains.true) h,
    )

pub returns-then-not-branch-clause-fault : goal.returns-then-not-branch-clause-fault
returns-then-not-branch-clause-fault c =
    refused c.args.pairs.now c.pairs.pair-index c.pair-item.result c.pairs.levels builds.Repeated c.pairs-test.true c.pair-item.is c.pairs.invariant.0 (
      is_name c.pair-item.result.name c.as_bytes.result.now c.first_zero.result c.is_some.result c.as_str-name.ensures.utf8
          (c.as_bytes.ensures.value ∙ c.as_str-name.ensures.value) c.first_zero.ensures c.is_some.ensures c.if-is_some.false,
      λ h. is_repeated (take c.pairs.pair-index c.args.pairs.now) (pairs_of (take c.pairs.pair-index c.args.pairs.now)) c.pair-item.result.name refl
          (sym (c.pairs.invariant.1 c.pair-item.result.name) ∙ ap (stands_in c.pairs.names) (sym c.as_str-name.ensures.value)
          ∙ turned _ _ (sym c.in_ok-insert.ensures.new ∙ c.if-not-branch.true)) h,
    )

pub returns-in_err-insert-clause-fault : goal.returns-in_err-insert-clause-fault
returns-in_err-insert-clause-fault c =
    let p = err_from_is_err_and c.from_residual.result c.from_residual.ensures.1 in
    rw (p.1, p.2)
    (refused c.args.pairs.now c.pairs.pair-index c.pair-item.result c.pairs.levels builds.Memory c.pairs-test.true c.pair-item.is c.pairs.invariant.0 (
      is_name c.pair-item.result.name c.as_bytes.result.now c.first_zero.result c.is_some.result c.as_str-name.ensures.utf8
          (c.as_bytes.ensures.value ∙ c.as_str-name.ensures.value) c.first_zero.ensures c.is_some.ensures c.if-is_some.false,
      Lacks-from_stands (take c.pairs.pair-index c.args.pairs.now) c.pair-item.result.name
          (sym (c.pairs.invariant.1 c.pair-item.result.name) ∙ ap (stands_in c.pairs.names) (sym c.as_str-name.ensures.value) ∙ c.in_err-insert.ensures.absent),
      omega (arith, c.levels-value_levels.ensures.levels, c.if-value_levels-ge-MOST_LEVELS.false),
    ))

pub pairs-preserved : goal.pairs-preserved
pairs-preserved c =
    let before = take c.pairs.pair-index c.args.pairs.now in
    let more = one_more c.args.pairs.now c.pairs.pair-index c.pair-item.result c.pairs-test.true c.pair-item.is in
    let holds = HoldsDocument-push before c.pair-item.result c.pairs.levels c.max-levels.result c.pairs.invariant.0
    (is_name c.pair-item.result.name c.as_bytes.result.now c.first_zero.result c.is_some.result c.as_str-name.ensures.utf8
    (c.as_bytes.ensures.value ∙ c.as_str-name.ensures.value) c.first_zero.ensures c.is_some.ensures c.if-is_some.false) c.levels-value_levels.ensures.lawful
    (omega (arith, c.levels-value_levels.ensures.levels, c.if-value_levels-ge-MOST_LEVELS.false))
    (sym (c.pairs.invariant.1 c.pair-item.result.name) ∙ ap (stands_in c.pairs.names) (sym c.as_str-name.ensures.value)
    ∙ turned _ _ (sym c.in_ok-insert.ensures.new ∙ c.if-not-branch.false)) (omega (arith, c.max-levels.ensures, c.levels-value_levels.ensures.levels)) in (
      subst (λ (ps : List Pair). HoldsDocument c.max-levels.result (pairs_of ps)) (sym more) holds,
      λ other. names_pushed before c.pair-item.result c.insert.new.self c.pairs.names c.as_str-name.result.now c.in_ok-insert.ensures.names c.pairs.invariant.1
          (sym c.as_str-name.ensures.value) other ∙ ap (λ (ps : List Pair). stands_in (names_of ps) other) (sym more),
    )
