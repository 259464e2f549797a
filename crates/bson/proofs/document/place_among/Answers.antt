use Rattle.std.proofs.Common.{◌≡◌, true, false, take, List, ap, sym, subst, ◌∙◌}
use Rattle.std.specs.Str.{bytes_eq}
use Rattle.std.proofs.lemmas.List.{take_all}
use Rattle.bson.specs.View.{pairs_of}
use Rattle.bson.specs.Lawful.{Lacks}
use Rattle.bson.specs.EditsLaws.{place-Lacks}
use Rattle.bson.specs.declared.value.Pair.{Pair}
use Rattle.bson.proofs.BuildLaws.{Lacks-more, place_found}
use Rattle.bson.proofs.document.place_among.Goals as goal

pub returns-then-eq : goal.returns-then-eq
returns-then-eq c =
    let same : bytes_eq c.args.name.now c.index-pairs-at.result.name ≡ true =
    ap (bytes_eq c.args.name.now) (sym c.as_str.ensures.value) ∙ sym c.eq.ensures ∙ c.if-eq.true in
    sym (place_found c.args.pairs.now c.pairs.at c.index-pairs-at.result c.args.name.now c.pairs-test.true c.index-pairs-at.is same c.pairs.invariant)

pub pairs-preserved : goal.pairs-preserved
pairs-preserved c =
    let differ : bytes_eq c.args.name.now c.index-pairs-at.result.name ≡ false =
    ap (bytes_eq c.args.name.now) (sym c.as_str.ensures.value) ∙ sym c.eq.ensures ∙ c.if-eq.false in
    Lacks-more c.args.pairs.now c.pairs.at c.index-pairs-at.result c.args.name.now c.pairs-test.true c.index-pairs-at.is differ c.pairs.invariant

pub returns : goal.returns
returns c =
    let all : take c.pairs.at c.args.pairs.now ≡ c.args.pairs.now = take_all c.pairs.at c.args.pairs.now c.pairs-test.false in
    let lacks = subst (λ (ps : List Pair). Lacks (pairs_of ps) c.args.name.now) all c.pairs.invariant in
    sym (place-Lacks (pairs_of c.args.pairs.now) c.args.name.now lacks)
