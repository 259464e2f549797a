use Rattle.std.proofs.Common.{rules, ap, ◌∙◌, ◌<◌, ◌≤◌, arith}
use Rattle.bson.specs.Edits.{pairs_len, with_value}
use Rattle.bson.specs.EditPlaces.{pairs_len-with_value, with_value-twice}
use Rattle.bson.specs.Lawful.{levels}
use Rattle.bson.specs.Tree.{scalar, null}
use Rattle.bson.specs.View.{tree}
use Rattle.path.proofs.WalkLemmas.{pair_at-levels}
use Rattle.update.proofs.RenamingLemmas.{same_there}
use Rattle.update.proofs.touching.touch.Goals as goal

pub replace_at-requires-in-Ok : goal.replace_at-requires-in-Ok
replace_at-requires-in-Ok c =
    let some : 0 < pairs_len c.args.document.now = search rules in
    omega (arith, some, ap pairs_len c.in-Ok.ensures.ok, pairs_len-with_value c.args.document.now 0 (scalar null))

pub unreachable-requires : goal.unreachable-requires
unreachable-requires c =
    let fits : levels (tree c.in-Ok.value) ≤ 99 =
    omega (arith, c.levels-levels.ensures.lawful.depth, pair_at-levels c.args.document.now 0 (tree c.in-Ok.value) c.in-Ok.ensures.old) in
    search (rules, fits)

pub returns : goal.returns
returns c =
    c.in-Ok-replace_at.ensures.ok ∙ ap (λ ps. with_value ps 0 (tree c.in-Ok.value)) c.in-Ok.ensures.ok
    ∙ with_value-twice c.args.document.now 0 (scalar null) (tree c.in-Ok.value) ∙ same_there c.args.document.now 0 (tree c.in-Ok.value) c.in-Ok.ensures.old
