use Rattle.std.proofs.Common.{rules, arith, ◌≡◌, sym, ap, ◌∙◌, None, false}
use Rattle.std.specs.Option.{is_some}
use Rattle.std.specs.Prelude.{if◌then◌else◌}
use Rattle.bson.specs.Edits.{place}
use Rattle.bson.specs.Lookup.{lookup}
use Rattle.bson.specs.Tree.{scalar, null}
use Rattle.bson.specs.View.{tree}
use Rattle.path.proofs.WalkLemmas.{pair_at-levels}
use Rattle.update.specs.Unsets.{unmarked}
use Rattle.update.proofs.RenamingLemmas.{none_placed, some_placed, kept_marks}
use Rattle.update.proofs.renaming.take_kept.Goals as goal

pub returns-in_default-clause-value : goal.returns-in_default-clause-value
returns-in_default-clause-value c =
    let placed = sym (ap (place c.args.kept.now) c.as_str-2.ensures.name) ∙ sym c.in_default.ensures in
    none_placed (is_some (lookup c.args.gone.now c.args.name.now)) c.args.kept.now c.args.name.now placed

pub replace_at-requires : goal.replace_at-requires
replace_at-requires c =
    let placed = sym (ap (place c.args.kept.now) c.as_str-2.ensures.name) ∙ sym c.in-Some.ensures in
    (some_placed c.args.kept.now c.args.name.now c.in-Some.at placed).0

pub returns-clause-value : goal.returns-clause-value
returns-clause-value c =
    let here : is_some (lookup c.args.gone.now c.args.name.now) ≡ false = search rules in
    let placed = sym (ap (place c.args.kept.now) c.as_str-2.ensures.name) ∙ sym c.in-Some.ensures in
    (some_placed c.args.kept.now c.args.name.now c.in-Some.at placed).1 (tree c.in-Ok.value) c.in-Ok.ensures.old
    ∙ ap (λ b. if b then None else lookup c.args.kept.now c.args.name.now) (sym here)

pub returns-clause-after : goal.returns-clause-after
returns-clause-after c marks marked =
    let placed = sym (ap (place c.args.kept.now) c.as_str-2.ensures.name) ∙ sym c.in-Some.ensures in
    ap (unmarked marks) c.in-Ok.ensures.ok ∙ kept_marks marks c.args.kept.now c.in-Some.at c.args.name.now (scalar null) placed marked

pub returns-clause-levels : goal.returns-clause-levels
returns-clause-levels c =
    omega (arith, c.levels-levels.ensures.lawful.depth, pair_at-levels c.args.kept.now c.in-Some.at (tree c.in-Ok.value) c.in-Ok.ensures.old)
