use Rattle.std.proofs.Common.{◌≡◌, ◌≤◌, true, ap, sym, subst, ◌∙◌, arith}
use Rattle.std.specs.Option.{is_some}
use Rattle.std.specs.Prelude.{option_map, IfSome}
use Rattle.bson.specs.Edits.{cut}
use Rattle.bson.specs.Lawful.{levels}
use Rattle.bson.specs.Lookup.{lookup}
use Rattle.bson.specs.Tree.{append, Pairs}
use Rattle.bson.specs.View.{tree}
use Rattle.path.proofs.WalkLemmas.{lookup-levels}
use Rattle.update.specs.Renaming.{AreGone}
use Rattle.update.specs.Unsets.{unmarked}
use Rattle.update.proofs.RenamingLemmas.{taken_out, taken_gone, value_behind, value_kept}
use Rattle.update.proofs.renaming.Renaming.take.Goals as goal
use Rattle.update.proofs.renaming.Renaming.take.Goals.{in-Some, in-None}

pub invariant_of-result : goal.invariant_of-result
invariant_of-result c =
    subst (λ ps. AreGone ps c.put.new.document) (sym (c.remove-found.ensures.rest ∙ ap (cut c.self.inside.moved) c.as_str.ensures.name))
    (taken_gone c.self.inside.gone c.self.inside.kept c.self.inside.moved c.levels-kept_levels.ensures.lawful.lawful c.self.invariant c.args.name.now
    c.put.new.document c.in_ok-put.ensures)

pub returns-clause-left : goal.returns-clause-left
returns-clause-left c =
    -- nothing shows but at the name, which is marked
    let so : (m : Pairs) → is_some (lookup m c.args.name.now) ≡ true → unmarked m c.match-found.kept ≡ unmarked m c.self.inside.kept =
    λ m marked. elim c.match-found.branch [
      | in-Some w ↦ ap (unmarked m) w.kept-is
      | in-None w ↦ ap (unmarked m) w.kept-is ∙ w.take_kept-taken.ensures.after m marked
    ] in
    ap (append (unmarked c.put.new.document c.match-found.kept)) (c.remove-found.ensures.rest ∙ ap (cut c.self.inside.moved) c.as_str.ensures.name)
    ∙ taken_out c.self.inside.gone c.self.inside.kept c.self.inside.moved c.levels-kept_levels.ensures.lawful.lawful c.self.invariant c.args.name.now
    c.put.new.document c.match-found.kept c.in_ok-put.ensures so
    ∙ ap (λ ps. cut ps c.args.name.now) c.self.view_is

pub returns-clause-taken : goal.returns-clause-taken
returns-clause-taken c = elim c.match-found.branch [
  | in-Some w ↦
      ap (option_map tree) w.taken-is
      ∙ sym (value_behind c.self.inside.gone c.self.inside.kept c.self.inside.moved c.levels-kept_levels.ensures.lawful.lawful c.self.invariant
      c.args.name.now (tree w.in-Some.value)
      (ap (lookup c.self.inside.moved) (sym c.as_str.ensures.name) ∙ sym c.remove-found.ensures.value ∙ ap (option_map tree) w.in-Some.is))
      ∙ ap (λ ps. lookup ps c.args.name.now) c.self.view_is
  | in-None w ↦
      ap (option_map tree) w.taken-is ∙ w.take_kept-taken.ensures.value
      ∙ sym (value_kept c.self.inside.gone c.self.inside.kept c.self.inside.moved c.levels-kept_levels.ensures.lawful.lawful c.self.invariant
      c.args.name.now (ap (lookup c.self.inside.moved) (sym c.as_str.ensures.name) ∙ sym c.remove-found.ensures.value ∙ ap (option_map tree) w.in-None.is))
      ∙ ap (λ ps. lookup ps c.args.name.now) c.self.view_is
]

pub returns-clause-levels : goal.returns-clause-levels
returns-clause-levels c = elim c.match-found.branch [
  | in-Some w ↦
      subst (λ o. IfSome o (λ v. levels (tree v) ≤ 99)) (sym w.taken-is)
      (omega (
        arith,
        c.levels-moved_levels.ensures.lawful.depth,
        lookup-levels c.self.inside.moved c.args.name.now (tree w.in-Some.value)
            (ap (lookup c.self.inside.moved) (sym c.as_str.ensures.name) ∙ sym c.remove-found.ensures.value ∙ ap (option_map tree) w.in-Some.is),
      ))
  | in-None w ↦ subst (λ o. IfSome o (λ v. levels (tree v) ≤ 99)) (sym w.taken-is) w.take_kept-taken.ensures.levels
]
