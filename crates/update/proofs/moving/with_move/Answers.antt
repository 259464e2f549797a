use Rattle.std.proofs.Common.{◌≡◌, ◌≤◌, ◌++◌, ◌∷◌, [], Some, map, ap, sym, subst, ◌∙◌, arith}
use Rattle.std.specs.Prelude.{option_map}
use Rattle.std.proofs.lemmas.List.{map_push}
use Rattle.bson.specs.Lawful.{pairs_levels}
use Rattle.bson.specs.Tree.{document}
use Rattle.bson.specs.View.{tree}
use Rattle.path.specs.Place.{value_at}
use Rattle.update.specs.Moving.{unset_of, move_of, put_all, MayMove}
use Rattle.update_model.specs.Parsing.{conflicts}
use Rattle.update.specs.Unsets.{cut_all}
use Rattle.update.proofs.MovingLemmas.{moved_absent, moved_there, may_move_too, old_alone, new_alone}
use Rattle.update.proofs.moving.with_move.Goals as goal

pub returns-in_default : goal.returns-in_default
returns-in_default c =
    let same : c.touch_at-source-2.result ≡ c.args.source = c.touch_at-source-2.ensures ∙ c.touch_at-source.ensures in
    let low : pairs_levels c.args.source ≤ 99 = omega (arith, c.levels-levels.ensures.lawful.depth, ap pairs_levels same) in
    moved_absent c.args.old.now c.args.new.now c.args.gone (map move_of c.args.moved.items) c.args.source c.requires.may c.requires.apart low
    c.requires.old c.requires.new
    (ap (λ ps. value_at c.args.old.now (document ps)) (sym same) ∙ sym c.value_at-found.ensures ∙ ap (option_map (λ v. tree v.now)) c.in_default.is)
    ∙ ap (λ ps. put_all (map move_of c.args.moved.items) (cut_all c.args.gone ps)) (sym same)

pub with_unset-requires : goal.with_unset-requires
with_unset-requires c = old_alone c.args.old.now c.args.new.now c.args.gone c.requires.apart

pub with_unset-requires-2 : goal.with_unset-requires-2
with_unset-requires-2 c =
    ap (λ es. conflicts es (unset_of c.args.new.now)) c.in_ok-gone.ensures ∙ new_alone c.args.old.now c.args.new.now c.args.gone c.requires.apart

pub invariant_of-result-2 : goal.invariant_of-result-2
invariant_of-result-2 c =
    let same : c.touch_at-source-2.result ≡ c.args.source = c.touch_at-source-2.ensures ∙ c.touch_at-source.ensures in
    let low : pairs_levels c.args.source ≤ 99 = omega (arith, c.levels-levels.ensures.lawful.depth, ap pairs_levels same) in
    let pushed : map move_of c.push.new.self.items ≡ map move_of c.args.moved.items ++ (c.args.new.now, tree c.in_ok-value.value) ∷ [] =
    ap (map move_of) c.in_ok-push.ensures.items ∙ map_push move_of c.args.moved.items _
    ∙ ap (λ p. map move_of c.args.moved.items ++ (p, tree c.in_ok-value.value) ∷ []) c.in_ok-copy.ensures in
    let gone : c.in_ok-gone-2.gone ≡ (c.args.gone ++ unset_of c.args.old.now ∷ []) ++ unset_of c.args.new.now ∷ [] =
    c.in_ok-gone-2.ensures ∙ ap (λ es. es ++ unset_of c.args.new.now ∷ []) c.in_ok-gone.ensures in
    subst (λ ps. MayMove ps c.in_ok-gone-2.gone (map move_of c.push.new.self.items)) (sym same)
    (subst (λ es. MayMove c.args.source es (map move_of c.push.new.self.items)) (sym gone)
    (subst (λ ms. MayMove c.args.source ((c.args.gone ++ unset_of c.args.old.now ∷ []) ++ unset_of c.args.new.now ∷ []) ms) (sym pushed)
    (may_move_too c.args.old.now c.args.new.now c.args.gone (map move_of c.args.moved.items) c.args.source c.requires.may c.requires.apart low
    c.requires.old c.requires.new (tree c.in_ok-value.value))))

pub returns : goal.returns
returns c =
    let same : c.touch_at-source-2.result ≡ c.args.source = c.touch_at-source-2.ensures ∙ c.touch_at-source.ensures in
    let low : pairs_levels c.args.source ≤ 99 = omega (arith, c.levels-levels.ensures.lawful.depth, ap pairs_levels same) in
    let some : value_at c.args.old.now (document c.args.source) ≡ Some (tree c.in_ok-value.value) =
    ap (λ ps. value_at c.args.old.now (document ps)) (sym same) ∙ sym c.value_at-found.ensures
    ∙ ap (option_map (λ v. tree v.now)) c.in-Some.is ∙ ap Some (sym c.in_ok-value.ensures) in
    let pushed : map move_of c.push.new.self.items ≡ map move_of c.args.moved.items ++ (c.args.new.now, tree c.in_ok-value.value) ∷ [] =
    ap (map move_of) c.in_ok-push.ensures.items ∙ map_push move_of c.args.moved.items _
    ∙ ap (λ p. map move_of c.args.moved.items ++ (p, tree c.in_ok-value.value) ∷ []) c.in_ok-copy.ensures in
    let gone : c.in_ok-gone-2.gone ≡ (c.args.gone ++ unset_of c.args.old.now ∷ []) ++ unset_of c.args.new.now ∷ [] =
    c.in_ok-gone-2.ensures ∙ ap (λ es. es ++ unset_of c.args.new.now ∷ []) c.in_ok-gone.ensures in
    moved_there c.args.old.now c.args.new.now c.args.gone (map move_of c.args.moved.items) c.args.source c.requires.may c.requires.apart low
    c.requires.old c.requires.new (tree c.in_ok-value.value) some
    ∙ sym (λ i. put_all (pushed i) (cut_all (gone i) (same i)))
