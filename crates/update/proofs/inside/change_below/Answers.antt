use Rattle.std.proofs.Common.{map, ap, sym, ◌∙◌}
use Rattle.bson.specs.Tree.{document}
use Rattle.path.proofs.WalkLemmas.{first_and_rest}
use Rattle.update.specs.Inside.{value_after, inside}
use Rattle.update.specs.View.{edit_of}
use Rattle.update.proofs.InsideLemmas.{no_parts}
use Rattle.update.proofs.StepLemmas.{if_ok_map}
use Rattle.update.proofs.inside.change_below.Goals as goal

pub returns-in_default : goal.returns-in_default
returns-in_default c =
    let itself = ap (λ p. inside p (value_after (map edit_of c.args.edits.now)) (document c.args.source)) (no_parts c.args.parent.now c.in_default.len_below) in
    if_ok_map c.document_after.result _ _ (λ d so. ap document so ∙ sym itself) c.document_after.ensures

pub returns : goal.returns
returns c =
    let parts = first_and_rest c.args.parent.now c.part-item.result c.in-len1-up.len_at_least c.part-item.is in
    let further = ap (λ p. inside p (value_after (map edit_of c.args.edits.now)) (document c.args.source)) parts in
    if_ok_map c.change_in_field.result _ _ (λ d so. ap document so ∙ sym further) c.change_in_field.ensures
