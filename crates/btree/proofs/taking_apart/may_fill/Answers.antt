use Rattle.std.proofs.Common.{◌≡◌, ◌∙◌, sym, ap, map, false}
use Rattle.btree.specs.LooseView.{slot_in}
use Rattle.btree.proofs.PartLemmas.{first_here}
use Rattle.btree.proofs.HeldLemmas.{leaf_or_not}
use Rattle.btree.proofs.taking_apart.may_fill.Goals as goal

pub returns : goal.returns
returns c =
    λ d body e. let f = first_here c.deref.result.now c.in-Some.first.now c.in-Some.ensures.item.3.0 c.in-Some.ensures.item.1 in
    leaf_or_not d body _ _ c.args.node.now.fills
    (λ page is. let yes = c.is_child.ensures.yes page is in let no' : c.is_child.result ≡ false = c.if-is_child.false in cc)
    (sym f ∙ ap (map slot_in) c.deref.ensures.value ∙ e)
