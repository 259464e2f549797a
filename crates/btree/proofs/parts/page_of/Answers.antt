use Rattle.std.proofs.Common.{◌≡◌, ◌∙◌, sym, false}
use Rattle.btree.proofs.PartLemmas.{as_branch, as_leaf, first_here, is_a_child, too_few}
use Rattle.btree.proofs.parts.page_of.Goals as goal

pub returns-then-not-is_child-clause-holds : goal.returns-then-not-is_child-clause-holds
returns-then-not-is_child-clause-holds c =
    λ d body e enough go. let f = first_here c.args.loose_slots.now c.in-Some.first.now c.in-Some.ensures.item.3.0 c.in-Some.ensures.item.1 in
    as_leaf d body _ _ c.leaf_of.result (λ page is. let yes = c.is_child.ensures.yes page is in let no' : c.is_child.result ≡ false = c.if-not-is_child.true in
    cc) (sym f ∙ e) (λ items same. c.leaf_of.ensures.holds items (f ∙ same))

pub returns-then-loose_slots-lt2-clause-holds : goal.returns-then-loose_slots-lt2-clause-holds
returns-then-loose_slots-lt2-clause-holds c =
    λ d body e enough go. let f = first_here c.args.loose_slots.now c.in-Some.first.now c.in-Some.ensures.item.3.0 c.in-Some.ensures.item.1 in
    absurd (too_few d body _ _ c.args.loose_slots.now (c.is_child.ensures.no c.if-not-is_child.false) (sym f ∙ e) c.if-loose_slots-lt2.true enough)

pub returns-clause-holds : goal.returns-clause-holds
returns-clause-holds c =
    λ d body e enough go. let f = first_here c.args.loose_slots.now c.in-Some.first.now c.in-Some.ensures.item.3.0 c.in-Some.ensures.item.1 in
    let p = is_a_child _ (c.is_child.ensures.no c.if-not-is_child.false) in
    as_branch d body _ _ p.x c.branch_of.result p.is (sym f ∙ e) (λ pivots same. c.branch_of.ensures.holds pivots (f ∙ same))
