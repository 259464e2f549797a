use Rattle.std.proofs.Common.{◌-◌, ◌*◌, ◌≤◌, length, ◌≡◌, ◌∙◌, ◌++◌, ◌∷◌, ◌+◌, [], Some, map, sym, ap, subst, arith, refl, inl, inr, suc}
use Rattle.btree.specs.Loose.{pivot_slot, under_key}
use Rattle.btree.specs.LooseView.{slot_in}
use Rattle.tree_model.specs.EditView.{edit_in}
use Rattle.tree_model.specs.View.{content_in}
use Rattle.btree.specs.Few.{IsFewOrOne, MakesUpTo, edit_pages}
use Rattle.tree_model.specs.Keys.{change, sum_of, times}
use Rattle.tree_model.specs.Store.{Store}
use Rattle.tree_model.specs.Tree.{Shows, IsSound, entries_of, pages_of}
use Rattle.page.specs.Content.{Pivot}
use Rattle.page.specs.Format.{PageModel}
use Rattle.btree.specs.Turn.{model_in, IsHeld}
use Rattle.tree_model.proofs.StoreLemmas.{answer_failed, cause_later, frame_same, frame_trans, grows_failed, grows_retired, grows_same, grows_trans, shows_kept}
use Rattle.btree.proofs.HeldLemmas.{IsTurn, branch_slots, held_later, opened, turns_failed}
use Rattle.btree.proofs.ChangingLemmas.{at_leaf, begins, behind_later, branch_deep, turned_on}
use Rattle.btree.specs.Change.{IsBehind}
use Rattle.btree.proofs.EndLemmas.{last_is_child, within_up_to}
use Rattle.btree.proofs.FewParts.{branch_few}
use Rattle.btree.proofs.FewLemmas.{all_mine, branch_two, children_few, few_alone, few_made, few_on, few_or_one_on, stopped, sum_both, loose_slot_little}
use Rattle.btree.proofs.FewLemmas.{zero_or}
use Rattle.btree.proofs.SplitLemmas.{two_parts}
use Rattle.tree_model.proofs.ListLemmas.{long_append, long_map}
use Rattle.btree.proofs.OneChildLemmas.{amid, amid_turned, key_little, prepared_child}
use Rattle.btree.proofs.PrepareLemmas.{begins_there, children_done, prepare}
use Rattle.btree.proofs.changing.+change.Goals as goal

pub change_below-returns-in_err-shared-clause-turns : goal.change_below-returns-in_err-shared-clause-turns
change_below-returns-in_err-shared-clause-turns g t c =
    λ base d high body rank at shown whole sound little rise between word.
    answer_failed (g.P.Pages.store c.args.pages.now) (g.P.Pages.store c.read.new.self) _ _ _ c.from_residual.ensures.1 (c.in_err-shared.ensures.cause word _ at)

pub change_below-returns-in-Leaf-clause-turns : goal.change_below-returns-in-Leaf-clause-turns
change_below-returns-in-Leaf-clause-turns g t c =
    λ base d high body rank at shown whole sound little rise between word.
    let gone = c.in_ok-retire.ensures.retires (c.change_leaf.ensures.grows.frame word).word in
    let same = c.in_ok-shared.ensures.same gone.frame.word in
    let grown = frame_trans (g.P.Pages.store c.args.pages.now) (g.P.Pages.store c.read.new.self) (g.P.Pages.store c.retire.new.self)
    (frame_same _ _ same) gone.frame in
    at_leaf (λ d body. c.args.rank ≡ base + d → Shows (g.P.Pages.store c.retire.new.self) d body → IsSound d c.args.low.now high body
    → IsTurn (g.P.Pages.store c.args.pages.now) (g.P.Pages.store c.change_leaf.new.pages) base c.args.low.now high
    (change (map edit_in c.args.edits.now) (entries_of d body)) (c.args.page ∷ pages_of d body) c.change_leaf.result)
    c.in-Leaf.leaf
    (λ pairs is rank shown sound. turned_on (g.P.Pages.store c.args.pages.now) (g.P.Pages.store c.retire.new.self)
    (g.P.Pages.store c.change_leaf.new.pages) base c.args.low.now high _ (c.args.page ∷ pages_of 0 pairs) (pages_of 0 pairs) c.change_leaf.result grown
    (λ n. omega (arith, ap (times n) (gone.made ∙ same.made), ap (times n) (gone.retired ∙ ap (λ zs. c.args.page ∷ zs) same.retired)))
    (c.change_leaf.ensures.turns base c.args.low.now high pairs (omega arith) is sound shown between word))
    d body (sym (ap content_in c.in-Leaf.is) ∙ ap (λ (s : PageModel). s.content) c.image.ensures ∙ sym (c.in_ok-shared.ensures.value gone.frame.word)
    ∙ at.holds) rank (shows_kept _ _ grown d body shown) sound

pub change_below-returns-clause-grows : goal.change_below-returns-clause-grows
change_below-returns-clause-grows g t c =
    grows_trans _ _ _
    (grows_trans (g.P.Pages.store c.args.pages.now) (g.P.Pages.store c.read.new.self) (g.P.Pages.store c.retire.new.self)
    (grows_same (g.P.Pages.store c.args.pages.now) (g.P.Pages.store c.read.new.self) c.in_ok-shared.ensures.stays c.in_ok-shared.ensures.same)
    (grows_retired (g.P.Pages.store c.read.new.self) (g.P.Pages.store c.retire.new.self) _ c.in_ok-retire.ensures.stays c.in_ok-retire.ensures.retires))
    c.change_children.ensures.grows

pub change_below-returns-clause-turns : goal.change_below-returns-clause-turns
change_below-returns-clause-turns g t c =
    λ base d high body rank at shown whole sound little rise between word.
    let gone = c.in_ok-retire.ensures.retires (c.change_children.ensures.grows.frame word).word in
    let same = c.in_ok-shared.ensures.same gone.frame.word in
    let grown = frame_trans (g.P.Pages.store c.args.pages.now) (g.P.Pages.store c.read.new.self) (g.P.Pages.store c.retire.new.self)
    (frame_same _ _ same) gone.frame in
    let e = sym (ap content_in c.in-Branch.is) ∙ ap (λ (s : PageModel). s.content) c.image.ensures ∙ sym (c.in_ok-shared.ensures.value gone.frame.word)
    ∙ at.holds in
    let o = opened (g.P.Pages.store c.args.pages.now)
    (g.P.Pages.store c.retire.new.self) base d c.args.rank c.args.page c.args.low.now high body _ rank shown whole sound little
    (branch_slots d c.args.low.now body c.in-Branch.branch _ e c.in_ok-loose_slots.ensures.ok) grown
    (gone.made ∙ same.made) (gone.retired ∙ ap (λ zs. c.args.page ∷ zs) same.retired) in
    turned_on (g.P.Pages.store c.args.pages.now) (g.P.Pages.store c.retire.new.self)
    (g.P.Pages.store c.change_children.new.pages) base c.args.low.now high _ _ o.0.after c.change_children.result grown o.0.turned
    (c.change_children.ensures.turns base c.args.low.now high (entries_of d body) o.0.after o.0.held (omega (arith, branch_deep d body c.in-Branch.branch e))
    (inr (begins c.args.low.now c.in-Branch.branch _ c.in_ok-loose_slots.ensures.ok o.1.0)) rise between word)

pub change_children-returns-in_default-clause-turns : goal.change_children-returns-in_default-clause-turns
change_children-returns-in_default-clause-turns g t c =
    λ base low high entries reached h deep begin rise between word.
    let w = two_parts (g.P.Pages.store c.args.pages.now) base low high entries reached (model_in c.args.node)
    (map slot_in c.in_ok-left.field-0.left.loose_slots.items ++ slot_in c.in_ok-left.field-0.loose_slot ∷ []) _ h c.in_ok-left.ensures.parts
    (omega (arith, long_append (map slot_in c.in_ok-left.field-0.left.loose_slots.items) (slot_in c.in_ok-left.field-0.loose_slot ∷ []))) in
    c.in_default.ensures
    (last_is_child (g.P.Pages.store c.args.pages.now) base low w.between w.front_entries w.front_pages _
    (map slot_in c.in_ok-left.field-0.left.loose_slots.items)
    (slot_in c.in_ok-left.field-0.loose_slot) w.front_held deep
    (omega (arith, long_append (map slot_in c.in_ok-left.field-0.left.loose_slots.items) (slot_in c.in_ok-left.field-0.loose_slot ∷ []))) refl)

pub change_children-returns-in_err-below-clause-turns : goal.change_children-returns-in_err-below-clause-turns
change_children-returns-in_err-below-clause-turns g t c =
    λ base low high entries reached h deep begin rise between word.
    let p = prepare
    (g.P.Pages.store c.args.pages.now) c.args.node c.in_ok-left.field-0.left c.in_ok-left.field-0.right c.in_ok-left.field-0.loose_slot c.deref.result.now
    c.as_slice-key.result.now c.in-Some.page c.child_place-at.result c.args.edits.now _ _ _
    c.in_ok-left.ensures.parts c.as_slice-key.ensures.value c.in-Some.ensures c.edits_at.ensures.parts c.edits_at.ensures.before c.edits_at.ensures.behind
    c.deref.ensures.value c.in_ok-left.ensures.left c.child_place-at.ensures.next (omega arith)
    base low high entries reached h deep rise between in
    turns_failed (g.P.Pages.store c.args.pages.now)
    (g.P.Pages.store c.change_below.new.pages) base low high _ _ c.from_residual-in_err-below.result _ c.from_residual-in_err-below.ensures.1
    (c.in_err-below.ensures.turns base p.off.d p.two.between p.off.body
    (omega (arith, p.off.rank_is, c.in_ok-left.ensures.left_rank)) p.off.at p.off.shown p.off.lies.0 p.off.lies.1 p.off.little p.mine_rise p.mine_between word)

pub change_children-returns-in_err-front-clause-turns : goal.change_children-returns-in_err-front-clause-turns
change_children-returns-in_err-front-clause-turns g t c =
    λ base low high entries reached h deep begin rise between word.
    let g2 = c.in_err-front.ensures.grows.frame word in
    let g1 = c.in_ok-below.ensures.grows.frame g2.word in
    let p = prepare
    (g.P.Pages.store c.args.pages.now) c.args.node c.in_ok-left.field-0.left c.in_ok-left.field-0.right c.in_ok-left.field-0.loose_slot c.deref.result.now
    c.as_slice-key.result.now c.in-Some.page c.child_place-at.result c.args.edits.now _ _ _
    c.in_ok-left.ensures.parts c.as_slice-key.ensures.value c.in-Some.ensures c.edits_at.ensures.parts c.edits_at.ensures.before c.edits_at.ensures.behind
    c.deref.ensures.value c.in_ok-left.ensures.left c.child_place-at.ensures.next (omega arith)
    base low high entries reached h deep rise between in
    turns_failed (g.P.Pages.store c.args.pages.now)
    (g.P.Pages.store c.change_children.new.pages) base low high _ _ c.from_residual-in_err-front.result _ c.from_residual-in_err-front.ensures.1
    (cause_later (g.P.Pages.store c.args.pages.now) (g.P.Pages.store c.change_below.new.pages) (g.P.Pages.store c.change_children.new.pages) _ g1
    (c.in_err-front.ensures.turns base low (Some c.as_slice-key.result.now) (entries_of (suc p.off.d) p.off.subtrees) (pages_of (suc p.off.d) p.off.subtrees)
    (held_later _ _ base low _ _ _ _ g1
    (subst (λ k. IsHeld (g.P.Pages.store c.args.pages.now) base low (Some c.as_slice-key.result.now) (entries_of (suc p.off.d) p.off.subtrees)
    (pages_of (suc p.off.d) p.off.subtrees) (record { rank = k; slots = map slot_in c.in_ok-left.field-0.left.loose_slots.items }))
    (sym c.in_ok-left.ensures.left_rank) p.left_held))
    (omega (arith, c.in_ok-left.ensures.left_rank))
    (begins_there
    (g.P.Pages.store c.args.pages.now) c.args.node c.in_ok-left.field-0.left c.in_ok-left.field-0.right c.in_ok-left.field-0.loose_slot c.deref.result.now
    c.as_slice-key.result.now c.in-Some.page c.child_place-at.result c.args.edits.now _ _ _
    c.in_ok-left.ensures.parts c.as_slice-key.ensures.value c.in-Some.ensures c.edits_at.ensures.parts c.edits_at.ensures.before c.edits_at.ensures.behind
    c.deref.ensures.value c.in_ok-left.ensures.left c.child_place-at.ensures.next (omega arith) base low begin p.theirs_between)
    p.theirs_rise p.theirs_between word))

pub change_children-returns-clause-grows : goal.change_children-returns-clause-grows
change_children-returns-clause-grows g t c =
    grows_trans _ _ _ (grows_trans _ _ _ c.in_ok-below.ensures.grows c.in_ok-front.ensures.grows) c.settle.ensures.grows

pub change_children-returns-clause-turns : goal.change_children-returns-clause-turns
change_children-returns-clause-turns g t c =
    λ base low high entries reached h deep begin rise between word.
    let g3 = c.settle.ensures.grows.frame word in
    let g2 = c.in_ok-front.ensures.grows.frame g3.word in
    let g1 = c.in_ok-below.ensures.grows.frame g2.word in
    let p = prepare
    (g.P.Pages.store c.args.pages.now) c.args.node c.in_ok-left.field-0.left c.in_ok-left.field-0.right c.in_ok-left.field-0.loose_slot c.deref.result.now
    c.as_slice-key.result.now c.in-Some.page c.child_place-at.result c.args.edits.now _ _ _
    c.in_ok-left.ensures.parts c.as_slice-key.ensures.value c.in-Some.ensures c.edits_at.ensures.parts c.edits_at.ensures.before c.edits_at.ensures.behind
    c.deref.ensures.value c.in_ok-left.ensures.left c.child_place-at.ensures.next (omega arith)
    base low high entries reached h deep rise between in
    let u1 = c.in_ok-below.ensures.turns base p.off.d p.two.between p.off.body
    (omega (arith, p.off.rank_is, c.in_ok-left.ensures.left_rank)) p.off.at p.off.shown p.off.lies.0 p.off.lies.1 p.off.little p.mine_rise p.mine_between
    g2.word in
    let u2 = c.in_ok-front.ensures.turns base low (Some c.as_slice-key.result.now) (entries_of (suc p.off.d) p.off.subtrees)
    (pages_of (suc p.off.d) p.off.subtrees)
    (held_later _ _ base low _ _ _ _ g1
    (subst (λ k. IsHeld (g.P.Pages.store c.args.pages.now) base low (Some c.as_slice-key.result.now) (entries_of (suc p.off.d) p.off.subtrees)
    (pages_of (suc p.off.d) p.off.subtrees) (record { rank = k; slots = map slot_in c.in_ok-left.field-0.left.loose_slots.items }))
    (sym c.in_ok-left.ensures.left_rank) p.left_held))
    (omega (arith, c.in_ok-left.ensures.left_rank))
    (begins_there
    (g.P.Pages.store c.args.pages.now) c.args.node c.in_ok-left.field-0.left c.in_ok-left.field-0.right c.in_ok-left.field-0.loose_slot c.deref.result.now
    c.as_slice-key.result.now c.in-Some.page c.child_place-at.result c.args.edits.now _ _ _
    c.in_ok-left.ensures.parts c.as_slice-key.ensures.value c.in-Some.ensures c.edits_at.ensures.parts c.edits_at.ensures.before c.edits_at.ensures.behind
    c.deref.ensures.value c.in_ok-left.ensures.left c.child_place-at.ensures.next (omega arith) base low begin p.theirs_between)
    p.theirs_rise p.theirs_between g3.word in
    let behind = behind_later _ _ base p.two.between high p.two.back_entries p.two.back_pages _ (frame_trans _ _ _ g1 g2)
    (subst (λ k. IsBehind (g.P.Pages.store c.args.pages.now) base p.two.between high p.two.back_entries p.two.back_pages
    (record { rank = k; slots = map slot_in c.in_ok-left.field-0.right.loose_slots.items })) (sym c.in_ok-left.ensures.right_rank) p.two.behind) in
    subst (λ es. IsTurn (g.P.Pages.store c.args.pages.now) (g.P.Pages.store c.settle.new.pages) base low high (change es entries) reached c.settle.result)
    (sym c.edits_at.ensures.parts)
    (children_done (g.P.Pages.store c.args.pages.now) (g.P.Pages.store c.change_below.new.pages) (g.P.Pages.store c.change_children.new.pages)
    (g.P.Pages.store c.settle.new.pages) base low high entries reached c.args.node.rank _ _ _ c.in-Some.page _ _ p _ _ c.settle.result g1 g2 u1 u2
    (c.settle.ensures.turns base low c.as_slice-key.result.now p.two.between high
    (change (map edit_in c.edits_at.result.0.now) (entries_of (suc p.off.d) p.off.subtrees))
    (change (map edit_in c.edits_at.result.1.now) (entries_of p.off.d p.off.body)) p.two.back_entries u2.after u1.after p.two.back_pages u2.held
    (held_later _ _ base _ _ _ _ _ g2 u1.held) behind p.off.between.0
    (within_up_to c.as_slice-key.result.now p.two.between p.off.between.1) p.within word))

pub change_below-returns-in-Leaf-clause-grows : goal.change_below-returns-in-Leaf-clause-grows
change_below-returns-in-Leaf-clause-grows g t c =
    grows_trans _ _ _
    (grows_trans (g.P.Pages.store c.args.pages.now) (g.P.Pages.store c.read.new.self) (g.P.Pages.store c.retire.new.self)
    (grows_same (g.P.Pages.store c.args.pages.now) (g.P.Pages.store c.read.new.self) c.in_ok-shared.ensures.stays c.in_ok-shared.ensures.same)
    (grows_retired (g.P.Pages.store c.read.new.self) (g.P.Pages.store c.retire.new.self) _ c.in_ok-retire.ensures.stays c.in_ok-retire.ensures.retires))
    c.change_leaf.ensures.grows

pub change_children-returns-in_err-front-clause-grows : goal.change_children-returns-in_err-front-clause-grows
change_children-returns-in_err-front-clause-grows g t c = grows_trans _ _ _ c.in_ok-below.ensures.grows c.in_err-front.ensures.grows

pub change_below-returns-in-Leaf-clause-few : goal.change_below-returns-in-Leaf-clause-few
change_below-returns-in-Leaf-clause-few g t c =
    λ one little k.
    let gone = c.in_ok-retire.ensures.retires (c.change_leaf.ensures.grows.frame k).word in
    let same = c.in_ok-shared.ensures.same gone.frame.word in
    few_or_one_on (g.P.Pages.store c.args.pages.now) (g.P.Pages.store c.retire.new.self)
    (g.P.Pages.store c.change_leaf.new.pages) c.args.rank _ _ _ _ 0 c.change_leaf.result (omega (arith, ap length (gone.made ∙ same.made)))
    (c.change_leaf.ensures.few one k) (omega arith) (omega arith)

pub change_below-returns-clause-few : goal.change_below-returns-clause-few
change_below-returns-clause-few g t c =
    λ one little k.
    let gone = c.in_ok-retire.ensures.retires (c.change_children.ensures.grows.frame k).word in
    let same = c.in_ok-shared.ensures.same gone.frame.word in
    few_alone (g.P.Pages.store c.args.pages.now) (g.P.Pages.store c.change_children.new.pages) c.args.rank _ _ c.change_children.result
    (few_on (g.P.Pages.store c.args.pages.now) (g.P.Pages.store c.retire.new.self)
    (g.P.Pages.store c.change_children.new.pages) c.args.rank c.args.rank _ _ _ _ 0 c.change_children.result (omega (arith, ap length (gone.made ∙ same.made)))
    (c.change_children.ensures.few one (branch_few c.args.low.now c.in-Branch.branch _ c.in_ok-loose_slots.ensures.ok c.in_ok-loose_slots.ensures.sound little)
    (branch_two c.args.low.now c.in-Branch.branch _ c.in_ok-loose_slots.ensures.ok c.in_ok-loose_slots.ensures.sound) k) refl (omega arith) (omega arith))

pub change_children-returns-clause-few : goal.change_children-returns-clause-few
change_children-returns-clause-few g t c =
    λ most little two k.
    let one : length c.args.edits.now ≡ 1 = omega arith in
    let g3 = c.settle.ensures.grows.frame k in
    let g2 = c.in_ok-front.ensures.grows.frame g3.word in
    let left = c.in_ok-left.field-0.left in
    let right = c.in_ok-left.field-0.right in
    let m = all_mine c.args.edits.now c.edits_at.result.0.now c.edits_at.result.1.now c.deref.result.now c.args.node.loose_slots.items
    (map slot_in left.loose_slots.items) (map slot_in right.loose_slots.items) (slot_in c.in_ok-left.field-0.loose_slot) c.as_slice-key.result.now
    c.child_place-at.result _ one
    c.edits_at.ensures.parts c.edits_at.ensures.before c.deref.ensures.value c.in_ok-left.ensures.parts c.as_slice-key.ensures.value
    (omega (arith, c.in_ok-left.ensures.left, long_map slot_in left.loose_slots.items))
    c.child_place-at.ensures.here (λ lt. omega (arith, c.in_ok-front.ensures.some lt, c.in_ok-left.ensures.left)) in
    let front = c.in_ok-front.ensures.none m.none in
    let front_is : c.in_ok-front.front ≡ left = (let whole = front.0 in cc) in
    let b = c.in_ok-below.ensures.few (omega (arith, m.one))
    (loose_slot_little (map slot_in c.args.node.loose_slots.items) (map slot_in left.loose_slots.items) (map slot_in right.loose_slots.items)
    (slot_in c.in_ok-left.field-0.loose_slot) _ c.in_ok-left.ensures.parts little.0 c.as_slice-key.ensures.value) g2.word in
    children_few (g.P.Pages.store c.args.pages.now) (g.P.Pages.store c.change_below.new.pages) (g.P.Pages.store c.change_children.new.pages)
    (g.P.Pages.store c.settle.new.pages) (model_in c.args.node) (model_in left) (model_in right) (model_in c.in_ok-below.below)
    (model_in c.in_ok-front.front) (slot_in c.in_ok-left.field-0.loose_slot) (sum_of edit_pages (map edit_in c.args.edits.now))
    c.in_ok-left.ensures.parts c.in_ok-left.ensures.left_rank c.in_ok-left.ensures.right_rank c.requires.rank little
    (omega (arith, long_map slot_in c.args.node.loose_slots.items)) (ap model_in front_is) (omega (arith, ap (λ (s : Store). length s.made) front.1))
    (subst (λ es. IsFewOrOne (g.P.Pages.store c.args.pages.now) (g.P.Pages.store c.change_below.new.pages) (left.rank - 1) 10880
    (4 * (left.rank - 1) + sum_of edit_pages es) (model_in c.in_ok-below.below)) (sym m.same) b)
    c.settle.result (λ hl hb hr. c.settle.ensures.few k hl hb hr)

pub change_below-returns-in-Some-clause-grows : goal.change_below-returns-in-Some-clause-grows
change_below-returns-in-Some-clause-grows g t c =
    grows_trans _ _ _
    (grows_trans (g.P.Pages.store c.args.pages.now) (g.P.Pages.store c.read.new.self) (g.P.Pages.store c.retire.new.self)
    (grows_same (g.P.Pages.store c.args.pages.now) (g.P.Pages.store c.read.new.self) c.in_ok-shared.ensures.stays c.in_ok-shared.ensures.same)
    (grows_retired (g.P.Pages.store c.read.new.self) (g.P.Pages.store c.retire.new.self) _ c.in_ok-retire.ensures.stays c.in_ok-retire.ensures.retires))
    c.change_child.ensures.grows

pub change_below-returns-in-Some-clause-few : goal.change_below-returns-in-Some-clause-few
change_below-returns-in-Some-clause-few g t c =
    λ one little k.
    let gone = c.in_ok-retire.ensures.retires (c.change_child.ensures.grows.frame k).word in
    let same = c.in_ok-shared.ensures.same gone.frame.word in
    few_or_one_on (g.P.Pages.store c.args.pages.now) (g.P.Pages.store c.retire.new.self)
    (g.P.Pages.store c.change_child.new.pages) c.args.rank _ _ _ _ 0 c.change_child.result (omega (arith, ap length (gone.made ∙ same.made)))
    (c.change_child.ensures.few one little k) (omega arith) (omega arith)

pub change_below-returns-in-Some-clause-turns : goal.change_below-returns-in-Some-clause-turns
change_below-returns-in-Some-clause-turns g t c =
    λ base d high body rank at shown whole sound little rise between word.
    let gone = c.in_ok-retire.ensures.retires (c.change_child.ensures.grows.frame word).word in
    let same = c.in_ok-shared.ensures.same gone.frame.word in
    let grown = frame_trans (g.P.Pages.store c.args.pages.now) (g.P.Pages.store c.read.new.self) (g.P.Pages.store c.retire.new.self)
    (frame_same _ _ same) gone.frame in
    let e = sym (ap content_in c.in-Branch.is) ∙ ap (λ (s : PageModel). s.content) c.image.ensures ∙ sym (c.in_ok-shared.ensures.value gone.frame.word)
    ∙ at.holds in
    let slots = map pivot_slot (under_key c.args.low.now c.in-Branch.branch) in
    let o = opened (g.P.Pages.store c.args.pages.now)
    (g.P.Pages.store c.retire.new.self) base d c.args.rank c.args.page c.args.low.now high body slots rank shown whole sound little
    (branch_slots d c.args.low.now body c.in-Branch.branch slots e refl) grown
    (gone.made ∙ same.made) (gone.retired ∙ ap (λ zs. c.args.page ∷ zs) same.retired) in
    turned_on (g.P.Pages.store c.args.pages.now) (g.P.Pages.store c.retire.new.self)
    (g.P.Pages.store c.change_child.new.pages) base c.args.low.now high _ _ o.0.after c.change_child.result grown o.0.turned
    (c.change_child.ensures.turns base high (entries_of d body) o.0.after o.0.held (omega (arith, branch_deep d body c.in-Branch.branch e))
    (c.in-Some.ensures.all rise) rise between little word)

pub change_child-returns-in_err-below-clause-turns : goal.change_child-returns-in_err-below-clause-turns
change_child-returns-in_err-below-clause-turns g t c =
    λ base high entries reached h deep mine rise between little k.
    let s = g.P.Pages.store c.args.pages.now in
    let p = prepared_child s base c.args.low.now high entries reached c.args.branch.now c.args.at c.args.rank c.low_bound-key.result.now
    c.branch_child-page.result.page (map edit_in c.args.edits.now) h deep mine rise between
    c.low_bound-key.ensures.first c.low_bound-key.ensures.later (λ d. ap (λ (a : Pivot). a.child) (c.branch_child-page.ensures d)) in
    turns_failed s (g.P.Pages.store c.change_below.new.pages) base c.args.low.now high _ _ c.from_residual.result _ c.from_residual.ensures.1
    (c.in_err-below.ensures.turns base p.off.d p.two.between p.off.body
    (omega (arith, p.off.rank_is)) p.off.at p.off.shown p.off.lies.0 p.off.lies.1 p.off.little p.mine_rise p.mine_between k)

pub change_child-returns-clause-grows : goal.change_child-returns-clause-grows
change_child-returns-clause-grows g t c = grows_trans _ _ _ c.in_ok-below.ensures.grows c.put_child.ensures.grows

pub change_child-returns-clause-few : goal.change_child-returns-clause-few
change_child-returns-clause-few g t c =
    λ one little k.
    let g2 = c.put_child.ensures.grows.frame k in
    c.put_child.ensures.few (g.P.Pages.store c.args.pages.now) (sum_of edit_pages (map edit_in c.args.edits.now)) little
    (c.in_ok-below.ensures.few one
    (key_little c.args.low.now c.args.branch.now c.args.at c.low_bound-key.result.now c.requires.sound c.requires.place c.low_bound-key.ensures.first
    c.low_bound-key.ensures.later little) g2.word) k

pub change_child-returns-clause-turns : goal.change_child-returns-clause-turns
change_child-returns-clause-turns g t c =
    λ base high entries reached h deep mine rise between little k.
    let g2 = c.put_child.ensures.grows.frame k in
    let g1 = c.in_ok-below.ensures.grows.frame g2.word in
    let s = g.P.Pages.store c.args.pages.now in
    let mid = g.P.Pages.store c.change_below.new.pages in
    let edits = map edit_in c.args.edits.now in
    let child_is = λ (d : Pivot). ap (λ (a : Pivot). a.child) (c.branch_child-page.ensures d) in
    let p = prepared_child s base c.args.low.now high entries reached c.args.branch.now c.args.at c.args.rank c.low_bound-key.result.now
    c.branch_child-page.result.page edits h deep mine rise between
    c.low_bound-key.ensures.first c.low_bound-key.ensures.later child_is in
    let u = c.in_ok-below.ensures.turns base p.off.d p.two.between p.off.body
    (omega (arith, p.off.rank_is)) p.off.at p.off.shown p.off.lies.0 p.off.lies.1 p.off.little p.mine_rise p.mine_between g2.word in
    turned_on s mid (g.P.Pages.store c.put_child.new.pages) base c.args.low.now high _ reached _ c.put_child.result g1
    (amid_turned s base c.args.low.now high entries reached c.args.branch.now c.args.at c.args.rank c.low_bound-key.result.now c.branch_child-page.result.page
    edits h deep mine rise between
    c.low_bound-key.ensures.first c.low_bound-key.ensures.later child_is mid (model_in c.in_ok-below.below) g1 u)
    (c.put_child.ensures.turns base high (change edits entries) _
    (amid s base c.args.low.now high entries reached c.args.branch.now c.args.at c.args.rank c.low_bound-key.result.now c.branch_child-page.result.page edits h
    deep mine rise between
    c.low_bound-key.ensures.first c.low_bound-key.ensures.later child_is mid (model_in c.in_ok-below.below) g1 u) deep little k)

-- ---- what failed

pub change_below-returns-in_err-shared-clause-few : goal.change_below-returns-in_err-shared-clause-few
change_below-returns-in_err-shared-clause-few g t c =
    λ one little k.
    let same = c.in_err-shared.ensures.same k in
    let m : MakesUpTo (g.P.Pages.store c.args.pages.now) (g.P.Pages.store c.read.new.self)
    (4 * c.args.rank + sum_of edit_pages (map edit_in c.args.edits.now) + 1) = omega (arith, ap length same.made) in
    stopped _ _ _ c.from_residual.result c.from_residual.ensures.1 m

pub change_below-returns-in_err-retire-clause-few : goal.change_below-returns-in_err-retire-clause-few
change_below-returns-in_err-retire-clause-few g t c =
    λ one little k.
    let f = c.in_err-retire.ensures.retires k in
    let same = c.in_ok-shared.ensures.same f.same.word in
    let m : MakesUpTo (g.P.Pages.store c.args.pages.now) (g.P.Pages.store c.retire.new.self)
    (4 * c.args.rank + sum_of edit_pages (map edit_in c.args.edits.now) + 1) = omega (arith, ap length (f.same.made ∙ same.made)) in
    stopped _ _ _ c.from_residual-in_err-retire.result c.from_residual-in_err-retire.ensures.1 m

pub change_below-returns-in_default-clause-few : goal.change_below-returns-in_default-clause-few
change_below-returns-in_default-clause-few g t c =
    λ one little k.
    let gone = c.in_ok-retire.ensures.retires k in
    let same = c.in_ok-shared.ensures.same gone.frame.word in
    let m : MakesUpTo (g.P.Pages.store c.args.pages.now) (g.P.Pages.store c.retire.new.self)
    (4 * c.args.rank + sum_of edit_pages (map edit_in c.args.edits.now) + 1) = omega (arith, ap length (gone.made ∙ same.made)) in
    m

pub change_below-returns-then-rank-eq0-clause-few : goal.change_below-returns-then-rank-eq0-clause-few
change_below-returns-then-rank-eq0-clause-few g t c =
    λ one little k.
    let gone = c.in_ok-retire.ensures.retires k in
    let same = c.in_ok-shared.ensures.same gone.frame.word in
    let m : MakesUpTo (g.P.Pages.store c.args.pages.now) (g.P.Pages.store c.retire.new.self)
    (4 * c.args.rank + sum_of edit_pages (map edit_in c.args.edits.now) + 1) = omega (arith, ap length (gone.made ∙ same.made)) in
    m

pub change_below-returns-in_err-loose_slots-clause-few : goal.change_below-returns-in_err-loose_slots-clause-few
change_below-returns-in_err-loose_slots-clause-few g t c =
    λ one little k.
    let gone = c.in_ok-retire.ensures.retires k in
    let same = c.in_ok-shared.ensures.same gone.frame.word in
    let m : MakesUpTo (g.P.Pages.store c.args.pages.now) (g.P.Pages.store c.retire.new.self)
    (4 * c.args.rank + sum_of edit_pages (map edit_in c.args.edits.now) + 1) = omega (arith, ap length (gone.made ∙ same.made)) in
    stopped _ _ _ c.from_residual-in_err-loose_slots.result c.from_residual-in_err-loose_slots.ensures.1 m

pub change_child-returns-in_err-below-clause-few : goal.change_child-returns-in_err-below-clause-few
change_child-returns-in_err-below-clause-few g t c =
    λ one little k.
    let f = c.in_err-below.ensures.few one
    (key_little c.args.low.now c.args.branch.now c.args.at c.low_bound-key.result.now c.requires.sound c.requires.place c.low_bound-key.ensures.first
    c.low_bound-key.ensures.later little) k in
    let m : MakesUpTo (g.P.Pages.store c.args.pages.now) (g.P.Pages.store c.change_below.new.pages)
    (4 * c.args.rank + sum_of edit_pages (map edit_in c.args.edits.now) + 1) = omega (arith, f, c.requires.rank) in
    stopped _ _ _ c.from_residual.result c.from_residual.ensures.1 m

pub change_children-returns-then-len-eq0-clause-few : goal.change_children-returns-then-len-eq0-clause-few
change_children-returns-then-len-eq0-clause-few g t c =
    λ one little two k. record { rank_is = refl; small = little.0; size = omega (arith, little.1); made = omega arith }

pub change_children-returns-in_err-below-clause-few : goal.change_children-returns-in_err-below-clause-few
change_children-returns-in_err-below-clause-few g t c =
    λ most little two k.
    let left = c.in_ok-left.field-0.left in
    let right = c.in_ok-left.field-0.right in
    let theirs = c.edits_at.result.0.now in
    let mine = c.edits_at.result.1.now in
    let both = sum_both edit_pages (map edit_in theirs) (map edit_in mine) in
    let long : length mine ≤ 1 =
    omega (
      arith,
      most,
      ap length c.edits_at.ensures.parts,
      long_append (map edit_in theirs) (map edit_in mine),
      long_map edit_in mine,
      long_map edit_in c.args.edits.now,
    ) in
    let f = c.in_err-below.ensures.few long
    (loose_slot_little (map slot_in c.args.node.loose_slots.items) (map slot_in left.loose_slots.items) (map slot_in right.loose_slots.items)
    (slot_in c.in_ok-left.field-0.loose_slot) _ c.in_ok-left.ensures.parts little.0 c.as_slice-key.ensures.value) k in
    let m : MakesUpTo (g.P.Pages.store c.args.pages.now) (g.P.Pages.store c.change_below.new.pages)
    (4 * c.args.node.rank + sum_of edit_pages (map edit_in c.args.edits.now)) =
    omega (arith, f, both, ap (sum_of edit_pages) c.edits_at.ensures.parts, c.requires.rank, c.in_ok-left.ensures.left_rank) in
    stopped _ _ _ c.from_residual-in_err-below.result c.from_residual-in_err-below.ensures.1 m

pub change_children-returns-in_err-front-clause-few : goal.change_children-returns-in_err-front-clause-few
change_children-returns-in_err-front-clause-few g t c =
    λ most little two k.
    let s = g.P.Pages.store c.args.pages.now in
    let mid = g.P.Pages.store c.change_below.new.pages in
    let new = g.P.Pages.store c.change_children.new.pages in
    let left = c.in_ok-left.field-0.left in
    let right = c.in_ok-left.field-0.right in
    let theirs = c.edits_at.result.0.now in
    let mine = c.edits_at.result.1.now in
    let both = sum_both edit_pages (map edit_in theirs) (map edit_in mine) in
    let long : length mine ≤ 1 =
    omega (
      arith,
      most,
      ap length c.edits_at.ensures.parts,
      long_append (map edit_in theirs) (map edit_in mine),
      long_map edit_in mine,
      long_map edit_in c.args.edits.now,
    ) in
    let b = few_made s mid _ _ _ (model_in c.in_ok-below.below) (c.in_ok-below.ensures.few long
    (loose_slot_little (map slot_in c.args.node.loose_slots.items) (map slot_in left.loose_slots.items) (map slot_in right.loose_slots.items)
    (slot_in c.in_ok-left.field-0.loose_slot) _ c.in_ok-left.ensures.parts little.0 c.as_slice-key.ensures.value)
    (c.in_err-front.ensures.grows.frame k).word) in
    let one : length c.args.edits.now ≡ 1 = omega arith in
    let m : MakesUpTo s new (4 * c.args.node.rank + sum_of edit_pages (map edit_in c.args.edits.now)) = elim (zero_or (length theirs)) [
      | inl none ↦ (let whole = (c.in_err-front.ensures.none none).0 in absurd cc)
      | inr some ↦ elim (zero_or c.child_place-at.result) [
        | inl first ↦ (let same = c.in_err-front.ensures.empty (omega (arith, c.in_ok-left.ensures.left, first)) in
            omega (
              arith,
              b,
              both,
              ap (sum_of edit_pages) c.edits_at.ensures.parts,
              c.requires.rank,
              c.in_ok-left.ensures.left_rank,
              ap (λ (x : Store). length x.made) same,
            ))
        | inr later ↦ (let mine_alone = all_mine c.args.edits.now theirs mine c.deref.result.now c.args.node.loose_slots.items
            (map slot_in left.loose_slots.items) (map slot_in right.loose_slots.items) (slot_in c.in_ok-left.field-0.loose_slot) c.as_slice-key.result.now
            c.child_place-at.result _ one
            c.edits_at.ensures.parts c.edits_at.ensures.before c.deref.ensures.value c.in_ok-left.ensures.parts c.as_slice-key.ensures.value
            (omega (arith, c.in_ok-left.ensures.left, long_map slot_in left.loose_slots.items))
            c.child_place-at.ensures.here (λ lt. later) in absurd (omega (arith, mine_alone.none, some)))
      ]
    ] in
    stopped _ _ _ c.from_residual-in_err-front.result c.from_residual-in_err-front.ensures.1 m

pub change_below-returns-in_err-shared-clause-grows : goal.change_below-returns-in_err-shared-clause-grows
change_below-returns-in_err-shared-clause-grows g t c =
    grows_same (g.P.Pages.store c.args.pages.now) (g.P.Pages.store c.read.new.self) c.in_err-shared.ensures.stays c.in_err-shared.ensures.same

pub change_below-returns-in_err-retire-clause-grows : goal.change_below-returns-in_err-retire-clause-grows
change_below-returns-in_err-retire-clause-grows g t c =
    grows_trans _ _ _ (grows_same (g.P.Pages.store c.args.pages.now) (g.P.Pages.store c.read.new.self) c.in_ok-shared.ensures.stays c.in_ok-shared.ensures.same)
    (grows_failed (g.P.Pages.store c.read.new.self) (g.P.Pages.store c.retire.new.self) _ c.in_err-retire.ensures.stays c.in_err-retire.ensures.retires)

pub change_below-returns-in_err-retire-clause-turns : goal.change_below-returns-in_err-retire-clause-turns
change_below-returns-in_err-retire-clause-turns g t c =
    λ base d high body rank at shown whole sound little rise between word.
    let f = c.in_err-retire.ensures.retires word in
    answer_failed (g.P.Pages.store c.args.pages.now) (g.P.Pages.store c.retire.new.self) _ _ _ c.from_residual-in_err-retire.ensures.1
    (cause_later (g.P.Pages.store c.args.pages.now) (g.P.Pages.store c.read.new.self) (g.P.Pages.store c.retire.new.self) _
    (frame_same _ _ (c.in_ok-shared.ensures.same f.same.word)) f.cause)

pub change_below-returns-in_err-loose_slots-clause-grows : goal.change_below-returns-in_err-loose_slots-clause-grows
change_below-returns-in_err-loose_slots-clause-grows g t c =
    grows_trans _ _ _ (grows_same (g.P.Pages.store c.args.pages.now) (g.P.Pages.store c.read.new.self) c.in_ok-shared.ensures.stays c.in_ok-shared.ensures.same)
    (grows_retired (g.P.Pages.store c.read.new.self) (g.P.Pages.store c.retire.new.self) _ c.in_ok-retire.ensures.stays c.in_ok-retire.ensures.retires)
