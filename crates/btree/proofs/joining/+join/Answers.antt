use Rattle.std.proofs.Common.{◌≡◌, ◌<◌, ◌++◌, arith, length, refl, rules}
use Rattle.btree.specs.Few.{AreNotJoined}
use Rattle.btree.specs.LooseView.{slot_in}
use Rattle.btree.specs.Turn.{model_in}
use Rattle.tree_model.proofs.ListLemmas.{long_map}
use Rattle.tree_model.proofs.StoreLemmas.{cause_later, frame_trans, grows_trans}
use Rattle.btree.proofs.FewLemmas.{few_before, few_behind, few_concat, few_left_gone, few_level, few_on, few_right_gone, not_joined_none, stopped}
use Rattle.btree.proofs.HeldLemmas.{concat_turns, glue_held, held_later, turns_failed}
use Rattle.btree.proofs.JoinLemmas.{joined_alone, joined_before, joined_behind, joined_gone, joined_level, left_gone, none_there, ready_joined}
use Rattle.btree.proofs.JoinLemmas.{right_gone, some_there, turned_left, turned_right, up_to_trans}
use Rattle.btree.proofs.joining.+join.Goals as goal

pub returns-then-is_empty-clause-turns : goal.returns-then-is_empty-clause-turns
returns-then-is_empty-clause-turns g t c =
    λ base low mid high first last lp rp h1 h2 over upto k.
    let none = none_there c.args.left.loose_slots.len (length c.args.left.loose_slots.items) _ c.is_empty.ensures c.if-is_empty.true
    c.args.left.loose_slots.ok.0 in
    left_gone (g.P.Pages.store c.args.pages.now) base low mid high first last lp rp (model_in c.args.left) (model_in c.args.right) h1 h2 over upto
    (omega (arith, long_map slot_in c.args.left.loose_slots.items))

pub returns-then-is_empty-2-clause-turns : goal.returns-then-is_empty-2-clause-turns
returns-then-is_empty-2-clause-turns g t c =
    λ base low mid high first last lp rp h1 h2 over upto k.
    let none = none_there c.args.right.loose_slots.len (length c.args.right.loose_slots.items) _ c.is_empty-2.ensures c.if-is_empty-2.true
    c.args.right.loose_slots.ok.0 in
    right_gone (g.P.Pages.store c.args.pages.now) base low mid high first last lp rp (model_in c.args.left) (model_in c.args.right) h1 h2 over upto
    (omega (arith, long_map slot_in c.args.right.loose_slots.items))

pub returns-then-left-right-clause-turns : goal.returns-then-left-right-clause-turns
returns-then-left-right-clause-turns g t c =
    λ base low mid high first last lp rp h1 h2 over upto k.
    concat_turns (g.P.Pages.store c.args.pages.now) (g.P.Pages.store c.args.pages.now) base low high (first ++ last) (lp ++ rp) (lp ++ rp)
    (model_in c.args.left) (model_in c.args.right) c.concat.result
    (glue_held (g.P.Pages.store c.args.pages.now) base low mid high first last lp rp _ _ h1 h2 c.if-left-right.true over upto)
    (λ n. omega arith) c.concat.ensures.rank c.concat.ensures.ok c.concat.ensures.err

pub returns-in_err-front-clause-turns : goal.returns-in_err-front-clause-turns
returns-in_err-front-clause-turns g t c =
    λ base low mid high first last lp rp h1 h2 over upto k.
    let some = some_there c.args.left.loose_slots.len (length c.args.left.loose_slots.items) _ c.is_empty.ensures c.if-is_empty.false
    c.args.left.loose_slots.ok.0 in
    let more = some_there c.args.right.loose_slots.len (length c.args.right.loose_slots.items) _ c.is_empty-2.ensures c.if-is_empty-2.false
    c.args.right.loose_slots.ok.0 in
    turns_failed (g.P.Pages.store c.args.pages.now) (g.P.Pages.store c.take_last.new.pages) base low high _ _ c.from_residual.result _ c.from_residual.ensures.1
    (c.in_err-front.ensures.parts base low _ first lp h1 (omega (arith, h2.rank_is (omega (arith, long_map slot_in c.args.right.loose_slots.items)))) some k)

pub returns-in_err-below-clause-turns : goal.returns-in_err-below-clause-turns
returns-in_err-below-clause-turns g t c =
    λ base low mid high first last lp rp h1 h2 over upto k.
    let v = (c.in_err-below.ensures.grows.frame k).word in
    let g1 = c.in_ok-front.ensures.grows.frame v in
    let some = some_there c.args.left.loose_slots.len (length c.args.left.loose_slots.items) _ c.is_empty.ensures c.if-is_empty.false
    c.args.left.loose_slots.ok.0 in
    let more = some_there c.args.right.loose_slots.len (length c.args.right.loose_slots.items) _ c.is_empty-2.ensures c.if-is_empty-2.false
    c.args.right.loose_slots.ok.0 in
    let p = c.in_ok-front.ensures.parts base low _ first lp h1 (omega (arith, h2.rank_is (omega (arith, long_map slot_in c.args.right.loose_slots.items))))
    some v in
    turns_failed (g.P.Pages.store c.args.pages.now)
    (g.P.Pages.store c.join.new.pages) base low high _ _ c.from_residual-in_err-below.result _ c.from_residual-in_err-below.ensures.1
    (cause_later (g.P.Pages.store c.args.pages.now) (g.P.Pages.store c.take_last.new.pages) (g.P.Pages.store c.join.new.pages) _ g1
    (c.in_err-below.ensures.turns base p.0.mid mid high p.0.back_entries last p.0.back_pages rp p.0.back_held
    (held_later _ _ base mid high last rp _ g1 h2) p.0.within upto k))

pub returns-then-left-right-2-clause-turns : goal.returns-then-left-right-2-clause-turns
returns-then-left-right-2-clause-turns g t c =
    λ base low mid high first last lp rp h1 h2 over upto k.
    let g3 = c.raise_behind.ensures.grows.frame k in
    let g2 = c.in_ok-below.ensures.grows.frame g3.word in
    let g1 = c.in_ok-front.ensures.grows.frame g2.word in
    let some = some_there c.args.left.loose_slots.len (length c.args.left.loose_slots.items) _ c.is_empty.ensures c.if-is_empty.false
    c.args.left.loose_slots.ok.0 in
    let more = some_there c.args.right.loose_slots.len (length c.args.right.loose_slots.items) _ c.is_empty-2.ensures c.if-is_empty-2.false
    c.args.right.loose_slots.ok.0 in
    let p = c.in_ok-front.ensures.parts base low _ first lp h1
    (omega (arith, h2.rank_is (omega (arith, long_map slot_in c.args.right.loose_slots.items)))) some g2.word in
    let u = c.in_ok-below.ensures.turns base p.0.mid mid high p.0.back_entries last p.0.back_pages rp p.0.back_held
    (held_later _ _ base mid high last rp _ g1 h2) p.0.within upto g3.word in
    let j = c.in_ok-below.ensures.joined.left_higher (omega (arith, c.in_ok-front.ensures.back_rank))
    (omega (arith, c.in_ok-front.ensures.back, long_map slot_in c.in_ok-front.last.loose_slots.items)) in
    turned_left (g.P.Pages.store c.args.pages.now) (g.P.Pages.store c.take_last.new.pages) (g.P.Pages.store c.join.new.pages)
    (g.P.Pages.store c.raise_behind.new.pages) base low mid high first last lp rp _ _ _ c.raise_behind.result
    g1 g2 p.0 u
    (c.raise_behind.ensures.turns base low p.0.mid high p.0.front_entries (p.0.back_entries ++ last) p.0.front_pages u.after
    (held_later _ _ base low _ p.0.front_entries p.0.front_pages _ g2 p.0.front_held) u.held
    (ready_joined base _ _ p.1 j.0 j.1) p.0.over (up_to_trans p.0.mid mid high p.0.within upto) k)

pub returns-in_err-first-clause-turns : goal.returns-in_err-first-clause-turns
returns-in_err-first-clause-turns g t c =
    λ base low mid high first last lp rp h1 h2 over upto k.
    let some = some_there c.args.left.loose_slots.len (length c.args.left.loose_slots.items) _ c.is_empty.ensures c.if-is_empty.false
    c.args.left.loose_slots.ok.0 in
    let more = some_there c.args.right.loose_slots.len (length c.args.right.loose_slots.items) _ c.is_empty-2.ensures c.if-is_empty-2.false
    c.args.right.loose_slots.ok.0 in
    turns_failed (g.P.Pages.store c.args.pages.now)
    (g.P.Pages.store c.take_first.new.pages) base low high _ _ c.from_residual-in_err-first.result _ c.from_residual-in_err-first.ensures.1
    (c.in_err-first.ensures.parts base mid high last rp h2 (omega (arith, h1.rank_is (omega (arith, long_map slot_in c.args.left.loose_slots.items)))) more
    upto k)

pub returns-in_err-below-2-clause-turns : goal.returns-in_err-below-2-clause-turns
returns-in_err-below-2-clause-turns g t c =
    λ base low mid high first last lp rp h1 h2 over upto k.
    let v = (c.in_err-below-2.ensures.grows.frame k).word in
    let g1 = c.in_ok-first.ensures.grows.frame v in
    let some = some_there c.args.left.loose_slots.len (length c.args.left.loose_slots.items) _ c.is_empty.ensures c.if-is_empty.false
    c.args.left.loose_slots.ok.0 in
    let more = some_there c.args.right.loose_slots.len (length c.args.right.loose_slots.items) _ c.is_empty-2.ensures c.if-is_empty-2.false
    c.args.right.loose_slots.ok.0 in
    let p = c.in_ok-first.ensures.parts base mid high last rp h2
    (omega (arith, h1.rank_is (omega (arith, long_map slot_in c.args.left.loose_slots.items)))) more upto v in
    turns_failed (g.P.Pages.store c.args.pages.now)
    (g.P.Pages.store c.join-2.new.pages) base low high _ _ c.from_residual-in_err-below-2.result _ c.from_residual-in_err-below-2.ensures.1
    (cause_later (g.P.Pages.store c.args.pages.now) (g.P.Pages.store c.take_first.new.pages) (g.P.Pages.store c.join-2.new.pages) _ g1
    (c.in_err-below-2.ensures.turns base low mid p.0.between first p.0.front_entries lp p.0.front_pages
    (held_later _ _ base low _ first lp _ g1 h1) p.0.front_held over p.0.within k))

pub returns-clause-turns : goal.returns-clause-turns
returns-clause-turns g t c =
    λ base low mid high first last lp rp h1 h2 over upto k.
    let g3 = c.raise_before.ensures.grows.frame k in
    let g2 = c.in_ok-below-2.ensures.grows.frame g3.word in
    let g1 = c.in_ok-first.ensures.grows.frame g2.word in
    let some = some_there c.args.left.loose_slots.len (length c.args.left.loose_slots.items) _ c.is_empty.ensures c.if-is_empty.false
    c.args.left.loose_slots.ok.0 in
    let more = some_there c.args.right.loose_slots.len (length c.args.right.loose_slots.items) _ c.is_empty-2.ensures c.if-is_empty-2.false
    c.args.right.loose_slots.ok.0 in
    let p = c.in_ok-first.ensures.parts base mid high last rp h2
    (omega (arith, h1.rank_is (omega (arith, long_map slot_in c.args.left.loose_slots.items)))) more upto g2.word in
    let u = c.in_ok-below-2.ensures.turns base low mid p.0.between first p.0.front_entries lp p.0.front_pages
    (held_later _ _ base low _ first lp _ g1 h1) p.0.front_held over p.0.within g3.word in
    let j = c.in_ok-below-2.ensures.joined.right_higher (omega (arith, c.in_ok-first.ensures.front_rank))
    (omega (arith, c.in_ok-first.ensures.front, long_map slot_in c.in_ok-first.first.loose_slots.items)) in
    turned_right (g.P.Pages.store c.args.pages.now) (g.P.Pages.store c.take_first.new.pages) (g.P.Pages.store c.join-2.new.pages)
    (g.P.Pages.store c.raise_before.new.pages) base low mid high first last lp rp _ _ _ c.raise_before.result
    g1 g2 p.0 u
    (c.raise_before.ensures.turns base low p.0.between high (first ++ p.0.front_entries) p.0.back_entries u.after p.0.back_pages u.held
    (ready_joined base _ _ p.1 j.0 j.1)
    (λ s more reached sh grown h same. p.0.glue low over s more reached sh (frame_trans _ _ s g2 grown) h same) k)

pub returns-in_err-below-clause-grows : goal.returns-in_err-below-clause-grows
returns-in_err-below-clause-grows g t c = grows_trans _ _ _ c.in_ok-front.ensures.grows c.in_err-below.ensures.grows

pub returns-then-left-right-2-clause-grows : goal.returns-then-left-right-2-clause-grows
returns-then-left-right-2-clause-grows g t c =
    grows_trans _ _ _ (grows_trans _ _ _ c.in_ok-front.ensures.grows c.in_ok-below.ensures.grows) c.raise_behind.ensures.grows

pub returns-in_err-below-2-clause-grows : goal.returns-in_err-below-2-clause-grows
returns-in_err-below-2-clause-grows g t c = grows_trans _ _ _ c.in_ok-first.ensures.grows c.in_err-below-2.ensures.grows

pub returns-clause-grows : goal.returns-clause-grows
returns-clause-grows g t c = grows_trans _ _ _ (grows_trans _ _ _ c.in_ok-first.ensures.grows c.in_ok-below-2.ensures.grows) c.raise_before.ensures.grows

pub returns-then-is_empty-clause-few : goal.returns-then-is_empty-clause-few
returns-then-is_empty-clause-few g t c =
    λ k hl hr.
    let none = none_there c.args.left.loose_slots.len (length c.args.left.loose_slots.items) _ c.is_empty.ensures c.if-is_empty.true
    c.args.left.loose_slots.ok.0 in
    few_left_gone (g.P.Pages.store c.args.pages.now) 5440 (model_in c.args.left) (model_in c.args.right)
    (omega (arith, long_map slot_in c.args.left.loose_slots.items)) hr

pub returns-then-is_empty-2-clause-few : goal.returns-then-is_empty-2-clause-few
returns-then-is_empty-2-clause-few g t c =
    λ k hl hr.
    let none = none_there c.args.right.loose_slots.len (length c.args.right.loose_slots.items) _ c.is_empty-2.ensures c.if-is_empty-2.true
    c.args.right.loose_slots.ok.0 in
    few_right_gone (g.P.Pages.store c.args.pages.now) 5440 (model_in c.args.left) (model_in c.args.right)
    (omega (arith, long_map slot_in c.args.right.loose_slots.items)) hl

pub returns-then-left-right-clause-few : goal.returns-then-left-right-clause-few
returns-then-left-right-clause-few g t c =
    λ k hl hr.
    few_level (g.P.Pages.store c.args.pages.now) (g.P.Pages.store c.args.pages.now) 5440 (model_in c.args.left)
    (model_in c.args.right) c.concat.result c.if-left-right.true
    (few_concat (g.P.Pages.store c.args.pages.now) (g.P.Pages.store c.args.pages.now) c.args.left.rank _ 0 (model_in c.args.left)
    (model_in c.args.right) c.concat.result refl c.concat.ensures.rank c.concat.ensures.ok hl hr (omega arith) (omega arith))

pub returns-then-left-right-2-clause-few : goal.returns-then-left-right-2-clause-few
returns-then-left-right-2-clause-few g t c =
    λ k hl hr.
    let g3 = c.raise_behind.ensures.grows.frame k in
    let g2 = c.in_ok-below.ensures.grows.frame g3.word in
    let o = c.in_ok-front.ensures.few g2.word hl in
    few_behind (g.P.Pages.store c.args.pages.now) (g.P.Pages.store c.raise_behind.new.pages) 5440 (model_in c.args.left)
    (model_in c.args.right) c.raise_behind.result (omega arith)
    (λ e little.
    let b = (c.in_ok-below.ensures.few g3.word o.opened_small hr).level (omega (arith, e, c.in_ok-front.ensures.back_rank)) in
    few_on (g.P.Pages.store c.args.pages.now) (g.P.Pages.store c.join.new.pages)
    (g.P.Pages.store c.raise_behind.new.pages) c.in_ok-front.front.rank c.args.left.rank _ _ 4 4 0 c.raise_behind.result (omega (arith, o.made, b.made))
    (c.raise_behind.ensures.few (b.small, omega (arith, b.size, o.opened_size, little)) o.small k) c.in_ok-front.ensures.front_rank (omega (arith, o.size))
    (omega arith))

pub returns-clause-few : goal.returns-clause-few
returns-clause-few g t c =
    λ k hl hr.
    let g3 = c.raise_before.ensures.grows.frame k in
    let g2 = c.in_ok-below-2.ensures.grows.frame g3.word in
    let o = c.in_ok-first.ensures.few g2.word hr in
    few_before (g.P.Pages.store c.args.pages.now) (g.P.Pages.store c.raise_before.new.pages) 5440 (model_in c.args.left)
    (model_in c.args.right) c.raise_before.result (omega arith)
    (λ e little.
    let b = (c.in_ok-below-2.ensures.few g3.word hl o.opened_small).level (omega (arith, e, c.in_ok-first.ensures.front_rank)) in
    few_on (g.P.Pages.store c.args.pages.now) (g.P.Pages.store c.join-2.new.pages)
    (g.P.Pages.store c.raise_before.new.pages) c.in_ok-first.back.rank c.args.right.rank _ _ 4 4 0 c.raise_before.result (omega (arith, o.made, b.made))
    (c.raise_before.ensures.few (b.small, omega (arith, b.size, o.opened_size, little)) o.small k) c.in_ok-first.ensures.back_rank (omega (arith, o.size))
    (omega arith))

-- ---- what failed

pub returns-in_err-front-clause-few : goal.returns-in_err-front-clause-few
returns-in_err-front-clause-few g t c =
    λ k hl hr.
    stopped _ _ _ c.from_residual.result c.from_residual.ensures.1
    (not_joined_none (g.P.Pages.store c.args.pages.now) (g.P.Pages.store c.take_last.new.pages) 5440 (model_in c.args.left) (model_in c.args.right)
    (c.in_err-front.ensures.few k hl))

pub returns-in_err-first-clause-few : goal.returns-in_err-first-clause-few
returns-in_err-first-clause-few g t c =
    λ k hl hr.
    stopped _ _ _ c.from_residual-in_err-first.result c.from_residual-in_err-first.ensures.1
    (not_joined_none (g.P.Pages.store c.args.pages.now) (g.P.Pages.store c.take_first.new.pages) 5440 (model_in c.args.left) (model_in c.args.right)
    (c.in_err-first.ensures.few k hr))

pub returns-in_err-below-clause-few : goal.returns-in_err-below-clause-few
returns-in_err-below-clause-few g t c =
    λ k hl hr.
    let o = c.in_ok-front.ensures.few (c.in_err-below.ensures.grows.frame k).word hl in
    let b = c.in_err-below.ensures.few k o.opened_small hr in
    let n : AreNotJoined (g.P.Pages.store c.args.pages.now) (g.P.Pages.store c.join.new.pages) 5440 (model_in c.args.left) (model_in c.args.right) = record {
      level = λ e. absurd (omega arith);
      behind = λ e some le. let m = b.level (omega (arith, e, c.in_ok-front.ensures.back_rank)) in omega (arith, o.made, m);
      before = λ e some le. absurd (omega arith);
    } in
    stopped _ _ _ c.from_residual-in_err-below.result c.from_residual-in_err-below.ensures.1 n

pub returns-in_err-below-2-clause-few : goal.returns-in_err-below-2-clause-few
returns-in_err-below-2-clause-few g t c =
    λ k hl hr.
    let o = c.in_ok-first.ensures.few (c.in_err-below-2.ensures.grows.frame k).word hr in
    let b = c.in_err-below-2.ensures.few k hl o.opened_small in
    let n : AreNotJoined (g.P.Pages.store c.args.pages.now) (g.P.Pages.store c.join-2.new.pages) 5440 (model_in c.args.left) (model_in c.args.right) = record {
      level = λ e. absurd (omega arith);
      behind = λ e some le. absurd (omega arith);
      before = λ e some le. let m = b.level (omega (arith, e, c.in_ok-first.ensures.front_rank)) in omega (arith, o.made, m);
    } in
    stopped _ _ _ c.from_residual-in_err-below-2.result c.from_residual-in_err-below-2.ensures.1 n

pub returns-then-is_empty-clause-joined : goal.returns-then-is_empty-clause-joined
returns-then-is_empty-clause-joined g t c =
    joined_gone c.args.left c.args.right
    (none_there c.args.left.loose_slots.len (length c.args.left.loose_slots.items) _ c.is_empty.ensures c.if-is_empty.true c.args.left.loose_slots.ok.0)

pub returns-then-is_empty-2-clause-joined : goal.returns-then-is_empty-2-clause-joined
returns-then-is_empty-2-clause-joined g t c =
    joined_alone c.args.left c.args.right
    (none_there c.args.right.loose_slots.len (length c.args.right.loose_slots.items) _ c.is_empty-2.ensures c.if-is_empty-2.true c.args.right.loose_slots.ok.0)

pub returns-then-left-right-clause-joined : goal.returns-then-left-right-clause-joined
returns-then-left-right-clause-joined g t c =
    joined_level c.args.left c.args.right c.concat.result c.if-left-right.true c.concat.ensures.rank c.concat.ensures.long

pub returns-then-left-right-2-clause-joined : goal.returns-then-left-right-2-clause-joined
returns-then-left-right-2-clause-joined g t c =
    let last = c.in_ok-front.last in
    let j = c.in_ok-below.ensures.joined.left_higher (omega (arith, c.in_ok-front.ensures.back_rank))
    (omega (arith, c.in_ok-front.ensures.back, long_map slot_in last.loose_slots.items)) in
    joined_behind c.args.left c.args.right c.raise_behind.result c.in_ok-front.front (omega arith) c.in_ok-front.ensures.front_rank
    c.in_ok-front.ensures.front c.raise_behind.ensures.rank
    (c.raise_behind.ensures.long
    (omega (arith, j.1, c.in_ok-front.ensures.back, long_map slot_in last.loose_slots.items, long_map slot_in c.in_ok-below.below.loose_slots.items)))

pub returns-clause-joined : goal.returns-clause-joined
returns-clause-joined g t c =
    let first = c.in_ok-first.first in
    let j = c.in_ok-below-2.ensures.joined.right_higher (omega (arith, c.in_ok-first.ensures.front_rank))
    (omega (arith, c.in_ok-first.ensures.front, long_map slot_in first.loose_slots.items)) in
    joined_before c.args.left c.args.right c.raise_before.result c.in_ok-first.back (omega arith) c.in_ok-first.ensures.back_rank
    c.in_ok-first.ensures.back c.raise_before.ensures.rank
    (c.raise_before.ensures.long
    (omega (arith, j.1, c.in_ok-first.ensures.front, long_map slot_in first.loose_slots.items, long_map slot_in c.in_ok-below-2.below.loose_slots.items)))
