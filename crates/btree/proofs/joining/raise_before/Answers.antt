use Rattle.std.proofs.Common.{◌++◌, arith}
use Rattle.btree.specs.Few.{MakesUpTo}
use Rattle.btree.specs.Turn.{model_in}
use Rattle.tree_model.proofs.ListLemmas.{times_append}
use Rattle.btree.proofs.FewLemmas.{few_concat, few_parts, stopped}
use Rattle.btree.proofs.HeldLemmas.{concat_turns, joined_long, turns_failed}
use Rattle.btree.proofs.joining.raise_before.Goals as goal

pub returns-in_err-above-clause-turns : goal.returns-in_err-above-clause-turns
returns-in_err-above-clause-turns g c =
    λ base low between high first last pages_below back_pages h ready glue k.
    turns_failed (g.P.Pages.store c.args.pages.now) (g.P.Pages.store c.raise.new.pages) base low high _ _ c.from_residual.result _ c.from_residual.ensures.1
    (c.in_err-above.ensures.turns base low between first pages_below h ready k)

pub returns-clause-long : goal.returns-clause-long
returns-clause-long g c = λ some. joined_long c.concat.result _ _ _ c.concat.ensures.long (let one = c.in_ok-above.ensures.some some in omega arith)

pub returns-clause-turns : goal.returns-clause-turns
returns-clause-turns g c =
    λ base low between high first last pages_below back_pages h ready glue k.
    let t = c.in_ok-above.ensures.turns base low between first pages_below h ready k in
    concat_turns (g.P.Pages.store c.args.pages.now) (g.P.Pages.store c.raise.new.pages) base low high (first ++ last) (pages_below ++ back_pages)
    (t.after ++ back_pages) (model_in c.in_ok-above.above) (model_in c.args.back) c.concat.result
    (glue (g.P.Pages.store c.raise.new.pages) first t.after (model_in c.in_ok-above.above) (c.in_ok-above.ensures.grows.frame k) t.held
    (omega (arith, c.requires.next, c.in_ok-above.ensures.rank)))
    (λ n. omega (arith, t.turned n, times_append n pages_below back_pages, times_append n t.after back_pages)) c.concat.ensures.rank c.concat.ensures.ok
    c.concat.ensures.err

pub returns-clause-few : goal.returns-clause-few
returns-clause-few g c =
    λ little small k.
    let f = c.in_ok-above.ensures.few k little.0 in
    let p = few_parts _ _ _ _ f little.1 in
    few_concat (g.P.Pages.store c.args.pages.now) (g.P.Pages.store c.raise.new.pages) c.args.back.rank _ 4 (model_in c.in_ok-above.above)
    (model_in c.args.back) c.concat.result (omega (arith, c.requires.next, c.in_ok-above.ensures.rank)) c.concat.ensures.rank c.concat.ensures.ok f.small small
    (omega (arith, p.1)) (omega (arith, f.made, p.0))

pub returns-in_err-above-clause-few : goal.returns-in_err-above-clause-few
returns-in_err-above-clause-few g c =
    λ little small k.
    let m : MakesUpTo (g.P.Pages.store c.args.pages.now) (g.P.Pages.store c.raise.new.pages) 4 =
    omega (arith, c.in_err-above.ensures.few k little.0, little.1) in
    stopped _ _ _ c.from_residual.result c.from_residual.ensures.1 m
