use Rattle.std.proofs.Common.{◌++◌, arith, refl}
use Rattle.btree.specs.Few.{MakesUpTo}
use Rattle.btree.specs.Turn.{model_in}
use Rattle.tree_model.proofs.ListLemmas.{times_append}
use Rattle.btree.proofs.FewLemmas.{few_concat, few_parts, stopped}
use Rattle.btree.proofs.HeldLemmas.{concat_turns, glue_held, held_later, joined_long, turns_failed}
use Rattle.btree.proofs.joining.raise_behind.Goals as goal

pub returns-in_err-above-clause-turns : goal.returns-in_err-above-clause-turns
returns-in_err-above-clause-turns g c =
    λ base low mid high first last front_pages pages_below h1 h2 ready over upto k.
    turns_failed (g.P.Pages.store c.args.pages.now) (g.P.Pages.store c.raise.new.pages) base low high _ _ c.from_residual.result _ c.from_residual.ensures.1
    (c.in_err-above.ensures.turns base mid high last pages_below h2 ready k)

pub returns-clause-long : goal.returns-clause-long
returns-clause-long g c = λ some. joined_long c.concat.result _ _ _ c.concat.ensures.long (let one = c.in_ok-above.ensures.some some in omega arith)

pub returns-clause-turns : goal.returns-clause-turns
returns-clause-turns g c =
    λ base low mid high first last front_pages pages_below h1 h2 ready over upto k.
    let t = c.in_ok-above.ensures.turns base mid high last pages_below h2 ready k in
    concat_turns (g.P.Pages.store c.args.pages.now) (g.P.Pages.store c.raise.new.pages) base low high (first ++ last) (front_pages ++ pages_below)
    (front_pages ++ t.after) (model_in c.args.front) (model_in c.in_ok-above.above) c.concat.result
    (glue_held (g.P.Pages.store c.raise.new.pages) base low mid high first last front_pages t.after _ _
    (held_later _ _ base low _ first front_pages _ (c.in_ok-above.ensures.grows.frame k) h1) t.held
    (omega (arith, c.requires.next, c.in_ok-above.ensures.rank)) over upto)
    (λ n. omega (arith, t.turned n, times_append n front_pages pages_below, times_append n front_pages t.after)) c.concat.ensures.rank c.concat.ensures.ok
    c.concat.ensures.err

pub returns-clause-few : goal.returns-clause-few
returns-clause-few g c =
    λ little small k.
    let f = c.in_ok-above.ensures.few k little.0 in
    let p = few_parts _ _ _ _ f little.1 in
    few_concat (g.P.Pages.store c.args.pages.now) (g.P.Pages.store c.raise.new.pages) c.args.front.rank _ 4 (model_in c.args.front)
    (model_in c.in_ok-above.above) c.concat.result refl c.concat.ensures.rank c.concat.ensures.ok small f.small (omega (arith, p.1))
    (omega (arith, f.made, p.0))

pub returns-in_err-above-clause-few : goal.returns-in_err-above-clause-few
returns-in_err-above-clause-few g c =
    λ little small k.
    let m : MakesUpTo (g.P.Pages.store c.args.pages.now) (g.P.Pages.store c.raise.new.pages) 4 =
    omega (arith, c.in_err-above.ensures.few k little.0, little.1) in
    stopped _ _ _ c.from_residual.result c.from_residual.ensures.1 m
