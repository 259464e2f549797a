use Rattle.std.proofs.Common.{◌∙◌, ◌∷◌, sym, ap, arith, length, refl}
use Rattle.page.specs.Format.{PageModel}
use Rattle.btree.specs.Few.{MakesUpTo}
use Rattle.btree.proofs.FewLemmas.{stopped}
use Rattle.tree_model.proofs.StoreLemmas.{answer_failed, frame_same, frame_trans, grows_failed, grows_retired, grows_same, grows_trans}
use Rattle.btree.proofs.HeldLemmas.{opened}
use Rattle.btree.proofs.taking_apart.open_page.Goals as goal

pub returns-in_err-shared-clause-opens : goal.returns-in_err-shared-clause-opens
returns-in_err-shared-clause-opens g c =
    λ base d high body rank at shown whole sound little k.
    answer_failed (g.P.Pages.store c.args.pages.now) (g.P.Pages.store c.read.new.self) _ _ _ c.from_residual.ensures.1 (c.in_err-shared.ensures.cause k _ at)

pub returns-clause-opens : goal.returns-clause-opens
returns-clause-opens g c =
    λ base d high body rank at shown whole sound little k.
    let gone = c.in_ok-retire.ensures.retires k in
    let same = c.in_ok-shared.ensures.same gone.frame.word in
    opened (g.P.Pages.store c.args.pages.now)
    (g.P.Pages.store c.retire.new.self) base d c.args.rank c.args.page c.args.low.now high body _ rank shown whole sound little
    (c.in_ok-loose_slots.ensures.holds d body (ap (λ (s : PageModel). s.content) c.image.ensures ∙ sym (c.in_ok-shared.ensures.value gone.frame.word)
    ∙ at.holds))
    (frame_trans _ (g.P.Pages.store c.read.new.self) _ (frame_same _ _ same) gone.frame) (gone.made ∙ same.made)
    (gone.retired ∙ ap (λ zs. c.args.page ∷ zs) same.retired)

pub returns-clause-few : goal.returns-clause-few
returns-clause-few g c =
    λ little k.
    let gone = c.in_ok-retire.ensures.retires k in
    let same = c.in_ok-shared.ensures.same gone.frame.word in
    let few = c.in_ok-loose_slots.ensures.few little in
    record { rank_is = refl; small = few.0; size = few.1; made = omega (arith, ap length (gone.made ∙ same.made)) }

pub returns-in_err-shared-clause-few : goal.returns-in_err-shared-clause-few
returns-in_err-shared-clause-few g c =
    λ little k.
    let same = c.in_err-shared.ensures.same k in
    let m : MakesUpTo (g.P.Pages.store c.args.pages.now) (g.P.Pages.store c.read.new.self) 0 = omega (arith, ap length same.made) in
    stopped _ _ _ c.from_residual.result c.from_residual.ensures.1 m

pub returns-in_err-retire-clause-few : goal.returns-in_err-retire-clause-few
returns-in_err-retire-clause-few g c =
    λ little k.
    let f = c.in_err-retire.ensures.retires k in
    let same = c.in_ok-shared.ensures.same f.same.word in
    let m : MakesUpTo (g.P.Pages.store c.args.pages.now) (g.P.Pages.store c.retire.new.self) 0 = omega (arith, ap length (f.same.made ∙ same.made)) in
    stopped _ _ _ c.from_residual-in_err-retire.result c.from_residual-in_err-retire.ensures.1 m

pub returns-in_err-loose_slots-clause-few : goal.returns-in_err-loose_slots-clause-few
returns-in_err-loose_slots-clause-few g c =
    λ little k.
    let gone = c.in_ok-retire.ensures.retires k in
    let same = c.in_ok-shared.ensures.same gone.frame.word in
    let m : MakesUpTo (g.P.Pages.store c.args.pages.now) (g.P.Pages.store c.retire.new.self) 0 = omega (arith, ap length (gone.made ∙ same.made)) in
    stopped _ _ _ c.from_residual-in_err-loose_slots.result c.from_residual-in_err-loose_slots.ensures.1 m

pub returns-in_err-shared-clause-grows : goal.returns-in_err-shared-clause-grows
returns-in_err-shared-clause-grows g c =
    grows_same (g.P.Pages.store c.args.pages.now) (g.P.Pages.store c.read.new.self) c.in_err-shared.ensures.stays c.in_err-shared.ensures.same

pub returns-in_err-retire-clause-grows : goal.returns-in_err-retire-clause-grows
returns-in_err-retire-clause-grows g c =
    grows_trans _ _ _ (grows_same (g.P.Pages.store c.args.pages.now) (g.P.Pages.store c.read.new.self) c.in_ok-shared.ensures.stays c.in_ok-shared.ensures.same)
    (grows_failed (g.P.Pages.store c.read.new.self) (g.P.Pages.store c.retire.new.self) _ c.in_err-retire.ensures.stays c.in_err-retire.ensures.retires)

pub returns-in_err-loose_slots-clause-grows : goal.returns-in_err-loose_slots-clause-grows
returns-in_err-loose_slots-clause-grows g c =
    grows_trans _ _ _ (grows_same (g.P.Pages.store c.args.pages.now) (g.P.Pages.store c.read.new.self) c.in_ok-shared.ensures.stays c.in_ok-shared.ensures.same)
    (grows_retired (g.P.Pages.store c.read.new.self) (g.P.Pages.store c.retire.new.self) _ c.in_ok-retire.ensures.stays c.in_ok-retire.ensures.retires)

pub returns-clause-grows : goal.returns-clause-grows
returns-clause-grows g c =
    grows_trans _ _ _ (grows_same (g.P.Pages.store c.args.pages.now) (g.P.Pages.store c.read.new.self) c.in_ok-shared.ensures.stays c.in_ok-shared.ensures.same)
    (grows_retired (g.P.Pages.store c.read.new.self) (g.P.Pages.store c.retire.new.self) _ c.in_ok-retire.ensures.stays c.in_ok-retire.ensures.retires)
