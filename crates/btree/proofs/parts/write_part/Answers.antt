use Rattle.std.proofs.Common.{◌∙◌, ap, arith, length}
use Rattle.btree.specs.Few.{MakesUpTo}
use Rattle.btree.proofs.FewLemmas.{stopped}
use Rattle.btree.proofs.FewParts.{one_page}
use Rattle.tree_model.proofs.StoreLemmas.{grows_failed, grows_itself, grows_made}
use Rattle.btree.proofs.parts.write_part.Goals as goal

pub returns-clause-one : goal.returns-clause-one
returns-clause-one g c =
    λ k. one_page (g.P.Pages.store c.args.pages.now)
    (g.P.Pages.store c.allocate.new.self) c.args.loose_slots.now c.in-Some.first.now c.child_loose_slot.result c.in_ok-key.key.items c.in_ok-page.page _
    (c.in_ok-page.ensures.makes k) c.in-Some.ensures.item.3.0 c.in-Some.ensures.item.1
    (c.in_ok-key.ensures.items ∙ c.deref.ensures.value) c.child_loose_slot.ensures.slot c.child_loose_slot.ensures.range

pub returns-in_err-page-clause-one : goal.returns-in_err-page-clause-one
returns-in_err-page-clause-one g c =
    λ k.
    let f = c.in_err-page.ensures.makes k in
    let m : MakesUpTo (g.P.Pages.store c.args.pages.now) (g.P.Pages.store c.allocate.new.self) 0 = omega (arith, ap length f.same.made) in
    stopped _ _ _ c.from_residual-in_err-page.result c.from_residual-in_err-page.ensures.1 m

pub returns-in_err-content-clause-grows : goal.returns-in_err-content-clause-grows
returns-in_err-content-clause-grows g c = grows_itself (g.P.Pages.store c.args.pages.now)

pub returns-in_err-key-clause-grows : goal.returns-in_err-key-clause-grows
returns-in_err-key-clause-grows g c = grows_itself (g.P.Pages.store c.args.pages.now)

pub returns-in_err-page-clause-grows : goal.returns-in_err-page-clause-grows
returns-in_err-page-clause-grows g c =
    grows_failed (g.P.Pages.store c.args.pages.now) (g.P.Pages.store c.allocate.new.self) _ c.in_err-page.ensures.stays c.in_err-page.ensures.makes

pub returns-clause-grows : goal.returns-clause-grows
returns-clause-grows g c =
    grows_made (g.P.Pages.store c.args.pages.now) (g.P.Pages.store c.allocate.new.self) _ _ c.in_ok-page.ensures.stays c.in_ok-page.ensures.makes
