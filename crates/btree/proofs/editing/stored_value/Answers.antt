use Rattle.std.proofs.Common.{refl, arith, subst, sym}
use Rattle.tree_model.specs.Calls.{IsStored}
use Rattle.btree.proofs.EditLemmas.{chained}
use Rattle.btree.proofs.editing.stored_value.Goals as goal

pub returns-clause-stores : goal.returns-clause-stores
returns-clause-stores g c =
    λ k. subst (IsStored (g.P.Pages.store c.args.pages.now) (g.P.Pages.store c.write_chain.new.pages) c.args.value.now) (sym c.chained.ensures.place)
    (chained (g.P.Pages.store c.args.pages.now) (g.P.Pages.store c.write_chain.new.pages) c.args.value.now _ _ (omega arith) refl
    (c.in_ok-first.ensures.writes k))

pub returns-in_err-first-clause-few : goal.returns-in_err-first-clause-few
returns-in_err-first-clause-few g c = λ k. c.in_err-first.ensures.few (omega arith) k

pub returns-clause-few : goal.returns-clause-few
returns-clause-few g c = λ k. c.in_ok-first.ensures.few (omega arith) k
