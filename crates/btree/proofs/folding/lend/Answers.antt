use Rattle.std.proofs.Common.{◌∙◌, ◌++◌, ◌∷◌, [], ap, subst, sym}
use Rattle.page.specs.Content.{Item}
use Rattle.tree_model.specs.Calls.{IsAnswer}
use Rattle.btree.specs.Fold.{entry_at}
use Rattle.tree_model.specs.View.{place_in}
use Rattle.btree.proofs.ChainLemmas.{spilled_is}
use Rattle.btree.proofs.folding.lend.Goals as goal

pub returns-in-Chained-clause-folds : goal.returns-in-Chained-clause-folds
returns-in-Chained-clause-folds g c =
    λ start all x e has made k.
    let h = spilled_is (g.P.Pages.store c.args.pages.now) c.in-Chained.len c.in-Chained.first x
    (sym (ap place_in c.in-Chained.is) ∙ ap (λ (i : Item). i.place) e) has in
    subst (λ b. IsAnswer (g.P.Pages.store c.args.pages.now) (g.P.Pages.store c.lend_chained.new.pages)
    (λ done. g.F.Fold.makes start (all ++ b ∷ []) c.lend_chained.new.fold) c.lend_chained.result)
    (ap (λ (i : Item). entry_at i.key x.value) e) (c.lend_chained.ensures.folds start all x.links x.value h.has h.next h.long made k)
