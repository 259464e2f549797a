use Rattle.std.proofs.Common.{Vec, Global, ℕ}
use Rattle.tree_model.proofs.GetLemmas.{none_found, some_found, some_failed}
use Rattle.btree.proofs.lookup.value_in_leaf.Goals as goal

pub returns-in_default-clause-looks : goal.returns-in_default-clause-looks
returns-in_default-clause-looks g c =
    λ pairs e rise shown k. none_found (λ (v : Vec ℕ Global). v.items) (g.P.Pages.store c.args.pages.now)
    (g.P.Pages.store c.args.pages.now) c.args.key.now pairs (c.in_default.ensures pairs e rise)

pub returns-in_err-value-clause-looks : goal.returns-in_err-value-clause-looks
returns-in_err-value-clause-looks g c =
    λ pairs e rise shown k. some_failed (λ v. v.items) (g.P.Pages.store c.args.pages.now)
    (g.P.Pages.store c.value_bytes.new.pages) c.args.key.now pairs c.in-Some.stored _ _ shown
    (c.in-Some.ensures pairs e rise) c.from_residual.ensures.1 (λ x is has. c.in_err-value.ensures.reads x is has k)

pub returns-clause-looks : goal.returns-clause-looks
returns-clause-looks g c =
    λ pairs e rise shown k. some_found (λ v. v.items) (g.P.Pages.store c.args.pages.now)
    (g.P.Pages.store c.value_bytes.new.pages) c.args.key.now pairs c.in-Some.stored c.in_ok-value.value shown
    (c.in-Some.ensures pairs e rise) (λ x is has. c.in_ok-value.ensures.reads x is has k)
