use Rattle.std.proofs.Common.{◌≡◌, true, false, sym, ap, ◌∙◌}
use Rattle.std.specs.Prelude.{is_some, not}
use Rattle.bson.specs.Tree.{Pairs}
use Rattle.update_model.specs.Stored.{limits_fault}
use Rattle.walks.proofs.WithinLemmas.{storable_within}
use Rattle.walks.specs.Within.{is_within}
use Rattle.walks.proofs.within.built_within.Goals as goal

pub returns-then-is_some-clause-refuses : goal.returns-then-is_some-clause-refuses
returns-then-is_some-clause-refuses c = λ h.
    let built : Pairs = c.in_ok-built.built in
    let over : is_some (limits_fault 65535 built) ≡ true = ap is_some (sym c.limits_fault.ensures) ∙ sym c.if-is_some.ensures in
    let both : true ≡ false = sym (storable_within c.args.document.now h) ∙ ap is_within (sym c.in_ok-built.ensures) ∙ ap not over in
    absurd cc
