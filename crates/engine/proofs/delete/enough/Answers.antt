use Rattle.std.proofs.Common.{sym, ap, ◌∙◌}
use Rattle.command_model.specs.Delete.{Deletion}
use Rattle.engine.proofs.TakenLemmas.{all_suffice, one_suffices}
use Rattle.engine.proofs.delete.enough.Goals as goal

pub returns-in-len1 : goal.returns-in-len1
returns-in-len1 c =
    one_suffices c.args.deletions.now c.only-item.result c.in-len1.len_at_least c.in-len1.len_below c.only-item.is
    (ap (λ (d : Deletion). d.only_first) (sym c.only.view_is) ∙ c.if-only.true)

pub returns-in_default-2 : goal.returns-in_default-2
returns-in_default-2 c = all_suffice c.args.deletions.now

pub returns-in_default-3 : goal.returns-in_default-3
returns-in_default-3 c = all_suffice c.args.deletions.now
