use Rattle.std.proofs.Common.{ap, ◌∙◌}
use Rattle.update.specs.Unsets.{last_name}
use Rattle.update.proofs.InsideLemmas.{last_of_rest}
use Rattle.update.proofs.unsets.last_part.Goals as goal

pub returns-in-len1-up : goal.returns-in-len1-up
returns-in-len1-up c =
    last_of_rest c.split_first.result.1.now c.last-item.result c.split_first.result.0.now c.in-len1-up.len_at_least c.last-item.is
    ∙ ap last_name c.split_first.ensures
