use Rattle.std.proofs.Common.{ap, ◌∙◌}
use Rattle.entries.specs.EditList.{edits_in}
use Rattle.entries.proofs.EditPlaceLemmas.{inserted}
use Rattle.entries.proofs.edits.put_among.Goals as goal

pub returns-clause-ok : goal.returns-clause-ok
returns-clause-ok c = ap edits_in c.in_ok-_before.ensures.entries ∙ inserted c.args.key c.args.value c.args.noted.now.entries
