use Rattle.std.proofs.Common.{ap, sym, ◌∙◌}
use Rattle.std.specs.Prelude.{not}
use Rattle.candidate_ids.proofs.MembersLemmas.{other_by}
use Rattle.candidate_ids.proofs.members.has_other_next.Goals as goal

pub returns-in-len1-up : goal.returns-in-len1-up
returns-in-len1-up c =
    ap not c.has_path.ensures ∙ sym (other_by c.args.path.now c.args.fields.now c.first-item.result c.in-len1-up.len_at_least c.first-item.is)
