use Rattle.std.proofs.Common.{sym, ap, subst, ◌∙◌}
use Rattle.bson.specs.Lawful.{IsDocument}
use Rattle.bson.specs.View.{pairs_of}
use Rattle.op_msg.proofs.Joining.{pairs_joined}
use Rattle.op_msg.proofs.request.join_fields.Goals as goal

pub from_pairs-requires : goal.from_pairs-requires
from_pairs-requires c = subst IsDocument (sym (ap pairs_of c.in-Ok.ensures.items ∙ pairs_joined c.args.fields.items c.args.added.items)) c.requires

pub returns-in-Ok-clause-joined : goal.returns-in-Ok-clause-joined
returns-in-Ok-clause-joined c = c.from_pairs.ensures ∙ ap pairs_of c.in-Ok.ensures.items ∙ pairs_joined c.args.fields.items c.args.added.items
