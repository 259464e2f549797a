use Rattle.std.proofs.Common.{◌∙◌, ap, not}
use Rattle.bson.specs.Tree.{Pairs}
use Rattle.bson_bytes.specs.declared.fault.BsonFault.{BsonFault}
use Rattle.std.specs.Prelude.{Result}
use Rattle.outcome.specs.Outcome.{◌>>=◌}
use Rattle.op_msg.specs.Frame.{sections_in, sequences_of}
use Rattle.op_msg.specs.Request.{with_sequences}
use Rattle.op_msg.proofs.Joining.{nothing_joined, none_split}
use Rattle.op_msg.proofs.request.read_joined.Goals as goal

pub returns-then-is_none : goal.returns-then-is_none
returns-then-is_none c =
    ap (λ (r : Result Pairs BsonFault). r >>= λ ps. with_sequences ps (sequences_of (sections_in c.args.message.now.sections.now).0)) c.in_ok-document.ensures
    ∙ nothing_joined c.in_ok-document.document (sections_in c.args.message.now.sections.now).0
    (none_split c.split_name.result _ _ (c.is_none.ensures ∙ ap not c.if-is_none.true) c.split_name.ensures)
