use Rattle.std.proofs.Common.{subst}
use Rattle.bson.specs.View.{tree}
use Rattle.bson.specs.Edits.{SetFault}
use Rattle.bson.specs.declared.fault.BuildFault.{BuildFault}
use Rattle.driver_replies.proofs.FieldLemmas.{no_zero}
use Rattle.driver_replies.proofs.fields.set.Goals as goal

pub unreachable-requires : goal.unreachable-requires
unreachable-requires c =
    let fault = subst
    (λ (e : BuildFault). SetFault c.args.document.now c.args.name.now (tree c.args.value) e) c.in-Err-Name.field-0-is c.in-Err-Name.ensures.fault in
    fault.1 (record { is_text = c.utf8.name; no_zero = no_zero c.args.name.now c.requires.name })
