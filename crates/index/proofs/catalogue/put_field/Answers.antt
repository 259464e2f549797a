use Rattle.std.proofs.Common.{subst}
use Rattle.bson.specs.View.{tree}
use Rattle.bson.specs.Edits.{PushFault}
use Rattle.bson.specs.declared.fault.BuildFault.{BuildFault}
use Rattle.path.proofs.NameLemmas.{no_zero}
use Rattle.index.proofs.CatalogueLemmas.{lacks}
use Rattle.index.proofs.catalogue.put_field.Goals as goal

pub unreachable-requires : goal.unreachable-requires
unreachable-requires c =
    let fault = subst
    (λ (e : BuildFault). PushFault c.args.document.now c.args.name.now (tree c.args.value) e) c.in-Err-Name.field-0-is c.in-Err-Name.ensures.fault in
    fault (record { is_text = c.utf8.name; no_zero = no_zero c.args.name.now c.requires.name })

pub unreachable-requires-in-Err-Repeated : goal.unreachable-requires-in-Err-Repeated
unreachable-requires-in-Err-Repeated c =
    let fault = subst
    (λ (e : BuildFault). PushFault c.args.document.now c.args.name.now (tree c.args.value) e) c.in-Err-Repeated.field-0-is c.in-Err-Repeated.ensures.fault in
    fault.1 (lacks c.args.document.now c.args.name.now c.requires.new)
