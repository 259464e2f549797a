use Rattle.std.proofs.Common.{sym, ap, ◌∙◌}
use Rattle.bson_bytes.specs.Raw.{document_or_none}
use Rattle.bson_bytes.proofs.RawLaws.{document_spelled-is, document_whole}
use Rattle.walks.proofs.within.document_of.Goals as goal

pub returns-in-Ok : goal.returns-in-Ok
returns-in-Ok c = sym (ap document_or_none c.in-Ok.ensures.gives) ∙ document_spelled-is c.bytes.result.now c.args.document.now c.bytes.ensures

-- what spells a document is read, unless memory runs out
pub unreachable-requires : goal.unreachable-requires
unreachable-requires c =
    let whole = document_whole c.bytes.result.now c.args.document.now c.bytes.ensures in
    let bad = c.in-Err.ensures.gives c.in_default.not-Memory in
    absurd cc
