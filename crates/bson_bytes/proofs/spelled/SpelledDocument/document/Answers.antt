use Rattle.std.proofs.Common.{◌≡◌, sym, subst, ◌∙◌}
use Rattle.bson.specs.Spelling.{Spells}
use Rattle.bson_bytes.specs.Raw.{document_spelled}
use Rattle.bson_bytes.proofs.RawLaws.{document_whole}
use Rattle.bson_bytes.proofs.spelled.SpelledDocument.document.Goals as goal

-- what spells a document is read, unless memory runs out
pub unreachable-requires : goal.unreachable-requires
unreachable-requires c =
    let bytes = c.self.inside.bytes.items in
    let whole = document_whole bytes (document_spelled bytes) c.self.invariant in
    let bad = c.in-Err.ensures.gives c.in_default.not-Memory in
    let value = c.deref.ensures.value in
    absurd cc
