use Rattle.std.proofs.Common.{◌≤◌, length, sym, subst}
use Rattle.bson.specs.Tree.{Pairs}
use Rattle.bson.specs.Spelling.{frame_of, pairs_bytes}
use Rattle.entries.proofs.CatalogueEntries.{value_size}
use Rattle.entries.proofs.CatalogueValues.{short_bytes}
use Rattle.entries.proofs.indexed_entries.indexed_bytes.Goals as goal

pub document_bytes-requires : goal.document_bytes-requires
document_bytes-requires c =
    subst (λ (d : Pairs). length (frame_of (pairs_bytes d)) ≤ 65535) (sym c.in_ok-document.ensures.document)
    (value_size c.args.number c.args.indexes.now c.requires.few c.in_ok-document.ensures.lawful)

pub returns-clause-short : goal.returns-clause-short
returns-clause-short c =
    short_bytes c.document_bytes.result c.in_ok-document.document
    (subst (λ (d : Pairs). length (frame_of (pairs_bytes d)) ≤ 65535) (sym c.in_ok-document.ensures.document)
    (value_size c.args.number c.args.indexes.now c.requires.few c.in_ok-document.ensures.lawful))
    c.document_bytes.ensures
