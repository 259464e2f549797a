use Rattle.std.proofs.Common.{◌≡◌, map, take}
use Rattle.index.specs.View.{texts_of}
use Rattle.walks.specs.Listed.{id_text_of}
use Rattle.walks.proofs.listed.listed_texts.Given as goal

abbrev pub invariant-documents : goal.invariant-documents
invariant-documents l = texts_of l.texts.items ≡ map id_text_of (take l.document-index l.documents)
