use Rattle.std.proofs.Common.{◌≡◌, map, take}
use Rattle.index.specs.View.{texts_of}
use Rattle.walks.specs.Listed.{id_text_of}
use Rattle.queries.proofs.sorted_ids.first_ids.Given as goal

abbrev pub invariant-first : goal.invariant-first
invariant-first l = texts_of l.texts.items ≡ map id_text_of (take l.document-index l.document-items)
