use Rattle.std.proofs.Common.{◌≡◌, ◌++◌, map, take}
use Rattle.server.specs.Dump.{dump_line, lines_in}
use Rattle.server.proofs.dump.put_lines.Given as goal

abbrev pub invariant-documents : goal.invariant-documents
invariant-documents l = lines_in l.lines ≡ lines_in l.initial.lines ++ map dump_line (take l.document-index l.documents)
