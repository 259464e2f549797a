use Rattle.std.proofs.Common.{◌≡◌, ◌++◌, length, drop, map}
use Rattle.sort.specs.SortKeys.{numbered, with_keys, ranked_of}
use Rattle.sort.proofs.sort.Sort.rank_all.Given as goal

abbrev pub invariant-documents : goal.invariant-documents
invariant-documents l =
    map ranked_of l.all.items
    ++ map (with_keys l.self) (numbered (length l.all.items) (drop l.document-index l.documents)) ≡ map (with_keys l.self) (numbered 0 l.documents)
