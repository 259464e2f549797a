use Rattle.std.proofs.Common.{[], Some, sym, ap}
use Rattle.std.proofs.lemmas.List.{append-nil}
use Rattle.bson.specs.Tree.{Pairs}
use Rattle.entries.proofs.ReadingLemmas.{same_document}
use Rattle.entries.proofs.entry_reading.spelled_document.Goals as goal

pub returns-else-len-bytes-clause-reads : goal.returns-else-len-bytes-clause-reads
returns-else-len-bytes-clause-reads c ps spells =
    ap (λ (d : Pairs). Some d) (same_document (c.in-Ok.ensures.only c.args.bytes.now [] ps spells (sym (append-nil c.args.bytes.now))))

pub returns-in_default : goal.returns-in_default
returns-in_default c = record {
  reads = λ ps spells. let refused = c.in-Err.ensures.only c.args.bytes.now [] ps spells (sym (append-nil c.args.bytes.now)) c.in_default.not-Memory in
      absurd cc;
  only = tt;
}
