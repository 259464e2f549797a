use Rattle.bson_bytes.proofs.MarkLaws.{mixed_more}
use Rattle.bson_bytes.proofs.PlainNames.{plain_more, stops_first, stops_nowhere}
use Rattle.bson_bytes.proofs.frames.plain_front.Goals as goal

pub bytes-preserved : goal.bytes-preserved
bytes-preserved c = record {
  plain = plain_more c.args.bytes.now c.bytes.at c.bytes.invariant.plain c.if-byte-eq0.false c.if-byte-ge128.false;
  mixed = rw c.from.ensures (mixed_more c.args.bytes.now c.bytes.at c.bytes.mixed c.bytes-test.true c.bytes.invariant.mixed);
}

pub returns-then-byte-eq0 : goal.returns-then-byte-eq0
returns-then-byte-eq0 c =
    (stops_first c.args.bytes.now c.bytes.at c.bytes-test.true c.bytes.invariant.plain c.then-byte-eq0.either, c.bytes.invariant.mixed)

pub returns : goal.returns
returns c = stops_nowhere c.args.bytes.now c.bytes.at c.bytes-test.false c.bytes.auto.at-end c.bytes.invariant.plain
