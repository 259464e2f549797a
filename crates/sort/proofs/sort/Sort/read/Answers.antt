use Rattle.std.proofs.Common.{◌<◌, length, arith}
use Rattle.sort.specs.Sort.{SortField}
use Rattle.sort.specs.SortReading.{read_sort}
use Rattle.std.proofs.Common.{List}
use Rattle.filter.proofs.ParsingLemmas.{refused}
use Rattle.sort.proofs.SortLemmas.{fields_more, fields_refused}
use Rattle.sort.proofs.sort.Sort.read.Goals as goal

pub returns-in_err-field : goal.returns-in_err-field
returns-in_err-field c =
    let room : length c.pairs.fields.items < 32 = omega (arith, c.len.ensures, c.pairs.invariant.within) in
    refused (λ (s : List SortField). s) _ c.from_residual.result c.in_err-field.field-0.0 c.from_residual.ensures.1
    (λ known. fields_refused c.pairs-pair-items.result.now c.pairs.pair-index c.pair-item.result c.as_str.result.now c.pairs.fields.items
    c.in_err-field.field-0.0 (read_sort c.args.document.now)
    c.pairs-test.true c.pair-item.is c.as_str.ensures.value (c.in_err-field.ensures known) room c.pairs.invariant.same)

pub pairs-preserved : goal.pairs-preserved
pairs-preserved c =
    let room : length c.pairs.fields.items < 32 = omega (arith, c.len.ensures, c.pairs.invariant.within) in
    record {
      within = omega (arith, c.in_ok-push.ensures.len);
      same = fields_more c.pairs-pair-items.result.now c.pairs.pair-index c.pair-item.result c.as_str.result.now c.pairs.fields.items c.push.new.self.items
          c.in_ok-field.field (length c.push.new.self.items) (read_sort c.args.document.now)
          c.pairs-test.true c.pair-item.is c.as_str.ensures.value c.in_ok-field.ensures c.in_ok-push.ensures.items room
          (omega (arith, c.in_ok-push.ensures.len)) c.pairs.invariant.same;
    }
