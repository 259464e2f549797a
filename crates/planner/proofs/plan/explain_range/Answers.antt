use Rattle.std.proofs.Common.{length, ap, arith, string_bytes}
use Rattle.planner.specs.ExplainingLaws.{in_words_short, made_short, range_word_short, sort_word_short}
use Rattle.planner.specs.View.{range_of}
use Rattle.planner.proofs.plan.explain_range.Goals as goal

pub returns-clause-short : goal.returns-clause-short
returns-clause-short c =
    let range = range_of c.args.range.now in
    made_short (λ text. string_bytes text) c.in_words.result _ (
    in_words_short c.index_name.result.now c.equals.result c.range_word.result.now c.sort_word.result.now c.index_name.ensures.short c.equals.ensures.most
    (omega (arith, ap length c.range_word.ensures, range_word_short range.low range.high))
    (omega (arith, ap length c.sort_word.ensures, sort_word_short range.is_sorted))
    ) c.in_words.ensures
