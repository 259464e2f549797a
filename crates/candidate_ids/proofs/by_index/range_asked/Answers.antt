use Rattle.std.proofs.Common.{ap, ◌∙◌}
use Rattle.std.specs.Prelude.{not}
use Rattle.candidate_ids.proofs.ByIndexLemmas.{range_chosen}
use Rattle.candidate_ids.proofs.by_index.range_asked.Goals as goal

pub returns : goal.returns
returns c =
    range_chosen c.args.filter.now c.args.sort.now c.args.indexes.now c.choose.result c.in-Index.range c.choose.ensures c.in-Index.is
    (c.is_none.ensures ∙ ap not c.if-is_none.false) (c.is_spellable.ensures c.if-not-is_spellable.false)
