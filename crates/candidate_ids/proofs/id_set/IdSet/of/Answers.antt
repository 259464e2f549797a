use Rattle.std.proofs.Common.{sym, subst}
use Rattle.index.specs.Changes.{IsAscending}
use Rattle.index.specs.View.{texts_of}
use Rattle.index.proofs.SetLemmas.{set_sorted}
use Rattle.candidate_ids.proofs.id_set.IdSet.of.Goals as goal

pub invariant_of-result : goal.invariant_of-result
invariant_of-result c = subst IsAscending (sym c.ascending.ensures) (set_sorted (texts_of c.args.ids.items))
