use Rattle.std.proofs.Common.{◌∙◌, ap, List, Bool}
use Rattle.freelist.specs.ListReading.{free_in}
use Rattle.freelist.proofs.list.FreeList.fills.Goals as goal

pub returns : goal.returns
returns c = c.marks_rest.ensures c.args.page_count (λ n. ap (λ (s : List Bool). free_in s n) c.deref_mut.ensures.value ∙ c.in_ok-seen.ensures n)
