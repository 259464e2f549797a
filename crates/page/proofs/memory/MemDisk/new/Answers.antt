use Rattle.std.proofs.Common.{◌∙◌, List, sym, subst, ap}
use Rattle.page.specs.History.{now}
use Rattle.page.specs.Crash.{IsDurable, IsFresh}
use Rattle.page.specs.Replay.{replay, blank}
use Rattle.page.specs.declared.memory.Call.{Call}
use Rattle.page.proofs.ImageSteps.{fresh, blank_durable}
use Rattle.page.proofs.memory.MemDisk.new.Goals as goal

pub returns-clause-fresh : goal.returns-clause-fresh
returns-clause-fresh c =
    subst IsFresh (sym c.over.ensures)
    (fresh c.new.result.items (λ k. subst (λ (l : List Call). IsDurable (replay 0 l blank k)) (sym c.new.ensures.items) (blank_durable k)))

pub returns-clause-zeros : goal.returns-clause-zeros
returns-clause-zeros c = ap now c.over.ensures ∙ ap (λ (l : List Call). replay 0 l blank) c.new.ensures.items
