use Rattle.std.proofs.Common.{subst, List, ◌∙◌, ◌<◌, ap, arith, length}
use Rattle.freelist.specs.Book.{IsStart, least_free}
use Rattle.freelist.specs.Search.{IsFirst}
use Rattle.freelist.specs.declared.states.PageState.{PageState}
use Rattle.freelist.specs.declared.states.Sought.TheVariants as soughts
use Rattle.freelist.proofs.Searching.{least_here, least_none, starts_at}
use Rattle.freelist.proofs.states.PageStates.least_free.Goals as goal
use Rattle.freelist.proofs.states.PageStates.least_free.Goals.{then-self-len, else-self-len}

pub returns-clause-result : goal.returns-clause-result
returns-clause-result c =
    let pages : List PageState = c.self.inside.list.items in
    let page = c.first_from-self-inside.result in
    let first : IsFirst soughts.Free c.self.inside.start page pages =
    subst (λ (ps : List PageState). IsFirst soughts.Free c.self.inside.start page ps) c.deref.ensures.value
    c.first_from-self-inside.ensures.first in
    let starts : IsStart page pages = starts_at c.self.inside.start page pages c.self.invariant.starts first in
    elim c.if-self-len.branch [
      | then-self-len w ↦
          let inside : page < length pages = omega (arith, w.if-self-len.true, c.len.ensures, c.deref.ensures.len, ap length c.deref.ensures.value) in
          w.result-is ∙ least_here page pages starts inside (first.fitting inside)
      | else-self-len w ↦
          w.result-is
          ∙ least_none page pages starts (omega (arith, w.if-self-len.false, c.len.ensures, c.deref.ensures.len, ap length c.deref.ensures.value))
    ] ∙ ap least_free c.self.view_is
