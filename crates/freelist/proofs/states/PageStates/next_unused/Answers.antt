use Rattle.std.proofs.Common.{subst, sym, List, max, ℕ, arith, ◌≡◌, ◌<◌, ◌^◌, length, ap, ◌∙◌}
use Rattle.freelist.specs.Search.{IsFirst, IsNextUnused}
use Rattle.freelist.specs.declared.states.PageState.{PageState}
use Rattle.freelist.specs.declared.states.Sought.TheVariants as soughts
use Rattle.freelist.proofs.UnusedPages.{next_inside, next_past}
use Rattle.freelist.proofs.states.PageStates.next_unused.Goals as goal
use Rattle.freelist.proofs.states.PageStates.next_unused.Goals.{then-first-len, else-first-len}

pub returns-clause-next : goal.returns-clause-next
returns-clause-next c =
    let same : c.deref.result.now ≡ c.args.self.now = c.deref.ensures.value ∙ c.self.view_is in
    let few : length c.args.self.now < 2 ^ 32 = omega (arith, c.self.invariant.starts.few, ap length c.self.view_is) in
    let first : IsFirst soughts.Unused (max c.args.from 1) c.first_from-first.result c.args.self.now =
    subst (λ (n : ℕ). IsFirst soughts.Unused n c.first_from-first.result c.args.self.now) c.max.ensures
    (subst (λ (ps : List PageState). IsFirst soughts.Unused c.max.result c.first_from-first.result ps) same c.first_from-first.ensures.first) in
    elim c.if-first-len.branch [
      | then-first-len w ↦
          subst (λ (n : ℕ). IsNextUnused c.args.from c.args.end n c.args.self.now) (sym (w.result-is ∙ w.min.ensures))
          (next_inside c.args.from c.first_from-first.result c.args.self.now few first c.args.end
          (omega (arith, w.if-first-len.true, c.len.ensures, c.deref.ensures.len, ap length same)))
      | else-first-len w ↦
          subst (λ (n : ℕ). IsNextUnused c.args.from c.args.end n c.args.self.now) (sym w.result-is)
          (next_past c.args.from c.first_from-first.result c.args.self.now few first c.args.end
          (omega (arith, w.if-first-len.false, c.len.ensures, c.deref.ensures.len, ap length same)))
    ]
