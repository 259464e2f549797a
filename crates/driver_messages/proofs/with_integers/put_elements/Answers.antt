use Rattle.std.proofs.Common.{rules, ◌≡◌, ◌++◌, List, ℕ, ap, ◌∙◌}
use Rattle.driver_messages.specs.WithIntegers.{int64_element}
use Rattle.driver_messages.proofs.WithIntegersLemmas.{elements_step, elements_kept, elements_integer, elements_end}
use Rattle.driver_messages.proofs.with_integers.put_elements.Goals as goal
use Rattle.driver_messages.proofs.with_integers.put_elements.Goals.{in-Kept+in_ok-rest-in-Kept, in-Integer+in_ok-put_int64-in-Integer}

pub returns-in-Ended : goal.returns-in-Ended
returns-in-Ended c =
    c.in_ok-extend_from_slice-in-Ended.ensures.items
    ∙ ap (λ (x : List ℕ). c.steps.out.items ++ x)
    (elements_step c.args.most c.steps._step c.steps.place c.steps.rest.now _ c.steps-test.true (rw c.in-Ended.is at c.in_ok-count.ensures))
    ∙ c.steps.invariant

pub steps-preserved : goal.steps-preserved
steps-preserved c =
    elim c.match-branch-2.branch [
      | in-Kept+in_ok-rest-in-Kept w ↦
          elements_kept c.args.most c.steps._step w.in-Kept.count c.steps.place _ c.steps.rest.now _ _ _ c.steps-test.true
          (rw w.in-Kept.is at c.in_ok-count.ensures) (ap (λ v. v.items) w.out-is ∙ w.in_ok-rest-in-Kept.ensures.put)
          (ap (λ b. b.now) w.rest-is ∙ w.in_ok-rest-in-Kept.ensures.rest)
      | in-Integer+in_ok-put_int64-in-Integer w ↦
          let put : w.put_int64.new.out.items ≡ c.steps.out.items ++ int64_element w.in-Integer.name.now w.in-Integer.number = search rules in
          elements_integer c.args.most c.steps._step w.in-Integer.name.now w.in-Integer.number c.steps.place _ c.steps.rest.now _ _ _ c.steps-test.true
          (rw w.in-Integer.is at c.in_ok-count.ensures) (ap (λ v. v.items) w.out-is ∙ put)
          (ap (λ b. b.now) w.rest-is ∙ w.behind-rest.ensures)
    ]
    ∙ c.steps.invariant

pub returns : goal.returns
returns c =
    c.in_ok-extend_from_slice.ensures.items
    ∙ ap (λ (x : List ℕ). c.steps.out.items ++ x) (elements_end c.args.most c.steps._step c.steps.place c.steps.rest.now c.steps-test.false)
    ∙ c.steps.invariant
