use Rattle.std.proofs.Common.{rules, ◌≡◌, sym, ◌∙◌, set, List, Bool, ℕ, ap, subst}
use Rattle.std.proofs.lemmas.List.{set_past}
use Rattle.freelist.specs.Book.{IsStart}
use Rattle.freelist.specs.Search.{MarksHold, marks_after}
use Rattle.freelist.specs.declared.states.Sought.TheVariants as soughts
use Rattle.freelist.proofs.Searching.{stays_marked, whole_part}
use Rattle.freelist.proofs.states.PageStates.set.Goals as goal
use Rattle.freelist.proofs.states.PageStates.set.Goals.{in-Some, in_default}

pub invariant_of-self : goal.invariant_of-self
invariant_of-self c =
    let same : c.match-get_mut.self-inside.list.items ≡ set c.self.inside.list.items c.args.page c.args.state = elim c.match-get_mut.branch [
      | in-Some w ↦ search rules
      | in_default w ↦ search (rules, set_past)
    ] in
    let full : c.match-get_mut.self-inside.full ≡ c.self.inside.full = search rules in
    let used : c.match-get_mut.self-inside.used ≡ c.self.inside.used = search rules in
    let start : c.match-get_mut.self-inside.start ≡ c.self.inside.start = search rules in
    record {
      starts = subst (IsStart c.start_after-self-inside.result) (sym same)
          (c.start_after-self-inside.ensures c.self.inside.list.items
          (subst (λ (n : ℕ). IsStart n c.self.inside.list.items) (sym start) c.self.invariant.starts));
      full_blocks = subst (MarksHold soughts.Free _) (sym same)
          (subst (λ (ms : List Bool). MarksHold soughts.Free ms (set c.self.inside.list.items c.args.page c.args.state))
          (sym (whole_part c.unmark_block.new.marks _ c.match-get_mut.self-inside.full.len (c.unmark_block.auto.marks ∙ c.deref_mut.ensures.len)
          ∙ c.unmark_block.ensures
          ∙ ap (marks_after soughts.Free c.args.page c.args.state) (c.deref_mut.ensures.value ∙ (λ i. (full i).items))))
          (stays_marked soughts.Free c.self.inside.list.items c.self.inside.full.items c.args.page c.args.state c.self.invariant.full_blocks));
      used_blocks = subst (MarksHold soughts.Unused _) (sym same)
          (subst (λ (ms : List Bool). MarksHold soughts.Unused ms (set c.self.inside.list.items c.args.page c.args.state))
          (sym (whole_part c.unmark_block-2.new.marks _ c.match-get_mut.self-inside.used.len (c.unmark_block-2.auto.marks ∙ c.deref_mut-2.ensures.len)
          ∙ c.unmark_block-2.ensures
          ∙ ap (marks_after soughts.Unused c.args.page c.args.state) (c.deref_mut-2.ensures.value ∙ (λ i. (used i).items))))
          (stays_marked soughts.Unused c.self.inside.list.items c.self.inside.used.items c.args.page c.args.state c.self.invariant.used_blocks));
    }
