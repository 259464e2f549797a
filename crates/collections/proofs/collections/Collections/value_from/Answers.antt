use Rattle.std.proofs.Common.{refl, rules, subst, sym, Ok, Err, List, ℕ}
use Rattle.std.specs.Prelude.{Option, Result}
use Rattle.std.specs.Global.{Vec}
use Rattle.page.specs.History.{KeepsWord}
use Rattle.tree_model.specs.Store.{IsSame}
use Rattle.tree_model.proofs.StoreLemmas.{same_itself}
use Rattle.path.specs.declared.refusal.Refusal.{Refusal}
use Rattle.entry_model.specs.State.{Collection}
use Rattle.collections.specs.Below.{IsNothing, ReadsBelow}
use Rattle.collections.specs.Lookups.{IsInTree, IsValueAt}
use Rattle.collections.specs.State.{State}
use Rattle.collections.specs.View.{disk_history, pages_of}
use Rattle.collections.proofs.BelowLemmas.{below_there}
use Rattle.collections.proofs.RememberingLemmas.{kept_reading}
use Rattle.collections.proofs.collections.Collections.value_from.Goals as goal
use Rattle.collections.proofs.collections.Collections.value_from.Goals.{in-Ok, in-Err}

pub invariant_of-self : goal.invariant_of-self
invariant_of-self g c =
    let D = g.row.D.Denot in
    let i = c.self.inside in
    let old : State D = record { pager = i.pager; root = i.root } in
    let new : State D = record { pager = c.value_below.new.pager; root = i.root } in
    (c.self.invariant.0, c.self.invariant.1, kept_reading g.D.Disk.history old new c.value_below.ensures.same i.remembered c.self.invariant.2)

pub returns-clause-reads : goal.returns-clause-reads
returns-clause-reads g c =
    let D = g.row.D.Denot in
    let history = g.D.Disk.history in
    let i = c.self.inside in
    let root = c.args.root in
    let pager = c.value_below.new.pager in
    let old : State D = record { pager = i.pager; root = i.root } in
    let new : State D = record { pager = pager; root = i.root } in
    let right : List Collection → Unit {0} → Option (Vec ℕ) → Type 0 = λ now asked. IsInTree (IsValueAt c.args.key.now) now in
    elim c.match-value_below.branch [
      | in-Ok w ↦ subst (λ (r : Result (Option (Vec ℕ)) Refusal). ReadsBelow history root IsNothing right r c.args.self.now new) (sym w.result-is)
          (subst (λ (s : State D). ReadsBelow history root IsNothing right (Ok w.in-Ok.found) s new) c.self.view_is
          (below_there history root IsNothing (IsValueAt c.args.key.now) old pager c.value_below.result c.value_below.ensures (search rules)
          (Ok w.in-Ok.found) (rw w.in-Ok.is refl)))
      | in-Err w ↦ subst (λ (r : Result (Option (Vec ℕ)) Refusal). ReadsBelow history root IsNothing right r c.args.self.now new) (sym w.result-is)
          (subst (λ (s : State D). ReadsBelow history root IsNothing right (Err w.refusal_of.result) s new) c.self.view_is
          (below_there history root IsNothing (IsValueAt c.args.key.now) old pager c.value_below.result c.value_below.ensures (search rules)
          (Err w.refusal_of.result) (rw w.in-Err.is w.refusal_of.ensures)))
    ]

pub returns-then-is_stopped-clause-same : goal.returns-then-is_stopped-clause-same
returns-then-is_stopped-clause-same g c = same_itself (pages_of g.D.Disk.history c.args.self.now)

pub returns-clause-same : goal.returns-clause-same
returns-clause-same g c =
    let D = g.row.D.Denot in
    let history = g.D.Disk.history in
    let pager = c.value_below.new.pager in
    let new : State D = record { pager = pager; root = c.self.inside.root } in
    subst (λ (s : State D). KeepsWord (disk_history history new) → IsSame (pages_of history s) (pages_of history new)) c.self.view_is c.value_below.ensures.same
