use Rattle.std.proofs.Common.{refl, rules, subst, sym, Ok, Err, List}
use Rattle.std.specs.Prelude.{Result}
use Rattle.btree.specs.declared.scanning.Batch.{Batch}
use Rattle.path.specs.declared.refusal.Refusal.{Refusal}
use Rattle.entry_model.specs.State.{Collection}
use Rattle.collections.specs.Below.{IsNothing, ReadsBelow}
use Rattle.collections.specs.Lookups.{IsBatchOf, IsInTree}
use Rattle.collections.specs.State.{State}
use Rattle.collections.proofs.BelowLemmas.{below_there}
use Rattle.collections.proofs.RememberingLemmas.{kept_reading}
use Rattle.collections.proofs.collections.Collections.entries_from.Goals as goal
use Rattle.collections.proofs.collections.Collections.entries_from.Goals.{in-Ok, in-Err}

pub invariant_of-self : goal.invariant_of-self
invariant_of-self g c =
    let D = g.row.D.Denot in
    let i = c.self.inside in
    let old : State D = record { pager = i.pager; root = i.root } in
    let new : State D = record { pager = c.entries_below.new.pager; root = i.root } in
    (c.self.invariant.0, c.self.invariant.1, kept_reading g.D.Disk.history old new c.entries_below.ensures.same i.remembered c.self.invariant.2)

pub returns : goal.returns
returns g c =
    let D = g.row.D.Denot in
    let history = g.D.Disk.history in
    let i = c.self.inside in
    let root = c.args.root in
    let pager = c.entries_below.new.pager in
    let old : State D = record { pager = i.pager; root = i.root } in
    let new : State D = record { pager = pager; root = i.root } in
    let right : List Collection → Unit {0} → Batch → Type 0 = λ now asked. IsInTree (IsBatchOf c.args.range) now in
    elim c.match-entries_below.branch [
      | in-Ok w ↦ subst (λ (r : Result Batch Refusal). ReadsBelow history root IsNothing right r c.args.self.now new) (sym w.result-is)
          (subst (λ (s : State D). ReadsBelow history root IsNothing right (Ok w.in-Ok.batch) s new) c.self.view_is
          (below_there history root IsNothing (IsBatchOf c.args.range) old pager c.entries_below.result c.entries_below.ensures (search rules)
          (Ok w.in-Ok.batch) (rw w.in-Ok.is refl)))
      | in-Err w ↦ subst (λ (r : Result Batch Refusal). ReadsBelow history root IsNothing right r c.args.self.now new) (sym w.result-is)
          (subst (λ (s : State D). ReadsBelow history root IsNothing right (Err w.refusal_of.result) s new) c.self.view_is
          (below_there history root IsNothing (IsBatchOf c.args.range) old pager c.entries_below.result c.entries_below.ensures (search rules)
          (Err w.refusal_of.result) (rw w.in-Err.is w.refusal_of.ensures)))
    ]
