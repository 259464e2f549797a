use Rattle.std.proofs.Common.{refl, subst, sym, Ok, Err, None}
use Rattle.std.specs.Prelude.{Result}
use Rattle.btree.specs.declared.scanning.Batch.{Batch}
use Rattle.btree.specs.declared.scanning.Range.{Range}
use Rattle.path.specs.declared.refusal.Refusal.{Refusal}
use Rattle.collections.specs.Entries.{AreNextEntries, ReadsTree}
use Rattle.collections.specs.Lookups.{IsBatchOf}
use Rattle.collections.specs.State.{State}
use Rattle.collections.proofs.EntryLemmas.{next_entries_are, tree_there}
use Rattle.collections.proofs.RememberingLemmas.{kept_reading}
use Rattle.collections.proofs.collections.Collections.next_entries.Goals as goal
use Rattle.collections.proofs.collections.Collections.next_entries.Goals.{in-Ok, in-Err}

pub invariant_of-self : goal.invariant_of-self
invariant_of-self g c =
    let D = g.row.D.Denot in
    let i = c.self.inside in
    let old : State D = record { pager = i.pager; root = i.root } in
    let new : State D = record { pager = c.entries_below.new.pager; root = i.root } in
    (c.self.invariant.0, c.self.invariant.1, kept_reading g.D.Disk.history old new c.entries_below.ensures.same i.remembered c.self.invariant.2)

pub returns : goal.returns
returns g c =
    let D = g.row.D.Denot in
    let history = g.D.Disk.history in
    let i = c.self.inside in
    let pager = c.entries_below.new.pager in
    let old : State D = record { pager = i.pager; root = i.root } in
    let new : State D = record { pager = pager; root = i.root } in
    let range : Range = record { from = c.args.from; to = None; limit = c.args.limit } in
    let right = AreNextEntries c.args.from.now c.args.limit in
    elim c.match-entries_below.branch [
      | in-Ok w ↦ subst (λ (r : Result Batch Refusal). ReadsTree history right r c.args.self.now new) (sym w.result-is)
          (subst (λ (s : State D). ReadsTree history right (Ok w.in-Ok.batch) s new) c.self.view_is
          (tree_there history (IsBatchOf range) right old pager c.entries_below.result c.entries_below.ensures
          (λ entries batch rise holds. next_entries_are c.args.from.now c.args.limit entries batch rise holds) (Ok w.in-Ok.batch) (rw w.in-Ok.is refl)))
      | in-Err w ↦ subst (λ (r : Result Batch Refusal). ReadsTree history right r c.args.self.now new) (sym w.result-is)
          (subst (λ (s : State D). ReadsTree history right (Err w.refusal_of.result) s new) c.self.view_is
          (tree_there history (IsBatchOf range) right old pager c.entries_below.result c.entries_below.ensures
          (λ entries batch rise holds. next_entries_are c.args.from.now c.args.limit entries batch rise holds) (Err w.refusal_of.result)
          (rw w.in-Err.is w.refusal_of.ensures)))
    ]
