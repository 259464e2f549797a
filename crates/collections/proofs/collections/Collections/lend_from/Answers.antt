use Rattle.std.proofs.Common.{refl, rules, subst, sym, List, Result, Ok, Err}
use Rattle.btree.specs.Fold.{between}
use Rattle.tree_model.specs.Keys.{Entry}
use Rattle.path.specs.declared.refusal.Refusal.{Refusal}
use Rattle.entry_model.specs.State.{Collection}
use Rattle.collections.specs.Below.{IsNothing, ReadsBelow}
use Rattle.collections.specs.Lookups.{IsInTree}
use Rattle.collections.specs.State.{State}
use Rattle.collections.proofs.BelowLemmas.{below_there}
use Rattle.collections.proofs.RememberingLemmas.{kept_reading}
use Rattle.collections.proofs.collections.Collections.lend_from.Goals as goal
use Rattle.collections.proofs.collections.Collections.lend_from.Goals.{in-Ok, in-Err}

pub invariant_of-self : goal.invariant_of-self
invariant_of-self g c =
    let D = g.row.D.Denot in
    let i = c.self.inside in
    let old : State D = record { pager = i.pager; root = i.root } in
    let new : State D = record { pager = c.lend_below.new.pager; root = i.root } in
    (c.self.invariant.0, c.self.invariant.1, kept_reading g.D.Disk.history old new c.lend_below.ensures.looks.same i.remembered c.self.invariant.2)

pub returns-clause-reads : goal.returns-clause-reads
returns-clause-reads g c =
    let D = g.row.D.Denot in
    let history = g.D.Disk.history in
    let i = c.self.inside in
    let root = c.args.root in
    let pager = c.lend_below.new.pager in
    let old : State D = record { pager = i.pager; root = i.root } in
    let new : State D = record { pager = pager; root = i.root } in
    let start = c.args.fold.now in
    let after = c.lend_below.new.fold in
    let lent : List Entry → Unit {0} → Type 0 = λ entries u. g.F.Fold.makes start (between c.args.bounds entries) after in
    let right : List Collection → Unit {0} → Unit {0} → Type 0 = λ now asked. IsInTree lent now in
    elim c.match-lend_below.branch [
      | in-Ok w ↦ subst (λ (r : Result (Unit {0}) Refusal). ReadsBelow history root IsNothing right r c.args.self.now new) (sym w.result-is)
          (subst (λ (s : State D). ReadsBelow history root IsNothing right (Ok tt) s new) c.self.view_is
          (below_there history root IsNothing lent old pager c.lend_below.result c.lend_below.ensures.looks (search rules)
          (Ok tt) (rw w.in-Ok.is refl)))
      | in-Err w ↦ subst (λ (r : Result (Unit {0}) Refusal). ReadsBelow history root IsNothing right r c.args.self.now new) (sym w.result-is)
          (subst (λ (s : State D). ReadsBelow history root IsNothing right (Err w.refusal_of.result) s new) c.self.view_is
          (below_there history root IsNothing lent old pager c.lend_below.result c.lend_below.ensures.looks (search rules)
          (Err w.refusal_of.result) (rw w.in-Err.is w.refusal_of.ensures)))
    ]
