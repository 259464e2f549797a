use Rattle.std.proofs.Common.{refl, rules, subst, sym, List, Result, Ok, Err}
use Rattle.btree.specs.Fold.{between}
use Rattle.tree_model.specs.Keys.{Entry}
use Rattle.path.specs.declared.refusal.Refusal.{Refusal}
use Rattle.entry_model.specs.State.{Collection}
use Rattle.collections.specs.Below.{IsNothing, ReadsBelow}
use Rattle.collections.specs.ReadTexts.{AreTextsRead}
use Rattle.collections.specs.Lookups.{IsInTree}
use Rattle.collections.specs.State.{State}
use Rattle.collections.proofs.BelowLemmas.{below_there}
use Rattle.collections.proofs.RememberingLemmas.{kept_reading}
use Rattle.collections.proofs.collections.Collections.read_from.Goals as goal
use Rattle.collections.proofs.collections.Collections.read_from.Goals.{in-Ok, in-Err}

pub invariant_of-self : goal.invariant_of-self
invariant_of-self g c =
    let D = g.row.D.Denot in
    let i = c.self.inside in
    let old : State D = record { pager = i.pager; root = i.root } in
    let new : State D = record { pager = c.read_below.new.pager; root = i.root } in
    (c.self.invariant.0, c.self.invariant.1, kept_reading g.D.Disk.history old new c.read_below.ensures.same i.remembered c.self.invariant.2)

pub returns : goal.returns
returns g c =
    let D = g.row.D.Denot in
    let history = g.D.Disk.history in
    let i = c.self.inside in
    let root = c.args.root in
    let pager = c.read_below.new.pager in
    let old : State D = record { pager = i.pager; root = i.root } in
    let new : State D = record { pager = pager; root = i.root } in
    let start = c.args.reading.now in
    let after = c.read_below.new.reading in
    let told : List Entry → Unit {0} → Type 0 = λ entries u. AreTextsRead start (between c.args.bounds entries) after in
    let right : List Collection → Unit {0} → Unit {0} → Type 0 = λ now asked. IsInTree told now in
    elim c.match-read_below.branch [
      | in-Ok w ↦ subst (λ (r : Result (Unit {0}) Refusal). ReadsBelow history root IsNothing right r c.args.self.now new) (sym w.result-is)
          (subst (λ (s : State D). ReadsBelow history root IsNothing right (Ok tt) s new) c.self.view_is
          (below_there history root IsNothing told old pager c.read_below.result c.read_below.ensures (search rules)
          (Ok tt) (rw w.in-Ok.is refl)))
      | in-Err w ↦ subst (λ (r : Result (Unit {0}) Refusal). ReadsBelow history root IsNothing right r c.args.self.now new) (sym w.result-is)
          (subst (λ (s : State D). ReadsBelow history root IsNothing right (Err w.refusal_of.result) s new) c.self.view_is
          (below_there history root IsNothing told old pager c.read_below.result c.read_below.ensures (search rules)
          (Err w.refusal_of.result) (rw w.in-Err.is w.refusal_of.ensures)))
    ]
