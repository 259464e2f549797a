use Rattle.std.proofs.Common.{subst, sym, Ok, Err, refl}
use Rattle.std.specs.Prelude.{Result}
use Rattle.std.specs.Global.{Vec}
use Rattle.btree.specs.declared.scanning.Entry.{Entry}
use Rattle.path.specs.declared.refusal.Refusal.{Refusal}
use Rattle.collections.specs.Entries.{ReadsEntries}
use Rattle.collections.specs.State.{State}
use Rattle.collections.proofs.ReadingLemmas.{entries_there}
use Rattle.collections.proofs.RememberingLemmas.{kept_reading}
use Rattle.collections.proofs.collections.Collections.entries.Goals as goal
use Rattle.collections.proofs.collections.Collections.entries.Goals.{in-Ok, in-Err}

pub invariant_of-self : goal.invariant_of-self
invariant_of-self g c =
    let D = g.row.D.Denot in
    let i = c.self.inside in
    let old : State D = record { pager = i.pager; root = i.root } in
    let new : State D = record { pager = c.all_below.new.pager; root = i.root } in
    (c.self.invariant.0, c.self.invariant.1, kept_reading g.D.Disk.history old new c.all_below.ensures.same i.remembered c.self.invariant.2)

pub returns : goal.returns
returns g c =
    let D = g.row.D.Denot in
    let history = g.D.Disk.history in
    let i = c.self.inside in
    let pager = c.all_below.new.pager in
    let old : State D = record { pager = i.pager; root = i.root } in
    let new : State D = record { pager = pager; root = i.root } in
    elim c.match-all_below.branch [
      | in-Ok w ↦ subst (λ (r : Result (Vec Entry) Refusal). ReadsEntries history r c.args.self.now new) (sym w.result-is)
          (subst (λ (s : State D). ReadsEntries history (Ok w.in-Ok.entries) s new) c.self.view_is
          (entries_there history old pager c.all_below.result c.all_below.ensures (Ok w.in-Ok.entries) (rw w.in-Ok.is refl)))
      | in-Err w ↦ subst (λ (r : Result (Vec Entry) Refusal). ReadsEntries history r c.args.self.now new) (sym w.result-is)
          (subst (λ (s : State D). ReadsEntries history (Err w.refusal_of.result) s new) c.self.view_is
          (entries_there history old pager c.all_below.result c.all_below.ensures (Err w.refusal_of.result) (rw w.in-Err.is w.refusal_of.ensures)))
    ]
