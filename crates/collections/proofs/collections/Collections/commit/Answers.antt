use Rattle.std.proofs.Common.{ap, subst, ◌∙◌}
use Rattle.pager.specs.Asking.{OnlyWrites}
use Rattle.collections.specs.Committing.{CommitsCollections}
use Rattle.collections.specs.State.{State}
use Rattle.collections.specs.Versions.{CommitsVersions, pins_of}
use Rattle.collections.proofs.CommitLemmas.{commits_so}
use Rattle.collections.proofs.VersionLemmas.{commit_keeps}
use Rattle.collections.proofs.RememberingLemmas.{forgotten}
use Rattle.collections.proofs.collections.Collections.commit.Goals as goal

pub invariant_of-self : goal.invariant_of-self
invariant_of-self g c =
    let after : State g.row.D.Denot = record { pager = c.commit.new.self; root = c.self.inside.root } in
    (c.self.invariant.0, c.self.invariant.1, forgotten g.D.Disk.history after c.forget_tree.new.remembered c.forget_tree.ensures)

pub returns-clause-commits : goal.returns-clause-commits
returns-clause-commits g c =
    let D = g.row.D.Denot in
    let history = g.D.Disk.history in
    let i = c.self.inside in
    subst (λ (s : State D). CommitsCollections history c.commit.result s (record { pager = c.commit.new.self; root = i.root })) c.self.view_is
    (commits_so history
    (record { pager = i.pager; root = i.root }) c.commit.new.self c.commit.result c.commit.ensures.commits c.commit.ensures.takes c.commit.ensures.moves)

pub returns-clause-calls : goal.returns-clause-calls
returns-clause-calls g c =
    let D = g.row.D.Denot in
    let history = g.D.Disk.history in
    let i = c.self.inside in
    subst (λ (s : State D). OnlyWrites history c.commit.result s.pager c.commit.new.self) c.self.view_is c.commit.ensures.calls

pub returns-clause-versions : goal.returns-clause-versions
returns-clause-versions g c =
    let D = g.row.D.Denot in
    let history = g.D.Disk.history in
    let i = c.self.inside in
    subst (λ (s : State D). CommitsVersions history c.commit.result s (record { pager = c.commit.new.self; root = i.root })) c.self.view_is
    (commit_keeps history
    (record { pager = i.pager; root = i.root }) c.commit.new.self c.commit.ensures.versions c.commit.result c.commit.ensures.commits c.commit.ensures.takes)

pub returns-clause-pins : goal.returns-clause-pins
returns-clause-pins g c = c.commit.ensures.versions.pins ∙ ap (λ (s : State g.row.D.Denot). pins_of s) c.self.view_is
