use Rattle.std.proofs.Common.{◌≡◌, ◌≢◌, true, false, Ok, Err, arith, refl, sym, subst, ap, ◌∙◌}
use Rattle.std.specs.Prelude.{Result}
use Rattle.roots.specs.declared.store.CommitFault.{CommitFault}
use Rattle.roots.specs.declared.store.CommitFault.TheVariants as faults
use Rattle.collections.specs.Committing as files
use Rattle.collections.specs.Marks.{Undoes}
use Rattle.collections.specs.State.{State}
use Rattle.collections.specs.Versions.{CommitsVersions}
use Rattle.pinned_cursors.specs.Tied.{AreTied}
use Rattle.pinned_cursors.proofs.TurnTied.{tied_committed, tied_cut, tied_failed}
use Rattle.engine.proofs.Ending.{kept_as_it_is, undone_after, committed_now, cut_now, ran_before, room_cause, state_since, tied_at_rest}
use Rattle.engine.proofs.Ending.{untouched_since}
use Rattle.engine.proofs.engine.Engine.commit_turn.Goals as goal

pub returns-then-not-self : goal.returns-then-not-self
returns-then-not-self g c =
    let clean = c.if-not-self.true in
    kept_as_it_is g.D.Disk.history c.args.self.now c.args.self.now c.requires.sound c.commit.new.self c.commit.ensures.walks
    c.commit.ensures.table (c.requires.sound.quiet clean) clean

pub returns-in-Ok : goal.returns-in-Ok
returns-in-Ok g c =
    let old = c.args.self.now in
    let new = c.keep.new.self in
    let D = g.row.D.Denot in
    let saved = subst (λ (f : State D). files.CommitsCollections g.D.Disk.history (Ok tt) old.file f) (sym c.keep.ensures.file)
    (subst (λ (r : Result (Unit {0}) CommitFault). files.CommitsCollections g.D.Disk.history r old.file c.commit-2.new.self) c.in-Ok.is
    c.commit-2.ensures.commits) in
    let versions = subst (λ (r : Result (Unit {0}) CommitFault). CommitsVersions g.D.Disk.history r old.file c.commit-2.new.self) c.in-Ok.is
    c.commit-2.ensures.versions in
    let made = subst (λ (r : Result (Unit {0}) CommitFault). files.CommitsCollections g.D.Disk.history r old.file c.commit-2.new.self) c.in-Ok.is
    c.commit-2.ensures.commits in
    let tied = tied_committed g.D.Disk.history old.file c.commit-2.new.self old.cursors.list old.is_changed c.commit-2.ensures.pins made versions
    c.requires.sound.tied in
    committed_now g.D.Disk.history old new c.requires.sound c.if-not-self.false c.keep.ensures.clean c.keep.ensures.world c.keep.ensures.turn_start
    (tied_at_rest g.D.Disk.history old new c.requires.sound c.commit-2.new.self tied c.keep.ensures.file c.keep.ensures.cursors) saved

pub returns-in-Err-Device : goal.returns-in-Err-Device
returns-in-Err-Device g c =
    let old = c.args.self.now in
    let new = c.keep-in-Err-Device.new.self in
    let D = g.row.D.Denot in
    let saved = subst (λ (f : State D). files.CommitsCollections g.D.Disk.history (Err faults.Device) old.file f) (sym c.keep-in-Err-Device.ensures.file)
    (subst (λ (r : Result (Unit {0}) CommitFault). files.CommitsCollections g.D.Disk.history r old.file c.commit-2.new.self)
    (c.in-Err-Device.is ∙ ap (λ (e : CommitFault). Err e) c.in-Err-Device.field-0-is) c.commit-2.ensures.commits) in
    let result = c.in-Err-Device.is ∙ ap (λ (e : CommitFault). Err e) c.in-Err-Device.field-0-is in
    let made = subst (λ (r : Result (Unit {0}) CommitFault). files.CommitsCollections g.D.Disk.history r old.file c.commit-2.new.self) result
    c.commit-2.ensures.commits in
    let tied = tied_cut g.D.Disk.history old.file c.commit-2.new.self old.cursors.list old.is_changed c.commit-2.ensures.pins made c.requires.sound.tied in
    cut_now g.D.Disk.history old new c.requires.sound c.if-not-self.false c.keep-in-Err-Device.ensures.clean c.keep-in-Err-Device.ensures.world
    c.keep-in-Err-Device.ensures.turn_start
    (tied_at_rest g.D.Disk.history old new c.requires.sound c.commit-2.new.self tied c.keep-in-Err-Device.ensures.file
    c.keep-in-Err-Device.ensures.cursors) saved

pub returns-in-Err-Memory : goal.returns-in-Err-Memory
returns-in-Err-Memory g c =
    let old = c.args.self.now in
    let new = c.roll_back.new.self in
    let D = g.row.D.Denot in
    let result = c.in-Err-Memory.is ∙ ap (λ (e : CommitFault). Err e) c.in-Err-Memory.field-0-is in
    let undoes = subst (λ (f : State D). Undoes g.D.Disk.history f new.file) (c.commit-2.ensures.commits.memory result) c.roll_back.ensures.file in
    undone_after g.D.Disk.history old new c.requires.sound c.roll_back.ensures.clean c.roll_back.ensures.world c.roll_back.ensures.turn_start
    undoes.untouched undoes.state undoes.clean
    (c.roll_back.ensures.tied old.is_changed
    (subst (λ (f : State D). AreTied old.is_changed g.D.Disk.history f old.cursors.list) (sym (c.commit-2.ensures.commits.memory result))
    c.requires.sound.tied)) c.if-not-self.false faults.Memory (λ e. absurd cc) (λ e. absurd cc) (omega (arith, undoes.takes)) (λ e. undoes.takes)

-- a refusal for want of room is none of the device
no_device : {X : Type 0} → (let r : Result (Unit {0}) CommitFault = Err faults.Full in r) ≡ Err faults.Device → X
no_device e = absurd cc

pub returns-in-Err-Full : goal.returns-in-Err-Full
returns-in-Err-Full g c =
    let history = g.D.Disk.history in
    let old = c.args.self.now in
    let new = c.roll_back-in-Err-Full.new.self in
    let mid = c.commit-2.new.self in
    let result = c.in-Err-Full.is ∙ ap (λ (e : CommitFault). Err e) c.in-Err-Full.field-0-is in
    let room = c.commit-2.ensures.commits.full result in
    let undoes = c.roll_back-in-Err-Full.ensures.file in
    let other : c.commit-2.result ≢ Err faults.Device = λ device. no_device (sym result ∙ device) in
    let tied = tied_failed history old.file mid old.cursors.list old.is_changed c.commit-2.result other c.commit-2.ensures.commits c.commit-2.ensures.versions
    c.commit-2.ensures.pins (ran_before history old new c.requires.sound mid room) c.requires.sound.tied in
    undone_after history old new c.requires.sound c.roll_back-in-Err-Full.ensures.clean c.roll_back-in-Err-Full.ensures.world
    c.roll_back-in-Err-Full.ensures.turn_start (untouched_since history old new c.requires.sound mid undoes room)
    (state_since history old new c.requires.sound mid undoes room) undoes.clean (c.roll_back-in-Err-Full.ensures.tied old.is_changed tied)
    c.if-not-self.false faults.Full (λ e. absurd cc)
    (λ e. room_cause history old new c.requires.sound mid undoes room) (omega (arith, c.commit-2.ensures.commits.takes, undoes.takes)) (λ e. absurd (e refl))
