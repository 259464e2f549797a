use Rattle.std.proofs.Common.{Bool, true, Ok, Err, subst, sym}
use Rattle.std.proofs.lemmas.Result.{err_from_is_err_and}
use Rattle.collections.specs.Calls.{Reads}
use Rattle.collections.specs.OtherKeys.{TellsDocument}
use Rattle.engine.specs.Looking.{LooksOf}
use Rattle.engine.specs.Storing.{IsBeside, TellsDuplicate}
use Rattle.engine.proofs.EnteringSteps.{duplicate_by_keys, duplicate_of_keys, duplicate_there, duplicate_unread}
use Rattle.engine.proofs.OnlyReading.{reads_file}
use Rattle.engine.proofs.engine.Engine.is_duplicate.Goals as goal

pub returns-then-not-is_new : goal.returns-then-not-is_new
returns-then-not-is_new g c =
    let a = c.args in
    subst (λ (b : Bool). LooksOf g.D.Disk.history (IsBeside a.home.now a.edits.now a.id.now a.keyed.now)
    (TellsDuplicate b a.keyed.now) c.is_taken.result a.self.now c.is_taken.new.self) (sym c.if-not-is_new.true)
    (duplicate_of_keys g.D.Disk.history a.self.now c.requires.sound a.home.now a.edits.now a.id.now a.keyed.now c.is_taken.result c.is_taken.new.self
    c.is_taken.ensures)

pub returns-in_err-has_noted : goal.returns-in_err-has_noted
returns-in_err-has_noted g c =
    let p = err_from_is_err_and c.from_residual.result c.from_residual.ensures.1 in
    let a = c.args in
    rw (p.1, p.2)
    (subst (λ (b : Bool). LooksOf g.D.Disk.history (IsBeside a.home.now a.edits.now a.id.now a.keyed.now) (TellsDuplicate b a.keyed.now)
    (Err c.in_err-has_noted.field-0.0) a.self.now (record a.self.now { file = c.has_noted.new.self })) (sym c.if-not-is_new.false)
    (duplicate_unread g.D.Disk.history a.self.now c.requires.sound a.home.now a.edits.now a.id.now a.keyed.now c.has_noted.new.self
    c.in_err-has_noted.field-0.0 c.in_err-has_noted.ensures))

pub returns-then-branch : goal.returns-then-branch
returns-then-branch g c =
    let a = c.args in
    subst (λ (b : Bool). LooksOf g.D.Disk.history (IsBeside a.home.now a.edits.now a.id.now a.keyed.now) (TellsDuplicate b a.keyed.now) (Ok true) a.self.now
    (record a.self.now { file = c.has_noted.new.self })) (sym c.if-not-is_new.false)
    (duplicate_there g.D.Disk.history a.self.now c.requires.sound a.home.now a.edits.now a.id.now a.keyed.now c.has_noted.new.self
    (subst (λ (b : Bool). Reads g.D.Disk.history (TellsDocument a.edits.now a.home.now.number a.id.now) (Ok b) a.self.now.file c.has_noted.new.self)
    c.if-branch.true c.in_ok-has_noted.ensures))

pub is_taken-requires-2-clause-sound : goal.is_taken-requires-2-clause-sound
is_taken-requires-2-clause-sound g c =
    (reads_file g.D.Disk.history c.args.self.now c.has_noted.new.self c.requires.sound c.in_ok-has_noted.ensures.extends c.in_ok-has_noted.ensures.unchanged
    c.in_ok-has_noted.ensures.same).sound

pub returns : goal.returns
returns g c =
    let a = c.args in
    subst (λ (b : Bool). LooksOf g.D.Disk.history (IsBeside a.home.now a.edits.now a.id.now a.keyed.now)
    (TellsDuplicate b a.keyed.now) c.is_taken-2.result a.self.now c.is_taken-2.new.self) (sym c.if-not-is_new.false)
    (duplicate_by_keys g.D.Disk.history a.self.now c.requires.sound a.home.now a.edits.now a.id.now a.keyed.now c.has_noted.new.self
    (subst (λ (b : Bool). Reads g.D.Disk.history (TellsDocument a.edits.now a.home.now.number a.id.now) (Ok b) a.self.now.file c.has_noted.new.self)
    c.if-branch.false c.in_ok-has_noted.ensures)
    c.is_taken-2.new.self c.is_taken-2.result c.is_taken-2.ensures)
