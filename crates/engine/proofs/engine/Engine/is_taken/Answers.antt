use Rattle.std.proofs.Common.{◌≡◌, List, Bool, map, subst}
use Rattle.tree_model.specs.Keys.{Entry}
use Rattle.collections.specs.Calls.{Reads}
use Rattle.collections.specs.OtherKeys.{TellsOf, is_taken}
use Rattle.index.specs.View.{texts_of}
use Rattle.engine.proofs.EnteringSteps.{taken_read}
use Rattle.engine.proofs.engine.Engine.is_taken.Goals as goal

pub returns : goal.returns
returns g c =
    let a = c.args in
    let same : is_taken a.home.now.number a.id.now c.deref.result.now (map (λ ks. texts_of ks.items) c.deref-2.result.now)
    ≡ is_taken a.home.now.number a.id.now a.home.now.indexes.items (map (λ ks. texts_of ks.items) a.keyed.now.keys.items) =
    λ i. is_taken a.home.now.number a.id.now (c.deref.ensures.value i) (map (λ ks. texts_of ks.items) (c.deref-2.ensures.value i)) in
    taken_read g.D.Disk.history a.self.now c.requires.sound a.home.now a.edits.now a.id.now a.keyed.now c.is_taken.new.self c.is_taken.result
    (subst (λ (T : List Entry → Bool). Reads g.D.Disk.history (TellsOf T a.edits.now) c.is_taken.result a.self.now.file c.is_taken.new.self) same
    c.is_taken.ensures)
