use Rattle.std.proofs.Common.{◌≡◌, refl}
use Rattle.std.specs.Option.{option_map}
use Rattle.entry_model.specs.State.{find_collection}
use Rattle.engine.proofs.LookingLemmas.{looks_so}
use Rattle.engine.proofs.engine.Engine.number_of.Goals as goal

pub returns : goal.returns
returns g c =
    looks_so g.D.Disk.history c.args.self.now (record c.args.self.now { file = c.number_of.new.self }) c.requires refl refl refl
    (λ now found. found ≡ option_map (λ c. c.number) (find_collection now c.args.namespace.now)) c.number_of.result c.number_of.ensures
