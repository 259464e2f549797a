use Rattle.std.proofs.Common.{◌≡◌, refl}
use Rattle.std.specs.Option.{option_map}
use Rattle.collections.specs.Lookups.{catalogued_in, catalogued_of}
use Rattle.entry_model.specs.State.{find_collection}
use Rattle.engine.proofs.LookingLemmas.{looks_so}
use Rattle.engine.proofs.engine.Engine.catalogued.Goals as goal

pub returns-clause-looks : goal.returns-clause-looks
returns-clause-looks g c =
    looks_so g.D.Disk.history c.args.self.now (record c.args.self.now { file = c.catalogued.new.self }) c.requires refl refl refl
    (λ now found. option_map catalogued_of found
    ≡ option_map catalogued_in (find_collection now c.args.namespace.now)) c.catalogued.result c.catalogued.ensures.reads
