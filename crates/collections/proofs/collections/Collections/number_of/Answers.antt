use Rattle.std.proofs.Common.{subst, ◌≡◌, Ok, Some, None}
use Rattle.std.specs.Option.{option_map}
use Rattle.std.proofs.lemmas.Result.{err_from_is_err_and}
use Rattle.entry_model.specs.State.{find_collection}
use Rattle.entries.specs.declared.catalogue_reading.Catalogued.{Catalogued}
use Rattle.std.specs.Prelude.{Option}
use Rattle.collections.specs.Lookups.{catalogued_in, catalogued_of}
use Rattle.collections.proofs.FoundLemmas.{none_numbered, one_numbered}
use Rattle.collections.proofs.ReadingLemmas.{reads_on, reads_refused}
use Rattle.collections.proofs.collections.Collections.number_of.Goals as goal

pub returns-in_err-told : goal.returns-in_err-told
returns-in_err-told g c =
    let name = c.args.namespace.now in
    let p = err_from_is_err_and c.from_residual.result c.from_residual.ensures.1 in
    rw (p.1, p.2)
    (reads_refused g.D.Disk.history (λ now found. option_map catalogued_of found ≡ option_map catalogued_in (find_collection now name))
    (λ now found. found
    ≡ option_map (λ c. c.number) (find_collection now name)) c.args.self.now c.catalogued.new.self c.in_err-told.field-0.0 c.in_err-told.ensures.reads)

pub returns-in_default : goal.returns-in_default
returns-in_default g c =
    let name = c.args.namespace.now in
    reads_on g.D.Disk.history (λ now found. option_map catalogued_of found ≡ option_map catalogued_in (find_collection now name))
    (λ now found. found ≡ option_map (λ c. c.number) (find_collection now name)) c.args.self.now c.catalogued.new.self c.in_ok-told.field-0
    (Ok None) c.in_ok-told.ensures.reads
    (λ now told. none_numbered (find_collection now name)
    (subst (λ (found : Option Catalogued). option_map catalogued_of found ≡ option_map catalogued_in (find_collection now name)) c.in_default.is told))

pub returns : goal.returns
returns g c =
    let name = c.args.namespace.now in
    reads_on g.D.Disk.history (λ now found. option_map catalogued_of found ≡ option_map catalogued_in (find_collection now name))
    (λ now found. found ≡ option_map (λ c. c.number) (find_collection now name)) c.args.self.now c.catalogued.new.self c.in_ok-told.field-0
    (Ok (Some c.in-Some.told.number)) c.in_ok-told.ensures.reads
    (λ now told. one_numbered c.in-Some.told (find_collection now name)
    (subst (λ (found : Option Catalogued). option_map catalogued_of found ≡ option_map catalogued_in (find_collection now name)) c.in-Some.is told))
