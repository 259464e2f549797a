use Rattle.std.proofs.Common.{subst, sym, ◌≡◌, Ok, Some, ◌∙◌}
use Rattle.std.specs.Prelude.{IfSome, Option}
use Rattle.std.specs.Option.{option_map}
use Rattle.entry_model.specs.State.{find_collection}
use Rattle.entries.specs.declared.catalogue_reading.Catalogued.{Catalogued}
use Rattle.collections.specs.Calls.{Reads}
use Rattle.collections.specs.Lookups.{catalogued_in, catalogued_of}
use Rattle.collections.specs.Remembering.{TellsAgain}
use Rattle.collections.specs.State.{State}
use Rattle.collections.proofs.RememberingLemmas.{reads_again}
use Rattle.collections.proofs.collections.Collections.catalogued.Goals as goal

pub returns-in-Some-clause-reads : goal.returns-in-Some-clause-reads
returns-in-Some-clause-reads g c =
    let D = g.row.D.Denot in
    let history = g.D.Disk.history in
    let name = c.args.namespace.now in
    let i = c.self.inside in
    let told = c.in-Some.told in
    subst (λ (s : State D). Reads history
    (λ now found. option_map catalogued_of found ≡ option_map catalogued_in (find_collection now name)) (Ok (Some told)) s s) c.self.view_is
    (reads_again history (record { pager = i.pager; root = i.root }) name told i.remembered c.self.invariant.2
    (subst (λ (o : Option Catalogued). IfSome o (TellsAgain i.root name i.remembered)) c.in-Some.is c.in_ok-told.ensures.told)
    (sym c.is_stopped.ensures ∙ c.if-is_stopped.false))
