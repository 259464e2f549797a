use Rattle.std.proofs.Common.{[], Some, arith, sym, ◌∙◌}
use Rattle.entry_model.specs.StateEntries.{catalogue_value}
use Rattle.entries.proofs.CatalogueEntries.{same_value}
use Rattle.entries.proofs.CatalogueReadLaws.{kept_spells, kept_lawful}
use Rattle.entries.proofs.ReadingLemmas.{same_some}
use Rattle.entries.proofs.catalogue_reading.catalogue_parts.Goals as goal

pub returns-in-Some-clause-reads : goal.returns-in-Some-clause-reads
returns-in-Some-clause-reads c k kept e =
    let plain = c.in-Some.ensures in
    let same = same_value c.in-Some.number k.number [] k.indexes plain.1 kept.most (omega arith) kept.few tt (kept_lawful k kept) (sym plain.2 ∙ e) in
    λ i. Some (same.0 i, (c.new.ensures.items ∙ same.1) i)

pub returns-in_default-2-clause-reads : goal.returns-in_default-2-clause-reads
returns-in_default-2-clause-reads c k kept e =
    absurd (c.in_default-2.not-Some (catalogue_value k.number k.indexes)
    (c.in_ok-document.ensures.reads (catalogue_value k.number k.indexes) (kept_spells k c.args.value.now kept e)))

pub returns-clause-reads : goal.returns-clause-reads
returns-clause-reads c k kept e =
    let read = c.in_ok-document.ensures.reads (catalogue_value k.number k.indexes) (kept_spells k c.args.value.now kept e) in
    c.in_ok-parts_told.ensures.parts k.number k.indexes kept.least kept.most kept.few (kept_lawful k kept) (same_some (sym c.in-Some-2.is ∙ read))
