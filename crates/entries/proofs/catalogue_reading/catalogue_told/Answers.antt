use Rattle.std.proofs.Common.{◌≡◌, ℕ, ◌≤◌, List, Option, option_map, length, sym, ap, subst, ◌∙◌}
use Rattle.std.specs.Prelude.{IfSome}
use Rattle.bson.specs.Spelling.{frame_of, pairs_bytes}
use Rattle.index.specs.Definition.{Definition}
use Rattle.entry_model.specs.StateEntries.{catalogue_value}
use Rattle.entries.specs.declared.catalogue_reading.Catalogued.{Catalogued}
use Rattle.entries.proofs.CatalogueReadLaws.{told_pair, same_bytes}
use Rattle.entries.proofs.ReadingLemmas.{not_differing}
use Rattle.entries.proofs.catalogue_reading.catalogue_told.Goals as goal

abbrev parts : Catalogued → ℕ × List Definition
parts e = (e.number, e.indexes.items)

abbrev Limits : Catalogued → Type 0
Limits e = (1 ≤ e.number) × (e.number ≤ 1000) × (length e.indexes.items ≤ 16)

abbrev spelled_by : ℕ → List Definition → List ℕ
spelled_by number is = frame_of (pairs_bytes (catalogue_value number is))

pub indexed_bytes-requires : goal.indexed_bytes-requires
indexed_bytes-requires c =
    let limits : Limits c.in-Some.told = subst (λ (o : Option Catalogued). IfSome o Limits) c.in-Some.is c.in_ok-told.ensures.limits in
    record { number = limits.1; few = subst (λ (is : List Definition). length is ≤ 16) (sym c.deref.ensures.value) limits.2 }

pub returns-in_default-clause-reads : goal.returns-in_default-clause-reads
returns-in_default-clause-reads c k kept e = sym (ap (option_map parts) c.in_default.is) ∙ c.in_ok-told.ensures.reads k kept e

pub returns-then-ne-clause-reads : goal.returns-then-ne-clause-reads
returns-then-ne-clause-reads c k kept e =
    let told : (c.in-Some.told.number, c.in-Some.told.indexes.items) ≡ (k.number, k.indexes) =
    told_pair (sym (ap (option_map parts) c.in-Some.is) ∙ c.in_ok-told.ensures.reads k kept e) in
    absurd (not_differing c.as_slice.result.now c.args.value.now c.ne.result c.ne.ensures c.if-ne.true
    (c.as_slice.ensures.value ∙ c.in_ok-bytes.ensures.bytes ∙ ap (spelled_by c.in-Some.told.number) c.deref.ensures.value
    ∙ (λ t. spelled_by (told t).0 (told t).1) ∙ sym e))

pub returns-clause-reads : goal.returns-clause-reads
returns-clause-reads c k kept e = sym (ap (option_map parts) c.in-Some.is) ∙ c.in_ok-told.ensures.reads k kept e

pub returns-clause-only : goal.returns-clause-only
returns-clause-only c =
    let limits : Limits c.in-Some.told = subst (λ (o : Option Catalogued). IfSome o Limits) c.in-Some.is c.in_ok-told.ensures.limits in
    let same = same_bytes c.as_slice.result.now c.args.value.now c.ne.result c.ne.ensures c.if-ne.false in (
      limits.0,
      limits.1,
      limits.2,
      sym same ∙ c.as_slice.ensures.value ∙ c.in_ok-bytes.ensures.bytes
          ∙ ap (spelled_by c.in-Some.told.number) c.deref.ensures.value,
    )
