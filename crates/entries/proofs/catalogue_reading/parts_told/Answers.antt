use Rattle.std.proofs.Common.{◌≡◌, Some, option_map, sym, ap, ◌∙◌}
use Rattle.entries.proofs.CatalogueReadLaws.{same_list}
use Rattle.entries.proofs.ReadingLemmas.{same_number}
use Rattle.entries.proofs.catalogue_reading.parts_told.Goals as goal

pub returns-clause-parts : goal.returns-clause-parts
returns-clause-parts c number is least most few lawful e =
    let same : c.in-Some.number ≡ number = same_number (c.in-Some.ensures.number number is least most e) in
    let all : c.in-Some-2.indexes.items ≡ is =
    same_list (sym (ap (option_map (λ v. v.items)) c.in-Some-2.is) ∙ c.in_ok-indexes.ensures number is lawful e) in
    λ i. Some (same i, all i)
