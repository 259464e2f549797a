use Rattle.std.proofs.Common.{List, [], ◌∷◌, subst, ◌∙◌}
use Rattle.index.specs.Definition.{Definition}
use Rattle.entries.specs.Indexed.{GoesOnBy, catalogue_put}
use Rattle.entries.proofs.IndexMakingLaws.{drops_index_at}
use Rattle.entries.proofs.NotingLemmas.{on_ok}
use Rattle.entries.proofs.edits.Edits.drop_index.Goals as goal

pub returns-clause-drops : goal.returns-clause-drops
returns-clause-drops c =
    let name = c.args.namespace.now in
    let home = c.args.home.now in
    let old = c.args.self.now in
    let new = c.put_indexes.new.self in
    on_ok c.put_indexes.result (λ catalogue.
    drops_index_at old new name home.number home.indexes.items c.args.at c.requires.within
    (subst (λ (js : List Definition). GoesOnBy old (catalogue_put name home.number js ∷ []) new)
    (c.deref.ensures.value ∙ c.remove-index.ensures.items) catalogue)) c.put_indexes.ensures.continues
