use Rattle.std.proofs.Common.{List, [], ◌∷◌, subst, ◌∙◌}
use Rattle.index.specs.Definition.{Definition}
use Rattle.entries.specs.Indexed.{GoesOnBy, catalogue_put}
use Rattle.entries.proofs.IndexMakingLaws.{makes_index_of}
use Rattle.entries.proofs.NotingLemmas.{on_ok}
use Rattle.entries.proofs.edits.Edits.make_index.Goals as goal

pub returns-clause-makes : goal.returns-clause-makes
returns-clause-makes c =
    let name = c.args.namespace.now in
    let home = c.args.home.now in
    let mid = c.note_each.new.self in
    let new = c.put_indexes.new.self in
    on_ok c.put_indexes.result (λ catalogue.
    makes_index_of c.args.self.now mid new name home.number home.indexes.items c.args.made c.requires.few c.in_ok-note_each.ensures
    (subst (λ (js : List Definition). GoesOnBy mid (catalogue_put name home.number js ∷ []) new)
    (c.deref.ensures.value ∙ c.in_ok-push.ensures.items) catalogue)) c.put_indexes.ensures.continues
