use Rattle.std.proofs.Common.{Some, ◌∷◌, ◌++◌, [], false, ◌≡◌, ℕ, cond, map, refl, sym, ap, subst, ◌∙◌}
use Rattle.std.proofs.lemmas.List.{map-append}
use Rattle.bson.specs.Tree.{Tree}
use Rattle.bson.specs.View.{tree}
use Rattle.indexmap.specs.IndexMap.{get}
use Rattle.value_order.specs.KeyText.{tree_text}
use Rattle.aggregate_model.specs.Group.{same}
use Rattle.aggregate.specs.Found.{id_value_of}
use Rattle.pipelines.specs.GroupView.{group_field_of}
use Rattle.aggregate.specs.Groups.{entry_of, entries_of, same_text}
use Rattle.aggregate.specs.Table.{Entry, has, put_document}
use Rattle.aggregate.specs.declared.groups.Group.{Group}
use Rattle.aggregate.proofs.PlaceLemmas.{on_ok, put_new, put_there, indexed_there, indexed_new}
use Rattle.aggregate.proofs.groups.Groups.put.Goals as goal

pub returns-in-Some-clause-put : goal.returns-in-Some-clause-put
returns-in-Some-clause-put g c = λ indexed.
    let fields = map group_field_of c.args.fields.now in
    let old = c.index_mut.result.now in
    let new : Group = record { id = old.id; states = c.take_all.new.states } in
    let there = c.in-Some.ensures.place indexed (c.in_ok-text.ensures ∙ ap tree_text (c.get.ensures ∙ sym c.get-2.ensures)) in
    on_ok c.take_all.result
    (λ took.
    put_there fields (g.S.PathSource.source c.args.document.now) c.args.self.now.groups.items c.in-Some.at old new
    (tree c.get-2.result.now) there.0 there.1 indexed.apart c.index_mut.ensures.value refl took
    ∙ ap (λ (k : Tree). put_document fields (k, (g.S.PathSource.source c.args.document.now)) (entries_of c.args.self.now)) c.get-2.ensures)
    c.take_all.ensures

pub returns-in-Some-clause-indexed : goal.returns-in-Some-clause-indexed
returns-in-Some-clause-indexed g c = λ indexed.
    let fields = map group_field_of c.args.fields.now in
    let old = c.index_mut.result.now in
    let new : Group = record { id = old.id; states = c.take_all.new.states } in
    let there = c.in-Some.ensures.place indexed (c.in_ok-text.ensures ∙ ap tree_text (c.get.ensures ∙ sym c.get-2.ensures)) in
    on_ok c.take_all.result
    (λ took.
    indexed_there fields (g.S.PathSource.source c.args.document.now) c.args.self.now _ c.in-Some.at old new
    (tree c.get-2.result.now) indexed there.0 refl c.index_mut.ensures.value refl
    (put_there fields (g.S.PathSource.source c.args.document.now) c.args.self.now.groups.items c.in-Some.at old new
    (tree c.get-2.result.now) there.0 there.1 indexed.apart c.index_mut.ensures.value refl took))
    c.take_all.ensures
