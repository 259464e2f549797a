use Rattle.std.proofs.Common.{Some, ◌∷◌, ◌++◌, [], false, ◌≡◌, ℕ, cond, map, refl, sym, ap, subst, ◌∙◌}
use Rattle.std.proofs.lemmas.List.{map-append}
use Rattle.bson.specs.Tree.{Tree}
use Rattle.bson.specs.View.{tree}
use Rattle.indexmap.specs.IndexMap.{get}
use Rattle.value_order.specs.KeyText.{tree_text}
use Rattle.aggregate_model.specs.Group.{same}
use Rattle.aggregate.specs.Found.{id_value_of}
use Rattle.pipelines.specs.GroupView.{group_field_of}
use Rattle.aggregate.specs.Groups.{entry_of, entries_of, same_text}
use Rattle.aggregate.specs.Table.{Entry, has, put_document}
use Rattle.aggregate.specs.declared.groups.Group.{Group}
use Rattle.aggregate.proofs.PlaceLemmas.{put_new, indexed_new}
use Rattle.aggregate.proofs.groups.Groups.push_group.Goals as goal

pub returns-clause-put : goal.returns-clause-put
returns-clause-put g c = λ new.
    let fields = map group_field_of c.args.fields.now in
    ap (map entry_of) c.in_ok-push.ensures.items
    ∙ map-append entry_of c.args.self.now.groups.items (c.in_ok-group.group ∷ [])
    ∙ ap (λ (e : Entry). entries_of c.args.self.now ++ e ∷ []) c.in_ok-group.ensures
    ∙ sym (put_new fields (g.S.PathSource.source c.args.document.now) (entries_of c.args.self.now) (id_value_of c.args.id) new)

pub returns-clause-indexed : goal.returns-clause-indexed
returns-clause-indexed g c = λ old text new.
    let group = c.in_ok-group.group in
    let texted = text ∙ ap tree_text (sym (ap (λ (e : Entry). e.0) c.in_ok-group.ensures)) in
    let len = c.len.ensures ∙ c.args.self.now.groups.ok.0 in
    indexed_new (map group_field_of c.args.fields.now) (g.S.PathSource.source c.args.document.now) c.args.self.now c.insert.new.self c.push.new.self
    c.args.text group
    (id_value_of c.args.id) old texted
    (λ q. c.in_ok-insert.ensures.updates.0 q ∙ ap (λ (n : ℕ). cond (same_text c.args.text q) (Some n) (get same_text c.args.self.now.places q)) len)
    c.in_ok-push.ensures.items
    (returns-clause-put g c new)
