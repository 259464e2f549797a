use Rattle.std.proofs.Common.{List, Result, Ok, map, sym, ap, ◌∙◌}
use Rattle.bson.specs.Tree.{Pairs}
use Rattle.path.specs.declared.refusal.Refusal.{Refusal}
use Rattle.aggregate_model.specs.Each.{just, behind}
use Rattle.pipelines.specs.GroupView.{group_field_of}
use Rattle.aggregate.specs.Groups.{entry_of, entries_of}
use Rattle.aggregate.specs.Table.{Entry, entry_document, entry_documents}
use Rattle.aggregate.specs.declared.groups.Group.{Group}
use Rattle.aggregate.proofs.EachLemmas.{each_more}
use Rattle.aggregate.proofs.groups.Groups.into_documents.Goals as goal

pub groups-preserved : goal.groups-preserved
groups-preserved c =
    let fields = map group_field_of c.args.fields.now in
    let begun = sym (ap (λ (gs : List Group). behind c.groups.given.items (entry_documents fields (map entry_of gs))) c.in-Some.ensures.steps.0)
    ∙ c.groups.invariant in
    each_more (λ (e : Entry). just (entry_document fields e)) c.groups.given.items c.push.new.self.items (entry_of c.in-Some.group)
    (map entry_of c.next.new.self.rest.items) (entry_documents fields (entries_of c.args.self))
    (ap (λ (r : Result Pairs Refusal). behind c.groups.given.items (just r)) c.in_ok-document.ensures
    ∙ ap (λ (ps : List Pairs). let r : Result (List Pairs) Refusal = Ok ps in r) (sym c.in_ok-push.ensures.items)) begun
