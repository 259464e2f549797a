use Rattle.std.proofs.Common.{rules, ◌≡◌, ◌∙◌, ap, codes, sym, subst, Option}
use Rattle.std.specs.Prelude.{is_none, if◌then◌else◌}
use Rattle.bson.specs.Lawful.{IsDocument}
use Rattle.bson.specs.Lookup.{lookup}
use Rattle.bson.specs.Tree.{Tree, scalar, object_id, pair, no_pairs}
use Rattle.bson.specs.View.{tree}
use Rattle.driver_replies.proofs.NewIdLemmas.{none_found, in_front, front_lawful}
use Rattle.driver_replies.proofs.new_ids.document_with_id.Goals as goal

pub from_pairs-requires : goal.from_pairs-requires
from_pairs-requires c =
    let id = scalar (object_id c.args.id) in
    let new = none_found (λ v. tree v.now) c.get.result (lookup c.args.document (codes "_id")) c.get.ensures (sym c.is_some.ensures ∙ c.if-is_some.false) in
    let front : c.put.new.document ≡ pair (codes "_id") (scalar (object_id c.args.id)) no_pairs = search rules in
    let first = subst IsDocument front c.into_pairs-pairs.ensures.lawful in
    let lawful = front_lawful (codes "_id") id c.args.document first c.into_pairs-others.ensures.lawful new in
    subst IsDocument (sym (in_front (codes "_id") id c.args.document c.into_pairs-pairs.result.items c.into_pairs-others.result.items c.append.new.self.items
    (c.into_pairs-pairs.ensures.pairs ∙ front) c.into_pairs-others.ensures.pairs c.in_ok-append.ensures.items)) lawful

pub returns : goal.returns
returns c =
    let id = scalar (object_id c.args.id) in
    let new = none_found (λ v. tree v.now) c.get.result (lookup c.args.document (codes "_id")) c.get.ensures (sym c.is_some.ensures ∙ c.if-is_some.false) in
    let front : c.put.new.document ≡ pair (codes "_id") (scalar (object_id c.args.id)) no_pairs = search rules in
    c.from_pairs.ensures
    ∙ in_front (codes "_id") id c.args.document c.into_pairs-pairs.result.items c.into_pairs-others.result.items c.append.new.self.items
    (c.into_pairs-pairs.ensures.pairs ∙ front) c.into_pairs-others.ensures.pairs c.in_ok-append.ensures.items
    ∙ sym (ap (λ (o : Option Tree). if is_none o then pair (codes "_id") id c.args.document else c.args.document) new)
