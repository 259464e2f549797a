use Rattle.std.proofs.Common.{◌≡◌, Some, sym, ap, subst, ◌∙◌}
use Rattle.bson.specs.Edits.{PushFault}
use Rattle.bson.specs.Lookup.{lookup}
use Rattle.bson.specs.View.{tree}
use Rattle.bson.specs.declared.fault.BuildFault.{BuildFault}
use Rattle.replies.proofs.Replying.{lacks}
use Rattle.queries.specs.SortedIds.{HasNoOther, IsPartOf}
use Rattle.queries.proofs.SortedIdLemmas.{grows, none_there}
use Rattle.queries.proofs.sorted_ids.take_over.Goals as goal

pub unreachable-requires-in-Err-Repeated : goal.unreachable-requires-in-Err-Repeated
unreachable-requires-in-Err-Repeated c =
    let part = c.args.part.now in
    let name = c.args.name.now in
    let none = none_there (λ v. tree v.now) c.get.result (lookup part name) c.get.ensures (sym c.is_some.ensures ∙ c.if-is_some.false) in
    let fault = subst (λ (e : BuildFault). PushFault part name (tree c.in_ok-value.field-0) e) c.in-Err-Repeated.field-0-is c.in-Err-Repeated.ensures.fault in
    fault.1 (lacks part name none)

pub returns-in-Ok-clause-part : goal.returns-in-Ok-clause-part
returns-in-Ok-clause-part c =
    let part = c.args.part.now in
    let name = c.args.name.now in
    let d = c.args.document.now in
    let t = tree c.in_ok-value.field-0 in
    let none = none_there (λ v. tree v.now) c.get.result (lookup part name) c.get.ensures (sym c.is_some.ensures ∙ c.if-is_some.false) in
    let has : lookup d name ≡ Some t = sym c.get-2.ensures ∙ c.in-Some.is ∙ ap Some (sym c.in_ok-value.ensures) in
    let more = grows part name t d c.requires.part none has in
    subst (λ ps. IsPartOf ps d) (sym c.in-Ok.ensures.ok) more.part

pub returns-in-Ok-clause-kept : goal.returns-in-Ok-clause-kept
returns-in-Ok-clause-kept c =
    let part = c.args.part.now in
    let name = c.args.name.now in
    let d = c.args.document.now in
    let t = tree c.in_ok-value.field-0 in
    let none = none_there (λ v. tree v.now) c.get.result (lookup part name) c.get.ensures (sym c.is_some.ensures ∙ c.if-is_some.false) in
    let has : lookup d name ≡ Some t = sym c.get-2.ensures ∙ c.in-Some.is ∙ ap Some (sym c.in_ok-value.ensures) in
    let more = grows part name t d c.requires.part none has in
    subst (IsPartOf part) (sym c.in-Ok.ensures.ok) more.kept

pub returns-in-Ok-clause-same : goal.returns-in-Ok-clause-same
returns-in-Ok-clause-same c =
    let part = c.args.part.now in
    let name = c.args.name.now in
    let d = c.args.document.now in
    let t = tree c.in_ok-value.field-0 in
    let none = none_there (λ v. tree v.now) c.get.result (lookup part name) c.get.ensures (sym c.is_some.ensures ∙ c.if-is_some.false) in
    let has : lookup d name ≡ Some t = sym c.get-2.ensures ∙ c.in-Some.is ∙ ap Some (sym c.in_ok-value.ensures) in
    let more = grows part name t d c.requires.part none has in
    subst (λ ps. lookup ps name ≡ lookup d name) (sym c.in-Ok.ensures.ok) more.same

pub returns-in-Ok-clause-only : goal.returns-in-Ok-clause-only
returns-in-Ok-clause-only c =
    let part = c.args.part.now in
    let name = c.args.name.now in
    let d = c.args.document.now in
    let t = tree c.in_ok-value.field-0 in
    let none = none_there (λ v. tree v.now) c.get.result (lookup part name) c.get.ensures (sym c.is_some.ensures ∙ c.if-is_some.false) in
    let has : lookup d name ≡ Some t = sym c.get-2.ensures ∙ c.in-Some.is ∙ ap Some (sym c.in_ok-value.ensures) in
    let more = grows part name t d c.requires.part none has in
    subst (HasNoOther name part) (sym c.in-Ok.ensures.ok) more.only
