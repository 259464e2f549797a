use Rattle.std.proofs.Common.{◌≡◌, ℕ, List, Bool, true, false, cond, Some, sym, ap, subst, ◌∙◌, arith}
use Rattle.std.specs.Str.{bytes_eq}
use Rattle.bson.specs.Tree.{Pairs}
use Rattle.bson.specs.Lookup.{lookup}
use Rattle.bson.specs.Spelling.{Spells}
use Rattle.bson_bytes.specs.Raw.{pairs_spelled, value_spelled}
use Rattle.bson_bytes.proofs.RawLaws.{element_step, content_elements, pairs_spelled-is, Elements-spelled}
use Rattle.bson_bytes.proofs.raw.RawDoc.get.Goals as goal

pub elements-init : goal.elements-init
elements-init c =
    let spells = subst (Spells c.self.inside.bytes.now) c.self.view_is c.self.invariant in
    let content =
    content_elements c.self.inside.bytes.now c.split_at.result.1.now c.split_at-2.result.0.now c.args.self.now _ spells c.split_at.ensures.back
    (omega arith) c.split_at-2.ensures.front in (
      Elements-spelled c.split_at-2.result.0.now c.args.self.now content,
      ap (λ (ps : Pairs). lookup ps c.args.name.now) (pairs_spelled-is c.split_at-2.result.0.now c.args.self.now content),
    )

pub invariant_of-result : goal.invariant_of-result
invariant_of-result c =
    (element_step c.elements.rest.now c.in-Some.element.kind c.in-Some.element.name.now c.in-Some.element.value.now c.in-Some.element.rest.now c.args.name.now
    c.elements.invariant.0 c.in-Some.ensures).spelled

pub returns-then-eq : goal.returns-then-eq
returns-then-eq c =
    let step = element_step c.elements.rest.now c.in-Some.element.kind c.in-Some.element.name.now c.in-Some.element.value.now c.in-Some.element.rest.now
    c.args.name.now c.elements.invariant.0 c.in-Some.ensures in
    let here : bytes_eq c.args.name.now c.in-Some.element.name.now ≡ true =
    ap (λ (n : List ℕ). bytes_eq n c.in-Some.element.name.now) (sym c.as_bytes-wanted.ensures.value) ∙ sym c.eq.ensures ∙ c.if-eq.true in
    ap (λ (b : Bool). cond b (Some (value_spelled c.in-Some.element.kind c.in-Some.element.value.now))
    (lookup (pairs_spelled c.in-Some.element.rest.now) c.args.name.now)) (sym here) ∙ sym step.looked ∙ c.elements.invariant.1

pub elements-smaller : goal.elements-smaller
elements-smaller c =
    (element_step c.elements.rest.now c.in-Some.element.kind c.in-Some.element.name.now c.in-Some.element.value.now c.in-Some.element.rest.now c.args.name.now
    c.elements.invariant.0 c.in-Some.ensures).shorter

pub elements-preserved : goal.elements-preserved
elements-preserved c =
    let step = element_step c.elements.rest.now c.in-Some.element.kind c.in-Some.element.name.now c.in-Some.element.value.now c.in-Some.element.rest.now
    c.args.name.now c.elements.invariant.0 c.in-Some.ensures in
    let differ : bytes_eq c.args.name.now c.in-Some.element.name.now ≡ false =
    ap (λ (n : List ℕ). bytes_eq n c.in-Some.element.name.now) (sym c.as_bytes-wanted.ensures.value) ∙ sym c.eq.ensures ∙ c.if-eq.false in (
      step.elements,
      ap (λ (b : Bool). cond b (Some (value_spelled c.in-Some.element.kind c.in-Some.element.value.now))
          (lookup (pairs_spelled c.in-Some.element.rest.now) c.args.name.now)) (sym differ) ∙ sym step.looked ∙ c.elements.invariant.1,
    )
