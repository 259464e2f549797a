use Rattle.std.proofs.Common.{◌≡◌, [], ◌∷◌, Option, ap, ◌∙◌}
use Rattle.std.specs.Option.{option_and}
use Rattle.std.specs.Borrow.{Bor}
use Rattle.bson.specs.declared.value.Value.{Value}
use Rattle.plan_model.specs.Usable.{Usable}
use Rattle.plan_model.specs.Plan.{fields_of}
use Rattle.planner.specs.View.{index_of, values_of}
use Rattle.planner.proofs.FieldLemmas.{four_values}
use Rattle.planner.proofs.range.Leading.new.Goals as goal

pub returns : goal.returns
returns c =
    let a = c.asked_at.result.equal in
    let b = c.asked_at-2.result.equal in
    let d = c.asked_at-3.result.equal in
    let e = c.asked_at-4.result.equal in
    let second : c.and-second.result ≡ option_and a b = c.and-second.ensures in
    let third : c.and-third.result ≡ option_and (option_and a b) d = c.and-third.ensures ∙ ap (λ (o : Option (Bor Value)). option_and o d) second in
    let fourth : c.and-fourth.result ≡ option_and (option_and (option_and a b) d) e =
    c.and-fourth.ensures ∙ ap (λ (o : Option (Bor Value)). option_and o e) third in
    (λ i. values_of (a ∷ second i ∷ third i ∷ fourth i ∷ []))
    ∙ four_values c.args.filter.now (fields_of (index_of c.args.index)) a b d e c.asked_at.ensures.few
    (ap (λ (u : Usable). u.equal) c.asked_at.ensures.asked) (ap (λ (u : Usable). u.equal) c.asked_at-2.ensures.asked)
    (ap (λ (u : Usable). u.equal) c.asked_at-3.ensures.asked) (ap (λ (u : Usable). u.equal) c.asked_at-4.ensures.asked)
