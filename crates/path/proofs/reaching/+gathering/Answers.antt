use Rattle.std.proofs.Common.{◌≡◌, ◌++◌, List, [], Some, None, map, drop, sym, ap, ◌∙◌, append-nil}
use Rattle.std.proofs.lemmas.List.{drop_all}
use Rattle.bson.specs.View.{tree, items_of}
use Rattle.bson.specs.declared.value.Value.{Value}
use Rattle.path.specs.Reach.{reach, in_elements}
use Rattle.path.specs.View.{reached}
use Rattle.path.proofs.WalkLemmas.{gathered, on_ok}
use Rattle.path.proofs.reaching.+gathering.Goals as goal

pub gather_items-returns-in-Some : goal.gather_items-returns-in-Some
gather_items-returns-in-Some t c =
    let none : drop c.items.item-index c.items-items.result.now ≡ [] = drop_all c.items.item-index c.items-items.result.now c.items-test.false in
    let begun = sym (ap (λ (vs : List Value). map reached c.items.out.items ++ in_elements (reach c.args.rest.now) c.args.part.now (items_of vs)) none)
    ∙ c.items.invariant in
    on_ok c.gather.result
    (λ given. gathered (reach c.args.rest.now) c.args.part.now (items_of c.items-items.result.now) c.args.array.now (Some (tree c.in-Some.item.now))
    (map reached c.args.out.now.items) (map reached c.items.out.items) (map reached c.gather.new.out.items)
    c.items-items.ensures.items c.in-Some.ensures begun given)
    c.gather.ensures

pub gather_items-returns-in-None : goal.gather_items-returns-in-None
gather_items-returns-in-None t c =
    let none : drop c.items.item-index c.items-items.result.now ≡ [] = drop_all c.items.item-index c.items-items.result.now c.items-test.false in
    let begun = sym (ap (λ (vs : List Value). map reached c.items.out.items ++ in_elements (reach c.args.rest.now) c.args.part.now (items_of vs)) none)
    ∙ c.items.invariant in
    gathered (reach c.args.rest.now) c.args.part.now (items_of c.items-items.result.now) c.args.array.now None (map reached c.args.out.now.items)
    (map reached c.items.out.items) (map reached c.items.out.items)
    c.items-items.ensures.items c.in-None.ensures begun (sym (append-nil (map reached c.items.out.items)))
