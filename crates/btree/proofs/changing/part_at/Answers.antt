use Rattle.std.proofs.Common.{◌∙◌, ◌++◌, ◌∷◌, ◌+◌, [], ap, sym, map, take, drop}
use Rattle.btree.specs.LooseView.{slot_in}
use Rattle.tree_model.proofs.ListLemmas.{map_append}
use Rattle.btree.proofs.LooseLemmas.{take_drop}
use Rattle.btree.proofs.changing.part_at.Goals as goal

pub returns-clause-parts : goal.returns-clause-parts
returns-clause-parts c =
    ap (map slot_in) (take_drop (c.args.at + 1) c.args.node.loose_slots.items)
    ∙ map_append slot_in (take (c.args.at + 1) c.args.node.loose_slots.items) (drop (c.args.at + 1) c.args.node.loose_slots.items)
    ∙ ap (λ us. map slot_in us ++ map slot_in (drop (c.args.at + 1) c.args.node.loose_slots.items)) (sym c.in-Ok.ensures.items ∙ c.in-Some.ensures.items)
    ∙ ap (λ ss. ss ++ map slot_in (drop (c.args.at + 1) c.args.node.loose_slots.items)) (map_append slot_in c.pop.new.self.items (c.in-Some.loose_slot ∷ []))
    ∙ ap (λ us. (map slot_in c.pop.new.self.items ++ slot_in c.in-Some.loose_slot ∷ []) ++ map slot_in us) (sym c.in-Ok.ensures.tail)
