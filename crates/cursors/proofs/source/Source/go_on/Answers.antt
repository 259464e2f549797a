use Rattle.std.proofs.Common.{Some, option_map, ap, sym, ◌∙◌}
use Rattle.cursors.specs.Changes.{onwards}
use Rattle.cursors.specs.View.{walk_in}
use Rattle.cursors.specs.declared.source.Source.{Source}
use Rattle.cursors.proofs.source.Source.go_on.Goals as goal

pub returns-in-Listed-clause-walk : goal.returns-in-Listed-clause-walk
returns-in-Listed-clause-walk c =
    ap Some (c.go_on-in-Listed.ensures.list c.args.from.items)
    ∙ ap (λ (s : Source). option_map (onwards c.args.count c.args.from.items) (walk_in s)) (sym c.in-Listed.is)
