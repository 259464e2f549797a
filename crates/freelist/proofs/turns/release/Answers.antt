use Rattle.std.proofs.Common.{rules}
use Rattle.std.proofs.lemmas.Fn.{filter_same}
use Rattle.freelist.specs.Book.{is_pinned}
use Rattle.freelist.specs.declared.turns.Retirement.{Retirement}
use Rattle.freelist.proofs.turns.release.Goals as goal

pub returns-clause-waiting : goal.returns-clause-waiting
returns-clause-waiting c =
    filter_same _ (λ (r : Retirement). is_pinned c.args.pins.now r.version) _ (λ x b f' k. search rules) _ _ c.retain.ensures.filtered
