use Rattle.roots.proofs.OpeningRules.{known_newer}
use Rattle.roots.proofs.opening.choose.Goals as goal

pub returns-in-Ok-Ok-clause-known : goal.returns-in-Ok-Ok-clause-known
returns-in-Ok-Ok-clause-known c =
    known_newer c.args.even.now c.args.odd.now c.in-Ok-Ok.first c.in-Ok-Ok.second c.newer_root.result c.in-Ok-Ok.ensures c.in-Ok-Ok.ensures'
    c.newer_root.ensures
