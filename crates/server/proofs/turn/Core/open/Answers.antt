use Rattle.std.proofs.Common.{rules}
use Rattle.server.proofs.turn.Core.open.Goals as goal

pub returns-in-Ok-clause-opened : goal.returns-in-Ok-clause-opened
returns-in-Ok-clause-opened g c =
    let opened = c.in-Ok.ensures.opened in
    record {
      sound = record {
        engine = opened.sound;
        idle = opened.idle;
        rested = search rules;
        clean = opened.clean;
        ascending = search rules;
      };
      engine = opened;
      alone = search rules;
    }
