use Rattle.std.proofs.Common.{rules, ◌≤◌, ◌+◌, length, arith}
use Rattle.bson.specs.Limits.{message_limit}
use Rattle.bson.specs.Spelling.{frame_of, pairs_bytes}
use Rattle.front.proofs.AskingLemmas.{reads_again}
use Rattle.front.proofs.asking.ask.Goals as goal

pub returns-in-Ok-feed-clause-asked : goal.returns-in-Ok-feed-clause-asked
returns-in-Ok-feed-clause-asked g c =
    let room : length (frame_of (pairs_bytes c.args.command.now)) + 21 ≤ message_limit = search rules in
    record {
      room = room;
      reads = reads_again c.args.command.now c.pairs-lawful.ensures.lawful (omega (arith, room));
      takes = search rules;
      came = search rules;
    }
