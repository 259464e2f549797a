use Rattle.std.proofs.Common.{rules, refl, sym, subst}
use Rattle.std.specs.Prelude.{Ok, Err}
use Rattle.server.specs.declared.turn.TurnFault.TheVariants as turn_faults
use Rattle.server.specs.View.{frames_in, state}
use Rattle.front.specs.Rounds.{TakesEach, floor}
use Rattle.front.specs.Unread.{HaveReplies}
use Rattle.front.proofs.UnreadLemmas.{behind_turned, turn_has_replies, turn_is_open, turn_takes}
use Rattle.front.proofs.front.Front.make_turn.Goals as goal

pub take_replies-requires-clause-turned : goal.take_replies-requires-clause-turned
take_replies-requires-clause-turned g c =
    turn_takes g.D.Disk.history c.args.self.now.lending.loans c.args.self.now.core c.turn.new.self c.in-Ok.turn c.requires.sound c.in-Ok.ensures

pub take_replies-requires-clause-replied : goal.take_replies-requires-clause-replied
take_replies-requires-clause-replied g c =
    let loans = c.args.self.now.lending.loans in
    subst (HaveReplies loans) (sym c.deref.ensures.value)
    (turn_has_replies g.D.Disk.history loans c.args.self.now.core c.turn.new.self c.in-Ok.turn c.requires.sound c.in-Ok.ensures)

pub returns-in-Ok-clause-sound : goal.returns-in-Ok-clause-sound
returns-in-Ok-clause-sound g c =
    behind_turned g.D.Disk.history c.take_replies.new.self.lending.loans c.take_replies.new.self.core c.take_replies.ensures.turned
    c.take_replies.ensures.rest

pub returns-in-Ok-clause-turns : goal.returns-in-Ok-clause-turns
returns-in-Ok-clause-turns g c =
    let before = c.args.self.now in
    record {
      result = Ok c.in-Ok.turn;
      goes_on = λ e. absurd cc;
      after = c.turn.new.self;
      turns = c.in-Ok.ensures;
      takes = (
        turn_is_open g.D.Disk.history before.lending.loans before.core c.turn.new.self c.in-Ok.turn c.requires.sound c.in-Ok.ensures,
        subst (λ rs. TakesEach (frames_in rs) (record (floor before) { server = state c.turn.new.self }) (floor c.take_replies.new.self))
            c.deref.ensures.value c.take_replies.ensures.takes,
        c.take_replies.ensures.rest,
      );
      rest = c.take_replies.ensures.only;
    }

pub returns-in-Err-Memory-clause-turns : goal.returns-in-Err-Memory-clause-turns
returns-in-Err-Memory-clause-turns g c = record {
  result = Err turn_faults.Memory;
  goes_on = λ e. absurd cc;
  after = c.turn.new.self;
  turns = search rules;
  takes = refl;
  rest = refl;
}
