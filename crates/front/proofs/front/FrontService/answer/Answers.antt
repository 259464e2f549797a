use Rattle.std.proofs.Common.{refl, sym, ap, ◌∙◌}
use Rattle.front.specs.Fronting.{answers_from, closed_from}
use Rattle.driver_sockets.proofs.AloneLemmas.{stands_given}
use Rattle.driver_sockets.proofs.ReplyingLemmas.{when_ok}
use Rattle.front.proofs.RoundLemmas.{hands_out}
use Rattle.driver_sockets.proofs.TyingLemmas.{tied_given}
use Rattle.front.proofs.front.FrontService.answer.Goals as goal

pub returns-clause-sound : goal.returns-clause-sound
returns-clause-sound g c = (
  c.make_turn.ensures.sound,
  tied_given c.make_turn.new.self.lending.loans c.make_turn.new.self.sockets.len c.make_turn.new.self.sockets.items _ c.give_answers.new.sockets
      c.make_turn.ensures.tied c.deref_mut.ensures.value c.deref_mut.ensures.len c.give_answers.ensures.answered,
  stands_given c.make_turn.new.self.alone c.make_turn.new.self.sockets.len c.make_turn.new.self.sockets.items _ c.give_answers.new.sockets
      c.make_turn.ensures.stands c.deref_mut.ensures.value c.deref_mut.ensures.len c.give_answers.ensures.answered,
)

pub returns-clause-answered : goal.returns-clause-answered
returns-clause-answered g c = record {
  replies = answers_from 0 c.deref_mut.result.now;
  closed = closed_from 0 c.deref.result.now;
  between = c.give_answers.new.outlet;
  turn = record {
    ended = c.end_cursors.new.self;
    ends = c.end_cursors.ensures.ends;
    asked = c.ask_all.new.self;
    asks = c.ask_all.ensures.asks;
    turned = c.make_turn.new.self;
    turns = when_ok c.make_turn.result (sym c.is_err.ensures.value ∙ c.if-is_err.false) c.make_turn.ensures.turns;
    hands_out = hands_out c.make_turn.new.self.sockets.len c.make_turn.new.self.sockets.items c.deref_mut.result.now c.give_answers.new.sockets _ _
        c.deref_mut.ensures.value c.deref_mut.ensures.len c.give_answers.ensures.answered refl (ap (closed_from 0) c.deref.ensures.value);
    sound = (
      (c.end_cursors.ensures.sound, c.end_cursors.ensures.tied, c.end_cursors.ensures.stands),
      (c.ask_all.ensures.sound, c.ask_all.ensures.tied, c.ask_all.ensures.stands),
    );
    running = c.ask_all.ensures.running;
    rest = refl;
  };
  hands = c.give_answers.ensures.hands;
  closes = c.close_sockets.ensures;
}
