use Rattle.std.proofs.Common.{rules, ℕ, Option, ◌∙◌, length, refl, sym, subst, arith}
use Rattle.server.specs.Durable.{is_stopped}
use Rattle.driver_sockets.specs.Alone.{StandsAlone}
use Rattle.driver_sockets.proofs.AloneLemmas.{between_turn}
use Rattle.front.proofs.TurningLemmas.{later_stay, served_more, served_none, served_past, turn_behind, turn_full, turn_last, turn_whole}
use Rattle.front.proofs.front.Front.ask_all.Goals as goal

pub returns-then-not-ask_one-clause-between : goal.returns-then-not-ask_one-clause-between
returns-then-not-ask_one-clause-between g c =
    between_turn c.args.self.now.lending.loans c.sockets.self.lending.loans c.ask_one.new.self.lending.loans c.ask_alone.new.self.alone
    c.args.self.now.sockets.items c.ask_alone.new.self.sockets.items c.sockets.self.sockets.items c.ask_one.new.self.sockets.items
    (c.ask_alone.ensures.none c.if-ask_alone.false) c.ask_alone.ensures.stands c.sockets.invariant.as_many c.sockets.invariant.stands
    c.ask_one.ensures.between

pub returns-then-not-has_rest-clause-asks : goal.returns-then-not-has_rest-clause-asks
returns-then-not-has_rest-clause-asks g c =
    turn_behind _ _ _ _ _ _ _ _ _ (c.ask_alone.ensures.none c.if-ask_alone.false).same c.ask_alone.ensures.first
    (c.ask_alone.ensures.same c.if-ask_alone.false)
    (turn_full _ c.sockets.self.sockets.items c.ask_alone.new.self.first _ _ _ _ _ _ _ c.index.result.now refl refl c.sockets.invariant.all_of
    c.sockets.invariant.as_many c.sockets-test.true c.index.ensures (sym c.waits.ensures ∙ c.if-not-waits.false) c.sockets.invariant.asked
    (λ any. c.sockets.invariant.as_were c.sockets.step any (omega arith) c.sockets-test.true) (search rules))

pub returns-then-not-ask_one-clause-asks : goal.returns-then-not-ask_one-clause-asks
returns-then-not-ask_one-clause-asks g c =
    turn_behind _ _ _ _ _ _ _ _ _ (c.ask_alone.ensures.none c.if-ask_alone.false).same c.ask_alone.ensures.first
    (c.ask_alone.ensures.same c.if-ask_alone.false)
    (turn_last _ c.sockets.self.sockets.items c.ask_one.new.self.sockets.items c.ask_alone.new.self.first _ _ _ _ _ _ _ _ c.index.result.now refl refl
    c.sockets.invariant.all_of c.sockets.invariant.as_many c.sockets-test.true c.index.ensures (sym c.waits.ensures ∙ c.if-not-waits.false)
    c.sockets.invariant.asked (λ any. c.sockets.invariant.as_were c.sockets.step any (omega arith) c.sockets-test.true) c.ask_one.ensures.others
    c.ask_one.ensures.serves (c.ask_one.ensures.alone c.if-not-ask_one.true))

pub returns-clause-asks : goal.returns-clause-asks
returns-clause-asks g c =
    turn_behind _ _ _ _ _ _ _ _ _ (c.ask_alone.ensures.none c.if-ask_alone.false).same c.ask_alone.ensures.first
    (c.ask_alone.ensures.same c.if-ask_alone.false)
    (turn_whole _ _ c.ask_alone.new.self.first _ _ _ _ _ _ _ refl c.sockets.invariant.first c.sockets.invariant.all_of
    (omega (arith, c.sockets-test.false)) c.sockets.invariant.asked)

pub sockets-init : goal.sockets-init
sockets-init g c =
    let none = c.ask_alone.ensures.none c.if-ask_alone.false in
    record {
      sound = c.ask_alone.ensures.sound;
      tied = c.ask_alone.ensures.tied;
      free = none.free;
      stands = subst (λ (a : Option ℕ). StandsAlone a c.ask_alone.new.self.sockets.items) none.free c.ask_alone.ensures.stands;
      running = refl {a = is_stopped c.ask_alone.new.self.core};
      as_many = refl {a = length c.ask_alone.new.self.sockets.items};
      all_of = search rules;
      first = refl;
      asked = served_none _ _ _ _ _;
      as_were = λ s any more within. refl;
    }

pub sockets-preserved-then-not-waits : goal.sockets-preserved-then-not-waits
sockets-preserved-then-not-waits g c = record {
  sound = c.sockets.invariant.sound;
  tied = c.sockets.invariant.tied;
  free = c.sockets.invariant.free;
  stands = c.sockets.invariant.stands;
  running = c.sockets.invariant.running;
  as_many = c.sockets.invariant.as_many;
  all_of = c.sockets.invariant.all_of;
  first = c.sockets.invariant.first;
  asked = served_past _ c.sockets.self.sockets.items _ _ _ _ _ _ c.index.result.now c.sockets.invariant.all_of c.sockets.invariant.as_many
      c.sockets-test.true c.index.ensures (sym c.waits.ensures ∙ c.if-not-waits.true) c.sockets.invariant.asked
      (λ any. c.sockets.invariant.as_were c.sockets.step any (omega arith) c.sockets-test.true);
  as_were = λ s any more within. c.sockets.invariant.as_were s any (omega (arith, more)) within;
}

pub sockets-preserved : goal.sockets-preserved
sockets-preserved g c = record {
  sound = c.ask_one.ensures.sound;
  tied = c.ask_one.ensures.tied;
  free = search rules;
  stands = search rules;
  running = c.ask_one.ensures.running ∙ c.sockets.invariant.running;
  as_many = c.ask_one.ensures.between.as_many ∙ c.sockets.invariant.as_many;
  all_of = c.sockets.invariant.all_of;
  first = c.ask_one.ensures.first ∙ c.sockets.invariant.first;
  asked = served_more _ c.sockets.self.sockets.items c.ask_one.new.self.sockets.items _ _ _ _ _ _ _ c.index.result.now c.sockets.invariant.all_of
      c.sockets.invariant.as_many c.sockets-test.true c.index.ensures (sym c.waits.ensures ∙ c.if-not-waits.false) c.sockets.invariant.asked
      (λ any. c.sockets.invariant.as_were c.sockets.step any (omega arith) c.sockets-test.true) c.ask_one.ensures.others c.ask_one.ensures.serves;
  as_were = λ s any more within.
      later_stay _ c.sockets.step s _ c.sockets.self.sockets.items c.ask_one.new.self.sockets.items any more within c.ask_one.ensures.others
      ∙ c.sockets.invariant.as_were s any (omega (arith, more)) within;
}
