use Rattle.std.proofs.Common.{rules, ◌∙◌, sym}
use Rattle.front.proofs.TurningLemmas.{asks_alone_at, turn_alone}
use Rattle.front.proofs.front.Front.ask_alone.Goals as goal

pub returns-clause-asks : goal.returns-clause-asks
returns-clause-asks g c = λ e.
    turn_alone _ _ _ _ _ _ _ _ c.ask_one-others_may.ensures.first c.ask_one-others_may.ensures.others c.ask_one-others_may.ensures.serves
    (asks_alone_at c.args.self.now.sockets.items c.in-Some.number c.index.result.now (search rules) c.index.ensures
    (sym c.asks_alone.ensures ∙ c.if-not-asks_alone.false))
