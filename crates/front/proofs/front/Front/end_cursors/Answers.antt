use Rattle.std.proofs.Common.{◌+◌, refl, ap, arith}
use Rattle.front.specs.declared.front.Front.{Front}
use Rattle.front.proofs.RoundLemmas.{ends_more, ends_still}
use Rattle.driver_sockets.proofs.TyingLemmas.{tied_to_none}
use Rattle.front.proofs.front.Front.end_cursors.Goals as goal

pub returns-then-not-ended-clause-tied : goal.returns-then-not-ended-clause-tied
returns-then-not-ended-clause-tied g c =
    tied_to_none c.cursors.self.lending.loans c.end_cursor.new.lending.loans c.cursors.self.sockets.items c.cursors.invariant.tied c.end_cursor.ensures.none

pub returns-in_default-clause-tied : goal.returns-in_default-clause-tied
returns-in_default-clause-tied g c =
    tied_to_none c.cursors.self.lending.loans c.end_cursor.new.lending.loans c.cursors.self.sockets.items c.cursors.invariant.tied c.end_cursor.ensures.none

pub returns-then-not-ended-clause-ends : goal.returns-then-not-ended-clause-ends
returns-then-not-ended-clause-ends g c = record {
  times = c.cursors.times + 1;
  most = omega (arith, c.cursors-test.true);
  each = ends_more c.cursors.times _ _ _ c.cursors.invariant.each (record { ends = c.in-Ok.ensures.ends; cursors = refl; next_id = refl });
  rest = ap (λ (f : Front g.row.C.Denot g.row.D.Denot). record f { core = c.end_cursor.new.core; lending = c.end_cursor.new.lending }) c.cursors.invariant.rest;
}

pub returns-in_default-clause-ends : goal.returns-in_default-clause-ends
returns-in_default-clause-ends g c = record {
  times = c.cursors.times;
  most = omega (arith, c.cursors-test.true);
  each = ends_still c.cursors.times _ _ c.cursors.self.lending c.end_cursor.new.lending _ c.cursors.invariant.each c.in_default.ensures.nothing.0 refl
      c.in_default.ensures.nothing.1;
  rest = ap (λ (f : Front g.row.C.Denot g.row.D.Denot). record f { core = c.end_cursor.new.core; lending = c.end_cursor.new.lending }) c.cursors.invariant.rest;
}

pub returns-clause-ends : goal.returns-clause-ends
returns-clause-ends g c = record {
  times = c.cursors.times;
  most = omega (arith, c.cursors.auto.times-end);
  each = c.cursors.invariant.each;
  rest = c.cursors.invariant.rest;
}

pub cursors-preserved : goal.cursors-preserved
cursors-preserved g c = record {
  sound = c.end_cursor.ensures.sound;
  tied = tied_to_none c.cursors.self.lending.loans c.end_cursor.new.lending.loans c.cursors.self.sockets.items c.cursors.invariant.tied
      c.end_cursor.ensures.none;
  stands = c.cursors.invariant.stands;
  each = ends_more c.cursors.times _ _ _ c.cursors.invariant.each (record { ends = c.in-Ok.ensures.ends; cursors = refl; next_id = refl });
  rest = ap (λ (f : Front g.row.C.Denot g.row.D.Denot). record f { core = c.end_cursor.new.core; lending = c.end_cursor.new.lending }) c.cursors.invariant.rest;
}
