use Rattle.std.proofs.Common.{◌≡◌, None, ◌++◌, length, take, drop, set, arith, ap, subst, sym, refl}
use Rattle.std.specs.Vec.{with_items}
use Rattle.std.proofs.lemmas.List.{drop_all}
use Rattle.server.specs.View.{frames_in, state}
use Rattle.front.specs.Rounds.{Floor, TakesEach, TakesOne, floor}
use Rattle.front.specs.declared.front.Front.{Front}
use Rattle.driver_sockets.proofs.AloneLemmas.{stands_written}
use Rattle.front.proofs.RoundLemmas.{left_on, takes_on, takes_one}
use Rattle.driver_sockets.proofs.TyingLemmas.{tied_written}
use Rattle.front.proofs.UnreadLemmas.{all_rest}
use Rattle.front.proofs.front.Front.take_replies.Goals as goal

pub replies-preserved : goal.replies-preserved
replies-preserved g c =
    let loans = c.replies.self.lending.loans in
    let ss = c.replies.self.sockets.items in
    let items = c.args.replies.now in
    let item = c.replies-item.result in
    let took = c.take_reply-taken in
    let mid : Floor = record {
      loans = took.new.lending.loans;
      sockets = take c.replies.self.sockets.len (took.new.sockets ++ drop (length took.new.sockets) ss);
      server = state took.new.core;
    } in
    record {
      turned = took.ensures.turned;
      tied = tied_written loans took.new.lending.loans _ c.replies.self.sockets.len ss _ took.new.sockets c.replies.invariant.tied took.ensures.rest
          c.deref_mut.ensures.value c.deref_mut.ensures.len took.ensures.others;
      stands = stands_written c.replies.self.alone loans _ c.replies.self.sockets.len ss _ took.new.sockets c.replies.invariant.tied
          c.deref_mut.ensures.value c.deref_mut.ensures.len took.ensures.others took.ensures.alone c.replies.invariant.stands;
      replied = left_on items c.replies.id-index item loans took.new.lending.loans c.replies-test.true
          (subst (λ x. took.new.lending.loans ≡ set loans x.0 None) c.replies-item.is took.ensures.rest) c.replies.invariant.replied;
      takes = λ last rest. c.replies.invariant.takes last (takes_on items c.replies.id-index item (floor c.replies.self) mid last
          c.replies-test.true
          (subst (λ x. TakesOne x.0 x.1.items (floor c.replies.self) mid) c.replies-item.is
          (subst (λ f. TakesOne item.0 f (floor c.replies.self) mid) c.deref.ensures.value
          (takes_one took.result item.0 _ loans took.new.lending.loans c.replies.self.sockets.len ss _ took.new.sockets
          (state c.replies.self.core) (state took.new.core) c.deref_mut.ensures.value c.deref_mut.ensures.len took.ensures.rest took.ensures.others
          took.ensures.takes took.ensures.closes took.ensures.server took.ensures.begins))) rest);
      only = ap
          (λ (f : Front g.row.C.Denot g.row.D.Denot). record f {
            core = took.new.core;
            sockets = with_items c.replies.self.sockets took.new.sockets;
            lending = took.new.lending;
            cursors = took.new.cursors;
          })
          c.replies.invariant.only;
    }

pub returns-clause-rest : goal.returns-clause-rest
returns-clause-rest g c =
    all_rest c.replies.self.lending.loans _ (drop_all c.replies.id-index c.args.replies.now (omega (arith, c.replies-test.false)))
    c.replies.invariant.replied

pub returns-clause-takes : goal.returns-clause-takes
returns-clause-takes g c =
    let none = drop_all c.replies.id-index c.args.replies.now (omega (arith, c.replies-test.false)) in
    c.replies.invariant.takes (floor c.replies.self)
    (subst (λ fs. TakesEach (frames_in fs) (floor c.replies.self) (floor c.replies.self)) (sym none) refl)
