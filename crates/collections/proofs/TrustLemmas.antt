-- What collections have on a disk that is trusted.
use Rattle.std.proofs.Common.{rules}
use Rattle.std.specs.Prelude.{IsTrue}
use Rattle.page.specs.History.{History, KeepsWord}
use Rattle.pager.specs.Trusting.{trusting_pager}
use Rattle.pager.proofs.TrustLemmas.{begun_trusting, turn_trusting}
use Rattle.collections.specs.Standing.{IsTurnOf}
use Rattle.collections.specs.Trusting.{TrustingKeepsState}
use Rattle.collections.specs.View.{disk_history}

pub trusting_keeps_state : {D : Type 0} (history : D → History) → TrustingKeepsState history
trusting_keeps_state history b c start now has running k =
    let both : IsTrue b = search rules in
    let kept : KeepsWord (disk_history history c) = search rules in
    let t : IsTurnOf history c start now = has both running kept in
    record {
      began = trusting_pager b t.began;
      live = t.live;
      before = t.before;
      begun = begun_trusting history b both t.began t.live t.before t.begun;
      spells_start = t.spells_start;
      start_state = t.start_state;
      pages = t.pages;
      after = t.after;
      turn = turn_trusting history b both t.began c.pager c.root t.live t.pages t.after t.turn;
      spells_now = t.spells_now;
      now_state = t.now_state;
    }
