use Rattle.std.proofs.Common.{length, ◌∙◌, ap}
use Rattle.freelist.specs.Book.{Book}
use Rattle.pager.specs.State.{State}
use Rattle.pager.proofs.LimitLemmas.{unpinned_limit}
use Rattle.pager.proofs.VersionLemmas.{kept_unpinned, unpins_done}
use Rattle.pager.proofs.pager.Pager.unpin.Goals as goal

pub invariant_of-self : goal.invariant_of-self
invariant_of-self g c =
    let i = c.self.inside in
    kept_unpinned g.D.Disk.history i.store i.cache i.made.items i.book c.args.version.generation c.unpin.new.self c.unpin.ensures c.self.invariant

pub returns : goal.returns
returns g c =
    let i = c.self.inside in
    record {
      unpins = unpins_done g.D.Disk.history i.store i.cache i.made.items i.retired.items i.book c.self.invariant c.args.version c.unpin.new.self
          c.args.self.now c.self.view_is c.unpin.ensures;
      limit = ap (λ (b : Book). length b.states) c.unpin.ensures ∙ unpinned_limit c.args.version.generation i.book
          ∙ ap (λ (s : State g.row.D.Denot). length s.book.states) c.self.view_is;
    }
