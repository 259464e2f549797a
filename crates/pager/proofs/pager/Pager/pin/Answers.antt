use Rattle.std.proofs.Common.{length, ◌∙◌, ap}
use Rattle.freelist.specs.Book.{Book}
use Rattle.roots.specs.declared.root.Root.{Root}
use Rattle.pager.specs.State.{State}
use Rattle.pager.proofs.VersionLemmas.{kept_pinned, pins_done, pins_failed}
use Rattle.pager.proofs.pager.Pager.pin.Goals as goal

pub returns-in_err-pin : goal.returns-in_err-pin
returns-in_err-pin g c =
    let i = c.self.inside in
    record {
      pins = pins_failed g.D.Disk.history i.store i.cache i.made.items i.retired.items i.book c.self.invariant c.args.root c.from_residual.result c.pin.new.self
          c.args.self.now c.self.view_is c.from_residual.ensures.0 c.in_err-pin.ensures.err;
      limit = ap (λ (b : Book). length b.states) c.in_err-pin.ensures.err ∙ ap (λ (s : State g.row.D.Denot). length s.book.states) c.self.view_is;
    }

pub invariant_of-self-2 : goal.invariant_of-self-2
invariant_of-self-2 g c =
    let i = c.self.inside in
    kept_pinned g.D.Disk.history i.store i.cache i.made.items i.book c.root-generation.result.generation c.pin.new.self c.in_ok-pin.ensures.pinned
    c.self.invariant

pub returns : goal.returns
returns g c =
    let i = c.self.inside in
    record {
      pins = pins_done g.D.Disk.history i.store i.cache i.made.items i.retired.items i.book c.self.invariant c.args.root c.root-generation.result.generation
          c.pin.new.self c.args.self.now c.self.view_is (ap (λ (r : Root). r.generation) c.root-generation.ensures) c.in_ok-pin.ensures.pinned;
      limit = ap (λ (b : Book). length b.states) c.in_ok-pin.ensures.pinned ∙ ap (λ (s : State g.row.D.Denot). length s.book.states) c.self.view_is;
    }
