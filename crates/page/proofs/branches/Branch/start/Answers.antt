use Rattle.std.proofs.Common.{List, ap, ◌∙◌, sym, arith}
use Rattle.std.proofs.lemmas.List.{take_all}
use Rattle.page.specs.Content.{Pivot, pivots_size}
use Rattle.page.proofs.ChildPageLemmas.{now_long}
use Rattle.page.proofs.ExchangeLemmas.{start_seen}
use Rattle.page.proofs.branches.Branch.start.Goals as goal

pub returns-then-i-len : goal.returns-then-i-len
returns-then-i-len c =
    start_seen c.self.inside.bytes.items c.self.inside.places.items c.args.self.now c.self.invariant c.self.view_is c.args.i c.index.result.now
    c.requires.some (omega arith) c.index.ensures

pub returns : goal.returns
returns c =
    let bytes = c.self.inside.bytes.items in
    let places = c.self.inside.places.items in
    c.size.ensures
    ∙ ap (λ (l : List Pivot). pivots_size l)
    (sym (take_all c.args.i c.args.self.now (omega (arith, now_long bytes places c.args.self.now c.self.invariant c.self.view_is))))
