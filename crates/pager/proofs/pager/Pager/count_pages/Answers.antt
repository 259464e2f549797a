use Rattle.std.proofs.Common.{subst}
use Rattle.pager.specs.Calls.{OnlyRead}
use Rattle.pager.specs.Counting.{CountsPages}
use Rattle.pager.specs.State.{State}
use Rattle.pager.proofs.CountLemmas.{counts_so, kept_read}
use Rattle.pager.proofs.pager.Pager.count_pages.Goals as goal

pub invariant_of-self : goal.invariant_of-self
invariant_of-self g c =
    let i = c.self.inside in
    let counts = c.count_pages.ensures.counts in
    let only : OnlyRead g.D.Disk.history i.store c.count_pages.new.self = record
    { root = counts.root; stopped = counts.stopped; reads = c.count_pages.ensures.looks.reads; noted = counts.noted } in
    kept_read g.D.Disk.history i.store c.count_pages.new.self only i.made.items i.book i.cache i.listed.items c.self.invariant

pub returns : goal.returns
returns g c =
    let D = g.row.D.Denot in
    let history = g.D.Disk.history in
    let i = c.self.inside in
    let store = c.count_pages.new.self in
    let counts = c.count_pages.ensures.counts in
    let only : OnlyRead history i.store store = record
    { root = counts.root; stopped = counts.stopped; reads = c.count_pages.ensures.looks.reads; noted = counts.noted } in
    subst (λ (s : State D). CountsPages history c.count_pages.result s
    (record { store = store; made = i.made.items; retired = i.retired.items; book = i.book })) c.self.view_is
    (counts_so history i.store store only i.made.items i.book i.retired.items c.count_pages.result c.count_pages.ensures.looks counts)
