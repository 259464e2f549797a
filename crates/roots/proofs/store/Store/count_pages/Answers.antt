use Rattle.std.proofs.Common.{rules, arith, ℕ, ◌≡◌, ◌∙◌, ap, length, max}
use Rattle.page.specs.History.{now, reads}
use Rattle.roots.specs.declared.root.Root.{Root}
use Rattle.roots.proofs.CountLemmas.{counts_are, counts_so}
use Rattle.roots.proofs.FreeLemmas.{file_failed}
use Rattle.roots.proofs.store.Store.count_pages.Goals as goal

pub returns-in_err-live-clause-counts : goal.returns-in_err-live-clause-counts
returns-in_err-live-clause-counts g c =
    counts_so g.D.Disk.history c.from_residual.result c.args.self.now c.live_pages.new.self c.live_pages.ensures.same
    (λ k. file_failed _ _ c.from_residual.result c.in_err-live.field-0.0 (search rules) (c.in_err-live.ensures.finds k))

pub returns-clause-counts : goal.returns-clause-counts
returns-clause-counts g c =
    let image = reads (now (g.D.Disk.history c.args.self.now.disk)) in
    let live = c.in_ok-live.live.items in
    let counts = c.counts_of.result in
    let many : c.len.result ≡ length live = omega (arith, c.len.ensures, c.in_ok-live.live.ok.0) in
    let pages : c.live_pages.new.self.root.pages ≡ c.args.self.now.root.pages = ap (λ (r : Root). r.pages) c.live_pages.ensures.same.root in
    counts_so g.D.Disk.history _ c.args.self.now c.live_pages.new.self c.live_pages.ensures.same
    (λ k. let there = (c.in_ok-live.ensures.finds k).reaches in record {
      live = live;
      reaches = there;
      are = counts_are image c.args.self.now.root live counts c.len.result there many (c.counts_of.ensures.pages ∙ ap (λ (n : ℕ). max n 1) pages)
          (λ few. c.counts_of.ensures.all (omega (arith, few, pages)));
    })
