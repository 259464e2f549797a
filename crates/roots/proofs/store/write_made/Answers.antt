use Rattle.std.proofs.Common.{◌≡◌, ◌+◌, ◌*◌, ◌≤◌, ◌∙◌, arith, ap, rules}
use Rattle.page.specs.History.{Sector, now, reads}
use Rattle.page.proofs.CallLemmas.{calls_all}
use Rattle.page.proofs.Moments.{goes_further}
use Rattle.roots.proofs.MadeLemmas.{on_pages_at, written_step, others_more, moments_more}
use Rattle.roots.proofs.store.write_made.Goals as goal

pub returns-in_err-write_shared-clause-any_moment : goal.returns-in_err-write_shared-clause-any_moment
returns-in_err-write_shared-clause-any_moment g c =
    let h0 = g.D.Disk.history c.args.disk.now in
    let h1 = g.D.Disk.history c.loop-shared.disk in
    let h2 = g.D.Disk.history c.write_shared.new.disk in
    let inv = c.loop-shared.invariant in
    let e = c.write_shared.ensures in
    moments_more h0 h1 h2 c.args.made.now _
    (λ k here. on_pages_at c.args.made.now c.loop-shared.shared-index k c.shared-item.result c.shared-item.is (omega arith) here) e.extends inv.others e.others
    inv.any_moment e.any_moment

pub returns-in_err-write_shared-clause-others : goal.returns-in_err-write_shared-clause-others
returns-in_err-write_shared-clause-others g c =
    let h0 = g.D.Disk.history c.args.disk.now in
    let h1 = g.D.Disk.history c.loop-shared.disk in
    let h2 = g.D.Disk.history c.write_shared.new.disk in
    let inv = c.loop-shared.invariant in
    let e = c.write_shared.ensures in
    others_more h0 h1 h2 c.args.made.now _
    (λ k here. on_pages_at c.args.made.now c.loop-shared.shared-index k c.shared-item.result c.shared-item.is (omega arith) here) e.extends inv.others e.others

pub returns-in_err-write_shared-clause-calls : goal.returns-in_err-write_shared-clause-calls
returns-in_err-write_shared-clause-calls g c =
    let h0 = g.D.Disk.history c.args.disk.now in
    let h1 = g.D.Disk.history c.loop-shared.disk in
    let h2 = g.D.Disk.history c.write_shared.new.disk in
    let e = c.write_shared.ensures in
    record {
      done = λ keeps. search rules;
      clear = λ keeps. search rules;
      most = λ keeps.
          let one : h2.clock ≤ h1.clock + 8 = e.calls.most keeps in
          let so_far : h1.clock ≡ h0.clock + 8 * c.loop-shared.shared-index = c.loop-shared.invariant.calls (e.extends.kept keeps) in omega arith;
    }

pub loop-shared-preserved : goal.loop-shared-preserved
loop-shared-preserved g c =
    let h0 = g.D.Disk.history c.args.disk.now in
    let h1 = g.D.Disk.history c.loop-shared.disk in
    let h2 = g.D.Disk.history c.write_shared.new.disk in
    let inv = c.loop-shared.invariant in
    let e = c.write_shared.ensures in
    let made = c.args.made.now in
    let i = c.loop-shared.shared-index in
    let x = c.shared-item.result in
    record {
      extends = goes_further h0 h1 h2 inv.extends e.extends;
      calls = λ keeps.
          let one : h2.clock ≡ h1.clock + 8 = c.in_ok-write_shared.ensures.calls.done keeps in
          let so_far : h1.clock ≡ h0.clock + 8 * i = inv.calls (e.extends.kept keeps) in omega arith;
      clear = λ keeps. c.in_ok-write_shared.ensures.calls.clear keeps ∙ inv.clear (e.extends.kept keeps);
      any_moment =
          moments_more h0 h1 h2 made _
          (λ k here. on_pages_at made i k x c.shared-item.is (omega arith) here) e.extends inv.others e.others inv.any_moment e.any_moment;
      others = others_more h0 h1 h2 made _ (λ k here. on_pages_at made i k x c.shared-item.is (omega arith) here) e.extends inv.others e.others;
      written = λ keeps lie.
          written_step (reads (now h1)) (reads (now h2)) made i x c.shared-item.is lie (omega arith)
          (λ k outside. ap (λ (y : Sector). y.read) (e.others keeps k outside)) (inv.written (e.extends.kept keeps) lie)
          (c.in_ok-write_shared.ensures.written keeps);
    }

pub returns-clause-calls : goal.returns-clause-calls
returns-clause-calls g c =
    let h0 = g.D.Disk.history c.args.disk.now in
    let h1 = g.D.Disk.history c.loop-shared.disk in
    calls_all _ h0 h1 _ (λ keeps. let so_far : h1.clock ≡ h0.clock + 8 * c.loop-shared.shared-index = c.loop-shared.invariant.calls keeps in omega arith)
    (λ keeps. c.loop-shared.invariant.clear keeps)
