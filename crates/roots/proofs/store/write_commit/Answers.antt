use Rattle.std.proofs.Common.{◌+◌, ◌*◌, ◌≤◌, length, arith, rules}
use Rattle.page.proofs.CallLemmas.{calls_further}
use Rattle.roots.proofs.MovesLemmas.{cut, moved}
use Rattle.page.specs.History.{now, reads}
use Rattle.roots.proofs.MadeLemmas.{ok_anyway, written_apart}
use Rattle.roots.proofs.store.write_commit.Goals as goal

pub returns-in_err-write_made-clause-calls : goal.returns-in_err-write_made-clause-calls
returns-in_err-write_made-clause-calls g c =
    let h0 = g.D.Disk.history c.args.disk.now in
    let h1 = g.D.Disk.history c.write_made.new.disk in
    record {
      done = λ keeps. search rules;
      clear = λ keeps. search rules;
      most = λ keeps. let most : h1.clock ≤ h0.clock + 8 * length c.args.made.now = c.write_made.ensures.calls.most keeps in omega arith;
    }

pub returns-clause-calls : goal.returns-clause-calls
returns-clause-calls g c =
    let h0 = g.D.Disk.history c.args.disk.now in
    let h1 = g.D.Disk.history c.write_made.new.disk in
    let h2 = g.D.Disk.history c.replace.new.disk in
    calls_further _ c.replace.result h0 h1 h2 (8 * length c.args.made.now) 3 c.replace.ensures.extends.kept c.in_ok-write_made.ensures.calls
    c.replace.ensures.calls

pub returns-in_err-write_made-clause-moves : goal.returns-in_err-write_made-clause-moves
returns-in_err-write_made-clause-moves g c root before live keeps after pages turn is few =
    let e = c.write_made.ensures in
    cut (g.D.Disk.history c.args.disk.now)
    (g.D.Disk.history c.write_made.new.disk) root c.args.root live pages c.args.made.now before after keeps turn e.extends e.others e.any_moment
    c.from_residual.result (search rules)

pub returns-clause-moves : goal.returns-clause-moves
returns-clause-moves g c root before live keeps after pages turn is few =
    let e = c.write_made.ensures in
    let r = c.replace.ensures in
    moved (g.D.Disk.history c.args.disk.now)
    (g.D.Disk.history c.write_made.new.disk) root c.args.root live pages c.args.made.now before after keeps turn e.extends e.others e.any_moment
    (g.D.Disk.history c.replace.new.disk) is few (λ k. c.in_ok-write_made.ensures.written k turn.ascending)
    c.sector.result c.sector.ensures r.extends r.any_moment c.replace.result r.synced r.reads

pub returns-clause-written : goal.returns-clause-written
returns-clause-written g c k lie =
    let k1 = c.replace.ensures.extends.kept k in
    ok_anyway c.replace.result _
    (written_apart (reads (now (g.D.Disk.history c.write_made.new.disk))) (reads (now (g.D.Disk.history c.replace.new.disk))) 0 c.args.made.now
    (λ n le. c.replace.ensures.others k n (search rules)) lie (c.in_ok-write_made.ensures.written k1 lie))
