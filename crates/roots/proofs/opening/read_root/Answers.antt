use Rattle.page.proofs.Moments.{reads_further, reads_one}
use Rattle.roots.proofs.opening.read_root.Goals as goal

pub returns-clause-reads : goal.returns-clause-reads
returns-clause-reads g c =
    let h0 = g.D.Disk.history c.args.disk.now in
    let h1 = g.D.Disk.history c.read.new.self in
    let h2 = g.D.Disk.history c.read-2.new.self in
    reads_further h0 h1 h2 (reads_one h0 h1 _ c.read.ensures.time (λ keeps. c.read.ensures.same keeps))
    (reads_one h1 h2 _ c.read-2.ensures.time (λ keeps. c.read-2.ensures.same keeps))
