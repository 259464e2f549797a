use Rattle.std.proofs.Common.{ℕ, ap, subst}
use Rattle.page.specs.History.{now}
use Rattle.page.specs.Crash.{LeavesOnly, IsImageOutside}
use Rattle.page.specs.Page.{IsSectorOf}
use Rattle.roots.proofs.store.write_shared.Goals as goal

pub returns-clause-any_moment : goal.returns-clause-any_moment
returns-clause-any_moment g c =
    let h0 = g.D.Disk.history c.args.disk.now in
    let h1 = g.D.Disk.history c.write_page.new.disk in
    subst (λ (page : ℕ). LeavesOnly h0 h1 (IsImageOutside (now h0) (IsSectorOf page))) (ap (λ s. s.page) c.image-image.ensures) c.write_page.ensures.any_moment
