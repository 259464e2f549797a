use Rattle.std.proofs.Common.{◌≡◌, ◌∙◌, ℕ, List, ap}
use Rattle.std.specs.Prelude.{Option, unwrap_or, replicate}
use Rattle.page.specs.History.{Sector}
use Rattle.page.specs.Latest.{bytes_in}
use Rattle.page.proofs.memory.MemDiskDisk.read.Goals as goal

pub returns-clause-value : goal.returns-clause-value
returns-clause-value c keeps =
    let found : c.unwrap_or.result ≡ bytes_in c.advance.new.self.latest c.args.sector =
    c.unwrap_or.ensures ∙ ap (λ (o : Option (List ℕ)). unwrap_or o (replicate 512 0)) (c.copied.ensures ∙ c.get.ensures.value) in
    found ∙ c.advance.new.self.current c.args.sector ∙ ap (λ (s : ℕ → Sector). (s c.args.sector).read) c.in_ok-advance.ensures.ok
