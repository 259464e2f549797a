use Rattle.std.proofs.Common.{◌≡◌, ℕ, List, [], ap, ◌∙◌}
use Rattle.std.specs.Prelude.{replicate}
use Rattle.page.specs.History.{Sector, now, reads}
use Rattle.page.specs.Memory.{memory_history}
use Rattle.database_model.specs.World.{new_world}
use Rattle.entry_model.specs.State.{Collection}
use Rattle.server.specs.ServerState.{ServerState}
use Rattle.server.proofs.AnewLemmas.{anew_empty, anew_word}
use Rattle.server.proofs.anew.run_anew.Goals as goal

pub returns-in-Ok : goal.returns-in-Ok
returns-in-Ok c =
    let first = c.in-Ok.core in
    let last = c.drive-out.new.self in
    let disk = c.new.result in
    let opened = c.in-Ok.ensures.opened in
    let drives = c.drive-out.ensures.drives in
    let even : reads (now (memory_history disk)) 0 ≡ replicate 512 0 = ap (λ (s : ℕ → Sector). (s 0).read) c.new.ensures.zeros in
    let odd : reads (now (memory_history disk)) 1 ≡ replicate 512 0 = ap (λ (s : ℕ → Sector). (s 1).read) c.new.ensures.zeros in
    record {
      first = first;
      running = opened.engine.running;
      drives = drives;
      empty = λ _. opened.alone
          ∙ ap (λ (cs : List Collection). let s : ServerState = record { world = record new_world { collections = cs }; connections = [] } in s)
          (anew_empty disk first opened even odd);
      word = anew_word disk first opened even odd last c.new.ensures.fresh.word drives.extends;
    }
