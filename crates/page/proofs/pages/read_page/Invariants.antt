use Rattle.std.proofs.Common.{◌≡◌, ◌*◌, length, take}
use Rattle.page.specs.History.{KeepsWord, now, reads}
use Rattle.page.specs.Crash.{ReadsOnly}
use Rattle.page.specs.Page.{bytes_from}
use Rattle.page.proofs.pages.read_page.Given as goal

abbrev pub invariant-loop-i : goal.invariant-loop-i
invariant-loop-i g l =
    let start = g.D.Disk.history l.initial.disk in
    let h = g.D.Disk.history l.disk in
    record {
      only : ReadsOnly start h;
      clear : KeepsWord h → h.failures ≡ start.failures;
      long : length l.bytes ≡ 4096;
      so_far : KeepsWord h → take (512 * l.i) l.bytes ≡ bytes_from (reads (now start)) (8 * l.page) l.i;
    }
