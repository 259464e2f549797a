use Rattle.std.proofs.Common.{◌≡◌, ℕ, ◌+◌, ◌*◌, take}
use Rattle.page.specs.History.{KeepsWord, now, reads}
use Rattle.page.specs.Crash.{ExtendsHistory, LeavesOnly, IsImageOutside}
use Rattle.roots.specs.Image.{IsOnPages}
use Rattle.roots.specs.Turn.{AreWritten, LieBehind, numbers_of}
use Rattle.roots.proofs.store.write_made.Given as goal

abbrev pub invariant-loop-shared : goal.invariant-loop-shared
invariant-loop-shared g l =
    let start = g.D.Disk.history l.initial.disk in
    let h = g.D.Disk.history l.disk in
    record {
      extends : ExtendsHistory start h;
      calls : KeepsWord h → h.clock ≡ start.clock + 8 * l.shared-index;
      clear : KeepsWord h → h.failures ≡ start.failures;
      any_moment : LeavesOnly start h (IsImageOutside (now start) (IsOnPages (numbers_of l.made)));
      others : KeepsWord h → (k : ℕ) → (IsOnPages (numbers_of l.made) k → ⊥) → now h k ≡ now start k;
      written : KeepsWord h → LieBehind 0 l.made → AreWritten (reads (now h)) (take l.shared-index l.made);
    }
