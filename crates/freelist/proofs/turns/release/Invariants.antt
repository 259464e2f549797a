use Rattle.std.proofs.Common.{◌≡◌, drop}
use Rattle.freelist.specs.Book.{freed}
use Rattle.freelist.proofs.turns.release.Given as goal

abbrev pub invariant-waiting : goal.invariant-waiting
invariant-waiting l = freed l.pins (drop l.retirement-index l.retirement-items) l.pages ≡ freed l.pins l.retirement-items l.initial.pages
