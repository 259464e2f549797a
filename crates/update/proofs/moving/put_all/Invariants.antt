use Rattle.std.proofs.Common.{◌≡◌, map}
use Rattle.update.specs.Moving.{move_of, put_all}
use Rattle.update.proofs.moving.put_all.Given as goal

abbrev pub invariant-moved : goal.invariant-moved
invariant-moved l = put_all (map move_of l.field-iterator.rest.items) l.document ≡ put_all (map move_of l.fn.moved.items) l.fn.document
