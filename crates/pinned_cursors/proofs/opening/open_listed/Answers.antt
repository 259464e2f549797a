use Rattle.std.proofs.lemmas.Result.{err_from_is_err_and}
use Rattle.pinned_cursors.proofs.OpeningLemmas.{opens_none, opens_unpinned, opens_walk}
use Rattle.pinned_cursors.specs.Opening.{way_by}
use Rattle.pinned_cursors.proofs.opening.open_listed.Goals as goal

pub returns-in_err-version : goal.returns-in_err-version
returns-in_err-version g c =
    let e = err_from_is_err_and c.from_residual.result c.from_residual.ensures.1 in
    rw e.1
    (opens_unpinned g.D.Disk.history c.args.connection c.args.namespace.now c.args.left.number c.args.left.projection.now
    (way_by c.args.left) c.args.rest.value c.args.file.now c.args.cursors.now e.0 c.pin.new.self
    c.in_err-version.ensures.err)

pub returns-in-Ok : goal.returns-in-Ok
returns-in-Ok g c =
    opens_walk g.D.Disk.history c.args.connection c.args.namespace.now c.args.left.number c.args.left.projection.now
    (way_by c.args.left) c.args.rest.value c.args.file.now c.args.cursors.now c.in_ok-version.version
    c.pin.new.self c.in_ok-version.ensures c.open_list.new.cursors c.in-Ok.ensures.ok

pub returns-in-Err : goal.returns-in-Err
returns-in-Err g c =
    opens_none g.D.Disk.history c.args.connection c.args.namespace.now c.args.left.number c.args.left.projection.now
    (way_by c.args.left) c.args.rest.value c.args.file.now c.args.cursors.now c.in_ok-version.version
    c.pin.new.self c.in_ok-version.ensures c.in-Err.fault c.unpin.new.self c.open_list.new.cursors c.in-Err.ensures.err c.unpin.ensures
