use Rattle.std.proofs.Common.{subst, ◌≡◌, Ok, Err, Some, None}
use Rattle.std.proofs.lemmas.Result.{err_from_is_err_and}
use Rattle.collections.specs.Lookups.{AreBytesAt, IsPlaceOf, stored_at}
use Rattle.collections.proofs.BelowLemmas.{below_on, below_refused}
use Rattle.collections.proofs.FoundLemmas.{none_stored, one_stored}
use Rattle.collections.proofs.collections.Collections.document_from.Goals as goal

pub returns-in_err-bytes : goal.returns-in_err-bytes
returns-in_err-bytes g c =
    let p = err_from_is_err_and c.from_residual.result c.from_residual.ensures.1 in
    let at = IsPlaceOf c.args.number c.args.id.now in
    rw (p.1, p.2)
    (below_refused g.D.Disk.history c.args.root at at (λ now place found. AreBytesAt place found)
    (λ now place found. found ≡ stored_at place) c.args.self.now c.bytes_from.new.self c.in_err-bytes.field-0.0
    (λ now place so. (place, so)) c.in_err-bytes.ensures)

pub returns-in_default : goal.returns-in_default
returns-in_default g c =
    let at = IsPlaceOf c.args.number c.args.id.now in
    below_on g.D.Disk.history c.args.root at at (λ now place found. AreBytesAt place found)
    (λ now place found. found ≡ stored_at place) c.args.self.now c.bytes_from.new.self c.in_ok-bytes.field-0 (Ok None) c.in_ok-bytes.ensures
    (λ now place so. (place, so, λ b. none_stored place (subst (AreBytesAt place) c.in_default.is b)))

pub returns-in_err-spelled_in : goal.returns-in_err-spelled_in
returns-in_err-spelled_in g c =
    let p = err_from_is_err_and c.from_residual-in_err-spelled_in.result c.from_residual-in_err-spelled_in.ensures.1 in
    let e = c.in_err-spelled_in.field-0.0 in
    let at = IsPlaceOf c.args.number c.args.id.now in
    rw (p.1, p.2)
    (below_on g.D.Disk.history c.args.root at at (λ now place found. AreBytesAt place found)
    (λ now place found. found ≡ stored_at place) c.args.self.now c.bytes_from.new.self c.in_ok-bytes.field-0 (Err e) c.in_ok-bytes.ensures
    (λ now place so. (
      place,
      so,
      λ b. one_stored place c.in-Some.bytes (Err e) (subst (AreBytesAt place) c.in-Some.is b)
          (λ d storable same. c.in_err-spelled_in.ensures d storable same),
    )))

pub returns : goal.returns
returns g c =
    let d = c.in_ok-spelled_in.field-0 in
    let at = IsPlaceOf c.args.number c.args.id.now in
    below_on g.D.Disk.history c.args.root at at (λ now place found. AreBytesAt place found)
    (λ now place found. found ≡ stored_at place) c.args.self.now c.bytes_from.new.self c.in_ok-bytes.field-0 (Ok (Some d)) c.in_ok-bytes.ensures
    (λ now place so. (
      place,
      so,
      λ b. one_stored place c.in-Some.bytes (Ok d) (subst (AreBytesAt place) c.in-Some.is b)
          (λ d storable same. c.in_ok-spelled_in.ensures d storable same),
    ))
