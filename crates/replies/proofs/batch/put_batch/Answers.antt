use Rattle.std.proofs.Common.{◌≡◌, ◌+◌, Bool, length, map, drop, refl, sym, subst, arith}
use Rattle.projection.specs.Projection.{project}
use Rattle.replies.specs.OpenBatch.{IsOffered}
use Rattle.replies.specs.View.{projected}
use Rattle.replies.proofs.BatchLoop.{projected_step, one_within, goes_further, ends, offered_all}
use Rattle.replies.proofs.CursorSpelling.{projected_len}
use Rattle.replies.proofs.batch.put_batch.Goals as goal

pub documents-init : goal.documents-init
documents-init g c = record { same_kind = refl; same_most = refl; given = c.requires.empty }

pub offer-requires : goal.offer-requires
offer-requires g c =
    let p = c.args.projection.now in
    let lent = g.T.Gives.document in
    let i = c.documents.i in
    one_within (projected p (map lent c.args.documents.now)) i (project p (lent c.index-documents-i.result))
    (drop (i + 1) (projected p (map lent c.args.documents.now)))
    (projected_step lent p c.args.documents.now i c.index-documents-i.result c.documents-test.true c.index-documents-i.is) c.requires.within

pub returns-then-not-branch : goal.returns-then-not-branch
returns-then-not-branch g c =
    let p = c.args.projection.now in
    let lent = g.T.Gives.document in
    let i = c.documents.i in
    let ds = projected p (map lent c.args.documents.now) in
    let d = project p (lent c.index-documents-i.result) in
    ends c.args.batch.now c.documents.batch c.offer.new.self ds i d (drop (i + 1) ds)
    (projected_step lent p c.args.documents.now i c.index-documents-i.result c.documents-test.true c.index-documents-i.is) c.documents.invariant
    (subst (λ (b : Bool). IsOffered c.documents.batch d b c.offer.new.self) c.if-not-branch.true c.in_ok-offer.ensures)

pub documents-preserved : goal.documents-preserved
documents-preserved g c =
    let p = c.args.projection.now in
    let lent = g.T.Gives.document in
    let i = c.documents.i in
    let ds = projected p (map lent c.args.documents.now) in
    let d = project p (lent c.index-documents-i.result) in
    goes_further c.args.batch.now c.documents.batch c.offer.new.self ds i d (drop (i + 1) ds)
    (projected_step lent p c.args.documents.now i c.index-documents-i.result c.documents-test.true c.index-documents-i.is) c.documents.invariant
    (subst (λ (b : Bool). IsOffered c.documents.batch d b c.offer.new.self) c.if-not-branch.false c.in_ok-offer.ensures)

pub returns : goal.returns
returns g c =
    let p = c.args.projection.now in
    let lent = g.T.Gives.document in
    let ds = projected p (map lent c.args.documents.now) in
    let many : length ds ≡ length c.args.documents.now = projected_len lent p c.args.documents.now in
    offered_all c.args.batch.now c.documents.batch ds c.documents.i _ c.documents.invariant (omega (arith, many, c.documents-test.false)) (sym many)
