use Rattle.std.proofs.Common.{map, arith}
use Rattle.update.specs.Moving.{move_of, put_all}
use Rattle.update.proofs.MovingLemmas.{put_on, put_stops, put_done}
use Rattle.update.proofs.StepLemmas.{refused}
use Rattle.update.proofs.moving.put_all.Goals as goal

pub moved-preserved : goal.moved-preserved
moved-preserved c =
    put_on c.moved.field-iterator.rest.items c.next.new.self.rest.items c.in-Some.field c.moved.document
    (put_all (map move_of c.args.moved.items) c.args.document) c.in-Some.ensures.steps.0 c.moved.invariant c.in_ok-document.document c.in_ok-document.ensures

pub returns-in_err-document : goal.returns-in_err-document
returns-in_err-document c =
    refused (λ d. d) _ c.from_residual.result c.in_err-document.field-0.0 c.from_residual.ensures.1
    (λ known. put_stops c.moved.field-iterator.rest.items c.next.new.self.rest.items c.in-Some.field c.moved.document
    (put_all (map move_of c.args.moved.items) c.args.document) c.in-Some.ensures.steps.0 c.moved.invariant c.in_err-document.field-0.0
    (c.in_err-document.ensures known))

pub returns : goal.returns
returns c =
    put_done c.moved.field-iterator.rest.items c.moved.document (put_all (map move_of c.args.moved.items) c.args.document)
    (omega (arith, c.moved.field-iterator.rest.ok, c.in-None.ensures.steps.0)) c.moved.invariant
