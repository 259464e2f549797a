use Rattle.std.proofs.Common.{Ok, Err}
use Rattle.std.proofs.lemmas.Result.{err_from_is_err_and}
use Rattle.page.specs.View.{content_of}
use Rattle.page.proofs.ReadLemmas.{model_planned}
use Rattle.page.proofs.page_image.PageImage.read.Goals as goal

pub returns-in_err-content : goal.returns-in_err-content
returns-in_err-content c =
    let p = err_from_is_err_and c.from_residual-in_err-content.result c.from_residual-in_err-content.ensures.1 in
    rw (p.1, p.2)
    (λ isnt. model_planned c.args.page c.args.generation c.in_ok-generation.generation c.read_u16-count.result c.args.bytes.now
    (Err c.in_err-content.field-0.0) c.told-bytes c.in_ok-generation.ensures c.read_u16-count.ensures (c.in_err-content.ensures.gives isnt))

pub returns : goal.returns
returns c =
    model_planned c.args.page c.args.generation c.in_ok-generation.generation c.read_u16-count.result c.args.bytes.now
    (Ok (content_of c.in_ok-content.content)) c.told-bytes c.in_ok-generation.ensures c.read_u16-count.ensures c.in_ok-content.ensures.gives
