use Rattle.std.proofs.Common.{sym, ap, ◌∙◌, List, ℕ, drop}
use Rattle.std.specs.Prelude.{Vec, slice_get}
use Rattle.std.specs.Global.{Global}
use Rattle.op_msg.specs.Request.{document_alone, document_in}
use Rattle.program.proofs.CommandLemmas.{range_behind, says_first}
use Rattle.program.proofs.in_process.document_of.Goals as goal

pub returns-in-Ok-clause-says : goal.returns-in-Ok-clause-says
returns-in-Ok-clause-says c =
    let frame = c.deref-2.result.now in
    let body = c.in-Some-get.body.now in
    let behind = range_behind frame body 21 c.in-Some-get.ensures.lookup.0.2 in
    says_first c.args.turn.now.replies.items c.in-Some.field-0.now c.in-Ok.document
    (c.in-Some.ensures.value ∙ ap (λ (xs : List (ℕ × Vec ℕ Global)). slice_get xs 0) c.deref.ensures.value)
    (ap (λ (bs : List ℕ). document_in (drop 21 bs)) (sym c.deref-2.ensures.value) ∙ ap document_in behind ∙ ap document_alone c.in-Ok.ensures.gives)
