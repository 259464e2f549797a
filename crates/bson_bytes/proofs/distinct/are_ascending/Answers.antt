use Rattle.std.proofs.Common.{◌∙◌, sym, arith, []}
use Rattle.bson_bytes.proofs.TableLaws.{Lent, rising, rising_more, only_less}
use Rattle.bson_bytes.proofs.distinct.are_ascending.Goals as goal

none : Lent
none = record { ref_ptr = (0, 0); now = [] }

pub loop-i-preserved : goal.loop-i-preserved
loop-i-preserved c =
    rising_more c.args.names.now c.loop-i.i _ _ (omega arith) (omega arith)
    (sym c.cmp.ensures ∙ only_less c.cmp.result (sym c.ne.ensures ∙ c.if-ne.false)) c.loop-i.invariant

pub returns : goal.returns
returns c = λ _. rising c.args.names.now (λ k lt. c.loop-i.invariant k (omega arith))
