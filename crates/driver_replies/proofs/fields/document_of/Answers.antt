use Rattle.driver_replies.proofs.FieldLemmas.{one_more, no_more}
use Rattle.driver_replies.proofs.fields.document_of.Goals as goal

pub fields-preserved : goal.fields-preserved
fields-preserved c =
    one_more _ _ _ _ _ _ c.fields-test.true c.in_ok-put.ensures c.in_ok-value.ensures c.fields.invariant

pub returns : goal.returns
returns c = no_more _ _ _ c.fields-test.false c.fields.invariant
