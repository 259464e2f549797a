use Rattle.std.proofs.Common.{refl, sym, ◌∙◌}
use Rattle.index_list.proofs.NewIndexLemmas.{differ_here, longer_differ, same_all, same_here}
use Rattle.index_list.proofs.new_indexes.are_same_fields.Goals as goal

pub returns-then-a-b : goal.returns-then-a-b
returns-then-a-b c = sym (longer_differ c.args.a.now c.args.b.now c.if-a-b.true)

pub fields-init : goal.fields-init
fields-init c = refl

pub returns-then-not-is_same_field : goal.returns-then-not-is_same_field
returns-then-not-is_same_field c =
    differ_here c.args.a.now c.args.b.now c.fields.at c.if-a-b.false c.fields.invariant c.index-a-at.result c.index-b-at.result c.fields-test.true
    c.index-a-at.is c.index-b-at.is
    (sym c.is_same_field.ensures ∙ c.if-not-is_same_field.true)

pub fields-preserved : goal.fields-preserved
fields-preserved c =
    same_here c.args.a.now c.args.b.now c.fields.at c.if-a-b.false c.fields.invariant c.index-a-at.result c.index-b-at.result c.fields-test.true
    c.index-a-at.is c.index-b-at.is
    (sym c.is_same_field.ensures ∙ c.if-not-is_same_field.false)

pub returns : goal.returns
returns c = same_all c.args.a.now c.args.b.now c.fields.at c.if-a-b.false c.fields.invariant c.fields-test.false
