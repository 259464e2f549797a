use Rattle.std.proofs.Common.{◌∙◌, arith}
use Rattle.driver_fields.specs.Rules.{rule_of, rules_by_name}
use Rattle.driver_fields.proofs.TableLemmas.{from_length, between_lengths}
use Rattle.driver_fields.proofs.rules.rule_of.Goals as goal

pub returns-then-len-lt12 : goal.returns-then-len-lt12
unfolding rule_of
returns-then-len-lt12 c =
    c.named-then-len-lt12.ensures ∙ between_lengths 9 12 rules_by_name c.args.name.now (omega (arith, c.if-len-lt9.false)) (omega (arith, c.if-len-lt12.true))

pub returns : goal.returns
unfolding rule_of
returns c = c.named-2.ensures ∙ from_length 12 rules_by_name c.args.name.now (omega (arith, c.if-len-lt12.false))
