use Rattle.std.proofs.Common.{◌∙◌, arith}
use Rattle.driver_fields.specs.Commands.{command_of, commands_by_name}
use Rattle.driver_fields.proofs.TableLemmas.{from_length, between_lengths}
use Rattle.driver_fields.proofs.command.command_of.Goals as goal

pub returns-then-len-lt9 : goal.returns-then-len-lt9
unfolding command_of
returns-then-len-lt9 c =
    c.named-then-len-lt9.ensures ∙ between_lengths 6 9 commands_by_name c.args.name.now (omega (arith, c.if-len-lt6.false)) (omega (arith, c.if-len-lt9.true))

pub returns : goal.returns
unfolding command_of
returns c = c.named-2.ensures ∙ from_length 9 commands_by_name c.args.name.now (omega (arith, c.if-len-lt9.false))
