use Rattle.std.proofs.Common.{refl}
use Rattle.driver_fields.specs.Commands.{command_of}
use Rattle.driver_fields.specs.Rules.{rule_of}
use Rattle.drivers.proofs.laws.rows.Goals as goal

pub returns : goal.returns
unfolding rule_of command_of
returns c = record {
  hello = λ info. refl;
  session = λ info. refl;
  majority = λ info. refl;
  two_servers = λ info. refl;
  snapshot = λ info. refl;
  transaction = λ info. refl;
  no_hint = λ info. refl;
  hint = λ info. refl;
  unknown = λ info. refl;
  explain = λ info. refl;
  explain_hint = λ info. refl;
  distinct = λ info. refl;
  no_path = λ info. refl;
  insert = λ info. refl;
  background = λ info. refl;
  sparse = λ info. refl;
  index_comment = λ info. refl;
  no_array_filters = λ info. refl;
  statement_hint = λ info. refl;
  get_more = λ info. refl;
}
