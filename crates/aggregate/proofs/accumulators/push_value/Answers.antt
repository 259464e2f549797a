use Rattle.std.proofs.Common.{sym, ap, ◌∙◌}
use Rattle.std.specs.Prelude.{option_map}
use Rattle.bson.specs.View.{tree}
use Rattle.aggregate.specs.Found.{found_of}
use Rattle.aggregate.proofs.ArrayLemmas.{pushed_one}
use Rattle.aggregate.proofs.accumulators.push_value.Goals as goal

pub returns-in_ok-push-in-Some : goal.returns-in_ok-push-in-Some
returns-in_ok-push-in-Some c =
    pushed_one c.args.values.now.items c.push.new.self.items c.in-Some.value (found_of c.args.found) c.in_ok-push-in-Some.ensures.items
    (sym (ap (option_map tree) c.in-Some.is) ∙ c.in_ok-value.ensures)
