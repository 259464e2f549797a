use Rattle.std.proofs.Common.{rules, sym, ap, ◌∙◌}
use Rattle.std.specs.Prelude.{option_map}
use Rattle.bson.specs.View.{tree}
use Rattle.update.specs.View.{update_of}
use Rattle.statements.proofs.Applied.{applied, upserted_stored}
use Rattle.statements.proofs.statements.upsert_document.Goals as goal

pub unreachable-requires : goal.unreachable-requires
unreachable-requires c =
    let none = ap (λ o. option_map (λ v. tree v.now) o) (sym c.in_default.is) in
    let some = (applied (update_of c.statement.inside.change) c.in_ok-base.base c.in_ok-new.new c.in_ok-new.ensures).key in
    let no = none ∙ c.id_of.ensures ∙ some in
    cc

pub returns-clause-stored : goal.returns-clause-stored
returns-clause-stored c = upserted_stored c.args.statement.now c.in_ok-new.new (search rules)
