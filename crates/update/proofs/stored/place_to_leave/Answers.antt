use Rattle.std.proofs.Common.{◌≡◌, sym, ◌∙◌}
use Rattle.bson.specs.EditsLaws.{place-there}
use Rattle.update_model.specs.Stored.{id_name}
use Rattle.update_model.proofs.IdLemmas.{id_first-at, id_first-none, to_front-first}
use Rattle.update.proofs.stored.place_to_leave.Goals as goal

pub returns-in-None-clause-stays : goal.returns-in-None-clause-stays
returns-in-None-clause-stays c none = id_first-none c.args.document.now (sym c.position.ensures ∙ c.in-None.is)

pub returns-in-Some-eq0-clause-stays : goal.returns-in-Some-eq0-clause-stays
returns-in-Some-eq0-clause-stays c none =
    id_first-at c.args.document.now c.in-Some-eq0.field-0 c.levels-levels.ensures.lawful.lawful (sym c.position.ensures ∙ c.in-Some-eq0.is)
    ∙ to_front-first c.args.document.now c.in-Some-eq0.field-0 c.in-Some-eq0.field-0-test

pub returns-in-Some-clause-leaves : goal.returns-in-Some-clause-leaves
returns-in-Some-clause-leaves c =
    let is = sym c.position.ensures ∙ c.in-Some.is in (
      (place-there c.args.document.now id_name c.in-Some.at is).3,
      id_first-at c.args.document.now c.in-Some.at c.levels-levels.ensures.lawful.lawful is,
    )
