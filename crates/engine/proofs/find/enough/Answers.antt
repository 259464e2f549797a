use Rattle.std.proofs.Common.{subst}
use Rattle.command_model.specs.Find.{Query}
use Rattle.database_model.specs.Find.{FirstAreEnough}
use Rattle.engine.proofs.Finding.{all_suffice, front_suffices}
use Rattle.engine.proofs.find.enough.Goals as goal

pub returns : goal.returns
returns c =
    let opened :
    Query = record {
      filter = c.query.inside.filter;
      sort = c.query.inside.sort;
      skip = c.query.inside.skip;
      limit = c.query.inside.limit;
      projection = c.query.inside.projection;
    } in
    subst (λ (q : Query). FirstAreEnough q c.saturating_add.result) c.query.view_is
    (front_suffices opened c.saturating_add.result c.if-query-eq0.false c.saturating_add.ensures)

pub returns-then-query-eq0 : goal.returns-then-query-eq0
returns-then-query-eq0 c = all_suffice c.args.query.now
