use Rattle.std.proofs.Common.{◌≡◌, Vec, Global, take, refl, subst}
use Rattle.bson.specs.Tree.{Pairs}
use Rattle.collections.specs.Lookups.{ReadsOf}
use Rattle.command_model.specs.Find.{Query}
use Rattle.database_model.specs.Find.{matching}
use Rattle.sort.specs.Sort.{order}
use Rattle.asked_documents.specs.Asking.{IsAsked}
use Rattle.engine.proofs.LookingLemmas.{looks_so_of}
use Rattle.engine.proofs.NamedLemmas.{asked_at_home}
use Rattle.engine.proofs.engine.Engine.ordered.Goals as goal

pub returns-clause-looks : goal.returns-clause-looks
returns-clause-looks g c =
    let history = g.D.Disk.history in
    let old = c.args.self.now in
    let new = record old { file = c.ordered_in.new.file } in
    let q = c.args.query.now in
    let reads = subst
    (λ (x : Query). ReadsOf history (IsAsked c.args.home.now)
    (λ now of (found : Vec Pairs Global). found.items
    ≡ take c.args.most (order x.sort (matching x.filter of.documents))) c.ordered_in.result old.file c.ordered_in.new.file)
    c.query.view_is c.ordered_in.ensures.reads in
    asked_at_home history c.args.home.now old new
    (λ now of (found : Vec Pairs Global). found.items ≡ take c.args.most (order q.sort (matching q.filter of.documents))) c.ordered_in.result c.requires
    (looks_so_of history old new c.requires refl refl refl (IsAsked c.args.home.now)
    (λ now of (found : Vec Pairs Global). found.items ≡ take c.args.most (order q.sort (matching q.filter of.documents))) c.ordered_in.result reads)
