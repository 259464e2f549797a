use Rattle.std.proofs.Common.{◌≡◌, ℕ, Vec, Global, map, take, refl, subst}
use Rattle.index.specs.View.{texts_of}
use Rattle.walks.specs.Listed.{id_text_of}
use Rattle.collections.specs.Lookups.{ReadsOf}
use Rattle.command_model.specs.Find.{Query}
use Rattle.database_model.specs.Find.{matching}
use Rattle.sort.specs.Sort.{order}
use Rattle.asked_documents.specs.Asking.{IsAsked}
use Rattle.engine.proofs.LookingLemmas.{looks_so_of}
use Rattle.engine.proofs.NamedLemmas.{asked_at_home}
use Rattle.engine.proofs.engine.Engine.ordered_ids.Goals as goal

pub returns : goal.returns
returns g c =
    let history = g.D.Disk.history in
    let old = c.args.self.now in
    let new = record old { file = c.ordered_ids_in.new.file } in
    let q = c.args.query.now in
    let reads = subst
    (λ (x : Query). ReadsOf history (IsAsked c.args.home.now)
    (λ now of (found : Vec (Vec ℕ Global) Global). texts_of found.items
    ≡ map id_text_of (take c.args.most (order x.sort (matching x.filter of.documents)))) c.ordered_ids_in.result old.file c.ordered_ids_in.new.file)
    c.query.view_is c.ordered_ids_in.ensures in
    asked_at_home history c.args.home.now old new
    (λ now of (found : Vec (Vec ℕ Global) Global). texts_of found.items ≡ map id_text_of (take c.args.most (order q.sort
    (matching q.filter of.documents)))) c.ordered_ids_in.result c.requires
    (looks_so_of history old new c.requires refl refl refl (IsAsked c.args.home.now)
    (λ now of (found : Vec (Vec ℕ Global) Global). texts_of found.items ≡ map id_text_of (take c.args.most (order q.sort
    (matching q.filter of.documents)))) c.ordered_ids_in.result reads)
