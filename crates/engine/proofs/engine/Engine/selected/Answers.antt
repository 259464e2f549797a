use Rattle.std.proofs.Common.{◌≡◌, Vec, Global, take, refl}
use Rattle.std.specs.List.{filter}
use Rattle.bson.specs.Tree.{Pairs}
use Rattle.asked_documents.specs.Asking.{IsAsked}
use Rattle.engine.proofs.LookingLemmas.{looks_so_of}
use Rattle.engine.proofs.NamedLemmas.{asked_at_home}
use Rattle.engine.proofs.engine.Engine.selected.Goals as goal

pub returns-clause-looks : goal.returns-clause-looks
returns-clause-looks g c =
    let history = g.D.Disk.history in
    let old = c.args.self.now in
    let new = record old { file = c.selected_in.new.file } in
    let p = g.S.DocumentPredicate.selects c.args.which.now in
    asked_at_home history c.args.home.now old new
    (λ now of (found : Vec Pairs Global). found.items ≡ take c.args.most (filter p of.documents)) c.selected_in.result c.requires
    (looks_so_of history old new c.requires refl refl refl (IsAsked c.args.home.now)
    (λ now of (found : Vec Pairs Global). found.items ≡ take c.args.most (filter p of.documents)) c.selected_in.result c.selected_in.ensures.reads)
