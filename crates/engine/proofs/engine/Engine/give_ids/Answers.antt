use Rattle.std.proofs.Common.{List, sym, subst}
use Rattle.std.specs.Prelude.{All}
use Rattle.bson.specs.Tree.{Pairs}
use Rattle.command_model.specs.Find.{Query}
use Rattle.cursors.specs.Held.{listed}
use Rattle.database_model.specs.Find.{query_result}
use Rattle.database_model.specs.Lawful.{IsWithin}
use Rattle.database_model.specs.World.{documents_of}
use Rattle.index.specs.View.{texts_of}
use Rattle.pinned_cursors.specs.First.{GivesFirst}
use Rattle.statements.proofs.KeptLemmas.{stored_at}
use Rattle.engine.specs.View.{world}
use Rattle.engine.proofs.Finding.{found_within}
use Rattle.engine.proofs.FirstLemmas.{left_of_list, performs_first}
use Rattle.engine.proofs.engine.Engine.give_ids.Goals as goal

pub give_first-requires-clause-within : goal.give_first-requires-clause-within
give_first-requires-clause-within g c =
    let old = c.args.self.now in
    let name = c.args.namespace.now in
    subst (λ (ds : List Pairs). All IsWithin ds) (sym c.all_asked-rest.ensures)
    (found_within c.args.query.now (documents_of (world old).collections name) (stored_at (world old).collections name c.requires.sound.lawful.kept).1)

pub returns-clause-performs : goal.returns-clause-performs
returns-clause-performs g c =
    let history = g.D.Disk.history in
    let old = c.args.self.now in
    let name = c.args.namespace.now in
    let q = c.args.query.now in
    let home = c.args.home.now in
    let way = listed (texts_of c.args.texts.items) in
    let file = c.give_first.new.file in
    let held = c.give_first.new.cursors in
    let r = c.give_first.result in
    let asked = subst
    (λ (ds : List Pairs). GivesFirst history c.args.connection name home.number c.query.inside.projection way ds c.args.most r old.file file old.cursors held)
    c.all_asked-rest.ensures c.give_first.ensures.gives in
    performs_first history old c.requires.sound c.args.connection name q c.args.most file held home.number q.projection way
    (λ k. left_of_list history old c.requires.sound c.args.connection name q c.args.most home (texts_of c.args.texts.items) (c.requires.there k)) r
    (subst
    (λ (x : Query). GivesFirst history c.args.connection name home.number x.projection way (query_result q (documents_of (world old).collections name))
    c.args.most r old.file file old.cursors held)
    c.query.view_is asked)
    c.give_first.ensures.lawful

-- ---- the cursors that keep documents

pub returns-clause-keep : goal.returns-clause-keep
returns-clause-keep g c = c.give_first.ensures.gives.keep
