use Rattle.std.proofs.Common.{◌≡◌, ◌^◌, ◌-◌, ℕ, List, Some, Vec, Global, [], map, take, refl, sym, ap, subst, ◌∙◌, arith}
use Rattle.std.proofs.lemmas.List.{take_all}
use Rattle.std.proofs.lemmas.Result.{err_from_is_err_and}
use Rattle.bson.specs.Tree.{Pairs}
use Rattle.command_model.specs.Find.{Find, Query}
use Rattle.database_model.specs.Find.{given, matching, run_find, window}
use Rattle.database_model.specs.World.{World}
use Rattle.entry_model.specs.State.{Collection}
use Rattle.sort.specs.Sort.{order}
use Rattle.engine.specs.TakingOut.{HasHome}
use Rattle.engine.specs.View.{world}
use Rattle.engine.specs.Walking.{AreIdsAsked, AreOf}
use Rattle.index.specs.View.{texts_of}
use Rattle.walks.specs.Listed.{id_text_of}
use Rattle.engine.proofs.CataloguedLemmas.{IsCatalogueOf, has_home}
use Rattle.engine.proofs.Finding.{all_suffice, given_within_limits}
use Rattle.engine.proofs.FirstLemmas.{ids_asked}
use Rattle.engine.proofs.GivingLemmas.{gives_behind}
use Rattle.engine.proofs.KeepingPins.{pins_as_before}
use Rattle.engine.proofs.LookingLemmas.{collections_same, performs_behind, performs_memory, performs_refused, reads_trans, world_same}
use Rattle.engine.proofs.NamedLemmas.{of_home, of_no_home}
use Rattle.engine.proofs.OnlyReading.{word_before}
use Rattle.engine.proofs.WalkingLemmas.{found_ordered, ordered_of}
use Rattle.pinned_cursors.specs.Opening.{that_keep}
use Rattle.engine.proofs.engine.Engine.find_sorted.Goals as goal

pub returns-in_err-home-clause-performs : goal.returns-in_err-home-clause-performs
returns-in_err-home-clause-performs g c =
    let old = c.args.self.now in
    let asked : Find = record { namespace = c.args.namespace.now; query = c.args.query.now; batch_size = Some c.args.most } in
    let p = err_from_is_err_and c.from_residual.result c.from_residual.ensures.1 in
    rw (p.1, p.2)
    (performs_refused g.D.Disk.history old c.catalogued.new.self (run_find (world old) c.args.connection asked) c.in_err-home.field-0.0
    c.in_err-home.ensures.looks.reads c.in_err-home.ensures.looks.answers)

-- there is no collection of that name
pub returns-in_default-clause-performs : goal.returns-in_default-clause-performs
returns-in_default-clause-performs g c =
    let history = g.D.Disk.history in
    let old = c.args.self.now in
    let mid = c.catalogued.new.self in
    let q = c.args.query.now in
    let asked : Find = record { namespace = c.args.namespace.now; query = q; batch_size = Some c.args.most } in
    let looks = of_no_home history c.args.namespace.now old mid (λ ds (found : List Pairs). found ≡ take (2 ^ 64 - 1) (order q.sort (matching q.filter ds)))
    c.in_ok-home.field-0 c.in_ok-home.ensures.looks c.in_default.is [] (sym (take_all (2 ^ 64 - 1) [] (omega arith))) in
    gives_behind history old mid mid c.in_ok-home.ensures.looks.reads (pins_as_before mid.is_changed history mid.file mid.cursors mid.cursors refl) refl refl
    c.args.connection c.args.namespace.now (given q []) c.args.most (run_find (world old) c.args.connection asked) c.give_none.result c.requires.short
    (given_within_limits q [] (λ k d below. absurd (omega (arith, below)))) c.give_none.ensures.runs
    (λ k. found_ordered (world old) c.args.connection c.args.namespace.now q c.args.most (2 ^ 64 - 1) [] (all_suffice q) (looks.answers k) (omega arith))

pub returns-in_err-found-clause-performs : goal.returns-in_err-found-clause-performs
returns-in_err-found-clause-performs g c =
    let history = g.D.Disk.history in
    let old = c.args.self.now in
    let q = c.args.query.now in
    let asked : Find = record { namespace = c.args.namespace.now; query = q; batch_size = Some c.args.most } in
    let p = err_from_is_err_and c.from_residual-in_err-found.result c.from_residual-in_err-found.ensures.1 in
    let looks = of_home history c.args.namespace.now old c.catalogued.new.self
    (λ ds (found : Vec Pairs Global). found.items ≡ take c.enough-needed.result (order q.sort (matching q.filter ds)))
    c.in_ok-home.field-0 c.in_ok-home.ensures.looks c.ordered.new.self c.in-Some.home c.in-Some.is _ c.in_err-found.ensures.looks in
    rw (p.1, p.2)
    (performs_refused history old c.ordered.new.self (run_find (world old) c.args.connection asked) c.in_err-found.field-0.0 looks.reads looks.answers)

pub give_listed-requires-clause-there : goal.give_listed-requires-clause-there
give_listed-requires-clause-there g c = λ k.
    let history = g.D.Disk.history in
    let old = c.args.self.now in
    let mid = c.catalogued.new.self in
    let new = c.ordered.new.self in
    let name = c.args.namespace.now in
    let q = c.args.query.now in
    let found = c.in_ok-found.found in
    let first = c.in_ok-home.ensures.looks in
    let then = c.in_ok-found.ensures.looks in
    let is = subst (IsCatalogueOf name (world old).collections) c.in-Some.is (first.answers (word_before history mid.file new.file then.reads.continues k)) in
    let at = subst (λ (cs : List Collection). HasHome cs name c.in-Some.home) (sym (collections_same history old mid first.reads))
    (has_home (world old).collections name c.in-Some.home is) in
    subst (λ (cs : List Collection). AreOf cs name c.in-Some.home found.items) (sym (collections_same history mid new then.reads))
    (ordered_of (world mid).collections first.reads.sound.lawful.kept name c.in-Some.home at q.filter c.enough-needed.result q.sort found.items
    (then.answers k at.collection at.catalogued))

pub returns-then-needed-le-FEW-clause-performs : goal.returns-then-needed-le-FEW-clause-performs
returns-then-needed-le-FEW-clause-performs g c =
    let history = g.D.Disk.history in
    let old = c.args.self.now in
    let mid = c.ordered.new.self in
    let q = c.args.query.now in
    let asked : Find = record { namespace = c.args.namespace.now; query = q; batch_size = Some c.args.most } in
    let found = c.in_ok-found.found in
    let looks = of_home history c.args.namespace.now old c.catalogued.new.self
    (λ ds (found : Vec Pairs Global). found.items ≡ take c.enough-needed.result (order q.sort (matching q.filter ds)))
    c.in_ok-home.field-0 c.in_ok-home.ensures.looks mid c.in-Some.home c.in-Some.is _ c.in_ok-found.ensures.looks in
    gives_behind history old mid c.give_listed.new.self looks.reads c.give_listed.ensures.file
    (ap (λ t. t.value) c.give_listed.ensures.told) c.give_listed.ensures.has_changes c.args.connection c.args.namespace.now
    (given q found.items) c.args.most (run_find (world old) c.args.connection asked) c.give_listed.result c.requires.short
    (given_within_limits q found.items c.in_ok-found.ensures.within) c.give_listed.ensures.runs
    (λ k. found_ordered (world old) c.args.connection c.args.namespace.now q c.args.most c.enough-needed.result found.items c.enough-needed.ensures
    (looks.answers k) (omega (arith, found.ok.0, found.ok.1, found.small)))

-- ---- of many the `_id`s alone

pub returns-in_err-ids-clause-performs : goal.returns-in_err-ids-clause-performs
returns-in_err-ids-clause-performs g c =
    let history = g.D.Disk.history in
    let old = c.args.self.now in
    let q = c.args.query.now in
    let asked : Find = record { namespace = c.args.namespace.now; query = q; batch_size = Some c.args.most } in
    let p = err_from_is_err_and c.from_residual-in_err-ids.result c.from_residual-in_err-ids.ensures.1 in
    let looks = of_home history c.args.namespace.now old c.catalogued.new.self
    (λ ds (ids : Vec (Vec ℕ Global) Global). texts_of ids.items ≡ map id_text_of (take c.enough-needed.result (order q.sort (matching q.filter ds))))
    c.in_ok-home.field-0 c.in_ok-home.ensures.looks c.ordered_ids.new.self c.in-Some.home c.in-Some.is _ c.in_err-ids.ensures in
    rw (p.1, p.2)
    (performs_refused history old c.ordered_ids.new.self (run_find (world old) c.args.connection asked) c.in_err-ids.field-0.0 looks.reads looks.answers)

pub returns-in_err-asked-clause-performs : goal.returns-in_err-asked-clause-performs
returns-in_err-asked-clause-performs g c =
    let history = g.D.Disk.history in
    let old = c.args.self.now in
    let mid = c.ordered_ids.new.self in
    let asked : Find = record { namespace = c.args.namespace.now; query = c.args.query.now; batch_size = Some c.args.most } in
    let e = err_from_is_err_and c.from_residual-in_err-asked.result c.from_residual-in_err-asked.ensures.1 in
    let reads = reads_trans history old c.catalogued.new.self mid c.in_ok-home.ensures.looks.reads c.in_ok-ids.ensures.reads in
    rw e.1 (performs_memory history old mid (run_find (world old) c.args.connection asked) e.0 e.2 reads)

pub give_ids-requires-clause-there : goal.give_ids-requires-clause-there
give_ids-requires-clause-there g c = λ k.
    let history = g.D.Disk.history in
    let old = c.args.self.now in
    let mid = c.catalogued.new.self in
    let new = c.ordered_ids.new.self in
    let name = c.args.namespace.now in
    let q = c.args.query.now in
    let ids = c.in_ok-ids.ids in
    let texts = texts_of c.in_ok-asked.asked.items in
    let first = c.in_ok-home.ensures.looks in
    let then = c.in_ok-ids.ensures in
    let is = subst (IsCatalogueOf name (world old).collections) c.in-Some.is (first.answers (word_before history mid.file new.file then.reads.continues k)) in
    let at = subst (λ (cs : List Collection). HasHome cs name c.in-Some.home) (sym (collections_same history old mid first.reads))
    (has_home (world old).collections name c.in-Some.home is) in
    let whole : c.in_ok-asked.asked.items ≡ window q.skip q.limit ids.items =
    c.in_ok-asked.ensures ∙ ap (λ (x : Query). window x.skip x.limit ids.items) c.query.view_is in
    let one : AreIdsAsked (world mid).collections name c.in-Some.home q texts = record {
      at = at;
      ids = ids_asked q c.enough-needed.result at.collection.documents ids.items c.in_ok-asked.asked.items c.enough-needed.ensures
          (then.answers k at.collection at.catalogued) (omega (arith, ids.ok.0, ids.ok.1, ids.small)) whole;
    } in
    subst (λ (cs : List Collection). AreIdsAsked cs name c.in-Some.home q texts) (sym (collections_same history mid new then.reads)) one

pub returns-clause-performs : goal.returns-clause-performs
returns-clause-performs g c =
    let history = g.D.Disk.history in
    let old = c.args.self.now in
    let mid = c.ordered_ids.new.self in
    let asked : Find = record { namespace = c.args.namespace.now; query = c.args.query.now; batch_size = Some c.args.most } in
    let reads = reads_trans history old c.catalogued.new.self mid c.in_ok-home.ensures.looks.reads c.in_ok-ids.ensures.reads in
    performs_behind history old mid c.give_ids.new.self reads (run_find (world mid) c.args.connection asked)
    (run_find (world old) c.args.connection asked) c.give_ids.result c.give_ids.ensures.performs
    (λ k. ap (λ (w : World). run_find w c.args.connection asked) (world_same history old mid reads))

-- ---- the cursors that keep documents

pub returns-in_err-home-clause-keep : goal.returns-in_err-home-clause-keep
returns-in_err-home-clause-keep g c = ap that_keep c.in_err-home.ensures.looks.reads.cursors

pub returns-in_default-clause-keep : goal.returns-in_default-clause-keep
returns-in_default-clause-keep g c = ap that_keep c.in_ok-home.ensures.looks.reads.cursors

pub returns-in_err-found-clause-keep : goal.returns-in_err-found-clause-keep
returns-in_err-found-clause-keep g c = ap that_keep (c.in_err-found.ensures.looks.reads.cursors ∙ c.in_ok-home.ensures.looks.reads.cursors)

pub returns-then-needed-le-FEW-clause-keep : goal.returns-then-needed-le-FEW-clause-keep
returns-then-needed-le-FEW-clause-keep g c = c.give_listed.ensures.keep ∙ ap that_keep (c.in_ok-found.ensures.looks.reads.cursors
    ∙ c.in_ok-home.ensures.looks.reads.cursors)

pub returns-in_err-ids-clause-keep : goal.returns-in_err-ids-clause-keep
returns-in_err-ids-clause-keep g c = ap that_keep (c.in_err-ids.ensures.reads.cursors ∙ c.in_ok-home.ensures.looks.reads.cursors)

pub returns-in_err-asked-clause-keep : goal.returns-in_err-asked-clause-keep
returns-in_err-asked-clause-keep g c = ap that_keep (c.in_ok-ids.ensures.reads.cursors ∙ c.in_ok-home.ensures.looks.reads.cursors)

pub returns-clause-keep : goal.returns-clause-keep
returns-clause-keep g c = c.give_ids.ensures.keep ∙ ap that_keep (c.in_ok-ids.ensures.reads.cursors ∙ c.in_ok-home.ensures.looks.reads.cursors)
