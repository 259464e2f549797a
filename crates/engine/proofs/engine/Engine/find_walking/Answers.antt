use Rattle.std.proofs.Common.{◌≡◌, ◌^◌, ◌-◌, List, Option, Some, Result, Ok, [], take, refl, sym, ap, subst, ◌∙◌, arith}
use Rattle.std.specs.Prelude.{All, IfSome}
use Rattle.std.proofs.lemmas.List.{take_all}
use Rattle.std.proofs.lemmas.Result.{err_from_is_err_and}
use Rattle.bson.specs.Tree.{Pairs}
use Rattle.command_model.specs.Find.{Find}
use Rattle.database_model.specs.Find.{given, matching, run_find}
use Rattle.database_model.specs.Lawful.{IsWithin}
use Rattle.database_model.specs.World.{World, documents_of}
use Rattle.entry_model.specs.State.{Collection}
use Rattle.path.specs.declared.refusal.Refusal.{Refusal}
use Rattle.queries.specs.LookedUp.{IsLookedUp, IsLookedUpWithin}
use Rattle.walks.specs.Batches.{IsWholeBatch}
use Rattle.queries.specs.declared.looked_up.LookedUp.{LookedUp}
use Rattle.engine.specs.Looking.{Looks}
use Rattle.engine.specs.TakingOut.{HasHome}
use Rattle.engine.specs.View.{world}
use Rattle.engine.specs.Walking.{AreOf}
use Rattle.engine.proofs.CataloguedLemmas.{IsCatalogueOf, has_home}
use Rattle.engine.proofs.Finding.{all_suffice, given_within_limits}
use Rattle.engine.proofs.GivingLemmas.{gives_behind}
use Rattle.engine.proofs.KeepingPins.{pins_as_before}
use Rattle.engine.proofs.LookingLemmas.{collections_same, performs_behind, performs_read, performs_refused, reads_trans, world_same}
use Rattle.engine.proofs.NamedLemmas.{of_home, of_no_home}
use Rattle.engine.proofs.OnlyReading.{word_before}
use Rattle.engine.proofs.WalkingLemmas.{first_of, found_plain, stand_so, walked_whole}
use Rattle.pinned_cursors.specs.Opening.{that_keep}
use Rattle.engine.proofs.engine.Engine.find_walking.Goals as goal

pub returns-in_err-home-clause-performs : goal.returns-in_err-home-clause-performs
returns-in_err-home-clause-performs g c =
    let old = c.args.self.now in
    let asked : Find = record { namespace = c.args.namespace.now; query = c.args.query.now; batch_size = Some c.args.most } in
    let p = err_from_is_err_and c.from_residual.result c.from_residual.ensures.1 in
    rw (p.1, p.2)
    (performs_refused g.D.Disk.history old c.catalogued.new.self (run_find (world old) c.args.connection asked) c.in_err-home.field-0.0
    c.in_err-home.ensures.looks.reads c.in_err-home.ensures.looks.answers)

-- there is no collection of that name
pub returns-in_default-clause-performs : goal.returns-in_default-clause-performs
returns-in_default-clause-performs g c =
    let history = g.D.Disk.history in
    let old = c.args.self.now in
    let mid = c.catalogued.new.self in
    let q = c.args.query.now in
    let asked : Find = record { namespace = c.args.namespace.now; query = q; batch_size = Some c.args.most } in
    let stand = stand_so history old c.args.namespace.now q c.requires.sound c.requires.in_order in
    let looks = of_no_home history c.args.namespace.now old mid (λ ds (found : List Pairs). found ≡ take (2 ^ 64 - 1) (matching q.filter ds))
    c.in_ok-home.field-0 c.in_ok-home.ensures.looks c.in_default.is [] (sym (take_all (2 ^ 64 - 1) [] (omega arith))) in
    gives_behind history old mid mid c.in_ok-home.ensures.looks.reads (pins_as_before mid.is_changed history mid.file mid.cursors mid.cursors refl) refl refl
    c.args.connection c.args.namespace.now (given q []) c.args.most (run_find (world old) c.args.connection asked) c.give_none.result c.requires.short
    (given_within_limits q [] (λ k d below. absurd (omega (arith, below)))) c.give_none.ensures.runs
    (λ k. found_plain (world old) c.args.connection c.args.namespace.now q c.args.most stand (2 ^ 64 - 1) [] (all_suffice q) (looks.answers k)
    (omega arith))

pub returns-in_err-found-clause-performs : goal.returns-in_err-found-clause-performs
returns-in_err-found-clause-performs g c =
    let history = g.D.Disk.history in
    let old = c.args.self.now in
    let name = c.args.namespace.now in
    let asked : Find = record { namespace = name; query = c.args.query.now; batch_size = Some c.args.most } in
    let walk = c.whole_walk-walk.result in
    let first = c.whole_asked-asked.result in
    let p = err_from_is_err_and c.from_residual-in_err-found.result c.from_residual-in_err-found.ensures.1 in
    let looks = of_home history name old c.catalogued.new.self (λ ds (o : Option LookedUp). IfSome o (IsLookedUp walk first c.enough.result ds))
    c.in_ok-home.field-0 c.in_ok-home.ensures.looks c.looked_up.new.self c.in-Some.home c.in-Some.is c.looked_up.result c.looked_up.ensures.looks in
    let refused = subst (λ (r : Result (Option LookedUp) Refusal). Looks history
    (λ now (o : Option LookedUp). IfSome o (IsLookedUp walk first c.enough.result (documents_of now name))) r old c.looked_up.new.self)
    c.in_err-found.was looks in
    rw (p.1, p.2)
    (performs_refused history old c.looked_up.new.self (run_find (world old) c.args.connection asked) c.in_err-found.field-0.0 refused.reads refused.answers)

-- all that is asked for is in the batch
pub returns-in-Batch-clause-performs : goal.returns-in-Batch-clause-performs
returns-in-Batch-clause-performs g c =
    let history = g.D.Disk.history in
    let old = c.args.self.now in
    let mid = c.looked_up.new.self in
    let name = c.args.namespace.now in
    let q = c.args.query.now in
    let asked : Find = record { namespace = name; query = q; batch_size = Some c.args.most } in
    let stand = stand_so history old name q c.requires.sound c.requires.in_order in
    let walk = c.whole_walk-walk.result in
    let first = c.whole_asked-asked.result in
    let so = c.whole_asked-asked.ensures in
    let b = c.in-Batch.batch in
    let looks = of_home history name old c.catalogued.new.self (λ ds (o : Option LookedUp). IfSome o (IsLookedUp walk first c.enough.result ds))
    c.in_ok-home.field-0 c.in_ok-home.ensures.looks mid c.in-Some.home c.in-Some.is c.looked_up.result c.looked_up.ensures.looks in
    let told = subst (λ (r : Result (Option LookedUp) Refusal). Looks history
    (λ now (o : Option LookedUp). IfSome o (IsLookedUp walk first c.enough.result (documents_of now name))) r old mid) c.in_ok-found.was looks in
    performs_read history old mid (run_find (world old) c.args.connection asked) (Ok b.reply) looks.reads (λ k.
    let ds : List Pairs = documents_of (world old).collections name in
    let found : IsLookedUp walk first c.enough.result ds c.in-Some-2.found =
    subst (λ (o : Option LookedUp). IfSome o (IsLookedUp walk first c.enough.result ds)) c.in-Some-2.is (told.answers k) in
    let whole : IsWholeBatch walk first ds b = subst (IsLookedUp walk first c.enough.result ds) c.in-Batch.is found in
    walked_whole (world old) c.args.connection name q c.args.most stand walk c.whole_walk-walk.ensures first so.kind so.named so.most b
    whole.given whole.whole
    ∙ (λ i. let r : Result (World × Pairs) Refusal = Ok (sym (world_same history old mid looks.reads) i, b.reply) in r))

pub returns-clause-performs : goal.returns-clause-performs
returns-clause-performs g c =
    let history = g.D.Disk.history in
    let old = c.args.self.now in
    let mid = c.looked_up.new.self in
    let name = c.args.namespace.now in
    let q = c.args.query.now in
    let asked : Find = record { namespace = name; query = q; batch_size = Some c.args.most } in
    let walk = c.whole_walk-walk.result in
    let first = c.whole_asked-asked.result in
    let found = c.in-Documents.found in
    let stand = stand_so history old name q c.requires.sound c.requires.in_order in
    let looks = of_home history name old c.catalogued.new.self (λ ds (o : Option LookedUp). IfSome o (IsLookedUp walk first c.enough.result ds))
    c.in_ok-home.field-0 c.in_ok-home.ensures.looks mid c.in-Some.home c.in-Some.is c.looked_up.result c.looked_up.ensures.looks in
    let told = subst (λ (r : Result (Option LookedUp) Refusal). Looks history
    (λ now (o : Option LookedUp). IfSome o (IsLookedUp walk first c.enough.result (documents_of now name))) r old mid) c.in_ok-found.was looks in
    let within_all : IsLookedUpWithin c.in-Some-2.found =
    subst (λ (o : Option LookedUp). IfSome o IsLookedUpWithin) c.in-Some-2.is c.in_ok-found.ensures.within in
    let within : All IsWithin found.items = subst IsLookedUpWithin c.in-Documents.is within_all in
    gives_behind history old mid c.give_listed.new.self looks.reads c.give_listed.ensures.file
    (ap (λ t. t.value) c.give_listed.ensures.told) c.give_listed.ensures.has_changes c.args.connection name
    (given q found.items) c.args.most (run_find (world old) c.args.connection asked) c.give_listed.result c.requires.short
    (given_within_limits q found.items within) c.give_listed.ensures.runs
    (λ k.
    let ds : List Pairs = documents_of (world old).collections name in
    let all : IsLookedUp walk first c.enough.result ds c.in-Some-2.found =
    subst (λ (o : Option LookedUp). IfSome o (IsLookedUp walk first c.enough.result ds)) c.in-Some-2.is (told.answers k) in
    found_plain (world old) c.args.connection name q c.args.most stand c.enough.result found.items c.enough.ensures
    (subst (IsLookedUp walk first c.enough.result ds) c.in-Documents.is all
    ∙ ap (λ rules. take c.enough.result (matching rules ds)) c.whole_walk-walk.ensures.filter)
    (omega (arith, found.ok.0, found.ok.1, found.small)))

-- the catalogue has it still
pub give_listed-requires-clause-there : goal.give_listed-requires-clause-there
give_listed-requires-clause-there g c = λ k.
    let history = g.D.Disk.history in
    let old = c.args.self.now in
    let mid = c.catalogued.new.self in
    let new = c.looked_up.new.self in
    let name = c.args.namespace.now in
    let q = c.args.query.now in
    let found = c.in-Documents.found in
    let walk = c.whole_walk-walk.result in
    let asked = c.whole_asked-asked.result in
    let first = c.in_ok-home.ensures.looks in
    let then = c.in_ok-found.ensures.looks in
    let is = subst (IsCatalogueOf name (world old).collections) c.in-Some.is (first.answers (word_before history mid.file new.file then.reads.continues k)) in
    let at = subst (λ (cs : List Collection). HasHome cs name c.in-Some.home) (sym (collections_same history old mid first.reads))
    (has_home (world old).collections name c.in-Some.home is) in
    let ds : List Pairs = at.collection.documents in
    let told : IsLookedUp walk asked c.enough.result ds c.in-Some-2.found =
    subst (λ (o : Option LookedUp). IfSome o (IsLookedUp walk asked c.enough.result ds)) c.in-Some-2.is (then.answers k at.collection at.catalogued) in
    subst (λ (cs : List Collection). AreOf cs name c.in-Some.home found.items) (sym (collections_same history mid new then.reads))
    (first_of (world mid).collections first.reads.sound.lawful.kept name c.in-Some.home at q.filter c.enough.result found.items
    (subst (IsLookedUp walk asked c.enough.result ds) c.in-Documents.is told
    ∙ ap (λ rules. take c.enough.result (matching rules ds)) c.whole_walk-walk.ensures.filter))

pub give_walked-requires-clause-home : goal.give_walked-requires-clause-home
give_walked-requires-clause-home g c = λ k.
    let history = g.D.Disk.history in
    let old = c.args.self.now in
    let mid = c.catalogued.new.self in
    let new = c.looked_up.new.self in
    let name = c.args.namespace.now in
    let first = c.in_ok-home.ensures.looks in
    let then = c.in_ok-found.ensures.looks.reads in
    let is = subst (IsCatalogueOf name (world old).collections) c.in-Some.is (first.answers (word_before history mid.file new.file then.continues k)) in
    subst (λ (cs : List Collection). HasHome cs name c.in-Some.home)
    (sym (collections_same history mid new then ∙ collections_same history old mid first.reads)) (has_home (world old).collections name c.in-Some.home is)

pub returns-in_default-2-clause-performs : goal.returns-in_default-2-clause-performs
returns-in_default-2-clause-performs g c =
    let history = g.D.Disk.history in
    let old = c.args.self.now in
    let mid = c.looked_up.new.self in
    let asked : Find = record { namespace = c.args.namespace.now; query = c.args.query.now; batch_size = Some c.args.most } in
    let reads = reads_trans history old c.catalogued.new.self mid c.in_ok-home.ensures.looks.reads c.in_ok-found.ensures.looks.reads in
    performs_behind history old mid c.give_walked.new.self reads (run_find (world mid) c.args.connection asked)
    (run_find (world old) c.args.connection asked) c.give_walked.result c.give_walked.ensures.performs
    (λ k. ap (λ (w : World). run_find w c.args.connection asked) (world_same history old mid reads))

-- ---- the cursors that keep documents

pub returns-in_err-home-clause-keep : goal.returns-in_err-home-clause-keep
returns-in_err-home-clause-keep g c = ap that_keep c.in_err-home.ensures.looks.reads.cursors

pub returns-in_default-clause-keep : goal.returns-in_default-clause-keep
returns-in_default-clause-keep g c = ap that_keep c.in_ok-home.ensures.looks.reads.cursors

pub returns-in_err-found-clause-keep : goal.returns-in_err-found-clause-keep
returns-in_err-found-clause-keep g c = ap that_keep (c.in_err-found.ensures.looks.reads.cursors ∙ c.in_ok-home.ensures.looks.reads.cursors)

pub returns-clause-keep : goal.returns-clause-keep
returns-clause-keep g c = c.give_listed.ensures.keep ∙ ap that_keep (c.in_ok-found.ensures.looks.reads.cursors
    ∙ c.in_ok-home.ensures.looks.reads.cursors)

pub returns-in_default-2-clause-keep : goal.returns-in_default-2-clause-keep
returns-in_default-2-clause-keep g c =
    c.give_walked.ensures.keep ∙ ap that_keep (c.in_ok-found.ensures.looks.reads.cursors ∙ c.in_ok-home.ensures.looks.reads.cursors)

pub returns-in-Batch-clause-keep : goal.returns-in-Batch-clause-keep
returns-in-Batch-clause-keep g c = ap that_keep (c.in_ok-found.ensures.looks.reads.cursors ∙ c.in_ok-home.ensures.looks.reads.cursors)
