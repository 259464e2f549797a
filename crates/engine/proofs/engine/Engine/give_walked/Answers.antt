use Rattle.std.proofs.Common.{◌≡◌, ◌<◌, ◌^◌, ◌-◌, ◌+◌, true, false, List, [], ◌∷◌, ◌++◌, Some, Result, Ok, Err, inl, refl, sym, ap, subst, ◌∙◌, arith}
use Rattle.std.specs.Prelude.{All}
use Rattle.std.proofs.lemmas.Result.{err_from_is_err_and}
use Rattle.bson.specs.Tree.{Pairs}
use Rattle.command_model.specs.Find.{Find}
use Rattle.database_model.specs.Cursors.{is_refused, new_cursor}
use Rattle.database_model.specs.Find.{run_find}
use Rattle.database_model.specs.Lawful.{IsWithin}
use Rattle.database_model.specs.World.{World, documents_of}
use Rattle.statements.proofs.KeptLemmas.{stored_at}
use Rattle.entry_model.specs.State.{Collection}
use Rattle.path.specs.declared.refusal.Refusal.{Refusal}
use Rattle.path.specs.declared.refusal.Refusal.TheVariants as refusals
use Rattle.cursors.specs.Held.{Held, through}
use Rattle.walks.specs.Batches.{IsGivenBatch, walk_rest}
use Rattle.walks.specs.declared.batches.BatchAsked.{BatchAsked}
use Rattle.replies.specs.declared.batch_spelling.BatchKind.TheVariants as kinds
use Rattle.engine.specs.TakingOut.{HasHome}
use Rattle.engine.specs.View.{world}
use Rattle.engine.proofs.LookingLemmas.{collections_same, performs_behind, performs_read, performs_refused, world_same}
use Rattle.engine.proofs.OnlyReading.{word_before}
use Rattle.engine.proofs.WalkingLemmas.{at_home, left_by_walk, number_is, number_lacks, opens_done, opens_failed, walk_within}
use Rattle.engine.proofs.WalkingLemmas.{stand_so, walked_opened, walked_refused, walked_whole}
use Rattle.pinned_cursors.specs.Opening.{that_keep}
use Rattle.engine.proofs.engine.Engine.give_walked.Goals as goal

pub returns-in_err-batch-clause-performs : goal.returns-in_err-batch-clause-performs
returns-in_err-batch-clause-performs g c =
    let history = g.D.Disk.history in
    let old = c.args.self.now in
    let mid = c.walked.new.self in
    let asked : Find = record { namespace = c.args.namespace.now; query = c.args.query.now; batch_size = Some c.args.most } in
    let looks = c.in_err-batch.ensures.looks in
    let e = err_from_is_err_and c.from_residual.result c.from_residual.ensures.1 in
    rw (e.1, e.2)
    (performs_refused history old mid (run_find (world old) c.args.connection asked) c.in_err-batch.field-0.0 looks.reads (λ k.
    let f = c.requires.home (word_before history old.file mid.file looks.reads.continues k) in
    looks.answers k f.collection f.catalogued))

pub returns-in_default-clause-performs : goal.returns-in_default-clause-performs
returns-in_default-clause-performs g c =
    let history = g.D.Disk.history in
    let old = c.args.self.now in
    let mid = c.walked.new.self in
    let name = c.args.namespace.now in
    let asked : Find = record { namespace = name; query = c.args.query.now; batch_size = Some c.args.most } in
    let stand = stand_so history old name c.args.query.now c.requires.sound c.requires.in_order in
    let walk = c.whole_walk-walk.result in
    let batch : BatchAsked = record { kind = kinds.First; namespace = c.args.namespace; number = c.unwrap_or.result; most = c.args.most } in
    let looks = c.in_ok-batch.ensures.looks in
    let b = c.in_ok-batch.batch in
    performs_read history old mid (run_find (world old) c.args.connection asked) (Ok b.reply) looks.reads (λ k.
    let f = c.requires.home (word_before history old.file mid.file looks.reads.continues k) in
    let given = at_home (world old).collections name c.args.home.now f (λ (ds : List Pairs). IsGivenBatch walk batch ds b)
    (looks.answers k f.collection f.catalogued) in
    walked_whole (world old) c.args.connection name c.args.query.now c.args.most stand walk c.whole_walk-walk.ensures batch refl refl refl b
    given c.in_default.is
    ∙ (λ i. let r : Result (World × Pairs) Refusal = Ok (sym (world_same history old mid looks.reads) i, b.reply) in r))

pub returns-then-is_none-clause-performs : goal.returns-then-is_none-clause-performs
returns-then-is_none-clause-performs g c =
    let history = g.D.Disk.history in
    let old = c.args.self.now in
    let mid = c.walked.new.self in
    let w = world old in
    let name = c.args.namespace.now in
    let asked : Find = record { namespace = name; query = c.args.query.now; batch_size = Some c.args.most } in
    let stand = stand_so history old name c.args.query.now c.requires.sound c.requires.in_order in
    let walk = c.whole_walk-walk.result in
    let batch : BatchAsked = record { kind = kinds.First; namespace = c.args.namespace; number = c.unwrap_or.result; most = c.args.most } in
    let looks = c.in_ok-batch.ensures.looks in
    let b = c.in_ok-batch.batch in
    let full : is_refused c.args.connection w.cursors w.next ≡ true =
    number_lacks c.next_number-number.result _ c.is_none.result c.is_none.ensures c.if-is_none.true c.next_number-number.ensures.none in
    performs_read history old mid (run_find w c.args.connection asked) (Err refusals.TooMany) looks.reads (λ k.
    let f = c.requires.home (word_before history old.file mid.file looks.reads.continues k) in
    let given = at_home w.collections name c.args.home.now f (λ (ds : List Pairs). IsGivenBatch walk batch ds b)
    (looks.answers k f.collection f.catalogued) in (
      world_same history old mid looks.reads,
      inl (walked_refused w c.args.connection name c.args.query.now c.args.most stand walk c.whole_walk-walk.ensures batch refl refl refl b
          given c.in-Some.from c.in-Some.is full),
    ))

pub open_pinned-requires-clause-number : goal.open_pinned-requires-clause-number
open_pinned-requires-clause-number g c =
    let reads = c.in_ok-batch.ensures.looks.reads in
    let o = c.next_number-number.result in
    let is = number_is o (λ n. n ≡ c.args.self.now.cursors.next) c.is_none.result c.is_none.ensures c.if-is_none.false c.next_number-number.ensures.some in
    let below = number_is o (λ n. n < 2 ^ 63) c.is_none.result c.is_none.ensures c.if-is_none.false c.next_number-number.ensures.below in
    omega (arith, is, below, ap (λ (held : Held). held.next) reads.cursors)

pub open_pinned-requires-clause-within : goal.open_pinned-requires-clause-within
open_pinned-requires-clause-within g c =
    let mid = c.walked.new.self in
    let q = c.args.query.now in
    subst (λ (ds : List Pairs). All IsWithin ds) (sym c.rest_from-rest.ensures)
    (walk_within q.filter q.projection 0 (q.limit - c.in_ok-batch.batch.count) c.in-Some.from.items
    (documents_of (world mid).collections c.args.namespace.now)
    (stored_at (world mid).collections c.args.namespace.now c.in_ok-batch.ensures.looks.reads.sound.lawful.kept).1)

pub returns-in_err-open_pinned-clause-performs : goal.returns-in_err-open_pinned-clause-performs
returns-in_err-open_pinned-clause-performs g c =
    let history = g.D.Disk.history in
    let old = c.args.self.now in
    let mid = c.walked.new.self in
    let name = c.args.namespace.now in
    let q = c.args.query.now in
    let home = c.args.home.now in
    let asked : Find = record { namespace = name; query = q; batch_size = Some c.args.most } in
    let planned = run_find (world old) c.args.connection asked in
    let reads = c.in_ok-batch.ensures.looks.reads in
    let walk = c.whole_walk-walk.result in
    let is = c.whole_walk-walk.ensures in
    let n = c.in_ok-batch.batch.count in
    let from = c.in-Some.from.items in
    let rest = c.rest_from-rest.result.value in
    let rest_is : rest ≡ walk_rest walk.filter.now walk.projection.now 0 (walk.limit - n) from (documents_of (world mid).collections name) =
    c.rest_from-rest.ensures
    ∙ (λ i. walk_rest (sym is.filter i) (sym is.projection i) 0 (sym is.limit i - n) from (documents_of (world mid).collections name)) in
    let e = err_from_is_err_and c.from_residual-in_err-open_pinned.result c.from_residual-in_err-open_pinned.ensures.1 in
    rw e.1
    (performs_behind history old mid _ reads planned planned (Err e.0)
    (opens_failed history mid c.args.connection name home.number walk.projection.now (through walk.filter.now (walk.limit - n) from) rest
    c.open_pinned.new.file c.open_pinned.new.cursors
    (λ k. left_by_walk history mid reads.sound name home
    (subst (λ (cs : List Collection). HasHome cs name home) (sym (collections_same history old mid reads))
    (c.requires.home (word_before history old.file mid.file reads.continues k)))
    walk.filter.now walk.projection.now (walk.limit - n) from rest rest_is)
    reads.sound
    (subst (λ (ds : List Pairs). All IsWithin ds) (sym c.rest_from-rest.ensures)
    (walk_within q.filter q.projection 0 (q.limit - n) from (documents_of (world mid).collections name)
    (stored_at (world mid).collections name reads.sound.lawful.kept).1))
    planned c.in_err-open_pinned.field-0.0 c.in_err-open_pinned.ensures e.0 e.2) (λ k. refl))

pub returns-clause-performs : goal.returns-clause-performs
returns-clause-performs g c =
    let history = g.D.Disk.history in
    let old = c.args.self.now in
    let mid = c.walked.new.self in
    let w = world old in
    let name = c.args.namespace.now in
    let q = c.args.query.now in
    let home = c.args.home.now in
    let asked : Find = record { namespace = name; query = q; batch_size = Some c.args.most } in
    let stand = stand_so history old name c.args.query.now c.requires.sound c.requires.in_order in
    let planned = run_find w c.args.connection asked in
    let looks = c.in_ok-batch.ensures.looks in
    let reads = looks.reads in
    let walk = c.whole_walk-walk.result in
    let is = c.whole_walk-walk.ensures in
    let b = c.in_ok-batch.batch in
    let rest = c.rest_from-rest.result.value in
    let batch : BatchAsked = record { kind = kinds.First; namespace = c.args.namespace; number = c.unwrap_or.result; most = c.args.most } in
    let o = c.next_number-number.result in
    let number = c.unwrap_or.ensures
    ∙ number_is o (λ n. n ≡ w.next) c.is_none.result c.is_none.ensures c.if-is_none.false c.next_number-number.ensures.some in
    let free : is_refused c.args.connection w.cursors w.next ≡ false =
    number_is o (λ _. is_refused c.args.connection w.cursors w.next ≡ false) c.is_none.result c.is_none.ensures c.if-is_none.false
    c.next_number-number.ensures.free in
    let left_is : rest ≡ walk_rest walk.filter.now walk.projection.now 0 (walk.limit - b.count) c.in-Some.from.items (documents_of w.collections name) =
    c.rest_from-rest.ensures
    ∙ (λ i. walk_rest (sym is.filter i) (sym is.projection i) 0 (sym is.limit i - b.count) c.in-Some.from.items
    (documents_of (world_same history old mid reads i).collections name)) in
    let n = b.count in
    let from = c.in-Some.from.items in
    let rest_is : rest ≡ walk_rest walk.filter.now walk.projection.now 0 (walk.limit - n) from (documents_of (world mid).collections name) =
    c.rest_from-rest.ensures
    ∙ (λ i. walk_rest (sym is.filter i) (sym is.projection i) 0 (sym is.limit i - n) from (documents_of (world mid).collections name)) in
    performs_behind history old mid _ reads planned planned (Ok b.reply)
    (opens_done history mid c.args.connection name home.number walk.projection.now (through walk.filter.now (walk.limit - n) from) rest
    c.open_pinned.new.file c.open_pinned.new.cursors
    (λ k. left_by_walk history mid reads.sound name home
    (subst (λ (cs : List Collection). HasHome cs name home) (sym (collections_same history old mid reads))
    (c.requires.home (word_before history old.file mid.file reads.continues k)))
    walk.filter.now walk.projection.now (walk.limit - n) from rest rest_is)
    reads.sound
    (subst (λ (ds : List Pairs). All IsWithin ds) (sym c.rest_from-rest.ensures)
    (walk_within q.filter q.projection 0 (q.limit - n) from (documents_of (world mid).collections name)
    (stored_at (world mid).collections name reads.sound.lawful.kept).1))
    planned c.in_ok-open_pinned.ensures b.reply
    (λ k.
    let f = c.requires.home (word_before history old.file mid.file reads.continues k) in
    let given = at_home w.collections name home f (λ (ds : List Pairs). IsGivenBatch walk batch ds b) (looks.answers k f.collection f.catalogued) in
    walked_opened w c.args.connection name q c.args.most stand walk is batch refl refl refl b given c.in-Some.from c.in-Some.is number free _
    (λ i. let v : World = world_same history old mid reads i in
    record v { cursors = v.cursors ++ new_cursor v.next c.args.connection name (left_is i) ∷ []; next = v.next + 1 })))
    (λ k. refl)

-- ---- the cursors that keep documents

pub returns-in_err-batch-clause-keep : goal.returns-in_err-batch-clause-keep
returns-in_err-batch-clause-keep g c = ap that_keep c.in_err-batch.ensures.looks.reads.cursors

pub returns-in_default-clause-keep : goal.returns-in_default-clause-keep
returns-in_default-clause-keep g c = ap that_keep c.in_ok-batch.ensures.looks.reads.cursors

pub returns-then-is_none-clause-keep : goal.returns-then-is_none-clause-keep
returns-then-is_none-clause-keep g c = ap that_keep c.in_ok-batch.ensures.looks.reads.cursors

pub returns-in_err-open_pinned-clause-keep : goal.returns-in_err-open_pinned-clause-keep
returns-in_err-open_pinned-clause-keep g c = c.in_err-open_pinned.ensures.keep ∙ ap that_keep c.in_ok-batch.ensures.looks.reads.cursors

pub returns-clause-keep : goal.returns-clause-keep
returns-clause-keep g c = c.in_ok-open_pinned.ensures.keep ∙ ap that_keep c.in_ok-batch.ensures.looks.reads.cursors
