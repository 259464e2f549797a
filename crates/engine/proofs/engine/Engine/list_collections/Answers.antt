use Rattle.std.proofs.Common.{◌≡◌, List, length, map, refl, sym, ap, subst, ◌∙◌}
use Rattle.std.specs.Prelude.{All, Ok, Result}
use Rattle.path.specs.declared.refusal.Refusal.{Refusal}
use Rattle.database_model.specs.World.{World}
use Rattle.std.proofs.lemmas.List.{map-id}
use Rattle.std.proofs.lemmas.Result.{err_from_is_err_and}
use Rattle.bson.specs.Tree.{Pairs}
use Rattle.database_model.specs.Cursors.{batch_of}
use Rattle.database_model.specs.Lawful.{IsWithin}
use Rattle.database_model.specs.ListCollections.{listed, names_in, run_list_collections}
use Rattle.engine.specs.View.{world}
use Rattle.engine.proofs.Listing.{run_list-is}
use Rattle.engine.proofs.LookingLemmas.{performs_memory, performs_read, performs_refused, reads_nothing, world_same}
use Rattle.engine.proofs.engine.Engine.list_collections.Goals as goal

pub returns-in_err-front-clause-performs : goal.returns-in_err-front-clause-performs
returns-in_err-front-clause-performs g c =
    let old = c.args.self.now in
    let p = err_from_is_err_and c.from_residual.result c.from_residual.ensures.1 in
    rw p.1 (performs_memory g.D.Disk.history old old (run_list_collections (world old) (record { database = c.args.database.now })) p.0 p.2
    (reads_nothing g.D.Disk.history old c.requires.sound))

pub returns-in_err-namespace-clause-performs : goal.returns-in_err-namespace-clause-performs
returns-in_err-namespace-clause-performs g c =
    let old = c.args.self.now in
    let p = err_from_is_err_and c.from_residual-in_err-namespace.result c.from_residual-in_err-namespace.ensures.1 in
    rw p.1 (performs_memory g.D.Disk.history old old (run_list_collections (world old) (record { database = c.args.database.now })) p.0 p.2
    (reads_nothing g.D.Disk.history old c.requires.sound))

pub returns-in_err-listed-clause-performs : goal.returns-in_err-listed-clause-performs
returns-in_err-listed-clause-performs g c =
    let old = c.args.self.now in
    let p = err_from_is_err_and c.from_residual-in_err-listed.result c.from_residual-in_err-listed.ensures.1 in
    rw (p.1, p.2)
    (performs_refused g.D.Disk.history old c.listed.new.self
    (run_list_collections (world old) (record { database = c.args.database.now })) c.in_err-listed.field-0.0 c.in_err-listed.ensures.looks.reads
    c.in_err-listed.ensures.looks.answers)

pub whole_reply-requires-clause-within : goal.whole_reply-requires-clause-within
whole_reply-requires-clause-within g c =
    let seen = c.deref.result.now in
    subst (λ (ds : List Pairs). All IsWithin ds) (sym (map-id seen ∙ c.deref.ensures.value)) c.in_ok-listed.ensures.within

pub returns-in_err-whole_reply-clause-performs : goal.returns-in_err-whole_reply-clause-performs
returns-in_err-whole_reply-clause-performs g c =
    let old = c.args.self.now in
    let p = err_from_is_err_and c.from_residual-in_err-whole_reply.result c.from_residual-in_err-whole_reply.ensures.1 in
    rw p.1 (performs_memory g.D.Disk.history old c.listed.new.self
    (run_list_collections (world old) (record { database = c.args.database.now })) p.0 p.2 c.in_ok-listed.ensures.looks.reads)

pub returns-clause-performs : goal.returns-clause-performs
returns-clause-performs g c =
    let old = c.args.self.now in
    let w = world old in
    let seen = c.deref.result.now in
    let gs = map (λ (d : Pairs). d) seen in
    performs_read g.D.Disk.history old c.listed.new.self (run_list_collections w (record { database = c.args.database.now }))
    (Ok c.in_ok-whole_reply.field-0) c.in_ok-listed.ensures.looks.reads (λ k.
    let is : gs ≡ map listed (names_in c.as_str.result.now w.collections) = map-id seen ∙ c.deref.ensures.value ∙ c.in_ok-listed.ensures.looks.answers k in
    run_list-is w c.args.database.now c.as_str.result.now c.as_str-2.result.now gs (batch_of (length gs) gs) c.in_ok-whole_reply.field-0 c.requires.sound.lawful
    (c.as_str.ensures.value ∙ c.in_ok-front.ensures) (c.as_str-2.ensures.value ∙ c.in_ok-namespace.ensures) is refl c.in_ok-whole_reply.ensures.reply
    ∙ ap (λ (x : World). let r : Result (World × Pairs) Refusal = Ok (x, c.in_ok-whole_reply.field-0) in r)
    (sym (world_same g.D.Disk.history old c.listed.new.self c.in_ok-listed.ensures.looks.reads)))
