use Rattle.std.proofs.Common.{◌≡◌, ◌<◌, ◌+◌, ◌-◌, List, Some, take, [], ◌∷◌, ◌++◌, length, map, drop, refl, sym, ap, subst, ◌∙◌, arith}
use Rattle.std.specs.Prelude.{All}
use Rattle.std.proofs.lemmas.List.{drop-map, length-map, map-id}
use Rattle.std.proofs.lemmas.List.Elements.{All-drop}
use Rattle.std.proofs.lemmas.Result.{err_from_is_err_and}
use Rattle.bson.specs.Tree.{Pairs}
use Rattle.projection.specs.Projection.{project}
use Rattle.cursors.specs.Held.{listed, table_of}
use Rattle.entry_model.specs.State.{key_of}
use Rattle.entry_model.specs.StateReads.{find_document}
use Rattle.index.specs.View.{texts_of}
use Rattle.walks.specs.Listed.{id_text_of}
use Rattle.database_model.specs.World.{World}
use Rattle.database_model.specs.Cursors.{new_cursor}
use Rattle.database_model.specs.Lawful.{IsWithin}
use Rattle.replies.specs.FirstBatch.{IsFirstBatch, IsNoBatch}
use Rattle.replies.specs.View.{projected}
use Rattle.engine.specs.View.{world_of, world}
use Rattle.engine.proofs.KeepingPins.{pins_as_before}
use Rattle.engine.proofs.Running.{given_none, given_opened, given_whole, table, with_cursor}
use Rattle.engine.proofs.WalkingLemmas.{behind_of, left_by_list, opens_releases}
use Rattle.engine.proofs.engine.Engine.give_by_list.Goals as goal

pub first_batch-requires-clause-within : goal.first_batch-requires-clause-within
first_batch-requires-clause-within g c =
    let seen = c.deref.result.now in
    let gs = projected c.args.projection.now c.args.documents.items in
    let same : projected c.args.projection.now (map (λ (d : Pairs). d) seen) ≡ gs =
    ap (projected c.args.projection.now) (map-id seen ∙ c.deref.ensures.value) in
    subst (λ (es : List Pairs). All IsWithin es) (sym same) c.requires.within

pub returns-in_err-reply-clause-runs : goal.returns-in_err-reply-clause-runs
returns-in_err-reply-clause-runs g c =
    let w = world c.args.self.now in
    let seen = c.deref.result.now in
    let gs = projected c.args.projection.now c.args.documents.items in
    let same : projected c.args.projection.now (map (λ (d : Pairs). d) seen) ≡ gs =
    ap (projected c.args.projection.now) (map-id seen ∙ c.deref.ensures.value) in
    let e = err_from_is_err_and c.from_residual.result c.from_residual.ensures.1 in
    let x = c.in_err-reply.field-0.0 in
    rw (e.1, e.2) (
      refl,
      given_none w c.args.connection c.args.namespace.now gs c.args.most x
          (subst (λ (es : List Pairs). IsNoBatch
          (table w c.args.connection c.args.namespace.now gs c.args.most) c.args.connection es c.args.most x) same c.in_err-reply.ensures.refuses),
    )

pub returns-then-len-count-clause-runs : goal.returns-then-len-count-clause-runs
returns-then-len-count-clause-runs g c =
    let w = world c.args.self.now in
    let seen = c.deref.result.now in
    let gs = projected c.args.projection.now c.args.documents.items in
    let same : projected c.args.projection.now (map (λ (d : Pairs). d) seen) ≡ gs =
    ap (projected c.args.projection.now) (map-id seen ∙ c.deref.ensures.value) in
    let n = c.in_ok-reply.count in
    let reply = c.in_ok-reply.reply in
    given_whole w c.args.connection c.args.namespace.now gs c.args.most n reply
    (subst (λ (es : List Pairs). IsFirstBatch
    (table w c.args.connection c.args.namespace.now gs c.args.most) c.args.connection c.args.namespace.now es c.args.most n reply) same
    c.in_ok-reply.ensures.batch)
    (omega (arith, c.if-len-count.true, c.len.ensures, c.args.documents.ok, length-map c.args.documents.items (project c.args.projection.now)))

pub open_listed-requires-clause-within : goal.open_listed-requires-clause-within
open_listed-requires-clause-within g c =
    let p = c.args.projection.now in
    let gs = projected p c.args.documents.items in
    let n = c.in_ok-reply.count in
    let others : List Pairs = c.deref-2.result.now in
    let made : c.rest_of-rest.result.value ≡ map (project p) (take (length others - n) (drop n others)) = c.rest_of-rest.ensures in
    let rest : c.rest_of-rest.result.value ≡ drop n gs =
    made ∙ ap (map (project p)) (behind_of n others c.args.documents.items c.deref-2.ensures.value)
    ∙ sym (drop-map (project p) n c.args.documents.items) in
    subst (λ (es : List Pairs). All IsWithin es) (sym rest) (All-drop IsWithin n gs c.requires.within)

pub returns-in_err-open_listed-clause-file : goal.returns-in_err-open_listed-clause-file
returns-in_err-open_listed-clause-file g c =
    let history = g.D.Disk.history in
    let old = c.args.self.now in
    let name = c.args.namespace.now in
    let p = c.args.projection.now in
    let ds = c.args.documents.items in
    let n = c.in_ok-reply.count in
    let texts = texts_of c.in_ok-listed_texts.field-0.items in
    let rest = c.rest_of-rest.result.value in
    let others : List Pairs = c.deref-2.result.now in
    let spelled : texts ≡ map id_text_of (take (length others - n) (drop n others)) = c.in_ok-listed_texts.ensures in
    let made : rest ≡ map (project p) (take (length others - n) (drop n others)) = c.rest_of-rest.ensures in
    opens_releases history old c.args.connection name c.args.home.now.number p (listed texts) rest c.open_listed.new.file c.open_listed.new.cursors
    (λ k.
    let h = c.requires.there k in
    left_by_list history old c.requires.sound name c.args.home.now h.at p texts (drop n ds) rest
    (All-drop (λ d. find_document h.at.collection.documents (key_of d) ≡ Some d) n ds h.there)
    (spelled ∙ ap (map id_text_of) (behind_of n others ds c.deref-2.ensures.value)) (made ∙ ap (map (project p))
    (behind_of n others ds c.deref-2.ensures.value)))
    c.open_listed.result c.requires.sound.unchanged c.open_listed.ensures

pub returns-clause-file : goal.returns-clause-file
returns-clause-file g c =
    let history = g.D.Disk.history in
    let old = c.args.self.now in
    let name = c.args.namespace.now in
    let p = c.args.projection.now in
    let ds = c.args.documents.items in
    let n = c.in_ok-reply.count in
    let texts = texts_of c.in_ok-listed_texts.field-0.items in
    let rest = c.rest_of-rest.result.value in
    let others : List Pairs = c.deref-2.result.now in
    let spelled : texts ≡ map id_text_of (take (length others - n) (drop n others)) = c.in_ok-listed_texts.ensures in
    let made : rest ≡ map (project p) (take (length others - n) (drop n others)) = c.rest_of-rest.ensures in
    opens_releases history old c.args.connection name c.args.home.now.number p (listed texts) rest c.open_listed.new.file c.open_listed.new.cursors
    (λ k.
    let h = c.requires.there k in
    left_by_list history old c.requires.sound name c.args.home.now h.at p texts (drop n ds) rest
    (All-drop (λ d. find_document h.at.collection.documents (key_of d) ≡ Some d) n ds h.there)
    (spelled ∙ ap (map id_text_of) (behind_of n others ds c.deref-2.ensures.value)) (made ∙ ap (map (project p))
    (behind_of n others ds c.deref-2.ensures.value)))
    c.open_listed.result c.requires.sound.unchanged c.open_listed.ensures

pub returns-clause-runs : goal.returns-clause-runs
returns-clause-runs g c =
    let w = world c.args.self.now in
    let p = c.args.projection.now in
    let seen = c.deref.result.now in
    let gs = projected p c.args.documents.items in
    let same : projected p (map (λ (d : Pairs). d) seen) ≡ gs = ap (projected p) (map-id seen ∙ c.deref.ensures.value) in
    let n = c.in_ok-reply.count in
    let reply = c.in_ok-reply.reply in
    let others : List Pairs = c.deref-2.result.now in
    let made : c.rest_of-rest.result.value ≡ map (project p) (take (length others - n) (drop n others)) = c.rest_of-rest.ensures in
    let rest : c.rest_of-rest.result.value ≡ drop n gs =
    made ∙ ap (map (project p)) (behind_of n others c.args.documents.items c.deref-2.ensures.value)
    ∙ sym (drop-map (project p) n c.args.documents.items) in
    let over : n < length gs = omega (arith, c.if-len-count.false, c.len.ensures, c.args.documents.ok, length-map c.args.documents.items (project p)) in
    let world_made : world_of c.args.self.now.told.value (table_of c.open_listed.new.cursors) ≡ with_cursor w c.args.connection c.args.namespace.now gs n =
    ap (world_of c.args.self.now.told.value) c.in_ok-open_listed.ensures.ok
    ∙ ap (λ (es : List Pairs). let x : World =
    record w { cursors = w.cursors ++ new_cursor w.next c.args.connection c.args.namespace.now es ∷ []; next = w.next + 1 } in x) rest in
    given_opened w c.args.connection c.args.namespace.now gs c.args.most n reply (world_of c.args.self.now.told.value (table_of c.open_listed.new.cursors))
    (subst (λ (es : List Pairs). IsFirstBatch
    (table w c.args.connection c.args.namespace.now gs c.args.most) c.args.connection c.args.namespace.now es c.args.most n reply) same
    c.in_ok-reply.ensures.batch) over world_made

pub returns-in_err-open_listed-clause-runs : goal.returns-in_err-open_listed-clause-runs
returns-in_err-open_listed-clause-runs g c =
    let e = err_from_is_err_and c.from_residual-in_err-open_listed.result c.from_residual-in_err-open_listed.ensures.1 in
    rw e.1 ((λ i. world_of c.args.self.now.told.value (table_of (c.in_err-open_listed.ensures.err i))), λ other. absurd (other e.2))

pub returns-in_err-reply-clause-file : goal.returns-in_err-reply-clause-file
returns-in_err-reply-clause-file g c =
    pins_as_before c.args.self.now.is_changed g.D.Disk.history c.args.self.now.file c.args.self.now.cursors c.args.self.now.cursors refl

pub returns-then-len-count-clause-file : goal.returns-then-len-count-clause-file
returns-then-len-count-clause-file g c =
    pins_as_before c.args.self.now.is_changed g.D.Disk.history c.args.self.now.file c.args.self.now.cursors c.args.self.now.cursors refl

-- ---- the cursors that keep documents

pub returns-in_err-open_listed-clause-keep : goal.returns-in_err-open_listed-clause-keep
returns-in_err-open_listed-clause-keep g c = c.in_err-open_listed.ensures.keep

pub returns-clause-keep : goal.returns-clause-keep
returns-clause-keep g c = c.in_ok-open_listed.ensures.keep
