use Rattle.std.proofs.Common.{◌≡◌, ◌<◌, ◌+◌, ◌-◌, List, [], ◌∷◌, ◌++◌, length, map, drop, refl, sym, ap, subst, ◌∙◌, arith, length-drop}
use Rattle.std.specs.Prelude.{All}
use Rattle.std.proofs.lemmas.List.{map-id, take_all}
use Rattle.std.proofs.lemmas.List.Elements.{All-drop}
use Rattle.std.proofs.lemmas.Result.{err_from_is_err_and}
use Rattle.bson.specs.Tree.{Pairs}
use Rattle.projection.specs.Projection.{project}
use Rattle.cursors.specs.Held.{table_of}
use Rattle.database_model.specs.World.{World}
use Rattle.database_model.specs.Cursors.{new_cursor}
use Rattle.database_model.specs.Lawful.{IsWithin}
use Rattle.replies.specs.FirstBatch.{IsFirstBatch, IsNoBatch}
use Rattle.replies.specs.View.{projected}
use Rattle.engine.specs.View.{world_of, world}
use Rattle.engine.proofs.KeepingPins.{pins_as_before, pins_of_opened}
use Rattle.replies.proofs.WholeLemmas.{all_stay}
use Rattle.engine.proofs.Running.{given_none, given_opened, given_whole, table, with_cursor}
use Rattle.engine.proofs.engine.Engine.give_all.Goals as goal

pub first_batch-requires-clause-within : goal.first_batch-requires-clause-within
first_batch-requires-clause-within g c =
    let seen = c.deref.result.now in
    let same : projected c.new-whole.result (map (λ (d : Pairs). d) seen) ≡ c.args.given.items =
    all_stay c.new-whole.result (map (λ (d : Pairs). d) seen) c.new-whole.ensures ∙ map-id seen ∙ c.deref.ensures.value in
    subst (λ (es : List Pairs). All IsWithin es) (sym same) c.requires.within

pub returns-in_err-reply-clause-runs : goal.returns-in_err-reply-clause-runs
returns-in_err-reply-clause-runs g c =
    let w = world c.args.self.now in
    let seen = c.deref.result.now in
    let same : projected c.new-whole.result (map (λ (d : Pairs). d) seen) ≡ c.args.given.items =
    all_stay c.new-whole.result (map (λ (d : Pairs). d) seen) c.new-whole.ensures ∙ map-id seen ∙ c.deref.ensures.value in
    let e = err_from_is_err_and c.from_residual.result c.from_residual.ensures.1 in
    let x = c.in_err-reply.field-0.0 in
    rw (e.1, e.2) (
      refl,
      given_none w c.args.connection c.args.namespace.now c.args.given.items c.args.most x
          (subst (λ (es : List Pairs). IsNoBatch
          (table w c.args.connection c.args.namespace.now c.args.given.items c.args.most) c.args.connection es c.args.most x) same
          c.in_err-reply.ensures.refuses),
    )

pub returns-then-len-count-clause-runs : goal.returns-then-len-count-clause-runs
returns-then-len-count-clause-runs g c =
    let w = world c.args.self.now in
    let seen = c.deref.result.now in
    let same : projected c.new-whole.result (map (λ (d : Pairs). d) seen) ≡ c.args.given.items =
    all_stay c.new-whole.result (map (λ (d : Pairs). d) seen) c.new-whole.ensures ∙ map-id seen ∙ c.deref.ensures.value in
    let n = c.in_ok-reply.count in
    let reply = c.in_ok-reply.reply in
    given_whole w c.args.connection c.args.namespace.now c.args.given.items c.args.most n reply
    (subst (λ (es : List Pairs). IsFirstBatch
    (table w c.args.connection c.args.namespace.now c.args.given.items c.args.most) c.args.connection c.args.namespace.now es c.args.most n reply) same
    c.in_ok-reply.ensures.batch)
    (omega (arith, c.if-len-count.true, c.len.ensures, c.args.given.ok))

pub spelled_all-requires : goal.spelled_all-requires
spelled_all-requires g c =
    let behind = c.deref-2.result.now in
    let left =
    take_all (length behind - c.in_ok-reply.count) (drop c.in_ok-reply.count behind) (omega (arith, length-drop c.in_ok-reply.count behind))
    ∙ ap (drop c.in_ok-reply.count) c.deref-2.ensures.value in
    subst (λ (es : List Pairs). All IsWithin es) (sym left) (All-drop IsWithin c.in_ok-reply.count c.args.given.items c.requires.within)

pub open_kept-requires-clause-within : goal.open_kept-requires-clause-within
open_kept-requires-clause-within g c =
    let behind = c.deref-2.result.now in
    let left =
    take_all (length behind - c.in_ok-reply.count) (drop c.in_ok-reply.count behind) (omega (arith, length-drop c.in_ok-reply.count behind))
    ∙ ap (drop c.in_ok-reply.count) c.deref-2.ensures.value in
    let rest : map (project c.new-whole.result) c.in_ok-rest.rest.items ≡ drop c.in_ok-reply.count c.args.given.items =
    all_stay c.new-whole.result c.in_ok-rest.rest.items c.new-whole.ensures ∙ c.in_ok-rest.ensures ∙ left in
    subst (λ (es : List Pairs). All IsWithin es) (sym rest) (All-drop IsWithin c.in_ok-reply.count c.args.given.items c.requires.within)

pub returns-clause-runs : goal.returns-clause-runs
returns-clause-runs g c =
    let w = world c.args.self.now in
    let seen = c.deref.result.now in
    let same : projected c.new-whole.result (map (λ (d : Pairs). d) seen) ≡ c.args.given.items =
    all_stay c.new-whole.result (map (λ (d : Pairs). d) seen) c.new-whole.ensures ∙ map-id seen ∙ c.deref.ensures.value in
    let n = c.in_ok-reply.count in
    let reply = c.in_ok-reply.reply in
    let behind = c.deref-2.result.now in
    let left =
    take_all (length behind - c.in_ok-reply.count) (drop c.in_ok-reply.count behind) (omega (arith, length-drop c.in_ok-reply.count behind))
    ∙ ap (drop c.in_ok-reply.count) c.deref-2.ensures.value in
    let rest : map (project c.new-whole.result) c.in_ok-rest.rest.items ≡ drop n c.args.given.items =
    all_stay c.new-whole.result c.in_ok-rest.rest.items c.new-whole.ensures ∙ c.in_ok-rest.ensures ∙ left in
    let over : n < length c.args.given.items = omega (arith, c.if-len-count.false, c.len.ensures, c.args.given.ok) in
    let made : world_of c.args.self.now.told.value (table_of c.open_kept.new.self) ≡ with_cursor w c.args.connection c.args.namespace.now c.args.given.items n =
    ap (world_of c.args.self.now.told.value) c.in_ok-open_kept.ensures.table
    ∙ ap (λ (es : List Pairs). let x : World =
    record w { cursors = w.cursors ++ new_cursor w.next c.args.connection c.args.namespace.now es ∷ []; next = w.next + 1 } in x) rest in
    given_opened w c.args.connection c.args.namespace.now c.args.given.items c.args.most n reply
    (world_of c.args.self.now.told.value (table_of c.open_kept.new.self))
    (subst (λ (es : List Pairs). IsFirstBatch
    (table w c.args.connection c.args.namespace.now c.args.given.items c.args.most) c.args.connection c.args.namespace.now es c.args.most n reply) same
    c.in_ok-reply.ensures.batch) over made

pub returns-clause-file : goal.returns-clause-file
returns-clause-file g c =
    pins_of_opened c.args.self.now.is_changed g.D.Disk.history c.args.self.now.file c.args.self.now.cursors c.open_kept.new.self c.args.connection
    c.args.namespace.now
    (map (project c.new-whole.result) c.in_ok-rest.rest.items) c.in_ok-open_kept.ensures.ok

pub returns-in_err-reply-clause-file : goal.returns-in_err-reply-clause-file
returns-in_err-reply-clause-file g c =
    pins_as_before c.args.self.now.is_changed g.D.Disk.history c.args.self.now.file c.args.self.now.cursors c.args.self.now.cursors refl

pub returns-then-len-count-clause-file : goal.returns-then-len-count-clause-file
returns-then-len-count-clause-file g c =
    pins_as_before c.args.self.now.is_changed g.D.Disk.history c.args.self.now.file c.args.self.now.cursors c.args.self.now.cursors refl

pub returns-in_err-rest-clause-file : goal.returns-in_err-rest-clause-file
returns-in_err-rest-clause-file g c =
    pins_as_before c.args.self.now.is_changed g.D.Disk.history c.args.self.now.file c.args.self.now.cursors c.args.self.now.cursors refl

pub returns-in_err-open_kept-clause-file : goal.returns-in_err-open_kept-clause-file
returns-in_err-open_kept-clause-file g c =
    pins_as_before c.args.self.now.is_changed g.D.Disk.history c.args.self.now.file c.args.self.now.cursors c.open_kept.new.self c.in_err-open_kept.ensures.err

pub returns-in_err-rest-clause-runs : goal.returns-in_err-rest-clause-runs
returns-in_err-rest-clause-runs g c =
    let e = err_from_is_err_and c.from_residual-in_err-rest.result c.from_residual-in_err-rest.ensures.1 in
    rw e.1 (refl, λ other. absurd (other e.2))

pub returns-in_err-open_kept-clause-runs : goal.returns-in_err-open_kept-clause-runs
returns-in_err-open_kept-clause-runs g c =
    let e = err_from_is_err_and c.from_residual-in_err-open_kept.result c.from_residual-in_err-open_kept.ensures.1 in
    rw e.1 ((λ i. world_of c.args.self.now.told.value (table_of (c.in_err-open_kept.ensures.err i))), λ other. absurd (other e.2))
