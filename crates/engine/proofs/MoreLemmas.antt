-- A cursor gives its next documents.
use Rattle.std.proofs.Common.{◌≡◌, inr, ℕ, List, Some, Result, Ok, Err, refl, sym, ap, ◌∙◌}
use Rattle.std.specs.Prelude.{MatchResult, OnErr, codes}
use Rattle.std.specs.List.{position}
use Rattle.bson.specs.Tree.{Pairs}
use Rattle.command_model.specs.GetMore.{GetMore}
use Rattle.page.specs.History.{History}
use Rattle.path.specs.declared.refusal.Refusal.{Refusal}
use Rattle.collections.specs.Calls.{HasReadCause}
use Rattle.collections.specs.State.{State}
use Rattle.cursors.specs.Held.{Held, cursors_of, table_of}
use Rattle.cursors.specs.TableLaws.{cursor_in_table}
use Rattle.database_model.specs.Cursors.{advanced, batch_reply, is_cursor}
use Rattle.database_model.specs.GetMore.{batch_len_of, run_get_more}
use Rattle.database_model.specs.Lawful.{AreLawfulCursors}
use Rattle.database_model.specs.Refusals.{ok_reply}
use Rattle.database_model.specs.World.{Cursor, CursorTable, World}
use Rattle.pinned_cursors.specs.Batches.{GivesNext, IsGivenNext}
use Rattle.replies.specs.View.{with_ok}
use Rattle.engine.specs.Durable.{IsSound}
use Rattle.engine.specs.Performing.{DoesReading, RunsReadingCommand}
use Rattle.engine.specs.View.{world, world_of}
use Rattle.engine.specs.declared.engine.Engine.{Engine}
use Rattle.engine.proofs.Continuing.{continues_further, continues_of, continues_still}
use Rattle.engine.proofs.Running.{run_get_more-is}
use Rattle.engine.proofs.Sound.{performs_tied}

module _ {D : Type 0} (history : D → History) (old : Engine D) (h : IsSound history old) (connection : ℕ) (c : GetMore) (at : ℕ)
    (place : position (is_cursor connection c.namespace c.id) (world old).cursors ≡ Some at) (file : State D) (held : Held) where
  abbrev read_then : State D → Engine D
  read_then read = record old { file = read }

  abbrev new : Engine D
  new = record old { file = file; cursors = held }

  abbrev cs : List Cursor
  cs = cursors_of old.cursors

  abbrev planned : Result (World × Pairs) Refusal
  planned = run_get_more (world old) connection c

  given_so : (reply : Pairs) → IsGivenNext at c.namespace c.batch_size old.cursors held reply → with_ok planned ≡ Ok (world new, reply)
  given_so reply n =
      let its = sym (cursor_in_table old.cursors at) in
      let left = n.left
      ∙ ap (λ (x : Cursor). let t : CursorTable = record { list = advanced cs at (batch_len_of x c.batch_size); next = old.cursors.next } in t) its in
      let says = n.says
      ∙ ap (λ (x : Cursor). ok_reply (batch_reply (codes "nextBatch") (batch_len_of x c.batch_size) x.rest x.number c.namespace)) its in
      ap with_ok (run_get_more-is (world old) connection c at place)
      ∙ (λ i. let r : Result (World × Pairs) Refusal = Ok (world_of old.told.value (sym left i), sym says i) in r)

  as_planned : (r : Result Pairs Refusal) → OnErr r (held ≡ old.cursors)
      → MatchResult r (IsGivenNext at c.namespace c.batch_size old.cursors held) (HasReadCause history old.file file) → DoesReading history planned r old new
  as_planned (Ok reply) same given = given_so reply given
  as_planned (Err e) same cause =
      (ap (λ (t : Held). world_of old.told.value (table_of t)) same, inr cause)

  same_world : (r : Result Pairs Refusal) → OnErr r (held ≡ old.cursors) → OnErr r (world new ≡ world old)
  same_world (Ok reply) same = tt
  same_world (Err e) same = ap (λ (t : Held). world_of old.told.value (table_of t)) same

  pub performs_next : (r : Result Pairs Refusal) → GivesNext history at c.namespace c.batch_size r old.file file old.cursors held
      → (AreLawfulCursors cs → AreLawfulCursors (cursors_of held)) → RunsReadingCommand history planned r old new
  performs_next r gives lawful =
      let mid = read_then gives.continues.read in
      let pins = gives.continues.pins in
      performs_tied history old new planned r h
      (continues_further history old mid new (continues_of history old mid gives.continues.extends)
      (continues_still history mid new pins.untouched.disk pins.untouched.stopped pins.untouched.version pins.takes pins.untouched.reads))
      (pins.state old.told.value.start old.told.value.now (gives.continues.same old.told.value.start old.told.value.now h.file))
      ((λ i. (pins.unchanged i, pins.takes i)) ∙ gives.continues.unchanged) (gives.tied old.is_changed h.tied) refl refl
      (record { collections = h.lawful; cursors = lawful h.cursors }) (λ k. as_planned r gives.err (gives.answers k old.is_changed h.tied))
      (same_world r gives.err)
