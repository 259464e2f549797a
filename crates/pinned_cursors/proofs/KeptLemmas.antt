-- A cursor that keeps its documents gives the next ones.
use Rattle.std.proofs.Common.{◌≡◌, inl, ℕ, ◌<◌, Bool, true, false, List, [], length, Option, Some, None, Ok, Err, refl, sym, ap, subst, ◌∙◌}
use Rattle.std.specs.Prelude.{nat_le, if◌then◌else◌, codes, is_some, not}
use Rattle.bson.specs.Tree.{Pairs}
use Rattle.page.specs.History.{History}
use Rattle.path.specs.declared.refusal.Refusal.{Refusal}
use Rattle.path.specs.declared.refusal.Refusal.TheVariants as refusals
use Rattle.collections.specs.State.{State}
use Rattle.database_model.specs.Cursors.{advanced, batch_reply, cursor_at}
use Rattle.database_model.specs.GetMore.{batch_len_of}
use Rattle.database_model.specs.Lawful.{AreLawfulCursors}
use Rattle.database_model.specs.Refusals.{ok_reply}
use Rattle.database_model.specs.World.{Cursor, CursorTable}
use Rattle.cursors.specs.Changes.{advanced_kept, after, gone_on, without}
use Rattle.cursors.specs.Held.{Held, HeldWalk, cursors_of, held_at, table_of}
use Rattle.cursors.specs.TableLaws.{cursor_in_table}
use Rattle.pinned_cursors.specs.Batches.{GivesNext}
use Rattle.pinned_cursors.specs.Tied.{AreTied, with_pin}
use Rattle.pinned_cursors.proofs.LawfulLemmas.{lawful_gone_on, lawful_without}
use Rattle.pinned_cursors.proofs.TiedLemmas.{tied_removed, tied_set}
use Rattle.pinned_cursors.proofs.TurnLemmas.{nothing_read}

-- a cursor that keeps its documents has no walk
pub no_walk : (walk : Option HeldWalk) (keeps : Bool) → keeps ≡ not (is_some walk) → keeps ≡ true → walk ≡ None
no_walk None keeps is true_is = refl
no_walk (Some w) keeps is true_is = absurd (no (sym true_is ∙ is))
  where
    no : true ≡ false → ⊥
    no e = cc

module _ {D : Type 0} (history : D → History) (file : State D) (held : Held) (at : ℕ) (namespace : List ℕ) (most : Option ℕ) where
  pub kept_refused : (e : Refusal) → e ≡ refusals.OutOfMemory → GivesNext history at namespace most (Err e) file file held held
  kept_refused e is = record { continues = nothing_read history file; err = refl; answers = λ k changed tied. inl is; tied = λ changed tied. tied }

  module _ (none : (held_at held at).walk ≡ None) (there : at < length held.list) (count : ℕ) where
    abbrev its : Cursor
    its = (held_at held at).cursor

    abbrev cs : List Cursor
    cs = cursors_of held

    abbrev by_end : Bool → Held
    by_end is_last = if is_last then without held at else gone_on held at count None

    tied_after : (is_last changed : Bool) → AreTied changed history file held.list → AreTied changed history file (by_end is_last).list
    tied_after true changed tied = tied_removed history changed file held.list at there none tied
    tied_after false changed tied =
        tied_set history changed file held.list at there (after (held_at held at) count None)
        (ap (λ (w : Option HeldWalk). with_pin w []) (sym none)) tied (λ running k. tt)

    lawful_after : (is_last : Bool) → AreLawfulCursors (cursors_of held) → AreLawfulCursors (cursors_of (by_end is_last))
    lawful_after true h = lawful_without held at h
    lawful_after false h = lawful_gone_on held at count None there h

    module _ (new : Held) (went : new ≡ advanced_kept held at count) where
      pub kept_lawful : AreLawfulCursors (cursors_of held) → AreLawfulCursors (cursors_of new)
      kept_lawful h = subst (λ (x : Held). AreLawfulCursors (cursors_of x)) (sym went) (lawful_after (nat_le (length its.rest) count) h)

      pub kept_given : (reply : Pairs) → count ≡ batch_len_of (cursor_at (cursors_of held) at) most
          → reply ≡ ok_reply (batch_reply (codes "nextBatch") count (cursor_at (cursors_of held) at).rest (cursor_at (cursors_of held) at).number namespace)
          → table_of new ≡ record (table_of held) { list = advanced (cursors_of held) at count }
          → GivesNext history at namespace most (Ok reply) file file held new
      kept_given reply counted says table = record {
        continues = nothing_read history file;
        err = tt;
        answers = λ k changed tied. record {
          says = says ∙ ap (λ (n : ℕ). ok_reply (batch_reply (codes "nextBatch") n (cursor_at cs at).rest (cursor_at cs at).number namespace)) counted
              ∙ ap (λ (c : Cursor). ok_reply (batch_reply (codes "nextBatch") (batch_len_of c most) c.rest c.number namespace)) (cursor_in_table held at);
          left = table
              ∙ ap (λ (n : ℕ). let t : CursorTable = record { list = advanced cs at n; next = held.next } in t)
              (counted ∙ ap (λ (c : Cursor). batch_len_of c most) (cursor_in_table held at));
        };
        tied = λ changed tied. subst (λ (x : Held). AreTied changed history file x.list) (sym went)
            (tied_after (nat_le (length its.rest) count) changed tied);
      }
