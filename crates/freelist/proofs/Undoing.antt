-- Changes taken back one after the other.
use Rattle.std.proofs.Common.{◌≡◌, ◌≤◌, ℕ, List, [], ◌∷◌, ◌++◌, length, take, drop, sym, ap, ◌∙◌, arith, refl}
use Rattle.std.proofs.lemmas.List.{drop-append-le, take-append-drop, take-take, length-take-le, take_all, drop_all, drop_at, take_at}
use Rattle.std.specs.Prelude.{get_or, Option, Some, None}
use Rattle.std.proofs.Common.{set, inl, inr}
use Rattle.std.proofs.lemmas.Bool.{cases_Bool}
use Rattle.std.proofs.lemmas.List.{append-nil, append_assoc}
use Rattle.freelist.specs.Book.{Book, undo, rewind, undone, least_free, retired, is_in_use}
use Rattle.freelist.specs.Undone.{Call, take as asks, retire, given, after}
use Rattle.freelist.proofs.LeastLaws.{least_is_free}
use Rattle.freelist.proofs.Rewinding.{free_is, used_is, rewind-append, put_back}
use Rattle.freelist.specs.declared.states.PageState.TheVariants as states
use Rattle.freelist.specs.declared.turns.Change.TheVariants as changes
use Rattle.freelist.specs.declared.states.PageState.{PageState}
use Rattle.freelist.specs.declared.turns.Change.{Change}

pub undone-undone : (m n : ℕ) (b : Book) → m ≤ n → n ≤ length b.turn → undone m (undone n b) ≡ undone m b
undone-undone m n b less within =
    let long : m ≤ length (take n b.turn) = omega (arith, length-take-le n b.turn within, less) in
    let parts : drop m b.turn ≡ drop m (take n b.turn) ++ drop n b.turn =
    ap (drop m) (sym (take-append-drop n b.turn)) ∙ drop-append-le m (take n b.turn) (drop n b.turn) long in
    let states : rewind (drop m (take n b.turn)) (rewind (drop n b.turn) b.states) ≡ rewind (drop m b.turn) b.states =
    sym (ap (λ (xs : List Change). rewind xs b.states) parts ∙ rewind-append (drop m (take n b.turn)) (drop n b.turn) b.states) in
    λ i. record b { states = states i; turn = take-take m n b.turn less i }

pub undone_none : (m : ℕ) (b : Book) → length b.turn ≤ m → undone m b ≡ b
undone_none m b past = λ i. record b { states = rewind (drop_all m b.turn past i) b.states; turn = take_all m b.turn past i }

-- ---- undoing leads back

-- more was taken and retired, which leads back when it is undone
record Follows (old new : Book) : Type 0 where
  more : List Change
  noted : new.turn ≡ old.turn ++ more
  back : rewind more new.states ≡ old.states
  waiting : new.waiting ≡ old.waiting
  pins : new.pins ≡ old.pins
  version : new.version ≡ old.version

module _ (b c : Book) (f : Follows b c) where
  -- one change more
  one_more : (x : Change) (pages : List PageState) → undo x pages ≡ c.states → Follows b (record c { states = pages; turn = c.turn ++ x ∷ [] })
  one_more x pages back = record {
    more = f.more ++ x ∷ [];
    noted = ap (λ (xs : List Change). xs ++ x ∷ []) f.noted ∙ append_assoc b.turn f.more (x ∷ []);
    back = rewind-append f.more (x ∷ []) pages ∙ ap (rewind f.more) back ∙ f.back;
    waiting = f.waiting;
    pins = f.pins;
    version = f.version;
  }

  given_follows : (found : Option ℕ) → least_free c.states ≡ found → Follows b (given found c)
  given_follows None e = record { more = f.more; noted = f.noted; back = f.back; waiting = f.waiting; pins = f.pins; version = f.version }
  given_follows (Some p) e =
      one_more (changes.Taken p) (set c.states p states.InUse)
      (put_back c.states p states.Free states.InUse (free_is (get_or c.states p states.Retired) (least_is_free c.states p e)))

  retired_follows : (p v : ℕ) → Follows b (retired p v c)
  retired_follows p v = elim (cases_Bool (is_in_use c.states p)) [
    | inl so ↦ rw so
        (one_more (changes.Retired p v) (set c.states p states.Retired)
        (put_back c.states p states.InUse states.Retired (used_is (get_or c.states p states.Retired) so)))
    | inr not_so ↦ rw not_so f
  ]

after_follows : (b c : Book) (calls : List Call) → Follows b c → Follows b (after calls c)
after_follows b c [] f = f
after_follows b c (asks ∷ calls) f = after_follows b (given (least_free c.states) c) calls (given_follows b c f (least_free c.states) refl)
after_follows b c (retire p v ∷ calls) f = after_follows b (retired p v c) calls (retired_follows b c f p v)

leads_back : (b c : Book) → Follows b c → undone (length b.turn) c ≡ record b { failed_allocations = c.failed_allocations }
leads_back b c f =
    let rest : drop (length b.turn) c.turn ≡ f.more = ap (drop (length b.turn)) f.noted ∙ drop_at b.turn f.more (length b.turn) refl in
    let front : take (length b.turn) c.turn ≡ b.turn = ap (take (length b.turn)) f.noted ∙ take_at b.turn f.more (length b.turn) refl in
    let states : rewind (drop (length b.turn) c.turn) c.states ≡ b.states = ap (λ (xs : List Change). rewind xs c.states) rest ∙ f.back in
    λ i. record { states = states i; waiting = f.waiting i; turn = front i; pins = f.pins i; version = f.version i; failed_allocations = c.failed_allocations }

pub undoing_leads_back : (b : Book) (calls : List Call) → undone (length b.turn) (after calls b) ≡ record b
    { failed_allocations = (after calls b).failed_allocations }
undoing_leads_back b calls =
    leads_back b (after calls b)
    (after_follows b b calls (record { more = []; noted = sym (append-nil b.turn); back = refl; waiting = refl; pins = refl; version = refl }))
