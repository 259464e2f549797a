-- The pages of a pager, as the calls of a tree see them.
use Rattle.std.specs.Prelude.{ℕ, ◌&&◌, not, List, [], ◌∷◌, ◌++◌, length, reverse, map, Result}
use Rattle.std.specs.Prelude.{is_ok}
use Rattle.page.specs.History.{History, now, reads}
use Rattle.page.specs.Format.{PageModel}
use Rattle.page.specs.declared.page_fault.PageFault.{PageFault}
use Rattle.freelist.specs.Book.{Book, is_free, rewind}
use Rattle.freelist.specs.Coding.{state_number}
use Rattle.freelist.specs.declared.states.PageState.{PageState}
use Rattle.freelist.specs.declared.turns.Retirement.{Retirement}
use Rattle.tree_model.specs.Store.{Store, flag}
use Rattle.roots.specs.declared.root.Root.{Root}
use Rattle.roots.specs.Image.{content_in, model_at}
use Rattle.roots.specs.Store.{disk_history, durable_root, failed_reads, is_stopped}
use Rattle.roots.specs.Turn.{made_or, numbers_of}
use Rattle.pager.specs.State.{State}

-- each moment of the pager's disk so far
abbrev pub pager_history : {D : Type 0} → (D → History) → State D → History
pager_history history p = disk_history history p.store

-- the page of this number: one that the turn made, or what the disk holds under the root that is
-- committed
abbrev pub models_of : {D : Type 0} → (D → History) → State D → ℕ → Result PageModel PageFault
models_of history p n =
    made_or p.made n (model_at (reads (now (pager_history history p))) (durable_root p.store) n)

abbrev pub root_numbers : Root → List ℕ
root_numbers root =
    root.generation ∷ root.tree ∷ root.pages ∷ root.free_list ∷ root.free_count ∷ []

-- these numbers behind their count, and then the rest
abbrev pub counted : List ℕ → List ℕ → List ℕ
counted numbers rest = length numbers ∷ numbers ++ rest

-- what is pinned, and what waits at which versions; and what these pages are
abbrev pub book_numbers : Book → List PageState → List ℕ
book_numbers book pages =
    counted book.pins
    (counted (map (λ (r : Retirement). r.page) book.waiting)
    (counted (map (λ (r : Retirement). r.version) book.waiting)
    (map state_number pages)))

-- What no call but a commit, a pin and the end of one changes: whether the store has stopped, the
-- root that is committed, what is pinned and what waits, and what each page was when the turn
-- began.
abbrev pub base_of : {D : Type 0} → State D → List ℕ
base_of p = flag (is_stopped p.store) ∷ root_numbers (durable_root p.store)
    ++ book_numbers p.book (rewind p.book.turn p.book.states)

-- A page is live where it is one and isn't free. What the turn made and retired comes newest first.
abbrev pub store_of : {D : Type 0} → (D → History) → State D → Store
store_of history p = record {
  history = pager_history history p;
  base = base_of p;
  page = λ n. content_in (models_of history p n);
  live = λ n. is_ok (models_of history p n) && not (is_free p.book.states n);
  made = reverse (numbers_of p.made);
  retired = reverse p.retired;
  failed_allocations = p.book.failed_allocations;
  failed_reads = failed_reads p.store;
}
