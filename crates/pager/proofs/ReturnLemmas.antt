-- A turn that is undone to an earlier moment of it.
use Rattle.std.proofs.Common.{◌≡◌, ◌≢◌, ℕ, ◌<◌, Bool, true, false, List, [], ◌∷◌, ◌++◌, length, map, take, drop, set, get_or, refl, sym, ◌∙◌, ap, subst, arith}
use Rattle.std.proofs.Common.{inl, inr}
use Rattle.std.specs.Prelude.{◌&&◌, nat_lt, not, reverse, is_ok, Result, Ok}
use Rattle.std.specs.List.{AllByRecursion}
use Rattle.std.proofs.lemmas.List.{length-map, reverse-append, reverse-reverse, take-append-drop, take-map}
use Rattle.std.proofs.Math.Seq.{take-append_seam}
use Rattle.page.specs.Format.{PageModel}
use Rattle.page.specs.History.{History, KeepsWord, now, reads}
use Rattle.page.specs.declared.page_fault.PageFault.{PageFault}
use Rattle.tree_model.specs.Store.{Grows, IsAt, IsSame, Stays}
use Rattle.tree_model.proofs.StoreLemmas.{grows_same}
use Rattle.freelist.specs.Book.{Book, CanRewind, is_free, is_free_state, is_in_use, rewind, undone}
use Rattle.freelist.specs.declared.states.PageState.{PageState}
use Rattle.freelist.specs.declared.states.PageState.TheVariants as states
use Rattle.freelist.specs.declared.turns.Change.{Change}
use Rattle.freelist.specs.declared.turns.Change.TheVariants as changes
use Rattle.freelist.proofs.Rewinding.{put_back, rewind-append, used_is}
use Rattle.freelist.proofs.SoundBooks.{stays_sound}
use Rattle.roots.specs.Image.{content_in, model_at}
use Rattle.roots.specs.Store.{durable_root}
use Rattle.roots.specs.Turn.{made_or, numbers_of}
use Rattle.pager.specs.Kept.{IsBookFor, takes_of}
use Rattle.pager.specs.State.{State}
use Rattle.pager.specs.Turn.{IsOrderly, Returns, undone_to}
use Rattle.pager.specs.View.{base_of, pager_history, models_of, store_of}
use Rattle.pager.proofs.BookLemmas.{flag_some, taken_use}
use Rattle.pager.proofs.ListLemmas.{all_take, made_joined, made_none}
use Rattle.pager.proofs.MemberLemmas.{IsMember, all_among, member}
use Rattle.pager.proofs.TakeLemmas.{base_with}
use Rattle.pager.proofs.TurnLemmas.{same_beginning, same_root}
use Rattle.pager.proofs.UndoLemmas.{take_takes}

-- ---- lists

-- a list in front of which more came, the last one first
front_of : {X : Type 0} (xs ys more : List X) → reverse ys ≡ more ++ reverse xs → take (length xs) ys ≡ xs
front_of xs ys more is =
    ap (take (length xs)) (sym (reverse-reverse ys) ∙ ap reverse is ∙ reverse-append more (reverse xs) ∙ ap (λ zs. zs ++ reverse more) (reverse-reverse xs))
    ∙ take-append_seam xs (reverse more)

takes_are : (made : List PageModel) → takes_of made ≡ map (λ (n : ℕ). changes.Taken n) (numbers_of made)
takes_are [] = refl
takes_are (m ∷ ms) = ap (λ (l : List Change). changes.Taken m.page ∷ l) (takes_are ms)

none_named : (made : List PageModel) (n : ℕ) → AllByRecursion (λ (m : PageModel). m.page ≢ n) made → AllByRecursion (λ (k : ℕ). k ≢ n) (numbers_of made)
none_named [] n none = tt
none_named (m ∷ ms) n none = (none.0, none_named ms n none.1)

none_made : (made : List PageModel) (n : ℕ) → AllByRecursion (λ (k : ℕ). k ≢ n) (numbers_of made) → AllByRecursion (λ (m : PageModel). m.page ≢ n) made
none_made [] n none = tt
none_made (m ∷ ms) n none = (none.0, none_made ms n none.1)

-- with these numbers, none there is none here
none_too : (one other : List PageModel) (n : ℕ) → numbers_of one ≡ numbers_of other → AllByRecursion (λ (m : PageModel). m.page ≢ n) one
    → AllByRecursion (λ (m : PageModel). m.page ≢ n) other
none_too one other n same none = none_made other n (subst (AllByRecursion (λ (k : ℕ). k ≢ n)) same (none_named one n none))

-- ---- the book

-- Where all takes can be undone, what they lead back to tells what they made.
rewound_once : (made : List PageModel) (one other : List PageState) → CanRewind (takes_of made) one → CanRewind (takes_of made) other
    → rewind (takes_of made) one ≡ rewind (takes_of made) other → one ≡ other
rewound_once [] one other can could same = same
rewound_once (m ∷ ms) one other can could same =
    rewound_once ms one other can.1 could.1
    (sym (put_back (rewind (takes_of ms) one) m.page states.InUse states.Free can.0) ∙ ap (λ (pages : List PageState). set pages m.page states.InUse) same
    ∙ put_back (rewind (takes_of ms) other) m.page states.InUse states.Free could.0)

pub not_free_used : (pages : List PageState) (n : ℕ) → is_in_use pages n ≡ true → is_free pages n ≡ false
not_free_used pages n used = ap (λ (s : PageState). nat_lt 0 n && is_free_state s) (used_is (get_or pages n states.Retired) used) ∙ never (nat_lt 0 n)
  where
    never : (some : Bool) → (some && false) ≡ false
    never true = refl
    never false = refl

-- undoing some of the turn's changes leads on to where it began
pub same_start : (n : ℕ) (b : Book) → rewind (undone n b).turn (undone n b).states ≡ rewind b.turn b.states
same_start n b = sym (rewind-append (take n b.turn) (drop n b.turn) b.states) ∙ ap (λ (turn : List Change). rewind turn b.states) (take-append-drop n b.turn)

-- ---- the pages

module _ {D : Type 0} (history : D → History) (earlier old : State D) (orderly : IsOrderly earlier) (booked : IsBookFor old.made old.book)
    (positive : AllByRecursion (λ (m : PageModel). 0 < m.page) old.made)
    (grows : Grows (store_of history earlier) (store_of history old))
    (some few : ℕ) (some_is : some ≡ length earlier.made) (few_is : few ≡ length earlier.retired) where
  abbrev last : State D
  last = undone_to some few old

  base_same : base_of last ≡ base_of earlier
  base_same = (λ i. base_with old.store old.book (same_start some old.book i)) ∙ grows.stays.base

  stays_back : Stays (store_of history earlier) (store_of history last)
  stays_back = record { base = base_same; reads = grows.stays.reads }

  module _ (k : KeepsWord (pager_history history old)) where
    numbers_same : numbers_of (take some old.made) ≡ numbers_of earlier.made
    numbers_same =
        let more = (grows.frame k).made_on in
        let long : some ≡ length (numbers_of earlier.made) = some_is ∙ sym (length-map earlier.made (λ (m : PageModel). m.page)) in
        sym (take-map (λ (m : PageModel). m.page) some old.made) ∙ ap (λ (n : ℕ). take n (numbers_of old.made)) long
        ∙ front_of (numbers_of earlier.made) (numbers_of old.made) more.0 more.1

    retired_same : take few old.retired ≡ earlier.retired
    retired_same =
        let more = (grows.frame k).retired_on in
        ap (λ (n : ℕ). take n old.retired) few_is ∙ front_of earlier.retired old.retired more.0 more.1

    turn_same : (undone some old.book).turn ≡ takes_of earlier.made
    turn_same =
        ap (take some) booked.turn ∙ take_takes some old.made ∙ takes_are (take some old.made)
        ∙ ap (map (λ (n : ℕ). changes.Taken n)) numbers_same ∙ sym (takes_are earlier.made)

    could : CanRewind (takes_of earlier.made) earlier.book.states
    could = subst (λ (turn : List Change). CanRewind turn earlier.book.states) orderly.booked.turn orderly.booked.sound.undoable

    states_same : (undone some old.book).states ≡ earlier.book.states
    states_same =
        rewound_once earlier.made (undone some old.book).states earlier.book.states
        (subst (λ (turn : List Change). CanRewind turn (undone some old.book).states) turn_same ((stays_sound old.book booked.sound).undone some).undoable)
        could
        (ap (λ (turn : List Change). rewind turn (undone some old.book).states) (sym turn_same) ∙ same_beginning last earlier base_same
        ∙ ap (λ (turn : List Change). rewind turn earlier.book.states) orderly.booked.turn)

    abbrev disk_of : State D → ℕ → Result PageModel PageFault
    disk_of p n = model_at (reads (now (pager_history history p))) (durable_root p.store) n

    disk_same : (n : ℕ) → disk_of old n ≡ disk_of earlier n
    disk_same n =
        (λ i. model_at (reads (grows.stays.reads.same k i)) (durable_root old.store) n)
        ∙ ap (λ root. model_at (reads (now (pager_history history earlier))) root n) (same_root old earlier grows.stays.base)

    -- the page of a number has the content that it had
    record IsAsThen (n : ℕ) : Type 0 where
      content : content_in (models_of history last n) ≡ content_in (models_of history earlier n)
      there : is_ok (models_of history last n) ≡ is_ok (models_of history earlier n)

    as_then_made : (n : ℕ) → IsMember earlier.made n → IsMember (take some old.made) n → IsAsThen n
    as_then_made n was is =
        let then_there : models_of history earlier n ≡ Ok was.model = was.there (disk_of earlier n) in
        let now_there : models_of history last n ≡ Ok is.model = is.there (disk_of old n) in
        let between : models_of history old n ≡ Ok is.model =
        ap (λ (l : List PageModel). made_or l n (disk_of old n)) (sym (take-append-drop some old.made))
        ∙ made_joined (take some old.made) (drop some old.made) n (disk_of old n)
        ∙ is.there (made_or (drop some old.made) n (disk_of old n)) in
        let used : is_in_use earlier.book.states n ≡ true =
        flag_some (is_in_use earlier.book.states n) (omega (arith, was.count, taken_use earlier.made earlier.book.states could n)) in
        let some_number : 0 < n =
        subst (λ (m : ℕ). 0 < m) is.is
        (all_among (λ (m : PageModel). 0 < m.page) (take some old.made) is.model (all_take (λ (m : PageModel). 0 < m.page) some old.made positive) is.among) in
        let at : IsAt (store_of history earlier) n (content_in (models_of history earlier n)) = record {
          number = some_number;
          live = (λ i. is_ok (then_there i) && not (not_free_used earlier.book.states n used i));
          holds = refl;
        } in
        record {
          content = ap content_in now_there ∙ sym (ap content_in between) ∙ ((grows.frame k).kept n (content_in (models_of history earlier n)) at).holds;
          there = ap is_ok now_there ∙ sym (ap is_ok then_there);
        }

    as_then : (n : ℕ) → IsAsThen n
    as_then n = elim (member earlier.made n) [
      | inl none ↦
          let then_disk : models_of history earlier n ≡ disk_of earlier n = made_none earlier.made n (disk_of earlier n) none in
          let now_disk : models_of history last n ≡ disk_of old n =
          made_none (take some old.made) n (disk_of old n) (none_too earlier.made (take some old.made) n (sym numbers_same) none) in
          let same : models_of history last n ≡ models_of history earlier n = now_disk ∙ disk_same n ∙ sym then_disk in
          record { content = ap content_in same; there = ap is_ok same }
      | inr was ↦ elim (member (take some old.made) n) [
        | inl none ↦ absurd
            (all_among (λ (m : PageModel). m.page ≢ n) earlier.made was.model (none_too (take some old.made) earlier.made n numbers_same none) was.among was.is)
        | inr is ↦ as_then_made n was is
      ]
    ]

    pub same_back : IsSame (store_of history earlier) (store_of history last)
    same_back = record {
      word = (grows.frame k).word;
      page = λ i n. (as_then n).content i;
      live = λ i n. (as_then n).there i && not (is_free (states_same i) n);
      made = ap reverse numbers_same;
      retired = ap reverse retired_same;
      failures = (grows.frame k).failures;
      failed_allocations = (grows.frame k).failed_allocations;
      counts = (let counts = (grows.frame k).counts in record { rises = counts.rises; paced = counts.paced; counted = counts.counted });
    }

  pub grows_back : Grows (store_of history earlier) (store_of history last)
  grows_back = grows_same (store_of history earlier) (store_of history last) stays_back same_back

pub returns_back : {D : Type 0} (history : D → History) (old : State D) → IsBookFor old.made old.book
    → AllByRecursion (λ (m : PageModel). 0 < m.page) old.made → (some few : ℕ)
    → Returns history some few old (undone_to some few old)
returns_back history old booked positive some few earlier orderly grows some_is few_is = (
  grows_back history earlier old orderly booked positive grows some few some_is few_is,
  same_back history earlier old orderly booked positive grows some few some_is few_is,
)
