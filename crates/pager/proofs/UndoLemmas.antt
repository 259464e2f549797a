-- A turn that is taken back.
use Rattle.std.proofs.Common.{◌≡◌, ℕ, zero, suc, List, [], ◌∷◌, length, take, drop, refl, sym, ◌∙◌, ap, subst, arith}
use Rattle.std.proofs.lemmas.List.{length-set}
use Rattle.page.specs.Format.{PageModel}
use Rattle.page.specs.History.{History}
use Rattle.page.specs.declared.page_cache.PageCache.{PageCache}
use Rattle.tree_model.specs.Keys.{Entry}
use Rattle.tree_model.specs.Store.{Grows, flag}
use Rattle.freelist.specs.Book.{Book, is_in_use, rewind, undone}
use Rattle.freelist.specs.declared.states.PageState.{PageState}
use Rattle.freelist.specs.declared.states.PageState.TheVariants as states
use Rattle.freelist.specs.declared.turns.Change.{Change}
use Rattle.freelist.specs.declared.turns.Change.TheVariants as changes
use Rattle.freelist.proofs.SoundBooks.{stays_sound}
use Rattle.roots.specs.declared.store.Store.{Store}
use Rattle.roots.specs.Store.{durable_root}
use Rattle.pager.specs.Kept.{IsKept, IsNew, takes_of}
use Rattle.pager.specs.State.{State}
use Rattle.pager.specs.Turn.{IsBegun, LeadsBack, undone_to}
use Rattle.pager.specs.View.{store_of}
use Rattle.pager.proofs.BookLemmas.{others_of}
use Rattle.pager.proofs.ListLemmas.{all_take}
use Rattle.pager.proofs.OrderLemmas.{lower_than, order_undone}
use Rattle.pager.proofs.TurnLemmas.{committed_still, in_use_then, states_then}

pub take_takes : (n : ℕ) (made : List PageModel) → take n (takes_of made) ≡ takes_of (take n made)
take_takes zero made = refl
take_takes (suc n) [] = refl
take_takes (suc n) (m ∷ ms) = ap (λ (l : List Change). changes.Taken m.page ∷ l) (take_takes n ms)

pub drop_takes : (n : ℕ) (made : List PageModel) → drop n (takes_of made) ≡ takes_of (drop n made)
drop_takes zero made = refl
drop_takes (suc n) [] = refl
drop_takes (suc n) (m ∷ ms) = drop_takes n ms

pub length_takes : (made : List PageModel) (pages : List PageState) → length (rewind (takes_of made) pages) ≡ length pages
length_takes [] pages = refl
length_takes (m ∷ made) pages = length-set (rewind (takes_of made) pages) m.page states.Free ∙ length_takes made pages

module _ {D : Type 0} {listed places : List ℕ} (history : D → History) (store : Store D) (cache : PageCache) (made : List PageModel) (book : Book)
    (so : IsKept history store cache made book listed places) (n : ℕ) where
  later_is : drop n book.turn ≡ takes_of (drop n made)
  later_is = ap (drop n) so.booked.turn ∙ drop_takes n made

  states_are : (undone n book).states ≡ rewind (takes_of (drop n made)) book.states
  states_are = ap (λ (turn : List Change). rewind turn book.states) later_is

  pub kept_undone : IsKept history store cache (take n made) (undone n book) listed (lower_than n places)
  kept_undone = record {
    cached = so.cached;
    order = order_undone n made places so.order;
    each = all_take (IsNew (durable_root store).generation cache) n made so.each;
    booked = record {
      sound = (stays_sound book so.booked.sound).undone n;
      turn = ap (take n) so.booked.turn ∙ take_takes n made;
      limit = omega (arith, ap length states_are, length_takes (drop n made) book.states, so.booked.limit);
      count = so.booked.count;
    };
    listed = so.listed;
    wide = omega (arith, ap length states_are, length_takes (drop n made) book.states, so.wide);
  }

-- back to where the turn began
pub begun_again : {D : Type 0} {listed places : List ℕ} (history : D → History) (store : Store D) (cache : PageCache) (made : List PageModel) (retired : List ℕ)
    (book : Book)
    (so : IsKept history store cache made book listed places)
    (start : State D) (live : List ℕ) (entries : List Entry) → IsBegun history start live entries
    → let p : State D = record { store = store; made = made; retired = retired; book = book } in
    Grows (store_of history start) (store_of history p) → IsBegun history (undone_to 0 0 p) live entries
begun_again {D = D} history store cache made retired book so start live entries begun grows =
    let p : State D = record { store = store; made = made; retired = retired; book = book } in
    record {
      made = refl;
      retired = refl;
      turn = refl;
      committed = λ k. committed_still history p start grows.stays k live entries begun;
      in_use = λ k parts has. record {
        used = λ n within.
            let same : (undone 0 book).states ≡ start.book.states =
            ap (λ (turn : List Change). rewind turn book.states) so.booked.turn ∙ states_then history p start grows.stays k live entries begun so.booked in
            (in_use_then history p start grows.stays k live entries begun parts has).used n (omega (arith, within, ap length same))
            ∙ ap (λ (pages : List PageState). flag (is_in_use pages n)) (sym same);
        others = others_of (undone 0 book) (kept_undone history store cache made book so 0).booked.sound;
      };
    }

pub leads_back : {D : Type 0} {listed places : List ℕ} (history : D → History) (store : Store D) (cache : PageCache) (made : List PageModel) (retired : List ℕ)
    (book : Book)
    → IsKept history store cache made book listed places → (some few : ℕ)
    → let p : State D = record { store = store; made = made; retired = retired; book = book } in LeadsBack history some few p (undone_to some few p)
leads_back {D = D} history store cache made retired book so some few start live entries begun grows none empty =
    let p : State D = record { store = store; made = made; retired = retired; book = book } in
    subst (λ (s : State D). IsBegun history s live entries) (λ i. undone_to (sym none i) (sym empty i) p)
    (begun_again history store cache made retired book so start live entries begun grows)
