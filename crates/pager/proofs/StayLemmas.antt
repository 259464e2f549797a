-- A version that is pinned stays while pages are only read, made and retired.
use Rattle.std.proofs.Common.{◌≡◌, ℕ, ◌≤◌, Bool, true, false, List, [], ◌∷◌, refl, sym, ap, subst, arith, inl, inr}
use Rattle.std.specs.Prelude.{◌==◌, ◌||◌, nat_le}
use Rattle.std.proofs.lemmas.Bool.{cases_eq}
use Rattle.std.proofs.lemmas.Bool.Decides.{nat_tests}
use Rattle.page.specs.Content.{Content}
use Rattle.page.specs.History.{History}
use Rattle.tree_model.specs.Keys.{Each, Entry, times}
use Rattle.tree_model.specs.Reach.{HasMap}
use Rattle.tree_model.specs.Store.{IsAt, Store as Pages}
use Rattle.tree_model.proofs.OnceLemmas.{old_trees_stay}
use Rattle.tree_model.proofs.ReachLemmas.{Moves, map_moved}
use Rattle.freelist.specs.Book.{is_pinned, without}
use Rattle.roots.specs.declared.root.Root.{Root}
use Rattle.pager.specs.Pinning.{VersionsStay, WaitSince}
use Rattle.pager.specs.View.{store_of}
use Rattle.pager.proofs.BookLemmas.{no_time}
use Rattle.pager.proofs.TurnLemmas.{same_book, same_root}

-- ---- trees in other stores

each_of : (P : ℕ → Type 0) → ((n : ℕ) → P n) → (pages : List ℕ) → Each P pages
each_of P all [] = tt
each_of P all (n ∷ pages) = (all n, each_of P all pages)

-- a tree, where all that is live stays
pub map_at : (s t : Pages) (root : ℕ) (pages : List ℕ) (entries : List Entry) → ((n : ℕ) (content : Content) → IsAt s n content → IsAt t n content)
    → HasMap s root pages entries → HasMap t root pages entries
map_at s t root pages entries to = map_moved s t root pages entries (each_of (Moves s t) to pages)

-- ---- pins

-- what is retired at a version that is pinned, or later, is kept
pub pinned_since : (generation version : ℕ) (pins : List ℕ) → 1 ≤ times generation pins → generation ≤ version → is_pinned pins version ≡ true
pinned_since generation version [] some le = absurd (omega (arith, some))
pinned_since generation version (pin ∷ pins) some le = elim (cases_eq generation pin) [
  | inl is ↦
      let test : nat_le pin version ≡ true = grind (arith, nat_tests, le, is) in
      ap (λ (b : Bool). b || is_pinned pins version) test
  | inr ne ↦ later (nat_le pin version) (pinned_since generation version pins (omega (arith, some, no_time generation pin pins ne)) le)
]
  where
    later : (b : Bool) {c : Bool} → c ≡ true → (b || c) ≡ true
    later true is = refl
    later false is = is

-- one pin less
pub times_without : (generation : ℕ) (pins : List ℕ) → 1 ≤ times generation pins → (n : ℕ)
    → times n pins ≡ times n (generation ∷ without generation pins)
times_without generation [] some n = absurd (omega (arith, some))
times_without generation (pin ∷ pins) some n = elim (cases_eq pin generation) [
  | inl is ↦
      let test : (pin == generation) ≡ true = grind (arith, nat_tests, is) in
      rw test (ap (λ (m : ℕ). times n (m ∷ pins)) is)
  | inr ne ↦
      let test : (pin == generation) ≡ false = grind (arith, nat_tests, ne) in
      let later = times_without generation pins (omega (arith, some, no_time generation pin pins (λ is. ne (sym is)))) n in
      rw test (omega (arith, later))
]

-- ---- what only reads, makes and retires pages

pub versions_stay : {D : Type 0} (history : D → History) → VersionsStay history
versions_stay history old new grows =
    let same = same_book new old grows.stays.base in
    record {
      pins = same.pins;
      each = λ version pages entries keeps. record {
        pinned = subst (λ (pins : List ℕ). 1 ≤ times version.generation pins) (sym same.pins) keeps.pinned;
        since = subst (λ (root : Root). version.generation ≤ root.generation) (sym (same_root new old grows.stays.base)) keeps.since;
        waits = λ k. subst (WaitSince version.generation pages) (sym same.waiting) (keeps.waits (grows.frame k).word);
        holds = λ k.
            let frame = grows.frame k in
            old_trees_stay (store_of history old) (store_of history new) version.root pages entries frame (keeps.holds frame.word);
      };
    }
