-- Behind a commit, what a crash leaves names each free page.
use Rattle.std.proofs.Common.{◌≡◌, ℕ, ◌+◌, ◌<◌, ◌≤◌, true, List, [], ◌++◌, inl, inr, refl, sym, ◌∙◌, ap, subst, arith}
use Rattle.std.specs.Prelude.{nat_lt, ◌&&◌}
use Rattle.std.proofs.lemmas.Bool.{cases_eq, cases_lt}
use Rattle.std.proofs.lemmas.Bool.Decides.{nat_tests}
use Rattle.page.specs.History.{KeepsWord, now, reads, History}
use Rattle.page.specs.Crash.{CrashLeaves}
use Rattle.page.proofs.TwoFacts.{secured}
use Rattle.tree_model.specs.Keys.{Entry, times}
use Rattle.tree_model.specs.Store.{flag}
use Rattle.tree_model.proofs.ListLemmas.{times_append}
use Rattle.tree_model.proofs.OnceLemmas.{map_live}
use Rattle.freelist.specs.Book.{is_in_use}
use Rattle.freelist.specs.FreeList.{IsPartition, Part, named_by, pages_of, room_for, times_in}
use Rattle.freelist.specs.declared.states.PageState.TheVariants as states
use Rattle.freelist.proofs.Marking.{times_in-append}
use Rattle.freelist.proofs.Rewinding.{below, used_is}
use Rattle.roots.specs.Image.{HasList, HoldsMap, IsKept, model_at, reached_by, store_of as store_of_image}
use Rattle.roots.specs.Store.{durable_root}
use Rattle.roots.specs.declared.root.Root.{Root}
use Rattle.roots.proofs.CountLemmas.{IsInside, model_inside}
use Rattle.roots.proofs.HeldFileLemmas.{no_parts, times_same}
use Rattle.roots.proofs.ImageLemmas.{holds_same, list_same, opens_same}
use Rattle.pager.specs.Commit.{ListsUnused}
use Rattle.pager.specs.State.{State as PagerState}
use Rattle.pager.specs.Turn.{AreInUse, IsBegun}
use Rattle.pager.specs.View.{pager_history}
use Rattle.pager.proofs.CapacityLemmas.{has_times}
use Rattle.collections.specs.FreePages.{NamesFreePages}

module _ {D : Type 0} (history : D → History) (p : PagerState D) (live : List ℕ) (entries : List Entry) (begun : IsBegun history p live entries)
    (unused : ListsUnused (durable_root p.store) p.book) (k : KeepsWord (pager_history history p)) where
  abbrev root : Root
  root = durable_root p.store

  abbrev image : ℕ → List ℕ
  image = reads (now (pager_history history p))

  abbrev holds : HoldsMap (model_at image root) root live entries
  holds = (begun.committed k).keeps.holds k

  abbrev parts : List Part
  parts = holds.listed.0

  has : HasList (model_at image root) root live parts
  has = holds.listed.1

  -- the pages of the tree are pages of the file
  inside : (n : ℕ) → 1 ≤ times n live → IsInside root.pages n
  inside n some =
      model_inside image root n
      (has_times (λ m. (store_of_image (model_at image root)).live m ≡ true) n live
      (map_live (store_of_image (model_at image root)) root.tree live entries holds.map) some)

  -- where the root names no list, each page of the file is one of the tree's
  in_tree : root.free_list ≡ 0 → (n : ℕ) → 0 < n → n < root.pages → 1 ≤ times n live
  in_tree none n some within =
      let used : is_in_use p.book.states n ≡ true = unused none n some within in
      let there = below p.book.states n states.InUse (used_is _ used) (λ e. cc) in
      let without : parts ≡ [] = no_parts (model_at image root) root live parts none has in
      let counted : times n (reached_by live parts) ≡ flag (is_in_use p.book.states n) = (begun.in_use k parts has).used n there in
      omega (
        arith,
        counted,
        ap flag used,
        times_append n live (pages_of parts),
        ap (λ (ps : List Part). times n (pages_of ps)) without,
      )

  without_list : root.free_list ≡ 0 → IsPartition root.pages live parts
  without_list none n =
      let without : parts ≡ [] = no_parts (model_at image root) root live parts none has in
      let rest : times_in n (pages_of parts ++ named_by parts) ≡ 0 = ap (λ (ps : List Part). times_in n (pages_of ps ++ named_by ps)) without in
      let counted : times_in n (live ++ (pages_of parts ++ named_by parts)) ≡ times n live =
      times_in-append n live (pages_of parts ++ named_by parts) ∙ omega (arith, rest, times_same n live) in
      elim (cases_lt 0 (times n live)) [
        | inl some ↦
            let within = inside n (omega (arith, some)) in
            let front : nat_lt 0 n ≡ true = grind (arith, nat_tests, within.0) in
            let back : nat_lt n root.pages ≡ true = grind (arith, nat_tests, within.1) in
            let room : room_for root.pages n ≡ 1 = (λ i. flag (front i && back i)) in
            omega (arith, counted, room, some, holds.once n)
        | inr zero_is ↦ omega (arith, counted, zero_is, no_room n (omega (arith, zero_is)))
      ]
    where
      no_room : (n : ℕ) → times n live ≡ 0 → room_for root.pages n ≡ 0
      no_room n out = elim (cases_lt 0 n) [
        | inl some ↦ elim (cases_lt n root.pages) [
          | inl within ↦ absurd (omega (arith, out, in_tree none n some within))
          | inr past ↦ grind (arith, nat_tests, past)
        ]
        | inr front ↦ grind (arith, nat_tests, front)
      ]

  all : IsPartition root.pages live parts
  all = elim (cases_eq root.free_list 0) [ inl none ↦ without_list none | inr some ↦ has.all some ]

  named_in : (other : ℕ → List ℕ) → ((j : ℕ) → IsKept (reached_by live parts) j → other j ≡ image j) → NamesFreePages other
  named_in other same =
      let there = holds_same image other root live parts entries has (λ j reached. same j (inr reached)) holds in
      record {
        root = root;
        opens = opens_same image other root (same 0 (inl (omega arith))) (same 1 (inl (omega arith))) ((begun.committed k).keeps.opens k);
        pages = live;
        entries = entries;
        tree = record { map = there.map; once = there.once };
        parts = parts;
        list = (list_same image other root live parts (λ j reached. same j (inr reached)) has).list;
        all = all;
      }

pub names_free_pages : {D : Type 0} (history : D → History) (p : PagerState D) (live : List ℕ) (entries : List Entry) → IsBegun history p live entries
    → ListsUnused (durable_root p.store) p.book → CrashLeaves (pager_history history p) NamesFreePages
names_free_pages history p live entries begun unused k image is =
    let keeps = (begun.committed k).keeps in
    let holds = keeps.holds k in
    secured (now (pager_history history p)) (IsKept (reached_by live holds.listed.0)) NamesFreePages
    (record { durable = keeps.durable k holds.listed.0 holds.listed.1; decides = named_in history p live entries begun unused k }) image is
