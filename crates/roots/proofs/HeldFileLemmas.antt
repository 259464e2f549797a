-- What a file holds whose root may name a list, and what is found there.
use Rattle.std.proofs.Common.{◌≡◌, ◌≢◌, ℕ, ◌+◌, ◌≤◌, Bool, true, false, List, [], ◌∷◌, ◌++◌, refl, sym, ◌∙◌, ap, subst, arith}
use Rattle.std.specs.Global.{Vec}
use Rattle.std.specs.Prelude.{◌==◌, if◌then◌else◌, Result, Ok, Err}
use Rattle.std.proofs.lemmas.Bool.Decides.{nat_tests}
use Rattle.page.specs.Format.{PageModel}
use Rattle.page.specs.History.{History}
use Rattle.page.specs.declared.page_fault.PageFault.{PageFault}
use Rattle.tree_model.specs.Keys.{Entry, times}
use Rattle.freelist.specs.Book.{opened}
use Rattle.freelist.specs.FreeList.{Part, named_by, opened_by, pages_of, room_for, times_in}
use Rattle.freelist.specs.ListReading.{AreAllBelow, ReadsList}
use Rattle.freelist.specs.declared.list.FreeList.{FreeList}
use Rattle.freelist.specs.declared.list_fault.ListFault.{ListFault}
use Rattle.freelist.specs.declared.list_fault.ListFault.TheVariants as lists
use Rattle.freelist.proofs.ListedBooks.{book_of_partition}
use Rattle.freelist.proofs.Marking.{times_in-append}
use Rattle.freelist.proofs.WrittenLists.{reading_is_exact}
use Rattle.roots.specs.HeldFile.{ChecksList, FitsTree, HoldsFile, HoldsNoFile, Reaches}
use Rattle.roots.specs.Image.{HasList, HoldsMap, HoldsTree, IsOnPages, list_in, reached_by, model_at, store_of}
use Rattle.roots.specs.Listed.{HasFailed, read_fault}
use Rattle.roots.specs.Root.{IsUnlisted}
use Rattle.roots.specs.Store.{disk_history}
use Rattle.roots.specs.Walk.{HasCause, HasReached}
use Rattle.roots.specs.declared.opening.OpenFault.{OpenFault}
use Rattle.roots.specs.declared.opening.OpenFault.TheVariants as faults
use Rattle.roots.specs.declared.root.Root.{Root}
use Rattle.roots.specs.declared.store.Store.{Store}
use Rattle.roots.proofs.ImageLemmas.{holds_same, list_same, one_list, only_tree}
use Rattle.roots.proofs.OneMap.{one_map}

-- both crates count the same
pub times_same : (n : ℕ) (xs : List ℕ) → times n xs ≡ times_in n xs
times_same n [] = refl
times_same n (x ∷ xs) = ap (λ (k : ℕ). (if n == x then 1 else 0) + k) (times_same n xs)

-- ---- no list

abbrev one_if : Bool → ℕ
one_if b = if b then 1 else 0

zero_never : (page_count page : ℕ) (rest : List ℕ) → page ≡ 0 → times_in 0 (page ∷ rest) ≤ room_for page_count 0 → ⊥
zero_never page_count page rest is once =
    let test : (0 == page) ≡ true = grind (arith, nat_tests, is) in
    omega (arith, once, ap one_if test)

pub no_parts : (models : ℕ → Result PageModel PageFault) (root : Root) (pages : List ℕ) (parts : List Part) → root.free_list ≡ 0
    → HasList models root pages parts → parts ≡ []
no_parts models root pages [] none has = refl
no_parts models root pages (part ∷ rest) none has =
    let twice : times_in 0 (part.page ∷ (pages_of rest ++ named_by (part ∷ rest))) ≤ room_for root.pages 0 = has.list.once 0 in
    absurd (zero_never root.pages part.page (pages_of rest ++ named_by (part ∷ rest)) (has.list.begins ∙ none) twice)

pub empty_list : (models : ℕ → Result PageModel PageFault) (root : Root) (pages : List ℕ) → IsUnlisted root → HasList models root pages []
empty_list models root pages none = record {
  list = record { begins = sym none.0; holds = tt; counted = sym none.1; once = λ page. omega arith };
  all = λ some. absurd (some none.0);
}

pub no_list_is_tree : (models : ℕ → Result PageModel PageFault) (root : Root) → IsUnlisted root
    → (pages : List ℕ) (entries : List Entry) → HoldsMap models root pages entries
    → HoldsFile models root pages [] entries × ((parts : List Part) → HasList models root pages parts → parts ≡ [])
no_list_is_tree models root none pages entries map =
    (record { tree = map; list = empty_list models root pages none }, (λ parts has. no_parts models root pages parts none.0 has))

-- ---- one file

pub holds_one_file : (models : ℕ → Result PageModel PageFault) (root : Root) (pages others : List ℕ) (parts rest : List Part) (entries more : List Entry)
    → HoldsFile models root pages parts entries → HoldsFile models root others rest more → (pages ≡ others) × ((parts ≡ rest) × (entries ≡ more))
holds_one_file models root pages others parts rest entries more one two =
    let same = one_map (store_of models) root.tree pages others entries more one.tree.map two.tree.map in
    (same.pages_are, (one_list models root pages others parts rest one.list two.list, same.entries_are))

pub names_the_rest : (models : ℕ → Result PageModel PageFault) (root : Root) (pages : List ℕ) (parts : List Part) (entries : List Entry)
    → HoldsFile models root pages parts entries → root.free_list ≢ 0 → (page : ℕ)
    → times page (reached_by pages parts) + times_in page (named_by parts) ≡ room_for root.pages page
names_the_rest models root pages parts entries holds some page =
    omega (
      arith,
      holds.list.all some page,
      times_in-append page pages (pages_of parts ++ named_by parts),
      times_in-append page (pages_of parts) (named_by parts),
      times_same page (pages ++ pages_of parts),
      times_in-append page pages (pages_of parts),
    )

pub list_tells_book : (models : ℕ → Result PageModel PageFault) (root : Root) (pages : List ℕ) (parts : List Part) (entries : List Entry)
    → HoldsFile models root pages parts entries → root.free_list ≢ 0 → (limit version : ℕ) → root.pages ≤ limit
    → opened (reached_by pages parts) limit version ≡ opened_by (named_by parts) root.pages limit version
list_tells_book models root pages parts entries holds some limit version large =
    book_of_partition root.pages limit version pages parts (holds.list.all some) large

-- ---- what the pages hold

pub reached_decides : (image other : ℕ → List ℕ) (root : Root) (pages : List ℕ) (parts : List Part) (entries : List Entry)
    → HoldsFile (model_at image root) root pages parts entries → ((k : ℕ) → IsOnPages (reached_by pages parts) k → other k ≡ image k)
    → HoldsFile (model_at other root) root pages parts entries
reached_decides image other root pages parts entries holds same = record {
  tree = holds_same image other root pages parts entries holds.list same holds.tree;
  list = list_same image other root pages parts same holds.list;
}

-- ---- the list that is read

pub cause_of : {D : Type 0} (history : D → History) (old new : Store D) (fault : ListFault) → (fault ≡ lists.Device → HasFailed history old new)
    → HasCause (disk_history history old) (disk_history history new) (read_fault fault)
cause_of history old new lists.Device failed = λ k. (failed refl k).1
cause_of history old new lists.Memory failed = tt
cause_of history old new lists.Damaged failed = tt

damaged_list : (fault : ListFault) → read_fault fault ≡ faults.Damaged → fault ≡ lists.Damaged
damaged_list lists.Device is = absurd cc
damaged_list lists.Memory is = absurd cc
damaged_list lists.Damaged is = refl

module _ (models : ℕ → Result PageModel PageFault) (root : Root) (tree : List ℕ) where
  pub none_there : (fault : ListFault) → ReadsList (list_in models) root.pages root.free_list root.free_count (Err fault)
      → ChecksList models root tree (Err (read_fault fault))
  none_there fault read is parts has = read (damaged_list fault is) parts has.list

  module _ (list : FreeList) (read : ReadsList (list_in models) root.pages root.free_list root.free_count (Ok list)) where
    pub unfit : FitsTree root tree list.pages.items list.named.items false → ChecksList models root tree (Err faults.Damaged)
    unfit (some, not_all) is parts has =
        let same : read.parts ≡ parts =
        reading_is_exact (list_in models) root.pages root.free_list root.free_count root.free_count read.parts parts read.list has.list in
        let pages : list.pages.items ≡ pages_of parts = read.pages_are ∙ ap pages_of same in
        let named : list.named.items ≡ named_by parts = read.named_are ∙ ap named_by same in
        not_all (subst (AreAllBelow root.pages) (λ i. tree ++ (sym pages i ++ sym named i)) (has.all some))

    pub fit : FitsTree root tree list.pages.items list.named.items true → ChecksList models root tree (Ok list)
    fit all = record {
      parts = read.parts;
      has = record {
        list = read.list;
        all = λ some. subst (AreAllBelow root.pages) (λ i. tree ++ (read.pages_are i ++ read.named_are i)) (all some);
      };
      pages_are = read.pages_are;
      named_are = read.named_are;
    }

-- ---- the pages that are reached

module _ (models : ℕ → Result PageModel PageFault) (root : Root) where
  pub no_tree : (e : OpenFault) → ((pages : List ℕ) (entries : List Entry) → HoldsTree models root pages entries → e ≢ faults.Damaged)
      → e ≡ faults.Damaged → HoldsNoFile models root
  no_tree e walked is pages parts entries holds = walked pages entries (only_tree models root pages entries holds.tree) is

  pub no_list : (tree : List ℕ) (e : OpenFault) → ((pages : List ℕ) (entries : List Entry) → HoldsTree models root pages entries → tree ≡ pages)
      → ChecksList models root tree (Err e) → e ≡ faults.Damaged → HoldsNoFile models root
  no_list tree e walked checks is pages parts entries holds =
      checks is parts (subst (λ (p : List ℕ). HasList models root p parts) (sym (walked pages entries (only_tree models root pages entries holds.tree)))
      holds.list)

  pub all_reached : (tree : List ℕ) (live own : Vec ℕ) (list : FreeList) → (entries : List Entry) × HoldsTree models root tree entries
      → ChecksList models root tree (Ok list) → live.items ≡ tree ++ list.pages.items → own.items ≡ list.pages.items
      → HasReached models root (live, own)
  all_reached tree live own list found checks is own_is = record {
    reaches = record {
      pages = tree;
      parts = checks.parts;
      entries = found.0;
      holds = record { tree = record { map = found.1.map; once = found.1.once; listed = (checks.parts, checks.has) }; list = checks.has };
      are = is ∙ ap (λ (more : List ℕ). tree ++ more) checks.pages_are;
    };
    listed = own_is ∙ checks.pages_are;
  }

-- ---- what is found of a committed file

pub committed_file : (models : ℕ → Result PageModel PageFault) (root : Root) (live reached : List ℕ) (parts : List Part) (entries : List Entry)
    → HasList models root live parts → HoldsMap models root live entries → (found : Reaches models root reached)
    → (reached ≡ reached_by live parts) × (found.parts ≡ parts)
committed_file models root live reached parts entries list map found =
    let same = holds_one_file models root found.pages live found.parts parts found.entries entries found.holds (record { tree = map; list = list }) in
    (found.are ∙ (λ i. reached_by (same.0 i) (same.1.0 i)), same.1.0)
