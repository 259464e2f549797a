-- The book that a file is opened with: after a walk, or as the root's list tells it.
use Rattle.std.proofs.Common.{◌≡◌, ◌≢◌, ℕ, max, true, List, inl, inr, refl, sym, ◌∙◌, ap, subst, arith}
use Rattle.std.specs.Global.{Vec}
use Rattle.std.specs.Prelude.{Result, Ok, Err, IfErr, IfOk, MatchResult, is_ok}
use Rattle.page.specs.Format.{PageModel}
use Rattle.page.specs.History.{History, KeepsWord, Sector, now, reads}
use Rattle.page.specs.declared.page_fault.PageFault.{PageFault}
use Rattle.tree_model.specs.Keys.{Entry}
use Rattle.freelist.specs.Book.{Book, opened}
use Rattle.freelist.specs.FreeList.{IsFreeList, Part, named_by, opened_by, pages_of}
use Rattle.freelist.specs.ListReading.{IsListOn, ReadsList}
use Rattle.freelist.specs.declared.list.FreeList.{FreeList}
use Rattle.freelist.specs.declared.list_fault.ListFault.{ListFault}
use Rattle.freelist.proofs.ListedBooks.{length-opened, length-opened_by}
use Rattle.freelist.proofs.SoundBooks.{listed_is_sound, opens_sound}
use Rattle.freelist.proofs.WrittenLists.{reading_is_exact}
use Rattle.roots.specs.declared.opening.OpenFault.{OpenFault}
use Rattle.roots.specs.declared.opening.OpenFault.TheVariants as faults
use Rattle.roots.specs.declared.root.Root.{Root}
use Rattle.roots.specs.declared.store.Store.{Store}
use Rattle.roots.specs.HeldFile.{HoldsFile, HoldsNoFile}
use Rattle.roots.specs.Image.{HasList, HoldsMap, list_in, reached_by, model_at}
use Rattle.roots.specs.Listed.{OnlyReads, listed_by, listed_in, read_fault}
use Rattle.roots.specs.Root.{IsKnown}
use Rattle.roots.specs.Walk.{FindsFree, HasReached, IsNewBook}
use Rattle.roots.proofs.FreeLemmas.{committed_still}
use Rattle.roots.proofs.HeldFileLemmas.{committed_file, list_tells_book, none_there}
use Rattle.roots.proofs.OpeningRules.{known}

-- how many pages an opened book has
abbrev pub room_of : ℕ → Root → ℕ
room_of limit root = max (max limit root.pages) 1

pub book_is : (book : Book) (limit found : ℕ) (root old : Root) (given in_use : List ℕ) → root ≡ old → book ≡ opened given (max found 1) root.generation
    → found ≡ max limit root.pages → given ≡ in_use → book ≡ opened in_use (room_of limit old) old.generation
book_is book limit found root old given in_use same is most named =
    let count : found ≡ max limit old.pages = most ∙ ap (λ (r : Root). max limit r.pages) same in
    is ∙ (λ i. opened (named i) (max (count i) 1) (same i).generation)

pub walked_new : (book : Book) (in_use : List ℕ) (limit : ℕ) (root : Root) → book ≡ opened in_use (room_of limit root) root.generation
    → IsNewBook (room_of limit root) book
walked_new book in_use limit root is = subst (IsNewBook (room_of limit root)) (sym is) (record {
  sound = opens_sound in_use (room_of limit root) root.generation;
  count = length-opened in_use (room_of limit root) root.generation;
  turn = refl;
  waiting = refl;
  pins = refl;
  failed_allocations = refl;
})

pub listed_new : (book : Book) (named : List ℕ) (limit : ℕ) (root : Root) → book ≡ opened_by named root.pages (room_of limit root) root.generation
    → IsNewBook (room_of limit root) book
listed_new book named limit root is = subst (IsNewBook (room_of limit root)) (sym is) (record {
  sound = listed_is_sound named root.pages (room_of limit root) root.generation;
  count = length-opened_by named root.pages (room_of limit root) root.generation (omega arith);
  turn = refl;
  waiting = refl;
  pins = refl;
  failed_allocations = refl;
})

-- ---- what a book and the pages beside it tell of the sheets

pub record Tells (models : ℕ → Result PageModel PageFault) (root : Root) (limit : ℕ) (found : Book × Vec ℕ) : Type 0 where
  pub listed : (parts : List Part) → IsFreeList (list_in models) root.pages root.free_list root.free_count parts → found.1.items ≡ pages_of parts
  pub book : (pages : List ℕ) (parts : List Part) (entries : List Entry) → HoldsFile models root pages parts entries
      → found.0 ≡ opened (reached_by pages parts) (room_of limit root) root.generation

module _ (models : ℕ → Result PageModel PageFault) (root : Root) (limit : ℕ) where
  abbrev pub TellsFile : Result (Book × Vec ℕ) OpenFault → Type 0
  TellsFile result = MatchResult result (Tells models root limit) (λ fault. fault ≡ faults.Damaged → HoldsNoFile models root)

  exact : (one other : List Part) → IsFreeList (list_in models) root.pages root.free_list root.free_count one
      → IsFreeList (list_in models) root.pages root.free_list root.free_count other → one ≡ other
  exact one other = reading_is_exact (list_in models) root.pages root.free_list root.free_count root.free_count one other

  pub walk_tells : (book : Book) (live own : Vec ℕ) → HasReached models root (live, own)
      → book ≡ opened live.items (room_of limit root) root.generation → Tells models root limit (book, own)
  walk_tells book live own there is = record {
    listed = λ parts list. there.listed ∙ ap pages_of (exact there.reaches.parts parts there.reaches.holds.list.list list);
    book = λ pages parts entries holds.
        let same = committed_file models root pages live.items parts entries holds.list holds.tree there.reaches in
        is ∙ ap (λ (in_use : List ℕ). opened in_use (room_of limit root) root.generation) same.0;
  }

  pub list_tells : (book : Book) (own : Vec ℕ) (named : List ℕ) → root.free_list ≢ 0
      → IsListOn (list_in models) root.pages root.free_list root.free_count own.items named
      → book ≡ opened_by named root.pages (room_of limit root) root.generation → Tells models root limit (book, own)
  list_tells book own named some read is = record {
    listed = λ parts list. read.pages_are ∙ ap pages_of (exact read.parts parts read.list list);
    book = λ pages parts entries holds.
        let same : named ≡ named_by parts = read.named_are ∙ ap named_by (exact read.parts parts read.list holds.list.list) in
        is
        ∙ ap (λ (free : List ℕ). opened_by free root.pages (room_of limit root) root.generation) same
        ∙ sym (list_tells_book models root pages parts entries holds some (room_of limit root) root.generation (omega arith));
  }

  pub list_fails : (fault : ListFault) → ReadsList (list_in models) root.pages root.free_list root.free_count (Err fault) → read_fault fault ≡ faults.Damaged
      → HoldsNoFile models root
  list_fails fault read is pages parts entries holds = none_there models root pages fault read is parts holds.list

  pages_by : (result : Result (Book × Vec ℕ) OpenFault) → TellsFile result → IfOk result (λ found. (parts : List Part)
      → IsFreeList (list_in models) root.pages root.free_list root.free_count parts → found.1.items ≡ pages_of parts)
  pages_by (Ok found) there = there.listed
  pages_by (Err fault) none = tt

  judged_by : (result : Result (Book × Vec ℕ) OpenFault) → TellsFile result → IfErr result (λ fault. fault ≡ faults.Damaged → HoldsNoFile models root)
  judged_by (Ok found) there = tt
  judged_by (Err fault) none = none

  book_by : (result : Result (Book × Vec ℕ) OpenFault) (live : List ℕ) (entries : List Entry) → IsKnown root → HoldsMap models root live entries
      → TellsFile result
      → MatchResult result
      (λ found. (parts : List Part) → HasList models root live parts
      → (found.0 ≡ opened (reached_by live parts) (max limit root.pages) root.generation) × (found.1.items ≡ pages_of parts))
      (λ fault. fault ≢ faults.Damaged)
  book_by (Ok found) live entries inside holds there = λ parts list.
      let count : room_of limit root ≡ max limit root.pages = omega (arith, inside.tree) in (
        there.book live parts entries (record { tree = holds; list = list })
            ∙ ap (λ (n : ℕ). opened (reached_by live parts) n root.generation) count,
        there.listed parts list.list,
      )
  book_by (Err fault) live entries inside holds none = λ is.
      none is live holds.listed.0 entries (record { tree = holds; list = holds.listed.1 })

pub finds : {D : Type 0} (history : D → History) (limit : ℕ) (result : Result (Book × Vec ℕ) OpenFault) (old new : Store D) → OnlyReads history old new
    → IfOk result (λ found. IsNewBook (room_of limit old.root) found.0)
    → (KeepsWord (history new.disk) → TellsFile (model_at (reads (now (history old.disk))) old.root) old.root limit result)
    → FindsFree history limit result old new
finds history limit result old new only some tells =
    let image = reads (now (history old.disk)) in
    let models = model_at image old.root in
    record {
      root = only.root;
      stopped = only.stopped;
      committed = committed_still history old new only;
      noted = only.noted;
      some = some;
      listed = λ k. pages_by models old.root limit result (tells k);
      judged = λ k. judged_by models old.root limit result (tells k);
      book = λ k live entries committed.
          let inside = known (image 0) (image 1) old.root (committed.keeps.opens (only.disk.extends.kept k)) in
          book_by models old.root limit result live entries inside (committed.keeps.holds (only.disk.extends.kept k)) (tells k);
    }

-- what was read of a list under the store as it was
pub list_then : {D : Type 0} (history : D → History) (old mid : Store D) (result : Result FreeList ListFault) → OnlyReads history old mid
    → KeepsWord (history mid.disk) → ReadsList (listed_by history mid) mid.root.pages mid.root.free_list mid.root.free_count result
    → ReadsList (listed_by history old) old.root.pages old.root.free_list old.root.free_count result
list_then history old mid result only k read =
    subst (λ (r : Root). ReadsList (listed_in (reads (now (history old.disk))) r) r.pages r.free_list r.free_count result) only.root
    (subst (λ (s : ℕ → Sector). ReadsList (listed_in (reads s) mid.root) mid.root.pages mid.root.free_list mid.root.free_count result) (only.disk.same k) read)

pub none_so : {X E : Type 0} (result : Result X E) (P : X → Type 0) (e : E) → result ≡ Err e → IfOk result P
none_so result P e is = subst (λ r. IfOk r P) (sym is) tt

pub err_so : {X E : Type 0} (result : Result X E) (P : E → Type 0) (e : E) → result ≡ Err e → P e → IfErr result P
err_so result P e is holds = subst (λ r. IfErr r P) (sym is) holds

-- ---- the root page of a tree

page_there : (model : Result PageModel PageFault) → is_ok model ≡ true → ((found : PageModel) → model ≡ Ok found → ⊥) → ⊥
page_there (Ok found) ok none = none found refl
page_there (Err fault) ok none = absurd cc

pub no_root_page : (models : ℕ → Result PageModel PageFault) (root : Root) → root.tree ≢ 0 → ((found : PageModel) → models root.tree ≡ Ok found → ⊥)
    → HoldsNoFile models root
no_root_page models root some unread pages parts entries holds = elim holds.tree.map [
  | inl none ↦ some none.0
  | inr has ↦ page_there (models root.tree) has.tree.at.live unread
]
