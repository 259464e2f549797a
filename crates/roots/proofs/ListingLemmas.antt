-- The pages of a list, written and read.
use Rattle.std.proofs.Common.{◌≡◌, ◌<◌, ◌≤◌, ◌+◌, ℕ, zero, suc, true, false, List, [], ◌∷◌, ◌++◌, length, length-take, take, drop, ap, sym, ◌∙◌, arith, refl}
use Rattle.std.proofs.Common.{inl, inr}
use Rattle.std.proofs.Common.{Some, subst}
use Rattle.std.specs.Prelude.{◌^◌, ◌==◌, get_or, nat_lt, Result, Ok, Err}
use Rattle.std.specs.List.{AllByRecursion}
use Rattle.std.proofs.lemmas.Bool.Decides.{nat_tests}
use Rattle.std.proofs.lemmas.Bool.{cases_lt}
use Rattle.std.proofs.lemmas.List.{take-append-drop, take_more}
use Rattle.std.proofs.lemmas.Option.{same_Some}
use Rattle.freelist.proofs.MadeLists.{once, reads_back}
use Rattle.freelist.proofs.Marking.{times_in-append, times_in_front}
use Rattle.freelist.specs.Book.{Book}
use Rattle.freelist.specs.FreeList.{AreOnceBelow, HoldsList, ListContent, first_page, room_for, times_in, written}
use Rattle.freelist.specs.ListLaws.{GivesBack}
use Rattle.freelist.specs.ListReading.{ReadsList}
use Rattle.freelist.specs.ListWriting.{IsMade, content_at, count_with}
use Rattle.freelist.specs.declared.list.FreeList.{FreeList}
use Rattle.freelist.specs.declared.list_fault.ListFault.{ListFault}
use Rattle.freelist.specs.declared.list_fault.ListFault.TheVariants as lists
use Rattle.page.proofs.PagesBack.{reads_back as page_back}
use Rattle.page.specs.Content.{free_list}
use Rattle.page.specs.Format.{PageModel, model_in}
use Rattle.page.specs.History.{History}
use Rattle.page.specs.PageLaws.{IsPageModel}
use Rattle.page.specs.declared.page_fault.PageFault.{PageFault}
use Rattle.roots.specs.Image.{listed_model, model_at}
use Rattle.roots.specs.Listed.{list_models, listed_fault, listed_in}
use Rattle.roots.specs.Turn.{AreWritten}
use Rattle.roots.specs.Walk.{HasCause}
use Rattle.roots.specs.declared.opening.OpenFault.{OpenFault}
use Rattle.roots.specs.declared.opening.OpenFault.TheVariants as opens
use Rattle.roots.specs.declared.root.Root.{Root}

-- ---- a page that isn't read

pub no_part : (model : Result PageModel PageFault) → ((found : PageModel) → model ≡ Ok found → ⊥) → (content : ListContent)
    → listed_model model ≡ Some content → ⊥
no_part (Ok model) none content is = none model refl
no_part (Err fault) none content is = cc

-- a page was damaged only where it wasn't one of the file
pub damage_is : (old new : History) (fault : OpenFault) → HasCause old new fault → listed_fault fault ≡ lists.Damaged → fault ≡ opens.Damaged
damage_is old new opens.Device cause is = absurd cc
damage_is old new opens.Memory cause is = absurd cc
damage_is old new opens.NotADatabase cause is = absurd cause
damage_is old new opens.Damaged cause is = refl
damage_is old new opens.NewerFormat cause is = absurd cause

-- ---- numbers that stand once are those of pages

pub has_room : (page_count n : ℕ) → 1 ≤ room_for page_count n → (0 < n) × (n < page_count)
has_room page_count zero room = absurd (omega (arith, room))
has_room page_count (suc n) room = elim (cases_lt (suc n) page_count) [
  | inl inside ↦ (omega arith, inside)
  | inr past ↦
      let some : nat_lt 0 (suc n) ≡ true = grind (arith, nat_tests) in
      let none : nat_lt (suc n) page_count ≡ false = grind (arith, nat_tests) in
      let no_room : room_for page_count (suc n) ≡ 0 = rw (some, none) refl in
      absurd (omega (arith, room, no_room))
]

times_first : (n : ℕ) (ns : List ℕ) → 1 ≤ times_in n (n ∷ ns)
times_first n ns =
    let same : (n == n) ≡ true = grind (arith, nat_tests) in
    rw same (omega arith)

pub all_pages : (page_count : ℕ) (ns : List ℕ) → AreOnceBelow page_count ns → AllByRecursion (λ (n : ℕ). (0 < n) × (n < page_count)) ns
all_pages page_count [] once_each = tt
all_pages page_count (n ∷ ns) once_each = (
  has_room page_count n (omega (arith, once_each n, times_first n ns)),
  all_pages page_count ns (λ k. omega (arith, once_each k)),
)

times_behind : (n i : ℕ) (ns : List ℕ) → times_in n (drop i ns) ≤ times_in n ns
times_behind n i ns = omega (arith, times_in-append n (take i ns) (drop i ns), ap (times_in n) (take-append-drop i ns))

small_numbers : (page_count : ℕ) (ns : List ℕ) → page_count ≤ 2 ^ 32 → AllByRecursion (λ (n : ℕ). (0 < n) × (n < page_count)) ns
    → AllByRecursion (λ (n : ℕ). n < 2 ^ 32) ns
small_numbers page_count [] few all = tt
small_numbers page_count (n ∷ ns) few all = (omega (arith, all.0.1, few), small_numbers page_count ns few all.1)

-- ---- each page of the list

next_small : (page_count : ℕ) (pages named : List ℕ) → page_count ≤ 1048576 → AllByRecursion (λ (n : ℕ). (0 < n) × (n < page_count)) pages
    → first_page (written pages named) < 2 ^ 32
next_small page_count [] named few all = omega arith
next_small page_count (page ∷ pages) named few all = omega (arith, all.0.1, few)

-- it can be written
pub list_is_written : (bound generation page_count : ℕ) → 1 ≤ generation → generation ≤ bound → generation < 2 ^ 64 → page_count ≤ 1048576
    → (pages named : List ℕ) → AllByRecursion (λ (n : ℕ). (0 < n) × (n < page_count)) pages
    → ((n : ℕ) → times_in n named ≤ room_for page_count n) → AllByRecursion (IsPageModel bound) (list_models generation (written pages named))
list_is_written bound generation page_count some until small few [] named all room = tt
list_is_written bound generation page_count some until small few (page ∷ pages) named all room = (
  record {
    page = omega (arith, all.0.1, few);
    some = some;
    small = small;
    until = until;
    content = (
      next_small page_count pages (drop 1019 named) few all.1,
      omega (arith, length-take 1019 named),
      small_numbers page_count (take 1019 named) (omega (arith, few))
          (all_pages page_count (take 1019 named) (λ n. omega (arith, room n, times_in_front n 1019 named))),
    );
  },
  list_is_written bound generation page_count some until small few pages (drop 1019 named) all.1 (λ n. omega (arith, room n, times_behind n 1019 named)),
)

module _ (image : ℕ → List ℕ) (root : Root) (generation : ℕ) (some : 1 ≤ generation) (until : generation ≤ root.generation)
    (small : root.generation < 2 ^ 64) (few : root.pages ≤ 1048576) where
  one_there : (model : PageModel) → 0 < model.page → model.page < root.pages → IsPageModel root.generation model
      → AreWritten image (model ∷ []) → model_at image root model.page ≡ Ok model
  one_there model positive inside is there =
      let first : nat_lt 0 model.page ≡ true = grind (arith, nat_tests) in
      let last : nat_lt model.page root.pages ≡ true = grind (arith, nat_tests) in
      rw (first, last) (ap (model_in model.page root.generation) there.0 ∙ page_back root.generation model is)

  pub holds_written : (pages named : List ℕ) → AllByRecursion (λ (n : ℕ). (0 < n) × (n < root.pages)) pages
      → ((n : ℕ) → times_in n named ≤ room_for root.pages n) → AreWritten image (list_models generation (written pages named))
      → HoldsList (listed_in image root) (written pages named)
  holds_written [] named all room there = tt
  holds_written (page ∷ pages) named all room there =
      let all_models =
      list_is_written root.generation generation root.pages some until (omega (arith, until, small)) few (page ∷ pages) named all room in (
        ap listed_model (one_there _ all.0.0 all.0.1 all_models.0 (there.0, tt)),
        holds_written pages (drop 1019 named) all.1 (λ n. omega (arith, room n, times_behind n 1019 named)) there.1,
      )

pub list_there : (image : ℕ → List ℕ) (root : Root) (generation : ℕ) (pages named : List ℕ) → 1 ≤ generation → generation ≤ root.generation
    → root.generation < 2 ^ 64 → root.pages ≤ 1048576 → AreOnceBelow root.pages (pages ++ named)
    → AreWritten image (list_models generation (written pages named)) → HoldsList (listed_in image root) (written pages named)
list_there image root generation pages named some until small few once_each there =
    holds_written image root generation some until small few pages named
    (all_pages root.pages pages (λ n. omega (arith, once_each n, times_in-append n pages named)))
    (λ n. omega (arith, once_each n, times_in-append n pages named)) there

pub list_read : (image : ℕ → List ℕ) (root : Root) (page_count : ℕ) (pages named : List ℕ) (old new : Book) → IsMade page_count pages named old new
    → 1 ≤ root.generation → root.generation < 2 ^ 64 → root.pages ≤ 1048576 → root.pages ≡ count_with page_count pages
    → root.free_list ≡ first_page (written pages named) → root.free_count ≡ length named
    → AreWritten image (list_models root.generation (written pages named)) → (result : Result FreeList ListFault)
    → ReadsList (listed_in image root) root.pages root.free_list root.free_count result → GivesBack pages named result
list_read image root page_count pages named old new made some small few pages_are first_is count_is there result read =
    let once_each : AreOnceBelow root.pages (pages ++ named) =
    subst (λ (n : ℕ). AreOnceBelow n (pages ++ named)) (sym pages_are) (once page_count pages named old new made) in
    let holds : HoldsList (listed_in image root) (written pages named) =
    list_there image root root.generation pages named some (omega arith) small few once_each there in
    reads_back page_count pages named old new made (listed_in image root) holds result
    (subst (λ (n : ℕ). ReadsList (listed_in image root) (count_with page_count pages) (first_page (written pages named)) n result) count_is
    (subst (λ (n : ℕ). ReadsList (listed_in image root) (count_with page_count pages) n root.free_count result) first_is
    (subst (λ (n : ℕ). ReadsList (listed_in image root) n root.free_list root.free_count result) pages_are read)))

-- ---- the pages of a list, one after the other

pub models_long : (generation : ℕ) (pages named : List ℕ) → length (list_models generation (written pages named)) ≡ length pages
models_long generation [] named = refl
models_long generation (page ∷ pages) named = omega (arith, models_long generation pages (drop 1019 named))

abbrev model_for : ℕ → ℕ → ListContent → PageModel
model_for page generation content = record { page = page; generation = generation; content = free_list content.next content.named }

model_written : (generation : ℕ) (pages named : List ℕ) (at : ℕ) (content : ListContent) (other : PageModel) → at < length pages
    → content_at (written pages named) at ≡ Some content
    → get_or (list_models generation (written pages named)) at other ≡ model_for (get_or pages at 0) generation content
model_written generation [] named at content other within is = absurd (omega (arith, within))
model_written generation (page ∷ pages) named zero content other within is =
    ap (model_for page generation)
    (same_Some (record { next = first_page (written pages (drop 1019 named)); named = take 1019 named }) content is)
model_written generation (page ∷ pages) named (suc at) content other within is =
    model_written generation pages (drop 1019 named) at content other (omega (arith, within)) is

pub models_more : (generation : ℕ) (pages named : List ℕ) (at page : ℕ) (content : ListContent) (model : PageModel) (before after : List PageModel)
    → at < length pages → content_at (written pages named) at ≡ Some content → page ≡ get_or pages at 0
    → model ≡ model_for page generation content → before ≡ take at (list_models generation (written pages named)) → after ≡ before ++ model ∷ []
    → after ≡ take (at + 1) (list_models generation (written pages named))
models_more generation pages named at page content model before after within there page_is model_is before_is after_is =
    let all : List PageModel = list_models generation (written pages named) in
    let here : get_or all at model ≡ model =
    model_written generation pages named at content model within there
    ∙ ap (λ (n : ℕ). model_for n generation content) (sym page_is) ∙ sym model_is in
    after_is ∙ ap (λ (xs : List PageModel). xs ++ model ∷ []) before_is ∙ ap (λ (x : PageModel). take at all ++ x ∷ []) (sym here)
    ∙ sym (take_more all at model (omega (arith, within, models_long generation pages named)))
