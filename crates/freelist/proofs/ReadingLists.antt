-- What the reader of a list knows when it has read some of its pages.
use Rattle.std.proofs.Common.{◌≡◌, ◌≤◌, ◌+◌, ℕ, Bool, true, List, [], ◌∷◌, ◌++◌, length, sym, ap, ◌∙◌, arith, refl, Some, append_assoc, append-nil}
use Rattle.std.specs.Prelude.{◌≢◌, ◌==◌, Option}
use Rattle.std.proofs.lemmas.Bool.Decides.{nat_tests}
use Rattle.std.proofs.lemmas.Option.{same_Some}
use Rattle.freelist.specs.FreeList.{ListContent, Part, IsFreeList, HoldsList, first_page, pages_of, named_by, times_in, room_for}
use Rattle.freelist.specs.ListReading.{free_in, IsListOn, IsStep, StepsOn, ReadsList}
use Rattle.freelist.specs.declared.list.FreeList.{FreeList}
use Rattle.freelist.specs.declared.list.Reading.{Reading}
use Rattle.freelist.specs.declared.list_fault.ListFault.{ListFault}
use Rattle.std.specs.Prelude.{Result, Ok, Err}
use Rattle.std.specs.Result.{IsErrAnd}
use Rattle.std.proofs.Common.{subst}
use Rattle.freelist.proofs.Marking.{times_in-append}

-- These parts begin at the first page. The first of them are on these pages and name these; the rest begins at the next page.
pub record IsCut (contents : ℕ → Option ListContent) (first next : ℕ) (pages named : List ℕ) (parts rest : List Part) : Type 0 where
  pub holds : HoldsList contents parts
  pub begins : first_page parts ≡ first
  pub rest_holds : HoldsList contents rest
  pub rest_begins : first_page rest ≡ next
  pub pages_are : pages_of parts ≡ pages ++ pages_of rest
  pub named_are : named_by parts ≡ named ++ named_by rest

pub record IsBuilt (contents : ℕ → Option ListContent) (first next : ℕ) (pages named : List ℕ) (rest : List Part) : Type 0 where
  pub parts : List Part
  pub cut : IsCut contents first next pages named parts rest

pub record IsLed (contents : ℕ → Option ListContent) (first next : ℕ) (pages named : List ℕ) (parts : List Part) : Type 0 where
  pub rest : List Part
  pub cut : IsCut contents first next pages named parts rest

-- Every rest that the pages hold makes a list with what was read, and every list that is there goes on from what was read.
pub record SoFar (contents : ℕ → Option ListContent) (page_count first next : ℕ) (seen : List Bool) (pages named : List ℕ) : Type 0 where
  pub marks : (n : ℕ) → (times_in n pages + times_in n named) + free_in seen n ≡ room_for page_count n
  pub built : (rest : List Part) → HoldsList contents rest → first_page rest ≡ next → IsBuilt contents first next pages named rest
  pub led : (count : ℕ) (parts : List Part) → IsFreeList contents page_count first count parts → IsLed contents first next pages named parts

pub starts : (contents : ℕ → Option ListContent) (page_count first : ℕ) (seen : List Bool)
    → ((n : ℕ) → free_in seen n ≡ room_for page_count n) → SoFar contents page_count first first seen [] []
starts contents page_count first seen marks = record {
  marks = λ n. omega (arith, marks n);
  built = λ rest holds begins. record {
    parts = rest;
    cut = record { holds = holds; begins = begins; rest_holds = holds; rest_begins = begins; pages_are = refl; named_are = refl };
  };
  led = λ count parts list. record {
    rest = parts;
    cut = record { holds = list.holds; begins = list.begins; rest_holds = list.holds; rest_begins = list.begins; pages_are = refl; named_are = refl };
  };
}

-- a rest that begins with a page has a first part there
record IsHead (contents : ℕ → Option ListContent) (page : ℕ) (rest : List Part) : Type 0 where
  part : Part
  more : List Part
  is : rest ≡ part ∷ more
  page_is : part.page ≡ page
  holds : contents page ≡ Some (record { next = first_page more; named = part.named })
  more_holds : HoldsList contents more

head : (contents : ℕ → Option ListContent) (page : ℕ) (rest : List Part) → page ≢ 0 → HoldsList contents rest → first_page rest ≡ page
    → IsHead contents page rest
head contents page [] some holds begins = absurd (some (sym begins))
head contents page (part ∷ more) some holds begins = record {
  part = part;
  more = more;
  is = refl;
  page_is = begins;
  holds = ap contents (sym begins) ∙ holds.0;
  more_holds = holds.1;
}

module _ (contents : ℕ → Option ListContent) (page_count first page next : ℕ) (seen : List Bool) (pages named here : List ℕ)
    (so : SoFar contents page_count first page seen pages named) (some : page ≢ 0) where
  on_built : contents page ≡ Some (record { next = next; named = here }) → (rest : List Part) → HoldsList contents rest → first_page rest ≡ next
      → IsBuilt contents first next (pages ++ page ∷ []) (named ++ here) rest
  on_built there rest holds begins =
      let whole : List Part = record { page = page; named = here } ∷ rest in
      let b = so.built whole (there ∙ ap (λ (n : ℕ). Some (record { next = n; named = here })) (sym begins), holds) refl in
      record {
        parts = b.parts;
        cut = record {
          holds = b.cut.holds;
          begins = b.cut.begins;
          rest_holds = holds;
          rest_begins = begins;
          pages_are = b.cut.pages_are ∙ sym (append_assoc pages (page ∷ []) (pages_of rest));
          named_are = b.cut.named_are ∙ sym (append_assoc named here (named_by rest));
        };
      }

  on_led : contents page ≡ Some (record { next = next; named = here }) → (count : ℕ) (parts : List Part)
      → IsFreeList contents page_count first count parts → IsLed contents first next (pages ++ page ∷ []) (named ++ here) parts
  on_led there count parts list =
      let l = so.led count parts list in
      let h = head contents page l.rest some l.cut.rest_holds l.cut.rest_begins in
      let same : record { next = first_page h.more; named = h.part.named } ≡ record { next = next; named = here } =
      same_Some (record { next = first_page h.more; named = h.part.named }) (record { next = next; named = here }) (sym h.holds ∙ there) in
      record {
        rest = h.more;
        cut = record {
          holds = l.cut.holds;
          begins = l.cut.begins;
          rest_holds = h.more_holds;
          rest_begins = ap (λ (c : ListContent). c.next) same;
          pages_are = l.cut.pages_are ∙ ap (λ (ps : List Part). pages ++ pages_of ps) h.is
              ∙ ap (λ (p : ℕ). pages ++ p ∷ pages_of h.more) h.page_is ∙ sym (append_assoc pages (page ∷ []) (pages_of h.more));
          named_are = l.cut.named_are ∙ ap (λ (ps : List Part). named ++ named_by ps) h.is
              ∙ ap (λ (ns : List ℕ). named ++ (ns ++ named_by h.more)) (ap (λ (c : ListContent). c.named) same)
              ∙ sym (append_assoc named here (named_by h.more));
        };
      }

  step : (seen' : List Bool) → contents page ≡ Some (record { next = next; named = here })
      → ((n : ℕ) → (times_in n (page ∷ []) + times_in n here) + free_in seen' n ≡ free_in seen n)
      → SoFar contents page_count first next seen' (pages ++ page ∷ []) (named ++ here)
  step seen' there noted = record {
    marks = λ n. omega (arith, so.marks n, noted n, times_in-append n pages (page ∷ []), times_in-append n named here);
    built = on_built there;
    led = on_led there;
  }

-- what was read before leaves room for each part of a list that goes on from it
no_list : (contents : ℕ → Option ListContent) (page_count first page : ℕ) (seen : List Bool) (pages named : List ℕ)
    → SoFar contents page_count first page seen pages named → page ≢ 0
    → ((content : ListContent) → contents page ≡ Some content
    → ((n : ℕ) → times_in n (page ∷ []) + times_in n content.named ≤ free_in seen n) → ⊥)
    → (count : ℕ) (parts : List Part) → IsFreeList contents page_count first count parts → ⊥
no_list contents page_count first page seen pages named so some none count parts list =
    none (record { next = first_page h.more; named = h.part.named }) h.holds room
  where
    l : IsLed contents first page pages named parts
    l = so.led count parts list

    h : IsHead contents page l.rest
    h = head contents page l.rest some l.cut.rest_holds l.cut.rest_begins

    pages_are : pages_of parts ≡ pages ++ (page ∷ [] ++ pages_of h.more)
    pages_are = l.cut.pages_are ∙ ap (λ (ps : List Part). pages ++ pages_of ps) h.is ∙ ap (λ (p : ℕ). pages ++ p ∷ pages_of h.more) h.page_is

    named_are : named_by parts ≡ named ++ (h.part.named ++ named_by h.more)
    named_are = l.cut.named_are ∙ ap (λ (ps : List Part). named ++ named_by ps) h.is

    room : (n : ℕ) → times_in n (page ∷ []) + times_in n h.part.named ≤ free_in seen n
    room n = omega (
      arith,
      so.marks n,
      list.once n,
      times_in-append n (pages_of parts) (named_by parts),
      ap (times_in n) pages_are,
      ap (times_in n) named_are,
      times_in-append n pages (page ∷ [] ++ pages_of h.more),
      times_in-append n (page ∷ []) (pages_of h.more),
      times_in-append n named (h.part.named ++ named_by h.more),
      times_in-append n h.part.named (named_by h.more),
    )

-- ---- the end

whole_list : (contents : ℕ → Option ListContent) (page_count first count : ℕ) (seen : List Bool) (pages named : List ℕ)
    → SoFar contents page_count first 0 seen pages named → length named ≡ count → IsListOn contents page_count first count pages named
whole_list contents page_count first count seen pages named so counted =
    let b = so.built [] tt refl in
    let pages_are : pages_of b.parts ≡ pages = b.cut.pages_are ∙ append-nil pages in
    let named_are : named_by b.parts ≡ named = b.cut.named_are ∙ append-nil named in
    record {
      parts = b.parts;
      list = record {
        begins = b.cut.begins;
        holds = b.cut.holds;
        counted = ap length named_are ∙ counted;
        once = λ n. omega (
          arith,
          so.marks n,
          times_in-append n (pages_of b.parts) (named_by b.parts),
          ap (times_in n) pages_are,
          ap (times_in n) named_are,
        );
      };
      pages_are = sym pages_are;
      named_are = sym named_are;
    }

-- a list has no page 0
ends : (contents : ℕ → Option ListContent) (rest : List Part) → times_in 0 (pages_of rest) ≡ 0 → first_page rest ≡ 0 → rest ≡ []
ends contents [] none begins = refl
ends contents (part ∷ rest) none begins =
    let eq : (0 == part.page) ≡ true = grind (arith, nat_tests) in
    absurd (omega (arith, rw eq at none))

no_other_count : (contents : ℕ → Option ListContent) (page_count first count : ℕ) (seen : List Bool) (pages named : List ℕ)
    → SoFar contents page_count first 0 seen pages named → length named ≢ count
    → (parts : List Part) → IsFreeList contents page_count first count parts → ⊥
no_other_count contents page_count first count seen pages named so other parts list = other (sym named_is ∙ list.counted)
  where
    l : IsLed contents first 0 pages named parts
    l = so.led count parts list

    none : times_in 0 (pages_of l.rest) ≡ 0
    none = omega (
      arith,
      list.once 0,
      times_in-append 0 (pages_of parts) (named_by parts),
      ap (times_in 0) l.cut.pages_are,
      times_in-append 0 pages (pages_of l.rest),
    )

    named_is : length (named_by parts) ≡ length named
    named_is = ap length (l.cut.named_are ∙ ap (λ (ps : List Part). named ++ named_by ps) (ends contents l.rest none l.cut.rest_begins) ∙ append-nil named)

-- ---- the loop

pub goes_on : (contents contents' : ℕ → Option ListContent) (page_count first page next : ℕ) (old new : Reading) → contents' ≡ contents
    → SoFar contents page_count first page old.seen.items old.list.pages.items old.list.named.items → page ≢ 0
    → IsStep contents' page old new next → SoFar contents page_count first next new.seen.items new.list.pages.items new.list.named.items
goes_on contents contents' page_count first page next old new same so some s =
    subst (λ (ps : List ℕ). SoFar contents page_count first next new.seen.items ps new.list.named.items) (sym s.notes.0)
    (subst (SoFar contents page_count first next new.seen.items (old.list.pages.items ++ page ∷ [])) (sym s.notes.1.0)
    (step contents page_count first page next old.seen.items old.list.pages.items old.list.named.items s.named so some new.seen.items
    (ap (λ (f : ℕ → Option ListContent). f page) (sym same) ∙ s.holds) s.notes.1.1))

pub stops : (contents contents' : ℕ → Option ListContent) (page_count first page count : ℕ) (old new : Reading) (fault : ListFault)
    (result : Result FreeList ListFault) → contents' ≡ contents
    → SoFar contents page_count first page old.seen.items old.list.pages.items old.list.named.items → page ≢ 0
    → StepsOn contents' page old new (Err fault) → IsErrAnd result (λ e. e ≡ fault) → ReadsList contents page_count first count result
stops contents contents' page_count first page count old new fault (Ok list) same so some s is = absurd is
stops contents contents' page_count first page count old new fault (Err e) same so some s is =
    λ damaged. no_list contents page_count first page old.seen.items old.list.pages.items old.list.named.items so some
    (λ content there. s (sym is ∙ damaged) content (ap (λ (f : ℕ → Option ListContent). f page) same ∙ there)) count

pub ends_whole : (contents : ℕ → Option ListContent) (page_count first page count : ℕ) (seen : List Bool) (pages named : List ℕ)
    → SoFar contents page_count first page seen pages named → page ≡ 0 → length named ≡ count
    → IsListOn contents page_count first count pages named
ends_whole contents page_count first page count seen pages named so end counted =
    whole_list contents page_count first count seen pages named (subst (λ (n : ℕ). SoFar contents page_count first n seen pages named) end so) counted

pub ends_damaged : (contents : ℕ → Option ListContent) (page_count first page count : ℕ) (seen : List Bool) (pages named : List ℕ)
    → SoFar contents page_count first page seen pages named → page ≡ 0 → length named ≢ count
    → (parts : List Part) → IsFreeList contents page_count first count parts → ⊥
ends_damaged contents page_count first page count seen pages named so end other =
    no_other_count contents page_count first count seen pages named (subst (λ (n : ℕ). SoFar contents page_count first n seen pages named) end so) other
