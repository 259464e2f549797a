-- A list that was written is read again, and no other one.
use Rattle.std.proofs.Common.{◌≡◌, ◌≤◌, ◌*◌, ℕ, true, List, [], ◌∷◌, ◌++◌, length, take, drop, sym, ap, ◌∙◌, arith, refl, length-drop}
use Rattle.std.specs.Prelude.{◌==◌, Option}
use Rattle.std.proofs.lemmas.Bool.Decides.{nat_tests}
use Rattle.std.proofs.lemmas.Option.{same_Some}
use Rattle.std.proofs.lemmas.List.{take-append-drop}
use Rattle.freelist.specs.FreeList.{AreOnceBelow, HoldsList, IsFreeList, ListContent, Part, first_page, list_pages, named_by, pages_of, times_in, written}
use Rattle.freelist.specs.ListLaws.{IsRead}
use Rattle.freelist.proofs.Marking.{times_in-append}

pub written_pages : (pages named : List ℕ) → pages_of (written pages named) ≡ pages
written_pages [] named = refl
written_pages (page ∷ pages) named = ap (λ (ps : List ℕ). page ∷ ps) (written_pages pages (drop 1019 named))

none_left : (named : List ℕ) → length named ≤ 0 → [] ≡ named
none_left [] h = refl
none_left (n ∷ named) h = absurd (omega (arith, h))

pub written_named : (pages named : List ℕ) → length named ≤ 1019 * length pages → named_by (written pages named) ≡ named
written_named [] named h = none_left named (omega (arith, h))
written_named (page ∷ pages) named h =
    ap (λ (ns : List ℕ). take 1019 named ++ ns) (written_named pages (drop 1019 named) (omega (arith, h, length-drop 1019 named)))
    ∙ take-append-drop 1019 named

pub written_is_read : (contents : ℕ → Option ListContent) (page_count : ℕ) (pages named : List ℕ) → length named ≤ 1019 * length pages
    → AreOnceBelow page_count (pages ++ named) → HoldsList contents (written pages named) → IsRead contents page_count pages named
written_is_read contents page_count pages named room once holds =
    let pages_are : pages_of (written pages named) ≡ pages = written_pages pages named in
    let named_are : named_by (written pages named) ≡ named = written_named pages named room in
    record {
      list = record {
        begins = refl;
        holds = holds;
        counted = ap length named_are;
        once = λ n. omega (
          arith,
          once n,
          times_in-append n pages named,
          times_in-append n (pages_of (written pages named)) (named_by (written pages named)),
          ap (times_in n) pages_are,
          ap (times_in n) named_are,
        );
      };
      pages_are = pages_are;
      named_are = named_are;
    }

pub pages_suffice : (count : ℕ) → count ≤ 1019 * list_pages count
pages_suffice count = omega arith

-- ---- one list

no_zero : (part : Part) (rest : List Part) → part.page ≡ 0 → times_in 0 (pages_of (part ∷ rest)) ≡ 0 → ⊥
no_zero part rest is none =
    let eq : (0 == part.page) ≡ true = grind (arith, nat_tests) in
    omega (arith, rw eq at none)

rest_none : (part : Part) (rest : List Part) → times_in 0 (pages_of (part ∷ rest)) ≡ 0 → times_in 0 (pages_of rest) ≡ 0
rest_none part rest none = omega (arith, none)

same_parts : (contents : ℕ → Option ListContent) (parts others : List Part) → HoldsList contents parts → HoldsList contents others
    → times_in 0 (pages_of parts) ≡ 0 → times_in 0 (pages_of others) ≡ 0 → first_page parts ≡ first_page others → parts ≡ others
same_parts contents [] [] h h' none none' first = refl
same_parts contents [] (o ∷ others) h h' none none' first = absurd (no_zero o others (sym first) none')
same_parts contents (p ∷ parts) [] h h' none none' first = absurd (no_zero p parts first none)
same_parts contents (p ∷ parts) (o ∷ others) h h' none none' first =
    let same : record { next = first_page parts; named = p.named } ≡ record { next = first_page others; named = o.named } =
    same_Some (record { next = first_page parts; named = p.named }) (record { next = first_page others; named = o.named })
    (sym h.0 ∙ ap contents first ∙ h'.0) in
    let rest : parts ≡ others =
    same_parts contents parts others h.1 h'.1 (rest_none p parts none) (rest_none o others none') (ap (λ (c : ListContent). c.next) same) in
    ap (λ (n : ℕ). record { page = n; named = p.named } ∷ parts) first
    ∙ ap (λ (ns : List ℕ). record { page = o.page; named = ns } ∷ parts) (ap (λ (c : ListContent). c.named) same)
    ∙ ap (λ (ps : List Part). o ∷ ps) rest

none_zero : (page_count : ℕ) (parts : List Part) → AreOnceBelow page_count (pages_of parts ++ named_by parts) → times_in 0 (pages_of parts) ≡ 0
none_zero page_count parts once = omega (arith, once 0, times_in-append 0 (pages_of parts) (named_by parts))

pub reading_is_exact : (contents : ℕ → Option ListContent) (page_count first count other_count : ℕ) (parts others : List Part)
    → IsFreeList contents page_count first count parts → IsFreeList contents page_count first other_count others → parts ≡ others
reading_is_exact contents page_count first count other_count parts others list other =
    same_parts contents parts others list.holds other.holds (none_zero page_count parts list.once) (none_zero page_count others other.once)
    (list.begins ∙ sym other.begins)
