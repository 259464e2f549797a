-- Documents that are taken out of their places one by one.
use Rattle.std.proofs.Common.{◌≡◌, ℕ, zero, suc, ◌+◌, ◌<◌, ◌≤◌, List, [], ◌∷◌, ◌++◌, length, set, drop, get_or, map, refl, sym, ap, ◌∙◌, arith, append_assoc}
use Rattle.std.proofs.Common.{append-nil}
use Rattle.std.specs.Prelude.{◌≢◌}
use Rattle.std.specs.List.{AllByRecursion}
use Rattle.std.specs.declared.cmp.Ordering.{Ordering}
use Rattle.std.specs.declared.cmp.Ordering.TheVariants.{Less, Equal, Greater}
use Rattle.std.specs.Ordering.{on}
use Rattle.std.proofs.lemmas.List.{length-set, get_or-set_other, drop_all, length-map}
use Rattle.bson.specs.Tree.{Pairs, no_pairs}
use Rattle.sort.specs.Sort.{put_before, insert_in_order, sorted, SortField, compare_by}
use Rattle.sort.specs.SortKeys.{numbered, arranged}
use Rattle.sort.specs.SortLaws.{All-insert, All-sorted}

-- each document stands in its place
pub record StandsIn (documents : List Pairs) (p : Pairs × ℕ) : Type 0 where
  pub within : p.1 < length documents
  pub is : (d : Pairs) → get_or documents p.1 d ≡ p.0

abbrev pub StandIn : List Pairs → List (Pairs × ℕ) → Type 0
StandIn documents ps = AllByRecursion (StandsIn documents) ps

-- the places differ
abbrev pub Apart : List (Pairs × ℕ) → Type 0
Apart [] = Unit {0}
Apart (p ∷ ps) = AllByRecursion (λ q. q.1 ≢ p.1) ps × Apart ps

-- ---- at the start

first_dropped : (documents : List Pairs) (i : ℕ) (d : Pairs) (ds : List Pairs) → drop i documents ≡ d ∷ ds
    → StandsIn documents (d, i) × (drop (suc i) documents ≡ ds)
first_dropped [] zero d ds e = absurd cc
first_dropped [] (suc i) d ds e = absurd cc
first_dropped (c ∷ cs) zero d ds e = (record { within = omega arith; is = λ x. cc }, cc)
first_dropped (c ∷ cs) (suc i) d ds e =
    let r = first_dropped cs i d ds e in
    (record { within = omega (arith, r.0.within); is = λ x. r.0.is x }, r.1)

numbered-stand : (documents : List Pairs) (i : ℕ) (ds : List Pairs) → drop i documents ≡ ds → StandIn documents (numbered i ds)
numbered-stand documents i [] e = tt
numbered-stand documents i (d ∷ ds) e =
    let r = first_dropped documents i d ds e in
    let next : suc i ≡ i + 1 = omega arith in
    (r.0, numbered-stand documents (i + 1) ds (ap (λ (k : ℕ). drop k documents) (sym next) ∙ r.1))

numbered-later : (m n : ℕ) (ds : List Pairs) → m < n → AllByRecursion (λ q. q.1 ≢ m) (numbered n ds)
numbered-later m n [] lt = tt
numbered-later m n (d ∷ ds) lt = ((λ e. absurd (omega (arith, e, lt))), numbered-later m (n + 1) ds (omega arith))

numbered-apart : (n : ℕ) (ds : List Pairs) → Apart (numbered n ds)
numbered-apart n [] = tt
numbered-apart n (d ∷ ds) = (numbered-later n (n + 1) ds (omega arith), numbered-apart (n + 1) ds)

module _ (cmp : Pairs × ℕ → Pairs × ℕ → Ordering) where
  Apart-insert : (p : Pairs × ℕ) (qs : List (Pairs × ℕ)) → AllByRecursion (λ q. q.1 ≢ p.1) qs → Apart qs → Apart (insert_in_order cmp p qs)
  Apart-insert p [] other h = (tt, tt)
  Apart-insert p (q ∷ qs) other h = by (cmp p q) (Apart-insert p qs other.1 h.1)
    where
      by : (c : Ordering) → Apart (insert_in_order cmp p qs) → Apart (put_before c p q (insert_in_order cmp p qs) qs)
      by Less later = (other, h)
      by Equal later = (other, h)
      by Greater later = (All-insert cmp (λ r. r.1 ≢ q.1) p qs (λ e. other.0 (sym e)) h.0, later)

  Apart-sorted : (ps : List (Pairs × ℕ)) → Apart ps → Apart (sorted cmp ps)
  Apart-sorted [] h = tt
  Apart-sorted (p ∷ ps) h = Apart-insert p (sorted cmp ps) (All-sorted cmp (λ q. q.1 ≢ p.1) ps h.0) (Apart-sorted ps h.1)

pub arranged-stand : (fields : List SortField) (documents : List Pairs) → StandIn documents (arranged fields documents)
arranged-stand fields documents =
    All-sorted (on (λ p. p.0) (compare_by fields)) (StandsIn documents) (numbered 0 documents) (numbered-stand documents 0 documents refl)

pub arranged-apart : (fields : List SortField) (documents : List Pairs) → Apart (arranged fields documents)
arranged-apart fields documents = Apart-sorted (on (λ p. p.0) (compare_by fields)) (numbered 0 documents) (numbered-apart 0 documents)

-- ---- one taken out

pub record Next (ps : List (Pairs × ℕ)) (i place : ℕ) : Type 0 where
  pub document : Pairs
  pub is : drop i ps ≡ (document, place) ∷ drop (i + 1) ps

pub next_at : (ps : List (Pairs × ℕ)) (i place x : ℕ) → i < length (map (λ p. p.1) ps) → place ≡ get_or (map (λ p. p.1) ps) i x → Next ps i place
next_at [] i place x lt is = absurd (omega arith)
next_at (p ∷ ps) zero place x lt is = record { document = p.0; is = λ j. (p.0, sym is j) ∷ ps }
next_at (p ∷ ps) (suc i) place x lt is =
    let r = next_at ps i place x (omega arith) is in
    let next : suc i + 1 ≡ suc (i + 1) = omega arith in
    record { document = r.document; is = r.is ∙ ap (λ (k : ℕ). (r.document, place) ∷ drop k (p ∷ ps)) (sym next) }

pub taken_more : (ps : List (Pairs × ℕ)) (i place : ℕ) (n : Next ps i place) (out next whole : List Pairs) (d : Pairs) → next ≡ out ++ d ∷ [] → d ≡ n.document
    → out ++ map (λ p. p.0) (drop i ps) ≡ whole → next ++ map (λ p. p.0) (drop (i + 1) ps) ≡ whole
taken_more ps i place n out next whole d grown is so_far =
    ap (λ (ds : List Pairs). ds ++ map (λ p. p.0) (drop (i + 1) ps)) grown
    ∙ append_assoc out (d ∷ []) (map (λ p. p.0) (drop (i + 1) ps))
    ∙ ap (λ (c : Pairs). out ++ c ∷ map (λ p. p.0) (drop (i + 1) ps)) is
    ∙ sym (ap (λ (qs : List (Pairs × ℕ)). out ++ map (λ p. p.0) qs) n.is)
    ∙ so_far

pub taken_all : (ps : List (Pairs × ℕ)) (i : ℕ) (out whole : List Pairs) → length (map (λ p. p.1) ps) ≤ i → out ++ map (λ p. p.0) (drop i ps) ≡ whole
    → out ≡ whole
taken_all ps i out whole le so_far =
    sym (append-nil out)
    ∙ sym (ap (λ (qs : List (Pairs × ℕ)). out ++ map (λ p. p.0) qs) (drop_all i ps (omega (arith, length-map ps (λ (p : Pairs × ℕ). p.1))))) ∙ so_far

pub still_there : (documents : List Pairs) (place : ℕ) (ps : List (Pairs × ℕ)) → AllByRecursion (λ q. q.1 ≢ place) ps → StandIn documents ps
    → StandIn (set documents place no_pairs) ps
still_there documents place [] other h = tt
still_there documents place (p ∷ ps) other h = (
  record {
    within = omega (arith, h.0.within, length-set documents place no_pairs);
    is = λ d. get_or-set_other documents place p.1 no_pairs d other.0 ∙ h.0.is d;
  },
  still_there documents place ps other.1 h.1,
)
