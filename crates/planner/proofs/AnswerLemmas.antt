-- An answer is told by its members.
use Rattle.std.proofs.Common.{◌≡◌, ⊎_elim, inl, inr, true, List, arith}
use Rattle.std.specs.List.{AllPairs, filter}
use Rattle.std.specs.Cmp.{IsTotalOrder, then_total, on_total}
use Rattle.std.specs.Ordering.{on}
use Rattle.std.specs.declared.cmp.Ordering.TheVariants.{Less}
use Rattle.bson.specs.Spelling.{tree_bytes}
use Rattle.bson.specs.Tree.{document, Pairs}
use Rattle.value_order.specs.Laws.{IsKey}
use Rattle.value_order.specs.Order.{value, compare}
use Rattle.value_order.specs.TotalLaws.{compare_total}
use Rattle.filter.specs.Matches.{matches}
use Rattle.sort.specs.Sort.{SortField, compare_by, order}
use Rattle.sort.proofs.SortLemmas.{orders_stably}
use Rattle.index.specs.IndexKeys.{is_multikey}
use Rattle.entry_model.specs.LawfulState.{IsStorable, IsRising}
use Rattle.entry_model.specs.State.{key_of}
use Rattle.entry_model.proofs.LawfulParts.{listed_of}
use Rattle.entry_model.proofs.MemberLemmas.{Among, among_of, contains_of, of_all}
use Rattle.planner.specs.AnswerLaws.{answer_cmp, FrontOfAnswer, HaveSameMembers, OrderedOnce, SortsToAnswer, IsFound, NeverChangesAnswer, KeptAreNoted}
use Rattle.plan_model.specs.Plan.{fields_of, is_multi, range_in}
use Rattle.planner.proofs.KeyBytesLemmas.{has_bytes_in_range}
use Rattle.planner.proofs.RisingLemmas.{Rises, rises_of, pairs_of, front_rising, one_rising, sorted_rises, among_sorted, sorted_among, filter_among}
use Rattle.planner.proofs.RisingLemmas.{among_filter, rises_filter}

by_sort : (fields : List SortField) → IsTotalOrder (compare_by fields)
by_sort fields = (orders_stably fields).0

by_id : IsTotalOrder (on key_of compare)
by_id = on_total key_of compare_total

answer_total : (fields : List SortField) → IsTotalOrder (answer_cmp fields)
answer_total fields = then_total (by_sort fields) by_id

pub ordered_once : OrderedOnce
ordered_once fields ds es rd re same =
    one_rising (answer_cmp fields) (answer_total fields) ds es
    (rises_of (answer_cmp fields) ds rd) (rises_of (answer_cmp fields) es re)
    (λ d g. among_of es d (same.to d (contains_of ds d g)))
    (λ d g. among_of ds d (same.from d (contains_of es d g)))

pub sorts_to_answer : SortsToAnswer
sorts_to_answer fields ds rising = (pairs_of (answer_cmp fields) (order fields ds) rises, once)
  where
    rises : Rises (answer_cmp fields) (order fields ds)
    rises = sorted_rises (compare_by fields) (on key_of compare) (by_sort fields) by_id ds (rises_of (on key_of compare) ds rising)

    once : (found : List Pairs) → AllPairs (λ d e. answer_cmp fields d e ≡ Less) found → HaveSameMembers found ds → found ≡ order fields ds
    once found up same =
        one_rising (answer_cmp fields) (answer_total fields) found (order fields ds)
        (rises_of (answer_cmp fields) found up) rises
        (λ d g. sorted_among (compare_by fields) d ds (among_of ds d (same.to d (contains_of found d g))))
        (λ d g. among_of found d (same.from d (contains_of ds d (among_sorted (compare_by fields) d ds g))))

-- ---- the front of an answer

pub front_of_answer : FrontOfAnswer
front_of_answer rs sort ds found rising up to above =
    front_rising (answer_cmp sort) (answer_total sort) found (order sort kept) (rises_of (answer_cmp sort) found up)
    (rises_of (answer_cmp sort) (order sort kept) (sorts_to_answer sort kept kept_rises).0)
    (λ d g. let t = to d (contains_of found d g) in sorted_among (compare_by sort) d kept (among_filter (matches rs) d ds (among_of ds d t.0) t.1))
    (λ d e g h.
    let f = filter_among (matches rs) d ds (among_sorted (compare_by sort) d kept g) in
    ⊎_elim (λ there. inl (among_of found d there)) (λ less. inr less) (above d e (contains_of ds d f.0) f.1 (contains_of found e h)))
  where
    kept : List Pairs
    kept = filter (matches rs) ds

    kept_rises : IsRising kept
    kept_rises = pairs_of (on key_of compare) kept (rises_filter (matches rs) (on key_of compare) ds (rises_of (on key_of compare) ds rising))

-- ---- what a walk over a range finds

pub kept_are_noted : KeptAreNoted
kept_are_noted c i kept there = (listed_of c i kept (among_of c.indexes i there)).multi

pub document_is_key : (d : Pairs) → IsStorable d → IsKey (value (document d))
unfolding tree_bytes
document_is_key d h = (h.lawful.lawful, omega (arith, h.size))

pub never_changes_answer : NeverChangesAnswer
never_changes_answer rs sort index ds found noted spelled storable rising up to from =
    (sorts_to_answer sort (filter (matches rs) ds) kept).1 found up same
  where
    kept : IsRising (filter (matches rs) ds)
    kept = pairs_of (on key_of compare) (filter (matches rs) ds) (rises_filter (matches rs) (on key_of compare) ds (rises_of (on key_of compare) ds rising))

    lies : (d : Pairs) → Among d ds → matches rs d ≡ true → IsFound rs (range_in rs sort index) ds d
    lies d g e = record {
      stored = contains_of ds d g;
      lies_there =
          has_bytes_in_range rs sort index d (of_all (λ x. is_multikey (fields_of index) x ≡ true → is_multi index ≡ true) ds d noted g)
          (document_is_key d (of_all IsStorable ds d storable g)) spelled e;
      matched = e;
    }

    same : HaveSameMembers found (filter (matches rs) ds)
    same = record {
      to = λ d g. let f = to d g in contains_of (filter (matches rs) ds) d (among_filter (matches rs) d ds (among_of ds d f.stored) f.matched);
      from = λ d g. let h = filter_among (matches rs) d ds (among_of (filter (matches rs) ds) d g) in from d (lies d h.0 h.1);
    }
