use Rattle.std.proofs.Common.{◌≡◌, ℕ, ◌+◌, ◌<◌, ◌≤◌, List, length, drop, get_or, map, sym, ap, subst, ◌∙◌, rules}
use Rattle.bson.specs.Tree.{Pairs, no_pairs}
use Rattle.sort.specs.SortKeys.{numbered, with_keys, arranged}
use Rattle.sort.proofs.SortLemmas.{arranged-documents}
use Rattle.sort.proofs.TakenOutLemmas.{StandIn, Apart, arranged-stand, arranged-apart, next_at, taken_more, taken_all, still_there}
use Rattle.sort.proofs.sort.Sort.order.Goals as goal

pub places-init : goal.places-init
places-init c = record {
  taken = search rules;
  there = arranged-stand c.args.self.now c.args.documents.items;
  apart = arranged-apart c.args.self.now c.args.documents.items;
}

pub take_out-document-requires : goal.take_out-document-requires
take_out-document-requires c =
    let ps = arranged c.args.self.now c.args.documents.items in
    let i = c.places.place-index in
    let same : c.deref-place-items.result.now ≡ map (λ (p : Pairs × ℕ). p.1) ps =
    c.deref-place-items.ensures.value ∙ c.in_ok-places.ensures c.args.documents.items
    (c.in_ok-rank_all.ensures ∙ ap (λ (ds : List Pairs). map (with_keys c.args.self.now) (numbered 0 ds)) c.deref.ensures.value) in
    let next = next_at ps i (get_or c.deref-place-items.result.now i 0) 0 (subst (λ (ns : List ℕ). i < length ns) same c.places-test.true)
    (ap (λ (ns : List ℕ). get_or ns i 0) same) in
    (subst (StandIn c.places.documents.items) next.is c.places.invariant.there).0.within

pub places-preserved : goal.places-preserved
places-preserved c =
    let ps = arranged c.args.self.now c.args.documents.items in
    let i = c.places.place-index in
    let place = get_or c.deref-place-items.result.now i 0 in
    let same : c.deref-place-items.result.now ≡ map (λ (p : Pairs × ℕ). p.1) ps =
    c.deref-place-items.ensures.value ∙ c.in_ok-places.ensures c.args.documents.items
    (c.in_ok-rank_all.ensures ∙ ap (λ (ds : List Pairs). map (with_keys c.args.self.now) (numbered 0 ds)) c.deref.ensures.value) in
    let next = next_at ps i place 0 (subst (λ (ns : List ℕ). i < length ns) same c.places-test.true) (ap (λ (ns : List ℕ). get_or ns i 0) same) in
    let there = subst (StandIn c.places.documents.items) next.is c.places.invariant.there in
    let apart = subst Apart next.is c.places.invariant.apart in
    record {
      taken = taken_more ps i place next c.places.ordered.items c.push.new.self.items (map (λ (p : Pairs × ℕ). p.0) ps) c.take_out-document.result
          c.in_ok-push.ensures.items (c.take_out-document.ensures.taken no_pairs ∙ there.0.is no_pairs) c.places.invariant.taken;
      there = subst (λ (ds : List Pairs). StandIn ds (drop (i + 1) ps)) (sym c.take_out-document.ensures.left)
          (still_there c.places.documents.items place (drop (i + 1) ps) apart.0 there.1);
      apart = apart.1;
    }

pub returns : goal.returns
returns c =
    let ps = arranged c.args.self.now c.args.documents.items in
    let i = c.places.place-index in
    let same : c.deref-place-items.result.now ≡ map (λ (p : Pairs × ℕ). p.1) ps =
    c.deref-place-items.ensures.value ∙ c.in_ok-places.ensures c.args.documents.items
    (c.in_ok-rank_all.ensures ∙ ap (λ (ds : List Pairs). map (with_keys c.args.self.now) (numbered 0 ds)) c.deref.ensures.value) in
    taken_all ps i c.places.ordered.items (map (λ (p : Pairs × ℕ). p.0) ps)
    (subst (λ (ns : List ℕ). length ns ≤ i) same c.places-test.false) c.places.invariant.taken
    ∙ arranged-documents c.args.self.now c.args.documents.items
