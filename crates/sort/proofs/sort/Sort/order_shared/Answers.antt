use Rattle.std.proofs.Common.{rules, ◌≡◌, ℕ, ◌<◌, ◌≤◌, List, [], ◌∷◌, ◌++◌, length, get_or, map, sym, ap, subst, ◌∙◌, arith}
use Rattle.std.specs.Borrow.{Bor}
use Rattle.std.proofs.lemmas.List.{length-map, map-append}
use Rattle.std.proofs.Math.ListN.{get_or-map}
use Rattle.bson.specs.Tree.{Pairs}
use Rattle.sort.specs.SortKeys.{numbered, with_keys, arranged}
use Rattle.sort.proofs.SortLemmas.{arranged-documents}
use Rattle.sort.proofs.TakenOutLemmas.{StandIn, arranged-stand, next_at, taken_more, taken_all}
use Rattle.sort.proofs.sort.Sort.order_shared.Goals as goal

pub places-init : goal.places-init
places-init g c =
    let doc = λ (d : Bor g.row.T.Denot). g.T.AsDocument.document d.now in
    let ds = map doc c.args.documents.items in
    record {
      taken = ap (λ (xs : List (Bor g.row.T.Denot)). map doc xs ++ map (λ (p : Pairs × ℕ). p.0) (arranged c.args.self.now ds)) c.in_ok-ordered.ensures.items;
      there = arranged-stand c.args.self.now ds;
    }

pub index-requires : goal.index-requires
index-requires g c =
    let doc = λ (d : Bor g.row.T.Denot). g.T.AsDocument.document d.now in
    let ds = map doc c.args.documents.items in
    let ps = arranged c.args.self.now ds in
    let i = c.places.place-index in
    let same : c.deref-place-items.result.now ≡ map (λ (p : Pairs × ℕ). p.1) ps =
    c.deref-place-items.ensures.value
    ∙ c.in_ok-places.ensures ds
    (c.in_ok-rank_shared.ensures ∙ ap (λ (xs : List (Bor g.row.T.Denot)). map (with_keys c.args.self.now) (numbered 0 (map doc xs))) c.deref.ensures.value) in
    let next = next_at ps i (get_or c.deref-place-items.result.now i 0) 0 (subst (λ (ns : List ℕ). i < length ns) same c.places-test.true)
    (ap (λ (ns : List ℕ). get_or ns i 0) same) in
    let within = (subst (StandIn ds) next.is c.places.invariant.there).0.within in
    omega (arith, within, length-map c.args.documents.items doc, c.args.documents.ok)

pub places-preserved : goal.places-preserved
places-preserved g c =
    let doc = λ (d : Bor g.row.T.Denot). g.T.AsDocument.document d.now in
    let ds = map doc c.args.documents.items in
    let ps = arranged c.args.self.now ds in
    let i = c.places.place-index in
    let place = get_or c.deref-place-items.result.now i 0 in
    let same : c.deref-place-items.result.now ≡ map (λ (p : Pairs × ℕ). p.1) ps =
    c.deref-place-items.ensures.value
    ∙ c.in_ok-places.ensures ds
    (c.in_ok-rank_shared.ensures ∙ ap (λ (xs : List (Bor g.row.T.Denot)). map (with_keys c.args.self.now) (numbered 0 (map doc xs))) c.deref.ensures.value) in
    let next = next_at ps i place 0 (subst (λ (ns : List ℕ). i < length ns) same c.places-test.true) (ap (λ (ns : List ℕ). get_or ns i 0) same) in
    let there = subst (StandIn ds) next.is c.places.invariant.there in
    let there_is : c.index.result.now ≡ get_or c.args.documents.items place c.index.result.now = search rules in
    let is : doc c.index.result.now ≡ next.document =
    ap doc there_is ∙ sym (get_or-map doc c.args.documents.items place c.index.result.now) ∙ there.0.is (doc c.index.result.now) in
    let grown : map doc c.push.new.self.items ≡ map doc c.places.ordered.items ++ doc c.index.result.now ∷ [] =
    ap (map doc) c.in_ok-push.ensures.items ∙ map-append doc c.places.ordered.items (c.index.result.now ∷ []) in
    record {
      taken = taken_more ps i place next (map doc c.places.ordered.items) (map doc c.push.new.self.items) (map (λ (p : Pairs × ℕ). p.0) ps)
          (doc c.index.result.now) grown is c.places.invariant.taken;
      there = there.1;
    }

pub returns : goal.returns
returns g c =
    let doc = λ (d : Bor g.row.T.Denot). g.T.AsDocument.document d.now in
    let ds = map doc c.args.documents.items in
    let ps = arranged c.args.self.now ds in
    let i = c.places.place-index in
    let same : c.deref-place-items.result.now ≡ map (λ (p : Pairs × ℕ). p.1) ps =
    c.deref-place-items.ensures.value
    ∙ c.in_ok-places.ensures ds
    (c.in_ok-rank_shared.ensures ∙ ap (λ (xs : List (Bor g.row.T.Denot)). map (with_keys c.args.self.now) (numbered 0 (map doc xs))) c.deref.ensures.value) in
    taken_all ps i (map doc c.places.ordered.items) (map (λ (p : Pairs × ℕ). p.0) ps)
    (subst (λ (ns : List ℕ). length ns ≤ i) same c.places-test.false) c.places.invariant.taken
    ∙ arranged-documents c.args.self.now ds
