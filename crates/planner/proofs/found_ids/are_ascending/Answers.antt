use Rattle.std.proofs.Common.{◌≡◌, ◌⊎◌, ◌+◌, ◌-◌, ◌<◌, ◌≤◌, ◌==◌, ℕ, List, Vec, Global, [], false, not, length, get_or, refl, inl, inr, ap}
use Rattle.std.proofs.Common.{sym, ◌∙◌, arith}
use Rattle.std.specs.Cmp.Lexicographic.{nat_list_cmp_total}
use Rattle.std.specs.Ordering.{ordering_index}
use Rattle.std.specs.declared.cmp.Ordering.{Ordering}
use Rattle.std.specs.declared.cmp.Ordering.TheVariants.{Less, Equal, Greater}
use Rattle.std.proofs.lemmas.Bool.{cases_lt}
use Rattle.std.proofs.lemmas.List.{get_or-map, length-map}
use Rattle.std.proofs.lemmas.Map.Keys.{sorted_from_all_adjacent}
use Rattle.index.specs.View.{texts_of}
use Rattle.value_order.specs.Order.{bytes_cmp}
use Rattle.planner.proofs.found_ids.are_ascending.Goals as goal

abbrev IsBelowNext : List (Vec ℕ Global) → ℕ → Type 0
IsBelowNext ids k = bytes_cmp (get_or (texts_of ids) k []) (get_or (texts_of ids) (k + 1) []) ≡ Less

-- one more
more : (ids : List (Vec ℕ Global)) (n : ℕ) (v w : Vec ℕ Global) → 0 < n → n < length ids → v ≡ get_or ids (n - 1) v → w ≡ get_or ids n w
    → bytes_cmp v.items w.items ≡ Less → ((k : ℕ) → k + 1 < n → IsBelowNext ids k) → (k : ℕ) → k + 1 < n + 1 → IsBelowNext ids k
more ids n v w pos within is_v is_w less all k le = by (cases_lt (k + 1) n)
  where
    by : (k + 1 < n) ⊎ (n ≤ k + 1) → IsBelowNext ids k
    by (inl earlier) = all k earlier
    by (inr last) =
        let at : k ≡ n - 1 = omega arith in
        let next : k + 1 ≡ n = omega arith in
        let one : get_or (texts_of ids) k [] ≡ v.items =
        ap (λ (m : ℕ). get_or (texts_of ids) m []) at ∙ get_or-map (λ (x : Vec ℕ Global). x.items) ids (n - 1) v [] (omega arith)
        ∙ ap (λ (x : Vec ℕ Global). x.items) (sym is_v) in
        let other : get_or (texts_of ids) (k + 1) [] ≡ w.items =
        ap (λ (m : ℕ). get_or (texts_of ids) m []) next ∙ get_or-map (λ (x : Vec ℕ Global). x.items) ids n w [] within
        ∙ ap (λ (x : Vec ℕ Global). x.items) (sym is_w) in
        (λ i. bytes_cmp (one i) (other i)) ∙ less

only_less : (o : Ordering) → not (ordering_index o == 0) ≡ false → o ≡ Less
only_less Less e = refl
only_less Equal e = absurd cc
only_less Greater e = absurd cc

pub loop-i-preserved : goal.loop-i-preserved
loop-i-preserved c =
    more c.args.ids.now c.loop-i.i c.index-ids-i.result c.index-ids-i-in-loop-i.result (omega arith) (omega arith) c.index-ids-i.is
    c.index-ids-i-in-loop-i.is (sym c.cmp.ensures ∙ only_less c.cmp.result (sym c.ne.ensures ∙ c.if-ne.false)) c.loop-i.invariant

pub returns : goal.returns
returns c = λ _.
    sorted_from_all_adjacent nat_list_cmp_total (texts_of c.args.ids.now) []
    (λ k lt. c.loop-i.invariant k (omega (arith, lt, length-map c.args.ids.now (λ (x : Vec ℕ Global). x.items))))
