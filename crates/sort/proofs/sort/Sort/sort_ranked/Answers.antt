use Rattle.std.proofs.Common.{rules, ◌≡◌, List, map, ap, subst, ◌∙◌}
use Rattle.std.specs.Ordering.{is_lt}
use Rattle.std.proofs.lemmas.Fn.{always_returns_same}
use Rattle.std.proofs.lemmas.List.MinMax.{ranks_by}
use Rattle.sort.specs.Sort.{SortField, sorted}
use Rattle.sort.specs.SortKeys.{field_of, ranked_cmp}
use Rattle.sort.specs.declared.sorting.Ranked.{Ranked}
use Rattle.sort.proofs.SortLemmas.{ranked_total}
use Rattle.sort.proofs.StableSortLemmas.{sorted_once}
use Rattle.sort.proofs.sort.Sort.sort_ranked.Goals as goal

pub returns : goal.returns
returns c =
    let fields = map field_of c.as_slice-fields.result.now in
    let lt = λ (x y : Ranked). is_lt (ranked_cmp fields x y) in
    let weak = ranks_by (ranked_total fields) (λ (x : Ranked). x) in
    let always = always_returns_same _ _ _ (λ a r f k. search rules) in
    let same : fields ≡ c.args.self.now = ap (map field_of) c.as_slice-fields.ensures.value ∙ c.self.view_is in
    subst (λ (fs : List SortField). c.sort_by.new.self.items ≡ sorted (ranked_cmp fs) c.args.all.now.items) same
    (sorted_once (ranked_cmp fields) (ranked_total fields) c.args.all.now.items c.sort_by.new.self.items (c.in_ok-sort_by.ensures.sorted lt weak always)
    (c.in_ok-sort_by.ensures.stable lt weak always))
