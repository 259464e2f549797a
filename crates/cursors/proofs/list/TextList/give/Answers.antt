use Rattle.std.proofs.Common.{◌≡◌, ◌<◌, ◌≤◌, inl, inr, ℕ, ◌+◌, List, [], min, length, drop, map, sym, ap, ◌∙◌, arith}
use Rattle.std.specs.Global.{Vec}
use Rattle.std.proofs.lemmas.Bool.{cases_lt}
use Rattle.std.proofs.lemmas.List.{drop-drop, drop-map, drop_all, length-drop}
use Rattle.cursors.proofs.list.TextList.give.Goals as goal

-- past their end no more are left out
drop_most : {X : Type 0} (n : ℕ) (xs : List X) (m : ℕ) → m ≡ min n (length xs) → drop m xs ≡ drop n xs
drop_most {X} n xs m is = elim (cases_lt n (length xs)) [
  | inl less ↦ ap (λ (i : ℕ). drop i xs) (omega (arith, is, less))
  | inr past ↦ drop_all m xs (omega (arith, is, past)) ∙ sym (drop_all n xs (omega (arith, past)))
]

pub returns : goal.returns
returns c =
    let f : Vec ℕ → List ℕ = λ v. v.items in
    let ts = c.self.inside.texts.items in
    let given = c.self.inside.given in
    let m = c.min.result in
    let left : m ≡ min c.args.count (length (drop given ts)) = omega (arith, c.min.ensures, c.len.ensures, length-drop given ts, c.self.invariant) in
    ap (map f) (sym (drop-drop m given ts) ∙ drop_most c.args.count (drop given ts) m left)
    ∙ sym (drop-map f c.args.count (drop given ts)) ∙ ap (drop c.args.count) c.self.view_is
