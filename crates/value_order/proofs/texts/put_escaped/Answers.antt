use Rattle.std.proofs.Common.{◌≡◌, ◌++◌, ◌+◌, [], ◌∷◌, List, ℕ, length, drop, arith, ap, ◌∙◌, sym, append_assoc}
use Rattle.std.proofs.lemmas.List.{length-append}
use Rattle.std.proofs.lemmas.Result.{err_from_is_err_and}
use Rattle.value_order.specs.KeyText.{escaped_text}
use Rattle.value_order.proofs.PutLaws.{first_run, last_put, last_run, left_over, piece_refused}
use Rattle.value_order.proofs.texts.put_escaped.Goals as goal

pub returns-in_err-put_both : goal.returns-in_err-put_both
returns-in_err-put_both c =
    let p = err_from_is_err_and c.from_residual.result c.from_residual.ensures.1 in
    let rest : List ℕ = c.runs.rest.now in
    let piece : List ℕ = c.split_at.result.0.now ++ 0 ∷ 255 ∷ [] in
    let left = left_over c.runs.out.items (escaped_text rest) c.args.out.now.items (escaped_text c.args.bytes.now) c.runs.invariant.same in
    let part = first_run rest c.in-Some.end (sym c.in-Some.ensures)
    ∙ ap (λ (l : List ℕ). (l ++ 0 ∷ 255 ∷ []) ++ escaped_text (drop (c.in-Some.end + 1) rest)) (sym c.split_at.ensures.front) in
    rw (p.1, p.2)
    (piece_refused c.args.limit piece (escaped_text c.args.bytes.now) c.args.out.now.items c.runs.out.items c.put_both.new.out.items
    c.put_both.new.out.items c.in_err-put_both.field-0.0
    (omega (arith, left, ap length part, length-append piece (escaped_text (drop (c.in-Some.end + 1) rest)))) c.in_err-put_both.ensures)

pub runs-preserved : goal.runs-preserved
runs-preserved c =
    let rest : List ℕ = c.runs.rest.now in
    let piece : List ℕ = c.split_at.result.0.now ++ 0 ∷ 255 ∷ [] in
    let behind : List ℕ = c.split_at-in-Some.result.1.now in
    let parts : escaped_text rest ≡ piece ++ escaped_text behind = first_run rest c.in-Some.end (sym c.in-Some.ensures)
    ∙ ap (λ (l : List ℕ). (l ++ 0 ∷ 255 ∷ []) ++ escaped_text (drop (c.in-Some.end + 1) rest)) (sym c.split_at.ensures.front)
    ∙ ap (λ (l : List ℕ). piece ++ escaped_text l) (sym c.split_at-in-Some.ensures.back) in
    record {
      room = c.in_ok-put_both.ensures.1;
      same = ap (λ (l : List ℕ). l ++ escaped_text behind) c.in_ok-put_both.ensures.0 ∙ append_assoc c.runs.out.items piece (escaped_text behind)
          ∙ ap (λ (l : List ℕ). c.runs.out.items ++ l) (sym parts) ∙ c.runs.invariant.same;
    }

pub returns : goal.returns
returns c =
    let rest : List ℕ = c.runs.rest.now in
    last_put c.args.limit (rest ++ 0 ∷ 0 ∷ []) (escaped_text c.args.bytes.now) c.args.out.now.items c.runs.out.items c.put_both-2.new.out.items
    c.put_both-2.result
    (ap (λ (l : List ℕ). c.runs.out.items ++ l) (sym (last_run rest (sym c.in_default.ensures))) ∙ c.runs.invariant.same) c.put_both-2.ensures
