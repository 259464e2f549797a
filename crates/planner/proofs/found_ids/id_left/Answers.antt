use Rattle.std.proofs.Common.{◌≡◌, ◌-◌, List, ℕ, Some, drop, length, ap, arith, sym, ◌∙◌}
use Rattle.std.specs.Option.{option_map}
use Rattle.planner.specs.KeyScan.{id_text}
use Rattle.planner.proofs.IdBackLemmas.{id_back}
use Rattle.planner.proofs.found_ids.id_left.Goals as goal

pub returns : goal.returns
returns c =
    let text : List ℕ = c.args.text.items in
    let id : List ℕ = c.in-Some.id.now in
    let found : id_text c.args.index.now.fields text ≡ Some id =
    ap (id_text c.args.index.now.fields) (sym c.deref.ensures.value) ∙ sym c.id_text.ensures ∙ ap (option_map (λ r. r.now)) c.in-Some.is in
    let before : c.saturating_sub-before.result ≡ length text - length id =
    omega (arith, c.saturating_sub-before.ensures, c.len.ensures, c.args.text.ok.0, c.args.text.ok.1) in
    ap Some
    (c.drop_front.ensures
    ∙ ap (λ (n : ℕ). drop n text) before
    ∙ id_back c.args.index.now.fields text id found)
    ∙ sym found
