use Rattle.std.proofs.Common.{◌≡◌, false, sym, ap, ◌∙◌}
use Rattle.std.specs.Prelude.{◌==◌}
use Rattle.std.specs.List.{list_any}
use Rattle.ext_json.proofs.ParsingLemmas.{NoZero-from_none}
use Rattle.ext_json.proofs.parsing.take_name.Goals as goal

pub returns-clause-lawful : goal.returns-clause-lawful
returns-clause-lawful c =
    let none : list_any (λ b. b == 0) c.args.name.now ≡ false
    = ap (list_any (λ b. b == 0)) (sym c.as_bytes.ensures.value) ∙ sym c.contains.ensures.value ∙ c.if-contains.false in
    record { is_text = c.utf8.name; no_zero = NoZero-from_none c.args.name.now none }
