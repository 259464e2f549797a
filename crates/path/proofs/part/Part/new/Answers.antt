use Rattle.std.proofs.Common.{sym, subst}
use Rattle.path.specs.Parts.{IsPart}
use Rattle.path.proofs.NameLemmas.{no_zero}
use Rattle.path.proofs.part.Part.new.Goals as goal

pub invariant_of-result : goal.invariant_of-result
invariant_of-result c =
    subst IsPart (sym c.in_ok-from_str.ensures) (record {
      is_name = record { is_text = c.utf8.name; no_zero = no_zero c.args.name.now c.requires.no_zero };
      not_empty = c.requires.not_empty;
      no_dollar = c.requires.no_dollar;
    })
