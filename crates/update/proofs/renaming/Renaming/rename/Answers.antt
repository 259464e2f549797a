use Rattle.std.proofs.Common.{◌≡◌, None, ap, sym, ◌∙◌}
use Rattle.std.specs.Prelude.{option_map}
use Rattle.bson.specs.Lookup.{lookup}
use Rattle.bson.specs.View.{tree}
use Rattle.update.specs.Renaming.{moved_found}
use Rattle.update.proofs.RenamingLemmas.{cut_absent}
use Rattle.update.proofs.renaming.Renaming.rename.Goals as goal

pub returns-in-None : goal.returns-in-None
returns-in-None c =
    let none : lookup c.args.self c.args.old.now ≡ None = sym c.in_ok-left.ensures.taken ∙ ap (option_map tree) c.in-None.is in
    c.in_ok-left.ensures.left ∙ cut_absent c.args.self c.args.old.now none
    ∙ sym (ap (moved_found c.args.old.now c.args.new.now c.args.self) none)
