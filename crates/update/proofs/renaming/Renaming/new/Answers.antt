use Rattle.std.proofs.Common.{◌∙◌}
use Rattle.bson.specs.EditPlaces.{append-none}
use Rattle.update.specs.Renaming.{whole}
use Rattle.update.proofs.UnsetLemmas.{unmarked-none}
use Rattle.update.proofs.renaming.Renaming.new.Goals as goal

pub returns : goal.returns
returns c =
    (λ i. whole (c.new.ensures i) c.args.document (c.new-2.ensures i)) ∙ append-none _ ∙ unmarked-none c.args.document
