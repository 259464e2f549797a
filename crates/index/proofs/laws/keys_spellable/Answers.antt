use Rattle.index.proofs.SpellableLaws.{keys_spellable}
use Rattle.index.proofs.laws.keys_spellable.Goals as goal

pub returns : goal.returns
returns c = keys_spellable
