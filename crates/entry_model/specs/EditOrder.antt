-- A list of edits in the order of their keys.
use Rattle.std.specs.Prelude.{ℕ, List, [], ◌∷◌}
use Rattle.std.specs.declared.cmp.Ordering.{Ordering}
use Rattle.std.specs.declared.cmp.Ordering.TheVariants.{Less, Equal, Greater}
use Rattle.tree_model.specs.Keys.{Edit, key_cmp}

-- before the first edit that isn't below it, unless that is one at its key
abbrev pub earlier_at : Ordering → Edit → Edit → List Edit → List Edit → List Edit
earlier_at Less e f fs rest = e ∷ f ∷ fs
earlier_at Equal e f fs rest = f ∷ fs
earlier_at Greater e f fs rest = f ∷ rest

-- an edit that came before all of these
abbrev pub with_earlier : Edit → List Edit → List Edit
with_earlier e [] = e ∷ []
with_earlier e (f ∷ fs) = earlier_at (key_cmp e.key f.key) e f fs (with_earlier e fs)

-- the edits in ascending order of their keys, of several at one key the last
abbrev pub in_key_order : List Edit → List Edit
in_key_order [] = []
in_key_order (e ∷ es) = with_earlier e (in_key_order es)
