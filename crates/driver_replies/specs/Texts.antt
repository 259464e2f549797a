-- Texts that fields hold.
use Rattle.std.specs.Prelude.{ℕ, List, [], Option, Some}
use Rattle.bson.specs.Tree.{Tree, scalar, text, Pairs, no_pairs, pair}

-- a text, or the empty one where there is none
abbrev pub text_or_none : Option Tree → List ℕ
text_or_none (Some (scalar (text s))) = s
text_or_none other = []

-- the text beside the name of a command, which is that of its collection
abbrev pub collection_of : Pairs → List ℕ
collection_of no_pairs = []
collection_of (pair name t ps) = text_or_none (Some t)
