-- What the law of reading back asks of a document.
use Rattle.std.specs.Prelude.{◌≡◌, ℕ, ◌<◌, ◌^◌, Option, Some, None, List, length, Ok}
use Rattle.bson.specs.Tree.{Tree, scalar, document, array, Pairs, no_pairs, pair, Items, no_items}
use Rattle.bson.specs.Tree.{item}
use Rattle.bson.specs.Lawful.{IsDocument}
use Rattle.ext_json.specs.Wrappers.{wrapper_in}
use Rattle.ext_json.specs.Written.{document_tokens, canonical_text}
use Rattle.ext_json.specs.Parsing.{document_at}
use Rattle.ext_json.specs.declared.form.Form.TheVariants.{Canonical}

abbrev pub first_name : Pairs → Option (List ℕ)
first_name no_pairs = None
first_name (pair name t ps) = Some name

-- no document in it, itself among them, begins as a wrapper does
abbrev mutual
  pub HasNoWrapper : Tree → Type 0
  HasNoWrapper (scalar s) = Unit {0}
  HasNoWrapper (document ps) = (wrapper_in (first_name ps) ≡ None) × PairsHaveNoWrapper ps
  HasNoWrapper (array ts) = ItemsHaveNoWrapper ts

  pub PairsHaveNoWrapper : Pairs → Type 0
  PairsHaveNoWrapper no_pairs = Unit {0}
  PairsHaveNoWrapper (pair name t ps) = HasNoWrapper t × PairsHaveNoWrapper ps

  pub ItemsHaveNoWrapper : Items → Type 0
  ItemsHaveNoWrapper no_items = Unit {0}
  ItemsHaveNoWrapper (item t ts) = HasNoWrapper t × ItemsHaveNoWrapper ts

-- Reading what canonical writing wrote gives the document back, where no document in it begins as a
-- wrapper does, and the text has fewer tokens than memory has bytes.
abbrev pub CanonicalReadsBack : Type 0
CanonicalReadsBack = (ps : Pairs) → IsDocument ps → PairsHaveNoWrapper ps
    → length (document_tokens Canonical ps) < 2 ^ 64 → document_at (canonical_text ps) ≡ Ok ps
