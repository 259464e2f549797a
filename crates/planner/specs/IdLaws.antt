-- That documents that are looked up by their `_id`s, in ascending order, are those of a scan.
use Rattle.std.specs.Prelude.{◌≡◌, ℕ, ⊤, Bool, true, List, [], ◌∷◌, All, Contains, Option, Some}
use Rattle.std.specs.Prelude.{None}
use Rattle.std.specs.List.{AllPairs, filter}
use Rattle.std.specs.declared.cmp.Ordering.TheVariants.{Less}
use Rattle.bson.specs.Tree.{Tree, Pairs}
use Rattle.value_order.specs.KeyText.{tree_text}
use Rattle.value_order.specs.Laws.{IsKey}
use Rattle.value_order.specs.Order.{bytes_cmp, value}
use Rattle.entry_model.specs.LawfulState.{IsRising, IsStorable}
use Rattle.entry_model.specs.State.{key_of}
use Rattle.entry_model.specs.StateReads.{find_document}

-- These are the texts of these values, each of which BSON can spell.
abbrev pub AreIdTexts : List (List ℕ) → List Tree → Type 0
AreIdTexts [] [] = ⊤
AreIdTexts (text ∷ texts) (id ∷ ids) =
    (text ≡ tree_text id) × IsKey (value id) × AreIdTexts texts ids
AreIdTexts _ _ = ⊥

abbrev pub with_found : Option Pairs → List Pairs → List Pairs
with_found None es = es
with_found (Some d) es = d ∷ es

-- the documents of these `_id`s, where there are such
abbrev pub found_by : List Pairs → List Tree → List Pairs
found_by ds [] = []
found_by ds (id ∷ ids) = with_found (find_document ds id) (found_by ds ids)

-- Where the texts ascend, and those of all documents that pass are among them, no other has to be
-- looked at.
abbrev pub FindsByIds : Type 0
FindsByIds =
    (passes : Pairs → Bool) (ds : List Pairs) (ids : List Tree) (texts : List (List ℕ))
    → All IsStorable ds → IsRising ds
    → AllPairs (λ s t. bytes_cmp s t ≡ Less) texts → AreIdTexts texts ids
    → ((d : Pairs) → Contains ds d → passes d ≡ true → Contains texts (tree_text (key_of d)))
    → filter passes (found_by ds ids) ≡ filter passes ds
