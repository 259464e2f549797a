-- Documents that are lent one after the other.
use Rattle.std.specs.Prelude.{◌≡◌, ℕ, ◌≤◌, Bool, not, ◌&&◌, All, List, [], length, map, MatchOption}
use Rattle.std.specs.Prelude.{Option, Some, None}
use Rattle.std.specs.List.{filter}
use Rattle.std.specs.Option.{option_map}
use Rattle.std.specs.Ordering.{is_lt}
use Rattle.bson_bytes.specs.Raw.{document_spelled}
use Rattle.bson.specs.Spelling.{frame_of, pairs_bytes}
use Rattle.bson.specs.Tree.{Pairs}
use Rattle.value_order.specs.KeyText.{tree_text}
use Rattle.tree_model.specs.Keys.{Entry, is_within, key_cmp}
use Rattle.btree.specs.declared.folding.Bounds.{Bounds}
use Rattle.entry_model.specs.LawfulState.{IsStorable}
use Rattle.entry_model.specs.State.{key_of}
use Rattle.entry_model.specs.StateEntries.{key_under}
use Rattle.path.specs.declared.refusal.Refusal.{Refusal}
use Rattle.path.specs.declared.refusal.Refusal.TheVariants as refusals
use Rattle.collections.specs.declared.folding.Lending.{Lending}

-- A fold was lent some documents: so much is said on any disk.
pub record HasTaken {F : Type 0} (makes : F → List Pairs → F → Type 0)
    (start now : F) : Type 0 where
  pub documents : List Pairs
  pub made : makes start documents now

-- What all documents of a collection make of a fold; they are no more than find room in a file.
pub record IsFolded {F : Type 0} (makes : F → List Pairs → F → Type 0) (start : F)
    (documents : List Pairs) (now : F) : Type 0 where
  pub made : makes start documents now
  pub few : length documents ≤ 4294967295

-- ---- documents within bounds

-- The text isn't below the first of the bounds, and is below their end, where they have one.
abbrev pub lies_within : Bounds → List ℕ → Bool
lies_within texts text =
    not (is_lt (key_cmp text texts.from.now)) && is_within (option_map (λ b. b.now) texts.to) text

-- the documents of which the text of the `_id` does
abbrev pub documents_within : Bounds → List Pairs → List Pairs
documents_within texts ds = filter (λ d. lies_within texts (tree_text (key_of d))) ds

-- below which key their entries lie, in the collection of a number
abbrev pub end_under : ℕ → Option (List ℕ) → List ℕ
end_under number None = key_under number 1 []
end_under number (Some text) = key_under number 0 text

-- ---- entries that are lent as documents

-- the document that an entry's value spells
abbrev pub document_in : Entry → Pairs
document_in entry = document_spelled entry.value

-- an entry whose value is a document that may be stored
pub record IsOfStored (entry : Entry) : Type 0 where
  pub document : Pairs
  pub storable : IsStorable document
  pub spelled : entry.value ≡ frame_of (pairs_bytes document)

-- Why one of them was refused: where all may be stored, memory ran out.
abbrev pub IsRefusedAmong : List Entry → Refusal → Type 0
IsRefusedAmong entries e = All IsOfStored entries → e ≡ refusals.OutOfMemory

-- What entries make of a fold to which they are lent as documents.
abbrev pub Lends : {F : Type 0} → (F → List Pairs → F → Type 0)
    → Lending F → List Entry → Lending F → Type 0
Lends makes start entries now =
    MatchOption now.refused (makes start.fold (map document_in entries) now.fold)
    (IsRefusedAmong entries)
