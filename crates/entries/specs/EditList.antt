-- A list of edits of the map, in ascending order of their keys and one at each.
use Rattle.std.specs.Prelude.{◌≡◌, ◌≤◌, ℕ, List, [], ◌∷◌, length, map, Option, Some, None}
use Rattle.std.specs.Prelude.{unwrap_or, if◌then◌else◌}
use Rattle.std.specs.Ordering.{is_eq}
use Rattle.std.specs.Option.{option_map, ForSome}
use Rattle.std.specs.Global.{Vec}
use Rattle.tree_model.specs.Keys.{edit_keys}
use Rattle.tree_model.specs.Keys.{Each, Edit, Entry, Rises, change, key_cmp, value_at}
use Rattle.entry_model.specs.State.{Collection, by_order}
use Rattle.entry_model.specs.StateEntries.{Leads}

-- what a vector of bytes puts at a key, or none where the key is removed
abbrev pub edit_of : Vec ℕ → Option (Vec ℕ) → Edit
edit_of key value = record { key = key.items; value = option_map (λ v. v.items) value }

-- a key, and what it is to have: a value, or none where it is removed
abbrev pub Noted : Type 0
Noted = Vec ℕ × Option (Vec ℕ)

abbrev pub edits_in : List Noted → List Edit
edits_in noted = map (λ e. edit_of e.0 e.1) noted

-- at its place by its key, or in place of the one at its key
abbrev pub with_edit : Edit → List Edit → List Edit
with_edit e [] = e ∷ []
with_edit e (f ∷ fs) =
    by_order (key_cmp e.key f.key) (e ∷ f ∷ fs) (e ∷ fs) (f ∷ with_edit e fs)

-- what the edit of a key puts there, or none where it removes the key, if there is an edit of it
abbrev pub edit_at : List ℕ → List Edit → Option (Option (List ℕ))
edit_at key [] = None
edit_at key (e ∷ es) = if is_eq (key_cmp e.key key) then Some e.value else edit_at key es

-- Edits of a map, one at each key, put what they have for a key, and leave what stands at another.
abbrev pub PutWhatTheyHave : Type 0
PutWhatTheyHave =
    (edits : List Edit) (entries : List Entry) (key : List ℕ) → Rises (edit_keys edits)
    → value_at key (change edits entries) ≡ unwrap_or (edit_at key edits) (value_at key entries)

-- short enough for the tree, as the entries of a lawful state are
abbrev pub IsShortEdit : Edit → Type 0
IsShortEdit e = (length e.key ≤ 1024) × ForSome e.value (λ bytes. length bytes ≤ 65535)

pub record IsEditList (edits : List Edit) : Type 0 where
  pub rises : Rises (edit_keys edits)
  pub short : Each IsShortEdit edits

-- Wherever the old edits lead, and the one leads on from there, the new edits lead.
abbrev pub LeadsWith : List Edit → Edit → List Edit → Type 0
LeadsWith old e new =
    (a b c : List Collection) → Leads old a b → Leads (e ∷ []) b c → Leads new a c
