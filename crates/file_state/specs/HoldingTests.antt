-- Whether an image of the disk holds collections such as commands leave, as a test.
use Rattle.std.specs.Prelude.{ℕ, Bool, ◌&&◌, List}
use Rattle.std.specs.List.{list_all, list_any}
use Rattle.std.specs.Str.{bytes_eq}
use Rattle.tree_model.specs.Keys.{Entry}
use Rattle.entry_model.specs.State.{Collection}
use Rattle.entry_model.specs.StateEntries.{entry_keys, state_entries}
use Rattle.file_state.specs.Collections.{collections_in}
use Rattle.file_state.specs.Entries.{entries_in}
use Rattle.file_state.specs.FileTests.{stands}
use Rattle.file_state.specs.StateTests.{is_lawful}
use Rattle.file_state.specs.StoredTests.{are_stored}
use Rattle.file_state.specs.TreeTests.{is_rise}

abbrev pub same_entry : Entry → Entry → Bool
same_entry entry other = bytes_eq entry.key other.key && bytes_eq entry.value other.value

-- one of these is this entry
abbrev pub is_entry_of : List Entry → Entry → Bool
is_entry_of entries entry = list_any (same_entry entry) entries

-- The entries' keys rise, and they are those of these collections, none less and none more.
abbrev pub spells : List Entry → List Collection → Bool
spells entries cs =
    is_rise (entry_keys entries) && list_all (is_entry_of (state_entries cs)) entries
    && list_all (is_entry_of entries) (state_entries cs)

-- The image stands for entries, which spell what is read of them: a lawful state, all of whose
-- documents are such as commands store.
unfoldable pub holds_some : (ℕ → List ℕ) → Bool
holds_some image =
    stands image && spells (entries_in image) (collections_in image)
    && is_lawful (collections_in image) && are_stored (collections_in image)
