-- An image passes the test just where it holds collections such as commands leave.
use Rattle.std.proofs.Common.{◌≡◌, ℕ, List, [], ◌∷◌, Contains, Decides, sym, ap, subst}
use Rattle.std.specs.Prelude.{◌&&◌}
use Rattle.std.specs.List.{list_all}
use Rattle.std.proofs.lemmas.Bool.Decides.{Decides-like, Decides-or}
use Rattle.std.proofs.lemmas.Slice.Eq.{bytes_eq-Decides}
use Rattle.tree_model.specs.Keys.{Entry}
use Rattle.roots.specs.Image.{StandsFor}
use Rattle.entry_model.specs.LawfulState.{IsLawfulState}
use Rattle.entry_model.specs.State.{Collection}
use Rattle.entry_model.specs.StateEntries.{Spells, entry_keys, state_entries}
use Rattle.entry_model.proofs.LawfulLaws.{all_of}
use Rattle.entry_model.proofs.MemberLemmas.{Among, among_of, contains_of, of_all}
use Rattle.collections.specs.Holding.{HoldsState}
use Rattle.file_state.specs.Collections.{collections_in}
use Rattle.file_state.specs.Entries.{entries_in}
use Rattle.file_state.specs.FileTests.{stands}
use Rattle.file_state.specs.HoldingTests.{holds_some, is_entry_of, same_entry, spells}
use Rattle.file_state.specs.Laws.{AreStored, HoldsSome, StoredIsHeld}
use Rattle.file_state.specs.StateTests.{is_lawful}
use Rattle.file_state.specs.StoredTests.{are_stored}
use Rattle.file_state.proofs.CollectionsRead.{reads_held}
use Rattle.file_state.proofs.EntriesRead.{reads_entries}
use Rattle.file_state.proofs.FileTested.{stands_tested}
use Rattle.file_state.proofs.StateTested.{tests_lawful}
use Rattle.file_state.proofs.StoredTested.{collections_tested, gives_stored}
use Rattle.file_state.proofs.TestLemmas.{◌also◌, all_tested, given_tested}
use Rattle.file_state.proofs.TreeTested.{rise_tested}

-- ---- entries of a state

entry_same : (a b : Entry) → Decides (same_entry a b) (a ≡ b)
entry_same a b =
    Decides-like (same_entry a b) (λ h i. record { key = h.0 i; value = h.1 i }) (λ e. (ap (λ (x : Entry). x.key) e, ap (λ (x : Entry). x.value) e))
    (bytes_eq-Decides a.key b.key also bytes_eq-Decides a.value b.value)

among_tested : (entries : List Entry) (entry : Entry) → Decides (is_entry_of entries entry) (Among entry entries)
among_tested [] entry = (λ e. absurd cc, λ h. absurd h)
among_tested (x ∷ xs) entry = Decides-or (same_entry entry x) (is_entry_of xs entry) (entry_same entry x) (among_tested xs entry)

within_tested : (entries others : List Entry)
    → Decides (list_all (is_entry_of others) entries) ((entry : Entry) → Contains entries entry → Contains others entry)
within_tested entries others =
    Decides-like (list_all (is_entry_of others) entries)
    (λ h entry there. contains_of others entry (of_all (λ x. Among x others) entries entry h (among_of entries entry there)))
    (λ h. all_of (λ x. Among x others) entries (λ entry there. among_of others entry (h entry (contains_of entries entry there))))
    (all_tested (is_entry_of others) (λ x. Among x others) (among_tested others) entries)

spells_tested : (entries : List Entry) (cs : List Collection) → Decides (spells entries cs) (Spells entries cs)
spells_tested entries cs =
    Decides-like (spells entries cs) (λ h. record { rises = h.0.0; same = λ entry. (h.0.1 entry, h.1 entry) })
    (λ h. ((h.rises, λ entry. (h.same entry).0), λ entry. (h.same entry).1))
    (rise_tested (entry_keys entries) also within_tested entries (state_entries cs) also within_tested (state_entries cs) entries)

-- ---- an image

-- what is read of it is what it holds
record HoldsRead (image : ℕ → List ℕ) : Type 0 where
  entries : List Entry
  stands : StandsFor image entries
  spells : Spells (entries_in image) (collections_in image)
  lawful : IsLawfulState (collections_in image)
  stored : AreStored (collections_in image)

holds_read : (image : ℕ → List ℕ) → HoldsRead image → HoldsState image (collections_in image)
holds_read image h = record {
  entries = h.entries;
  stands = h.stands;
  spells = subst (λ (es : List Entry). Spells es (collections_in image)) (reads_entries image h.entries h.stands) h.spells;
  state = h.lawful;
}

read_of : (image : ℕ → List ℕ) (cs : List Collection) → HoldsState image cs → AreStored cs → HoldsRead image
read_of image cs h stored =
    let same = sym (reads_held image cs h) in
    record {
      entries = h.entries;
      stands = h.stands;
      spells = subst (Spells (entries_in image)) same (subst (λ (es : List Entry). Spells es cs) (sym (reads_entries image h.entries h.stands)) h.spells);
      lawful = subst IsLawfulState same h.state;
      stored = subst AreStored same stored;
    }

read_tested : (image : ℕ → List ℕ) → Decides (holds_some image) (HoldsRead image)
unfolding holds_some
read_tested image =
    let entries = entries_in image in
    let cs = collections_in image in
    Decides-like (holds_some image) (λ h. record { entries = h.0.0.0.0; stands = h.0.0.0.1; spells = h.0.0.1; lawful = h.0.1; stored = h.1 })
    (λ h. ((((h.entries, h.stands), h.spells), h.lawful), h.stored))
    (given_tested (stands image && spells entries cs && is_lawful cs) (are_stored cs)
    (stands_tested image also spells_tested entries cs also tests_lawful cs) (λ told. collections_tested cs told.1))

pub some_tested : HoldsSome
some_tested image =
    Decides-like (holds_some image) (λ h. (collections_in image, holds_read image h, h.stored)) (λ h. read_of image h.0 h.1 h.2) (read_tested image)

pub stored_is_held : StoredIsHeld
stored_is_held image pass =
    let some = (some_tested image).0 pass in
    subst (HoldsState image) (sym (gives_stored image some.0 some.1 some.2)) some.1
