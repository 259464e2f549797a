-- What is read of an image, and what is tested of collections.
use Rattle.std.specs.Prelude.{◌≡◌, ℕ, true, List, All, Decides}
use Rattle.bson.specs.Tree.{Pairs}
use Rattle.tree_model.specs.Keys.{Entry}
use Rattle.roots.specs.Image.{StandsFor}
use Rattle.entry_model.specs.LawfulState.{IsLawfulState, IsStorable}
use Rattle.entry_model.specs.State.{Collection}
use Rattle.entry_model.specs.StateEntries.{Spells}
use Rattle.collections.specs.Holding.{HoldsState}
use Rattle.file_state.specs.Collections.{collections_among, collections_in, held_in}
use Rattle.file_state.specs.Entries.{entries_in}
use Rattle.file_state.specs.FileTests.{stands}
use Rattle.file_state.specs.HoldingTests.{holds_some}
use Rattle.file_state.specs.StateTests.{is_lawful}
use Rattle.file_state.specs.StoredTests.{is_stored, stored_in}
use Rattle.database_model.specs.Lawful.{IsStored}

-- Of an image that stands for entries just these are read.
abbrev pub ReadsEntries : Type 0
ReadsEntries =
    (image : ℕ → List ℕ) (entries : List Entry) → StandsFor image entries
    → entries_in image ≡ entries

-- Of entries that spell a lawful state just this is read.
abbrev pub ReadsCollections : Type 0
ReadsCollections =
    (entries : List Entry) (cs : List Collection) → Spells entries cs → IsLawfulState cs
    → collections_among entries ≡ cs

-- Of an image that holds collections just these are read.
abbrev pub ReadsHeld : Type 0
ReadsHeld =
    (image : ℕ → List ℕ) (cs : List Collection) → HoldsState image cs → collections_in image ≡ cs

-- ---- of any image

-- Collections pass the test just where they are a lawful state.
abbrev pub TestsLawful : Type 0
TestsLawful = (cs : List Collection) → Decides (is_lawful cs) (IsLawfulState cs)

-- What is held is a lawful state, whatever the image is.
abbrev pub HeldIsLawful : Type 0
HeldIsLawful = (image : ℕ → List ℕ) → IsLawfulState (held_in image)

-- Of an image that holds collections just these are held.
abbrev pub GivesHeld : Type 0
GivesHeld = (image : ℕ → List ℕ) (cs : List Collection) → HoldsState image cs → held_in image ≡ cs

-- ---- documents as commands store them

-- A document that may be stored passes the test just where commands store such.
abbrev pub TestsStored : Type 0
TestsStored = (ps : Pairs) → IsStorable ps → Decides (is_stored ps) (IsStored ps)

abbrev pub AreStored : List Collection → Type 0
AreStored cs = All (λ c. All IsStored c.documents) cs

-- Whatever the image is, `stored_in` gives a lawful state with such documents alone.
abbrev pub StoredIsLawful : Type 0
StoredIsLawful =
    (image : ℕ → List ℕ) → IsLawfulState (stored_in image) × AreStored (stored_in image)

-- Of an image that holds collections with such documents alone it gives just these.
abbrev pub GivesStored : Type 0
GivesStored =
    (image : ℕ → List ℕ) (cs : List Collection) → HoldsState image cs → AreStored cs
    → stored_in image ≡ cs

-- ---- whether an image stands for anything

-- An image passes the test just where there are entries that it stands for.
abbrev pub Stands : Type 0
Stands =
    (image : ℕ → List ℕ)
    → Decides (stands image) ((entries : List Entry) × StandsFor image entries)

-- An image passes the test just where it holds collections all of whose documents are such as
-- commands store.
abbrev pub HoldsSome : Type 0
HoldsSome =
    (image : ℕ → List ℕ)
    → Decides (holds_some image) ((cs : List Collection) × HoldsState image cs × AreStored cs)

-- These are then what `stored_in` gives.
abbrev pub StoredIsHeld : Type 0
StoredIsHeld =
    (image : ℕ → List ℕ) → holds_some image ≡ true → HoldsState image (stored_in image)
