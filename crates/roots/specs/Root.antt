-- The 512 bytes of a root sector, and the root that two of them give. A root sector has the mark
-- DOCPAGE1, the format 1, the page size 4096, the generation in eight bytes, the first page of the
-- tree and the number of pages, the first page of the list of free pages and how many that names,
-- then zeros. Numbers have their lowest byte first. Zeros alone are the root of a file that was
-- never committed.
use Rattle.std.specs.Prelude.{◌≡◌, ℕ, ◌+◌, ◌-◌, ◌%◌, ◌^◌, ◌<◌, ◌≤◌, Bool, false, not, ◌&&◌, ◌==◌}
use Rattle.std.specs.Prelude.{nat_lt, if◌then◌else◌, List, ◌++◌, drop, replicate, codes, Result, Ok}
use Rattle.std.specs.Prelude.{Err}
use Rattle.byteorder.specs.Endian.{little_bytes, little_number}
use Rattle.page.specs.Format.{are_zeros}
use Rattle.roots.specs.declared.root.Root.{Root}
use Rattle.roots.specs.declared.opening.OpenFault.{OpenFault}
use Rattle.roots.specs.declared.opening.OpenFault.TheVariants as faults

abbrev pub magic : List ℕ
magic = codes "DOCPAGE1"

abbrev pub root_head : Root → List ℕ
root_head root =
    magic ++ little_bytes 4 1 ++ little_bytes 4 4096 ++ little_bytes 8 root.generation
    ++ little_bytes 4 root.tree ++ little_bytes 4 root.pages
    ++ little_bytes 4 root.free_list ++ little_bytes 4 root.free_count

abbrev pub root_bytes : Root → List ℕ
root_bytes root = root_head root ++ replicate 472 0

-- the root of a file that was never committed
abbrev pub no_root : Root
no_root = record { generation = 0; tree = 0; pages = 1; free_list = 0; free_count = 0 }

-- ---- reading a sector

unfoldable pub fields_in : List ℕ → Root
fields_in bytes = record {
  generation = little_number 8 (drop 16 bytes);
  tree = little_number 4 (drop 24 bytes);
  pages = little_number 4 (drop 28 bytes);
  free_list = little_number 4 (drop 32 bytes);
  free_count = little_number 4 (drop 36 bytes);
}

-- the list of free pages begins below the number of the file's pages, and names fewer than these
abbrev pub is_list_possible : Root → Bool
is_list_possible root = nat_lt root.free_list root.pages && nat_lt root.free_count root.pages

-- A commit has a number, a file has at most 1,048,576 pages, and the tree begins below their
-- number.
abbrev pub is_possible : Root → Bool
is_possible root =
    nat_lt 0 root.generation && (nat_lt root.tree root.pages
    && (not (nat_lt 1048576 root.pages) && is_list_possible root))

unfoldable pub begins_right : List ℕ → Bool
begins_right bytes = little_number 8 bytes == little_number 8 magic

-- the sector of a root, in this format, with nothing behind it
unfoldable pub is_sound : List ℕ → Bool
is_sound bytes =
    if not (little_number 4 (drop 8 bytes) == 1) then false else
    if not (little_number 4 (drop 12 bytes) == 4096) then false else
    if not (is_possible (fields_in bytes)) then false else are_zeros (drop 40 bytes)

-- the root in a sector, or the first fault of it
abbrev pub root_in : List ℕ → Result Root OpenFault
root_in bytes =
    if are_zeros bytes then Ok no_root else
    if not (begins_right bytes) then Err faults.NotADatabase else
    if nat_lt 1 (little_number 4 (drop 8 bytes)) then Err faults.NewerFormat else
    if is_sound bytes then Ok (fields_in bytes) else Err faults.Damaged

-- ---- reading both

-- Of the root in sector 0 and that in sector 1 the later one counts. The other is the one before
-- it.
abbrev pub newer_root : Root → Root → Result Root OpenFault
newer_root even odd =
    if not (even.generation % 2 == 0) then Err faults.Damaged else
    if odd.generation == even.generation + 1 then Ok odd else
    if (odd.generation == 0) && (even.generation == 0) then Ok even else
    if not (odd.generation == 0)
    && (not (even.generation == 0) && (odd.generation == even.generation - 1))
    then Ok even else Err faults.Damaged

-- what is no database goes before what is of a newer format, and that before damage
abbrev pub worse_fault : OpenFault → OpenFault → OpenFault
worse_fault faults.NotADatabase odd = faults.NotADatabase
worse_fault even faults.NotADatabase = faults.NotADatabase
worse_fault faults.NewerFormat odd = faults.NewerFormat
worse_fault even faults.NewerFormat = faults.NewerFormat
worse_fault even odd = faults.Damaged

abbrev pub both : Result Root OpenFault → Result Root OpenFault → Result Root OpenFault
both (Ok even) (Ok odd) = newer_root even odd
both (Ok even) (Err fault) = Err fault
both (Err fault) (Ok odd) = Err fault
both (Err even) (Err odd) = Err (worse_fault even odd)

-- the root that sectors 0 and 1 give
abbrev pub root_of : List ℕ → List ℕ → Result Root OpenFault
root_of even odd = both (root_in even) (root_in odd)

abbrev pub IsUnlisted : Root → Type 0
IsUnlisted root = (root.free_list ≡ 0) × (root.free_count ≡ 0)

-- a root that opening gives: that of no commit, or a possible one
pub record IsKnown (root : Root) : Type 0 where
  pub tree : root.tree < root.pages
  pub pages : root.pages ≤ 1048576
  pub free_list : root.free_list < root.pages
  pub free_count : root.free_count < root.pages

-- a root that a commit may write
pub record IsPossible (root : Root) : Type 0 where
  pub committed : 1 ≤ root.generation
  pub generation : root.generation < 2 ^ 64
  pub tree : root.tree < root.pages
  pub pages : root.pages ≤ 1048576
  pub free_list : root.free_list < root.pages
  pub free_count : root.free_count < root.pages
