-- The 4,096 bytes of a page: a header of sixteen bytes (kind, zero, count, the page's own number,
-- the generation of the commit that wrote it), then what its kind has, then zeros. Numbers have
-- their lowest byte first.
use Rattle.std.specs.Prelude.{ℕ, zero, suc, ◌+◌, ◌-◌, ◌*◌, Bool, not, ◌||◌, ◌&&◌, ◌==◌}
use Rattle.std.specs.Prelude.{if◌then◌else◌, nat_lt, ◌≤◌, List, [], ◌∷◌, ◌++◌, length, map, take}
use Rattle.std.specs.Prelude.{drop, replicate, slice_index, Result, Ok}
use Rattle.outcome.specs.Outcome.{◌>>=◌, unless}
use Rattle.std.specs.List.{flat_map, list_all}
use Rattle.byteorder.specs.Endian.{little_bytes, little_number}
use Rattle.page.specs.Content.{Place, inline, spilled, Item, Pivot, Content, leaf, branch, chain}
use Rattle.page.specs.Content.{free_list, item_keys, pivot_keys, rise}
use Rattle.page.specs.declared.page_fault.PageFault.{PageFault}
use Rattle.page.specs.declared.page_fault.PageFault.TheVariants as faults

pub record PageModel : Type 0 where
  pub page : ℕ
  pub generation : ℕ
  pub content : Content

-- ---- the bytes of cells

abbrev pub value_length : Place → ℕ
value_length (inline value) = length value
value_length (spilled len page) = len

abbrev pub place_bytes : Place → List ℕ
place_bytes (inline value) = value
place_bytes (spilled len page) = little_bytes 4 page

-- the lengths of key and value, the key, and the value or the first page of its chain
abbrev pub item_bytes : Item → List ℕ
item_bytes item =
    little_bytes 2 (length item.key) ++ little_bytes 4 (value_length item.place) ++ item.key
    ++ place_bytes item.place

-- a child behind the first: the length of its key, the key, and its page
abbrev pub pivot_bytes : Pivot → List ℕ
pivot_bytes pivot = little_bytes 2 (length pivot.key) ++ pivot.key ++ little_bytes 4 pivot.child

abbrev pub pivots_bytes : List Pivot → List ℕ
pivots_bytes [] = []
pivots_bytes (first ∷ pivots) = little_bytes 4 first.child ++ flat_map pivot_bytes pivots

-- ---- the bytes of a page

abbrev pub kind_of : Content → ℕ
kind_of (leaf items) = 1
kind_of (branch pivots) = 2
kind_of (chain next bytes) = 3
kind_of (free_list next pages) = 4

abbrev pub count_of : Content → ℕ
count_of (leaf items) = length items
count_of (branch pivots) = length pivots
count_of (chain next bytes) = length bytes
count_of (free_list next pages) = length pages

-- what stands behind the header, up to the zeros
abbrev pub body_of : Content → List ℕ
body_of (leaf items) = flat_map item_bytes items
body_of (branch pivots) = pivots_bytes pivots
body_of (chain next bytes) = little_bytes 4 next ++ bytes
body_of (free_list next pages) = little_bytes 4 next ++ flat_map (λ page. little_bytes 4 page) pages

abbrev pub body_and_zeros : List ℕ → List ℕ
body_and_zeros bytes = bytes ++ replicate (4080 - length bytes) 0

abbrev pub header : ℕ → ℕ → ℕ → ℕ → List ℕ
header kind count page generation =
    kind ∷ 0 ∷ little_bytes 2 count ++ little_bytes 4 page ++ little_bytes 8 generation

-- The bytes of a chain or of a list of numbers. A leaf and a branch find room by themselves.
abbrev pub listed_size : Content → ℕ
listed_size (leaf items) = 0
listed_size (branch pivots) = 0
listed_size (chain next bytes) = 4 + length bytes
listed_size (free_list next pages) = 4 + 4 * length pages

-- the content finds room behind the header
abbrev pub IsFit : Content → Type 0
IsFit content = listed_size content ≤ 4080

unfoldable pub page_bytes : PageModel → List ℕ
page_bytes model =
    header (kind_of model.content) (count_of model.content) model.page model.generation
    ++ body_and_zeros (body_of model.content)

-- ---- reading cells

-- The size of the cell at the front of a leaf's bytes, and of one behind the first child of a
-- branch, by the lengths that stand there.
abbrev pub stored_size : ℕ → ℕ
stored_size len = if nat_lt 330 len then 4 else len

abbrev pub leaf_cell_size : List ℕ → ℕ
leaf_cell_size bytes = 6 + little_number 2 bytes + stored_size (little_number 4 (drop 2 bytes))

abbrev pub branch_cell_size : List ℕ → ℕ
branch_cell_size bytes = 6 + little_number 2 bytes

abbrev pub place_in : ℕ → List ℕ → Place
place_in len bytes =
    if nat_lt 330 len then spilled len (little_number 4 bytes) else inline (take len bytes)

abbrev pub item_in : List ℕ → Item
item_in bytes = record {
  key = take (little_number 2 bytes) (drop 6 bytes);
  place = place_in (little_number 4 (drop 2 bytes)) (drop (little_number 2 bytes) (drop 6 bytes));
}

abbrev pub pivot_in : List ℕ → Pivot
pivot_in bytes = record {
  key = take (little_number 2 bytes) (drop 2 bytes);
  child = little_number 4 (drop (little_number 2 bytes) (drop 2 bytes));
}

abbrev pub are_zeros : List ℕ → Bool
are_zeros bytes = list_all (λ b. b == 0) bytes

-- Where cells begin: so many, one behind the other from a place on, each whole and of at most 1,360
-- bytes, with zeros behind the last.
abbrev pub places_in : (List ℕ → ℕ) → ℕ → ℕ → List ℕ → Result (List ℕ) PageFault
places_in size zero at bytes = unless (not (are_zeros (drop at bytes))) faults.Length (Ok [])
places_in size (suc n) at bytes =
    unless (nat_lt 1360 (size (drop at bytes))
    || nat_lt (length (drop at bytes)) (size (drop at bytes)))
    faults.Length
    (places_in size n (at + size (drop at bytes)) bytes >>= λ places. Ok (at ∷ places))

abbrev pub items_at : List ℕ → List ℕ → List Item
items_at bytes places = map (λ at. item_in (drop at bytes)) places

-- The first child has no key, and its page stands in front.
abbrev pub pivots_at : List ℕ → List ℕ → List Pivot
pivots_at bytes places =
    record { key = []; child = little_number 4 bytes } ∷ map (λ at. pivot_in (drop at bytes)) places

abbrev pub numbers_in : ℕ → List ℕ → List ℕ
numbers_in zero bytes = []
numbers_in (suc n) bytes = little_number 4 bytes ∷ numbers_in n (drop 4 bytes)

-- ---- reading a page by its count and what stands behind the header, with the first fault in the
-- order of their numbers, but Length before Order

abbrev pub leaf_in : ℕ → List ℕ → Result Content PageFault
leaf_in count body =
    unless (count == 0) faults.Length
    (places_in leaf_cell_size count 0 body >>= λ places.
    unless (not (rise (item_keys (items_at body places)))) faults.Order
    (Ok (leaf (items_at body places))))

abbrev pub branch_in : ℕ → List ℕ → Result Content PageFault
branch_in count body =
    unless (nat_lt count 2) faults.Length
    (places_in branch_cell_size (count - 1) 4 body >>= λ places.
    unless (not (rise (pivot_keys (pivots_at body places)))) faults.Order
    (Ok (branch (pivots_at body places))))

-- A chain's page, by its count, its next page and the 4,076 bytes behind that. All pages of a chain
-- but the last are full.
abbrev pub chain_in : ℕ → ℕ → List ℕ → Result Content PageFault
chain_in count next bytes =
    unless
    (nat_lt 4076 count || (not (next == 0) && nat_lt count 4076)
    || not (are_zeros (drop count bytes)))
    faults.Length
    (Ok (chain next (take count bytes)))

abbrev pub free_list_in : ℕ → ℕ → List ℕ → Result Content PageFault
free_list_in count next bytes =
    unless (nat_lt 1019 count || not (are_zeros (drop (4 * count) bytes)))
    faults.Length
    (Ok (free_list next (numbers_in count bytes)))

abbrev pub content_in : ℕ → ℕ → List ℕ → Result Content PageFault
content_in kind count body =
    if kind == 1 then leaf_in count body
    else if kind == 2 then branch_in count body
    else if kind == 3 then chain_in count (little_number 4 body) (drop 4 body)
    else free_list_in count (little_number 4 body) (drop 4 body)

-- The generation of the page of this number, in a file whose root has this generation.
abbrev pub generation_in : ℕ → ℕ → List ℕ → Result ℕ PageFault
generation_in page generation bytes =
    unless
    (slice_index bytes 0 == 0 || nat_lt 4 (slice_index bytes 0) || not (slice_index bytes 1 == 0))
    faults.Kind
    (unless
    (not (little_number 4 (drop 4 bytes) == page) || little_number 8 (drop 8 bytes) == 0
    || nat_lt generation (little_number 8 (drop 8 bytes)))
    faults.Number
    (Ok (little_number 8 (drop 8 bytes))))

abbrev pub model_in : ℕ → ℕ → List ℕ → Result PageModel PageFault
model_in number generation bytes = do
  born ← generation_in number generation bytes
  inside ← content_in (slice_index bytes 0) (little_number 2 (drop 2 bytes)) (drop 16 bytes)
  Ok (record { page = number; generation = born; content = inside })
