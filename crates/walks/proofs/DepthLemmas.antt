-- How deep a document nests, told by its bytes: each document and each array in it begins with a byte of its own, and has seven in all.
use Rattle.std.proofs.Common.{◌≡◌, ℕ, suc, max, ◌+◌, ◌*◌, ◌≤◌, Bool, true, false, List, [], ◌∷◌, ◌++◌, length, refl, ap, arith}
use Rattle.std.specs.Prelude.{◌==◌, ◌||◌}
use Rattle.std.proofs.lemmas.List.{length-append}
use Rattle.std.specs.Int.{w32, to_le_bytes}
use Rattle.std.specs.Fmt.{decimal}
use Rattle.bson.specs.Tree.{Tree, scalar, document, array, Pairs, no_pairs, pair, Items, no_items, item}
use Rattle.bson.specs.Lawful.{levels, pairs_levels, items_levels}
use Rattle.bson.specs.Spelling.{Spells, element, frame_of, type_byte, tree_bytes, pairs_bytes, items_bytes}

-- whether a byte is one that begins a document or an array
abbrev pub begins : ℕ → Bool
begins b = b == 3 || b == 4

abbrev pub counted : Bool → ℕ
counted true = 1
counted false = 0

-- how many such bytes there are
abbrev pub inner : List ℕ → ℕ
inner [] = 0
inner (b ∷ bs) = counted (begins b) + inner bs

pub inner-append : (xs ys : List ℕ) → inner (xs ++ ys) ≡ inner xs + inner ys
inner-append [] ys = omega arith
inner-append (x ∷ xs) ys = omega (arith, inner-append xs ys)

inner_frame : (content : List ℕ) → inner content ≤ inner (frame_of content)
inner_frame content =
    omega (arith, inner-append (to_le_bytes w32 (length content + 5)) (content ++ 0 ∷ []), inner-append content (0 ∷ []))

length_frame : (content : List ℕ) → length (frame_of content) ≡ length content + 5
length_frame content = omega (arith, length-append content (0 ∷ []))

inner_element : (type : ℕ) (name value : List ℕ) → counted (begins type) + inner value ≤ inner (element type name value)
inner_element type name value = omega (arith, inner-append name (0 ∷ value))

length_element : (type : ℕ) (name value : List ℕ) → 2 + length value ≤ length (element type name value)
length_element type name value = omega (arith, length-append name (0 ∷ value))

-- Elements nest so deep at most: a level has a byte that begins it, and seven bytes of its own, which are its type, the zero behind its name, its
-- length and its end.
record Nests (depth : ℕ) (bytes : List ℕ) : Type 0 where
  begun : depth ≤ inner bytes
  long : 7 * depth ≤ length bytes

-- one more element, and those behind it
nests_max : (a b : ℕ) (xs ys : List ℕ) → Nests a xs → Nests b ys → Nests (max a b) (xs ++ ys)
nests_max a b xs ys one rest = record {
  begun = omega (arith, one.begun, rest.begun, inner-append xs ys);
  long = omega (arith, one.long, rest.long, length-append xs ys);
}

-- one level more
nests_under : (depth type : ℕ) (name content : List ℕ) → begins type ≡ true → Nests depth content
    → Nests (suc depth) (element type name (frame_of content))
nests_under depth type name content is nests = record {
  begun = omega (arith, nests.begun, ap counted is, inner_frame content, inner_element type name (frame_of content));
  long = omega (arith, nests.long, length_frame content, length_element type name (frame_of content));
}

mutual
  unfolding tree_bytes pairs_bytes items_bytes

  tree_nests : (name : List ℕ) (t : Tree) → Nests (levels t) (element (type_byte t) name (tree_bytes t))
  tree_nests name (scalar s) = record { begun = omega arith; long = omega arith }
  tree_nests name (document ps) = nests_under (pairs_levels ps) 3 name (pairs_bytes ps) refl (pairs_nest ps)
  tree_nests name (array ts) = nests_under (items_levels ts) 4 name (items_bytes 0 ts) refl (items_nest 0 ts)

  pairs_nest : (ps : Pairs) → Nests (pairs_levels ps) (pairs_bytes ps)
  pairs_nest no_pairs = record { begun = omega arith; long = omega arith }
  pairs_nest (pair name t ps) =
      nests_max (levels t) (pairs_levels ps) (element (type_byte t) name (tree_bytes t)) (pairs_bytes ps) (tree_nests name t) (pairs_nest ps)

  items_nest : (i : ℕ) (ts : Items) → Nests (items_levels ts) (items_bytes i ts)
  items_nest i no_items = record { begun = omega arith; long = omega arith }
  items_nest i (item t ts) =
      nests_max (levels t) (items_levels ts) (element (type_byte t) (decimal i) (tree_bytes t)) (items_bytes (i + 1) ts) (tree_nests (decimal i) t)
      (items_nest (i + 1) ts)

-- a document nests no deeper than such bytes stand in its spelling
pub nests_no_deeper : (bytes : List ℕ) (d : Pairs) → Spells bytes d → pairs_levels d ≤ inner bytes
nests_no_deeper bytes d h = omega (arith, (pairs_nest d).begun, inner_frame (pairs_bytes d), ap inner h.spelled)

-- nor than there is room
pub has_room : (bytes : List ℕ) (d : Pairs) → Spells bytes d → 7 * pairs_levels d + 5 ≤ length bytes
has_room bytes d h = omega (arith, (pairs_nest d).long, length_frame (pairs_bytes d), ap length h.spelled)
