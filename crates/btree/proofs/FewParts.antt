-- How many pages the parts take that cells and children are cut into.
use Rattle.std.proofs.Common.{◌≡◌, ℕ, zero, suc, ◌+◌, ◌*◌, ◌<◌, ◌≤◌, ◌⊎◌, List, [], ◌∷◌, ◌++◌, length, map, take, drop, get_or, Vec, Global}
use Rattle.std.proofs.Common.{Result, Ok, Err, refl, sym, ap, ◌∙◌, subst, arith, inl, inr}
use Rattle.std.specs.List.{AllByRecursion}
use Rattle.std.specs.Result.{IfOk}
use Rattle.page.specs.Content.{Pivot, IsPivot, IsBranch, IsItem, IsLeaf, Item, pivot_size, item_size, total}
use Rattle.btree.specs.declared.node.LooseSlot.{LooseSlot}
use Rattle.tree_model.specs.declared.pages.TreeFault.{TreeFault}
use Rattle.btree.specs.LooseView.{slot_in}
use Rattle.tree_model.specs.Keys.{Each}
use Rattle.btree.specs.Loose.{IsChild, IsSlot, Slot, pivot_slot, item_slot, slot_size, slots_size, under_key}
use Rattle.btree.specs.Few.{AreFewPages, IsFullPart, IsOnePage, MakesUpTo, WritesUpTo}
use Rattle.tree_model.specs.Store.{IsMade, Store}
use Rattle.page.specs.Content.{Content}
use Rattle.btree.proofs.CuttingLemmas.{each_at, each_drop, size_all, size_next, size_split}
use Rattle.tree_model.proofs.ListLemmas.{each_append, long_append, long_map}
use Rattle.btree.proofs.LooseLemmas.{map_behind, map_take}
use Rattle.btree.proofs.PartLemmas.{first_here}

module _ (slots : List Slot) (d : Slot) where
  -- what fills a page but for one that found no room
  pub full_whole : (whole : ℕ) → whole < length slots → 4080 < slots_size (take whole slots) + slot_size (get_or slots whole d) → Each IsSlot slots
      → IsFullPart slots whole
  full_whole whole lt full h =
      let one = each_at whole slots d lt h in
      let next = size_next whole slots d lt in
      inr (omega arith, inl (omega arith))

  pub full_half : (whole behind half : ℕ) → whole < length slots → 4080 < slots_size (take whole slots) + slot_size (get_or slots whole d)
      → slots_size (take whole slots) ≤ 4080
      → length (drop whole slots) ≤ behind → slots_size (take behind (drop whole slots)) ≤ 1360
      → (half < length slots → 2720 < slots_size (take half slots) + slot_size (get_or slots half d)) → Each IsSlot slots → IsFullPart slots half
  full_half whole behind half lt full room all few next h =
      let more = size_next whole slots d lt in
      let parts = size_split whole slots in
      let rest = size_all behind (drop whole slots) all in
      elim (le_or (length slots) half) [
        | inl end ↦ inl end
        | inr inside ↦ (let one = each_at half slots d inside h in let over = next inside in inr (omega arith, inr (omega arith, omega arith)))
      ]
    where
      le_or : (a b : ℕ) → (a ≤ b) ⊎ (b < a)
      le_or zero b = inl (omega arith)
      le_or (suc a) zero = inr (omega arith)
      le_or (suc a) (suc b) = elim (le_or a b) [ inl l ↦ inl (omega arith) | inr l ↦ inr (omega arith) ]

-- so many pages were written, and these stubs are left
abbrev pub AreSoFar : ℕ → ℕ → List Slot → Type 0
AreSoFar bytes pages rest = (2720 * pages + slots_size rest ≤ bytes)
    ⊎ ((slots_size rest ≤ 4080) × ((2720 * pages < bytes) ⊎ ((length rest ≡ 0) × (2720 * pages ≤ bytes + 2719))))

some_size : (ss : List Slot) → 0 < length ss → 0 < slots_size ss
some_size [] lt = absurd (omega arith)
some_size (s ∷ ss) lt = omega arith

none_left : (at : ℕ) (ss : List Slot) → length ss ≤ at → (length (drop at ss) ≡ 0) × (slots_size (drop at ss) ≡ 0)
none_left zero [] le = (refl, refl)
none_left (suc at) [] le = (refl, refl)
none_left zero (s ∷ ss) le = absurd (omega arith)
none_left (suc at) (s ∷ ss) le = none_left at ss (omega arith)

pub one_more : (bytes pages at : ℕ) (rest : List Slot) → 0 < length rest → AreSoFar bytes pages rest → IsFullPart rest at
    → AreSoFar bytes (pages + 1) (drop at rest)
one_more bytes pages at rest some (inl h) (inl all) = let n = none_left at rest all in let s = some_size rest some in
    inr (omega (arith, n.1), inr (n.0, omega arith))
one_more bytes pages at rest some (inr (e, inl h)) (inl all) = let n = none_left at rest all in inr (omega (arith, n.1), inr (n.0, omega arith))
one_more bytes pages at rest some (inr (e, inr h)) f = absurd (omega (arith, h.0))
one_more bytes pages at rest some (inl h) (inr (more, inl two)) = let s = size_split at rest in inl (omega arith)
one_more bytes pages at rest some (inl h) (inr (more, inr one)) = let s = size_split at rest in inr (omega (arith, one.0, one.1), inl (omega arith))
one_more bytes pages at rest some (inr (e, inl h)) (inr (more, part)) = absurd (omega arith)

pub all_written : (bytes pages : ℕ) (rest : List Slot) → length rest ≡ 0 → AreSoFar bytes pages rest → 2720 * pages ≤ bytes + 2719
all_written bytes pages rest none (inl h) = omega arith
all_written bytes pages rest none (inr (e, inl h)) = omega arith
all_written bytes pages rest none (inr (e, inr h)) = h.1

-- what is left to write takes none away
pub so_far_most : (bytes pages : ℕ) (rest : List Slot) → AreSoFar bytes pages rest → 2720 * pages ≤ bytes + 2719
so_far_most bytes pages rest (inl h) = omega (arith, h)
so_far_most bytes pages rest (inr (e, inl h)) = omega (arith, h)
so_far_most bytes pages rest (inr (e, inr h)) = h.1

-- ---- sizes

pub both_size : (xs ys : List Slot) → slots_size (xs ++ ys) ≡ slots_size xs + slots_size ys
both_size [] ys = omega arith
both_size (x ∷ xs) ys = omega (arith, both_size xs ys)

pub size_many : (ss : List Slot) → Each IsSlot ss → slots_size ss ≤ 1360 * length ss
size_many [] h = omega arith
size_many (s ∷ ss) h = let one : slot_size s ≤ 1360 = h.0.size in omega (arith, size_many ss h.1)

pub items_size : (items : List Item) → slots_size (map item_slot items) ≡ total item_size items
items_size [] = refl
items_size (x ∷ xs) = omega (arith, items_size xs)

small_items : (items : List Item) → AllByRecursion IsItem items → Each IsSlot (map item_slot items)
small_items [] h = tt
small_items (x ∷ xs) h = (record { size = h.0.size; load = h.0.place }, small_items xs h.1)

pub pivots_total : (pivots : List Pivot) → slots_size (map pivot_slot pivots) ≡ total pivot_size pivots
pivots_total [] = refl
pivots_total (x ∷ xs) = omega (arith, pivots_total xs)

small_pivots : (pivots : List Pivot) → AllByRecursion IsPivot pivots → Each IsSlot (map pivot_slot pivots)
small_pivots [] h = tt
small_pivots (x ∷ xs) h = (record { size = omega (arith, h.0.size); load = h.0.child }, small_pivots xs h.1)

pub leaf_few : (items : List Item) (slots : List Slot) → slots ≡ map item_slot items → IsLeaf items → Each IsSlot slots × (slots_size slots ≤ 5440)
leaf_few items slots e h = (subst (Each IsSlot) (sym e) (small_items items h.each), omega (arith, ap slots_size e, items_size items, h.room))

pub branch_few : (low : List ℕ) (pivots : List Pivot) (slots : List Slot) → slots ≡ map pivot_slot (under_key low pivots) → IsBranch pivots
    → 6 + length low ≤ 1360
    → Each IsSlot slots × (slots_size slots ≤ 5440)
branch_few low [] slots e h little = absurd (omega (arith, h.some))
branch_few low (x ∷ xs) slots e h little =
    let size : 4 + total pivot_size xs ≤ 4080 = h.room in
    let one : IsSlot (pivot_slot (record { key = low; child = x.child })) = record { size = omega arith; load = h.each.0.child } in
    (subst (Each IsSlot) (sym e) (one, small_pivots xs h.each.1), omega (arith, ap slots_size e, pivots_total xs))

-- ---- pages that are written

pub one_page : (old new : Store) (loose_slots : List LooseSlot) (first loose_slot : LooseSlot) (key : List ℕ) (page : ℕ) (content : Content)
    → IsMade old new page content
    → 0 < length loose_slots → first ≡ get_or loose_slots 0 first → key ≡ first.key.items
    → slot_in loose_slot ≡ pivot_slot (record { key = key; child = page }) → page < 4294967296
    → IsOnePage old new (map slot_in loose_slots) (slot_in loose_slot)
one_page old new loose_slots first loose_slot key page content m some here same is range =
    record {
      made = omega (arith, ap length m.made);
      child = subst (λ (s : Slot). IsChild s.load) (sym is) tt;
      small = λ h. subst IsSlot (sym is)
          (record {
            size = (let one : IsSlot (slot_in first) = (subst (Each IsSlot) (first_here loose_slots first some here) h).0 in omega
                (arith, one.size, ap length same));
            load = range;
          });
    }

pub record AreFewSoFar (old new : Store) (bytes : ℕ) (above rest : List Slot) : Type 0 where
  pub made : length new.made ≡ length old.made + length above
  pub so_far : AreSoFar bytes (length above) rest
  pub children : Each (λ s. IsChild s.load) above
  pub small_above : Each IsSlot above
  pub small : Each IsSlot rest

pub few_none : (s : Store) (rest : List Slot) → Each IsSlot rest → AreFewSoFar s s (slots_size rest) [] rest
few_none s rest h = record { made = omega arith; so_far = inl (omega arith); children = tt; small_above = tt; small = h }

each_take : (n : ℕ) (ss : List Slot) → Each IsSlot ss → Each IsSlot (take n ss)
each_take zero ss h = tt
each_take (suc n) [] h = tt
each_take (suc n) (s ∷ ss) h = (h.0, each_take n ss h.1)

pub few_step : (old mid new : Store) (bytes at : ℕ) (above above' rest part behind : List LooseSlot) (loose_slot : LooseSlot) → 0 < length rest
    → AreFewSoFar old mid bytes (map slot_in above) (map slot_in rest)
    → (Each IsSlot (map slot_in rest) → IsFullPart (map slot_in rest) at) → part ≡ take at rest → behind ≡ drop at rest
    → IsOnePage mid new (map slot_in part) (slot_in loose_slot)
    → map slot_in above' ≡ map slot_in above ++ slot_in loose_slot ∷ [] → AreFewSoFar old new bytes (map slot_in above') (map slot_in behind)
few_step old mid new bytes at above above' rest part behind loose_slot some p full part_is behind_is one pushed =
    let parts : map slot_in part ≡ take at (map slot_in rest) = ap (map slot_in) part_is ∙ map_take slot_in at rest in
    let others : map slot_in behind ≡ drop at (map slot_in rest) = ap (map slot_in) behind_is ∙ map_behind slot_in at rest in
    let longer : length (map slot_in above') ≡ length (map slot_in above) + 1 =
    omega (arith, ap length pushed, long_append (map slot_in above) (slot_in loose_slot ∷ [])) in
    record {
      made = omega (arith, one.made, p.made);
      so_far = subst (λ n. AreSoFar bytes n (map slot_in behind)) (sym longer) (subst (AreSoFar bytes (length (map slot_in above) + 1)) (sym others)
          (one_more bytes (length (map slot_in above)) at (map slot_in rest) (omega (arith, long_map slot_in rest)) p.so_far (full p.small)));
      children = subst (Each (λ s. IsChild s.load)) (sym pushed)
          (each_append (λ s. IsChild s.load) (map slot_in above) (slot_in loose_slot ∷ []) p.children (one.child, tt));
      small_above =
          subst (Each IsSlot) (sym pushed)
          (each_append IsSlot (map slot_in above) (slot_in loose_slot ∷ []) p.small_above
          (one.small (subst (Each IsSlot) (sym parts) (each_take at (map slot_in rest) p.small)), tt));
      small = subst (Each IsSlot) (sym others) (each_drop at (map slot_in rest) p.small);
    }

-- writing stops
pub few_stopped : (old mid new : Store) (bytes : ℕ) (above rest : List Slot) → AreFewSoFar old mid bytes above rest → MakesUpTo mid new 0
    → WritesUpTo old new bytes
few_stopped old mid new bytes above rest p none = omega (arith, so_far_most bytes (length above) rest p.so_far, p.made, none)

-- the same behind one page more
pub few_stopped_later : (old mid new : Store) (bytes at : ℕ) (above rest part : List LooseSlot) (loose_slot : LooseSlot) → 0 < length rest
    → AreFewSoFar old mid bytes (map slot_in above) (map slot_in rest) → (Each IsSlot (map slot_in rest) → IsFullPart (map slot_in rest) at)
    → IsOnePage mid new (map slot_in part) (slot_in loose_slot) → WritesUpTo old new bytes
few_stopped_later old mid new bytes at above rest part loose_slot some p full one =
    let more = one_more bytes (length (map slot_in above)) at (map slot_in rest) (omega (arith, long_map slot_in rest)) p.so_far (full p.small) in
    omega (arith, so_far_most bytes (length (map slot_in above) + 1) (drop at (map slot_in rest)) more, p.made, one.made)

pub few_done : (old new : Store) (bytes : ℕ) (above rest : List Slot) → AreFewSoFar old new bytes above rest → length rest ≡ 0 → AreFewPages old new bytes above
few_done old new bytes above rest p none = record
    { made = p.made; few = all_written bytes (length above) rest none p.so_far; children = p.children; small = p.small_above }

pub few_of_leaf : (r : Result (Vec LooseSlot Global) TreeFault) (items : List Item)
    → IfOk r (λ loose_slots. map slot_in loose_slots.items ≡ map item_slot items) → IsLeaf items
    → IfOk r (λ loose_slots. Each IsSlot (map slot_in loose_slots.items) × (slots_size (map slot_in loose_slots.items) ≤ 5440))
few_of_leaf (Ok loose_slots) items e h = leaf_few items (map slot_in loose_slots.items) e h
few_of_leaf (Err f) items e h = tt

pub few_of_branch : (r : Result (Vec LooseSlot Global) TreeFault) (low : List ℕ) (pivots : List Pivot)
    → IfOk r (λ loose_slots. map slot_in loose_slots.items ≡ map pivot_slot (under_key low pivots)) → IsBranch pivots → 6 + length low ≤ 1360
    → IfOk r (λ loose_slots. Each IsSlot (map slot_in loose_slots.items) × (slots_size (map slot_in loose_slots.items) ≤ 5440))
few_of_branch (Ok loose_slots) low pivots e h little = branch_few low pivots (map slot_in loose_slots.items) e h little
few_of_branch (Err f) low pivots e h little = tt
