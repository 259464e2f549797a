-- How many pages cells and children take.
use Rattle.std.proofs.Common.{◌≡◌, ℕ, zero, suc, ◌+◌, ◌-◌, ◌*◌, ◌/◌, ◌^◌, ◌<◌, ◌≤◌, ◌⊎◌, List, [], ◌∷◌, ◌++◌, length, map, take, drop, get_or}
use Rattle.std.proofs.Common.{Result, Ok, Err, refl, sym, ap, ◌∙◌, subst, arith, append_assoc, if◌then◌else◌, inl, inr}
use Rattle.std.specs.List.{insert, remove}
use Rattle.std.proofs.lemmas.Bool.{lt-leb}
use Rattle.std.proofs.lemmas.List.{length-drop}
use Rattle.std.specs.Prelude.{MatchResult}
use Rattle.std.specs.Result.{IfOk, IsErrAnd}
use Rattle.page.specs.Content.{Pivot, IsBranch, IsItem, Item, item_size, total}
use Rattle.btree.specs.declared.node.LooseNode.{LooseNode}
use Rattle.btree.specs.declared.node.LooseSlot.{LooseSlot}
use Rattle.tree_model.specs.declared.pages.TreeFault.{TreeFault}
use Rattle.page.specs.declared.cells.Cell.{Cell}
use Rattle.btree.specs.LooseView.{slot_in}
use Rattle.tree_model.specs.View.{item_in}
use Rattle.tree_model.specs.Calls.{IsChained}
use Rattle.tree_model.specs.Tree.{HasLinks}
use Rattle.tree_model.specs.Keys.{edit_keys}
use Rattle.tree_model.specs.Keys.{Each, Edit, Entry, IsNotUnder, IsUnder, Rises, sum_of}
use Rattle.btree.specs.Loose.{IsChild, IsSlot, Slot, pivot_slot, item_slot, slot_size, slots_size, under_key}
use Rattle.btree.specs.Few.{AreFewJoined, AreFewPages, AreFewSettled, AreNotJoined, AreNotSettled, EndsFew, EndsFewOrOne, EndsJoined, EndsSettled}
use Rattle.btree.specs.Few.{EndsTop, IsFew, IsFewOrOne, IsLittle, IsOneChild, MakesUpTo, WritesUpTo, chain_pages, edit_pages, levels_of}
use Rattle.tree_model.specs.Reach.{HasMap, HasTree}
use Rattle.tree_model.specs.Store.{IsSame, Store}
use Rattle.btree.specs.Turn.{NodeModel, model_in}
use Rattle.tree_model.specs.EditView.{edit_in}
use Rattle.btree.proofs.EditLemmas.{edits_more}
use Rattle.tree_model.proofs.ListLemmas.{each_append, each_back, each_front, get_here, long_append, long_map}
use Rattle.btree.proofs.HeldLemmas.{under_long}
use Rattle.btree.proofs.FewParts.{both_size, size_many, items_size}
use Rattle.tree_model.specs.declared.edit.Edit.{Edit as ProgramEdit}

-- a fault, whatever it is
pub stopped : {X : Type 0} (P : X → Type 0) (Q : Type 0) (R : TreeFault → Type 0) (r : Result X TreeFault) → IsErrAnd r R → Q → MatchResult r P (λ e. Q)
stopped P Q R (Ok x) is q = absurd is
stopped P Q R (Err e) is q = q

-- ---- what is joined

pub few_parts : (old new : Store) (bytes : ℕ) (above : List Slot) → AreFewPages old new bytes above → bytes ≤ 10880
    → (length above ≤ 4) × (slots_size above ≤ 5440)
few_parts old new bytes above f le =
    let few : length above ≤ 4 = omega (arith, f.few) in
    (few, omega (arith, size_many above f.small))

pub few_concat : (old new : Store) (rank bytes pages : ℕ) (a b : NodeModel) (r : Result LooseNode TreeFault) → a.rank ≡ rank → IfOk r (λ l. l.rank ≡ a.rank)
    → IfOk r (λ l. map slot_in l.loose_slots.items ≡ a.slots ++ b.slots)
    → Each IsSlot a.slots → Each IsSlot b.slots → slots_size a.slots + slots_size b.slots ≤ bytes → MakesUpTo old new pages
    → EndsFew old new rank bytes pages r
few_concat old new rank bytes pages a b (Err e) at same both ha hb le made = made
few_concat old new rank bytes pages a b (Ok l) at same both ha hb le made =
    record {
      rank_is = same ∙ at;
      small = subst (Each IsSlot) (sym both) (each_append IsSlot a.slots b.slots ha hb);
      size = omega (arith, ap slots_size both, both_size a.slots b.slots);
      made = made;
    }

-- one of the ends
abbrev pub IsOff : List Slot → List Slot → Slot → Type 0
IsOff all others s = Each IsSlot others × (slots_size others ≤ slots_size all) × (6 + length s.key ≤ 1360)

pub off_last : (all front : List Slot) (s : Slot) → all ≡ front ++ s ∷ [] → Each IsSlot all → IsOff all front s
off_last all front s e h =
    let parts = subst (Each IsSlot) e h in
    let one : slot_size s ≤ 1360 = (each_back IsSlot front (s ∷ []) parts).0.size in
    (each_front IsSlot front (s ∷ []) parts, omega (arith, ap slots_size e, both_size front (s ∷ [])), omega arith)

pub off_first : (all back : List Slot) (s : Slot) → all ≡ s ∷ back → Each IsSlot all → IsOff all back s
off_first all back s e h =
    let parts = subst (Each IsSlot) e h in
    let one : slot_size s ≤ 1360 = parts.0.size in
    (parts.1, omega (arith, ap slots_size e), omega arith)

pub few_on : (old mid new : Store) (rank rank' bytes bytes' pages pages' more : ℕ) (r : Result LooseNode TreeFault) → MakesUpTo old mid more
    → EndsFew mid new rank bytes pages r → rank ≡ rank' → bytes ≤ bytes' → more + pages ≤ pages' → EndsFew old new rank' bytes' pages' r
few_on old mid new rank rank' bytes bytes' pages pages' more (Err e) m f same wide le = omega (arith, m, f)
few_on old mid new rank rank' bytes bytes' pages pages' more
    (Ok l) m f same wide le = record { rank_is = f.rank_is ∙ same; small = f.small; size = omega (arith, f.size); made = omega (arith, m, f.made) }

pub few_or_one_on : (old mid new : Store) (rank bytes bytes' pages pages' more : ℕ) (r : Result LooseNode TreeFault) → MakesUpTo old mid more
    → EndsFewOrOne mid new rank bytes pages r → bytes ≤ bytes' → more + pages ≤ pages' → EndsFewOrOne old new rank bytes' pages' r
few_or_one_on old mid new rank bytes bytes' pages pages' more (Err e) m f wide le = omega (arith, m, f)
few_or_one_on old mid new rank bytes bytes' pages pages' more (Ok l) m (inl f) wide le =
    inl (record { rank_is = f.rank_is; small = f.small; size = omega (arith, f.size); made = omega (arith, m, f.made) })
few_or_one_on old mid new rank bytes bytes' pages pages' more (Ok l) m (inr f) wide le =
    inr (record { rank_is = f.rank_is; small = f.small; size = f.size; made = omega (arith, m, f.made) })

pub few_small : (old new : Store) (rank bytes pages : ℕ) (model : NodeModel) → IsFewOrOne old new rank bytes pages model → Each IsSlot model.slots
few_small old new rank bytes pages model (inl f) = f.small
few_small old new rank bytes pages model (inr f) = f.small

pub few_alone : (old new : Store) (rank bytes pages : ℕ) (r : Result LooseNode TreeFault) → EndsFew old new rank bytes pages r
    → EndsFewOrOne old new rank bytes pages r
few_alone old new rank bytes pages (Err e) f = omega (arith, f)
few_alone old new rank bytes pages (Ok l) f = inl f

pub few_made : (old new : Store) (rank bytes pages : ℕ) (model : NodeModel) → IsFewOrOne old new rank bytes pages model → MakesUpTo old new (pages + 1)
few_made old new rank bytes pages model (inl f) = omega (arith, f.made)
few_made old new rank bytes pages model (inr f) = f.made

-- one page is written of what is below a child and beside it
pub few_above_one : (first old new : Store) (rank count : ℕ) (below : NodeModel) (r : Result LooseNode TreeFault) → 0 < rank
    → IsFewOrOne first old (rank - 1) 10880 (4 * (rank - 1) + count) below → EndsFew old new (rank + 1) 1360 1 r
    → EndsFewOrOne first new rank 10880 (4 * rank + count) r
few_above_one first old new rank count below (Err e) deep few f =
    omega (arith, few_made first old (rank - 1) 10880 (4 * (rank - 1) + count) below few, f)
few_above_one first old new rank count below (Ok l) deep few f = inr (record {
  rank_is = f.rank_is;
  small = f.small;
  size = f.size;
  made = omega (arith, few_made first old (rank - 1) 10880 (4 * (rank - 1) + count) below few, f.made);
})

pub not_joined_none : (old new : Store) (bytes : ℕ) (left right : NodeModel) → MakesUpTo old new 0 → AreNotJoined old new bytes left right
not_joined_none old new bytes left right m =
    record { level = λ e. m; behind = λ e some le. omega (arith, m); before = λ e some le. omega (arith, m) }

pub not_settled_none : (old new : Store) (left below right : NodeModel) → MakesUpTo old new 0 → AreNotSettled old new left below right
not_settled_none old new left below right m = record { level = λ e deep. m; lower = λ e deep more le. omega (arith, m) }

pub few_left_gone : (s : Store) (bytes : ℕ) (left right : NodeModel) → length left.slots ≡ 0 → Each IsSlot right.slots → AreFewJoined s s bytes left right right
few_left_gone s bytes left right none h =
    record {
      level = λ e. record { rank_is = sym e; small = h; size = omega arith; made = omega arith };
      behind = λ e some le. absurd (omega arith);
      before = λ e some le. record { rank_is = refl; small = h; size = omega arith; made = omega arith };
    }

pub few_right_gone : (s : Store) (bytes : ℕ) (left right : NodeModel) → length right.slots ≡ 0 → Each IsSlot left.slots → AreFewJoined s s bytes left right left
few_right_gone s bytes left right none h =
    record {
      level = λ e. record { rank_is = refl; small = h; size = omega arith; made = omega arith };
      behind = λ e some le. record { rank_is = refl; small = h; size = omega arith; made = omega arith };
      before = λ e some le. absurd (omega arith);
    }

module _ (old new : Store) (bytes : ℕ) (left right : NodeModel) where
  pub few_level : (r : Result LooseNode TreeFault) → left.rank ≡ right.rank
      → EndsFew old new left.rank (slots_size left.slots + slots_size right.slots) 0 r → EndsJoined bytes old new left right r
  few_level (Err e) at f = record { level = λ e. f; behind = λ e some le. absurd (omega arith); before = λ e some le. absurd (omega arith) }
  few_level (Ok l) at f = record { level = λ e. f; behind = λ e some le. absurd (omega arith); before = λ e some le. absurd (omega arith) }

  pub few_behind : (r : Result LooseNode TreeFault) → right.rank < left.rank
      → (left.rank ≡ right.rank + 1 → slots_size right.slots ≤ bytes → EndsFew old new left.rank (slots_size left.slots + 5440) 4 r)
      → EndsJoined bytes old new left right r
  few_behind (Err e) at f = record { level = λ e. absurd (omega arith); behind = λ e some le. f e le; before = λ e some le. absurd (omega arith) }
  few_behind (Ok l) at f = record { level = λ e. absurd (omega arith); behind = λ e some le. f e le; before = λ e some le. absurd (omega arith) }

  pub few_before : (r : Result LooseNode TreeFault) → left.rank < right.rank
      → (left.rank + 1 ≡ right.rank → slots_size left.slots ≤ bytes → EndsFew old new right.rank (slots_size right.slots + 5440) 4 r)
      → EndsJoined bytes old new left right r
  few_before (Err e) at f = record { level = λ e. absurd (omega arith); behind = λ e some le. absurd (omega arith); before = λ e some le. f e le }
  few_before (Ok l) at f = record { level = λ e. absurd (omega arith); behind = λ e some le. absurd (omega arith); before = λ e some le. f e le }

-- what is less than a page of its own
pub few_wider : (old new : Store) (left right : NodeModel) (r : Result LooseNode TreeFault) → (left.rank ≡ right.rank + 1 → slots_size right.slots ≤ 5440)
    → (left.rank + 1 ≡ right.rank → slots_size left.slots ≤ 5440)
    → EndsJoined 5440 old new left right r → EndsJoined 10880 old new left right r
few_wider old new left right (Err e) a b f =
    record { level = f.level; behind = λ e some le. f.behind e some (a e); before = λ e some le. f.before e some (b e) }
few_wider old new left right (Ok l) a b f = record { level = f.level; behind = λ e some le. f.behind e some (a e); before = λ e some le. f.before e some (b e) }

-- ---- edits of cells

pub removed_size : (cells : List Cell) (i : ℕ) → total item_size (map item_in (remove cells i)) ≤ total item_size (map item_in cells)
removed_size [] zero = omega arith
removed_size [] (suc i) = omega arith
removed_size (x ∷ xs) zero = omega arith
removed_size (x ∷ xs) (suc i) = omega (arith, removed_size xs i)

pub inserted_size : (cells : List Cell) (i : ℕ) (c : Cell)
    → total item_size (map item_in (insert cells i c)) ≤ total item_size (map item_in cells) + item_size (item_in c)
inserted_size [] zero c = omega arith
inserted_size [] (suc i) c = omega arith
inserted_size (x ∷ xs) zero c = omega arith
inserted_size (x ∷ xs) (suc i) c = omega (arith, inserted_size xs i c)

links_many : (s : Store) (links bytes : List ℕ) → HasLinks s links bytes → 4076 * length links ≤ length bytes + 4075
links_many s [] bytes h = omega arith
links_many s (page ∷ pages) bytes h = omega (arith, links_many s pages (drop 4076 bytes) h.2, length-drop 4076 bytes, h.0)

-- a last part of a value was written, or all of it
pub chain_few : (old new : Store) (value part : List ℕ) (page : ℕ) → 330 < length value → length part ≤ length value → IsChained old new part page
    → MakesUpTo old new (chain_pages value)
chain_few old new value part page long short c =
    let many = links_many new c.links part c.has in
    let no = lt-leb (length value) 330 long in
    subst (λ b. length new.made ≤ length old.made + (if b then 0 else (length value + 4075) / 4076)) (sym no) (omega (arith, c.count, many))

pub costs_on : (old mid new : Store) (a b pages : ℕ) → MakesUpTo old mid a → MakesUpTo mid new b → a + b ≤ pages → MakesUpTo old new pages
costs_on old mid new a b pages m f le = omega (arith, m, f)

-- a fault by which nothing was made
pub same_few : (old mid new : Store) (pages : ℕ) → MakesUpTo old mid pages → IsSame mid new → MakesUpTo old new pages
same_few old mid new pages m same = omega (arith, m, ap length same.made)

pub sum_both : {X : Type 0} (f : X → ℕ) (xs ys : List X) → sum_of f (xs ++ ys) ≡ sum_of f xs + sum_of f ys
sum_both f [] ys = omega arith
sum_both f (x ∷ xs) ys = omega (arith, sum_both f xs ys)

sum_some : {X : Type 0} (f : X → ℕ) (n : ℕ) (xs : List X) → sum_of f (take n xs) ≤ sum_of f xs
sum_some f zero xs = omega arith
sum_some f (suc n) [] = omega arith
sum_some f (suc n) (x ∷ xs) = omega (arith, sum_some f n xs)

pub grown_on : {X : Type 0} (before between after : ℕ) (r : Result X TreeFault) → between ≤ before → IfOk r (λ done. after ≤ between + 1360)
    → IfOk r (λ done. after ≤ before + 1360)
grown_on before between after (Err e) le f = tt
grown_on before between after (Ok x) le f = omega (arith, f)

sum_more : {X : Type 0} (f : X → ℕ) (xs : List X) (x : X) → sum_of f (xs ++ x ∷ []) ≡ sum_of f xs + f x
sum_more f [] x = omega arith
sum_more f (y ∷ ys) x = omega (arith, sum_more f ys x)

pub edits_few : (old mid new : Store) (es : List ProgramEdit) (i : ℕ) (d : ProgramEdit) → i < length es
    → MakesUpTo old mid (sum_of edit_pages (take i (map edit_in es))) → MakesUpTo mid new (edit_pages (edit_in (get_or es i d)))
    → MakesUpTo old new (sum_of edit_pages (take (i + 1) (map edit_in es)))
edits_few old mid new es i d lt before more =
    omega (arith, before, more, ap (sum_of edit_pages) (edits_more es i d lt), sum_more edit_pages (take i (map edit_in es)) (edit_in (get_or es i d)))

-- of some edits the last one was made or failed
pub edits_failed : (old mid new : Store) (es : List ProgramEdit) (i : ℕ) (d : ProgramEdit) → i < length es
    → MakesUpTo old mid (sum_of edit_pages (take i (map edit_in es))) → MakesUpTo mid new (edit_pages (edit_in (get_or es i d)))
    → MakesUpTo old new (sum_of edit_pages (map edit_in es))
edits_failed old mid new es i d lt before more = omega (arith, edits_few old mid new es i d lt before more, sum_some edit_pages (i + 1) (map edit_in es))

slots_of_items : (items : List Item) → Each IsItem items → Each IsSlot (map item_slot items)
slots_of_items [] h = tt
slots_of_items (x ∷ xs) h = (record { size = h.0.size; load = h.0.place }, slots_of_items xs h.1)

pub cells_few : (items cells leaf : List Item) (slots : List Slot) (n : ℕ) → slots ≡ map item_slot items → Each IsItem items → cells ≡ leaf
    → total item_size items ≤ total item_size cells + 1360 * n → total item_size leaf ≤ 4080 → n ≤ 1
    → Each IsSlot slots × (slots_size slots ≤ 5440)
cells_few items cells leaf slots n e h same grown room one =
    (subst (Each IsSlot) (sym e) (slots_of_items items h), omega (arith, ap slots_size e, items_size items, ap (total item_size) same))

pub branch_two : (low : List ℕ) (pivots : List Pivot) (loose_slots : List LooseSlot) → map slot_in loose_slots ≡ map pivot_slot (under_key low pivots)
    → IsBranch pivots → 2 ≤ length loose_slots
branch_two low pivots loose_slots e h = omega (arith, h.some, under_long low pivots, ap length e, long_map slot_in loose_slots)

-- ---- one edit of a branch's children

-- the one edit belongs to the child, and none to those before it
pub record IsMine (es theirs mine : List ProgramEdit) : Type 0 where
  pub none : length theirs ≡ 0
  pub one : length mine ≡ 1
  pub same : map edit_in es ≡ map edit_in mine

pub all_mine : (es theirs mine : List ProgramEdit) (loose_slots all : List LooseSlot) (left right : List Slot) (loose_slot : Slot) (key : List ℕ) (at : ℕ)
    (d : ProgramEdit)
    → length es ≡ 1 → map edit_in es ≡ map edit_in theirs ++ map edit_in mine
    → (Rises (edit_keys (map edit_in es)) → Each (λ (e : Edit). IsUnder e.key key) (map edit_in theirs)) → loose_slots ≡ all
    → map slot_in all ≡ (left ++ loose_slot ∷ []) ++ right → key ≡ loose_slot.key → length left ≡ at
    → ((s : Slot) → 0 < at → IsNotUnder (get_or es (length es - 1) d).key.now (get_or (map slot_in loose_slots) at s).key) → (0 < length theirs → 0 < at)
    → IsMine es theirs mine
all_mine [] theirs mine loose_slots all left right loose_slot key at d one e before same_loose_slots parts key_is long here some = absurd (omega arith)
all_mine (x ∷ y ∷ ys) theirs mine loose_slots all left right loose_slot key at d one e before same_loose_slots parts key_is long here some = absurd
    (omega arith)
all_mine (x ∷ []) [] mine loose_slots all left right loose_slot key at d one e before same_loose_slots parts key_is long here some = record
    { none = refl; one = omega (arith, ap length e, long_map edit_in mine); same = e }
all_mine (x ∷ []) (t ∷ ts) mine loose_slots all left right loose_slot key at d one e before same_loose_slots parts key_is long here some =
    let under : IsUnder t.key.now key = (before (tt, tt)).0 in
    let same : t.key.now ≡ x.key.now = sym (ap (λ (zs : List Edit). (get_or zs 0 (edit_in t)).key) e) in
    let parts' : map slot_in loose_slots ≡ left ++ loose_slot ∷ right = ap (map slot_in) same_loose_slots ∙ parts ∙ append_assoc left (loose_slot ∷ []) right in
    let there : get_or (map slot_in loose_slots) at loose_slot ≡ loose_slot =
    ap (λ ss. get_or ss at loose_slot) parts' ∙ ap (λ n. get_or (left ++ loose_slot ∷ right) n loose_slot) (sym long)
    ∙ get_here left loose_slot right loose_slot in
    absurd (here loose_slot (some (omega arith))
    (subst (IsUnder x.key.now) (key_is ∙ ap (λ (s : Slot). s.key) (sym there)) (subst (λ k. IsUnder k key) same under)))

pub loose_slot_little : (all left right : List Slot) (loose_slot : Slot) (key : List ℕ) → all ≡ (left ++ loose_slot ∷ []) ++ right → Each IsSlot all
    → key ≡ loose_slot.key
    → 6 + length key ≤ 1360
loose_slot_little all left right loose_slot key parts h same =
    let one : slot_size loose_slot ≤ 1360 =
    (each_back IsSlot left (loose_slot ∷ []) (each_front IsSlot (left ++ loose_slot ∷ []) right (subst (Each IsSlot) parts h))).0.size in
    omega (arith, ap length same)

pub zero_or : (n : ℕ) → (n ≡ 0) ⊎ (0 < n)
zero_or zero = inl refl
zero_or (suc n) = inr (omega arith)

-- what was put back among its neighbours, first to the left
pub few_left_first : (old mid c new : Store) (left below right : NodeModel) (front : LooseNode) (r : Result LooseNode TreeFault) → MakesUpTo old mid 0
    → 0 < length left.slots
    → Each IsSlot right.slots → AreFewJoined mid c 10880 left below (model_in front)
    → (0 < length right.slots → Each IsSlot (map slot_in front.loose_slots.items) → EndsJoined 10880 c new (model_in front) right r)
    → (length right.slots ≡ 0 → MatchResult r (λ l. (l ≡ front) × MakesUpTo c new 0) (λ e. MakesUpTo c new 0)) → EndsSettled old new left below right r
few_left_first old mid c new left below right front (Err e) same some small j on none =
    record {
      level = λ e deep. further left.rank (slots_size left.slots + slots_size below.slots) 0 (j.level (omega arith)) e;
      lower = λ e deep more le. further left.rank (slots_size left.slots + 5440) 4 (j.behind (omega arith) some le) e;
    }
  where
    further : (rank bytes pages : ℕ) → IsFew mid c rank bytes pages (model_in front) → rank ≡ right.rank → MakesUpTo old new pages
    further rank bytes pages f e = elim (zero_or (length right.slots)) [
      | inl gone ↦ (let n = none gone in omega (arith, same, f.made, n))
      | inr there ↦ (let t = (on there f.small).level (f.rank_is ∙ e) in omega (arith, same, f.made, t))
    ]
few_left_first old mid c new left below right front (Ok l) same some small j on none =
    record {
      level = λ e deep. further left.rank (slots_size left.slots + slots_size below.slots) 0 (j.level (omega arith)) e (omega arith);
      lower = λ e deep more le. further left.rank (slots_size left.slots + 5440) 4 (j.behind (omega arith) some le) e (omega arith);
    }
  where
    further : (rank bytes pages : ℕ) {all : ℕ} → IsFew mid c rank bytes pages (model_in front) → rank ≡ right.rank → bytes + slots_size right.slots ≤ all
        → IsFew old new rank all pages (model_in l)
    further rank bytes pages f e le = elim (zero_or (length right.slots)) [
      | inl gone ↦ (let n = none gone in
          record {
            rank_is = ap (λ (x : LooseNode). x.rank) n.0 ∙ f.rank_is;
            small = subst (λ (x : LooseNode). Each IsSlot (map slot_in x.loose_slots.items)) (sym n.0) f.small;
            size = omega (arith, f.size, le, ap (λ (x : LooseNode). slots_size (map slot_in x.loose_slots.items)) n.0);
            made = omega (arith, same, f.made, n.1);
          })
      | inr there ↦ (let t = (on there f.small).level (f.rank_is ∙ e) in
          record { rank_is = t.rank_is ∙ f.rank_is; small = t.small; size = omega (arith, t.size, f.size, le); made = omega (arith, same, f.made, t.made) })
    ]

-- the first of the two failed
pub few_left_failed : (old mid new : Store) (left below right : NodeModel) → MakesUpTo old mid 0 → 0 < length left.slots → AreNotJoined mid new 10880 left below
    → AreNotSettled old new left below right
few_left_failed old mid new left below right same some j = record {
  level = λ e deep. let m = j.level (omega arith) in omega (arith, same, m);
  lower = λ e deep more le. let m = j.behind (omega arith) some le in omega (arith, same, m);
}

-- the same, first to the right
pub few_right_failed : (old mid new : Store) (left below right : NodeModel) → MakesUpTo old mid 0
    → (0 < length right.slots → AreNotJoined mid new 10880 below right) → (length right.slots ≡ 0 → MakesUpTo mid new 0)
    → AreNotSettled old new left below right
few_right_failed old mid new left below right same on none = record {
  level = λ e deep. elim (zero_or (length right.slots)) [
    | inl gone ↦ (let m = none gone in omega (arith, same, m))
    | inr there ↦ (let m = (on there).level (omega arith) in omega (arith, same, m))
  ];
  lower = λ e deep more le. elim (zero_or (length right.slots)) [
    | inl gone ↦ (let m = none gone in omega (arith, same, m))
    | inr there ↦ (let m = (on there).before (omega arith) there le in omega (arith, same, m))
  ];
}

pub few_right_first : (old mid c new : Store) (left below right back : NodeModel) (r : Result LooseNode TreeFault) → MakesUpTo old mid 0
    → Each IsSlot left.slots
    → Each IsSlot below.slots → (0 < length right.slots → AreFewJoined mid c 10880 below right back)
    → (length right.slots ≡ 0 → (back ≡ below) × MakesUpTo mid c 0)
    → (Each IsSlot back.slots → EndsJoined 10880 c new left back r) → EndsSettled old new left below right r
few_right_first old mid c new left below right back (Err e) same small below_small on none j =
    record {
      level = λ e deep. elim (zero_or (length right.slots)) [
        | inl gone ↦ (let n = none gone in
            let t = (alone n.0).level (omega arith) in
            omega (arith, same, n.1, t))
        | inr there ↦ (let m = (on there).level (omega arith) in
            let t = (j m.small).level (omega (arith, m.rank_is)) in
            omega (arith, same, m.made, t))
      ];
      lower = λ e deep more le. elim (zero_or (length right.slots)) [
        | inl gone ↦ (let n = none gone in
            let t = (alone n.0).behind (omega arith) (omega arith) le in
            omega (arith, same, n.1, t))
        | inr there ↦ (let m = (on there).before (omega arith) there le in
            let t = (j m.small).level (omega (arith, m.rank_is)) in
            omega (arith, same, m.made, t))
      ];
    }
  where
    alone : back ≡ below → AreNotJoined c new 10880 left below
    alone is = subst (λ x. AreNotJoined c new 10880 left x) is (j (subst (λ (x : NodeModel). Each IsSlot x.slots) (sym is) below_small))
few_right_first old mid c new left below right back (Ok l) same small below_small on none j =
    record {
      level = λ e deep. elim (zero_or (length right.slots)) [
        | inl gone ↦ (let n = none gone in
            let t = (alone n.0).level (omega arith) in
            record { rank_is = t.rank_is; small = t.small; size = omega (arith, t.size); made = omega (arith, same, n.1, t.made) })
        | inr there ↦ (let m = (on there).level (omega arith) in
            let t = (j m.small).level (omega (arith, m.rank_is)) in
            record { rank_is = t.rank_is; small = t.small; size = omega (arith, t.size, m.size); made = omega (arith, same, m.made, t.made) })
      ];
      lower = λ e deep more le. elim (zero_or (length right.slots)) [
        | inl gone ↦ (let n = none gone in
            let t = (alone n.0).behind (omega arith) (omega arith) le in
            record { rank_is = t.rank_is; small = t.small; size = omega (arith, t.size); made = omega (arith, same, n.1, t.made) })
        | inr there ↦ (let m = (on there).before (omega arith) there le in
            let t = (j m.small).level (omega (arith, m.rank_is)) in
            record { rank_is = t.rank_is; small = t.small; size = omega (arith, t.size, m.size); made = omega (arith, same, m.made, t.made) })
      ];
    }
  where
    alone : back ≡ below → AreFewJoined c new 10880 left below (model_in l)
    alone is = subst (λ x. AreFewJoined c new 10880 left x (model_in l)) is (j (subst (λ (x : NodeModel). Each IsSlot x.slots) (sym is) below_small))

-- the children of a branch, of which one was changed
module _ (old a b new : Store) (node left right below front : NodeModel) (loose_slot : Slot) (pages : ℕ)
    (parts : node.slots ≡ (left.slots ++ loose_slot ∷ []) ++ right.slots) (left_rank : left.rank ≡ node.rank) (right_rank : right.rank ≡ node.rank)
    (deep : 0 < node.rank) (little : IsLittle 5440 node) (two : 2 ≤ length node.slots) (front_is : front ≡ left) (same : MakesUpTo a b 0) where
  parts_size : slots_size left.slots + (slot_size loose_slot + slots_size right.slots) ≡ slots_size node.slots
  parts_size = omega (arith, ap slots_size parts, both_size (left.slots ++ loose_slot ∷ []) right.slots, both_size left.slots (loose_slot ∷ []))

  parts_long : length left.slots + (1 + length right.slots) ≡ length node.slots
  parts_long = omega (arith, ap length parts, long_append (left.slots ++ loose_slot ∷ []) right.slots, long_append left.slots (loose_slot ∷ []))

  front_small : Each IsSlot (left.slots ++ loose_slot ∷ [])
  front_small = each_front IsSlot (left.slots ++ loose_slot ∷ []) right.slots (subst (Each IsSlot) parts little.0)

  left_small : Each IsSlot left.slots
  left_small = each_front IsSlot left.slots (loose_slot ∷ []) front_small

  right_small : Each IsSlot right.slots
  right_small = each_back IsSlot (left.slots ++ loose_slot ∷ []) right.slots (subst (Each IsSlot) parts little.0)

  settled_few : (l : LooseNode) → IsFewOrOne old a (left.rank - 1) 10880 (4 * (left.rank - 1) + pages) below → AreFewSettled b new left below right (model_in l)
      → IsFew old new node.rank 10880 (4 * node.rank + pages) (model_in l)
  settled_few l (inl few) s =
      let f = s.lower (omega arith) (omega (arith, few.rank_is)) (omega (arith, parts_long)) few.size in
      record {
        rank_is = f.rank_is ∙ left_rank;
        small = f.small;
        size = omega (arith, f.size, parts_size, little.1);
        made = omega (arith, few.made, same, f.made);
      }
  settled_few l (inr one) s =
      let f = s.level (omega arith) (omega (arith, one.rank_is)) in
      record {
        rank_is = f.rank_is ∙ left_rank;
        small = f.small;
        size = omega (arith, f.size, one.size, parts_size, little.1);
        made = omega (arith, one.made, same, f.made);
      }

  unsettled_few : IsFewOrOne old a (left.rank - 1) 10880 (4 * (left.rank - 1) + pages) below → AreNotSettled b new left below right
      → MakesUpTo old new (4 * node.rank + pages)
  unsettled_few (inl few) s =
      let m = s.lower (omega arith) (omega (arith, few.rank_is)) (omega (arith, parts_long)) few.size in omega (arith, few.made, same, m)
  unsettled_few (inr one) s = let m = s.level (omega arith) (omega (arith, one.rank_is)) in omega (arith, one.made, same, m)

  pub children_few : IsFewOrOne old a (left.rank - 1) 10880 (4 * (left.rank - 1) + pages) below → (r : Result LooseNode TreeFault)
      → (Each IsSlot front.slots → Each IsSlot below.slots → Each IsSlot right.slots → EndsSettled b new front below right r)
      → EndsFew old new node.rank 10880 (4 * node.rank + pages) r
  children_few few (Err e) s =
      unsettled_few few (subst (λ x. AreNotSettled b new x below right) front_is
      (s (subst (λ (x : NodeModel). Each IsSlot x.slots) (sym front_is) left_small) (few_small _ _ _ _ _ _ few) right_small))
  children_few few (Ok l) s =
      settled_few l few (subst (λ x. AreFewSettled b new x below right (model_in l)) front_is
      (s (subst (λ (x : NodeModel). Each IsSlot x.slots) (sym front_is) left_small) (few_small _ _ _ _ _ _ few) right_small))

-- ---- the whole tree

pub root_few : (old mid new : Store) (halvings : ℕ) (top above : List Slot) → slots_size top ≤ 2720 * 2 ^ halvings → 0 < length above
    → AreFewPages old mid (slots_size top) above
    → ((h : ℕ) → Each IsSlot above × (slots_size above ≤ 2720 * 2 ^ h) → MakesUpTo mid new (2 * 2 ^ h - 1)) → (IsOneChild above → MakesUpTo mid new 0)
    → MakesUpTo old new (2 * 2 ^ halvings - 1)
root_few old mid new zero top above le some f more alone =
    let one : length above ≤ 1 = omega (arith, f.few) in
    costs_on old mid new 1 0 (2 * 2 ^ zero - 1) (omega (arith, f.made)) (alone (omega arith, f.children)) (omega arith)
root_few old mid new (suc h) top above le some f more alone =
    let few : length above ≤ 2 * 2 ^ h = omega (arith, f.few) in
    costs_on old mid new (2 * 2 ^ h) (2 * 2 ^ h - 1) (2 * 2 ^ suc h - 1) (omega (arith, f.made)) (more h (f.small, omega (arith, size_many above f.small)))
    (omega arith)

-- and where those pages could not be written
pub raise_failed : (old new : Store) (halvings bytes : ℕ) → bytes ≤ 2720 * 2 ^ halvings → WritesUpTo old new bytes → MakesUpTo old new (2 * 2 ^ halvings - 1)
raise_failed old new zero bytes le w = omega (arith, w)
raise_failed old new (suc h) bytes le w =
    let some : 1 ≤ 2 ^ h = one_up h in
    let few : length new.made ≤ length old.made + 2 * 2 ^ h = omega (arith, w) in
    omega arith
  where
    one_up : (h : ℕ) → 1 ≤ 2 ^ h
    one_up zero = omega arith
    one_up (suc h) = omega (arith, one_up h)

pub not_alone : (ss : List Slot) → IsOneChild ss → ((s : Slot) → ss ≡ s ∷ [] → IsChild s.load → ⊥) → ⊥
not_alone [] one none = omega (arith, one.0)
not_alone (s ∷ t ∷ ts) one none = omega (arith, one.0)
not_alone (s ∷ []) one none = none s refl one.1.0

pub first_few : (old new : Store) (n chain : ℕ) (r : Result LooseNode TreeFault) → EndsFew old new 0 5440 chain r → EndsTop old new (4 * n + 3 + chain) r
first_few old new n chain (Err e) f = omega (arith, f)
first_few old new n chain (Ok l) f = record { halvings = 1; pages = chain; little = (f.small, f.size); made = f.made; enough = omega arith }

pub levels_few : (old new : Store) (root : ℕ) (pages : List ℕ) (entries : List Entry) (tree : HasMap old root pages entries) (below chain : ℕ)
    (r : Result LooseNode TreeFault) → (root ≡ 0 → ⊥)
    → ((t : HasTree old root pages entries) → below ≡ t.d) → EndsFewOrOne old new below 10880 (4 * below + chain) r
    → EndsTop old new (4 * levels_of tree + 3 + chain) r
levels_few old new root pages entries (inl none) below chain (Err e) some is f = absurd (some none.0)
levels_few old new root pages entries (inr t) below chain (Err e) some is f = omega (arith, f, is t)
levels_few old new root pages entries (inl none) below chain (Ok l) some is f = absurd (some none.0)
levels_few old new root pages entries (inr t) below chain (Ok l) some is (inr f) =
    record { halvings = 0; pages = 4 * below + chain + 1; little = (f.small, omega (arith, f.size)); made = f.made; enough = omega (arith, is t) }
levels_few old new root pages entries (inr t) below chain (Ok l) some is (inl f) =
    record { halvings = 2; pages = 4 * below + chain; little = (f.small, f.size); made = f.made; enough = omega (arith, is t) }
