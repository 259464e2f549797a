-- What was below one child, back among its neighbours.
use Rattle.std.proofs.Common.{◌≡◌, ℕ, zero, suc, ◌<◌, get_or, List, [], ◌∷◌, ◌++◌, length, map, Option, Result, sym, ap, ◌∙◌, subst, arith, append_assoc}
use Rattle.page.specs.Content.{Content}
use Rattle.btree.specs.declared.node.LooseNode.{LooseNode}
use Rattle.btree.specs.declared.node.LooseSlot.{LooseSlot}
use Rattle.tree_model.specs.declared.pages.TreeFault.{TreeFault}
use Rattle.tree_model.specs.Keys.{Entry, Pair, times}
use Rattle.btree.specs.Loose.{Slot, child, pair_slot, slots_of, subtree_slot}
use Rattle.btree.specs.LooseView.{slot_in}
use Rattle.tree_model.specs.Store.{Frame, IsAt, IsSame, Store}
use Rattle.tree_model.specs.Tree.{Body, Shows, Subtree, content_of}
use Rattle.btree.specs.Turn.{IsHeld, IsTurned, NodeModel, model_in}
use Rattle.btree.proofs.ChangingLemmas.{turned_on}
use Rattle.btree.proofs.CuttingLemmas.{at_slot}
use Rattle.btree.proofs.HeldLemmas.{IsTurn}
use Rattle.tree_model.proofs.ListLemmas.{long_map, times_append}
use Rattle.tree_model.proofs.StoreLemmas.{frame_same}

-- a child's page is there
no_child : (xs : List Pair) (i : ℕ) (t : Slot) (page : ℕ) → i < length (map pair_slot xs) → (get_or (map pair_slot xs) i t).load ≡ child page → ⊥
no_child [] i t page lt e = absurd (omega arith)
no_child (x ∷ xs) zero t page lt e = cc
no_child (x ∷ xs) (suc i) t page lt e = no_child xs i t page (omega arith) e

at_child : (s : Store) (d : ℕ) (ws : List (Subtree (Body d))) (i : ℕ) (t : Slot) (page : ℕ) → Shows s (suc d) ws → i < length (map subtree_slot ws)
    → (get_or (map subtree_slot ws) i t).load ≡ child page → (content : Content) × IsAt s page content
at_child s d [] i t page shown lt e = absurd (omega arith)
at_child s d (w ∷ ws) zero t page shown lt e =
    let same : w.page ≡ page = cc in (content_of d w.body, subst (λ n. IsAt s n (content_of d w.body)) same shown.0.0)
at_child s d (w ∷ ws) (suc i) t page shown lt e = at_child s d ws i t page shown.1 (omega arith) e

at_place : (s : Store) (d : ℕ) (body : Body d) (i : ℕ) (t : Slot) (page : ℕ) → Shows s d body → i < length (slots_of d body)
    → (get_or (slots_of d body) i t).load ≡ child page → (content : Content) × IsAt s page content
at_place s zero body i t page shown lt e = absurd (no_child body i t page lt e)
at_place s (suc d) body i t page shown lt e = at_child s d body i t page shown lt e

pub child_there : (s : Store) (base : ℕ) (low : List ℕ) (high : Option (List ℕ)) (entries : List Entry) (reached : List ℕ) (node : LooseNode)
    (loose_slot d : LooseSlot) (i page : ℕ) → IsHeld s base low high entries reached (model_in node) → i < length node.loose_slots.items
    → loose_slot ≡ get_or node.loose_slots.items i d → (slot_in loose_slot).load ≡ child page → (content : Content) × IsAt s page content
child_there s base low high entries reached node loose_slot d i page h lt is load =
    let here = at_slot node.loose_slots.items i loose_slot d (slot_in loose_slot) lt is in
    at_place s h.d h.body i (slot_in loose_slot) page h.shown
    (omega (arith, ap length h.slots_are, long_map slot_in node.loose_slots.items))
    (ap (λ ss. (get_or ss i (slot_in loose_slot)).load) (sym h.slots_are) ∙ ap (λ (s : Slot). s.load) here ∙ load)

-- joined to the left, and then with what is behind
pub left_settled : (old mid new : Store) (base : ℕ) (low : List ℕ) (high between : Option (List ℕ)) (first amid last : List Entry)
    (left_pages mid_pages right_pages : List ℕ) (front : NodeModel) (r : Result LooseNode TreeFault) → Frame old mid
    → (u : IsTurned old mid base low between (first ++ amid) (left_pages ++ mid_pages) front)
    → IsTurn mid new base low high ((first ++ amid) ++ last) (u.after ++ right_pages) r
    → IsTurn old new base low high (first ++ (amid ++ last)) (left_pages ++ (mid_pages ++ right_pages)) r
left_settled old mid new base low high between first amid last left_pages mid_pages right_pages front r grown u v =
    subst (λ es. IsTurn old new base low high es (left_pages ++ (mid_pages ++ right_pages)) r) (append_assoc first amid last)
    (turned_on old mid new base low high ((first ++ amid) ++ last) (left_pages ++ (mid_pages ++ right_pages)) (u.after ++ right_pages) r grown
    (λ n. omega (
      arith,
      u.turned n,
      times_append n u.after right_pages,
      times_append n left_pages mid_pages,
      times_append n left_pages (mid_pages ++ right_pages),
      times_append n mid_pages right_pages,
    )) v)

-- joined to the right, and then with what is before
pub right_settled : (old mid new : Store) (base : ℕ) (low key : List ℕ) (high : Option (List ℕ)) (first amid last : List Entry)
    (left_pages mid_pages right_pages : List ℕ) (back : NodeModel) (r : Result LooseNode TreeFault) → Frame old mid
    → (u : IsTurned old mid base key high (amid ++ last) (mid_pages ++ right_pages) back)
    → IsTurn mid new base low high (first ++ (amid ++ last)) (left_pages ++ u.after) r
    → IsTurn old new base low high (first ++ (amid ++ last)) (left_pages ++ (mid_pages ++ right_pages)) r
right_settled old mid new base low key high first amid last left_pages mid_pages right_pages back r grown u v =
    turned_on old mid new base low high (first ++ (amid ++ last)) (left_pages ++ (mid_pages ++ right_pages)) (left_pages ++ u.after) r grown
    (λ n. omega (
      arith,
      u.turned n,
      times_append n left_pages u.after,
      times_append n left_pages (mid_pages ++ right_pages),
    )) v

-- on from a store in which nothing was made
pub same_turned : (old mid new : Store) (base : ℕ) (low : List ℕ) (high : Option (List ℕ)) (entries : List Entry) (before : List ℕ)
    (r : Result LooseNode TreeFault) → IsSame old mid → IsTurn mid new base low high entries before r → IsTurn old new base low high entries before r
same_turned old mid new base low high entries before r same u =
    turned_on old mid new base low high entries before before r (frame_same old mid same)
    (λ n. omega (arith, ap (times n) same.made, ap (times n) same.retired)) u
