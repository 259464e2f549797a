-- Edits of children: the child that the last edits belong to, what is before it and what is behind it.
use Rattle.std.proofs.Common.{◌≡◌, ℕ, zero, suc, ◌+◌, ◌-◌, ◌<◌, ◌≤◌, take, get_or, List, [], ◌∷◌, ◌++◌, length, map, Option, Some, None, Result, Ok, Err, refl}
use Rattle.std.proofs.Common.{sym, ap, ◌∙◌, subst, arith, inl, inr, append_assoc}
use Rattle.btree.specs.declared.node.LooseNode.{LooseNode}
use Rattle.tree_model.specs.declared.edit.Edit.{Edit as ProgramEdit}
use Rattle.tree_model.specs.EditView.{edit_in}
use Rattle.btree.specs.LooseView.{payload_in, slot_in}
use Rattle.btree.specs.declared.node.LooseSlot.{LooseSlot}
use Rattle.btree.proofs.CuttingLemmas.{take_over}
use Rattle.tree_model.specs.declared.pages.TreeFault.{TreeFault}
use Rattle.tree_model.specs.Keys.{edit_keys}
use Rattle.btree.specs.Change.{BeginsAt, IsBehind}
use Rattle.tree_model.specs.Keys.{Edit, Entry, Each, IsBetween, IsNotUnder, IsUnder, IsWithin, Rises, change}
use Rattle.btree.specs.Loose.{Slot, child, first_or}
use Rattle.tree_model.specs.Store.{Store, Frame}
use Rattle.btree.proofs.HeldLemmas.{IsTurn}
use Rattle.tree_model.specs.Tree.{entries_of, pages_of}
use Rattle.btree.specs.Turn.{IsHeld, IsTurned, IsUpTo, NodeModel, model_in}
use Rattle.tree_model.proofs.ListLemmas.{each_append, each_back, each_front, each_map, get_here, get_mapped, long_append, long_map, map_append, rises_back}
use Rattle.tree_model.proofs.ListLemmas.{rises_front, times_append}
use Rattle.btree.proofs.EndLemmas.{IsLastOff, last_off, within_up_to}
use Rattle.btree.proofs.SplitLemmas.{take_under, IsTwo, apart, apart_over, change_parts, held_between, two_parts}
use Rattle.tree_model.proofs.StoreLemmas.{cause_later, frame_trans}
use Rattle.btree.proofs.JoinLemmas.{up_to_trans}
use Rattle.tree_model.proofs.KeyLemmas.{not_under_trans}
use Rattle.btree.proofs.ScanLemmas.{each_entry}
use Rattle.tree_model.proofs.FanLemmas.{pairs_between}

pub record IsPrepared (s : Store) (base : ℕ) (low : List ℕ) (high : Option (List ℕ)) (entries : List Entry) (reached : List ℕ) (rank : ℕ)
    (left right : List Slot) (t : Slot) (page : ℕ) (theirs mine : List Edit) : Type 0 where
  pub two : IsTwo s base low high entries reached rank (left ++ t ∷ []) right
  pub off : IsLastOff s base low two.between two.front_entries two.front_pages rank left t page
  pub theirs_rise : Rises (edit_keys theirs)
  pub mine_rise : Rises (edit_keys mine)
  pub theirs_between : Each (λ e. IsBetween low (Some t.key) e.key) theirs
  pub mine_between : Each (λ e. IsBetween t.key two.between e.key) mine
  pub within : IsUpTo t.key high
  pub left_held : IsHeld s base low (Some t.key) (entries_of (suc off.d) off.subtrees) (pages_of (suc off.d) off.subtrees)
      (record { rank = rank; slots = left })

both : (P Q : List ℕ → Type 0) (es : List Edit) → Each (λ e. P e.key) es → Each (λ e. Q e.key) es → Each (λ e. P e.key × Q e.key) es
both P Q [] h g = tt
both P Q (e ∷ es) h g = ((h.0, g.0), both P Q es h.1 g.1)

pub upto_of : (key : List ℕ) (high between : Option (List ℕ)) (s : Store) (base : ℕ) (last : List Entry) (pages : List ℕ) (model : NodeModel)
    → IsWithin between key
    → IsBehind s base between high last pages model → IsUpTo key high
upto_of key high between s base last pages model w (inl e) = subst (IsUpTo key) e.1 (within_up_to key between w)
upto_of key high between s base last pages model w (inr m) = up_to_trans key m.mid high (subst (IsUpTo key) m.is (within_up_to key between w)) m.within

pub prepared : (s : Store) (base : ℕ) (low : List ℕ) (high : Option (List ℕ)) (entries : List Entry) (reached : List ℕ) (model : NodeModel)
    (left right : List Slot) (t : Slot) (page : ℕ) (theirs mine : List Edit)
    → IsHeld s base low high entries reached model → model.slots ≡ (left ++ t ∷ []) ++ right → base < model.rank → t.load ≡ child page
    → Rises (edit_keys (theirs ++ mine)) → Each (λ e. IsBetween low high e.key) (theirs ++ mine)
    → ((f : Slot) (rest : List Slot) → right ≡ f ∷ rest → Each (λ e. IsUnder e.key f.key) mine) → Each (λ e. IsUnder e.key t.key) theirs
    → Each (λ e. IsNotUnder e.key t.key) mine
    → IsPrepared s base low high entries reached model.rank left right t page theirs mine
prepared s base low high entries reached model left right t page theirs mine h parts deep load rise between next before behind =
    let two = two_parts s base low high entries reached model (left ++ t ∷ []) right h parts (omega (arith, long_append left (t ∷ []))) in
    let off = last_off s base low two.between two.front_entries two.front_pages
    (record { rank = model.rank; slots = left ++ t ∷ [] }) left t page two.front_held refl deep (omega (arith, long_append left (t ∷ []))) load in
    let keys : Rises (edit_keys theirs ++ edit_keys mine) = subst Rises (map_append (λ (e : Edit). e.key) theirs mine) rise in
    record {
      two = two;
      off = off;
      theirs_rise = rises_front (edit_keys theirs) (edit_keys mine) keys;
      mine_rise = rises_back (edit_keys theirs) (edit_keys mine) keys;
      theirs_between =
          both (λ k. IsNotUnder k low) (λ k. IsUnder k t.key) theirs
          (each_map _ _ (λ e b. b.0) theirs (each_front (λ e. IsBetween low high e.key) theirs mine between)) before;
      mine_between =
          both (λ k. IsNotUnder k t.key) (IsWithin two.between) mine behind
          (under right two.between two.between_is next (each_back (λ e. IsBetween low high e.key) theirs mine between));
      within = upto_of t.key high two.between s base two.back_entries two.back_pages _ off.between.1 two.behind;
      left_held = record {
        d = suc off.d;
        body = off.subtrees;
        rank_is = λ lt. off.rank_is;
        slots_are = off.front_are;
        small = off.front_small;
        spread = off.spread;
        shown = off.front_shown;
        entries_are = refl;
        pages_are = λ n. refl;
      };
    }
  where
    under : (right : List Slot) (b : Option (List ℕ)) → b ≡ first_or high right
        → ((f : Slot) (rest : List Slot) → right ≡ f ∷ rest → Each (λ e. IsUnder e.key f.key) mine) → Each (λ e. IsBetween low high e.key) mine
        → Each (λ e. IsWithin b e.key) mine
    under [] b is next among = subst (λ x. Each (λ e. IsWithin x e.key) mine) (sym is) (each_map _ _ (λ e b. b.1) mine among)
    under (f ∷ rest) b is next among = subst (λ x. Each (λ e. IsWithin x e.key) mine) (sym is) (next f rest refl)

-- what is behind is past the bound
behind_past : (s : Store) (base : ℕ) (between high : Option (List ℕ)) (last : List Entry) (pages : List ℕ) (model : NodeModel) (mine : List Edit)
    → IsBehind s base between high last pages model
    → Each (λ e. IsWithin between e.key) mine → Each (λ e. Each (λ (y : Entry). IsUnder e.key y.key) last) mine
behind_past s base between high last pages model mine (inl e) w =
    subst (λ es. Each (λ f. Each (λ (y : Entry). IsUnder f.key y.key) es) mine) (sym e.2) (nothing mine)
  where
    nothing : (fs : List Edit) → Each (λ f. Each (λ (y : Entry). IsUnder f.key y.key) []) fs
    nothing [] = tt
    nothing (f ∷ fs) = (tt, nothing fs)
behind_past s base between high last pages model mine (inr m) w =
    apart (λ (y : Entry). y.key) m.mid mine last (subst (λ b. Each (λ e. IsWithin b e.key) mine) m.is w)
    (each_map _ _ (λ y b. b.0) last (held_between s base m.mid high last pages model m.held))

behind_over : (s : Store) (base : ℕ) (key : List ℕ) (between high : Option (List ℕ)) (last : List Entry) (pages : List ℕ) (model : NodeModel)
    → IsBehind s base between high last pages model → IsUpTo key between
    → Each (λ (y : Entry). IsNotUnder y.key key) last
behind_over s base key between high last pages model (inl e) u = subst (Each (λ (y : Entry). IsNotUnder y.key key)) (sym e.2) tt
behind_over s base key between high last pages model (inr m) u =
    each_map _ _ (λ y b. not_under_trans key m.mid y.key (subst (IsUpTo key) m.is u) b.0) last (held_between s base m.mid high last pages model m.held)

-- the map after all edits
pub prepared_entries : (s front_store : Store) (base : ℕ) (low : List ℕ) (high : Option (List ℕ)) (entries : List Entry) (reached : List ℕ) (rank : ℕ)
    (left right : List Slot) (t : Slot) (page : ℕ) (theirs mine : List Edit)
    (p : IsPrepared s base low high entries reached rank left right t page theirs mine) (pages : List ℕ) (front : NodeModel)
    → IsHeld front_store base low (Some t.key) (change theirs (entries_of (suc p.off.d) p.off.subtrees)) pages front
    → change theirs (entries_of (suc p.off.d) p.off.subtrees)
    ++ (change mine (entries_of p.off.d p.off.body) ++ p.two.back_entries) ≡ change (theirs ++ mine) entries
prepared_entries s front_store base low high entries reached rank left right t page theirs mine p pages front h =
    let el : List Entry = entries_of (suc p.off.d) p.off.subtrees in
    let ew : List Entry = entries_of p.off.d p.off.body in
    let er : List Entry = p.two.back_entries in
    let inside : Each (λ (y : Entry). IsBetween t.key p.two.between y.key) ew =
    subst (Each (λ (y : Entry). IsBetween t.key p.two.between y.key)) refl
    (each_entry (IsBetween t.key p.two.between) _ (pairs_between p.off.d t.key p.two.between p.off.body p.off.lies.1)) in
    let over : Each (λ (y : Entry). IsNotUnder y.key t.key) (ew ++ er) =
    each_append _ ew er (each_map _ _ (λ y b. b.0) ew inside)
    (behind_over s base t.key p.two.between high er p.two.back_pages _ p.two.behind (within_up_to t.key p.two.between p.off.between.1)) in
    sym (change_parts theirs mine el ew er
    (apart (λ (y : Entry). y.key) t.key theirs (ew ++ er) (each_map _ _ (λ e b. b.1) theirs p.theirs_between) over)
    (apart_over (λ (y : Entry). y.key) t.key mine (change theirs el) (each_map _ _ (λ e b. b.0) mine p.mine_between)
    (each_map _ _ (λ y b. b.1) _ (held_between front_store base low (Some t.key) _ pages front h)))
    (behind_past s base p.two.between high er p.two.back_pages _ mine p.two.behind (each_map _ _ (λ e b. b.1) mine p.mine_between)))
    ∙ ap (change (theirs ++ mine)) (sym (append_assoc el ew er) ∙ ap (λ es. es ++ er) p.off.entries_are ∙ p.two.entries_are)

-- ---- the program's parts

pub place_next : (key : List ℕ) (slots left right : List Slot) (t : Slot) (at n : ℕ) → n ≡ length slots → slots ≡ (left ++ t ∷ []) ++ right → length left ≡ at
    → ((s : Slot) → at + 1 < n → IsUnder key (get_or slots (at + 1) s).key)
    → (f : Slot) (rest : List Slot) → right ≡ f ∷ rest → IsUnder key f.key
place_next key slots left right t at n same e long next f rest is =
    let whole : slots ≡ (left ++ t ∷ []) ++ f ∷ rest = e ∙ ap (λ r. (left ++ t ∷ []) ++ r) is in
    let front : length (left ++ t ∷ []) ≡ at + 1 = omega (arith, long_append left (t ∷ [])) in
    let here : get_or slots (at + 1) f ≡ f =
    ap (λ ss. get_or ss (at + 1) f) whole ∙ ap (λ k. get_or ((left ++ t ∷ []) ++ f ∷ rest) k f) (sym front) ∙ get_here (left ++ t ∷ []) f rest f in
    subst (λ (s : Slot). IsUnder key s.key) here (next f (omega (arith, ap length whole, long_append (left ++ t ∷ []) (f ∷ rest))))

pub all_up_to_last : (es : List ProgramEdit) (key : List ℕ) (d : ProgramEdit) → 0 < length es → Rises (edit_keys (map edit_in es))
    → IsUnder (get_or es (length es - 1) d).key.now key → Each (λ (e : Edit). IsUnder e.key key) (map edit_in es)
all_up_to_last es key d some rise last =
    subst (Each (λ (e : Edit). IsUnder e.key key)) (take_over (length es) (map edit_in es) (omega (arith, long_map edit_in es)))
    (take_under (map edit_in es) (length es) key (omega (arith, long_map edit_in es)) rise
    (λ k f is. let same : k ≡ length es - 1 = omega arith in
    subst (λ (e : Edit). IsUnder e.key key) (sym (ap (λ i. get_or (map edit_in es) i f) same ∙ get_mapped edit_in es (length es - 1) f d (omega arith))) last))

pub children_done : (old a b new : Store) (base : ℕ) (low : List ℕ) (high : Option (List ℕ)) (entries : List Entry) (reached : List ℕ) (rank : ℕ)
    (left right : List Slot) (t : Slot) (page : ℕ) (theirs mine : List Edit)
    (p : IsPrepared old base low high entries reached rank left right t page theirs mine) (below front : NodeModel) (r : Result LooseNode TreeFault)
    → Frame old a
    → Frame a b
    → (u1 : IsTurned old a base t.key p.two.between (change mine (entries_of p.off.d p.off.body)) (page ∷ pages_of p.off.d p.off.body) below)
    → (u2 : IsTurned a b base low (Some t.key) (change theirs (entries_of (suc p.off.d) p.off.subtrees)) (pages_of (suc p.off.d) p.off.subtrees) front)
    → IsTurn b new base low high (change theirs (entries_of (suc p.off.d) p.off.subtrees)
    ++ (change mine (entries_of p.off.d p.off.body) ++ p.two.back_entries))
    (u2.after ++ (u1.after ++ p.two.back_pages)) r
    → IsTurn old new base low high (change (theirs ++ mine) entries) reached r
children_done old a b new base low high entries reached rank left right t page theirs mine p below front (Ok l) g1 g2 u1 u2 u3 =
    record {
      after = u3.after;
      held = subst (λ es. IsHeld new base low high es u3.after (model_in l))
          (prepared_entries old b base low high entries reached rank left right t page theirs mine p u2.after front u2.held) u3.held;
      turned = λ n. omega (
        arith,
        u1.turned n,
        u2.turned n,
        u3.turned n,
        p.off.pages_are n,
        p.two.pages_are n,
        times_append n u2.after (u1.after ++ p.two.back_pages),
        times_append n u1.after p.two.back_pages,
      );
    }
children_done old a b new base low high entries reached rank left right t page theirs mine p below front (Err e) g1 g2 u1 u2 u3 =
    cause_later old b new e (frame_trans old a b g1 g2) u3

pub begins_left : (low : List ℕ) (edits theirs : List Edit) (slots left right : List Slot) (t : Slot) → slots ≡ (left ++ t ∷ []) ++ right
    → BeginsAt low edits slots → 0 < length edits
    → Each (λ e. IsBetween low (Some t.key) e.key) theirs → BeginsAt low theirs left
begins_left low edits theirs slots left right t e (inl none) some h = absurd (omega arith)
begins_left low edits [] slots [] right t e (inr f) some h = inl refl
begins_left low edits (x ∷ xs) slots [] right t e (inr f) some h =
    let first : Some t.key ≡ Some low = sym (ap (first_or None) e) ∙ f in
    let same : t.key ≡ low = cc in absurd (h.0.0 (subst (IsUnder x.key) same h.0.1))
begins_left low edits theirs slots (s ∷ left) right t e (inr f) some h = inr (sym (ap (first_or None) e) ∙ f)

module _ (old : Store) (node left right : LooseNode) (loose_slot : LooseSlot) (loose_slots : List LooseSlot) (key : List ℕ) (page at : ℕ)
    (es theirs mine : List ProgramEdit)
    (d : ProgramEdit)
    (parts : map slot_in node.loose_slots.items ≡ (map slot_in left.loose_slots.items ++ slot_in loose_slot ∷ []) ++ map slot_in right.loose_slots.items)
    (key_is : key ≡ loose_slot.key.items) (load : payload_in loose_slot.payload ≡ child page)
    (edits_are : map edit_in es ≡ map edit_in theirs ++ map edit_in mine) (before : Rises (edit_keys (map edit_in es))
    → Each (λ (e : Edit). IsUnder e.key key) (map edit_in theirs))
    (behind : Each (λ (e : Edit). IsNotUnder e.key key) (map edit_in mine)) (loose_slots_are : loose_slots ≡ node.loose_slots.items)
    (long : length left.loose_slots.items ≡ at)
    (next : (s : Slot) → at + 1 < length loose_slots → IsUnder (get_or es (length es - 1) d).key.now (get_or (map slot_in loose_slots) (at + 1) s).key)
    (some : 0 < length es) where
  parts_are : map slot_in node.loose_slots.items ≡ (map slot_in left.loose_slots.items ++ record { key = key; load = payload_in loose_slot.payload } ∷ [])
      ++ map slot_in right.loose_slots.items
  parts_are = parts
      ∙ ap (λ k. (map slot_in left.loose_slots.items ++ record { key = k; load = payload_in loose_slot.payload } ∷ []) ++ map slot_in right.loose_slots.items)
      (sym key_is)

  pub prepare : (base : ℕ) (low : List ℕ) (high : Option (List ℕ)) (entries : List Entry) (reached : List ℕ)
      → IsHeld old base low high entries reached (model_in node) → base < node.rank → Rises (edit_keys (map edit_in es))
      → Each (λ e. IsBetween low high e.key) (map edit_in es)
      → IsPrepared old base low high entries reached node.rank (map slot_in left.loose_slots.items) (map slot_in right.loose_slots.items)
      (record { key = key; load = payload_in loose_slot.payload }) page (map edit_in theirs) (map edit_in mine)
  prepare base low high entries reached h deep rise between =
      prepared old base low high entries reached (model_in node) (map slot_in left.loose_slots.items) (map slot_in right.loose_slots.items)
      (record { key = key; load = payload_in loose_slot.payload }) page (map edit_in theirs) (map edit_in mine) h parts_are deep load
      (subst (λ fs. Rises (edit_keys fs)) edits_are rise) (subst (Each (λ e. IsBetween low high e.key)) edits_are between)
      (λ f rest is. each_back (λ e. IsUnder e.key f.key) (map edit_in theirs) (map edit_in mine) (subst (Each (λ e. IsUnder e.key f.key)) edits_are
      (all_up_to_last es f.key d some rise
      (place_next (get_or es (length es - 1) d).key.now (map slot_in node.loose_slots.items) (map slot_in left.loose_slots.items)
      (map slot_in right.loose_slots.items)
      (record { key = key; load = payload_in loose_slot.payload }) at (length loose_slots)
      (omega (arith, ap length loose_slots_are, long_map slot_in node.loose_slots.items)) parts_are
      (omega (arith, long, long_map slot_in left.loose_slots.items))
      (λ s lt. subst (λ us. IsUnder (get_or es (length es - 1) d).key.now (get_or (map slot_in us) (at + 1) s).key) loose_slots_are (next s lt)) f rest is))))
      (before rise) behind

  pub begins_there : (base : ℕ) (low : List ℕ) → BeginsAt low (map edit_in es) (map slot_in node.loose_slots.items)
      → Each (λ e. IsBetween low (Some key) e.key) (map edit_in theirs)
      → BeginsAt low (map edit_in theirs) (map slot_in left.loose_slots.items)
  begins_there base low b h =
      begins_left low (map edit_in es) (map edit_in theirs) (map slot_in node.loose_slots.items) (map slot_in left.loose_slots.items)
      (map slot_in right.loose_slots.items)
      (record { key = key; load = payload_in loose_slot.payload }) parts_are b (omega (arith, long_map edit_in es)) h

pub before_under : (es : List ProgramEdit) (r : ℕ) (key : List ℕ) → r ≤ length es → Rises (edit_keys (map edit_in es))
    → ((k : ℕ) (d : ProgramEdit) → k + 1 ≡ r → IsUnder (get_or es k d).key.now key)
    → Each (λ (e : Edit). IsUnder e.key key) (take r (map edit_in es))
before_under [] zero key le rise last = tt
before_under [] (suc r) key le rise last = absurd (omega arith)
before_under (x ∷ xs) r key le rise last =
    take_under (map edit_in (x ∷ xs)) r key (omega (arith, long_map edit_in (x ∷ xs))) rise
    (λ k d is. subst (λ (e : Edit). IsUnder e.key key) (sym (get_mapped edit_in (x ∷ xs) k d x (omega arith))) (last k x is))
