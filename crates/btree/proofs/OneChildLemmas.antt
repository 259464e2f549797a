-- A branch of which one child changes.
use Rattle.std.proofs.Common.{◌≡◌, ℕ, zero, suc, ◌+◌, ◌-◌, ◌^◌, ◌<◌, ◌≤◌, ◌⊎◌, drop, get_or, List, [], ◌∷◌, ◌++◌, length, map, Option, Some, None}
use Rattle.std.proofs.Common.{refl, sym, ap, ◌∙◌, subst, arith, inl, inr, append-nil, append_assoc}
use Rattle.std.specs.List.{AllByRecursion}
use Rattle.page.specs.ChildPage.{with_child}
use Rattle.page.specs.Content.{Pivot, IsPivot, IsBranch, branch, first_key}
use Rattle.tree_model.specs.declared.edit.Edit.{Edit as ProgramEdit}
use Rattle.tree_model.specs.Keys.{edit_keys}
use Rattle.btree.specs.Change.{IsBehind}
use Rattle.tree_model.specs.EditView.{edit_in}
use Rattle.tree_model.specs.Keys.{Each, Edit, Entry, IsBetween, IsNotUnder, IsUnder, IsWithin, Rises, change, entry_of, times}
use Rattle.btree.specs.Loose.{IsLoad, IsSpread, IsSlot, Slot, pivot_slot, bare, child, first_or, slots_of, subtree_slot, under_key}
use Rattle.btree.specs.OneChild.{AreAt, IsAmid, IsPageOf}
use Rattle.tree_model.specs.Search.{IsChildPlace}
use Rattle.tree_model.specs.Store.{Frame, IsAt, IsMade, Store}
use Rattle.tree_model.specs.Tree.{Body, IsSound, Shows, Subtree, pivot_of, entries_of, pages_of, pairs_of, with_low}
use Rattle.tree_model.specs.Reach.{AreTurned}
use Rattle.btree.specs.Turn.{IsHeld, IsTurned, IsUpTo, NodeModel}
use Rattle.btree.proofs.ChangingLemmas.{begins, behind_later}
use Rattle.btree.proofs.EndLemmas.{last_off, within_up_to}
use Rattle.btree.proofs.HeldLemmas.{pivot_there, glue_held, held_later, under_long}
use Rattle.tree_model.proofs.KeyLemmas.{not_under_itself, not_under_trans, not_both}
use Rattle.tree_model.proofs.ListLemmas.{at_place, each_map, get_here, get_mapped, long_append, map_map, times_append}
use Rattle.btree.proofs.LooseLemmas.{bare_pages, bare_pairs, bare_shows, bare_sound}
use Rattle.btree.proofs.PartLemmas.{same_pivots}
use Rattle.btree.proofs.PrepareLemmas.{IsPrepared, all_up_to_last, prepared, prepared_entries}
use Rattle.btree.proofs.RaiseLemmas.{no_entries}
use Rattle.tree_model.proofs.StoreLemmas.{shows_kept}
use Rattle.btree.proofs.WideLemmas.{sound_low}

abbrev pub nothing : Pivot
nothing = record { key = []; child = 0 }

none_or : (n : ℕ) → (n ≡ 0) ⊎ (0 < n)
none_or zero = inl refl
none_or (suc n) = inr (omega arith)

-- ---- the child that all edits belong to

-- none is below what the first one isn't below
pub all_from_first : (es : List Edit) (key : List ℕ) (d : Edit) → Rises (edit_keys es) → IsNotUnder (get_or es 0 d).key key
    → Each (λ e. IsNotUnder e.key key) es
all_from_first [] key d rise first = tt
all_from_first (x ∷ xs) key d rise first = (first, over xs rise.0)
  where
    over : (ys : List Edit) → Each (IsUnder x.key) (edit_keys ys) → Each (λ e. IsNotUnder e.key key) ys
    over [] h = tt
    over (y ∷ ys) h = (not_under_trans key x.key y.key first (not_both x.key y.key h.0), over ys h.1)

pub are_at : (pivots : List Pivot) (es : List ProgramEdit) (at : ℕ) (d : ProgramEdit) → 0 < length es → IsChildPlace pivots (get_or es 0 d).key.now at
    → Rises (edit_keys (map edit_in es))
    → ((a : Pivot) → at + 1 < length pivots → IsUnder (get_or es (length es - 1) d).key.now (get_or pivots (at + 1) a).key) → AreAt pivots (map edit_in es) at
are_at pivots es at d some place rise last = record {
  within = place.within;
  over = λ a lt. all_from_first (map edit_in es) (get_or pivots at a).key (edit_in d) rise
      (subst (λ (e : Edit). IsNotUnder e.key (get_or pivots at a).key) (sym (get_mapped edit_in es 0 (edit_in d) d some)) (place.below a lt));
  under = λ a lt. all_up_to_last es (get_or pivots (at + 1) a).key d some rise (last a lt);
}

-- ---- a child among the others

pub record IsBeside (slots : List Slot) (t : Slot) (at : ℕ) : Type 0 where
  pub left : List Slot
  pub right : List Slot
  pub is : slots ≡ (left ++ t ∷ []) ++ right
  pub place : length left ≡ at

pub beside : (low : List ℕ) (pivots : List Pivot) (at : ℕ) (key : List ℕ) (page : ℕ) → at < length pivots → (at ≡ 0 → key ≡ low)
    → ((d : Pivot) → 0 < at → key ≡ (get_or pivots at d).key) → ((d : Pivot) → page ≡ (get_or pivots at d).child)
    → IsBeside (map pivot_slot (under_key low pivots)) (pivot_slot (record { key = key; child = page })) at
beside low pivots at key page within first later child_is =
    let slots : List Slot = map pivot_slot (under_key low pivots) in
    let t : Slot = pivot_slot (record { key = key; child = page }) in
    let c = at_place slots at (omega (arith, within, under_long low pivots)) in
    let here : get_or slots at c.mid ≡ c.mid =
    ap (λ ss. get_or ss at c.mid) c.is ∙ ap (λ n. get_or (c.front ++ c.mid ∷ c.back) n c.mid) (sym c.place) ∙ get_here c.front c.mid c.back c.mid in
    let this : c.mid ≡ t = sym here ∙ pivot_there low pivots at key page within first later child_is c.mid in
    record { left = c.front; right = c.back; is = c.is ∙ ap (λ s. c.front ++ s ∷ c.back) this ∙ sym (append_assoc c.front (t ∷ []) c.back); place = c.place }

next_key : (low : List ℕ) (pivots : List Pivot) (i : ℕ) (s : Slot) (d : Pivot) → suc i < length pivots
    → (get_or (map pivot_slot (under_key low pivots)) (suc i) s).key ≡ (get_or pivots (suc i) d).key
next_key low [] i s d lt = absurd (omega arith)
next_key low (a ∷ more) i s d lt = ap (λ (t : Slot). t.key) (get_mapped pivot_slot more i s d (omega arith))

module _ (s : Store) (base : ℕ) (low : List ℕ) (high : Option (List ℕ)) (entries : List Entry) (reached : List ℕ) (pivots : List Pivot) (at rank : ℕ)
    (key : List ℕ) (page : ℕ) (edits : List Edit)
    (h : IsHeld s base low high entries reached (record { rank = rank; slots = map pivot_slot (under_key low pivots) })) (deep : base < rank)
    (mine : AreAt pivots edits at) (rise : Rises (edit_keys edits))
    (between : Each (λ e. IsBetween low high e.key) edits) (first : at ≡ 0 → key ≡ low) (later : (d : Pivot) → 0 < at → key ≡ (get_or pivots at d).key)
    (child_is : (d : Pivot) → page ≡ (get_or pivots at d).child) where
  abbrev t : Slot
  t = pivot_slot (record { key = key; child = page })

  abbrev b : IsBeside (map pivot_slot (under_key low pivots)) t at
  b = beside low pivots at key page mine.within first later child_is

  not_under : Each (λ e. IsNotUnder e.key key) edits
  not_under = elim (none_or at) [
    | inl none ↦ each_map _ _ (λ e x. subst (IsNotUnder e.key) (sym (first none)) x.0) edits between
    | inr some ↦ subst (λ k. Each (λ e. IsNotUnder e.key k) edits) (sym (later nothing some)) (mine.over nothing some)
  ]

  next : (f : Slot) (rest : List Slot) → b.right ≡ f ∷ rest → Each (λ e. IsUnder e.key f.key) edits
  next f rest is =
      let whole : map pivot_slot (under_key low pivots) ≡ (b.left ++ t ∷ []) ++ f ∷ rest = b.is ∙ ap (λ r. (b.left ++ t ∷ []) ++ r) is in
      let front : length (b.left ++ t ∷ []) ≡ suc at = omega (arith, long_append b.left (t ∷ []), b.place) in
      let here : get_or (map pivot_slot (under_key low pivots)) (suc at) f ≡ f =
      ap (λ ss. get_or ss (suc at) f) whole ∙ ap (λ k. get_or ((b.left ++ t ∷ []) ++ f ∷ rest) k f) (sym front) ∙ get_here (b.left ++ t ∷ []) f rest f in
      let lt : suc at < length pivots = omega (arith, under_long low pivots, ap length whole, long_append (b.left ++ t ∷ []) (f ∷ rest), front) in
      let same : at + 1 ≡ suc at = omega arith in
      let is_key : (get_or pivots (at + 1) nothing).key ≡ f.key =
      ap (λ n. (get_or pivots n nothing).key) same ∙ sym (next_key low pivots at f nothing lt) ∙ ap (λ (x : Slot). x.key) here in
      subst (λ k. Each (λ e. IsUnder e.key k) edits) is_key (mine.under nothing (omega arith))

  pub prepared_child : IsPrepared s base low high entries reached rank b.left b.right t page [] edits
  prepared_child =
      prepared s base low high entries reached
      (record { rank = rank; slots = map pivot_slot (under_key low pivots) }) b.left b.right t page [] edits h b.is deep refl rise between next tt not_under

  module _ (new : Store) (below : NodeModel) (grows : Frame s new)
      (u : IsTurned s new base key prepared_child.two.between (change edits (entries_of prepared_child.off.d prepared_child.off.body))
      (page ∷ pages_of prepared_child.off.d prepared_child.off.body) below) where
    abbrev p : IsPrepared s base low high entries reached rank b.left b.right t page [] edits
    p = prepared_child

    abbrev pub reached_now : List ℕ
    reached_now = pages_of (suc p.off.d) p.off.subtrees ++ (u.after ++ p.two.back_pages)

    pub amid : IsAmid new base low high pivots at rank (change edits entries) reached_now below
    amid = record {
      left = b.left;
      right = b.right;
      key = key;
      load = child page;
      between = p.two.between;
      front_entries = entries_of (suc p.off.d) p.off.subtrees;
      mid_entries = change edits (entries_of p.off.d p.off.body);
      back_entries = p.two.back_entries;
      front_pages = pages_of (suc p.off.d) p.off.subtrees;
      mid_pages = u.after;
      back_pages = p.two.back_pages;
      parts = b.is;
      place = b.place;
      entries_are =
          prepared_entries s s base low high entries reached rank b.left b.right t page [] edits p (pages_of (suc p.off.d) p.off.subtrees)
          (record { rank = rank; slots = b.left }) p.left_held;
      pages_are = λ n. omega
          (arith, times_append n (pages_of (suc p.off.d) p.off.subtrees) (u.after ++ p.two.back_pages), times_append n u.after p.two.back_pages);
      left_held = held_later s new base low (Some key) _ _ _ grows p.left_held;
      held = u.held;
      behind = behind_later s new base p.two.between high p.two.back_entries p.two.back_pages _ grows p.two.behind;
      over = p.off.between.0;
      inside = p.off.between.1;
      within = p.within;
      little = p.off.little;
    }

    pub amid_turned : AreTurned s new reached reached_now
    amid_turned n = omega (
      arith,
      u.turned n,
      p.off.pages_are n,
      p.two.pages_are n,
      times_append n (pages_of (suc p.off.d) p.off.subtrees) (u.after ++ p.two.back_pages),
      times_append n u.after p.two.back_pages,
    )

-- the child's key leaves room in a cell
pub key_little : (low : List ℕ) (pivots : List Pivot) (at : ℕ) (key : List ℕ) → IsBranch pivots → at < length pivots → (at ≡ 0 → key ≡ low)
    → ((d : Pivot) → 0 < at → key ≡ (get_or pivots at d).key) → 6 + length low ≤ 1360 → 6 + length key ≤ 1360
key_little low pivots at key sound within first later little = elim (none_or at) [
  | inl none ↦ omega (arith, little, ap length (first none))
  | inr some ↦ (let size : 6 + length (get_or pivots at nothing).key ≤ 1360 = (pivot_at pivots at nothing within sound.each).size in
      omega (arith, size, ap length (later nothing some)))
]
  where
    pivot_at : (xs : List Pivot) (i : ℕ) (d : Pivot) → i < length xs → AllByRecursion IsPivot xs → IsPivot (get_or xs i d)
    pivot_at [] i d lt h = absurd (omega arith)
    pivot_at (x ∷ xs) zero d lt h = h.0
    pivot_at (x ∷ xs) (suc i) d lt h = pivot_at xs i d (omega arith) h.1

-- ---- one child again

-- a child under a key that isn't above its own
rekeyed : (s : Store) (base : ℕ) (key : List ℕ) (between : Option (List ℕ)) (entries : List Entry) (pages : List ℕ) (rank page : ℕ) (st : Slot)
    → IsHeld s base key between entries pages (record { rank = rank; slots = st ∷ [] })
    → base < rank → st.load ≡ child page → IsWithin between key → 6 + length key ≤ 1360
    → IsHeld s base key between entries pages (record { rank = rank; slots = pivot_slot (record { key = key; child = page }) ∷ [] })
rekeyed s base key between entries pages rank page st h deep load inside little =
    let o = last_off s base key between entries pages (record { rank = rank; slots = st ∷ [] }) [] st page h refl deep (omega arith) load in
    let none = no_entries (suc o.d) o.subtrees (omega (arith, ap length o.front_are)) in
    record {
      d = suc o.d;
      body = record { key = key; page = page; body = o.body } ∷ [];
      rank_is = λ lt. o.rank_is;
      slots_are = refl;
      small = (record { size = omega arith; load = subst IsLoad load h.small.0.load }, tt);
      spread = (((o.lies.0, sound_low o.d st.key key between o.between.0 o.body o.lies.1), tt), (tt, tt), ((not_under_itself key, inside), tt));
      shown = ((o.at, o.shown), tt);
      entries_are = ap (map entry_of) (append-nil (pairs_of o.d o.body)) ∙ ap (λ zs. zs ++ entries_of o.d o.body) (sym none.0) ∙ o.entries_are;
      pages_are = λ n. omega (arith, o.pages_are n, none.1 n, ap (times n) (append-nil (page ∷ pages_of o.d o.body)));
    }

-- the same entries and pages
pub same_held : (s : Store) (base : ℕ) (low : List ℕ) (high : Option (List ℕ)) (entries entries' : List Entry) (pages pages' : List ℕ) (x : NodeModel)
    → IsHeld s base low high entries pages x → entries ≡ entries' → ((n : ℕ) → times n pages ≡ times n pages')
    → IsHeld s base low high entries' pages' x
same_held s base low high entries entries' pages pages' x h same there = record {
  d = h.d;
  body = h.body;
  rank_is = h.rank_is;
  slots_are = h.slots_are;
  small = h.small;
  spread = h.spread;
  shown = h.shown;
  entries_are = h.entries_are ∙ same;
  pages_are = λ n. h.pages_are n ∙ there n;
}

-- what is held, and what is behind it
pub behind_glued : (s : Store) (base : ℕ) (key : List ℕ) (between high : Option (List ℕ)) (mid last : List Entry) (mid_pages last_pages : List ℕ)
    (x : NodeModel)
    (right : List Slot) → IsHeld s base key between mid mid_pages x
    → IsBehind s base between high last last_pages (record { rank = x.rank; slots = right }) → IsUpTo key between
    → IsHeld s base key high (mid ++ last) (mid_pages ++ last_pages) (record { rank = x.rank; slots = x.slots ++ right })
behind_glued s base key between high mid last mid_pages last_pages x right h (inl e) inside =
    let g = subst (λ b. IsHeld s base key b mid mid_pages x) e.1 h in
    let same : x.slots ++ right ≡ x.slots = ap (λ r. x.slots ++ r) e.0 ∙ append-nil x.slots in
    record {
      d = g.d;
      body = g.body;
      rank_is = λ lt. g.rank_is (omega (arith, ap length same));
      slots_are = same ∙ g.slots_are;
      small = subst (Each IsSlot) (sym same) g.small;
      spread = g.spread;
      shown = g.shown;
      entries_are = g.entries_are ∙ sym (append-nil mid) ∙ ap (λ zs. mid ++ zs) (sym e.2);
      pages_are = λ n. omega (arith, g.pages_are n, e.3 n, times_append n mid_pages last_pages);
    }
behind_glued s base key between high mid last mid_pages last_pages x right h (inr m) inside =
    glue_held s base key m.mid high mid last mid_pages last_pages x (record { rank = x.rank; slots = right })
    (subst (λ b. IsHeld s base key b mid mid_pages x) m.is h) m.held refl
    (subst (IsUpTo key) m.is inside) m.within

-- another page for one child
with_left : (xs : List Pivot) (left right : List Slot) (t : Slot) (page : ℕ) → map pivot_slot xs ≡ left ++ t ∷ right
    → map pivot_slot (with_child (length left) page xs) ≡ left ++ pivot_slot (record { key = t.key; child = page }) ∷ right
with_left [] [] right t page e = absurd (omega (arith, ap length e))
with_left [] (l ∷ left) right t page e = absurd (omega (arith, ap length e))
with_left (x ∷ xs) [] right t page e =
    let key : x.key ≡ t.key = ap (λ (ss : List Slot). (get_or ss 0 t).key) e in
    let rest : map pivot_slot xs ≡ right = ap (drop 1) e in
    (λ i. pivot_slot (record { key = key i; child = page }) ∷ rest i)
with_left (x ∷ xs) (l ∷ left) right t page e =
    let head : pivot_slot x ≡ l = ap (λ (ss : List Slot). get_or ss 0 l) e in
    let rest : map pivot_slot xs ≡ left ++ t ∷ right = ap (drop 1) e in
    (λ i. head i ∷ with_left xs left right t page rest i)

under_with : (low : List ℕ) (pivots : List Pivot) (at page : ℕ) → under_key low (with_child at page pivots) ≡ with_child at page (under_key low pivots)
under_with low [] at page = refl
under_with low (a ∷ more) zero page = refl
under_with low (a ∷ more) (suc at) page = refl

-- ---- a branch that was written

same_content : {B : Type 0} (low : List ℕ) (pivots : List Pivot) (subtrees : List (Subtree B)) → map pivot_slot (under_key low pivots) ≡ map subtree_slot
    subtrees
    → first_key pivots ≡ [] → pivots ≡ map pivot_of (with_low [] subtrees)
same_content low [] [] e bare_is = refl
same_content low [] (w ∷ ws) e bare_is = absurd (omega (arith, ap length e))
same_content low (a ∷ more) [] e bare_is = absurd (omega (arith, ap length e))
same_content low (a ∷ more) (w ∷ ws) e bare_is =
    let load : child a.child ≡ child w.page = ap (λ (ss : List Slot). (get_or ss 0 (subtree_slot w)).load) e in
    let page : a.child ≡ w.page = cc in
    let rest : more ≡ map pivot_of ws = same_pivots more (map pivot_of ws) (ap (drop 1) e ∙ sym (map_map pivot_of pivot_slot ws)) in
    (λ i. record { key = bare_is i; child = page i } ∷ rest i)

pub branch_written : (old new : Store) (base rank page : ℕ) (low : List ℕ) (high : Option (List ℕ)) (pivots : List Pivot) (entries : List Entry)
    (reached : List ℕ)
    (slots : List Slot)
    → IsHeld old base low high entries reached (record { rank = rank; slots = map pivot_slot (under_key low pivots) }) → base < rank → IsBranch pivots
    → IsMade old new page (branch pivots) → page < 2 ^ 32 → 6 + length low ≤ 1360
    → slots ≡ pivot_slot (record { key = low; child = page }) ∷ [] → IsTurned old new base low high entries reached (record { rank = rank + 1; slots = slots })
branch_written old new base rank page low high pivots entries reached slots h deep sound m range little is =
    go h.d h.body (h.rank_is some) h.slots_are h.spread h.shown h.entries_are h.pages_are
  where
    some : 0 < length (map pivot_slot (under_key low pivots))
    some = omega (arith, sound.some, under_long low pivots)

    go : (d : ℕ) (body : Body d) → rank ≡ base + d → map pivot_slot (under_key low pivots) ≡ slots_of d body → IsSpread d low high body → Shows old d body
        → entries_of d body ≡ entries → ((n : ℕ) → times n (pages_of d body) ≡ times n reached)
        → IsTurned old new base low high entries reached (record { rank = rank + 1; slots = slots })
    go zero body e s spread shown ee pp = absurd (omega arith)
    go (suc d) [] e s spread shown ee pp = absurd (omega (arith, some, ap length s))
    go (suc d) (w ∷ ws) e s spread shown ee pp =
        let first : Some w.key ≡ Some low = ap (first_or None) (sym s) ∙ begins low pivots (map pivot_slot (under_key low pivots)) refl some in
        let key : w.key ≡ low = cc in
        let content : pivots ≡ map pivot_of (with_low [] (w ∷ ws)) = same_content low pivots (w ∷ ws) s sound.bare in
        let lies : IsSound (suc d) low high (bare (suc d) (w ∷ ws)) =
        subst (λ k. IsSound (suc d) k high (bare (suc d) (w ∷ ws))) key (bare_sound (suc d) low high (w ∷ ws) (subtree_slot w) (map subtree_slot ws) refl
        spread) in
        record {
          after = page ∷ pages_of (suc d) (bare (suc d) (w ∷ ws));
          held = record {
            d = suc (suc d);
            body = record { key = low; page = page; body = bare (suc d) (w ∷ ws) } ∷ [];
            rank_is = λ lt. omega (arith, e);
            slots_are = is;
            small = subst (Each IsSlot) (sym is) (record { size = omega arith; load = range }, tt);
            spread = (((subst IsBranch content sound, lies), tt), (tt, tt), (subst (IsBetween low high) key spread.2.0, tt));
            shown = (
              (
                subst (λ cs. IsAt new page (branch cs)) content m.at,
                bare_shows new (suc d) (w ∷ ws) (shows_kept old new m.frame (suc d) (w ∷ ws) shown),
              ),
              tt,
            );
            entries_are = ap (map entry_of) (append-nil (pairs_of (suc d) (bare (suc d) (w ∷ ws))) ∙ bare_pairs (suc d) (w ∷ ws)) ∙ ee;
            pages_are = λ n. ap (λ zs. times n (page ∷ zs)) (append-nil (pages_of (suc d) (bare (suc d) (w ∷ ws))));
          };
          turned = λ n. omega (arith, ap (times n) m.made, ap (times n) m.retired, pp n, ap (times n) (bare_pages (suc d) (w ∷ ws)));
        }

-- the branch with the page of one child is held
pub amid_held : (s : Store) (base rank page : ℕ) (low : List ℕ) (high : Option (List ℕ)) (pivots : List Pivot) (at : ℕ) (entries : List Entry)
    (reached : List ℕ) (below : NodeModel) → IsPageOf rank page below → IsAmid s base low high pivots at rank entries reached below → base < rank
    → IsHeld s base low high entries reached (record { rank = rank; slots = map pivot_slot (under_key low (with_child at page pivots)) })
amid_held s base rank page low high pivots at entries reached below o m deep =
    let t : Slot = record { key = m.key; load = m.load } in
    let t' : Slot = pivot_slot (record { key = m.key; child = page }) in
    let one : IsHeld s base m.key m.between m.mid_entries m.mid_pages (record { rank = rank; slots = o.slot ∷ [] }) =
    subst (IsHeld s base m.key m.between m.mid_entries m.mid_pages) (λ i. record { rank = o.rank_is i; slots = o.slots_are i }) m.held in
    let mid = rekeyed s base m.key m.between m.mid_entries m.mid_pages rank page o.slot one deep o.load m.inside m.little in
    let back = behind_glued s base m.key m.between high m.mid_entries m.back_entries m.mid_pages m.back_pages
    (record { rank = rank; slots = t' ∷ [] }) m.right mid m.behind (within_up_to m.key m.between m.inside) in
    let both = glue_held s base low m.key high m.front_entries (m.mid_entries ++ m.back_entries) m.front_pages (m.mid_pages ++ m.back_pages)
    (record { rank = rank; slots = m.left }) (record { rank = rank; slots = (t' ∷ []) ++ m.right }) m.left_held back refl m.over m.within in
    let slots_are : m.left ++ t' ∷ m.right ≡ map pivot_slot (under_key low (with_child at page pivots)) =
    sym (ap (map pivot_slot) (under_with low pivots at page) ∙ ap (λ n. map pivot_slot (with_child n page (under_key low pivots))) (sym m.place)
    ∙ with_left (under_key low pivots) m.left m.right t page (m.parts ∙ append_assoc m.left (t ∷ []) m.right)) in
    subst (λ ss. IsHeld s base low high entries reached (record { rank = rank; slots = ss })) slots_are
    (same_held s base low high _ entries _ reached _ both m.entries_are
    (λ n. omega (arith, m.pages_are n, times_append n m.front_pages (m.mid_pages ++ m.back_pages), times_append n m.mid_pages m.back_pages)))
