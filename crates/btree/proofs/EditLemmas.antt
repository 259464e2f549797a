-- Edits of a leaf's pairs.
use Rattle.std.proofs.Common.{◌≡◌, ℕ, zero, suc, ◌+◌, ◌<◌, ◌≤◌, List, [], ◌∷◌, ◌++◌, length, map, take, get_or, true, false, Option, Some, None, Result, Ok}
use Rattle.std.proofs.Common.{Err, refl, sym, ap, ◌∙◌, subst, arith, append-nil, inl, inr}
use Rattle.std.specs.List.{flat_map, insert, remove}
use Rattle.std.specs.Result.{IsErrAnd}
use Rattle.std.specs.Ordering.{is_eq}
use Rattle.std.specs.declared.cmp.Ordering.TheVariants.{Less, Equal, Greater}
use Rattle.std.specs.FinMap.{slice_cmp-IsAntisymmetric, nat_cmp-IsAntisymmetric}
use Rattle.tree_model.specs.declared.pages.TreeFault.{TreeFault}
use Rattle.page.specs.declared.cells.Cell.{Cell}
use Rattle.page.specs.Content.{Item, IsItem, inline, spilled}
use Rattle.tree_model.specs.Keys.{Pair, Entry, Edit, Each, Rises, IsBetween, IsUnder, IsNotUnder, behind, edit_map, entries_at, entry_of, key_cmp, times}
use Rattle.tree_model.specs.Search.{IsPlace}
use Rattle.tree_model.specs.Store.{Store, Frame, HasCause}
use Rattle.tree_model.specs.Tree.{HasChain, HasLinks, item_of, next_of, pair_keys, place_of}
use Rattle.tree_model.specs.declared.edit.Edit.{Edit as ProgramEdit}
use Rattle.tree_model.specs.EditView.{edit_in}
use Rattle.tree_model.specs.View.{item_in, place_in}
use Rattle.tree_model.specs.Calls.{AreRetired, IsAnswer, IsChained, IsEdited, IsSmallPlace, IsPutIn, IsStored, IsTakenOut}
use Rattle.tree_model.proofs.KeyLemmas.{not_under_cases, not_under_itself, under_trans}
use Rattle.tree_model.proofs.ListLemmas.{each_append, each_back, each_front, each_map, flat_append, map_append, long_map, at_place, rises_append, rises_back}
use Rattle.tree_model.proofs.ListLemmas.{rises_front, times_append}
use Rattle.tree_model.proofs.StoreLemmas.{cause_later, frame_trans, shows_kept}
use Rattle.btree.proofs.ChangeLemmas.{before_over, behind_under, change_append, edit_between}
use Rattle.btree.proofs.ScanLemmas.{each_entry}
use Rattle.tree_model.proofs.GetLemmas.{all_under, back_is_over, front_is_under, item_here, mid_not_under}

map_remove : {X Y : Type 0} (f : X → Y) (xs : List X) (i : ℕ) → map f (remove xs i) ≡ remove (map f xs) i
map_remove f [] zero = refl
map_remove f [] (suc i) = refl
map_remove f (x ∷ xs) zero = refl
map_remove f (x ∷ xs) (suc i) = ap (λ zs. f x ∷ zs) (map_remove f xs i)

pub remove_here : {X : Type 0} (front : List X) (x : X) (back : List X) → remove (front ++ x ∷ back) (length front) ≡ front ++ back
remove_here [] x back = refl
remove_here (f ∷ fs) x back = ap (λ zs. f ∷ zs) (remove_here fs x back)

pub same_key : (a b : List ℕ) → is_eq (key_cmp a b) ≡ true → a ≡ b
same_key a b h = slice_cmp-IsAntisymmetric nat_cmp-IsAntisymmetric a b (equal_is (key_cmp a b) h)
  where
    equal_is : (r : _) → is_eq r ≡ true → r ≡ Equal
    equal_is Less h = cc
    equal_is Equal h = refl
    equal_is Greater h = cc

pub none_retired : (s : Store) → AreRetired s s []
none_retired s = record { retired = λ n. omega arith; made = refl }

-- the place of a key among a leaf's pairs
record IsParted (pairs : List Pair) (key : List ℕ) (i : ℕ) (it : Item) : Type 0 where
  pub front : List Pair
  pub mid : Pair
  pub back : List Pair
  pub is : pairs ≡ front ++ mid ∷ back
  pub at : length front ≡ i
  pub under : Each (λ y. IsUnder y.key key) front
  pub here : IsNotUnder mid.key key
  pub over : Each (λ y. IsUnder key y.key) back
  pub item : it ≡ item_of mid

map_get : (cells : List Cell) (i : ℕ) (d : Cell) → i < length cells → get_or (map item_in cells) i (item_in d) ≡ item_in (get_or cells i d)
map_get [] i d lt = absurd (omega arith)
map_get (x ∷ xs) zero d lt = refl
map_get (x ∷ xs) (suc i) d lt = map_get xs i d (omega arith)

module _ (items : List Item) (pairs : List Pair) (key : List ℕ) (i : ℕ) (e : items ≡ map item_of pairs) (rise : Rises (pair_keys pairs))
    (place : IsPlace items key i) where
  parted : (it : Item) → i < length items → it ≡ get_or items i it → IsParted pairs key i it
  parted it lt h =
      let long : length items ≡ length pairs = ap length e ∙ long_map item_of pairs in
      let c = at_place pairs i (omega arith) in
      let items_are : items ≡ map item_of (c.front ++ c.mid ∷ c.back) = e ∙ ap (map item_of) c.is in
      let place' : IsPlace (map item_of (c.front ++ c.mid ∷ c.back)) key (length c.front) =
      subst (λ n. IsPlace (map item_of (c.front ++ c.mid ∷ c.back)) key n) (sym c.place) (subst (λ zs. IsPlace zs key i) items_are place) in
      let rise' : Rises (pair_keys (c.front ++ c.mid ∷ c.back)) = subst (λ ps. Rises (pair_keys ps)) c.is rise in
      record {
        front = c.front;
        mid = c.mid;
        back = c.back;
        is = c.is;
        at = c.place;
        under = front_is_under key c.front (c.mid ∷ c.back) rise' place';
        here = mid_not_under key c.front c.mid c.back place';
        over = back_is_over key c.front c.mid c.back rise' place';
        item = h ∙ ap (λ zs. get_or zs i it) items_are
            ∙ ap (λ n. get_or (map item_of (c.front ++ c.mid ∷ c.back)) n it) (sym c.place) ∙ item_here c.front c.mid c.back it;
      }

  pub past_taken : (s : Store) → length items ≤ i → IsTakenOut s s key pairs items i
  past_taken s le =
      let same : i ≡ length pairs = omega (arith, place.within, ap length e, long_map item_of pairs) in
      record {
        front = pairs;
        mid = [];
        back = [];
        is = sym (append-nil pairs);
        items_are = e ∙ ap (map item_of) (sym (append-nil pairs));
        place = sym same;
        under = all_under key pairs rise (λ k d h. subst (λ zs. IsUnder (get_or zs k d).key key) e (place.below k d (h ∙ sym same)));
        here = tt;
        over = tt;
        retired = none_retired s;
      }

  pub other_taken : (s : Store) (it : Item) → i < length items → it ≡ get_or items i it → is_eq (key_cmp it.key key) ≡ false → IsTakenOut s s key pairs items i
  other_taken s it lt h differs =
      let p = parted it lt h in
      let miss : is_eq (key_cmp p.mid.key key) ≡ false = ap (λ (x : Item). is_eq (key_cmp x.key key)) (sym p.item) ∙ differs in
      let over : IsUnder key p.mid.key = elim (not_under_cases p.mid.key key p.here) [ inl equal ↦ cc | inr over ↦ over ] in
      record {
        front = p.front;
        mid = [];
        back = p.mid ∷ p.back;
        is = p.is;
        items_are = e ∙ ap (map item_of) p.is;
        place = p.at;
        under = p.under;
        here = tt;
        over = (over, p.over);
        retired = none_retired s;
      }

  pub here_taken : (old new : Store) (it : Item) → i < length items → it ≡ get_or items i it → is_eq (key_cmp it.key key) ≡ true → Each (HasChain old) pairs
      → ((x : Pair) → it.place ≡ place_of x.links x.value → HasChain old x → AreRetired old new x.links) → IsTakenOut old new key pairs (remove items i) i
  here_taken old new it lt h hit shown says =
      let p = parted it lt h in
      let same : p.mid.key ≡ key = same_key p.mid.key key (ap (λ (x : Item). is_eq (key_cmp x.key key)) (sym p.item) ∙ hit) in
      let chained : HasChain old p.mid = (each_back (HasChain old) p.front (p.mid ∷ p.back) (subst (Each (HasChain old)) p.is shown)).0 in
      let gone : AreRetired old new p.mid.links = says p.mid (ap (λ (x : Item). x.place) p.item) chained in
      record {
        front = p.front;
        mid = p.mid ∷ [];
        back = p.back;
        is = p.is;
        items_are = ap (λ zs. remove zs i) (e ∙ ap (map item_of) p.is ∙ map_append item_of p.front (p.mid ∷ p.back))
            ∙ ap (λ n. remove (map item_of p.front ++ item_of p.mid ∷ map item_of p.back) n) (sym p.at ∙ sym (long_map item_of p.front))
            ∙ remove_here (map item_of p.front) (item_of p.mid) (map item_of p.back) ∙ sym (map_append item_of p.front p.back);
        place = p.at;
        under = p.under;
        here = (same, tt);
        over = p.over;
        retired = subst (AreRetired old new) (sym (append-nil p.mid.links)) gone;
      }

  pub failed_taken : {X : Type 0} (old new : Store) (it : Item) (P : X → Type 0) (r : Result X TreeFault) (f : TreeFault) → i < length items
      → it ≡ get_or items i it → Each (HasChain old) pairs → IsErrAnd r (λ g. g ≡ f)
      → ((x : Pair) → it.place ≡ place_of x.links x.value → HasChain old x → HasCause old new f) → IsAnswer old new P r
  failed_taken old new it P (Ok v) f lt h shown is says = absurd is
  failed_taken old new it P (Err g) f lt h shown is says =
      let p = parted it lt h in
      let chained : HasChain old p.mid = (each_back (HasChain old) p.front (p.mid ∷ p.back) (subst (Each (HasChain old)) p.is shown)).0 in
      subst (HasCause old new) (sym is) (says p.mid (ap (λ (x : Item). x.place) p.item) chained)

module _ (cells : List Cell) (pairs : List Pair) (key : List ℕ) (i : ℕ) (e : map item_in cells ≡ map item_of pairs) (rise : Rises (pair_keys pairs))
    (place : IsPlace (map item_in cells) key i) where
  there : (cell : Cell) → i < length cells → cell ≡ get_or cells i cell → item_in cell ≡ get_or (map item_in cells) i (item_in cell)
  there cell lt h = ap item_in h ∙ sym (map_get cells i cell lt)

  pub taken_past : (s : Store) → length cells ≤ i → IsTakenOut s s key pairs (map item_in cells) i
  taken_past s le = past_taken (map item_in cells) pairs key i e rise place s (omega (arith, long_map item_in cells))

  pub taken_other : (s : Store) (cell : Cell) → i < length cells → cell ≡ get_or cells i cell → is_eq (key_cmp cell.key.now key) ≡ false
      → IsTakenOut s s key pairs (map item_in cells) i
  taken_other s cell lt h differs =
      other_taken (map item_in cells) pairs key i e rise place s (item_in cell) (omega (arith, long_map item_in cells)) (there cell lt h) differs

  pub taken_here : (old new : Store) (cell : Cell) → i < length cells → cell ≡ get_or cells i cell → is_eq (key_cmp cell.key.now key) ≡ true
      → Each (HasChain old) pairs
      → ((x : Pair) → place_in cell.stored ≡ place_of x.links x.value → HasChain old x → AreRetired old new x.links)
      → IsTakenOut old new key pairs (map item_in (remove cells i)) i
  taken_here old new cell lt h hit shown says =
      subst (λ zs. IsTakenOut old new key pairs zs i) (sym (map_remove item_in cells i))
      (here_taken (map item_in cells) pairs key i e rise place old new (item_in cell) (omega (arith, long_map item_in cells)) (there cell lt h) hit shown says)

  pub taken_failed : (old new : Store) (cell : Cell) (r : Result ℕ TreeFault) (f : TreeFault) (items : List Item) → i < length cells
      → cell ≡ get_or cells i cell → Each (HasChain old) pairs → IsErrAnd r (λ g. g ≡ f)
      → ((x : Pair) → place_in cell.stored ≡ place_of x.links x.value → HasChain old x → HasCause old new f)
      → IsAnswer old new (λ at. IsTakenOut old new key pairs items at) r
  taken_failed old new cell r f items lt h shown is says =
      failed_taken (map item_in cells) pairs key i e rise place old new (item_in cell) (λ at. IsTakenOut old new key pairs items at) r f
      (omega (arith, long_map item_in cells)) (there cell lt h) shown is says

-- ---- a value's place

pub inlined : (s : Store) (value : List ℕ) → IsStored s s value (inline value)
inlined s value = record { links = []; is = refl; has = λ h. absurd (omega arith); made = λ n. omega arith; retired = refl }

pub chained : (old new : Store) (value : List ℕ) (len first : ℕ) → 0 < length value → len ≡ length value → IsChained old new value first
    → IsStored old new value (spilled len first)
chained old new value len first pos e c = go c.links refl
  where
    go : (links : List ℕ) → links ≡ c.links → IsStored old new value (spilled len first)
    go [] l = let none : HasLinks new [] value = subst (λ ls. HasLinks new ls value) (sym l) c.has in absurd (omega (arith, ap length none))
    go (p ∷ ps) l =
        record {
          links = p ∷ ps;
          is = ap (λ n. spilled n first) e ∙ ap (λ q. spilled (length value) q) (sym c.first ∙ ap next_of (sym l));
          has = λ h. subst (λ ls. HasLinks new ls value) (sym l) c.has;
          made = λ n. omega (arith, c.made n, ap (times n) l);
          retired = c.retired;
        }

map_insert : {X Y : Type 0} (f : X → Y) (xs : List X) (i : ℕ) (x : X) → map f (insert xs i x) ≡ insert (map f xs) i (f x)
map_insert f xs zero x = refl
map_insert f [] (suc i) x = refl
map_insert f (y ∷ ys) (suc i) x = ap (λ zs. f y ∷ zs) (map_insert f ys i x)

pub insert_here : {X : Type 0} (front : List X) (x : X) (back : List X) → insert (front ++ back) (length front) x ≡ front ++ x ∷ back
insert_here [] x back = refl
insert_here (f ∷ fs) x back = ap (λ zs. f ∷ zs) (insert_here fs x back)

pub put_in : (old new : Store) (cells : List Cell) (at : ℕ) (cell : Cell) (value : List ℕ) → IsStored old new value (place_in cell.stored)
    → IsPutIn old new cell.key.now value at (map item_in cells) (map item_in (insert cells at cell))
put_in old new cells at cell value s =
    record {
      links = s.links;
      is = map_insert item_in cells at cell ∙ ap (λ p. insert (map item_in cells) at (record { key = cell.key.now; place = p })) s.is;
      has = s.has;
      made = s.made;
      retired = s.retired;
    }

-- ---- one edit

same_not_under : (key : List ℕ) (ys : List Pair) → Each (λ y. y.key ≡ key) ys → Each (λ (y : Entry). IsNotUnder y.key key) (map entry_of ys)
same_not_under key [] h = tt
same_not_under key (y ∷ ys) h = (subst (λ k. IsNotUnder k key) (sym h.0) (not_under_itself key), same_not_under key ys h.1)

same_not_over : (key : List ℕ) (ys : List Pair) → Each (λ y. y.key ≡ key) ys → Each (λ (y : Entry). IsNotUnder key y.key) (map entry_of ys)
same_not_over key [] h = tt
same_not_over key (y ∷ ys) h = (subst (λ k. IsNotUnder key k) (sym h.0) (not_under_itself key), same_not_over key ys h.1)

-- the map after an edit at the key of what was taken out
changed : (key : List ℕ) (value : Option (List ℕ)) (pairs front mid back : List Pair) → pairs ≡ front ++ (mid ++ back) → Each (λ x. IsUnder x.key key) front
    → Each (λ x. x.key ≡ key) mid
    → Each (λ x. IsUnder key x.key) back
    → edit_map (record { key = key; value = value }) (map entry_of pairs) ≡ map entry_of front ++ (entries_at key value ++ map entry_of back)
changed key value pairs front mid back is under here over =
    let e : Edit = record { key = key; value = value } in
    ap (λ ps. edit_map e (map entry_of ps)) is
    ∙ ap (edit_map e) (map_append entry_of front (mid ++ back) ∙ ap (λ es. map entry_of front ++ es) (map_append entry_of mid back))
    ∙ edit_between e (map entry_of front) (map entry_of mid) (map entry_of back) (each_entry (λ k. IsUnder k key) front under)
    (each_entry (λ k. IsUnder key k) back over)
    ∙ ap (λ es. map entry_of front ++ (es ++ map entry_of back)) alone
  where
    alone : edit_map (record { key = key; value = value }) (map entry_of mid) ≡ entries_at key value
    alone =
        ap (λ es. es ++ (entries_at key value ++ behind key (map entry_of mid))) (before_over key (map entry_of mid) (same_not_under key mid here))
        ∙ ap (λ es. entries_at key value ++ es) (behind_under key (map entry_of mid) (same_not_over key mid here)) ∙ append-nil (entries_at key value)

links_out : (n : ℕ) (front mid back : List Pair) → times n (flat_map (λ (x : Pair). x.links) (front ++ (mid ++ back)))
    ≡ times n (flat_map (λ (x : Pair). x.links) front) + (times n (flat_map (λ (x : Pair). x.links) mid) + times n (flat_map (λ (x : Pair). x.links) back))
links_out n front mid back =
    let L : Pair → List ℕ = λ x. x.links in
    ap (times n) (flat_append L front (mid ++ back)) ∙ times_append n (flat_map L front) (flat_map L (mid ++ back))
    ∙ ap (λ k. times n (flat_map L front) + k) (ap (times n) (flat_append L mid back) ∙ times_append n (flat_map L mid) (flat_map L back))

-- any pairs in the place of what was taken out
module _ (old out new : Store) (key : List ℕ) (value : Option (List ℕ)) (pairs : List Pair) (items items' : List Item) (at : ℕ) (new_pairs : List Pair)
    (grows : Frame old new) (t : IsTakenOut old out key pairs items at) (rise : Rises (pair_keys pairs)) (shown : Each (HasChain old) pairs)
    (keys_are : Each (λ (x : Pair). x.key ≡ key) new_pairs) (few : Rises (pair_keys new_pairs)) (has : Each (HasChain new) new_pairs)
    (entries_are : map entry_of new_pairs ≡ entries_at key value)
    (items_are : items' ≡ map item_of (t.front ++ (new_pairs ++ t.back)))
    (made : (n : ℕ) → times n new.made ≡ times n (flat_map (λ (x : Pair). x.links) new_pairs) + times n out.made) (retired : new.retired ≡ out.retired) where
  keys_apart : pair_keys pairs ≡ pair_keys t.front ++ (pair_keys t.mid ++ pair_keys t.back)
  keys_apart = ap pair_keys t.is ∙ map_append (λ y. y.key) t.front (t.mid ++ t.back) ∙ ap (λ ks. pair_keys t.front ++ ks) (map_append (λ y. y.key) t.mid t.back)

  keys_now : pair_keys (t.front ++ (new_pairs ++ t.back)) ≡ pair_keys t.front ++ (pair_keys new_pairs ++ pair_keys t.back)
  keys_now = map_append (λ y. y.key) t.front (new_pairs ++ t.back) ∙ ap (λ ks. pair_keys t.front ++ ks) (map_append (λ y. y.key) new_pairs t.back)

  keyed : (P : List ℕ → Type 0) (ys : List Pair) → Each (λ (y : Pair). P y.key) ys → Each P (pair_keys ys)
  keyed P [] h = tt
  keyed P (y ∷ ys) h = (h.0, keyed P ys h.1)

  all_at : (P : List ℕ → Type 0) → P key → Each P (pair_keys new_pairs)
  all_at P h = keyed P new_pairs (each_map _ _ (λ y e. subst P (sym e) h) new_pairs keys_are)

  pub edited : IsEdited old new (record { key = key; value = value } ∷ []) pairs items'
  edited =
      let keys : Rises (pair_keys t.front ++ (pair_keys t.mid ++ pair_keys t.back)) = subst Rises keys_apart rise in
      let back_rise : Rises (pair_keys t.back) = rises_back (pair_keys t.mid) _ (rises_back (pair_keys t.front) _ keys) in
      let over : Each (IsUnder key) (pair_keys t.back) = keyed (IsUnder key) t.back t.over in
      let all : Each (HasChain new) (t.front ++ (t.mid ++ t.back)) = subst (Each (HasChain new)) t.is (shows_kept old new grows zero pairs shown) in
      record {
        pairs = t.front ++ (new_pairs ++ t.back);
        items_are = items_are;
        rise = subst Rises (sym keys_now) (rises_append (pair_keys t.front) (pair_keys new_pairs ++ pair_keys t.back) (rises_front _ _ keys)
            (rises_append (pair_keys new_pairs) (pair_keys t.back) few back_rise (all_at (λ k. Each (IsUnder k) (pair_keys t.back)) over))
            (keyed (λ k. Each (IsUnder k) (pair_keys new_pairs ++ pair_keys t.back)) t.front
            (each_map _ _
            (λ x u. each_append (IsUnder x.key) (pair_keys new_pairs) (pair_keys t.back) (all_at (IsUnder x.key) u)
            (each_map _ _ (λ k o. under_trans x.key key k u o) (pair_keys t.back) over)) t.front t.under)));
        shown = each_append (HasChain new) t.front (new_pairs ++ t.back) (each_front (HasChain new) t.front _ all)
            (each_append (HasChain new) new_pairs t.back has (each_back (HasChain new) t.mid _ (each_back (HasChain new) t.front _ all)));
        entries = map_append entry_of t.front (new_pairs ++ t.back)
            ∙ ap (λ es. map entry_of t.front ++ es) (map_append entry_of new_pairs t.back ∙ ap (λ es. es ++ map entry_of t.back) entries_are)
            ∙ sym (changed key value pairs t.front t.mid t.back t.is t.under t.here t.over);
        pages = λ n. omega (
          arith,
          t.retired.retired n,
          ap (times n) t.retired.made,
          made n,
          ap (times n) retired,
          links_out n t.front t.mid t.back,
          links_out n t.front new_pairs t.back,
          ap (λ ps. times n (flat_map (λ (x : Pair). x.links) ps)) t.is,
        );
        between = λ low high h e. subst (Each (IsBetween low high)) (sym keys_now)
            (let was : Each (IsBetween low high) (pair_keys t.front ++ (pair_keys t.mid ++ pair_keys t.back)) =
            subst (Each (IsBetween low high)) keys_apart h in
            each_append (IsBetween low high) (pair_keys t.front) (pair_keys new_pairs ++ pair_keys t.back)
            (each_front (IsBetween low high) (pair_keys t.front) _ was)
            (each_append (IsBetween low high) (pair_keys new_pairs) (pair_keys t.back) (all_at (IsBetween low high) e.0)
            (each_back (IsBetween low high) (pair_keys t.mid) _ (each_back (IsBetween low high) (pair_keys t.front) _ was))));
      }

-- a key that was removed, and one that was put in
pub removed_key : (old new : Store) (key : List ℕ) (pairs : List Pair) (items : List Item) (at : ℕ) → Frame old new → IsTakenOut old new key pairs items at
    → Rises (pair_keys pairs) → Each (HasChain old) pairs
    → IsEdited old new (record { key = key; value = None } ∷ []) pairs items
removed_key old new key pairs items at grows t rise shown =
    edited old new new key None pairs items items at [] grows t rise shown tt tt tt refl t.items_are (λ n. omega arith) refl

pub put_key : (old out new : Store) (key value : List ℕ) (pairs : List Pair) (items items' : List Item) (at : ℕ) → Frame old new
    → IsTakenOut old out key pairs items at → IsPutIn out new key value at items items'
    → Rises (pair_keys pairs) → Each (HasChain old) pairs → IsEdited old new (record { key = key; value = Some value } ∷ []) pairs items'
put_key old out new key value pairs items items' at grows t p rise shown =
    let x : Pair = record { key = key; value = value; links = p.links } in
    edited old out new key (Some value) pairs items items' at (x ∷ []) grows t rise shown (refl, tt) (tt, tt) (p.has, tt) refl
    (p.is ∙ ap (λ zs. insert zs at (item_of x)) (t.items_are ∙ map_append item_of t.front t.back)
    ∙ ap (λ n. insert (map item_of t.front ++ map item_of t.back) n (item_of x)) (sym t.place ∙ sym (long_map item_of t.front))
    ∙ insert_here (map item_of t.front) (item_of x) (map item_of t.back) ∙ sym (map_append item_of t.front (x ∷ t.back)))
    (λ n. omega (arith, p.made n, ap (times n) (append-nil p.links))) p.retired

-- one edit after others
pub edited_on : (old mid new : Store) (es : List Edit) (e : Edit) (pairs : List Pair) (items items' : List Item) (h : IsEdited old mid es pairs items)
    → IsEdited mid new (e ∷ []) h.pairs items'
    → IsEdited old new (es ++ e ∷ []) pairs items'
edited_on old mid new es e pairs items items' h g =
    record {
      pairs = g.pairs;
      items_are = g.items_are;
      rise = g.rise;
      shown = g.shown;
      entries = g.entries ∙ ap (edit_map e) h.entries ∙ sym (change_append es (e ∷ []) (map entry_of pairs));
      pages = λ n. omega (arith, h.pages n, g.pages n);
      between = λ low high b s. g.between low high (h.between low high b (each_front _ es (e ∷ []) s)) (each_back _ es (e ∷ []) s);
    }

pub edits_done : {X : Type 0} (old out new : Store) (e : Edit) (value : List ℕ) (pairs : List Pair) (items items' : List Item) (at : ℕ)
    (r : Result X TreeFault) → e.value ≡ Some value → Frame old out → Frame out new
    → IsTakenOut old out e.key pairs items at → IsAnswer out new (λ done. IsPutIn out new e.key value at items items') r → Rises (pair_keys pairs)
    → Each (HasChain old) pairs → IsAnswer old new (λ done. IsEdited old new (e ∷ []) pairs items') r
edits_done old out new e value pairs items items' at (Ok v) is g1 g2 t p rise shown =
    subst (λ (o : Option (List ℕ)). IsEdited old new (record { key = e.key; value = o } ∷ []) pairs items') (sym is)
    (put_key old out new e.key value pairs items items' at (frame_trans old out new g1 g2) t p rise shown)
edits_done old out new e value pairs items items' at (Err f) is g1 g2 t p rise shown = cause_later old out new f g1 p

pub not_edited : (s : Store) (pairs : List Pair) (items : List Item) → items ≡ map item_of pairs → Rises (pair_keys pairs) → Each (HasChain s) pairs
    → IsEdited s s [] pairs items
not_edited s pairs items e rise shown =
    record { pairs = pairs; items_are = e; rise = rise; shown = shown; entries = refl; pages = λ n. refl; between = λ low high h g. h }

-- the edits so far, with one more
pub edits_more : (es : List ProgramEdit) (i : ℕ) (d : ProgramEdit) → i < length es
    → take (i + 1) (map edit_in es) ≡ take i (map edit_in es) ++ edit_in (get_or es i d) ∷ []
edits_more [] i d lt = absurd (omega arith)
edits_more (x ∷ xs) zero d lt = refl
edits_more (x ∷ xs) (suc i) d lt =
    (let n : suc i + 1 ≡ suc (i + 1) = omega arith in ap (λ k. take k (map edit_in (x ∷ xs))) n) ∙ ap (λ zs. edit_in x ∷ zs) (edits_more xs i d (omega arith))

pub each_removed : (cells : List Cell) (i : ℕ) → Each IsItem (map item_in cells) → Each IsItem (map item_in (remove cells i))
each_removed [] zero h = tt
each_removed [] (suc i) h = tt
each_removed (x ∷ xs) zero h = h.1
each_removed (x ∷ xs) (suc i) h = (h.0, each_removed xs i h.1)

pub each_inserted : (cells : List Cell) (i : ℕ) (c : Cell) → IsItem (item_in c) → Each IsItem (map item_in cells) → Each IsItem (map item_in (insert cells i c))
each_inserted cells zero c g h = (g, h)
each_inserted [] (suc i) c g h = (g, h)
each_inserted (x ∷ xs) (suc i) c g h = (h.0, each_inserted xs i c g h.1)

pub item_small : (c : Cell) → length c.key.now ≤ 1024 → IsSmallPlace (place_in c.stored) → IsItem (item_in c)
item_small c k p = let little = p.1 in record { size = omega arith; place = p.0 }
