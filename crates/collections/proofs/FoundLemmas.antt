-- What is found in the tree is what the collections have.
use Rattle.std.proofs.Common.{◌≡◌, ℕ, zero, suc, ◌+◌, ◌<◌, ◌≤◌, true, false, List, [], ◌∷◌, ◌++◌, length, map, take, get_or, refl, sym, ◌∙◌, ap, subst, arith}
use Rattle.std.proofs.Common.{length-append, append_assoc}
use Rattle.std.specs.Prelude.{Option, Some, None, is_some, All, Result, Ok, Err}
use Rattle.std.specs.Option.{option_map}
use Rattle.std.specs.Global.{Vec}
use Rattle.std.proofs.lemmas.List.{append-nil, length-map, take_all}
use Rattle.std.proofs.lemmas.List.Elements.{All-head, All-tail}
use Rattle.bson.specs.Spelling.{frame_of, pairs_bytes}
use Rattle.bson.specs.Tree.{Pairs}
use Rattle.value_order.specs.KeyText.{tree_text}
use Rattle.path.specs.declared.refusal.Refusal.{Refusal}
use Rattle.tree_model.specs.Calls.{IsBatch}
use Rattle.tree_model.specs.Keys.{Entry, value_at, window}
use Rattle.btree.specs.Scan.{entry_in, within}
use Rattle.btree.specs.declared.scanning.Batch.{Batch}
use Rattle.btree.specs.declared.scanning.Entry.{Entry as OwnEntry}
use Rattle.btree.specs.declared.scanning.Range.{Range}
use Rattle.index.specs.Definition.{Definition}
use Rattle.entry_model.specs.LawfulState.{IsKept, IsStorable}
use Rattle.entry_model.specs.State.{Collection, find_collection, words}
use Rattle.entry_model.specs.StateEntries.{catalogue_entry, document_entry, key_under}
use Rattle.entry_model.specs.StateReads.{catalogue_bytes}
use Rattle.entries.specs.declared.catalogue_reading.Catalogued.{Catalogued}
use Rattle.entry_model.proofs.FoundLawLemmas.{found_collection, found_document}
use Rattle.entries.proofs.ListingLaws.{lists_collections}
use Rattle.entries.proofs.ReadLaws.{finds_collection, finds_document}
use Rattle.collections.specs.Lookups.{AreBytesAt, AreEach, IsBatchOf, IsInTree, IsOfCollection, IsOfDocument, IsPlaceOf, IsValueAt, OrMemory, Place}
use Rattle.collections.specs.Lookups.{catalogued_in, catalogued_of, stored_at}

-- ---- a collection by its name

module _ (now : List Collection) (name key : List ℕ) (is : key ≡ key_under 0 0 (tree_text (words name))) where
  bytes_found : (found : Option (Vec ℕ)) → IsInTree (IsValueAt key) now found
      → option_map (λ v. v.items) found ≡ option_map catalogue_bytes (find_collection now name)
  bytes_found found p =
      p.right ∙ ap (λ (k : List ℕ). value_at k p.entries) is
      ∙ finds_collection p.entries now name (record { lawful = p.state; spells = p.spells })

  pub none_told : IsInTree (IsValueAt key) now None → None ≡ option_map catalogued_in (find_collection now name)
  none_told p = by_found (find_collection now name) (bytes_found None p)
    where
      by_found : (o : Option Collection) → None ≡ option_map catalogue_bytes o → None ≡ option_map catalogued_in o
      by_found None e = refl
      by_found (Some c) e = cc

  pub one_told : (v : Vec ℕ) (r : Result Catalogued Refusal) → IsInTree (IsValueAt key) now (Some v)
      → ((c : Collection) → IsKept c → v.items ≡ (catalogue_entry c).value → OrMemory (λ told. catalogued_of told ≡ catalogued_in c) r)
      → OrMemory (λ told. Some (catalogued_of told) ≡ option_map catalogued_in (find_collection now name)) r
  one_told v r p reads = by_found (find_collection now name) refl (bytes_found (Some v) p)
    where
      in_some : (c : Collection) (r : Result Catalogued Refusal) → OrMemory (λ told. catalogued_of told ≡ catalogued_in c) r
          → OrMemory (λ told. Some (catalogued_of told) ≡ Some (catalogued_in c)) r
      in_some c (Ok told) e = ap Some e
      in_some c (Err e) is = is

      by_found : (o : Option Collection) → find_collection now name ≡ o → Some v.items ≡ option_map catalogue_bytes o
          → OrMemory (λ told. Some (catalogued_of told) ≡ option_map catalogued_in o) r
      by_found None at e = absurd cc
      by_found (Some c) at e = in_some c r (reads c (found_collection now name c p.state at).0 (unsome v.items (catalogue_bytes c) e))
        where
          unsome : (a b : List ℕ) → Some a ≡ Some b → a ≡ b
          unsome a b e = cc

-- the number alone
pub none_numbered : (o : Option Collection) → None ≡ option_map catalogued_in o → None ≡ option_map (λ c. c.number) o
none_numbered None e = refl
none_numbered (Some c) e = cc

pub one_numbered : (told : Catalogued) (o : Option Collection) → Some (catalogued_of told) ≡ option_map catalogued_in o
    → Some told.number ≡ option_map (λ c. c.number) o
one_numbered told None e = absurd cc
one_numbered told (Some c) e = ap (option_map (λ (p : ℕ × List Definition). p.0)) e

-- ---- a document by its `_id`

pub bytes_there : (now : List Collection) (number : ℕ) (text key : List ℕ) → key ≡ key_under number 0 text → (place : Place) (found : Option (Vec ℕ))
    → IsPlaceOf number text now place
    → IsInTree (IsValueAt key) now found → AreBytesAt place found
bytes_there now number text key is place found at p =
    let c = place.collection in
    let numbers : number ≡ c.number = sym at.numbered.same in
    let same : key ≡ key_under c.number 0 (tree_text place.id) = is ∙ (λ i. key_under (numbers i) 0 (at.spelled i)) in
    record {
      spelled = p.right ∙ ap (λ (k : List ℕ). value_at k p.entries) same
          ∙ finds_document p.entries now c place.id (record { lawful = p.state; spells = p.spells }) at.numbered.found at.key;
      storable = (found_collection now c.name c p.state at.numbered.found).0.storable;
    }

pub none_stored : (place : Place) → AreBytesAt place None → None ≡ stored_at place
none_stored place b = by_found (stored_at place) b.spelled
  where
    by_found : (o : Option Pairs) → None ≡ option_map (λ d. frame_of (pairs_bytes d)) o → None ≡ o
    by_found None e = refl
    by_found (Some d) e = cc

pub one_stored : (place : Place) (v : Vec ℕ) (r : Result Pairs Refusal) → AreBytesAt place (Some v)
    → ((d : Pairs) → IsStorable d → v.items ≡ frame_of (pairs_bytes d) → OrMemory (λ document. document ≡ d) r)
    → OrMemory (λ document. Some document ≡ stored_at place) r
one_stored place v r b reads = by_found (stored_at place) refl b.spelled
  where
    told : (d : Pairs) (r : Result Pairs Refusal) → OrMemory (λ document. document ≡ d) r → OrMemory (λ document. Some document ≡ Some d) r
    told d (Ok document) e = ap Some e
    told d (Err e) is = is

    by_found : (o : Option Pairs) → stored_at place ≡ o → Some v.items ≡ option_map (λ d. frame_of (pairs_bytes d)) o
        → OrMemory (λ document. Some document ≡ o) r
    by_found None at e = absurd cc
    by_found (Some d) at e =
        let same : v.items ≡ frame_of (pairs_bytes d) = cc in
        told d r (reads d (found_document place.collection.documents place.id d b.storable at).0 same)

-- ---- entries, one by one

pub record AtPlace {X Y : Type 0} (R : X → Y → Type 0) (x : X) (ys : List Y) (i : ℕ) : Type 0 where
  pub y : Y
  pub so : R x y
  pub next : take (i + 1) ys ≡ take i ys ++ y ∷ []

one_later : {Y : Type 0} (ys : List Y) (y z : Y) (i : ℕ) → take (i + 1) ys ≡ take i ys ++ z ∷ [] → take (suc i + 1) (y ∷ ys) ≡ y ∷ (take i ys ++ z ∷ [])
one_later ys y z i next =
    let sums : suc i + 1 ≡ suc (i + 1) = omega arith in
    (λ j. take (sums j) (y ∷ ys)) ∙ (λ j. y ∷ next j)

pub at_place : {X Y : Type 0} (R : X → Y → Type 0) (xs : List X) (ys : List Y) (i : ℕ) (d : X) → AreEach R xs ys → i < length xs
    → AtPlace R (get_or xs i d) ys i
at_place R [] ys i d each lt = absurd (omega (arith, lt))
at_place R (x ∷ xs) [] i d each lt = absurd each
at_place R (x ∷ xs) (y ∷ ys) zero d each lt = record { y = y; so = each.0; next = refl }
at_place R (x ∷ xs) (y ∷ ys) (suc i) d each lt =
    let there : AtPlace R (get_or xs i d) ys i = at_place R xs ys i d each.1 (omega (arith, lt)) in
    record {
      y = there.y;
      so = there.so;
      next = one_later ys y there.y i there.next;
    }

pub each_more : {X Y : Type 0} (R : X → Y → Type 0) (xs : List X) (ys : List Y) (x : X) (y : Y) → AreEach R xs ys → R x y
    → AreEach R (xs ++ x ∷ []) (ys ++ y ∷ [])
each_more R [] [] x y each so = (so, tt)
each_more R [] (z ∷ zs) x y each so = absurd each
each_more R (w ∷ ws) [] x y each so = absurd each
each_more R (w ∷ ws) (z ∷ zs) x y each so = (each.0, each_more R ws zs x y each.1 so)

pub each_length : {X Y : Type 0} (R : X → Y → Type 0) (xs : List X) (ys : List Y) → AreEach R xs ys → length xs ≡ length ys
each_length R [] [] each = refl
each_length R [] (y ∷ ys) each = absurd each
each_length R (x ∷ xs) [] each = absurd each
each_length R (x ∷ xs) (y ∷ ys) each = ap suc (each_length R xs ys each.1)

pub item_at : {X Y : Type 0} (R : X → Y → Type 0) (xs : List X) (ys : List Y) (i : ℕ) (x : X) → x ≡ get_or xs i x → AreEach R xs ys → i < length xs
    → AtPlace R x ys i
item_at R xs ys i x is each lt = subst (λ z. AtPlace R z ys i) (sym is) (at_place R xs ys i x each lt)

-- one more of what was made of each
pub made_more : {X Y Z : Type 0} (R : X → Y → Type 0) (S : Z → Y → Type 0) (xs : List X) (ys : List Y) (zs all : List Z) (i : ℕ) (x : X) (z : Z)
    → x ≡ get_or xs i x → AreEach R xs ys → i < length xs → AreEach S zs (take i ys)
    → ((y : Y) → R x y → S z y) → all ≡ zs ++ z ∷ [] → AreEach S all (take (i + 1) ys)
made_more R S xs ys zs all i x z is each lt so makes pushed =
    let there = item_at R xs ys i x is each lt in
    subst (λ ws. AreEach S ws (take (i + 1) ys)) (sym pushed)
    (subst (AreEach S (zs ++ z ∷ [])) (sym there.next) (each_more S zs (take i ys) z there.y so (makes there.y there.so)))

-- all of it
pub made_all : {X Y Z : Type 0} (R : X → Y → Type 0) (S : Z → Y → Type 0) (xs : List X) (ys : List Y) (zs : List Z) (i : ℕ) → AreEach R xs ys → length xs ≤ i
    → AreEach S zs (take i ys) → AreEach S zs ys
made_all R S xs ys zs i each le so = subst (AreEach S zs) (take_all i ys (omega (arith, le, each_length R xs ys each))) so

pub each_mapped : {X Y Z : Type 0} (f : X → Z) (g : Y → Z) (xs : List X) (ys : List Y) → AreEach (λ x y. f x ≡ g y) xs ys → map f xs ≡ map g ys
each_mapped f g [] [] each = refl
each_mapped f g [] (y ∷ ys) each = absurd each
each_mapped f g (x ∷ xs) [] each = absurd each
each_mapped f g (x ∷ xs) (y ∷ ys) each = (λ i. each.0 i ∷ each_mapped f g xs ys each.1 i)

pub each_same : {X : Type 0} (xs ys : List X) → AreEach (λ x y. x ≡ y) xs ys → xs ≡ ys
each_same [] [] each = refl
each_same [] (y ∷ ys) each = absurd each
each_same (x ∷ xs) [] each = absurd each
each_same (x ∷ xs) (y ∷ ys) each = (λ i. each.0 i ∷ each_same xs ys each.1 i)

-- the documents of the entries that are left, behind those that were made of the others
pub record AreMade (ds made : List Pairs) (left : List OwnEntry) : Type 0 where
  pub others : List Pairs
  pub each : AreEach IsOfDocument left others
  pub all : ds ≡ made ++ others

pub one_left : (ds made : List Pairs) (entry : OwnEntry) (left : List OwnEntry) → AreMade ds made (entry ∷ left)
    → (d : Pairs) × IsOfDocument entry d × ((next : List Pairs) → next ≡ made ++ d ∷ [] → AreMade ds next left)
one_left ds made entry left h = by_others h.others h.each h.all
  where
    by_others : (others : List Pairs) → AreEach IsOfDocument (entry ∷ left) others → ds ≡ made ++ others
        → (d : Pairs) × IsOfDocument entry d × ((next : List Pairs) → next ≡ made ++ d ∷ [] → AreMade ds next left)
    by_others [] each all = absurd each
    by_others (d ∷ others) each all = (
      d,
      each.0,
      λ next is. record {
        others = others;
        each = each.1;
        all = all ∙ sym (append_assoc made (d ∷ []) others) ∙ ap (λ (xs : List Pairs). xs ++ others) (sym is);
      },
    )

pub none_left : (ds made : List Pairs) (left : List OwnEntry) → left ≡ [] → AreMade ds made left → made ≡ ds
none_left ds made left none h = by_others h.others (subst (λ (es : List OwnEntry). AreEach IsOfDocument es h.others) none h.each) h.all
  where
    by_others : (others : List Pairs) → AreEach IsOfDocument [] others → ds ≡ made ++ others → made ≡ ds
    by_others [] each all = sym (all ∙ append-nil made)
    by_others (d ∷ others) each all = absurd each

front_same : {X : Type 0} (x y : X) (xs ys : List X) → x ∷ xs ≡ y ∷ ys → x ≡ y
front_same x y xs ys e = cc

rest_same : {X : Type 0} (x y : X) (xs ys : List X) → x ∷ xs ≡ y ∷ ys → xs ≡ ys
rest_same x y xs ys e = cc

pub each_document : (number : ℕ) (es : List OwnEntry) (ds : List Pairs) → map entry_in es ≡ map (document_entry number) ds → All IsStorable ds
    → AreEach IsOfDocument es ds
each_document number [] [] same all = tt
each_document number [] (d ∷ ds) same all = absurd cc
each_document number (e ∷ es) [] same all = absurd cc
each_document number (e ∷ es) (d ∷ ds) same all = (
  (
    All-head IsStorable d ds all,
    ap (λ (x : Entry). x.value) (front_same (entry_in e) (document_entry number d) (map entry_in es) (map (document_entry number) ds) same),
  ),
  each_document number es ds (rest_same (entry_in e) (document_entry number d) (map entry_in es) (map (document_entry number) ds) same)
      (All-tail IsStorable d ds all),
)

each_collection : (es : List OwnEntry) (cs : List Collection) → map entry_in es ≡ map catalogue_entry cs → All IsKept cs → AreEach IsOfCollection es cs
each_collection [] [] same kept = tt
each_collection [] (c ∷ cs) same kept = absurd cc
each_collection (e ∷ es) [] same kept = absurd cc
each_collection (e ∷ es) (c ∷ cs) same kept = (
  (All-head IsKept c cs kept, front_same (entry_in e) (catalogue_entry c) (map entry_in es) (map catalogue_entry cs) same),
  each_collection es cs (rest_same (entry_in e) (catalogue_entry c) (map entry_in es) (map catalogue_entry cs) same) (All-tail IsKept c cs kept),
)

-- ---- the whole catalogue

-- a batch that is all there is
pub whole_batch : (limit : ℕ) (all entries : List Entry) (next : Option (List ℕ)) → is_some next ≡ false → IsBatch limit all entries next → entries ≡ all
whole_batch limit all entries None end batch = batch.0
whole_batch limit all entries (Some key) end batch = absurd cc

-- there is no more where all of it finds room
pub fits_batch : (limit : ℕ) (all entries : List Entry) (next : Option (List ℕ)) → length all ≤ limit → is_some next ≡ true → IsBatch limit all entries next → ⊥
fits_batch limit all entries None few more batch = cc
fits_batch limit all entries (Some key) few more batch =
    omega (arith, few, batch.full, ap length batch.is, length-append entries (batch.next ∷ batch.others))

module _ (now : List Collection) (range : Range) (batch : Batch) (from : range.from.now ≡ key_under 0 0 [])
    (to : option_map (λ b. b.now) range.to ≡ Some (key_under 0 1 [])) (limit : range.limit ≡ 1000)
    (p : IsInTree (IsBatchOf range) now batch) where
  listed : within range p.entries ≡ map catalogue_entry now
  listed = (λ i. window (from i) (to i) p.entries) ∙ lists_collections p.entries now (record { lawful = p.state; spells = p.spells })

  some_same : is_some (option_map (λ v. v.items) batch.next) ≡ is_some batch.next
  some_same = by_next batch.next
    where
      by_next : (o : Option (Vec ℕ)) → is_some (option_map (λ v. v.items) o) ≡ is_some o
      by_next None = refl
      by_next (Some v) = refl

  pub named : is_some batch.next ≡ false → AreEach IsOfCollection batch.entries.items now
  named end =
      each_collection batch.entries.items now
      (whole_batch range.limit (within range p.entries) (map entry_in batch.entries.items) (option_map (λ v. v.items) batch.next) (some_same ∙ end) p.right
      ∙ listed) p.state.kept

  pub not_more : is_some batch.next ≡ true → ⊥
  not_more more =
      fits_batch range.limit (within range p.entries) (map entry_in batch.entries.items) (option_map (λ v. v.items) batch.next)
      (omega (arith, ap length listed, length-map now catalogue_entry, p.state.few, limit)) (some_same ∙ more) p.right
