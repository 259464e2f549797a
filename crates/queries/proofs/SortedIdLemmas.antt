-- Short documents, and that a sort orders them as the documents that they are of.
use Rattle.std.proofs.Common.{◌≡◌, ℕ, ◌+◌, ◌-◌, ◌^◌, ◌<◌, ◌≤◌, Bool, true, false, List, [], ◌∷◌, ◌++◌, length, map, take, get_or, Option, Some, None, Result}
use Rattle.std.proofs.Common.{inl, inr, Ok, Err, Vec, Global, refl, sym, ap, subst, ◌∙◌, arith, append_assoc, append-nil}
use Rattle.std.specs.Prelude.{◌⊎◌, All, Contains, codes, if◌then◌else◌, is_some, option_map, unwrap_or}
use Rattle.std.specs.List.{AllZip, filter, flat_map}
use Rattle.std.specs.Str.{bytes_eq}
use Rattle.std.specs.Ordering.{ordering_then}
use Rattle.std.specs.declared.cmp.Ordering.{Ordering}
use Rattle.std.specs.declared.cmp.Ordering.TheVariants.{Less, Equal, Greater}
use Rattle.std.proofs.lemmas.List.Elements.{AllZip-push, All-head, All-map, All-more, All-tail, All-weaker, Contains-append_left, Contains-push, filter-append}
use Rattle.std.proofs.lemmas.List.{length-map, map-append, take-map, take_all, take_more}
use Rattle.std.proofs.lemmas.Grind.{flat_map-append}
use Rattle.std.proofs.lemmas.Slice.Eq.{bytes_eq-Decides}
use Rattle.bson.specs.Lookup.{lookup}
use Rattle.bson.specs.Tree.{Tree, scalar, null, document, Pairs, no_pairs, pair, append}
use Rattle.value_order.specs.KeyText.{tree_text}
use Rattle.value_order.specs.Order.{key_cmp}
use Rattle.page.specs.History.{History}
use Rattle.collections.specs.Lookups.{ReadsOf}
use Rattle.collections.specs.State.{State}
use Rattle.entry_model.specs.State.{Collection}
use Rattle.entries.specs.declared.catalogue_reading.Catalogued.{Catalogued}
use Rattle.filter.specs.Condition.{Conditions}
use Rattle.index.specs.View.{texts_of}
use Rattle.path.specs.declared.refusal.Refusal.{Refusal}
use Rattle.filter.specs.Matches.{matches}
use Rattle.path.specs.Reach.{Reached, onwards, reach}
use Rattle.database_model.specs.Find.{matching}
use Rattle.sort.specs.Sort.{SortField, compare_by, in_direction, insert_in_order, key_among, keys_of, order, put_before, sort_key, sorted}
use Rattle.sort.specs.SortKeys.{field_of}
use Rattle.sort.specs.declared.sort.Field.{Field}
use Rattle.walks.specs.Listed.{id_text_of}
use Rattle.asked_documents.specs.Asking.{IsAsked}
use Rattle.queries.specs.Folding.{TellFirst}
use Rattle.queries.specs.SortedIds.{HasNoOther, HasSameFirst, IsPartOf, IsShortOf, KeepsShort, looked_at}
use Rattle.queries.specs.declared.sorted_ids.Shortening.{Shortening}
use Rattle.queries.proofs.OrderingLemmas.{take_whole}
use Rattle.asked_documents.proofs.ReadingLemmas.{reads_made, reads_refused}

-- ---- what a part of a document has of a name

-- what was found, else the other
abbrev pub first_found : Option Tree → Option Tree → Option Tree
first_found None other = other
first_found (Some t) other = Some t

found_in_both : (ps qs : Pairs) (name : List ℕ) → lookup (append ps qs) name ≡ first_found (lookup ps name) (lookup qs name)
found_in_both no_pairs qs name = refl
found_in_both (pair other t ps) qs name = at (bytes_eq name other) (found_in_both ps qs name)
  where
    at : (b : Bool) → lookup (append ps qs) name ≡ first_found (lookup ps name) (lookup qs name)
        → (if b then Some t else lookup (append ps qs) name) ≡ first_found (if b then Some t else lookup ps name) (lookup qs name)
    at true later = refl
    at false later = later

-- a part that grew has what the document has of a name of which it had that
pub still_same : (old new d : Pairs) (name : List ℕ) → IsPartOf old new → IsPartOf new d → lookup old name ≡ lookup d name → lookup new name ≡ lookup d name
still_same old new d name kept part same = at (lookup d name) refl (lookup new name) refl
  where
    at : (o : Option Tree) → lookup d name ≡ o → (p : Option Tree) → lookup new name ≡ p → lookup new name ≡ lookup d name
    at (Some t) is p there = kept name t (same ∙ is) ∙ sym is
    at None is None there = there ∙ sym is
    at None is (Some u) there = absurd (no (sym is ∙ part name u there))
      where
        no : None ≡ Some u → ⊥
        no e = cc

-- A part of a document has grown by what this has of a name.
pub record Grows (name : List ℕ) (d old new : Pairs) : Type 0 where
  pub part : IsPartOf new d
  pub kept : IsPartOf old new
  pub same : lookup new name ≡ lookup d name
  pub only : HasNoOther name old new

module _ (old : Pairs) (name : List ℕ) (t : Tree) where
  abbrev grown : Pairs
  grown = append old (pair name t no_pairs)

  -- what was found before, else the value under its name
  found_then : (other : List ℕ) → lookup grown other ≡ first_found (lookup old other) (if bytes_eq other name then Some t else None)
  found_then other = found_in_both old (pair name t no_pairs) other

  -- what is found was there, or is the value
  old_or_new : (other : List ℕ) (u : Tree) → lookup grown other ≡ Some u → (lookup old other ≡ Some u) ⊎ ((other ≡ name) × (t ≡ u))
  old_or_new other u e = at (lookup old other) refl (bytes_eq other name) refl (sym (found_then other) ∙ e)
    where
      at : (o : Option Tree) → lookup old other ≡ o → (b : Bool) → bytes_eq other name ≡ b
          → first_found (lookup old other) (if bytes_eq other name then Some t else None) ≡ Some u → (lookup old other ≡ Some u) ⊎ ((other ≡ name) × (t ≡ u))
      at (Some v) is b eq found = inl (is ∙ sym (ap (λ (o : Option Tree). first_found o (if bytes_eq other name then Some t else None)) is) ∙ found)
      at None is true eq found =
          inr ((bytes_eq-Decides other name).0 eq, one (sym (λ i. first_found (is i) (if eq i then Some t else None)) ∙ found))
        where
          one : Some t ≡ Some u → t ≡ u
          one e = cc
      at None is false eq found = absurd (no (sym (λ i. first_found (is i) (if eq i then Some t else None)) ∙ found))
        where
          no : None ≡ Some u → ⊥
          no e = cc

  pub grows : (d : Pairs) → IsPartOf old d → lookup old name ≡ None → lookup d name ≡ Some t → Grows name d old grown
  grows d h new has = record {
    part = λ other u e. there other u (old_or_new other u e);
    kept = λ other u e. found_then other ∙ ap (λ (o : Option Tree). first_found o (if bytes_eq other name then Some t else None)) e;
    same = found_then name ∙ (λ i. first_found (new i) (if own i then Some t else None)) ∙ sym has;
    only = λ other u e. named other u (old_or_new other u e);
  }
    where
      own : bytes_eq name name ≡ true
      own = (bytes_eq-Decides name name).1 refl

      there : (other : List ℕ) (u : Tree) → (lookup old other ≡ Some u) ⊎ ((other ≡ name) × (t ≡ u)) → lookup d other ≡ Some u
      there other u (inl before) = h other u before
      there other u (inr (same, is)) = ap (lookup d) same ∙ has ∙ ap Some is

      named : (other : List ℕ) (u : Tree) → (lookup old other ≡ Some u) ⊎ ((other ≡ name) × (t ≡ u)) → (lookup old other ≡ Some u) ⊎ (other ≡ name)
      named other u (inl before) = inl before
      named other u (inr (same, is)) = inr same

-- nothing was found of a name
pub none_there : {X : Type 0} (view : X → Tree) (found : Option X) (o : Option Tree) → option_map view found ≡ o → is_some found ≡ false → o ≡ None
none_there view None o is none = sym is
none_there view (Some x) o is none = absurd cc

-- ---- as far as the sort's fields were met

-- the names that were met
abbrev pub met : List Field → ℕ → List (List ℕ)
met fields i = looked_at (map field_of (take i fields))

pub record IsShortSoFar (fields : List Field) (i : ℕ) (d short : Pairs) : Type 0 where
  pub part : IsPartOf short d
  pub id : lookup short (codes "_id") ≡ lookup d (codes "_id")
  pub same : All (λ f. HasSameFirst f.path d short) (take i fields)
  pub only : (name : List ℕ) (t : Tree) → lookup short name ≡ Some t → Contains (met fields i) name

pub short_begun : (fields : List Field) (d old new : Pairs) → old ≡ no_pairs → IsPartOf new d → lookup new (codes "_id") ≡ lookup d (codes "_id")
    → HasNoOther (codes "_id") old new → IsShortSoFar fields 0 d new
short_begun fields d old new empty part same only = record {
  part = part;
  id = same;
  same = λ k f below. absurd (omega (arith, below));
  only = λ name t e. at name t (only name t e);
}
  where
    at : (name : List ℕ) (t : Tree) → (lookup old name ≡ Some t) ⊎ (name ≡ codes "_id") → Contains (met fields 0) name
    at name t (inl before) = absurd (no (sym (ap (λ (ps : Pairs). lookup ps name) empty) ∙ before))
      where
        no : None ≡ Some t → ⊥
        no e = cc
    at name t (inr is) = (0, omega arith, sym is)

met_more : (fields : List Field) (i : ℕ) (f : Field) (name : List ℕ) (names : List (List ℕ)) → i < length fields → f ≡ get_or fields i f
    → name ∷ names ≡ f.path → met fields (i + 1) ≡ met fields i ++ name ∷ []
met_more fields i f name names below is path =
    ap (λ (fs : List Field). looked_at (map field_of fs)) (take_more fields i f below ∙ ap (λ (g : Field). take i fields ++ g ∷ []) (sym is))
    ∙ ap looked_at (map-append field_of (take i fields) (f ∷ []))
    ∙ ap (λ (ns : List (List ℕ)). codes "_id" ∷ ns) (flat_map-append (λ (field : SortField). take 1 field.0) (map field_of (take i fields)) (field_of f ∷ []))
    ∙ ap (λ (p : List (List ℕ)). met fields i ++ (take 1 p ++ [])) (sym path)

still_first : (path : List (List ℕ)) (old new d : Pairs) → IsPartOf old new → IsPartOf new d → HasSameFirst path d old → HasSameFirst path d new
still_first [] old new d kept part h = h
still_first (name ∷ names) old new d kept part h = still_same old new d name kept part h

pub short_further : (fields : List Field) (i : ℕ) (f : Field) (name : List ℕ) (names : List (List ℕ)) (d old new : Pairs) → i < length fields
    → f ≡ get_or fields i f → name ∷ names ≡ f.path → IsPartOf old new → IsPartOf new d → lookup new name ≡ lookup d name → HasNoOther name old new
    → IsShortSoFar fields i d old → IsShortSoFar fields (i + 1) d new
short_further fields i f name names d old new below is path kept part same only h =
    let Same : Pairs → Field → Type 0 = λ s g. HasSameFirst g.path d s in
    let here : HasSameFirst f.path d new = subst (λ (p : List (List ℕ)). HasSameFirst p d new) path same in
    record {
      part = part;
      id = still_same old new d (codes "_id") kept part h.id;
      same = All-more (Same new) fields i f below
          (All-weaker (Same old) (Same new) (λ g. still_first g.path old new d kept part) (take i fields) h.same) (subst (Same new) is here);
      only = λ other t e. subst (λ (ns : List (List ℕ)). Contains ns other) (sym (met_more fields i f name names below is path)) (at other t (only other t e));
    }
  where
    at : (other : List ℕ) (t : Tree) → (lookup old other ≡ Some t) ⊎ (other ≡ name) → Contains (met fields i ++ name ∷ []) other
    at other t (inl before) = Contains-append_left (met fields i) (name ∷ []) other (h.only other t before)
    at other t (inr eq) = subst (Contains (met fields i ++ name ∷ [])) (sym eq) (Contains-push (met fields i) name)

pub short_whole : (fields : List Field) (sort : List SortField) (i : ℕ) (d short : Pairs) → map field_of fields ≡ sort → length fields ≤ i
    → IsShortSoFar fields i d short → IsShortOf sort d short
short_whole fields sort i d short is past h = record {
  id = h.id;
  fields = subst (All (λ field. HasSameFirst field.0 d short)) is
      (All-map (λ (field : SortField). HasSameFirst field.0 d short) field_of fields
      (subst (All (λ (f : Field). HasSameFirst f.path d short)) (take_all i fields past) h.same));
  only = λ name t e. subst (λ (fields : List SortField). Contains (looked_at fields) name) (ap (map field_of) (take_all i fields past) ∙ is) (h.only name t e);
}

-- ---- a sort orders them alike

same_reached : (path : List (List ℕ)) (d s : Pairs) → HasSameFirst path d s → reach path (document s) ≡ reach path (document d)
same_reached [] d s h = absurd h
same_reached (name ∷ names) d s h = ap (λ (o : Option Tree). onwards (reach names) o (None ∷ [])) h

same_key : (field : SortField) (d s : Pairs) → HasSameFirst field.0 d s → sort_key field s ≡ sort_key field d
same_key field d s h = ap (λ (rs : List Reached). key_among field.1 (flat_map keys_of rs)) (same_reached field.0 d s h)

pub compares_alike : (sort : List SortField) (d s e t : Pairs) → All (λ field. HasSameFirst field.0 d s) sort → All (λ field. HasSameFirst field.0 e t) sort
    → compare_by sort s t ≡ compare_by sort d e
compares_alike [] d s e t h k = refl
compares_alike (field ∷ fields) d s e t h k =
    let Same : Pairs → Pairs → SortField → Type 0 = λ d s field. HasSameFirst field.0 d s in
    let one = same_key field d s (All-head (Same d s) field fields h) in
    let other = same_key field e t (All-head (Same e t) field fields k) in
    let later = compares_alike fields d s e t (All-tail (Same d s) field fields h) (All-tail (Same e t) field fields k) in
    (λ i. ordering_then (in_direction field.1 (key_cmp (one i) (other i))) (later i))

-- elements are ordered as those that they stand beside, where they compare alike
module _ {X : Type 0} (R : X → X → Type 0) (cmp : X → X → Ordering) (alike : (x s y t : X) → R x s → R y t → cmp s t ≡ cmp x y) where
  each_inserted : (x s : X) (xs ss : List X) → R x s → AllZip R xs ss → AllZip R (insert_in_order cmp x xs) (insert_in_order cmp s ss)
  each_inserted x s [] [] one each = (one, tt)
  each_inserted x s [] (t ∷ ss) one each = absurd each
  each_inserted x s (y ∷ xs) [] one each = absurd each
  each_inserted x s (y ∷ xs) (t ∷ ss) one each =
      subst (λ (o : Ordering). AllZip R (put_before (cmp x y) x y (insert_in_order cmp x xs) xs) (put_before o s t (insert_in_order cmp s ss) ss))
      (sym (alike x s y t one each.0)) (at (cmp x y) (each_inserted x s xs ss one each.1))
    where
      at : (o : Ordering) → AllZip R (insert_in_order cmp x xs) (insert_in_order cmp s ss)
          → AllZip R (put_before o x y (insert_in_order cmp x xs) xs) (put_before o s t (insert_in_order cmp s ss) ss)
      at Greater later = (each.0, later)
      at Less later = (one, each)
      at Equal later = (one, each)

  pub each_sorted : (xs ss : List X) → AllZip R xs ss → AllZip R (sorted cmp xs) (sorted cmp ss)
  each_sorted [] [] each = tt
  each_sorted [] (s ∷ ss) each = absurd each
  each_sorted (x ∷ xs) [] each = absurd each
  each_sorted (x ∷ xs) (s ∷ ss) each = each_inserted x s (sorted cmp xs) (sorted cmp ss) each.0 (each_sorted xs ss each.1)

same_text : (sort : List SortField) (d s : Pairs) → IsShortOf sort d s → id_text_of s ≡ id_text_of d
same_text sort d s h = ap (λ (o : Option Tree). tree_text (unwrap_or o (scalar null))) h.id

same_texts : (sort : List SortField) (ds ss : List Pairs) → AllZip (IsShortOf sort) ds ss → map id_text_of ss ≡ map id_text_of ds
same_texts sort [] [] each = refl
same_texts sort [] (s ∷ ss) each = absurd each
same_texts sort (d ∷ ds) [] each = absurd each
same_texts sort (d ∷ ds) (s ∷ ss) each = (λ i. same_text sort d s each.0 i ∷ same_texts sort ds ss each.1 i)

-- the `_id`s of short documents in the order of the sort are those of the documents in that order
pub sorted_alike : (sort : List SortField) (ds ss : List Pairs) → AllZip (IsShortOf sort) ds ss
    → map id_text_of (order sort ss) ≡ map id_text_of (order sort ds)
sorted_alike sort ds ss each =
    same_texts sort (order sort ds) (order sort ss)
    (each_sorted (IsShortOf sort) (compare_by sort) (λ d s e t h k. compares_alike sort d s e t h.fields k.fields) ds ss each)

-- ---- documents that are lent

module _ (start now : Shortening) (all : List Pairs) (d : Pairs) (h : KeepsShort start all now) where
  one_more : d ∷ [] ≡ filter (matches now.filter.now) (d ∷ []) → matching start.filter.now all ++ d ∷ [] ≡ matching start.filter.now (all ++ d ∷ [])
  one_more is =
      ap (λ (ds : List Pairs). matching start.filter.now all ++ ds) (is ∙ ap (λ (rs : Conditions). filter (matches rs) (d ∷ [])) h.filter)
      ∙ sym (filter-append (matches start.filter.now) all (d ∷ []))

  -- some that came too late were let go, and its short one was put behind the others
  pub one_shortened : (short : Pairs) (kept : List Pairs) (next : Shortening) → d ∷ [] ≡ filter (matches now.filter.now) (d ∷ [])
      → IsShortOf now.sort.now d short → TellFirst now.sort.now now.most kept now.found.items → next.filter.now ≡ now.filter.now
      → next.sort.now ≡ now.sort.now → next.most ≡ now.most → next.found.items ≡ kept ++ short ∷ [] → KeepsShort start (all ++ d ∷ []) next
  one_shortened short kept next is one tell same_filter same_sort same_most put = record {
    filter = same_filter ∙ h.filter;
    sort = same_sort ∙ h.sort;
    most = same_most ∙ h.most;
    shorts = h.shorts ++ short ∷ [];
    each = subst (λ (ds : List Pairs). AllZip (IsShortOf start.sort.now) ds (h.shorts ++ short ∷ [])) (one_more is)
        (AllZip-push (IsShortOf start.sort.now) (matching start.filter.now all) h.shorts d short h.each
        (subst (λ (sort : List SortField). IsShortOf sort d short) h.sort one));
    first = λ others.
        let others_too = short ∷ others in
        ap (λ (ys : List Pairs). front (ys ++ others)) put ∙ ap front (append_assoc kept (short ∷ []) others) ∙ told others_too ∙ h.first others_too
        ∙ ap front (append_assoc start.found.items h.shorts others_too
        ∙ ap (λ (ys : List Pairs). start.found.items ++ ys) (sym (append_assoc h.shorts (short ∷ []) others))
        ∙ sym (append_assoc start.found.items (h.shorts ++ short ∷ []) others));
  }
    where
      front : List Pairs → List Pairs
      front ds = take start.most (order start.sort.now ds)

      told : (others : List Pairs) → front (kept ++ others) ≡ front (now.found.items ++ others)
      told others =
          subst (λ (m : ℕ). take m (order start.sort.now (kept ++ others)) ≡ take m (order start.sort.now (now.found.items ++ others))) h.most
          (subst (λ (sort : List SortField). take now.most (order sort (kept ++ others)) ≡ take now.most (order sort (now.found.items ++ others))) h.sort
          (tell others))

-- the first `_id`s
pub first_alike : (sort : List SortField) (most : ℕ) (ds ss : List Pairs) → AllZip (IsShortOf sort) ds ss
    → map id_text_of (take most (order sort ss)) ≡ map id_text_of (take most (order sort ds))
first_alike sort most ds ss each =
    sym (take-map id_text_of most (order sort ss)) ∙ ap (take most) (sorted_alike sort ds ss each) ∙ take-map id_text_of most (order sort ds)

-- of all documents that were lent
pub all_shortened : (start now : Shortening) (all : List Pairs) → start.found.items ≡ [] → KeepsShort start all now
    → map id_text_of (take start.most (order start.sort.now now.found.items))
    ≡ map id_text_of (take start.most (order start.sort.now (matching start.filter.now all)))
all_shortened start now all none h =
    ap (map id_text_of)
    (ap (λ (ys : List Pairs). take start.most (order start.sort.now ys)) (sym (append-nil now.found.items)) ∙ h.first []
    ∙ ap (λ (ys : List Pairs). take start.most (order start.sort.now ys))
    (append-nil (start.found.items ++ h.shorts) ∙ ap (λ (ys : List Pairs). ys ++ h.shorts) none))
    ∙ first_alike start.sort.now start.most (matching start.filter.now all) h.shorts h.each

-- ---- all of them

module _ {D : Type 0} (history : D → History) (home : Catalogued) (rules : Conditions) (sort : List SortField) (old new : State D) where
  -- the texts are those of so many in the order
  abbrev AreOf : (List Pairs → List Pairs) → List Collection → Collection → Vec (Vec ℕ Global) Global → Type 0
  AreOf some now c ids = texts_of ids.items ≡ map id_text_of (some (order sort (matching rules c.documents)))

  -- as many as a vector may have are all
  pub all_ordered : (r : Result (Vec (Vec ℕ Global) Global) Refusal) → ReadsOf history (IsAsked home) (AreOf (take (2 ^ 64 - 1))) r old new
      → ReadsOf history (IsAsked home) (AreOf (λ ds. ds)) r old new
  all_ordered (Ok ids) reads =
      reads_made history (IsAsked home) (AreOf (take (2 ^ 64 - 1))) (AreOf (λ ds. ds)) old new ids ids reads
      (λ now c asked is.
      let all = order sort (matching rules c.documents) in
      let many : length ids.items ≡ length (take (2 ^ 64 - 1) all) =
      sym (length-map ids.items (λ (v : Vec ℕ Global). v.items)) ∙ ap length is ∙ length-map (take (2 ^ 64 - 1) all) id_text_of in
      is ∙ ap (map id_text_of) (take_whole (2 ^ 64 - 1) all (omega (arith, many, ids.ok.0, ids.ok.1, ids.small))))
  all_ordered (Err e) reads = reads_refused history (IsAsked home) (AreOf (take (2 ^ 64 - 1))) (AreOf (λ ds. ds)) old new e reads
