-- What stands from a key on, and what is known of what is found.
use Rattle.std.proofs.Common.{◌≡◌, ℕ, suc, Bool, true, false, not, ◌&&◌, List, [], ◌∷◌, ◌++◌, length, get_or, map, take, drop, Option, Some, inl, inr, refl}
use Rattle.std.proofs.Common.{sym, ap, subst, ◌∙◌, arith}
use Rattle.std.specs.Prelude.{All}
use Rattle.std.specs.Int.{w32, to_be_bytes}
use Rattle.std.specs.List.{AllPairs}
use Rattle.std.specs.Ordering.{is_lt, ordering_reverse, ordering_then}
use Rattle.std.specs.Cmp.Lexicographic.{nat_list_cmp_total}
use Rattle.std.specs.declared.cmp.Ordering.{Ordering}
use Rattle.std.specs.declared.cmp.Ordering.TheVariants as orders
use Rattle.std.proofs.lemmas.Cmp.{nat_cmp_total, tied_itself}
use Rattle.std.proofs.lemmas.Map.Lookups.{exact_bytes}
use Rattle.bson.specs.Tree.{Pairs}
use Rattle.value_order.specs.Order.{value}
use Rattle.value_order.specs.KeyText.{tree_text}
use Rattle.value_order.specs.declared.texts.Direction.TheVariants as directions
use Rattle.value_order.proofs.KeyLaws.{texts_order}
use Rattle.tree_model.specs.Keys.{Entry, IsNotUnder, IsUnder, keep_if, key_cmp, is_within, window}
use Rattle.entries.specs.Batches.{documents_at, ListsDocumentsFrom, AllDocuments, GoesOnBehind}
use Rattle.entry_model.specs.LawfulState.{IsStorable, IsRising}
use Rattle.entry_model.specs.State.{key_of}
use Rattle.entry_model.specs.StateEntries.{key_under, document_entry}
use Rattle.entry_model.proofs.LawfulParts.{id_is_key}
use Rattle.entries.proofs.ListingLaws.{lists_documents}
use Rattle.entry_model.proofs.MemberLemmas.{Among, first_of}

-- ---- from a key on

abbrev IsAtLeast : List ℕ → List ℕ → Bool
IsAtLeast key k = not (is_lt (key_cmp k key))

less : (o : Ordering) → is_lt o ≡ true → o ≡ orders.Less
less orders.Less e = refl
less orders.Equal e = absurd cc
less orders.Greater e = absurd cc

-- what isn't below a key isn't below what is below that key
at_least_both : (low key k : List ℕ) → IsNotUnder key low → IsAtLeast key k ≡ true → IsAtLeast low k ≡ true
at_least_both low key k above at = by (is_lt (key_cmp k low)) refl
  where
    key_over : (o : Ordering) → key_cmp k low ≡ orders.Less → key_cmp k key ≡ o → IsAtLeast key k ≡ true → IsNotUnder key low → ⊥
    key_over orders.Less under is e h = let f : false ≡ true = ap (λ (o : Ordering). not (is_lt o)) (sym is) ∙ e in cc
    key_over orders.Equal under is e h = h (subst (λ (m : List ℕ). IsUnder m low) (exact_bytes k key is) under)
    key_over orders.Greater under is e h = h (nat_list_cmp_total.trans key k low (nat_list_cmp_total.antisymm key k ∙ ap ordering_reverse is) under)

    by : (b : Bool) → is_lt (key_cmp k low) ≡ b → IsAtLeast low k ≡ true
    by true is = absurd (key_over (key_cmp k key) (less (key_cmp k low) is) refl at above)
    by false is = ap not is

abbrev entries_at : List ℕ → List Entry → List Entry
entries_at key [] = []
entries_at key (x ∷ xs) = keep_if (IsAtLeast key x.key) x (entries_at key xs)

-- a window from a later key is what the window has from that key on
later_window : (low key : List ℕ) (to : Option (List ℕ)) (xs : List Entry) → IsNotUnder key low → window key to xs ≡ entries_at key (window low to xs)
later_window low key to [] above = refl
later_window low key to (x ∷ xs) above =
    by (IsAtLeast low x.key) refl (IsAtLeast key x.key) refl (is_within to x.key) (later_window low key to xs above)
  where
    by : (l : Bool) → IsAtLeast low x.key ≡ l → (k : Bool) → IsAtLeast key x.key ≡ k → (w : Bool) → window key to xs ≡ entries_at key (window low to xs)
        → keep_if (IsAtLeast key x.key && w) x (window key to xs) ≡ entries_at key (keep_if (IsAtLeast low x.key && w) x (window low to xs))
    by true is_l true is_k true later =
        ap (λ (b : Bool). keep_if (b && true) x (window key to xs)) is_k ∙ ap (λ (ys : List Entry). x ∷ ys) later
        ∙ sym (ap (λ (b : Bool). keep_if b x (entries_at key (window low to xs))) is_k)
        ∙ sym (ap (λ (b : Bool). entries_at key (keep_if (b && true) x (window low to xs))) is_l)
    by true is_l false is_k true later =
        ap (λ (b : Bool). keep_if (b && true) x (window key to xs)) is_k ∙ later
        ∙ sym (ap (λ (b : Bool). keep_if b x (entries_at key (window low to xs))) is_k)
        ∙ sym (ap (λ (b : Bool). entries_at key (keep_if (b && true) x (window low to xs))) is_l)
    by false is_l true is_k w later = absurd (let f : true ≡ false = sym (at_least_both low key x.key above is_k) ∙ is_l in cc)
    by false is_l false is_k true later =
        ap (λ (b : Bool). keep_if (b && true) x (window key to xs)) is_k ∙ later
        ∙ sym (ap (λ (b : Bool). entries_at key (keep_if (b && true) x (window low to xs))) is_l)
    by l is_l k is_k false later =
        ap (λ (b : Bool). keep_if b x (window key to xs)) (neither (IsAtLeast key x.key)) ∙ later
        ∙ sym (ap (λ (b : Bool). entries_at key (keep_if b x (window low to xs))) (neither (IsAtLeast low x.key)))
      where
        neither : (b : Bool) → (b && false) ≡ false
        neither true = refl
        neither false = refl

entries_of_documents : (number : ℕ) (key : List ℕ) (ds : List Pairs)
    → entries_at key (map (document_entry number) ds) ≡ map (document_entry number) (documents_at number key ds)
entries_of_documents number key [] = refl
entries_of_documents number key (d ∷ ds) = by (IsAtLeast key (document_entry number d).key) (entries_of_documents number key ds)
  where
    by : (b : Bool) → entries_at key (map (document_entry number) ds) ≡ map (document_entry number) (documents_at number key ds)
        → keep_if b (document_entry number d) (entries_at key (map (document_entry number) ds))
        ≡ map (document_entry number) (keep_if b d (documents_at number key ds))
    by true later = ap (λ (xs : List Entry). document_entry number d ∷ xs) later
    by false later = later

pub lists_documents_from : ListsDocumentsFrom
lists_documents_from xs cs c key h found above =
    later_window (key_under c.number 0 []) key (Some (key_under c.number 1 [])) xs above
    ∙ ap (entries_at key) (lists_documents xs cs c h found) ∙ entries_of_documents c.number key c.documents

-- ---- all of them

-- what stands before both doesn't matter
same_front : (front x y : List ℕ) → key_cmp (front ++ x) (front ++ y) ≡ key_cmp x y
same_front [] x y = refl
same_front (b ∷ front) x y =
    ap (λ (o : Ordering). ordering_then o (key_cmp (front ++ x) (front ++ y))) (tied_itself nat_cmp_total b) ∙ same_front front x y

same_numbers : (number : ℕ) (x y : List ℕ) → key_cmp (key_under number 0 x) (key_under number 0 y) ≡ key_cmp x y
same_numbers number x y =
    same_front (to_be_bytes w32 number) (to_be_bytes w32 0 ++ x) (to_be_bytes w32 0 ++ y) ∙ same_front (to_be_bytes w32 0) x y

-- a key under two numbers isn't below the first one
pub not_below_first : (number : ℕ) (text : List ℕ) → is_lt (key_cmp (key_under number 0 text) (key_under number 0 [])) ≡ false
not_below_first number text = ap is_lt (same_numbers number text []) ∙ none_below text
  where
    none_below : (t : List ℕ) → is_lt (key_cmp t []) ≡ false
    none_below [] = refl
    none_below (b ∷ bs) = refl

pub all_documents : AllDocuments
all_documents number [] = refl
all_documents number (d ∷ ds) =
    ap (λ (b : Bool). keep_if (not b) d (documents_at number (key_under number 0 []) ds)) (not_below_first number (tree_text (key_of d)))
    ∙ ap (λ (es : List Pairs). d ∷ es) (all_documents number ds)

-- ---- the rest behind some

module _ (number : ℕ) where
  abbrev key_at : Pairs → List ℕ
  key_at d = (document_entry number d).key

  abbrev AreKeyed : List Pairs → Type 0
  AreKeyed ds = AllPairs (λ d e. IsUnder (key_at d) (key_at e)) ds

  keyed : (ds : List Pairs) → IsRising ds → All IsStorable ds → AreKeyed ds
  keyed ds rising stored i j d lt below =
      let x = get_or ds i d in
      let y = get_or ds j d in
      same_numbers number (tree_text (key_of x)) (tree_text (key_of y))
      ∙ texts_order directions.Ascending (value (key_of x)) (value (key_of y)) (id_is_key x (stored i d (omega (arith, lt, below))))
      (id_is_key y (stored j d below)) ∙ rising i j d lt below

  keyed_rest : (d : Pairs) (ds : List Pairs) → AreKeyed (d ∷ ds) → AreKeyed ds
  keyed_rest d ds h = λ i j e lt below. h (suc i) (suc j) e (omega (arith, lt)) (omega (arith, below))

  -- what is among those from a key on
  pub record IsFrom (key : List ℕ) (ds : List Pairs) (x : Entry) : Type 0 where
    pub document : Pairs
    pub there : Among document ds
    pub is : x ≡ document_entry number document
    pub at_least : IsAtLeast key (key_at document) ≡ true

  is_from : (key : List ℕ) (ds : List Pairs) (x : Entry) → Among x (map (document_entry number) (documents_at number key ds)) → IsFrom key ds x
  is_from key [] x h = absurd h
  is_from key (d ∷ ds) x h = by (IsAtLeast key (key_at d)) refl h (is_from key ds x)
    where
      more : IsFrom key ds x → IsFrom key (d ∷ ds) x
      more f = record { document = f.document; there = inr f.there; is = f.is; at_least = f.at_least }

      by : (b : Bool) → IsAtLeast key (key_at d) ≡ b → Among x (map (document_entry number) (keep_if b d (documents_at number key ds)))
          → (Among x (map (document_entry number) (documents_at number key ds)) → IsFrom key ds x) → IsFrom key (d ∷ ds) x
      by true e (inl is) later = record { document = d; there = inl refl; is = is; at_least = e }
      by true e (inr g) later = more (later g)
      by false e g later = more (later g)

  -- where none is below the key these are all
  all_from : (key : List ℕ) (ds : List Pairs) → ((e : Pairs) → Among e ds → IsAtLeast key (key_at e) ≡ true) → documents_at number key ds ≡ ds
  all_from key [] h = refl
  all_from key (d ∷ ds) h =
      ap (λ (b : Bool). keep_if b d (documents_at number key ds)) (h d (inl refl)) ∙ ap (λ (es : List Pairs). d ∷ es) (all_from key ds (λ e g. h e (inr g)))

  over : (key k : List ℕ) → IsUnder key k → IsAtLeast key k ≡ true
  over key k under = ap (λ (o : Ordering). not (is_lt o)) (nat_list_cmp_total.antisymm k key ∙ ap ordering_reverse under)

  not_under_itself : (key : List ℕ) → IsAtLeast key key ≡ true
  not_under_itself key = ap (λ (o : Ordering). not (is_lt o)) (tied_itself nat_list_cmp_total key)

  -- what is above what isn't below a key isn't below that key
  at_least_above : (key k l : List ℕ) → IsAtLeast key k ≡ true → IsUnder k l → IsAtLeast key l ≡ true
  at_least_above key k l at under =
      at_least_both key k l (λ less_k. absurd (let f : false ≡ true = ap (λ (o : Ordering). not (is_lt o)) (sym less_k) ∙ at in cc)) (over k l under)

  below_it : (key k : List ℕ) → IsUnder k key → IsAtLeast key k ≡ false
  below_it key k under = ap (λ (o : Ordering). not (is_lt o)) under

  first_is : {x y : Entry} {xs ys : List Entry} → x ∷ xs ≡ y ∷ ys → x ≡ y
  first_is {x} e = ap (λ (zs : List Entry). head_or zs) e
    where
      head_or : List Entry → Entry
      head_or [] = x
      head_or (z ∷ zs) = z

  rest_is : {x y : Entry} {xs ys : List Entry} → x ∷ xs ≡ y ∷ ys → xs ≡ ys
  rest_is e = ap (λ (zs : List Entry). tail_of zs) e
    where
      tail_of : List Entry → List Entry
      tail_of [] = []
      tail_of (z ∷ zs) = zs

  in_middle : (x : Entry) (xs ys : List Entry) → Among x (xs ++ x ∷ ys)
  in_middle x [] ys = inl refl
  in_middle x (z ∷ xs) ys = inr (in_middle x xs ys)

  behind : (key : List ℕ) (ds : List Pairs) (entries others : List Entry) (next : Entry) → AreKeyed ds
      → map (document_entry number) (documents_at number key ds) ≡ entries ++ next ∷ others
      → documents_at number next.key ds ≡ drop (length entries) (documents_at number key ds)
  behind key [] [] others next h e = absurd cc
  behind key [] (x ∷ entries) others next h e = absurd cc
  behind key (d ∷ ds) entries others next h e = at_next (IsAtLeast key (key_at d)) refl entries e (λ xs f. behind key ds xs others next (keyed_rest d ds h) f)
    where
      left : List Pairs
      left = documents_at number key ds

      skipped : IsAtLeast next.key (key_at d) ≡ false → documents_at number next.key (d ∷ ds) ≡ documents_at number next.key ds
      skipped is = ap (λ (b : Bool). keep_if b d (documents_at number next.key ds)) is

      -- an entry of those behind is above the first
      above : (x : Entry) → IsFrom key ds x → IsUnder (key_at d) x.key
      above x f = subst (λ (y : Entry). IsUnder (key_at d) y.key) (sym f.is) (first_of (λ p q. IsUnder (key_at p) (key_at q)) d ds f.document h f.there)

      at_next : (b : Bool) → IsAtLeast key (key_at d) ≡ b → (xs : List Entry) → map (document_entry number) (keep_if b d left) ≡ xs ++ next ∷ others
          → ((ys : List Entry) → map (document_entry number) left ≡ ys ++ next ∷ others → documents_at number next.key ds ≡ drop (length ys) left)
          → documents_at number next.key (d ∷ ds) ≡ drop (length xs) (keep_if b d left)
      at_next false is xs f later =
          let from : IsFrom key ds next = is_from key ds next (subst (λ (ys : List Entry). Among next ys) (sym f) (in_middle next xs others)) in
          let high : IsAtLeast key next.key ≡ true = ap (λ (y : Entry). IsAtLeast key y.key) from.is ∙ from.at_least in
          skipped (under_next (key_cmp (key_at d) next.key) refl high) ∙ later xs f
        where
          under_next : (o : Ordering) → key_cmp (key_at d) next.key ≡ o → IsAtLeast key next.key ≡ true → IsAtLeast next.key (key_at d) ≡ false
          under_next orders.Less o_is high = below_it next.key (key_at d) o_is
          under_next orders.Equal o_is high =
              let same : key_at d ≡ next.key = exact_bytes (key_at d) next.key o_is in
              absurd (let g : true ≡ false = sym high ∙ ap (λ (k : List ℕ). IsAtLeast key k) (sym same) ∙ is in cc)
          under_next orders.Greater o_is high =
              let next_under : IsUnder next.key (key_at d) = nat_list_cmp_total.antisymm next.key (key_at d) ∙ ap ordering_reverse o_is in
              absurd (let g : true ≡ false = sym (at_least_above key next.key (key_at d) high next_under) ∙ is in cc)
      at_next true is [] f later =
          let here : document_entry number d ≡ next = first_is f in
          let all_above : documents_at number next.key ds ≡ ds =
          all_from next.key ds (λ x g. ap (λ (y : Entry). IsAtLeast y.key (key_at x)) (sym here)
          ∙ over (key_at d) (key_at x) (first_of (λ p q. IsUnder (key_at p) (key_at q)) d ds x h g)) in
          let all_left : left ≡ ds =
          all_from key ds (λ x g. at_least_above key (key_at d) (key_at x) is (first_of (λ p q. IsUnder (key_at p) (key_at q)) d ds x h g)) in
          ap (λ (b : Bool). keep_if b d (documents_at number next.key ds))
          (ap (λ (y : Entry). IsAtLeast y.key (key_at d)) (sym here) ∙ not_under_itself (key_at d))
          ∙ ap (λ (es : List Pairs). d ∷ es) (all_above ∙ sym all_left)
      at_next true is (x ∷ xs) f later =
          let rest = rest_is f in
          let from : IsFrom key ds next = is_from key ds next (subst (λ (ys : List Entry). Among next ys) (sym rest) (in_middle next xs others)) in
          skipped (below_it next.key (key_at d) (above next from)) ∙ later xs rest

  -- the first of a list of entries are those of its first documents
  firsts : (ds : List Pairs) (entries rest : List Entry) → map (document_entry number) ds ≡ entries ++ rest
      → entries ≡ map (document_entry number) (take (length entries) ds)
  firsts ds [] rest e = refl
  firsts [] (x ∷ entries) rest e = absurd cc
  firsts (d ∷ ds) (x ∷ entries) rest e = λ i. sym (first_is e) i ∷ firsts ds entries rest (rest_is e) i

pub goes_on_behind : GoesOnBehind
goes_on_behind number key ds entries others next rising stored e =
    let from = is_from number key ds next (subst (λ (ys : List Entry). Among next ys) (sym e) (in_middle number next entries others)) in (
      firsts number (documents_at number key ds) entries (next ∷ others) e,
      behind number key ds entries others next (keyed number ds rising stored) e,
      λ under. absurd (let g : true ≡ false =
          sym (ap is_lt under) ∙ ap (λ (x : Entry). is_lt (key_cmp x.key (key_under number 0 []))) from.is
          ∙ not_below_first number (tree_text (key_of from.document)) in cc),
    )
