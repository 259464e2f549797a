-- An entry of another `_id` stands for a key in an index where a document of another `_id` has the key.
use Rattle.std.proofs.Common.{◌≡◌, ℕ, ◌<◌, ◌^◌, ◌≢◌, Bool, true, false, not, ◌&&◌, List, [], ◌∷◌, ◌++◌, Option, Some, None, ◌⊎◌, inl, inr, refl, sym, ap, subst}
use Rattle.std.proofs.Common.{◌∙◌, arith, append_assoc}
use Rattle.std.specs.Prelude.{All, is_some, if◌then◌else◌}
use Rattle.std.specs.Int.{w32, to_be_bytes}
use Rattle.std.specs.List.{flat_map}
use Rattle.std.specs.Ordering.{is_eq, is_lt}
use Rattle.std.specs.declared.cmp.Ordering.{Ordering}
use Rattle.std.specs.declared.cmp.Ordering.TheVariants.{Less, Equal, Greater}
use Rattle.bson.specs.Tree.{Pairs}
use Rattle.value_order.specs.KeyText.{tree_text}
use Rattle.value_order.specs.Order.{compare}
use Rattle.tree_model.specs.Keys.{Entry, before, behind, change, edit_map, key_cmp, keep_if, value_at}
use Rattle.index.specs.Changes.{is_among}
use Rattle.index.specs.Definition.{Definition}
use Rattle.index.specs.KeyTexts.{key_bytes, encoded_keys}
use Rattle.entry_model.specs.LawfulState.{IsStorable, IsKept}
use Rattle.entries.specs.OtherKeys.{is_another, has_other_key, another_has, TellsOtherKey, TellsOtherPut}
use Rattle.entry_model.specs.State.{Collection, key_of}
use Rattle.entry_model.specs.StateEntries.{index_entry, index_entries, key_under, put_of, puts}
use Rattle.entries.proofs.EditLemmas.{key_itself, value_after, change_value}
use Rattle.entries.proofs.EntryLemmas.{IsOneOf, key_among, keyed_among, same_first, same_second, same_rest}
use Rattle.entry_model.proofs.LawfulParts.{same_id, same_text, kept_of, storable_of}
use Rattle.entries.proofs.ExchangeLaws.{value_entry}
use Rattle.entries.proofs.FrontLemmas.{another_told, another_there}
use Rattle.entries.proofs.HomeLemmas.{Home, number_fits, one_number}
use Rattle.entry_model.proofs.KeyOfDocument.{IsEncoded, encoded_of, same_back, test_among, among_test}
use Rattle.entry_model.proofs.MemberLemmas.{Among, among_append, among_each, among_flat, among_map, among_of, contains_of, of_all}
use Rattle.index.proofs.OrderLaws.{keys_agree}
use Rattle.entries.proofs.OtherEditLaws.{any_told, any_there, one_truth}
use Rattle.entry_model.proofs.PlaceLemmas.{found_in}
use Rattle.entries.proofs.ReadLaws.{there_of, in_map, IsUnderBoth, catalogue_under, document_under, key_under_of}
use Rattle.entries.proofs.TellingLaws.{tells_document}

front_rest : (m n : ℕ) (key rest : List ℕ) → key_under m n key ++ rest ≡ key_under m n (key ++ rest)
front_rest m n key rest =
    append_assoc (to_be_bytes w32 m) (to_be_bytes w32 n ++ key) rest ∙ ap (λ (l : List ℕ). to_be_bytes w32 m ++ l) (append_assoc (to_be_bytes w32 n) key rest)

both_true : (a b : Bool) → (a && b) ≡ true → (a ≡ true) × (b ≡ true)
both_true true b e = (refl, e)
both_true false b e = absurd cc

-- ---- documents of other `_id`s

other_id : (d e : Pairs) → IsStorable d → IsStorable e → (tree_text (key_of e) ≡ tree_text (key_of d) → ⊥) → not (is_eq (compare (key_of d) (key_of e))) ≡ true
other_id d e hd he other = by (compare (key_of d) (key_of e)) refl
  where
    by : (o : Ordering) → compare (key_of d) (key_of e) ≡ o → not (is_eq o) ≡ true
    by Less same = refl
    by Equal same = absurd (other (sym (same_text d e hd he same)))
    by Greater same = refl

other_text : (d e : Pairs) → IsStorable d → IsStorable e → not (is_eq (compare (key_of d) (key_of e))) ≡ true → tree_text (key_of e) ≡ tree_text (key_of d) → ⊥
other_text d e hd he other same =
    let f : false ≡ true = sym (ap (λ (o : Ordering). not (is_eq o)) (same_id d e hd he (sym same))) ∙ other in cc

-- ---- of one index, and a document that has the key

module _ (n : ℕ) (i : Definition) (d : Pairs) (key : List ℕ) (stored : IsStorable d) (keyed : is_among (encoded_keys i.fields d) key ≡ true) where
  own : IsEncoded i.fields key
  own = encoded_of i.fields d key stored (test_among (encoded_keys i.fields d) key keyed)

  abbrev has_it : Pairs → Bool
  has_it e = is_among (encoded_keys i.fields e) key && not (is_eq (compare (key_of d) (key_of e)))

  -- a document that has the key, by what its entry's key goes on with
  has_told : (e : Pairs) (rest : List ℕ) → IsStorable e → Among key (encoded_keys i.fields e) → rest ≡ tree_text (key_of e) → (rest ≡ tree_text (key_of d) → ⊥)
      → has_it e ≡ true
  has_told e rest he there is other =
      λ t. among_test (encoded_keys i.fields e) key there t && other_id d e stored he (λ same. other (is ∙ same)) t

  -- the key of its entry
  entry_told : (e : Pairs) → IsStorable e → has_it e ≡ true
      → is_another (key_under n i.number key) (tree_text (key_of d)) (key_under n i.number (key ++ tree_text (key_of e))) ≡ true
  entry_told e he has =
      let told = both_true (is_among (encoded_keys i.fields e) key) (not (is_eq (compare (key_of d) (key_of e)))) has in
      ap (λ (k : List ℕ). is_another (key_under n i.number key) (tree_text (key_of d)) k) (sym (front_rest n i.number key (tree_text (key_of e))))
      ∙ another_there (key_under n i.number key) (tree_text (key_of d)) (tree_text (key_of e)) (other_text d e stored he told.1)

  -- an entry of a document whose key goes on from the front is of this key
  keyed_told : (e : Pairs) (x : Entry) (rest : List ℕ) → IsStorable e → Among x (index_entries n e i) → x.key ≡ key_under n i.number key ++ rest
      → Among key (encoded_keys i.fields e) × (rest ≡ tree_text (key_of e))
  keyed_told e x rest he there is =
      let k = among_map (index_entry n i.number (key_of e)) x (encoded_keys i.fields e) there in
      let other : IsEncoded i.fields k.0 = encoded_of i.fields e k.0 he k.1 in
      let text = tree_text (key_of e) in
      let ends : k.0 ++ text ≡ key ++ rest =
      same_rest n n i.number i.number (k.0 ++ text) (key ++ rest) (sym (ap (λ (y : Entry). y.key) k.2) ∙ is ∙ front_rest n i.number key rest) in
      let same : k.0 ≡ key =
      other.is ∙ (keys_agree i.fields other.keys own.keys text rest other.spellable own.spellable).1
      ((λ t. sym other.is t ++ text) ∙ ends ∙ (λ t. own.is t ++ rest)) ∙ sym own.is in
      (subst (λ (l : List ℕ). Among l (encoded_keys i.fields e)) same k.1, sym (same_back key text rest ((λ t. sym same t ++ text) ∙ ends)))

pub tells_other_key : TellsOtherKey
tells_other_key xs cs c i d key h found listed stored keyed =
    one_truth (has_other_key c.number i.number key (tree_text (key_of d)) xs) (another_has i key (key_of d) c.documents) forth back
  where
    there : Among c cs
    there = found_in cs c.name c found

    kept : IsKept c
    kept = kept_of cs c h.lawful there

    own_key : IsEncoded i.fields key
    own_key = own c.number i d key stored keyed

    forth : has_other_key c.number i.number key (tree_text (key_of d)) xs ≡ true → another_has i key (key_of d) c.documents ≡ true
    forth t =
        let o = any_told (λ (x : Entry). is_another (key_under c.number i.number key) (tree_text (key_of d)) x.key) xs t in
        let a = another_told (key_under c.number i.number key) (tree_text (key_of d)) o.one.key o.so in
        let is : o.one.key ≡ key_under c.number i.number (key_bytes i.fields own_key.keys ++ a.rest) =
        a.is ∙ front_rest c.number i.number key a.rest ∙ ap (λ (k : List ℕ). key_under c.number i.number (k ++ a.rest)) own_key.is in
        let told = tells_document xs cs c i own_key.keys a.rest h found listed own_key.spellable o.one (contains_of xs o.one o.there) is in
        let e = told.0 in
        let here : Among e c.documents = among_of c.documents e told.1 in
        let has : Among key (encoded_keys i.fields e) =
        subst (λ (k : List ℕ). Among k (encoded_keys i.fields e)) (sym own_key.is)
        (among_of (encoded_keys i.fields e) (key_bytes i.fields own_key.keys) told.2) in
        any_there (has_it c.number i d key stored keyed) c.documents e here
        (has_told c.number i d key stored keyed e a.rest (storable_of c e kept here) has told.3 a.other)

    back : another_has i key (key_of d) c.documents ≡ true → has_other_key c.number i.number key (tree_text (key_of d)) xs ≡ true
    back t =
        let o = any_told (has_it c.number i d key stored keyed) c.documents t in
        let e = o.one in
        let has = both_true (is_among (encoded_keys i.fields e) key) (not (is_eq (compare (key_of d) (key_of e)))) o.so in
        let x : Entry = index_entry c.number i.number (key_of e) key in
        let here : Among x xs =
        in_map xs cs h c x there (keyed_among c e i key o.there (among_of c.indexes i listed) (test_among (encoded_keys i.fields e) key has.0)) in
        any_there (λ (y : Entry). is_another (key_under c.number i.number key) (tree_text (key_of d)) y.key) xs x here
        (entry_told c.number i d key stored keyed e (storable_of c e kept o.there) o.so)

-- ---- puts behind a map

kept_among : (b : Bool) (x y : Entry) (ys : List Entry) → Among x (keep_if b y ys) → (x ≡ y) ⊎ Among x ys
kept_among true x y ys h = h
kept_among false x y ys h = inr h

before_among : (key : List ℕ) (xs : List Entry) (x : Entry) → Among x (before key xs) → Among x xs
before_among key [] x h = h
before_among key (y ∷ ys) x h = elim (kept_among (is_lt (key_cmp y.key key)) x y (before key ys) h) [ inl e ↦ inl e | inr g ↦ inr (before_among key ys x g) ]

behind_among : (key : List ℕ) (xs : List Entry) (x : Entry) → Among x (behind key xs) → Among x xs
behind_among key [] x h = h
behind_among key (y ∷ ys) x h = elim (kept_among (is_lt (key_cmp key y.key)) x y (behind key ys) h) [ inl e ↦ inl e | inr g ↦ inr (behind_among key ys x g) ]

put_among : (e x : Entry) (xs : List Entry) → Among x (edit_map (put_of e) xs) → (x ≡ e) ⊎ Among x xs
put_among e x xs h = elim (among_append x (before e.key xs) (e ∷ behind e.key xs) h) [
  | inl g ↦ inr (before_among e.key xs x g)
  | inr g ↦ elim g [ inl same ↦ inl same | inr k ↦ inr (behind_among e.key xs x k) ]
]

puts_told : (es : List Entry) (x : Entry) (xs : List Entry) → Among x (change (puts es) xs) → Among x es ⊎ Among x xs
puts_told [] x xs h = inr h
puts_told (e ∷ es) x xs h = elim (puts_told es x (edit_map (put_of e) xs) h) [
  | inl g ↦ inl (inr g)
  | inr g ↦ elim (put_among e x xs g) [ inl same ↦ inl (inl same) | inr k ↦ inr k ]
]

stays_some : (k : List ℕ) (es : List Entry) (v : List ℕ) → is_some (value_after k (puts es) (Some v)) ≡ true
stays_some k [] v = refl
stays_some k (e ∷ es) v =
    elim (is_eq (key_cmp e.key k)) as (λ (b : Bool). is_some (value_after k (puts es) (if b then Some e.value else Some v)) ≡ true)
    [ true ↦ stays_some k es e.value | false ↦ stays_some k es v ]

put_some : (x : Entry) (es : List Entry) (v : Option (List ℕ)) → Among x es → is_some (value_after x.key (puts es) v) ≡ true
put_some x [] v h = absurd h
put_some x (e ∷ es) v (inl same) =
    ap (λ (b : Bool). is_some (value_after x.key (puts es) (if b then Some e.value else v)))
    (ap (λ (y : Entry). is_eq (key_cmp y.key x.key)) (sym same) ∙ key_itself x.key) ∙ stays_some x.key es e.value
put_some x (e ∷ es) v (inr h) = put_some x es (if is_eq (key_cmp e.key x.key) then Some e.value else v) h

-- at the key of an entry that is put stands one
put_there : (es xs : List Entry) (x : Entry) → Among x es → (v : List ℕ) × Among (record { key = x.key; value = v }) (change (puts es) xs)
put_there es xs x h = by (value_at x.key (change (puts es) xs)) refl
  where
    by : (o : Option (List ℕ)) → value_at x.key (change (puts es) xs) ≡ o → (v : List ℕ) × Among (record { key = x.key; value = v }) (change (puts es) xs)
    by None e = absurd (let f : true ≡ false = sym (put_some x es (value_at x.key xs) h) ∙ ap is_some (sym (change_value x.key (puts es) xs) ∙ e) in cc)
    by (Some v) e = (v, value_entry x.key v (change (puts es) xs) e)

-- Behind a map without an entry of the index, such an entry is one of a document whose entries were put.
module _ (n : ℕ) (i : Definition) (ds : List Pairs) (d : Pairs) (key : List ℕ) (xs : List Entry) (none : (x : Entry) (rest : List ℕ) → Among x xs
    → x.key ≡ key_under n i.number rest → ⊥)
    (all : All IsStorable ds) (stored : IsStorable d) (keyed : is_among (encoded_keys i.fields d) key ≡ true) where
  abbrev put_entries : List Entry
  put_entries = flat_map (λ e. index_entries n e i) ds

  put_forth : has_other_key n i.number key (tree_text (key_of d)) (change (puts put_entries) xs) ≡ true → another_has i key (key_of d) ds ≡ true
  put_forth t =
      let o = any_told (λ (x : Entry). is_another (key_under n i.number key) (tree_text (key_of d)) x.key) (change (puts put_entries) xs) t in
      let a = another_told (key_under n i.number key) (tree_text (key_of d)) o.one.key o.so in
      elim (puts_told put_entries o.one xs o.there) [
        | inl g ↦
            let e = among_flat (λ (f : Pairs). index_entries n f i) o.one ds g in
            let he : IsStorable e.0 = of_all IsStorable ds e.0 all e.1 in
            let told = keyed_told n i d key stored keyed e.0 o.one a.rest he e.2 a.is in
            any_there (has_it n i d key stored keyed) ds e.0 e.1 (has_told n i d key stored keyed e.0 a.rest he told.0 told.1 a.other)
        | inr g ↦ absurd (none o.one (key ++ a.rest) g (a.is ∙ front_rest n i.number key a.rest))
      ]

  put_back : another_has i key (key_of d) ds ≡ true → has_other_key n i.number key (tree_text (key_of d)) (change (puts put_entries) xs) ≡ true
  put_back t =
      let o = any_told (has_it n i d key stored keyed) ds t in
      let e = o.one in
      let has = both_true (is_among (encoded_keys i.fields e) key) (not (is_eq (compare (key_of d) (key_of e)))) o.so in
      let x : Entry = index_entry n i.number (key_of e) key in
      let put : Among x put_entries =
      among_each (λ (f : Pairs). index_entries n f i) x e ds o.there (key_among n i e key (test_among (encoded_keys i.fields e) key has.0)) in
      let here = put_there put_entries xs x put in
      any_there (λ (y : Entry). is_another (key_under n i.number key) (tree_text (key_of d)) y.key) (change (puts put_entries) xs)
      (record { key = x.key; value = here.0 }) here.1
      (entry_told n i d key stored keyed e (of_all IsStorable ds e all o.there) o.so)

  pub tells_put : has_other_key n i.number key (tree_text (key_of d)) (change (puts (flat_map (λ e. index_entries n e i) ds)) xs)
      ≡ another_has i key (key_of d) ds
  tells_put = one_truth (has_other_key n i.number key (tree_text (key_of d)) (change (puts put_entries) xs))
      (another_has i key (key_of d) ds) put_forth put_back

pub tells_other_put : TellsOtherPut
tells_other_put xs cs c i ds d key h found defined new all stored keyed = tells_put c.number i ds d key xs none_old all stored keyed
  where
    there : Among c cs
    there = found_in cs c.name c found

    kept : IsKept c
    kept = kept_of cs c h.lawful there

    i_fits : i.number < 2 ^ 32
    i_fits = omega (arith, defined.most)

    -- no entry of the old map is under this index
    none_old : (x : Entry) (rest : List ℕ) → Among x xs → x.key ≡ key_under c.number i.number rest → ⊥
    none_old x rest in_xs is = at home.one
      where
        home : Home cs x
        home = there_of xs cs h x in_xs

        home_kept : IsKept home.collection
        home_kept = kept_of cs home.collection h.lawful home.there

        these : (m j : ℕ) → IsUnderBoth m j x → (m ≡ c.number) × (j ≡ i.number)
        these m j u = (
          same_first m c.number j i.number u.text rest u.collection_fits (number_fits c kept) (sym u.is ∙ is),
          same_second m c.number j i.number u.text rest u.index_fits i_fits (sym u.is ∙ is),
        )

        at : IsOneOf home.collection x → ⊥
        at (inl f) = let zero = (these 0 0 (catalogue_under home.collection x f)).0 in omega (arith, zero, kept.least)
        at (inr (inl g)) = let zero = (these home.collection.number 0 (document_under home.collection x home_kept g)).1 in omega (arith, zero, defined.numbered)
        at (inr (inr k)) =
            let both = these home.collection.number k.index.number (key_under_of home.collection x home_kept k) in
            let one : home.collection ≡ c = one_number cs home.collection c h.lawful.numbers home.there there both.0 in
            of_all (λ j. j.number ≢ i.number) c.indexes k.index new (subst (λ (f : Collection). Among k.index f.indexes) one k.listed) both.1
