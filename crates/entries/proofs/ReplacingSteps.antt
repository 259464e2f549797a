-- A document in place of another of its `_id`.
use Rattle.std.proofs.Common.{◌≡◌, ℕ, Bool, true, false, List, [], ◌∷◌, ◌++◌, ◌⊎◌, inl, inr, refl, sym, ap, subst, ◌∙◌}
use Rattle.std.specs.List.{flat_map}
use Rattle.std.specs.declared.cmp.Ordering.TheVariants.{Equal}
use Rattle.bson.specs.Tree.{Pairs}
use Rattle.value_order.specs.Order.{compare}
use Rattle.value_order.specs.KeyText.{tree_text}
use Rattle.tree_model.specs.Keys.{Entry}
use Rattle.index.specs.Changes.{is_among, without}
use Rattle.index.specs.Definition.{Definition}
use Rattle.index.specs.KeyTexts.{encoded_keys, entry_key}
use Rattle.entry_model.specs.State.{Collection, key_of}
use Rattle.entry_model.specs.StateEntries.{key_under, document_entry, index_entry, index_entries, document_entries, collection_entries}
use Rattle.entry_model.specs.LawfulState.{IsKept}
use Rattle.entry_model.specs.StateLaws.{own_entries, ReplacesDocument}
use Rattle.entry_model.proofs.MemberLemmas.{Among, among_map, among_image, among_flat, among_each}
use Rattle.entries.proofs.ExchangeLaws.{HasKey}
use Rattle.entries.proofs.EntryLemmas.{IsKeyOf, IsOneOf, one_of, keyed_among, document_among}
use Rattle.entry_model.proofs.LawfulParts.{same_text, storable_of}
use Rattle.entries.proofs.HomeLemmas.{one_document, one_index, document_or_key, same_index, same_ends, inside_of, not_inside}
use Rattle.entries.proofs.StepLemmas.{Exchanged, exchanged_leads, old_kept}
use Rattle.entry_model.proofs.KeyOfDocument.{test_among, among_test, among_without, without_among, same_keys, among_middle, among_around, among_there}

-- an entry of a key of the one document alone, or of both
record IsOwn (n : ℕ) (all : List Definition) (d other : Pairs) (x : Entry) : Type 0 where
  index : Definition
  listed : Among index all
  key : List ℕ
  keyed : Among key (encoded_keys index.fields d)
  apart : is_among (encoded_keys index.fields other) key ≡ false
  is : x ≡ index_entry n index.number (key_of d) key

own_of : (n : ℕ) (is : List Definition) (d other : Pairs) (x : Entry) → Among x (flat_map (own_entries n d other) is) → IsOwn n is d other x
own_of n is d other x h =
    let i = among_flat (own_entries n d other) x is h in
    let k = among_map (index_entry n i.0.number (key_of d)) x (without (encoded_keys i.0.fields d) (encoded_keys i.0.fields other)) i.2 in
    let told = without_among (encoded_keys i.0.fields d) (encoded_keys i.0.fields other) k.0 k.1 in
    record { index = i.0; listed = i.1; key = k.0; keyed = told.0; apart = told.1; is = k.2 }

own_among : (n : ℕ) (is : List Definition) (d other : Pairs) (i : Definition) (key : List ℕ) → Among i is → Among key (encoded_keys i.fields d)
    → is_among (encoded_keys i.fields other) key ≡ false
    → Among (index_entry n i.number (key_of d) key) (flat_map (own_entries n d other) is)
own_among n is d other i key listed keyed apart =
    let x = index_entry n i.number (key_of d) key in
    among_each (own_entries n d other) x i is listed
    (among_image (index_entry n i.number (key_of d)) key (without (encoded_keys i.fields d) (encoded_keys i.fields other))
    (among_without (encoded_keys i.fields d) (encoded_keys i.fields other) key keyed apart))

-- entries for one key of two documents with one text
one_entry : (n i : ℕ) (d e : Pairs) (key : List ℕ) → tree_text (key_of d) ≡ tree_text (key_of e)
    → index_entry n i (key_of d) key ≡ index_entry n i (key_of e) key
one_entry n i d e key same = λ t. record { key = entry_key n i key (same t); value = [] }

-- what stands with a document in place of another, but for its own entries
with_other : (c now : Collection) (front back : List Pairs) (old new : Pairs) → c.number ≡ now.number → c.indexes ≡ now.indexes
    → c.documents ≡ front ++ old ∷ back → now.documents ≡ front ++ new ∷ back
    → tree_text (key_of old) ≡ tree_text (key_of new) → (x : Entry) → Among x (flat_map (document_entries c.number c.indexes) c.documents)
    → (x ≡ document_entry c.number old) ⊎ (Among x (flat_map (own_entries c.number old new) c.indexes) ⊎ Among x (collection_entries now))
with_other c now front back old new numbered listed split then same x h = by e.0 e.1 e.2
  where
    e : (e : Pairs) × Among e c.documents × Among x (document_entries c.number c.indexes e)
    e = among_flat (document_entries c.number c.indexes) x c.documents h

    of_now : (d : Pairs) → Among d now.documents → Among x (document_entries c.number c.indexes d) → Among x (collection_entries now)
    of_now d there g =
        inr (among_each (document_entries now.number now.indexes) x d now.documents there
        (subst (λ (n : ℕ). Among x (document_entries n now.indexes d)) numbered
        (subst (λ (is : List Definition). Among x (document_entries c.number is d)) listed g)))

    new_there : Among new now.documents
    new_there = subst (λ (ds : List Pairs). Among new ds) (sym then) (among_there new front back)

    keyed : (i : Definition) → Among i c.indexes → (key : List ℕ) → Among key (encoded_keys i.fields old) → x ≡ index_entry c.number i.number (key_of old) key
        → (b : Bool) → is_among (encoded_keys i.fields new) key ≡ b
        → (x ≡ document_entry c.number old) ⊎ (Among x (flat_map (own_entries c.number old new) c.indexes) ⊎ Among x (collection_entries now))
    keyed i there key found is true both =
        inr (inr (of_now new new_there (inr (among_each (index_entries c.number new) x i c.indexes there
        (subst (λ (y : Entry). Among y (index_entries c.number new i)) (sym (is ∙ one_entry c.number i.number old new key same))
        (among_image (index_entry c.number i.number (key_of new)) key (encoded_keys i.fields new) (test_among (encoded_keys i.fields new) key both)))))))
    keyed i there key found is false alone =
        inr (inl (subst (λ (y : Entry). Among y (flat_map (own_entries c.number old new) c.indexes)) (sym is)
        (own_among c.number c.indexes old new i key there found alone)))

    of_old : Among x (document_entries c.number c.indexes old)
        → (x ≡ document_entry c.number old) ⊎ (Among x (flat_map (own_entries c.number old new) c.indexes) ⊎ Among x (collection_entries now))
    of_old (inl f) = inl f
    of_old (inr g) =
        let i = among_flat (index_entries c.number old) x c.indexes g in
        let k = among_map (index_entry c.number i.0.number (key_of old)) x (encoded_keys i.0.fields old) i.2 in
        keyed i.0 i.1 k.0 k.1 k.2 (is_among (encoded_keys i.0.fields new) k.0) refl

    by : (d : Pairs) → Among d c.documents → Among x (document_entries c.number c.indexes d)
        → (x ≡ document_entry c.number old) ⊎ (Among x (flat_map (own_entries c.number old new) c.indexes) ⊎ Among x (collection_entries now))
    by d there g = elim (among_middle d old front back (subst (λ (ds : List Pairs). Among d ds) split there)) [
      | inl is_old ↦ of_old (subst (λ (f : Pairs). Among x (document_entries c.number c.indexes f)) is_old g)
      | inr other ↦ inr (inr (of_now d (subst (λ (ds : List Pairs). Among d ds) (sym then) (among_around d new front back other)) g))
    ]

module _ (c : Collection) (front back : List Pairs) (old new : Pairs) (split : c.documents ≡ front ++ old ∷ back) (kept : IsKept c)
    (still : IsKept (record c { documents = front ++ new ∷ back })) (equal : compare (key_of old) (key_of new) ≡ Equal) where
  abbrev now : Collection
  now = record c { documents = front ++ new ∷ back }

  abbrev gone : List Entry
  gone = flat_map (own_entries c.number old new) c.indexes

  abbrev put : List Entry
  put = document_entry c.number new ∷ flat_map (own_entries c.number new old) c.indexes

  old_there : Among old c.documents
  old_there = subst (λ (ds : List Pairs). Among old ds) (sym split) (among_there old front back)

  new_there : Among new now.documents
  new_there = among_there new front back

  same : tree_text (key_of old) ≡ tree_text (key_of new)
  same = same_text old new (storable_of c old kept old_there) (storable_of now new still new_there) equal

  left_one : (x : Entry) → Among x (collection_entries c) → HasKey x.key gone ⊎ (HasKey x.key put ⊎ Among x (collection_entries now))
  left_one x (inl e) = inr (inr (inl e))
  left_one x (inr g) = elim (with_other c now front back old new refl refl split refl same x g) [
    | inl e ↦ inr (inl (document_entry c.number new, inl refl, sym (ap (λ (z : Entry). z.key) e ∙ ap (λ (text : List ℕ). key_under c.number 0 text) same)))
    | inr more ↦ elim more [ inl own ↦ inl (x, own, refl) | inr there ↦ inr (inr there) ]
  ]

  from_one : (x : Entry) → Among x (collection_entries now) → Among x put ⊎ Among x (collection_entries c)
  from_one x (inl e) = inr (inl e)
  from_one x (inr g) = elim (with_other now c front back new old refl refl refl split (sym same) x g) [
    | inl e ↦ inl (inl e)
    | inr more ↦ elim more [ inl own ↦ inl (inr own) | inr there ↦ inr there ]
  ]

  -- an entry that is removed is none of those afterwards
  away_one : (x g : Entry) → IsOneOf now x → IsOwn c.number c.indexes old new g → g.key ≡ x.key → ⊥
  away_one x g p own is = by p
    where
      of_c : IsKeyOf c g
      of_c = record { document = old; there = old_there; index = own.index; listed = own.listed; key = own.key; keyed = own.keyed; is = own.is }

      keyed : IsKeyOf now x → ⊥
      keyed k =
          let one : own.index ≡ k.index = one_index now own.index k.index still own.listed k.listed (same_index c now g x kept still of_c k is) in
          let ends = same_keys k.index.fields old k.document own.key k.key (storable_of c old kept old_there) (storable_of now k.document still k.there)
          (subst (λ (i : Definition). Among own.key (encoded_keys i.fields old)) one own.keyed) k.keyed (same_ends c now g x of_c k is) in
          let document : k.document ≡ new = one_document now k.document new still k.there new_there (sym ends.1 ∙ same) in
          let there : Among own.key (encoded_keys own.index.fields new) =
          subst (λ (i : Definition). Among own.key (encoded_keys i.fields new)) (sym one)
          (subst (λ (key : List ℕ). Among key (encoded_keys k.index.fields new)) (sym ends.0)
          (subst (λ (d : Pairs). Among k.key (encoded_keys k.index.fields d)) document k.keyed)) in
          let f : true ≡ false = sym (among_test (encoded_keys own.index.fields new) own.key there) ∙ own.apart in cc

      by : IsOneOf now x → ⊥
      by (inl e) = not_inside now c x g kept e (inside_of c g (inr of_c)) (sym is)
      by (inr (inl d)) = document_or_key now c x g still kept d of_c (sym is)
      by (inr (inr k)) = keyed k

  own_one : (x : Entry) → Among x gone → Among x (collection_entries c)
  own_one x h =
      let own = own_of c.number c.indexes old new x h in
      subst (λ (y : Entry). Among y (collection_entries c)) (sym own.is) (keyed_among c old own.index own.key old_there own.listed own.keyed)

  put_one : (x : Entry) → Among x put → Among x (collection_entries now)
  put_one x (inl e) = subst (λ (y : Entry). Among y (collection_entries now)) (sym e) (document_among now new new_there)
  put_one x (inr h) =
      let own = own_of c.number c.indexes new old x h in
      subst (λ (y : Entry). Among y (collection_entries now)) (sym own.is) (keyed_among now new own.index own.key new_there own.listed own.keyed)

  pub replaced : Exchanged gone put (collection_entries c) (collection_entries now)
  replaced = record {
    put = put_one;
    left = left_one;
    from = from_one;
    away = λ x p k. absurd (away_one x k.0 (one_of now x p) (own_of c.number c.indexes old new k.0 k.1) k.2);
    own = own_one;
  }

pub replaces_document : ReplacesDocument
replaces_document c front back old new split equal cs h =
    let now : Collection = record c { documents = front ++ new ∷ back } in
    exchanged_leads (flat_map (own_entries c.number old new) c.indexes)
    (document_entry c.number new ∷ flat_map (own_entries c.number new old) c.indexes) cs c now h
    (replaced c front back old new split (old_kept cs c now h) h.kept equal)
