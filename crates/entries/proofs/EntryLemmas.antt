-- What an entry's key tells: the collection, the index, and the text.
use Rattle.std.proofs.Common.{◌≡◌, ℕ, zero, suc, ◌<◌, ◌^◌, List, [], ◌∷◌, drop, ◌⊎◌, inl, inr, refl, sym, ap, ◌∙◌, arith}
use Rattle.std.specs.Int.{w32, from_be_bytes}
use Rattle.std.proofs.lemmas.Nat.{from_be_bytes-to_be_bytes_4}
use Rattle.bson.specs.Tree.{Pairs}
use Rattle.value_order.specs.KeyText.{escaped_text, tree_text}
use Rattle.tree_model.specs.Keys.{Entry}
use Rattle.index.specs.Definition.{Definition}
use Rattle.index.specs.KeyTexts.{encoded_keys}
use Rattle.entry_model.specs.State.{Collection, words, key_of}
use Rattle.entry_model.specs.StateEntries.{key_under, catalogue_entry, document_entry, index_entry, index_entries, document_entries, collection_entries}
use Rattle.entry_model.proofs.MemberLemmas.{Among, among_map, among_image, among_flat, among_each}

-- ---- which entry it is

pub record IsDocumentOf (c : Collection) (x : Entry) : Type 0 where
  pub document : Pairs
  pub there : Among document c.documents
  pub is : x ≡ document_entry c.number document

pub record IsKeyOf (c : Collection) (x : Entry) : Type 0 where
  pub document : Pairs
  pub there : Among document c.documents
  pub index : Definition
  pub listed : Among index c.indexes
  pub key : List ℕ
  pub keyed : Among key (encoded_keys index.fields document)
  pub is : x ≡ index_entry c.number index.number (key_of document) key

abbrev pub IsOneOf : Collection → Entry → Type 0
IsOneOf c x = (x ≡ catalogue_entry c) ⊎ (IsDocumentOf c x ⊎ IsKeyOf c x)

-- those of a document in an index
pub key_among : (n : ℕ) (i : Definition) (d : Pairs) (key : List ℕ) → Among key (encoded_keys i.fields d)
    → Among (index_entry n i.number (key_of d) key) (index_entries n d i)
key_among n i d key h = among_image (index_entry n i.number (key_of d)) key (encoded_keys i.fields d) h

pub one_of : (c : Collection) (x : Entry) → Among x (collection_entries c) → IsOneOf c x
one_of c x (inl e) = inl e
one_of c x (inr h) =
    let d = among_flat (document_entries c.number c.indexes) x c.documents h in by d.0 d.1 d.2
  where
    by : (d : Pairs) → Among d c.documents → Among x (document_entries c.number c.indexes d) → IsOneOf c x
    by d there (inl e) = inr (inl (record { document = d; there = there; is = e }))
    by d there (inr g) =
        let i = among_flat (index_entries c.number d) x c.indexes g in
        let k = among_map (index_entry c.number i.0.number (key_of d)) x (encoded_keys i.0.fields d) i.2 in
        inr (inr (record { document = d; there = there; index = i.0; listed = i.1; key = k.0; keyed = k.1; is = k.2 }))

pub document_among : (c : Collection) (d : Pairs) → Among d c.documents → Among (document_entry c.number d) (collection_entries c)
document_among c d there = inr (among_each (document_entries c.number c.indexes) (document_entry c.number d) d c.documents there (inl refl))

pub keyed_among : (c : Collection) (d : Pairs) (i : Definition) (key : List ℕ) → Among d c.documents → Among i c.indexes → Among key (encoded_keys i.fields d)
    → Among (index_entry c.number i.number (key_of d) key) (collection_entries c)
keyed_among c d i key there listed keyed =
    let x = index_entry c.number i.number (key_of d) key in
    inr (among_each (document_entries c.number c.indexes) x d c.documents there
    (inr (among_each (index_entries c.number d) x i c.indexes listed (key_among c.number i d key keyed))))

-- ---- numbers

pub first_number : List ℕ → ℕ
first_number key = from_be_bytes w32 key

pub second_number : List ℕ → ℕ
second_number key = from_be_bytes w32 (drop 4 key)

first_is : (m i : ℕ) (x : List ℕ) → m < 2 ^ 32 → first_number (key_under m i x) ≡ m
unfolding first_number
first_is m i x fits = from_be_bytes-to_be_bytes_4 m fits

second_is : (m i : ℕ) (x : List ℕ) → i < 2 ^ 32 → second_number (key_under m i x) ≡ i
unfolding second_number
second_is m i x fits = from_be_bytes-to_be_bytes_4 i fits

pub same_first : (m n i j : ℕ) (x y : List ℕ) → m < 2 ^ 32 → n < 2 ^ 32 → key_under m i x ≡ key_under n j y → m ≡ n
same_first m n i j x y low high e = sym (first_is m i x low) ∙ ap first_number e ∙ first_is n j y high

pub same_second : (m n i j : ℕ) (x y : List ℕ) → i < 2 ^ 32 → j < 2 ^ 32 → key_under m i x ≡ key_under n j y → i ≡ j
same_second m n i j x y low high e = sym (second_is m i x low) ∙ ap second_number e ∙ second_is n j y high

pub same_rest : (m n i j : ℕ) (x y : List ℕ) → key_under m i x ≡ key_under n j y → x ≡ y
same_rest m n i j x y e = ap (drop 8) e

-- ---- names and `_id`s

first_of : List ℕ → ℕ
first_of [] = 0
first_of (b ∷ bs) = b

rest_of : List ℕ → List ℕ
rest_of [] = []
rest_of (b ∷ bs) = bs

same_escaped : (a b : List ℕ) → escaped_text a ≡ escaped_text b → a ≡ b
unfolding first_of rest_of
same_escaped [] [] e = refl
same_escaped [] (zero ∷ b) e = absurd (let f : 0 ≡ 255 = ap (λ xs. first_of (rest_of xs)) e in omega (arith, f))
same_escaped [] (suc n ∷ b) e = absurd (let f : 0 ≡ suc n = ap first_of e in omega (arith, f))
same_escaped (zero ∷ a) [] e = absurd (let f : 255 ≡ 0 = ap (λ xs. first_of (rest_of xs)) e in omega (arith, f))
same_escaped (suc m ∷ a) [] e = absurd (let f : suc m ≡ 0 = ap first_of e in omega (arith, f))
same_escaped (zero ∷ a) (zero ∷ b) e = ap (λ xs. 0 ∷ xs) (same_escaped a b (ap (λ xs. rest_of (rest_of xs)) e))
same_escaped (zero ∷ a) (suc n ∷ b) e = absurd (let f : 0 ≡ suc n = ap first_of e in omega (arith, f))
same_escaped (suc m ∷ a) (zero ∷ b) e = absurd (let f : suc m ≡ 0 = ap first_of e in omega (arith, f))
same_escaped (suc m ∷ a) (suc n ∷ b) e = λ i. ap first_of e i ∷ same_escaped a b (ap rest_of e) i

pub same_words : (a b : List ℕ) → tree_text (words a) ≡ tree_text (words b) → a ≡ b
unfolding rest_of
same_words a b e = same_escaped a b (ap rest_of e)
