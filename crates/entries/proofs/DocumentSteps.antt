-- A document more, one less, and one in place of another.
use Rattle.std.proofs.Common.{◌≡◌, ℕ, List, [], ◌∷◌, ◌++◌, ◌⊎◌, inl, inr, refl, sym, ap, subst, ◌∙◌}
use Rattle.std.specs.List.{AllPairs}
use Rattle.std.specs.declared.cmp.Ordering.TheVariants.{Less, Equal}
use Rattle.bson.specs.Tree.{Pairs}
use Rattle.value_order.specs.Order.{compare}
use Rattle.value_order.specs.KeyText.{tree_text}
use Rattle.tree_model.specs.Keys.{Entry}
use Rattle.index.specs.Definition.{Definition}
use Rattle.index.specs.KeyTexts.{encoded_keys}
use Rattle.entry_model.specs.State.{Collection, key_of, put_collection}
use Rattle.entry_model.specs.StateEntries.{index_entry, index_entries, document_entries, collection_entries}
use Rattle.entry_model.specs.LawfulState.{IsKept}
use Rattle.entry_model.specs.StateLaws.{InsertsDocument, DeletesDocument}
use Rattle.entry_model.proofs.MemberLemmas.{Among, among_map, among_flat, among_each}
use Rattle.entries.proofs.EntryLemmas.{IsDocumentOf, IsKeyOf, same_rest}
use Rattle.entry_model.proofs.LawfulParts.{same_id, storable_of}
use Rattle.entries.proofs.HomeLemmas.{one_index, document_or_key, same_index, same_ends, inside_of, not_inside, not_both, equal_back}
use Rattle.entries.proofs.StepLemmas.{Exchanged, exchanged_leads, old_kept, removals_alone}
use Rattle.entry_model.proofs.KeyOfDocument.{same_keys, among_middle, among_around, among_there, others_of}

-- ---- one more

inserted : (c : Collection) (front back : List Pairs) (d : Pairs) → c.documents ≡ front ++ back
    → Exchanged [] (document_entries c.number c.indexes d) (collection_entries c) (collection_entries (record c { documents = front ++ d ∷ back }))
inserted c front back d split =
    let of = document_entries c.number c.indexes in
    let now : Collection = record c { documents = front ++ d ∷ back } in
    record {
      put = λ x p. inr (among_each of x d (front ++ d ∷ back) (among_there d front back) p);
      left = λ x p. elim p [
        | inl e ↦ inr (inr (inl e))
        | inr g ↦ (let e = among_flat of x c.documents g in
            inr (inr (inr (among_each of x e.0 (front ++ d ∷ back) (among_around e.0 d front back (subst (λ (ds : List Pairs). Among e.0 ds) split e.1)) e.2))))
      ];
      from = λ x p. elim p [
        | inl e ↦ inr (inl e)
        | inr g ↦ (let e = among_flat of x (front ++ d ∷ back) g in elim (among_middle e.0 d front back e.1) [
          | inl same ↦ inl (subst (λ (f : Pairs). Among x (of f)) same e.2)
          | inr other ↦ inr (inr (among_each of x e.0 c.documents (subst (λ (ds : List Pairs). Among e.0 ds) (sym split) other) e.2))
        ])
      ];
      away = λ x p k. absurd k.1;
      own = λ x p. absurd p;
    }

pub inserts_document : InsertsDocument
inserts_document c front back d split cs h =
    exchanged_leads [] (document_entries c.number c.indexes d) cs c (record c { documents = front ++ d ∷ back }) h (inserted c front back d split)

-- ---- one less

-- the others have another `_id`
not_twice : (c : Collection) (front back : List Pairs) (d e : Pairs) → IsKept c → c.documents ≡ front ++ d ∷ back → Among e (front ++ back)
    → tree_text (key_of e) ≡ tree_text (key_of d) → ⊥
not_twice c front back d e kept split there same =
    let in_all : (x : Pairs) → Among x (front ++ d ∷ back) → Among x c.documents = λ x g. subst (λ (ds : List Pairs). Among x ds) (sym split) g in
    let equal = same_id e d (storable_of c e kept (in_all e (among_around e d front back there)))
    (storable_of c d kept (in_all d (among_there d front back))) same in
    by equal (others_of (λ x y. compare (key_of x) (key_of y) ≡ Less) e d front back
    (subst (λ (ds : List Pairs). AllPairs (λ x y. compare (key_of x) (key_of y) ≡ Less) ds) split kept.rising) there)
  where
    by : compare (key_of e) (key_of d) ≡ Equal → (compare (key_of e) (key_of d) ≡ Less) ⊎ (compare (key_of d) (key_of e) ≡ Less) → ⊥
    by equal (inl less) = not_both (compare (key_of e) (key_of d)) less equal
    by equal (inr less) = not_both (compare (key_of d) (key_of e)) less (equal_back e d equal)

-- the text of the `_id` of the document that an entry is of
id_text : (c : Collection) (x : Entry) → IsDocumentOf c x ⊎ IsKeyOf c x → List ℕ
id_text c x (inl d) = tree_text (key_of d.document)
id_text c x (inr k) = tree_text (key_of k.document)

same_ids : (c : Collection) (x y : Entry) → IsKept c → (p : IsDocumentOf c x ⊎ IsKeyOf c x) (q : IsDocumentOf c y ⊎ IsKeyOf c y) → x.key ≡ y.key
    → id_text c x p ≡ id_text c y q
unfolding id_text
same_ids c x y kept (inl d) (inl e) same =
    same_rest c.number c.number 0 0 (tree_text (key_of d.document)) (tree_text (key_of e.document))
    (sym (ap (λ (z : Entry). z.key) d.is) ∙ same ∙ ap (λ (z : Entry). z.key) e.is)
same_ids c x y kept (inl d) (inr k) same = absurd (document_or_key c c x y kept kept d k same)
same_ids c x y kept (inr k) (inl d) same = absurd (document_or_key c c y x kept kept d k (sym same))
same_ids c x y kept (inr h) (inr g) same =
    let one : h.index ≡ g.index = one_index c h.index g.index kept h.listed g.listed (same_index c c x y kept kept h g same) in
    (same_keys g.index.fields h.document g.document h.key g.key (storable_of c h.document kept h.there) (storable_of c g.document kept g.there)
    (subst (λ (i : Definition). Among h.key (encoded_keys i.fields h.document)) one h.keyed) g.keyed (same_ends c c x y h g same)).1

-- an entry of a document is of it
entry_of_document : (c : Collection) (d : Pairs) (x : Entry) → Among d c.documents → Among x (document_entries c.number c.indexes d)
    → (p : IsDocumentOf c x ⊎ IsKeyOf c x) × (id_text c x p ≡ tree_text (key_of d))
unfolding id_text
entry_of_document c d x there (inl e) = (inl (record { document = d; there = there; is = e }), refl)
entry_of_document c d x there (inr g) =
    let i = among_flat (index_entries c.number d) x c.indexes g in
    let k = among_map (index_entry c.number i.0.number (key_of d)) x (encoded_keys i.0.fields d) i.2 in
    (inr (record { document = d; there = there; index = i.0; listed = i.1; key = k.0; keyed = k.1; is = k.2 }), refl)

deleted : (c : Collection) (front back : List Pairs) (d : Pairs) → IsKept c → c.documents ≡ front ++ d ∷ back
    → Exchanged (document_entries c.number c.indexes d) [] (collection_entries c) (collection_entries (record c { documents = front ++ back }))
deleted c front back d kept split =
    let of = document_entries c.number c.indexes in
    let in_all : (x : Pairs) → Among x (front ++ d ∷ back) → Among x c.documents = λ x g. subst (λ (ds : List Pairs). Among x ds) (sym split) g in
    let d_there : Among d c.documents = in_all d (among_there d front back) in
    let was : (x : Entry) → Among x (collection_entries (record c { documents = front ++ back })) → Among x (collection_entries c) = λ x p. elim p [
      | inl e ↦ inl e
      | inr g ↦ (let e = among_flat of x (front ++ back) g in inr (among_each of x e.0 c.documents (in_all e.0 (among_around e.0 d front back e.1)) e.2))
    ] in
    record {
      put = λ x p. absurd p;
      left = λ x p. elim p [
        | inl e ↦ inr (inr (inl e))
        | inr g ↦ (let e = among_flat of x c.documents g in elim (among_middle e.0 d front back (subst (λ (ds : List Pairs). Among e.0 ds) split e.1)) [
          | inl same ↦ inl (x, subst (λ (f : Pairs). Among x (of f)) same e.2, refl)
          | inr other ↦ inr (inr (inr (among_each of x e.0 (front ++ back) other e.2)))
        ])
      ];
      from = λ x p. inr (was x p);
      away = λ x p k.
          let g = entry_of_document c d k.0 d_there k.1 in elim p [
            | inl e ↦ absurd (not_inside c c x k.0 kept e (inside_of c k.0 g.0) (sym k.2))
            | inr f ↦ (let e = among_flat of x (front ++ back) f in
                let h = entry_of_document c e.0 x (in_all e.0 (among_around e.0 d front back e.1)) e.2 in
                absurd (not_twice c front back d e.0 kept split e.1 (sym h.1 ∙ same_ids c x k.0 kept h.0 g.0 (sym k.2) ∙ g.1)))
          ];
      own = λ x p. inr (among_each of x d c.documents d_there p);
    }

pub deletes_document : DeletesDocument
deletes_document c front back d split cs h =
    let now : Collection = record c { documents = front ++ back } in
    let gone = document_entries c.number c.indexes d in
    removals_alone gone cs (put_collection now cs) (exchanged_leads gone [] cs c now h (deleted c front back d (old_kept cs c now h) split))
