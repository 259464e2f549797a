-- An index more, one less, and indexes noted anew.
use Rattle.std.proofs.Common.{◌≡◌, ◌≢◌, ℕ, List, [], ◌∷◌, ◌++◌, map, ◌⊎◌, inl, inr, refl, sym, ap, subst, ◌∙◌}
use Rattle.std.specs.List.{flat_map, AllPairs}
use Rattle.bson.specs.Tree.{Pairs}
use Rattle.tree_model.specs.Keys.{Entry}
use Rattle.index.specs.Definition.{Definition}
use Rattle.index.specs.KeyTexts.{encoded_keys}
use Rattle.entry_model.specs.State.{Collection, key_of}
use Rattle.entry_model.specs.StateEntries.{catalogue_entry, document_entry, index_entry, index_entries, document_entries, collection_entries}
use Rattle.entry_model.specs.LawfulState.{IsKept}
use Rattle.entry_model.specs.StateLaws.{entries_in, MakesIndex, DropsIndex, AreAlike, NotesIndexes}
use Rattle.entry_model.proofs.MemberLemmas.{Among, among_map, among_append, among_front, among_back, among_flat, among_each}
use Rattle.entries.proofs.ExchangeLaws.{HasKey}
use Rattle.entries.proofs.EntryLemmas.{IsKeyOf}
use Rattle.entries.proofs.HomeLemmas.{document_or_key, same_index}
use Rattle.entries.proofs.StepLemmas.{Exchanged, exchanged_leads, old_kept}
use Rattle.entry_model.proofs.KeyOfDocument.{among_middle, among_around, among_there, others_of}

-- ---- one more

pub made : (c : Collection) (i : Definition)
    → let now = record c { indexes = c.indexes ++ i ∷ [] } in
    Exchanged [] (catalogue_entry now ∷ entries_in c i) (collection_entries c) (collection_entries now)
made c i =
    let now : Collection = record c { indexes = c.indexes ++ i ∷ [] } in
    let of = document_entries c.number c.indexes in
    let of_now = document_entries c.number now.indexes in
    let more : (d : Pairs) (x : Entry) → Among d c.documents → Among x (of d) → Among x (collection_entries now) = λ d x there p. elim p [
      | inl e ↦ inr (among_each of_now x d c.documents there (inl e))
      | inr g ↦ (let j = among_flat (index_entries c.number d) x c.indexes g in
          inr (among_each of_now x d c.documents there
          (inr (among_each (index_entries c.number d) x j.0 now.indexes (among_front j.0 c.indexes (i ∷ []) j.1) j.2))))
    ] in
    let fewer : (d : Pairs) (x : Entry) → Among d c.documents → Among x (of_now d)
    → Among x (catalogue_entry now ∷ entries_in c i) ⊎ Among x (collection_entries c) = λ d x there p. elim p [
      | inl e ↦ inr (inr (among_each of x d c.documents there (inl e)))
      | inr g ↦ (let j = among_flat (index_entries c.number d) x now.indexes g in elim (among_append j.0 c.indexes (i ∷ []) j.1) [
        | inl listed ↦ inr (inr (among_each of x d c.documents there (inr (among_each (index_entries c.number d) x j.0 c.indexes listed j.2))))
        | inr last ↦ elim last [
          | inl same ↦ inl
              (inr (among_each (λ e. index_entries c.number e i) x d c.documents there
              (subst (λ (k : Definition). Among x (index_entries c.number d k)) same j.2)))
          | inr none ↦ absurd none
        ]
      ])
    ] in
    record {
      put = λ x p. elim p [
        | inl e ↦ inl e
        | inr g ↦ (let d = among_flat (λ e. index_entries c.number e i) x c.documents g in
            inr (among_each of_now x d.0 c.documents d.1
            (inr (among_each (index_entries c.number d.0) x i now.indexes (among_back i c.indexes (i ∷ []) (inl refl)) d.2))))
      ];
      left = λ x p. elim p [
        | inl e ↦ inr (inl (catalogue_entry now, inl refl, sym (ap (λ (z : Entry). z.key) e)))
        | inr g ↦ (let d = among_flat of x c.documents g in inr (inr (more d.0 x d.1 d.2)))
      ];
      from = λ x p. elim p [
        | inl e ↦ inl (inl e)
        | inr g ↦ (let d = among_flat of_now x c.documents g in fewer d.0 x d.1 d.2)
      ];
      away = λ x p k. absurd k.1;
      own = λ x p. absurd p;
    }

pub makes_index : MakesIndex
makes_index c i cs h =
    let now : Collection = record c { indexes = c.indexes ++ i ∷ [] } in
    exchanged_leads [] (catalogue_entry now ∷ entries_in c i) cs c now h (made c i)

-- ---- one less

-- the others have other numbers
not_listed : (c : Collection) (front back : List Definition) (i j : Definition) → IsKept c → c.indexes ≡ front ++ i ∷ back → Among j (front ++ back)
    → j.number ≡ i.number → ⊥
not_listed c front back i j kept split there same =
    by (others_of (λ x y. x.number ≢ y.number) j i front back
    (subst (λ (is : List Definition). AllPairs (λ x y. x.number ≢ y.number) is) split kept.distinct) there)
  where
    by : (j.number ≢ i.number) ⊎ (i.number ≢ j.number) → ⊥
    by (inl differ) = differ same
    by (inr differ) = differ (sym same)

key_in : (c : Collection) (i : Definition) (d : Pairs) (x : Entry) → Among d c.documents → Among i c.indexes → Among x (index_entries c.number d i)
    → (k : IsKeyOf c x) × (k.index ≡ i)
key_in c i d x there listed h =
    let k = among_map (index_entry c.number i.number (key_of d)) x (encoded_keys i.fields d) h in
    (record { document = d; there = there; index = i; listed = listed; key = k.0; keyed = k.1; is = k.2 }, refl)

dropped : (c : Collection) (front back : List Definition) (i : Definition) → IsKept c → c.indexes ≡ front ++ i ∷ back
    → let now = record c { indexes = front ++ back } in Exchanged (entries_in c i) (catalogue_entry now ∷ []) (collection_entries c) (collection_entries now)
dropped c front back i kept split =
    let now : Collection = record c { indexes = front ++ back } in
    let of = document_entries c.number c.indexes in
    let of_now = document_entries c.number now.indexes in
    let in_all : (j : Definition) → Among j (front ++ i ∷ back) → Among j c.indexes = λ j g. subst (λ (is : List Definition). Among j is) (sym split) g in
    let i_there : Among i c.indexes = in_all i (among_there i front back) in
    let fewer : (d : Pairs) (x : Entry) → Among d c.documents → Among x (of d)
    → HasKey x.key (entries_in c i) ⊎ (HasKey x.key (catalogue_entry now ∷ []) ⊎ Among x (collection_entries now)) = λ d x there p. elim p [
      | inl e ↦ inr (inr (inr (among_each of_now x d c.documents there (inl e))))
      | inr g ↦ (let j = among_flat (index_entries c.number d) x c.indexes g in
          elim (among_middle j.0 i front back (subst (λ (is : List Definition). Among j.0 is) split j.1)) [
            | inl same ↦ inl (
              x,
              among_each (λ e. index_entries c.number e i) x d c.documents there
                  (subst (λ (k : Definition). Among x (index_entries c.number d k)) same j.2),
              refl,
            )
            | inr other ↦ inr (inr (inr (among_each of_now x d c.documents there (inr (among_each (index_entries c.number d) x j.0 now.indexes other j.2)))))
          ])
    ] in
    let was : (d : Pairs) (x : Entry) → Among d c.documents → Among x (of_now d) → Among x (collection_entries c) = λ d x there p. elim p [
      | inl e ↦ inr (among_each of x d c.documents there (inl e))
      | inr g ↦ (let j = among_flat (index_entries c.number d) x now.indexes g in
          inr (among_each of x d c.documents there
          (inr (among_each (index_entries c.number d) x j.0 c.indexes (in_all j.0 (among_around j.0 i front back j.1)) j.2))))
    ] in
    let apart : (d : Pairs) (x : Entry) → Among d c.documents → Among x (of_now d) → HasKey x.key (entries_in c i) → ⊥ = λ d x there p k.
    let e = among_flat (λ e. index_entries c.number e i) k.0 c.documents k.1 in
    let gone = key_in c i e.0 k.0 e.1 i_there e.2 in
    elim p [
      | inl f ↦ document_or_key c c x k.0 kept kept (record { document = d; there = there; is = f }) gone.0 (sym k.2)
      | inr g ↦ (let j = among_flat (index_entries c.number d) x now.indexes g in
          let one = key_in c j.0 d x there (in_all j.0 (among_around j.0 i front back j.1)) j.2 in
          not_listed c front back i j.0 kept split j.1
          (sym (ap (λ (z : Definition). z.number) one.1) ∙ same_index c c x k.0 kept kept one.0 gone.0 (sym k.2) ∙ ap (λ (z : Definition). z.number) gone.1))
    ] in
    record {
      put = λ x p. elim p [ inl e ↦ inl e | inr g ↦ absurd g ];
      left = λ x p. elim p [
        | inl e ↦ inr (inl (catalogue_entry now, inl refl, sym (ap (λ (z : Entry). z.key) e)))
        | inr g ↦ (let d = among_flat of x c.documents g in fewer d.0 x d.1 d.2)
      ];
      from = λ x p. elim p [
        | inl e ↦ inl (inl e)
        | inr g ↦ (let d = among_flat of_now x c.documents g in inr (was d.0 x d.1 d.2))
      ];
      away = λ x p k. elim p [
        | inl e ↦ inl e
        | inr g ↦ (let d = among_flat of_now x c.documents g in absurd (apart d.0 x d.1 d.2 k))
      ];
      own = λ x p.
          let d = among_flat (λ e. index_entries c.number e i) x c.documents p in
          inr (among_each of x d.0 c.documents d.1 (inr (among_each (index_entries c.number d.0) x i c.indexes i_there d.2)));
    }

pub drops_index : DropsIndex
drops_index c front back i split cs h =
    let now : Collection = record c { indexes = front ++ back } in
    exchanged_leads (entries_in c i) (catalogue_entry now ∷ []) cs c now h (dropped c front back i (old_kept cs c now h) split)

-- ---- noted anew

alike_entries : (n : ℕ) (d : Pairs) (is js : List Definition) → AreAlike is js → flat_map (index_entries n d) is ≡ flat_map (index_entries n d) js
alike_entries n d [] [] h = refl
alike_entries n d [] (j ∷ js) h = absurd h
alike_entries n d (i ∷ is) [] h = absurd h
alike_entries n d (i ∷ is) (j ∷ js) h =
    λ t. map (index_entry n (h.0 t) (key_of d)) (encoded_keys (h.1 t) d) ++ alike_entries n d is js h.2 t

same_documents : (n : ℕ) (is js : List Definition) (ds : List Pairs) → AreAlike is js
    → flat_map (document_entries n is) ds ≡ flat_map (document_entries n js) ds
same_documents n is js [] h = refl
same_documents n is js (d ∷ ds) h = λ t. (document_entry n d ∷ alike_entries n d is js h t) ++ same_documents n is js ds h t

noted : (c : Collection) (js : List Definition) → AreAlike c.indexes js
    → let now = record c { indexes = js } in Exchanged [] (catalogue_entry now ∷ []) (collection_entries c) (collection_entries now)
noted c js alike =
    let now : Collection = record c { indexes = js } in
    let same = same_documents c.number c.indexes js c.documents alike in
    record {
      put = λ x p. elim p [ inl e ↦ inl e | inr g ↦ absurd g ];
      left = λ x p. elim p [
        | inl e ↦ inr (inl (catalogue_entry now, inl refl, sym (ap (λ (z : Entry). z.key) e)))
        | inr g ↦ inr (inr (inr (subst (λ (xs : List Entry). Among x xs) same g)))
      ];
      from = λ x p. elim p [ inl e ↦ inl (inl e) | inr g ↦ inr (inr (subst (λ (xs : List Entry). Among x xs) (sym same) g)) ];
      away = λ x p k. absurd k.1;
      own = λ x p. absurd p;
    }

pub notes_indexes : NotesIndexes
notes_indexes c js alike cs h =
    let now : Collection = record c { indexes = js } in
    exchanged_leads [] (catalogue_entry now ∷ []) cs c now h (noted c js alike)
