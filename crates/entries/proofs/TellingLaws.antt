-- An entry of an index tells a document that has its key.
use Rattle.std.proofs.Common.{◌≡◌, ℕ, ◌<◌, ◌^◌, List, ◌++◌, inl, inr, sym, ap, subst, ◌∙◌, arith}
use Rattle.std.specs.Prelude.{Contains}
use Rattle.bson.specs.Tree.{Pairs}
use Rattle.value_order.specs.Order.{Key}
use Rattle.value_order.specs.KeyText.{tree_text}
use Rattle.tree_model.specs.Keys.{Entry}
use Rattle.index.specs.Definition.{Definition}
use Rattle.index.specs.KeyTexts.{key_bytes, encoded_keys}
use Rattle.index.specs.Laws.{IsIndexKey}
use Rattle.entry_model.specs.State.{Collection, key_of}
use Rattle.entry_model.specs.StateEntries.{key_under}
use Rattle.entry_model.specs.LawfulState.{IsKept}
use Rattle.entry_model.specs.StateReads.{TellsDocument}
use Rattle.entry_model.proofs.MemberLemmas.{Among, among_of, contains_of}
use Rattle.index.proofs.OrderLaws.{keys_agree}
use Rattle.entry_model.proofs.PlaceLemmas.{found_in}
use Rattle.entries.proofs.EntryLemmas.{IsOneOf, IsKeyOf, same_first, same_second, same_rest}
use Rattle.entries.proofs.HomeLemmas.{Home, number_fits, one_number, one_index}
use Rattle.entry_model.proofs.LawfulParts.{kept_of, storable_of, listed_of}
use Rattle.entry_model.proofs.KeyOfDocument.{encoded_of, same_back}
use Rattle.entries.proofs.ReadLaws.{there_of, IsUnderBoth, catalogue_under, document_under, key_under_of}

-- a document that has the key, and the text of whose `_id` is the rest
abbrev Told : Collection → Definition → List ℕ → List ℕ → Type 0
Told c i key rest = (d : Pairs) × Contains c.documents d × Contains (encoded_keys i.fields d) key × (rest ≡ tree_text (key_of d))

-- the entry is of this index of this collection
told_here : (c : Collection) (i : Definition) (ks : List Key) (rest : List ℕ) (x : Entry) → IsKept c → Among i c.indexes → IsIndexKey i.fields ks
    → x.key ≡ key_under c.number i.number (key_bytes i.fields ks ++ rest)
    → (k : IsKeyOf c x) → k.index ≡ i → Told c i (key_bytes i.fields ks) rest
told_here c i ks rest x kept listed spellable e k one =
    let key = key_bytes i.fields ks in
    let keyed : Among k.key (encoded_keys i.fields k.document) = subst (λ (j : Definition). Among k.key (encoded_keys j.fields k.document)) one k.keyed in
    let own = encoded_of i.fields k.document k.key (storable_of c k.document kept k.there) keyed in
    let ends : k.key ++ tree_text (key_of k.document) ≡ key ++ rest =
    same_rest c.number c.number k.index.number i.number (k.key ++ tree_text (key_of k.document)) (key ++ rest) (sym (ap (λ (y : Entry). y.key) k.is) ∙ e) in
    let same : k.key ≡ key =
    own.is ∙ (keys_agree i.fields own.keys ks (tree_text (key_of k.document)) rest own.spellable spellable).1
    ((λ t. sym own.is t ++ tree_text (key_of k.document)) ∙ ends) in (
      k.document,
      contains_of c.documents k.document k.there,
      contains_of (encoded_keys i.fields k.document) key (subst (λ (l : List ℕ). Among l (encoded_keys i.fields k.document)) same keyed),
      sym (same_back key (tree_text (key_of k.document)) rest ((λ t. sym same t ++ tree_text (key_of k.document)) ∙ ends)),
    )

pub tells_document : TellsDocument
tells_document xs cs c i ks rest h found listed spellable x in_xs e = of_home (there_of xs cs h x (among_of xs x in_xs))
  where
    there : Among c cs
    there = found_in cs c.name c found

    kept : IsKept c
    kept = kept_of cs c h.lawful there

    in_c : Among i c.indexes
    in_c = among_of c.indexes i listed

    i_fits : i.number < 2 ^ 32
    i_fits = omega (arith, (listed_of c i kept in_c).lawful.most)

    these : (m j : ℕ) → IsUnderBoth m j x → (m ≡ c.number) × (j ≡ i.number)
    these m j u = (
      same_first m c.number j i.number u.text (key_bytes i.fields ks ++ rest) u.collection_fits (number_fits c kept) (sym u.is ∙ e),
      same_second m c.number j i.number u.text (key_bytes i.fields ks ++ rest) u.index_fits i_fits (sym u.is ∙ e),
    )

    of_home : Home cs x → Told c i (key_bytes i.fields ks) rest
    of_home home = at home.one
      where
        home_kept : IsKept home.collection
        home_kept = kept_of cs home.collection h.lawful home.there

        in_c_too : IsKeyOf c x → Told c i (key_bytes i.fields ks) rest
        in_c_too k =
            told_here c i ks rest x kept in_c spellable e k
            (one_index c k.index i kept k.listed in_c (these c.number k.index.number (key_under_of c x kept k)).1)

        at : IsOneOf home.collection x → Told c i (key_bytes i.fields ks) rest
        at (inl f) = absurd (let zero = (these 0 0 (catalogue_under home.collection x f)).0 in omega (arith, zero, kept.least))
        at (inr (inl d)) =
            absurd (let zero = (these home.collection.number 0 (document_under home.collection x home_kept d)).1 in
            omega (arith, zero, (listed_of c i kept in_c).lawful.numbered))
        at (inr (inr k)) =
            let one = one_number cs home.collection c h.lawful.numbers home.there there
            (these home.collection.number k.index.number (key_under_of home.collection x home_kept k)).0 in
            in_c_too (subst (λ (f : Collection). IsKeyOf f x) one k)
