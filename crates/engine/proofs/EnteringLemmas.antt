-- What is known of a collection that edits lead to: which documents and keys it has, and what becomes of it where a document enters.
use Rattle.std.proofs.Common.{◌≡◌, inl, inr, ℕ, Bool, true, false, ◌||◌, List, [], ◌∷◌, map, Option, Some, None, Ok, Err, refl, sym, ap, subst, ◌∙◌}
use Rattle.std.specs.Prelude.{is_some, option_map}
use Rattle.std.specs.Global.{Vec}
use Rattle.std.specs.List.{list_any}
use Rattle.bson.specs.Spelling.{frame_of, pairs_bytes}
use Rattle.bson.specs.Tree.{Pairs, Tree}
use Rattle.value_order.specs.KeyText.{tree_text}
use Rattle.tree_model.specs.Keys.{Edit, Entry, change, value_at}
use Rattle.outcome.specs.Outcome.{◌>>=◌, unless}
use Rattle.path.specs.declared.refusal.Refusal.{Refusal}
use Rattle.path.specs.declared.refusal.Refusal.TheVariants as refusals
use Rattle.collections.specs.OtherKeys.{is_taken}
use Rattle.collections.proofs.TakenLemmas.{taken_told}
use Rattle.index.specs.Definition.{Definition, Field}
use Rattle.entry_model.specs.Entering.{Enters, clashes, is_duplicate, with_document}
use Rattle.index.specs.IndexKeys.{has_parallel_arrays, noted}
use Rattle.index.specs.KeyTexts.{encoded_keys, is_too_long, keys_in, keys_in_all}
use Rattle.entry_model.specs.LawfulState as states
use Rattle.entry_model.specs.LawfulState.{IsStorable}
use Rattle.entry_model.specs.State.{Collection, find_collection, put_collection}
use Rattle.entry_model.specs.StateEntries.{Leads, Spells, key_under}
use Rattle.entry_model.specs.StateReads.{SpellsLawful, find_document}
use Rattle.index.specs.View.{texts_of}
use Rattle.entries.specs.declared.catalogue_reading.Catalogued.{Catalogued}
use Rattle.entry_model.proofs.EnteringLemmas.{has_entered}
use Rattle.entry_model.proofs.LawfulParts.{id_is_key, kept_of}
use Rattle.entry_model.proofs.FoundLawLemmas.{finds_put, put_twice}
use Rattle.entries.proofs.IndexedLaws.{known}
use Rattle.entry_model.proofs.MemberLemmas.{Among, of_all}
use Rattle.entry_model.proofs.PlaceLemmas.{found_in}
use Rattle.entries.proofs.ReadLaws.{finds_document}
use Rattle.entry_model.proofs.DocumentPlaces.{document_some}
use Rattle.database_model.specs.Documents.{key_of}
use Rattle.engine.specs.Storing.{AreNoted, HasNoted, IsReplaced, entering, write_of}

some_map : {X Y : Type 0} (f : X → Y) (o : Option X) → is_some (option_map f o) ≡ is_some o
some_map f None = refl
some_map f (Some x) = refl

none_some : {X : Type 0} (o : Option X) → is_some o ≡ false → o ≡ None
none_some None e = refl
none_some (Some x) e = absurd cc

module _ (cs : List Collection) (name : List ℕ) (home : Catalogued) (edits : List Edit) (c : Collection) (noted : AreNoted cs name home edits c)
    (lawful : states.IsLawfulState cs) where
  abbrev now : List Collection
  now = put_collection c cs

  spells_after : (entries : List Entry) → Spells entries cs → SpellsLawful (change edits entries) now
  spells_after entries spells = record { lawful = (noted.leads lawful).1; spells = (noted.leads lawful).0 entries spells }

  -- the edits leave a document of an `_id` where the collection has one
  pub id_told : (entries : List Entry) → Spells entries cs → (d : Pairs) → IsStorable d
      → is_some (value_at (key_under home.number 0 (tree_text (key_of d))) (change edits entries)) ≡ is_some (find_document c.documents (key_of d))
  id_told entries spells d good =
      ap (λ (n : ℕ). is_some (value_at (key_under n 0 (tree_text (key_of d))) (change edits entries))) (sym noted.numbered)
      ∙ ap is_some (finds_document (change edits entries) now c (key_of d) (spells_after entries spells) (finds_put c cs) (id_is_key d good))
      ∙ some_map (λ (x : Pairs). frame_of (pairs_bytes x)) (find_document c.documents (key_of d))

  -- they leave a key of it in a unique index where it clashes with another
  pub keys_told : (entries : List Entry) → Spells entries cs → (d : Pairs) (keys : List (Vec (Vec ℕ))) → IsStorable d
      → keys_in_all home.indexes.items d ≡ Ok (map (λ ks. texts_of ks.items) keys)
      → is_taken home.number (tree_text (key_of d)) home.indexes.items (map (λ ks. texts_of ks.items) keys) (change edits entries)
      ≡ list_any (clashes c.documents d) c.indexes
  keys_told entries spells d keys good keyed =
      let encoded : map (λ i. encoded_keys i.fields d) home.indexes.items ≡ map (λ ks. texts_of ks.items) keys =
      (known home.indexes.items d (map (λ ks. texts_of ks.items) keys) keyed).1 in
      (λ t. is_taken (sym noted.numbered t) (tree_text (key_of d)) home.indexes.items (sym encoded t) (change edits entries))
      ∙ (λ t. is_taken c.number (tree_text (key_of d)) (sym noted.indexed t) (map (λ i. encoded_keys i.fields d) (sym noted.indexed t)) (change edits entries))
      ∙ taken_told (change edits entries) now c d (spells_after entries spells) (finds_put c cs) good

-- ---- documents that are there

not_refused : (fs : List Field) (d : Pairs) → keys_in fs d ≡ Ok (encoded_keys fs d) → (is_too_long fs d ≡ false) × (has_parallel_arrays fs d ≡ false)
not_refused fs d keyed = by (is_too_long fs d) (has_parallel_arrays fs d) keyed
  where
    by : (a b : Bool) → unless a refusals.KeyTooLong (unless b refusals.CannotIndexParallelArrays (Ok (encoded_keys fs d))) ≡ Ok (encoded_keys fs d)
        → (a ≡ false) × (b ≡ false)
    by true b e = absurd cc
    by false true e = absurd cc
    by false false e = (refl, refl)

-- a document that each index takes is taken by all
pub all_keyed : (is : List Definition) (d : Pairs) → ((i : Definition) → Among i is → keys_in i.fields d ≡ Ok (encoded_keys i.fields d))
    → keys_in_all is d ≡ Ok (map (λ i. encoded_keys i.fields d) is)
all_keyed is d each =
    λ t. unless (long is each t) refusals.KeyTooLong
    (unless (parallel is each t) refusals.CannotIndexParallelArrays (Ok (map (λ i. encoded_keys i.fields d) is)))
  where
    long : (js : List Definition) → ((i : Definition) → Among i js → keys_in i.fields d ≡ Ok (encoded_keys i.fields d))
        → list_any (λ i. is_too_long i.fields d) js ≡ false
    long [] h = refl
    long (j ∷ js) h = let rest = long js (λ i there. h i (inr there)) in λ t. (not_refused j.fields d (h j (inl refl))).0 t || rest t

    parallel : (js : List Definition) → ((i : Definition) → Among i js → keys_in i.fields d ≡ Ok (encoded_keys i.fields d))
        → list_any (λ i. has_parallel_arrays i.fields d) js ≡ false
    parallel [] h = refl
    parallel (j ∷ js) h = let rest = parallel js (λ i there. h i (inr there)) in λ t. (not_refused j.fields d (h j (inl refl))).1 t || rest t

-- a document of the collection has keys in each of its indexes
pub stored_keyed : (cs : List Collection) (name : List ℕ) (home : Catalogued) (edits : List Edit) (c : Collection) → AreNoted cs name home edits c
    → states.IsLawfulState cs → (id : Tree) (d : Pairs)
    → find_document c.documents id ≡ Some d → keys_in_all c.indexes d ≡ Ok (map (λ i. encoded_keys i.fields d) c.indexes)
stored_keyed cs name home edits c noted_so lawful id d there =
    let state = (noted_so.leads lawful).1 in
    let kept = kept_of (put_collection c cs) c state (found_in (put_collection c cs) c.name c (finds_put c cs)) in
    let stands = (document_some c.documents id d there).0 in
    all_keyed c.indexes d
    (λ i listed. of_all (λ e. keys_in i.fields e ≡ Ok (encoded_keys i.fields e)) c.documents d
    (of_all (states.IsIndexOf c.documents) c.indexes i kept.indexes listed).keys stands)

-- ---- what becomes of it

-- a document that a duplicate hinders, or that an index refuses
pub entering_unkeyed : (was : Option Pairs) (d : Pairs) (c : Collection) (e : Refusal) → keys_in_all c.indexes d ≡ Err e → entering was d c ≡ Err e
entering_unkeyed was d c e refused = ap (λ r. r >>= (λ keys. unless (is_duplicate c (write_of was d)) refusals.DuplicateKey (Ok (with_document d c)))) refused

pub entering_duplicate : (was : Option Pairs) (d : Pairs) (c : Collection) (keys : List (List (List ℕ))) → keys_in_all c.indexes d ≡ Ok keys
    → is_duplicate c (write_of was d) ≡ true → entering was d c ≡ Err refusals.DuplicateKey
entering_duplicate was d c keys keyed there =
    ap (λ r. r >>= (λ keys. unless (is_duplicate c (write_of was d)) refusals.DuplicateKey (Ok (with_document d c)))) keyed
    ∙ ap (λ (b : Bool). unless b refusals.DuplicateKey (Ok (with_document d c))) there

pub entering_done : (was : Option Pairs) (d : Pairs) (c : Collection) (keys : List (List (List ℕ))) → keys_in_all c.indexes d ≡ Ok keys
    → is_duplicate c (write_of was d) ≡ false → entering was d c ≡ Ok (with_document d c)
entering_done was d c keys keyed clear =
    ap (λ r. r >>= (λ keys. unless (is_duplicate c (write_of was d)) refusals.DuplicateKey (Ok (with_document d c)))) keyed
    ∙ ap (λ (b : Bool). unless b refusals.DuplicateKey (Ok (with_document d c))) clear

-- what was replaced is what the collection has, or it has none
found_as : (was : Option Pairs) (d : Pairs) (c next : Collection) → IsReplaced was d c → entering was d c ≡ Ok next → find_document c.documents (key_of d) ≡ was
found_as None d c next is e = none_some (find_document c.documents (key_of d)) (has_entered c next (write_of None d) e).is_new
found_as (Some was) d c next is e = is

-- the edits that let it enter lead to it
pub has_entered_noted : (cs : List Collection) (name : List ℕ) (home after : Catalogued) (old new : List Edit) (c : Collection) (was : Option Pairs)
    (d : Pairs) → AreNoted cs name home old c → IsReplaced was d c
    → entering was d c ≡ Ok (with_document d c) → after.number ≡ home.number → after.indexes.items ≡ map (noted d) home.indexes.items
    → Enters old new name home.number home.indexes.items was d → HasNoted cs name after new (entering was d c)
has_entered_noted cs name home after old new c was d noted_so is e numbered indexed enters = record {
  next = with_document d c;
  is = e;
  noted = record {
    named = noted_so.named;
    numbered = noted_so.numbered ∙ sym numbered;
    indexed = ap (map (noted d)) noted_so.indexed ∙ sym indexed;
    room = noted_so.room;
    leads = λ lawful.
        let led = noted_so.leads lawful in
        let found : find_collection (put_collection c cs) name ≡ Some c =
        subst (λ (n : List ℕ). find_collection (put_collection c cs) n ≡ Some c) noted_so.named (finds_put c cs) in
        let arrived =
        enters cs (put_collection c cs) c (with_document d c) led.0 led.1 found noted_so.numbered noted_so.indexed
        (found_as was d c (with_document d c) is e) e in
        let twice : put_collection (with_document d c) (put_collection c cs) ≡ put_collection (with_document d c) cs =
        put_twice (with_document d c) c cs refl in
        (subst (Leads new cs) twice arrived.0, subst states.IsLawfulState twice arrived.1);
  };
}
