-- Collections pass the test just where they are a lawful state.
use Rattle.std.proofs.Common.{◌≡◌, ◌≢◌, ℕ, Bool, true, false, not, List, [], ◌∷◌, length, Option, Some, None, Result, Ok, Decides, refl}
use Rattle.std.specs.Prelude.{is_ok}
use Rattle.std.specs.List.{list_all}
use Rattle.std.specs.Ordering.{nat_cmp}
use Rattle.std.specs.Cmp.Lexicographic.{slice_cmp}
use Rattle.std.proofs.lemmas.Bool.Decides.{Decides-like}
use Rattle.std.proofs.lemmas.List.Folds.{list_any_none}
use Rattle.std.proofs.ByRecursion as by_recursion
use Rattle.outcome.specs.Outcome.{fault_or, unless}
use Rattle.bson.specs.Tree.{Pairs}
use Rattle.path.specs.Parts.{parts_of, path_fault, path_of}
use Rattle.path.specs.declared.fault.PathFault.{PathFault}
use Rattle.path.specs.declared.refusal.Refusal.TheVariants as refusals
use Rattle.value_order.specs.Order.{compare}
use Rattle.index.specs.Changes.{is_among}
use Rattle.index.specs.Definition.{AreFields, Definition, Field, IsDefinition, IsPath, key_document}
use Rattle.entry_model.specs.Entering.{share_key}
use Rattle.index.specs.IndexKeys.{has_parallel_arrays, is_multikey}
use Rattle.index.specs.KeyTexts.{encoded_keys, is_too_long, keys_in}
use Rattle.entry_model.specs.LawfulState.{AreNamedApart, AreNumberedApart, IsIndexOf, IsKept, IsRising, IsStorable, ShareNoKey}
use Rattle.entry_model.specs.State.{Collection, key_of, uses}
use Rattle.entry_model.proofs.EnteringLemmas.{not_any, stands_among}
use Rattle.entry_model.proofs.KeyOfDocument.{among_test}
use Rattle.entry_model.proofs.LawfulLaws.{all_of}
use Rattle.file_state.specs.DocumentTests.{is_storable}
use Rattle.file_state.specs.Laws.{TestsLawful}
use Rattle.file_state.specs.StateTests.{are_fields, are_named_apart, are_numbered_apart, is_definition, is_index_of, is_kept, is_lawful, is_rising}
use Rattle.file_state.proofs.DocumentsTested.{pairs_tested, storable_tested}
use Rattle.file_state.proofs.TestLemmas.{◌also◌, all_pairs_tested, all_tested, false_tested, implied_tested, le_tested, less_tested}
use Rattle.file_state.proofs.TestLemmas.{true_tested, unequal_tested, utf8_tested}

-- ---- definitions of indexes

-- that there is a result tells that it is this one
abbrev TellsWhether : {X E : Type 0} → Result X E → X → Type 0
TellsWhether told x = Decides (is_ok told) (told ≡ Ok x)

path_tested : (text : List ℕ) → Decides (is_ok (path_of text)) (IsPath text)
path_tested text = by (path_fault text (parts_of text))
  where
    by : (o : Option PathFault) → TellsWhether (fault_or o (parts_of text)) (parts_of text)
    by None = (λ e. refl, λ e. refl)
    by (Some fault) = (λ e. absurd cc, λ e. absurd cc)

fields_tested : (fields : List Field) → Decides (are_fields fields) (AreFields fields)
fields_tested fields =
    let test : Field → Bool = λ f. is_ok (path_of f.path) in
    let each = by_recursion.Decides-by_and test (λ f. IsPath f.path) (list_all test) (λ f. path_tested f.path) refl (λ _ _. refl) in
    Decides-like (are_fields fields) (λ h. record { some = h.0.0.0; most = h.0.0.1; paths = h.0.1; distinct = h.1 })
    (λ h. (((h.some, h.most), h.paths), h.distinct))
    (le_tested 1 (length fields) also le_tested (length fields) 4
    also each fields also pairs_tested (key_document fields))

definition_tested : (d : Definition) → Decides (is_definition d) (IsDefinition d)
definition_tested d =
    Decides-like (is_definition d)
    (λ h. record { numbered = h.0.0.0.0.0; most = h.0.0.0.0.1; is_text = h.0.0.0.1; named = h.0.0.1; short = h.0.1; fields = h.1 })
    (λ h. (((((h.numbered, h.most), h.is_text), h.named), h.short), h.fields))
    (le_tested 1 d.number also le_tested d.number 16 also utf8_tested d.name also le_tested 1 (length d.name) also le_tested (length d.name) 127
    also fields_tested d.fields)

-- ---- indexes of documents

keys_tested : (fields : List Field) (d : Pairs) → Decides (is_ok (keys_in fields d)) (keys_in fields d ≡ Ok (encoded_keys fields d))
keys_tested fields d = by (is_too_long fields d) (has_parallel_arrays fields d) (encoded_keys fields d)
  where
    by : (a b : Bool) (keys : List (List ℕ)) → TellsWhether (unless a refusals.KeyTooLong (unless b refusals.CannotIndexParallelArrays (Ok keys))) keys
    by true b keys = (λ e. absurd cc, λ e. absurd cc)
    by false true keys = (λ e. absurd cc, λ e. absurd cc)
    by false false keys = (λ e. refl, λ e. refl)

shared_tested : (fields : List Field) (d e : Pairs) → Decides (not (share_key fields d e)) (ShareNoKey fields d e)
shared_tested fields d e =
    let keys = encoded_keys fields d in
    let test = is_among (encoded_keys fields e) in
    Decides-like (not (share_key fields d e)) (λ none key there. not_any test keys key none (stands_among keys key there))
    (λ h. list_any_none test keys (all_of (λ key. test key ≡ false) keys (λ key there. h key (among_test keys key there))))
    (false_tested (share_key fields d e))

index_tested : (ds : List Pairs) (i : Definition) → Decides (is_index_of ds i) (IsIndexOf ds i)
index_tested ds i =
    Decides-like (is_index_of ds i) (λ h. record { lawful = h.0.0.0; keys = h.0.0.1; unique = h.0.1; multi = h.1 })
    (λ h. (((h.lawful, h.keys), h.unique), h.multi))
    (definition_tested i also all_tested _ (λ d. keys_in i.fields d ≡ Ok (encoded_keys i.fields d)) (keys_tested i.fields) ds
    also implied_tested i.is_unique _ (all_pairs_tested _ (ShareNoKey i.fields) (shared_tested i.fields) ds)
    also all_tested _ (λ d. is_multikey i.fields d ≡ true → i.is_multi ≡ true)
    (λ d. implied_tested (is_multikey i.fields d) i.is_multi (true_tested i.is_multi)) ds)

-- ---- collections

rising_tested : (ds : List Pairs) → Decides (is_rising ds) (IsRising ds)
rising_tested ds = all_pairs_tested _ _ (λ d e. less_tested (compare (key_of d) (key_of e))) ds

kept_tested : (c : Collection) → Decides (is_kept c) (IsKept c)
kept_tested c =
    Decides-like (is_kept c)
    (λ h. record {
      name = h.0.0.0.0.0.0.0.0;
      short = h.0.0.0.0.0.0.0.1;
      least = h.0.0.0.0.0.0.1;
      most = h.0.0.0.0.0.1;
      rising = h.0.0.0.0.1;
      storable = h.0.0.0.1;
      indexes = h.0.0.1;
      distinct = h.0.1;
      few = h.1;
    })
    (λ h. ((((((((h.name, h.short), h.least), h.most), h.rising), h.storable), h.indexes), h.distinct), h.few))
    (utf8_tested c.name also le_tested (length c.name) 255 also le_tested 1 c.number also le_tested c.number 1000 also rising_tested c.documents
    also all_tested is_storable IsStorable storable_tested c.documents
    also all_tested (is_index_of c.documents) (IsIndexOf c.documents) (index_tested c.documents) c.indexes
    also all_pairs_tested _ (λ i j. i.number ≢ j.number) (λ i j. unequal_tested i.number j.number) c.indexes also le_tested (length c.indexes) 16)

named_tested : (cs : List Collection) → Decides (are_named_apart cs) (AreNamedApart cs)
named_tested cs = all_pairs_tested _ _ (λ c d. less_tested (slice_cmp nat_cmp c.name d.name)) cs

numbered_tested : (cs : List Collection) → Decides (are_numbered_apart cs) (AreNumberedApart cs)
numbered_tested [] = (λ e. tt, λ h. refl)
numbered_tested (c ∷ cs) = false_tested (uses cs c.number) also numbered_tested cs

pub tests_lawful : TestsLawful
unfolding is_lawful
tests_lawful cs =
    Decides-like (is_lawful cs) (λ h. record { apart = h.0.0.0; numbers = h.0.0.1; kept = h.0.1; few = h.1 })
    (λ h. (((h.apart, h.numbers), h.kept), h.few))
    (named_tested cs also numbered_tested cs also all_tested is_kept IsKept kept_tested cs also le_tested (length cs) 1000)
