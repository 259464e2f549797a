-- Keys and values are short enough for the tree.
use Rattle.std.proofs.Common.{◌≡◌, ℕ, zero, suc, ◌+◌, ◌*◌, ◌≤◌, Bool, true, false, ◌||◌, nat_lt, List, [], ◌∷◌, ◌++◌, length, map, Result, Ok, inl, inr, refl}
use Rattle.std.proofs.Common.{sym, ap, ◌∙◌, arith, length-append}
use Rattle.std.specs.Int.{w32, to_be_bytes}
use Rattle.std.specs.List.{list_any}
use Rattle.std.proofs.lemmas.Bool.Decides.{nat_tests}
use Rattle.outcome.specs.Outcome.{unless}
use Rattle.bson.specs.Tree.{Pairs}
use Rattle.bson.specs.Spelling.{frame_of, pairs_bytes}
use Rattle.value_order.specs.Order.{Key}
use Rattle.value_order.specs.KeyText.{escaped_text, tree_text}
use Rattle.tree_model.specs.Keys.{Entry}
use Rattle.index.specs.Definition.{Field}
use Rattle.index.specs.IndexKeys.{index_keys, has_parallel_arrays}
use Rattle.index.specs.KeyTexts.{key_bytes, encoded_keys, is_too_long, keys_in}
use Rattle.path.specs.declared.refusal.Refusal.{Refusal}
use Rattle.path.specs.declared.refusal.Refusal.TheVariants as refusals
use Rattle.entry_model.specs.State.{Collection, words, key_of}
use Rattle.entry_model.specs.StateEntries.{key_under, catalogue_entry, state_entries}
use Rattle.entry_model.specs.LawfulState.{IsKept}
use Rattle.entry_model.specs.StateLaws.{EntriesFit}
use Rattle.entry_model.proofs.MemberLemmas.{Among, among_of, among_map, of_all}
use Rattle.entries.proofs.EntryLemmas.{IsOneOf}
use Rattle.entries.proofs.HomeLemmas.{home_of}
use Rattle.entry_model.proofs.LawfulParts.{kept_of, storable_of, listed_of}
use Rattle.entry_model.proofs.KeyOfDocument.{test_among, among_test}
use Rattle.index.proofs.SetLemmas.{set_among}
use Rattle.entries.proofs.CatalogueEntries.{value_size}
use Rattle.entries.proofs.OneStateLaws.{lawful_indexes}

pub escaped_size : (bs : List ℕ) → length (escaped_text bs) ≤ 2 * length bs + 2
escaped_size [] = omega arith
escaped_size (zero ∷ bs) = omega (arith, escaped_size bs)
escaped_size (suc b ∷ bs) = omega (arith, escaped_size bs)

pub key_size : (collection index : ℕ) (text : List ℕ) → length (key_under collection index text) ≡ 8 + length text
key_size c i text = omega (arith, length-append (to_be_bytes w32 c) (to_be_bytes w32 i ++ text), length-append (to_be_bytes w32 i) text)

-- ---- encoded keys

let_through : {X : Type 0} (b : Bool) (r : Refusal) (x : Result X Refusal) (y : X) → unless b r x ≡ Ok y → b ≡ false
let_through true r x y e = absurd cc
let_through false r x y e = refl

pub none_any : {X : Type 0} (p : X → Bool) (xs : List X) (x : X) → list_any p xs ≡ false → Among x xs → p x ≡ false
none_any p [] x e h = absurd h
none_any p (y ∷ ys) x e (inl f) = ap p f ∙ (or_none (p y) (list_any p ys) e).0
  where
    or_none : (a b : Bool) → (a || b) ≡ false → (a ≡ false) × (b ≡ false)
    or_none true b g = absurd cc
    or_none false b g = (refl, g)
none_any p (y ∷ ys) x e (inr h) = none_any p ys x (or_last (p y) (list_any p ys) e) h
  where
    or_last : (a b : Bool) → (a || b) ≡ false → b ≡ false
    or_last true b g = absurd cc
    or_last false b g = g

pub short_within : (fs : List Field) (d : Pairs) (key : List ℕ) → is_too_long fs d ≡ false → Among key (encoded_keys fs d) → length key ≤ 500
short_within fs d key within there =
    let bytes = map (key_bytes fs) (index_keys fs d) in
    let one = among_map (key_bytes fs) key (index_keys fs d) (test_among bytes key (sym (set_among bytes key) ∙ among_test (encoded_keys fs d) key there)) in
    let short : nat_lt 500 (length (key_bytes fs one.0)) ≡ false =
    none_any (λ (ks : List Key). nat_lt 500 (length (key_bytes fs ks))) (index_keys fs d) one.0 within one.1 in
    let long : length key ≡ length (key_bytes fs one.0) = ap length one.2 in
    let at_most : length (key_bytes fs one.0) ≤ 500 = grind (arith, nat_tests, short) in
    omega (arith, long, at_most)

encoded_short : (fs : List Field) (d : Pairs) (key : List ℕ) → keys_in fs d ≡ Ok (encoded_keys fs d) → Among key (encoded_keys fs d) → length key ≤ 500
encoded_short fs d key e there =
    short_within fs d key
    (let_through (is_too_long fs d) refusals.KeyTooLong (unless (has_parallel_arrays fs d) refusals.CannotIndexParallelArrays (Ok (encoded_keys fs d)))
    (encoded_keys fs d) e) there

-- ---- entries

entry_fits : (c : Collection) (x : Entry) → IsKept c → IsOneOf c x → (length x.key ≤ 1024) × (length x.value ≤ 65535)
entry_fits c x kept (inl e) =
    let key : length x.key ≡ 8 + length (tree_text (words c.name)) = ap (λ (y : Entry). length y.key) e ∙ key_size 0 0 (tree_text (words c.name)) in
    let value : length x.value ≡ length (catalogue_entry c).value = ap (λ (y : Entry). length y.value) e in (
      omega (arith, key, escaped_size c.name, kept.short),
      omega (arith, value, value_size c.number c.indexes kept.few (lawful_indexes c.indexes c.documents kept.indexes)),
    )
entry_fits c x kept (inr (inl d)) =
    let stored = storable_of c d.document kept d.there in
    let key : length x.key ≡ 8 + length (tree_text (key_of d.document)) =
    ap (λ (y : Entry). length y.key) d.is ∙ key_size c.number 0 (tree_text (key_of d.document)) in
    let value : length x.value ≡ length (frame_of (pairs_bytes d.document)) = ap (λ (y : Entry). length y.value) d.is in
    (omega (arith, key, stored.short), omega (arith, value, stored.size))
entry_fits c x kept (inr (inr k)) =
    let stored = storable_of c k.document kept k.there in
    let text = tree_text (key_of k.document) in
    let encoded =
    encoded_short k.index.fields k.document k.key
    (of_all (λ d. keys_in k.index.fields d ≡ Ok (encoded_keys k.index.fields d)) c.documents k.document (listed_of c k.index kept k.listed).keys k.there)
    k.keyed in
    let key : length x.key ≡ 8 + length (k.key ++ text) = ap (λ (y : Entry). length y.key) k.is ∙ key_size c.number k.index.number (k.key ++ text) in
    let value : length x.value ≡ 0 = ap (λ (y : Entry). length y.value) k.is in
    (omega (arith, key, length-append k.key text, encoded, stored.short), omega (arith, value))

pub entries_fit : EntriesFit
entries_fit cs x h there =
    let home = home_of cs x (among_of (state_entries cs) x there) in entry_fits home.collection x (kept_of cs home.collection h home.there) home.one
