-- What the code has on its way to the keys of a document; these words serve its proof alone.
use Rattle.std.specs.Prelude.{ℕ, ◌-◌, max, nat_lt, Bool, ◌||◌, List, [], ◌∷◌, ◌++◌, length, map}
use Rattle.std.specs.Prelude.{Option, Some, None, Result, Ok, if◌then◌else◌}
use Rattle.std.specs.List.{flat_map, list_any}
use Rattle.outcome.specs.Outcome.{unless, ◌>>=◌}
use Rattle.bson.specs.Tree.{Pairs}
use Rattle.value_order.specs.Order.{Key}
use Rattle.value_order.specs.KeyText.{directed_text}
use Rattle.value_order.specs.declared.texts.Direction.{Direction}
use Rattle.path.specs.declared.refusal.Refusal.{Refusal}
use Rattle.path.specs.declared.refusal.Refusal.TheVariants as refusals
use Rattle.index.specs.Definition.{Field, Definition}
use Rattle.index.specs.IndexKeys.{field_keys, has_parallel_arrays}
use Rattle.index.specs.KeyTexts.{encoded_keys, is_too_long}

-- the texts of keys behind others, where none is too long by itself
abbrev pub with_texts : Direction → List (List ℕ) → List Key → Result (List (List ℕ)) Refusal
with_texts way texts [] = Ok texts
with_texts way texts (k ∷ ks) =
    unless (nat_lt 500 (length (directed_text way k))) refusals.KeyTooLong
    (with_texts way (texts ++ directed_text way k ∷ []) ks)

abbrev pub longest : List (List ℕ) → ℕ
longest [] = 0
longest (t ∷ ts) = max (length t) (longest ts)

abbrev pub texts_at : Field → Pairs → Result (List (List ℕ)) Refusal
texts_at f ps = with_texts f.direction [] (field_keys f.path ps)

-- the texts of the fields behind those of others, where the longest of each have room together
abbrev pub texts_within : ℕ → List (List (List ℕ)) → List Field → Pairs
    → Result (List (List (List ℕ))) Refusal
texts_within room done [] ps = Ok done
texts_within room done (f ∷ fs) ps = texts_at f ps >>= λ texts.
    unless (nat_lt room (longest texts)) refusals.KeyTooLong
    (texts_within (room - longest texts) (done ++ texts ∷ []) fs ps)

-- each of the fronts with each of the texts behind it
abbrev pub extended : List (List ℕ) → List (List ℕ) → List (List ℕ)
extended fronts texts = flat_map (λ front. map (λ text. front ++ text) texts) fronts

-- the combinations of a text of each list, with these ends
abbrev pub combined : List (List (List ℕ)) → List (List ℕ) → List (List ℕ)
combined [] ends = ends
combined (ts ∷ tss) ends = extended ts (combined tss ends)

-- the keys in ascending order, nothing where there are parallel arrays, or the refusal
abbrev pub keys_unless_parallel : List Field → Pairs → Result (Option (List (List ℕ))) Refusal
keys_unless_parallel fields ps =
    unless (is_too_long fields ps) refusals.KeyTooLong
    (Ok (if has_parallel_arrays fields ps then None else Some (encoded_keys fields ps)))

-- the keys in further indexes behind these, where no index before had parallel arrays
abbrev pub keys_behind : List (List (List ℕ)) → Bool → List Definition → Pairs
    → Result (List (List (List ℕ))) Refusal
keys_behind done is_parallel ds ps =
    unless (list_any (λ d. is_too_long d.fields ps) ds) refusals.KeyTooLong
    (unless (is_parallel
    || list_any (λ d. has_parallel_arrays d.fields ps) ds) refusals.CannotIndexParallelArrays
    (Ok (done ++ map (λ d. encoded_keys d.fields ps) ds)))
