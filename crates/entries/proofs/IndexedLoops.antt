-- A loop that notes the entries of a document in several indexes, index by index.
use Rattle.std.proofs.Common.{◌≡◌, ℕ, ◌+◌, ◌<◌, ◌≤◌, List, ◌∷◌, ◌++◌, length, get_or, drop, map, sym, ap, subst, ◌∙◌, arith}
use Rattle.std.specs.Prelude.{All}
use Rattle.std.proofs.lemmas.List.{at_drop_more, drop_all, map-append}
use Rattle.tree_model.specs.Keys.{Entry, Edit}
use Rattle.index.specs.Definition.{Definition}
use Rattle.entries.specs.Indexed.{with_edits, NotesUpTo, NotesSome, entries_at, entries_in_all}
use Rattle.entries.proofs.ManyEditsLaws.{goes_further, stops, ends}

-- W makes an edit of an entry, T tells the keys
module _ {K : Type 0} (T : K → List (List ℕ)) (W : Entry → Edit) (n : ℕ) (id : List ℕ) (is : List Definition) (kss : List K) where
  abbrev pub left_from : ℕ → List Edit
  left_from k = map W (entries_in_all n id (drop k is) (map T (drop k kss)))

  abbrev pub of_index : ℕ → List (List ℕ) → List Edit
  of_index number keys = map W (entries_at n number id keys)

  cut : (k : ℕ) (i : Definition) (ks : K) → k < length is → length kss ≡ length is → i ≡ get_or is k i → ks ≡ get_or kss k ks
      → left_from k ≡ of_index i.number (T ks) ++ left_from (k + 1)
  cut k i ks below same at_k keyed =
      let rest = entries_in_all n id (drop (k + 1) is) (map T (drop (k + 1) kss)) in
      let entries : entries_in_all n id (drop k is) (map T (drop k kss)) ≡ entries_at n i.number id (T ks) ++ rest =
      at_drop_more (λ js. entries_in_all n id js (map T (drop k kss))) is k i below
      ∙ at_drop_more (λ lss. entries_in_all n id (get_or is k i ∷ drop (k + 1) is) (map T lss)) kss k ks (omega (arith, below, same))
      ∙ (λ t. entries_at n (sym at_k t).number id (T (sym keyed t)) ++ rest) in
      ap (map W) entries ∙ map-append W (entries_at n i.number id (T ks)) rest

  pub step : (old all : List Edit) (k : ℕ) (i : Definition) (ks : K) (mid new : List Edit) → k < length is → length kss ≡ length is → i ≡ get_or is k i
      → ks ≡ get_or kss k ks
      → NotesUpTo old all (left_from k) mid → new ≡ with_edits (of_index i.number (T ks)) mid → NotesUpTo old all (left_from (k + 1)) new
  step old all k i ks mid new below same at_k keyed so made =
      goes_further old all (left_from k) (of_index i.number (T ks)) (left_from (k + 1)) mid new so (cut k i ks below same at_k keyed) made

  pub cut_off : (old all : List Edit) (k : ℕ) (i : Definition) (ks : K) (mid new : List Edit) → k < length is → length kss ≡ length is → i ≡ get_or is k i
      → ks ≡ get_or kss k ks
      → NotesUpTo old all (left_from k) mid → NotesSome mid (of_index i.number (T ks)) new → NotesSome old all new
  cut_off old all k i ks mid new below same at_k keyed so some =
      stops old all (left_from k) (of_index i.number (T ks)) (left_from (k + 1)) mid new so (cut k i ks below same at_k keyed) some

  pub last : (old all : List Edit) (k : ℕ) (new : List Edit) → length is ≤ k → NotesUpTo old all (left_from k) new → new ≡ with_edits all old
  last old all k new past so =
      ends old all (left_from k) new so (ap (λ (js : List Definition). map W (entries_in_all n id js (map T (drop k kss)))) (drop_all k is past))

-- what holds of all elements of all lists holds of those of one
pub all_at : {K X : Type 0} (V : K → List X) (P : X → Type 0) (kss : List K) (k : ℕ) (ks : K) (xs : List X) → All (λ ls. All P (V ls)) kss → k < length kss
    → ks ≡ get_or kss k ks → xs ≡ V ks → All P xs
all_at V P kss k ks xs h below at_k is = subst (All P) (ap V (sym at_k) ∙ sym is) (h k ks below)
