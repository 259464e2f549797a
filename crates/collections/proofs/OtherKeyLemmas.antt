-- What a range of entries and a list of edits tell of other keys.
use Rattle.std.proofs.Common.{◌≡◌, ℕ, false, true, Bool, not, ◌||◌, List, [], ◌∷◌, map, Option, Some, None, refl, sym, ap, arith, ◌∙◌}
use Rattle.std.specs.Prelude.{is_some, unwrap_or}
use Rattle.std.specs.Global.{Vec}
use Rattle.std.specs.List.{list_any}
use Rattle.std.specs.Option.{option_map}
use Rattle.std.proofs.lemmas.List.{length-map}
use Rattle.tree_model.specs.Calls.{IsBatch}
use Rattle.tree_model.specs.Keys.{edit_keys}
use Rattle.tree_model.specs.Keys.{Edit, Entry, Rises, change, value_at, window}
use Rattle.btree.specs.Scan.{entry_in, within}
use Rattle.btree.specs.declared.scanning.Batch.{Batch}
use Rattle.btree.specs.declared.scanning.Range.{Range}
use Rattle.index.specs.Changes.{is_among}
use Rattle.entries.specs.EditList.{edit_at}
use Rattle.entries.specs.OtherKeys.{is_another, leaves_another, puts_another, IsEndOf}
use Rattle.entry_model.specs.State.{Collection}
use Rattle.entry_model.specs.StateEntries.{key_under}
use Rattle.entries.proofs.EditLookLemmas.{put_what_they_have}
use Rattle.entries.proofs.OtherEditLaws.{after_edits, in_range}
use Rattle.collections.specs.OtherKeys.{TellsDocument, TellsOtherKey}
use Rattle.collections.specs.Lookups.{IsBatchOf, IsInTree, IsValueAt}
use Rattle.collections.proofs.FoundLemmas.{whole_batch}
use Rattle.collections.proofs.ReadingLemmas.{next_same}

-- no vector holds more than all entries of a range
pub not_more : (now : List Collection) (range : Range) (batch : Batch) → range.limit ≡ 18446744073709551615 → IsInTree (IsBatchOf range) now batch
    → is_some batch.next ≡ true → ⊥
not_more now range batch limit p more = by (option_map (λ v. v.items) batch.next) (next_same batch.next ∙ more) p.right
  where
    by : (next : Option (List ℕ)) → is_some next ≡ true → IsBatch range.limit (within range p.entries) (map entry_in batch.entries.items) next → ⊥
    by None more right = cc
    by (Some key) more right =
        omega (arith, limit, right.full, length-map batch.entries.items entry_in, batch.entries.ok.0, batch.entries.ok.1, batch.entries.small)

any_map : {X Y : Type 0} (f : X → Y) (p : Y → Bool) (xs : List X) → list_any p (map f xs) ≡ list_any (λ x. p (f x)) xs
any_map f p [] = refl
any_map f p (x ∷ xs) = ap (λ b. p (f x) || b) (any_map f p xs)

module _ (now : List Collection) (edits : List Edit) (number index : ℕ) (key id front : List ℕ) (range : Range) (batch : Batch)
    (rises : Rises (edit_keys edits))
    (front_is : front ≡ key_under number index key) (from : range.from.now ≡ front) (ends : IsEndOf front (option_map (λ b. b.now) range.to))
    (end : is_some batch.next ≡ false)
    (p : IsInTree (IsBatchOf range) now batch) where
  abbrev left : Entry → Bool
  left = leaves_another front id edits

  -- the entries that the edits leave are all in the batch
  all_there : list_any (λ x. left (entry_in x)) batch.entries.items ≡ list_any left p.entries
  all_there =
      sym (any_map entry_in left batch.entries.items)
      ∙ ap (list_any left)
      (whole_batch range.limit (within range p.entries) (map entry_in batch.entries.items) (option_map (λ v. v.items) batch.next)
      (next_same batch.next ∙ end) p.right)
      ∙ ap (λ (k : List ℕ). list_any left (window k (option_map (λ b. b.now) range.to) p.entries)) from
      ∙ in_range front id (option_map (λ b. b.now) range.to) (λ k. not (is_among (edit_keys edits) k)) p.entries ends

  pub tells_other : TellsOtherKey edits number index key id now (puts_another front id edits || list_any (λ x. left (entry_in x)) batch.entries.items)
  tells_other = record {
    entries = p.entries;
    spells = p.spells;
    state = p.state;
    right = ap (λ (b : Bool). puts_another front id edits || b) all_there
        ∙ sym (after_edits (is_another front id) edits p.entries rises p.spells.rises)
        ∙ ap (λ (k : List ℕ). list_any (λ x. is_another k id x.key) (change edits p.entries)) front_is;
  }

-- ---- documents

put_or_was : (o : Option (Option (List ℕ))) (v : Option (List ℕ)) → unwrap_or (option_map is_some o) (is_some v) ≡ is_some (unwrap_or o v)
put_or_was None v = refl
put_or_was (Some w) v = refl

some_items : (found : Option (Vec ℕ)) → is_some found ≡ is_some (option_map (λ v. v.items) found)
some_items None = refl
some_items (Some v) = refl

pub tells_noted : (now : List Collection) (edits : List Edit) (number : ℕ) (id key : List ℕ) (found : Option (Vec ℕ)) (b : Bool) → Rises (edit_keys edits)
    → key ≡ key_under number 0 id
    → b ≡ unwrap_or (option_map is_some (edit_at key edits)) (is_some found) → IsInTree (IsValueAt key) now found → TellsDocument edits number id now b
tells_noted now edits number id key found b rises keyed told p = record {
  entries = p.entries;
  spells = p.spells;
  state = p.state;
  right = told
      ∙ ap (unwrap_or (option_map is_some (edit_at key edits))) (some_items found ∙ ap is_some p.right)
      ∙ put_or_was (edit_at key edits) (value_at key p.entries)
      ∙ ap is_some (sym (put_what_they_have edits p.entries key rises))
      ∙ ap (λ (k : List ℕ). is_some (value_at k (change edits p.entries))) keyed;
}
