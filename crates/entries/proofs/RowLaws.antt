-- The rows worked by hand.
use Rattle.std.proofs.Common.{◌≡◌, ◌≢◌, zero, suc, true, [], ◌∷◌, length, Ok, refl, arith, codes}
use Rattle.std.specs.Prelude.{All}
use Rattle.std.specs.List.{AllPairs}
use Rattle.std.specs.Fmt.{digits}
use Rattle.std.specs.Ordering.{nat_cmp}
use Rattle.std.specs.Cmp.Lexicographic.{slice_cmp}
use Rattle.std.specs.declared.cmp.Ordering.TheVariants.{Less}
use Rattle.value_order.specs.Order.{compare}
use Rattle.entry_model.specs.State.{key_of}
use Rattle.std.proofs.lemmas.Int.{ints}
use Rattle.bson.specs.Lawful.{IsDocument}
use Rattle.bson.specs.Spelling.{tree_bytes, pairs_bytes, items_bytes, frame_of}
use Rattle.index.specs.Definition.{IsDefinition}
use Rattle.index.specs.IndexKeys.{is_multikey}
use Rattle.index.specs.KeyTexts.{encoded_keys, keys_in}
use Rattle.entry_model.specs.LawfulState.{IsStorable, ShareNoKey, IsIndexOf, IsKept}
use Rattle.entries.specs.StateRows.{FirstState, FirstIsLawful, seven, index_on_a, one_collection}
use Rattle.index.proofs.CatalogueLemmas.{differ}
use Rattle.entries.proofs.CatalogueEntries.{plain_name}

pub first_state : FirstState
unfolding tree_bytes pairs_bytes items_bytes digits
first_state = refl

-- ---- it is lawful

only_one : {X : Type 0} (P : X → Type 0) (x : X) → P x → All P (x ∷ [])
only_one P x h zero d below = h
only_one P x h (suc k) d below = absurd (omega (arith, below))

no_pair : {X : Type 0} (R : X → X → Type 0) (x : X) → AllPairs R (x ∷ [])
no_pair R x = λ i j d lt below. absurd (omega (arith, lt, below))

seven_lawful : IsDocument seven
seven_lawful = record {
  lawful = (
    plain_name (codes "_id") refl,
    omega (arith, ints),
    (differ (codes "_id") (codes "a") refl, tt),
    (plain_name (codes "a") refl, omega (arith, ints), tt, tt),
  );
  depth = omega arith;
}

seven_size : length (frame_of (pairs_bytes seven)) ≡ 21
unfolding tree_bytes pairs_bytes
seven_size = refl

seven_storable : IsStorable seven
seven_storable = record { lawful = seven_lawful; size = omega (arith, seven_size); depth = omega arith; key = refl; short = omega arith }

index_lawful : IsDefinition index_on_a
index_lawful = record {
  numbered = omega arith;
  most = omega arith;
  is_text = (plain_name (codes "a_1") refl).is_text;
  named = omega arith;
  short = omega arith;
  fields = record { some = omega arith; most = omega arith; paths = (refl, tt); distinct = (plain_name (codes "a") refl, omega (arith, ints), tt, tt) };
}

not_refused : keys_in index_on_a.fields seven ≡ Ok (encoded_keys index_on_a.fields seven)
not_refused = refl

one_value : is_multikey index_on_a.fields seven ≡ true → index_on_a.is_multi ≡ true
one_value e = e

index_of_seven : IsIndexOf (seven ∷ []) index_on_a
index_of_seven = record {
  lawful = index_lawful;
  keys = only_one (λ d. keys_in index_on_a.fields d ≡ Ok (encoded_keys index_on_a.fields d)) seven not_refused;
  unique = λ u. no_pair (ShareNoKey index_on_a.fields) seven;
  multi = only_one (λ d. is_multikey index_on_a.fields d ≡ true → index_on_a.is_multi ≡ true) seven one_value;
}

collection_kept : IsKept one_collection
collection_kept = record {
  name = (plain_name (codes "t.c") refl).is_text;
  short = omega arith;
  least = omega arith;
  most = omega arith;
  rising = no_pair (λ d e. compare (key_of d) (key_of e) ≡ Less) seven;
  storable = only_one IsStorable seven seven_storable;
  indexes = only_one (IsIndexOf (seven ∷ [])) index_on_a index_of_seven;
  distinct = no_pair (λ i j. i.number ≢ j.number) index_on_a;
  few = omega arith;
}

pub first_is_lawful : FirstIsLawful
first_is_lawful = record {
  apart = no_pair (λ c d. slice_cmp nat_cmp c.name d.name ≡ Less) one_collection;
  numbers = (refl, tt);
  kept = only_one IsKept one_collection collection_kept;
  few = omega arith;
}
