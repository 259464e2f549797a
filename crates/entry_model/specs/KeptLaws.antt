-- Which documents and indexes a collection within the limits may gain, and that it may lose any.
use Rattle.std.specs.Prelude.{◌≡◌, ◌≢◌, ◌<◌, true, List, [], ◌∷◌, ◌++◌, length, map}
use Rattle.std.specs.Prelude.{Ok, All}
use Rattle.std.specs.declared.cmp.Ordering.TheVariants.{Less}
use Rattle.bson.specs.Tree.{Pairs}
use Rattle.value_order.specs.Order.{compare}
use Rattle.index.specs.Definition.{Definition}
use Rattle.index.specs.IndexKeys.{is_multikey, noted}
use Rattle.index.specs.KeyTexts.{encoded_keys, keys_in}
use Rattle.entry_model.specs.State.{Collection, key_of}
use Rattle.entry_model.specs.LawfulState.{IsStorable, IsKept, IsIndexOf, ShareNoKey}
use Rattle.entry_model.specs.StateLaws.{AreAlike}

-- ---- documents

-- A document may stand with these others in an index: it isn't refused, in a unique index it shares
-- no key with one of them, and the index is multikey if it has an array on one of the paths.
pub record MayEnter (others : List Pairs) (d : Pairs) (i : Definition) : Type 0 where
  pub keys : keys_in i.fields d ≡ Ok (encoded_keys i.fields d)
  pub unique : i.is_unique ≡ true → All (ShareNoKey i.fields d) others
  pub multi : is_multikey i.fields d ≡ true → i.is_multi ≡ true

-- A document may stand between these others, in these indexes.
pub record MayStand (indexes : List Definition) (front back : List Pairs) (d : Pairs) : Type 0 where
  pub storable : IsStorable d
  pub behind : All (λ e. compare (key_of e) (key_of d) ≡ Less) front
  pub before : All (λ e. compare (key_of d) (key_of e) ≡ Less) back
  pub enters : All (MayEnter (front ++ back) d) indexes

-- A collection within the limits stays so with such a document.
abbrev pub KeptWithDocument : Type 0
KeptWithDocument =
    (c : Collection) (front back : List Pairs) (d : Pairs) → IsKept c → c.documents ≡ front ++ back
    → MayStand c.indexes front back d → IsKept (record c { documents = front ++ d ∷ back })

-- It does so without one.
abbrev pub KeptWithoutDocument : Type 0
KeptWithoutDocument =
    (c : Collection) (front back : List Pairs) (d : Pairs) → IsKept c
    → c.documents ≡ front ++ d ∷ back
    → IsKept (record c { documents = front ++ back })

-- ---- indexes

-- A collection within the limits stays so with an index of its documents whose number is new, where
-- there is room.
abbrev pub KeptWithIndex : Type 0
KeptWithIndex =
    (c : Collection) (i : Definition) → IsKept c → IsIndexOf c.documents i
    → All (λ j. j.number ≢ i.number) c.indexes
    → length c.indexes < 16 → IsKept (record c { indexes = c.indexes ++ i ∷ [] })

-- It does so without one.
abbrev pub KeptWithoutIndex : Type 0
KeptWithoutIndex =
    (c : Collection) (front back : List Definition) (i : Definition) → IsKept c
    → c.indexes ≡ front ++ i ∷ back
    → IsKept (record c { indexes = front ++ back })

abbrev pub IsNotedFor : Pairs → Definition → Type 0
IsNotedFor d i = is_multikey i.fields d ≡ true → i.is_multi ≡ true

-- A collection within the limits stays so with its indexes noted for a document, which are alike to
-- those before.
abbrev pub KeptNoted : Type 0
KeptNoted =
    (c : Collection) (d : Pairs) → IsKept c → let noted_indexes = map (noted d) c.indexes in
    IsKept (record c { indexes = noted_indexes }) × AreAlike c.indexes noted_indexes
    × All (IsNotedFor d) noted_indexes
