-- What holds of the order and of key texts, for EmptyArray and every value that BSON can spell.
use Rattle.std.specs.Prelude.{◌≡◌, ◌↔◌, ◌≤◌, ℕ, List, ◌++◌, length}
use Rattle.std.specs.declared.cmp.Ordering.TheVariants.{Equal}
use Rattle.std.specs.Cmp.{IsTotalOrder}
use Rattle.bson.specs.Lawful.{IsTree}
use Rattle.bson.specs.Spelling.{tree_bytes}
use Rattle.bson.specs.Limits.{message_limit}
use Rattle.value_order.specs.Order.{Key, empty_array, value, bytes_cmp, compare, key_cmp}
use Rattle.value_order.specs.KeyText.{directed_text, directed_cmp}
use Rattle.value_order.specs.declared.texts.Direction.{Direction}

-- a value that BSON can spell in a message
abbrev pub IsKey : Key → Type 0
IsKey empty_array = Unit {0}
IsKey (value t) = IsTree t × (length (tree_bytes t) ≤ message_limit)

-- one of two values is below the other or the order calls them equal, and what is below stays below
abbrev pub ComparesTotally : Type 0
ComparesTotally = IsTotalOrder compare

-- the same of keys, of which one says that an empty array stands there
abbrev pub KeysCompareTotally : Type 0
KeysCompareTotally = IsTotalOrder key_cmp

-- texts of one direction order by bytes as the keys do in that direction
abbrev pub TextsOrder : Type 0
TextsOrder = (d : Direction) (a b : Key) → IsKey a → IsKey b
    → bytes_cmp (directed_text d a) (directed_text d b) ≡ directed_cmp d a b

-- texts are equal exactly where the order calls the keys equal
abbrev pub TextsAgree : Type 0
TextsAgree = (d : Direction) (a b : Key) → IsKey a → IsKey b
    → (directed_text d a ≡ directed_text d b) ↔ (key_cmp a b ≡ Equal)

-- no text begins another: two texts with something behind them are equal only where the texts are
abbrev pub NoneBegins : Type 0
NoneBegins = (d : Direction) (a b : Key) (x y : List ℕ) → IsKey a → IsKey b
    → directed_text d a ++ x ≡ directed_text d b ++ y
    → (directed_text d a ≡ directed_text d b) × (x ≡ y)
