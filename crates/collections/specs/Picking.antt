-- Documents of some `_id`s that are lent, where what lies between them is passed over.
use Rattle.std.specs.Prelude.{◌≡◌, ◌⊎◌, ℕ, ⊤, Bool, true, false, List, [], ◌∷◌, ◌++◌, drop}
use Rattle.std.specs.Prelude.{map, take}
use Rattle.std.specs.Global.{Vec}
use Rattle.std.specs.List.{AllPairs, filter}
use Rattle.std.specs.declared.cmp.Ordering.{Ordering}
use Rattle.std.specs.declared.cmp.Ordering.TheVariants.{Less, Equal, Greater}
use Rattle.bson.specs.Tree.{Pairs}
use Rattle.value_order.specs.KeyText.{tree_text}
use Rattle.value_order.specs.Order.{bytes_cmp}
use Rattle.tree_model.specs.Keys.{Entry, keep_if, key_cmp}
use Rattle.index.specs.Changes.{is_among}
use Rattle.entry_model.specs.State.{Collection, key_of}
use Rattle.entry_model.specs.StateEntries.{key_under}
use Rattle.collections.specs.Folding.{Lends}
use Rattle.collections.specs.Lookups.{IsNumbered}
use Rattle.collections.specs.declared.folding.Lending.{Lending}
use Rattle.collections.specs.declared.picking.Picking.{Picking}

-- the documents of which the text of the `_id` is one of these
abbrev pub documents_among : List (List ℕ) → List Pairs → List Pairs
documents_among texts ds = filter (λ d. is_among texts (tree_text (key_of d))) ds

-- The collection of a number is asked for documents whose `_id`s have some texts, which ascend.
pub record IsAskedFor (number : ℕ) (texts : List (List ℕ)) (now : List Collection) (c : Collection)
    : Type 0 where
  pub numbered : IsNumbered now c number
  pub ascending : AllPairs (λ s t. bytes_cmp s t ≡ Less) texts

-- ---- entries that have one of some ascending keys

-- whether a key is one of them
abbrev pub meets_by : Ordering → Bool → Bool
meets_by Less later = later
meets_by Equal later = true
meets_by Greater later = false

abbrev pub meets : List (List ℕ) → List ℕ → Bool
meets [] key = false
meets (k ∷ ks) key = meets_by (key_cmp k key) (meets ks key)

-- those that are left behind a key
abbrev pub after_by : Ordering → List ℕ → List (List ℕ) → List (List ℕ) → List (List ℕ)
after_by Less k ks later = later
after_by Equal k ks later = ks
after_by Greater k ks later = k ∷ ks

abbrev pub after : List ℕ → List (List ℕ) → List (List ℕ)
after key [] = []
after key (k ∷ ks) = after_by (key_cmp k key) k ks (after key ks)

-- the entries that have one, and the keys that are left behind all entries
abbrev pub picked : List (List ℕ) → List Entry → List Entry
picked keys [] = []
picked keys (x ∷ xs) = keep_if (meets keys x.key) x (picked (after x.key keys) xs)

abbrev pub left : List (List ℕ) → List Entry → List (List ℕ)
left keys [] = keys
left keys (x ∷ xs) = left (after x.key keys) xs

-- the keys of the documents of some texts
abbrev pub keys_of : ℕ → List (Vec ℕ) → List (List ℕ)
keys_of number texts = map (λ text. key_under number 0 text.items) texts

-- it is the first of these keys, where there is one
abbrev pub IsKeyed : List ℕ → List (List ℕ) → Type 0
IsKeyed key [] = ⊤
IsKeyed key (k ∷ ks) = key ≡ k

-- It is the key of a document of the collection, and that of the first of these, if there is one.
pub record IsNextKey (number : ℕ) (key : List ℕ) (keys : List (List ℕ)) : Type 0 where
  pub front : take 8 key ≡ key_under number 0 []
  pub keyed : IsKeyed key keys

-- The keys up to an entry's were passed: which are left, which is the next, and whether the entry
-- has the last of them.
pub record IsPassedTo (number : ℕ) (key : List ℕ) (before left : List (List ℕ)) (next : List ℕ)
    (has : Bool) : Type 0 where
  pub first : IsNextKey number next left
  pub rest : left ≡ after key before
  pub met : has ≡ meets before key

-- the keys that aren't passed yet
abbrev pub wanted : {F : Type 0} → Picking F → List (List ℕ)
wanted picking = drop picking.passed (keys_of picking.number picking.texts.now)

-- It stays as it is, whatever else it is lent.
abbrev pub Stays : {F : Type 0} → (F → List Pairs → F → Type 0) → Lending F → Type 0
Stays {F} makes lending =
    (start : Lending F) (all more : List Entry)
    → Lends makes start all lending → Lends makes start (all ++ more) lending

-- What entries make of a fold to which those of some keys are lent: once it stays as it is, no key
-- is wanted.
pub record Picks {F : Type 0} (makes : F → List Pairs → F → Type 0) (start : Picking F)
    (entries : List Entry) (now : Picking F) : Type 0 where
  pub number : now.number ≡ start.number
  pub texts : now.texts ≡ start.texts
  pub next : IsNextKey now.number now.key.items (wanted now)
  pub rest : (wanted now ≡ left (wanted start) entries)
      ⊎ ((wanted now ≡ []) × Stays makes now.lending)
  pub lent : Lends makes start.lending (picked (wanted start) entries) now.lending
