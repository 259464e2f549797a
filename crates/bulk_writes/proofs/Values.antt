-- Edits at a path leave lawful values, where what they put there is lawful.
use Rattle.std.proofs.Common.{ℕ, zero, suc, ◌+◌, Bool, true, false, List, [], ◌∷◌, Option, Some, None, Result, Ok, Err}
use Rattle.std.specs.Prelude.{if◌then◌else◌, nat_le, nat_lt}
use Rattle.std.specs.Option.{option_and_then, unwrap_or}
use Rattle.std.specs.Str.{bytes_eq}
use Rattle.bson.specs.EditPlaces.{IsItems-with_item}
use Rattle.bson.specs.Edits.{item_at, items_len}
use Rattle.bson.specs.EditsLaws.{IsPairs-cut, IsPairs-put}
use Rattle.bson.specs.Lawful.{IsItems, IsName, IsPairs, IsTree, levels}
use Rattle.bson.specs.Lookup.{lookup}
use Rattle.bson.specs.Tree.{Tree, scalar, null, document, array, Pairs, no_pairs, pair, Items, no_items, item}
use Rattle.path.specs.declared.refusal.Refusal.{Refusal}
use Rattle.path.specs.declared.refusal.Refusal.TheVariants as refusals
use Rattle.path.specs.Edits.{cut_at, cut_field, cut_found, cut_item, cut_off, if_ok, put_item, put_or_cut, set_at, with_found, within, write, write_at}
use Rattle.path.specs.Edits.{write_field, write_item, write_item_at}
use Rattle.path.specs.Parts.{index_of}
use Rattle.path.specs.Place.{child, value_at}

-- ---- what isn't refused

abbrev pub IfGiven : {X : Type 0} → (X → Type 0) → Result X Refusal → Type 0
IfGiven P (Ok x) = P x
IfGiven P (Err e) = Unit {0}

pub given : {A B : Type 0} (P : A → Type 0) (Q : B → Type 0) (r : Result A Refusal) (f : A → Result B Refusal) → IfGiven P r
    → ((x : A) → P x → IfGiven Q (f x)) → IfGiven Q (if_ok r f)
given P Q (Ok x) f h go = go x h
given P Q (Err e) f h go = tt

-- ---- what stands in a value

abbrev pub IfThere : Option Tree → Type 0
IfThere None = Unit {0}
IfThere (Some t) = IsTree t

abbrev pub AreNames : List (List ℕ) → Type 0
AreNames [] = Unit {0}
AreNames (name ∷ names) = IsName name × AreNames names

pub field_there : (ps : Pairs) (name : List ℕ) → IsPairs ps → IfThere (lookup ps name)
field_there no_pairs name h = tt
field_there (pair other t ps) name h = at (bytes_eq name other) (field_there ps name h.3)
  where
    at : (b : Bool) → IfThere (lookup ps name) → IfThere (if b then Some t else lookup ps name)
    at true later = h.1
    at false later = later

item_there : (ts : Items) (i : ℕ) → IsItems ts → IfThere (item_at ts i)
item_there no_items i h = tt
item_there (item t ts) zero h = h.0
item_there (item t ts) (suc i) h = item_there ts i h.1

child_there : (name : List ℕ) (t : Tree) → IsTree t → IfThere (child name t)
child_there name (scalar s) h = tt
child_there name (document ps) h = field_there ps name h
child_there name (array ts) h = at (index_of name)
  where
    at : (o : Option ℕ) → IfThere (option_and_then (item_at ts) o)
    at None = tt
    at (Some i) = item_there ts i h

pub value_there : (parts : List (List ℕ)) (t : Tree) → IsTree t → IfThere (value_at parts t)
value_there [] t h = h
value_there (name ∷ rest) t h = at (child name t) (child_there name t h) (λ u is. value_there rest u is)
  where
    at : (o : Option Tree) → IfThere o → ((u : Tree) → IsTree u → IfThere (value_at rest u)) → IfThere (option_and_then (value_at rest) o)
    at None is later = tt
    at (Some u) is later = later u is

-- ---- writing

abbrev pub Makes : (Option Tree → Result Tree Refusal) → Type 0
Makes made = (o : Option Tree) → IfThere o → IfGiven IsTree (made o)

within_given : (most : ℕ) (r : Result Tree Refusal) → IfGiven IsTree r → IfGiven IsTree (within most r)
within_given most (Err e) h = tt
within_given most (Ok u) h = at (nat_le (levels u) most)
  where
    at : (b : Bool) → IfGiven IsTree (if b then Ok u else Err refusals.BadValue)
    at true = h
    at false = tt

put_item_lawful : (ts : Items) (i : ℕ) (u : Tree) → IsItems ts → IsTree u → IsItems (put_item ts i u)
put_item_lawful no_items zero u h is = (is, tt)
put_item_lawful no_items (suc i) u h is = (tt, put_item_lawful no_items i u h is)
put_item_lawful (item t ts) zero u h is = (is, h.1)
put_item_lawful (item t ts) (suc i) u h is = (h.0, put_item_lawful ts i u h.1 is)

module _ (made : Option Tree → Result Tree Refusal) (makes : Makes made) where
  field_given : (name : List ℕ) (ps : Pairs) → IsName name → IsPairs ps → IfGiven IsPairs (write_field made name ps)
  field_given name ps n h =
      given IsTree IsPairs (within 99 (made (lookup ps name))) _ (within_given 99 (made (lookup ps name)) (makes (lookup ps name) (field_there ps name h)))
      (λ u is. IsPairs-put ps name u h n is)

  item_at_given : (i : ℕ) (ts : Items) → IsItems ts → IfGiven IsItems (write_item_at made i ts)
  item_at_given i ts h = at (nat_lt (items_len ts + 1000) i)
    where
      at : (b : Bool) → IfGiven IsItems (if b then Err refusals.BadValue else if_ok (within 98 (made (item_at ts i))) (λ u. Ok (put_item ts i u)))
      at true = tt
      at false =
          given IsTree IsItems (within 98 (made (item_at ts i))) _ (within_given 98 (made (item_at ts i)) (makes (item_at ts i) (item_there ts i h)))
          (λ u is. put_item_lawful ts i u h is)

  item_given : (o : Option ℕ) (ts : Items) → IsItems ts → IfGiven IsItems (write_item made o ts)
  item_given None ts h = tt
  item_given (Some i) ts h = item_at_given i ts h

module _ (made : Option Tree → Result Tree Refusal) (makes : Makes made) where
  written : (parts : List (List ℕ)) → AreNames parts → Makes (write made parts)
  written [] names o h = makes o h
  written (name ∷ rest) names None h =
      given IsPairs IsTree (write_field (write made rest) name no_pairs) _ (field_given (write made rest) (written rest names.1) name no_pairs names.0 tt)
      (λ ps is. is)
  written (name ∷ rest) names (Some (scalar s)) h = tt
  written (name ∷ rest) names (Some (document ps)) h =
      given IsPairs IsTree (write_field (write made rest) name ps) _ (field_given (write made rest) (written rest names.1) name ps names.0 h) (λ qs is. is)
  written (name ∷ rest) names (Some (array ts)) h =
      given IsItems IsTree (write_item (write made rest) (index_of name) ts) _ (item_given (write made rest) (written rest names.1) (index_of name) ts h)
      (λ us is. is)

  pub written_at : (parts : List (List ℕ)) (ps : Pairs) → AreNames parts → IsPairs ps → IfGiven IsPairs (write_at made parts ps)
  written_at [] ps names h = h
  written_at (name ∷ rest) ps names h = field_given (write made rest) (written rest names.1) name ps names.0 h

pub set_given : (parts : List (List ℕ)) (t : Tree) (ps : Pairs) → AreNames parts → IsTree t → IsPairs ps → IfGiven IsPairs (set_at parts t ps)
set_given parts t ps names is h = written_at (λ old. Ok t) (λ o there. is) parts ps names h

-- ---- removing

abbrev Leaves : (Tree → Option Tree) → Type 0
Leaves left = (t : Tree) → IsTree t → IfThere (left t)

module _ (left : Tree → Option Tree) (leaves : Leaves left) where
  put_or_cut_lawful : (name : List ℕ) (ps : Pairs) (o : Option Tree) → IsName name → IsPairs ps → IfThere o → IsPairs (put_or_cut name ps o)
  put_or_cut_lawful name ps None n h is = IsPairs-cut ps name h
  put_or_cut_lawful name ps (Some w) n h is = IsPairs-put ps name w h n is

  field_lawful : (name : List ℕ) (ps : Pairs) → IsName name → IsPairs ps → IsPairs (cut_field left name ps)
  field_lawful name ps n h = at (lookup ps name) (field_there ps name h)
    where
      at : (o : Option Tree) → IfThere o → IsPairs (cut_found left name ps o)
      at None is = h
      at (Some u) is = put_or_cut_lawful name ps (left u) n h (leaves u is)

  item_lawful : (o : Option ℕ) (ts : Items) → IsItems ts → IsItems (cut_item left o ts)
  item_lawful None ts h = h
  item_lawful (Some i) ts h = at (item_at ts i) (item_there ts i h)
    where
      or_null : (o : Option Tree) → IfThere o → IsTree (unwrap_or o (scalar null))
      or_null None is = tt
      or_null (Some w) is = is

      at : (o : Option Tree) → IfThere o → IsItems (with_found left i ts o)
      at None is = h
      at (Some u) is = IsItems-with_item ts i (unwrap_or (left u) (scalar null)) h (or_null (left u) (leaves u is))

cut_leaves : (parts : List (List ℕ)) → AreNames parts → Leaves (cut_off parts)
cut_leaves [] names t h = tt
cut_leaves (name ∷ rest) names (scalar s) h = h
cut_leaves (name ∷ rest) names (document ps) h = field_lawful (cut_off rest) (cut_leaves rest names.1) name ps names.0 h
cut_leaves (name ∷ rest) names (array ts) h = item_lawful (cut_off rest) (cut_leaves rest names.1) (index_of name) ts h

pub cut_lawful : (parts : List (List ℕ)) (ps : Pairs) → AreNames parts → IsPairs ps → IsPairs (cut_at parts ps)
cut_lawful [] ps names h = h
cut_lawful (name ∷ rest) ps names h = field_lawful (cut_off rest) (cut_leaves rest names.1) name ps names.0 h
