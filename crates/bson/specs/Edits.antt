-- Edits of a document's pairs and of an array's items, and why an edit is refused.
use Rattle.std.specs.Prelude.{◌≡◌, ℕ, zero, suc, ◌<◌, ◌≤◌, if◌then◌else◌, Option, Some, None}
use Rattle.std.specs.Prelude.{option_map, List}
use Rattle.std.specs.Str.{bytes_eq}
use Rattle.bson.specs.Tree.{Tree, Pairs, no_pairs, pair, append, Items, no_items, item}
use Rattle.bson.specs.Lawful.{levels, IsName, Lacks, IsDocument}
use Rattle.bson.specs.declared.fault.BuildFault.{BuildFault}
use Rattle.bson.specs.declared.fault.BuildFault.TheVariants as builds

abbrev pub pairs_len : Pairs → ℕ
pairs_len no_pairs = 0
pairs_len (pair name t ps) = suc (pairs_len ps)

abbrev pub items_len : Items → ℕ
items_len no_items = 0
items_len (item t ts) = suc (items_len ts)

-- the place of a name
abbrev pub place : Pairs → List ℕ → Option ℕ
place no_pairs name = None
place (pair other t ps) name =
    if bytes_eq name other then Some 0 else option_map suc (place ps name)

-- the name and the value at a place
abbrev pub pair_at : Pairs → ℕ → Option (List ℕ × Tree)
pair_at no_pairs i = None
pair_at (pair name t ps) zero = Some (name, t)
pair_at (pair name t ps) (suc i) = pair_at ps i

abbrev pub item_at : Items → ℕ → Option Tree
item_at no_items i = None
item_at (item t ts) zero = Some t
item_at (item t ts) (suc i) = item_at ts i

-- the same names, with this value at a place
abbrev pub with_value : Pairs → ℕ → Tree → Pairs
with_value no_pairs i t = no_pairs
with_value (pair name u ps) zero t = pair name t ps
with_value (pair name u ps) (suc i) t = pair name u (with_value ps i t)

abbrev pub with_item : Items → ℕ → Tree → Items
with_item no_items i t = no_items
with_item (item u ts) zero t = item t ts
with_item (item u ts) (suc i) t = item u (with_item ts i t)

-- without what stands at a place
abbrev pub without_pair : Pairs → ℕ → Pairs
without_pair no_pairs i = no_pairs
without_pair (pair name t ps) zero = ps
without_pair (pair name t ps) (suc i) = pair name t (without_pair ps i)

abbrev pub without_item : Items → ℕ → Items
without_item no_items i = no_items
without_item (item t ts) zero = ts
without_item (item t ts) (suc i) = item t (without_item ts i)

-- with this value at a name: in the name's place, or at the end where it is new
abbrev pub put : Pairs → List ℕ → Tree → Pairs
put no_pairs name t = pair name t no_pairs
put (pair other u ps) name t =
    if bytes_eq name other then pair other t ps else pair other u (put ps name t)

-- without a name
abbrev pub cut : Pairs → List ℕ → Pairs
cut no_pairs name = no_pairs
cut (pair other t ps) name = if bytes_eq name other then ps else pair other t (cut ps name)

-- why a value of at most so many levels was not put in the place of another
abbrev pub ReplaceFault : ℕ → Tree → BuildFault → Type 0
ReplaceFault most t builds.Name = ⊥
ReplaceFault most t builds.Repeated = ⊥
ReplaceFault most t builds.Deep = most < levels t
ReplaceFault most t builds.Memory = ⊥

-- why a value of at most so many levels was not added
abbrev pub GrowFault : ℕ → Tree → BuildFault → Type 0
GrowFault most t builds.Name = ⊥
GrowFault most t builds.Repeated = ⊥
GrowFault most t builds.Deep = most < levels t
GrowFault most t builds.Memory = levels t ≤ most

-- why a pair was not added at the end: the first of these that fits
abbrev pub PushFault : Pairs → List ℕ → Tree → BuildFault → Type 0
PushFault ps name t builds.Name = ¬ IsName name
PushFault ps name t builds.Repeated = IsName name × ¬ Lacks ps name
PushFault ps name t builds.Deep = IsName name × Lacks ps name × (99 < levels t)
PushFault ps name t builds.Memory = IsName name × Lacks ps name × (levels t ≤ 99)

-- why a name was not given a value: the first of these that fits, where only a new name can be a
-- wrong one, or want memory
abbrev pub SetFault : Pairs → List ℕ → Tree → BuildFault → Type 0
SetFault ps name t builds.Name = Lacks ps name × ¬ IsName name
SetFault ps name t builds.Repeated = ⊥
SetFault ps name t builds.Deep = (Lacks ps name → IsName name) × (99 < levels t)
SetFault ps name t builds.Memory = IsName name × Lacks ps name × (levels t ≤ 99)

-- the first pair, from the left, that cannot be added to those before it, and why
pub record Refused (ps : Pairs) (e : BuildFault) : Type 0 where
  pub before : Pairs
  pub name : List ℕ
  pub value : Tree
  pub behind : Pairs
  pub parts : ps ≡ append before (pair name value behind)
  pub lawful : IsDocument before
  pub fault : PushFault before name value e
