-- Indexes within their limits: those of lawful definitions, of the collection of a name, and where a document is stored.
use Rattle.std.proofs.Common.{◌≡◌, ℕ, suc, ◌≤◌, Bool, true, false, nat_lt, List, [], ◌∷◌, length, map, Option, Some, None, Ok, refl, subst, arith}
use Rattle.std.specs.Prelude.{All, codes, if◌then◌else◌, not}
use Rattle.std.specs.Str.{bytes_eq}
use Rattle.std.specs.List.{AllByRecursion, list_any}
use Rattle.std.proofs.lemmas.Bool.Decides.{nat_tests}
use Rattle.std.proofs.lemmas.List.{length-map}
use Rattle.bson.specs.Tree.{Pairs}
use Rattle.command_model.specs.DropIndexes.{DroppedIndexes, all, named}
use Rattle.command_model.specs.OutcomeLaws.{passed}
use Rattle.outcome.specs.Outcome.{fault_or, unless}
use Rattle.path.specs.declared.refusal.Refusal.{Refusal}
use Rattle.path.specs.declared.refusal.Refusal.TheVariants as refusals
use Rattle.path.specs.Parts.{is_empty, begins_with_dollar, path_fault, parts_of}
use Rattle.path.specs.declared.fault.PathFault.{PathFault}
use Rattle.path.specs.declared.fault.PathFault.TheVariants as faults
use Rattle.index.specs.Definition.{Field, Definition, IsPath, IsDefinition}
use Rattle.index.specs.IndexKeys.{is_multikey, noted}
use Rattle.entry_model.specs.State.{Collection, find_collection}
use Rattle.database_model.specs.DropIndexes.{is_dropped, left_by, remaining}
use Rattle.database_model.specs.Lawful.{AreShortIndexes, IsKept, IsShortIndex}
use Rattle.database_model.specs.World.{indexes_or_none}
use Rattle.database_model.proofs.Numbers.{found_kept}

-- ---- lawful definitions

faultless : {X E : Type 0} (o : Option E) (x : X) → fault_or o x ≡ Ok x → o ≡ None
faultless None x e = refl
faultless (Some fault) x e = absurd cc

no_fault : (b : Bool) (e : PathFault) (o : Option PathFault) → (if b then Some e else o) ≡ None → (b ≡ false) × (o ≡ None)
no_fault true e o is = absurd cc
no_fault false e o is = (refl, is)

path_short : (path : List ℕ) → IsPath path → length path ≤ 255
path_short path h =
    let parts = parts_of path in
    let a = no_fault (is_empty path) faults.Empty _ (faultless (path_fault path parts) parts h) in
    let b = no_fault (list_any is_empty parts) faults.EmptyPart _ a.1 in
    let c = no_fault (list_any begins_with_dollar parts) faults.Dollar _ b.1 in
    let d = no_fault (nat_lt 255 (length path)) faults.TooLong _ c.1 in
    let small = d.0 in
    grind (arith, nat_tests, small)

paths_short : (fs : List Field) → AllByRecursion (λ f. IsPath f.path) fs → AllByRecursion (λ f. length f.path ≤ 255) fs
paths_short [] h = tt
paths_short (f ∷ fs) h = (path_short f.path h.0, paths_short fs h.1)

each_short : (is : List Definition) → AllByRecursion IsDefinition is → AllByRecursion IsShortIndex is
each_short [] h = tt
each_short (i ∷ is) h = (record { short = h.0.short; few = h.0.fields.most; paths = paths_short i.fields h.0.fields.paths }, each_short is h.1)

pub definitions_short : (is : List Definition) → AllByRecursion IsDefinition is → length is ≤ 16 → AreShortIndexes is
definitions_short is h few = record { each = each_short is h; few = few }

-- ---- where a document is stored

noted_one : (d : Pairs) (i : Definition) → IsShortIndex i → IsShortIndex (noted d i)
noted_one d i h = at (is_multikey i.fields d)
  where
    at : (b : Bool) → IsShortIndex (if b then record i { is_multi = true } else i)
    at true = record { short = h.short; few = h.few; paths = h.paths }
    at false = h

noted_each : (d : Pairs) (is : List Definition) → AllByRecursion IsShortIndex is → AllByRecursion IsShortIndex (map (noted d) is)
noted_each d [] h = tt
noted_each d (i ∷ is) h = (noted_one d i h.0, noted_each d is h.1)

pub noted_short : (d : Pairs) (is : List Definition) → AreShortIndexes is → AreShortIndexes (map (noted d) is)
noted_short d is h = record { each = noted_each d is h.each; few = omega (arith, length-map is (noted d), h.few) }

-- ---- the collection of a name

pub short_at : (cs : List Collection) (name : List ℕ) → All IsKept cs → AreShortIndexes (indexes_or_none (find_collection cs name))
short_at cs name h = at (find_collection cs name) refl
  where
    at : (o : Option Collection) → find_collection cs name ≡ o → AreShortIndexes (indexes_or_none o)
    at None e = record { each = tt; few = omega arith }
    at (Some c) e = (found_kept cs name c h e).indexes

-- ---- where some are dropped

module _ (away : DroppedIndexes) where
  remaining_each : (is : List Definition) → AllByRecursion IsShortIndex is → AllByRecursion IsShortIndex (remaining away is)
  remaining_each [] h = tt
  remaining_each (i ∷ is) h = at (not (is_dropped away i)) (remaining_each is h.1)
    where
      at : (b : Bool) → AllByRecursion IsShortIndex (remaining away is) → AllByRecursion IsShortIndex (if b then i ∷ remaining away is else remaining away is)
      at true later = (h.0, later)
      at false later = later

  remaining_few : (is : List Definition) → length (remaining away is) ≤ length is
  remaining_few [] = omega arith
  remaining_few (i ∷ is) = at (not (is_dropped away i)) (remaining_few is)
    where
      at : (b : Bool) → length (remaining away is) ≤ length is → length (if b then i ∷ remaining away is else remaining away is) ≤ suc (length is)
      at true later = omega (arith, later)
      at false later = omega (arith, later)

pub left_short : (away : DroppedIndexes) (is left : List Definition) → left_by away is ≡ Ok left → AreShortIndexes is → AreShortIndexes left
left_short all is left e h = let none : [] ≡ left = cc in subst AreShortIndexes none (record { each = tt; few = omega arith })
left_short (named name) is left e h =
    let p = passed (bytes_eq name (codes "_id_")) refusals.BadValue
    (unless (not (list_any (is_dropped (named name)) is)) refusals.IndexNotFound (Ok (remaining (named name) is))) left e in
    let q = passed (not (list_any (is_dropped (named name)) is)) refusals.IndexNotFound (Ok (remaining (named name) is)) left p.1 in
    let same : remaining (named name) is ≡ left = cc in
    subst AreShortIndexes same (record { each = remaining_each (named name) is h.each; few = omega (arith, remaining_few (named name) is, h.few) })
