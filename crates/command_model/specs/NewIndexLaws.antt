-- An index that was read is within the limits.
use Rattle.std.proofs.Common.{◌≡◌, ℕ, ◌+◌, ◌≤◌, Bool, true, false, List, [], ◌∷◌, ◌++◌, length}
use Rattle.std.proofs.Common.{Option, Some, None, Result, Ok, Err, refl, subst, arith}
use Rattle.std.proofs.Common.{length-append}
use Rattle.std.specs.Prelude.{◌||◌, ◌==◌, nat_lt, if◌then◌else◌, codes}
use Rattle.std.specs.List.{AllByRecursion, list_any}
use Rattle.std.specs.Str.{bytes_eq}
use Rattle.std.proofs.lemmas.Bool.{ltb-false, eqb-false}
use Rattle.bson.specs.Tree.{Tree, Pairs}
use Rattle.outcome.specs.Outcome.{◌>>=◌, fault_or, or_refused, unless}
use Rattle.path.specs.Parts.{is_empty, begins_with_dollar, path_fault, parts_of}
use Rattle.path.specs.declared.fault.PathFault.{PathFault}
use Rattle.path.specs.declared.fault.PathFault.TheVariants as faults
use Rattle.path.specs.declared.refusal.Refusal.{Refusal}
use Rattle.path.specs.declared.refusal.Refusal.TheVariants as refusals
use Rattle.filter.specs.Parsing.{or_refusal, path_in}
use Rattle.index.specs.Definition.{Field}
use Rattle.value_order.specs.declared.texts.Direction.{Direction}
use Rattle.command_model.specs.Fields.{read_fields}
use Rattle.command_model.specs.FieldsLaws.{fields_keep, first_false, later_false, there}
use Rattle.command_model.specs.NewIndex.{IsShortNewIndex, NewIndex, NewIndexFields, direction_in}
use Rattle.command_model.specs.NewIndex.{field_in, index_name_in}
use Rattle.command_model.specs.NewIndex.{is_among, is_bad_index_name, key_field}
use Rattle.command_model.specs.NewIndex.{new_index_field, no_index_fields, read_key, read_new_index}
use Rattle.command_model.specs.OutcomeLaws.{step_of, passed}
use Rattle.command_model.specs.Values.{bool_in, spelled_in, document_in, text_in}

-- ---- its key

no_fault : (b : Bool) (e : PathFault) (o : Option PathFault) → (if b then Some e else o) ≡ None
    → (b ≡ false) × (o ≡ None)
no_fault true e o is = absurd cc
no_fault false e o is = (refl, is)

path_short : (name : List ℕ) (parts : List (List ℕ)) → path_in name ≡ Ok parts → length name ≤ 255
path_short name parts e = at (path_fault name (parts_of name)) refl e
  where
    at : (o : Option PathFault) → path_fault name (parts_of name) ≡ o
        → or_refusal (fault_or o (parts_of name)) ≡ Ok parts → length name ≤ 255
    at None is e =
        let a = no_fault (is_empty name) faults.Empty _ is in
        let b = no_fault (list_any is_empty (parts_of name)) faults.EmptyPart _ a.1 in
        let c = no_fault (list_any begins_with_dollar (parts_of name)) faults.Dollar _ b.1 in
        let d = no_fault (nat_lt 255 (length name)) faults.TooLong _ c.1 in
        ltb-false 255 (length name) d.0
    at (Some f) is e = absurd cc

field_short : (name : List ℕ) (t : Tree) (f : Field) → field_in name t ≡ Ok f → length f.path ≤ 255
field_short name t f e =
    let to : Direction → Result Field Refusal = λ d. Ok (record { path = name; direction = d }) in
    let p = step_of (path_in name) (λ parts. direction_in t >>= to) f e in
    let d = step_of (direction_in t) to f p.2 in
    let same : record { path = name; direction = d.0 } ≡ f = cc in
    subst (λ (g : Field). length g.path ≤ 255) same (path_short name p.0 p.1)

abbrev ArePathsShort : List Field → Type 0
ArePathsShort fs = AllByRecursion (λ f. length f.path ≤ 255) fs

one_more : (fs : List Field) (f : Field) → ArePathsShort fs → length f.path ≤ 255
    → ArePathsShort (fs ++ f ∷ [])
one_more [] f h short = (short, tt)
one_more (g ∷ gs) f h short = (h.0, one_more gs f h.1 short)

abbrev AreShort : List Field → Type 0
AreShort fs = (length fs ≤ 4) × ArePathsShort fs

key_field_short : (found next : List Field) (name : List ℕ) (t : Tree) → AreShort found
    → key_field found name t ≡ Ok next → AreShort next
key_field_short found next name t h e =
    let more : Field → Result (List Field) Refusal = λ f. Ok (found ++ f ∷ []) in
    let p = passed (length found == 4 || is_among found name) refusals.BadValue
    (field_in name t >>= more) next e in
    let s = step_of (field_in name t) more next p.1 in
    let free = eqb-false (length found) 4
    (first_false (length found == 4) (is_among found name) p.0) in
    let same : found ++ s.0 ∷ [] ≡ next = cc in
    subst AreShort same (
      omega (arith, h.0, free, length-append found (s.0 ∷ [])),
      one_more found s.0 h.1 (field_short name t s.0 s.1),
    )

key_short : (ps : Pairs) (fs : List Field) → read_key ps ≡ Ok fs → AreShort fs
key_short ps fs e =
    let s = step_of (read_fields key_field [] ps)
    (λ fields. unless (length fields == 0) refusals.BadValue (Ok fields)) fs e in
    let p = passed (length s.0 == 0) refusals.BadValue (Ok s.0) fs s.2 in
    let same : s.0 ≡ fs = cc in
    subst AreShort same
    (fields_keep AreShort key_field key_field_short ps [] s.0 (omega arith, tt) s.1)

-- ---- its name

name_short : (t : Tree) (name : List ℕ) → index_name_in t ≡ Ok name → length name ≤ 127
name_short t name e =
    let s = step_of (text_in t)
    (λ text. unless (is_bad_index_name text) refusals.BadValue (Ok text)) name e in
    let p = passed (is_bad_index_name s.0) refusals.BadValue (Ok s.0) name s.2 in
    let few = ltb-false 127 (length s.0)
    (later_false (length s.0 == 0) (nat_lt 127 (length s.0))
    (first_false (length s.0 == 0 || nat_lt 127 (length s.0)) (list_any (λ b. b == 0) s.0) p.0)) in
    let same : s.0 ≡ name = cc in
    subst (λ (n : List ℕ). length n ≤ 127) same few

-- ---- the document

abbrev KeyAt : Option (List Field) → Type 0
KeyAt None = Unit {0}
KeyAt (Some fs) = AreShort fs

abbrev NameAt : Option (List ℕ) → Type 0
NameAt None = Unit {0}
NameAt (Some name) = length name ≤ 127

abbrev ShortAt : NewIndexFields → Type 0
ShortAt f = KeyAt f.key × NameAt f.name

module _ (found next : NewIndexFields) (t : Tree) (h : ShortAt found) where
  abbrev with_key : List Field → Result NewIndexFields Refusal
  with_key fields = Ok (record found { key = Some fields })

  abbrev with_name : List ℕ → Result NewIndexFields Refusal
  with_name text = Ok (record found { name = Some text })

  abbrev with_unique : Bool → Result NewIndexFields Refusal
  with_unique unique = Ok (record found { is_unique = unique })

  short_by_field : (is_key is_name is_unique : Bool)
      → (if is_key then (spelled_in read_key t >>= with_key)
      else (if is_name then (index_name_in t >>= with_name)
      else (if is_unique then (bool_in t >>= with_unique) else Err refusals.FailedToParse)))
      ≡ Ok next
      → ShortAt next
  short_by_field true is_name is_unique e =
      let s = step_of (spelled_in read_key t) with_key next e in
      let d = step_of (document_in t) read_key s.0 s.1 in
      let same : record found { key = Some s.0 } ≡ next = cc in
      subst ShortAt same (key_short d.0 s.0 d.2, h.1)
  short_by_field false true is_unique e =
      let s = step_of (index_name_in t) with_name next e in
      let same : record found { name = Some s.0 } ≡ next = cc in
      subst ShortAt same (h.0, name_short t s.0 s.1)
  short_by_field false false true e =
      let s = step_of (bool_in t) with_unique next e in
      let same : record found { is_unique = s.0 } ≡ next = cc in
      subst ShortAt same h
  short_by_field false false false e = absurd cc

pub new_index_short : (ps : Pairs) (i : NewIndex) → read_new_index ps ≡ Ok i → IsShortNewIndex i
new_index_short ps i e =
    let s = step_of (read_fields new_index_field no_index_fields ps) _ i e in
    let k = step_of (or_refused s.0.key refusals.FailedToParse) _ i s.2 in
    let n = step_of (or_refused s.0.name refusals.FailedToParse) _ i k.2 in
    let made : NewIndex = record { name = n.0; fields = k.0; is_unique = s.0.is_unique } in
    let same : made ≡ i = cc in
    let short = fields_keep ShortAt new_index_field
    (λ found next name t h e. short_by_field found next t h (bytes_eq name (codes "key"))
    (bytes_eq name (codes "name")) (bytes_eq name (codes "unique")) e)
    ps no_index_fields s.0 (tt, tt) s.1 in
    let key = subst KeyAt (there s.0.key k.0 k.1) short.0 in
    let name = subst NameAt (there s.0.name n.0 n.1) short.1 in
    subst IsShortNewIndex same (record { short = name; few = key.0; paths = key.1 })
