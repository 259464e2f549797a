-- Each fault of an element, or of one after it, is wrong at a place, and all before that is spelled as it has to be.
use Rattle.std.proofs.Common.{◌≡◌, ◌⊎◌, ℕ, zero, suc, ◌+◌, ◌-◌, ◌≤◌, Bool, true, false, List, [], ◌∷◌, ◌++◌, length, Result, Ok}
use Rattle.std.proofs.Common.{Err, refl, sym, ap, ◌∙◌, append_assoc, zero-add, arith, inl, inr}
use Rattle.std.specs.Fmt.{decimal}
use Rattle.std.proofs.lemmas.List.{length-append}
use Rattle.bson_bytes.specs.declared.fault.BsonFault.{BsonFault}
use Rattle.bson_bytes.specs.declared.fault.BsonFault.TheVariants as faults
use Rattle.bson.specs.declared.kind.Kind.{Kind}
use Rattle.bson.specs.declared.kind.Kind.TheVariants as kinds
use Rattle.bson.specs.Tree.{Tree, Pairs, no_pairs, pair, append, Items, no_items, item, append_items}
use Rattle.bson.specs.Lawful.{IsBytes, IsName, IsPairs, IsItems, pairs_levels, items_levels}
use Rattle.outcome.specs.Outcome.{◌>>=◌, unless}
use Rattle.bson.specs.Spelling.{element, type_byte, tree_bytes, pairs_bytes, items_bytes}
use Rattle.bson.specs.Edits.{items_len}
use Rattle.bson.specs.EditPlaces.{IsPairs-append, IsItems-append, pairs_levels-append, items_levels-append, items_len-append}
use Rattle.bson.specs.SizingLaws.{pairs_bytes-append, pairs_bytes-one, items_bytes-append}
use Rattle.bson_bytes.specs.Decoding.{Read, zero_at, name_at, kind_of, element_by, item_by}
use Rattle.bson.specs.Lookup.{stands_in}
use Rattle.bson_bytes.specs.Decoding.{pairs_by, items_by, is_no_index}
use Rattle.bson_bytes.specs.Raw.{tree_names}
use Rattle.bson_bytes.specs.FirstFault.{Behind, WrongElement, wrong_type, wrong_name, wrong_here, wrong_value, WrongPair, WrongItem}
use Rattle.bson_bytes.proofs.FrameLaws.{done, Takes, name_takes}
use Rattle.bson_bytes.proofs.PairLaws.{Reads, IsBytes-rest, element_takes}
use Rattle.bson_bytes.proofs.TreeLaws.{item_takes}
use Rattle.bson_bytes.proofs.CheckLaws.{tree_names-append, Lacks-from_names}

-- the place of a fault, and how far it is looked at
pub record Somewhere (wrong : ℕ → ℕ → BsonFault → Type 0) (fault : BsonFault) : Type 0 where
  pub place : ℕ
  pub seen : ℕ
  pub stands : wrong place seen fault

pub behind : (n : ℕ) (wrong : ℕ → ℕ → BsonFault → Type 0) (fault : BsonFault) (s : Somewhere wrong fault) → Behind n wrong (n + s.place) (n + s.seen) fault
behind n wrong fault s = record { at = s.place; upto = s.seen; place_is = refl; seen_is = refl; inner = s.stands }

-- a step that failed, or one after it
pub bind_err : {A B : Type 0} (r : Result A BsonFault) (f : A → Result B BsonFault) (e : BsonFault) → (r >>= f) ≡ Err e
    → (r ≡ Err e) ⊎ ((x : A) × (r ≡ Ok x) × (f x ≡ Err e))
bind_err (Ok x) f e failed = inr (x, refl, failed)
bind_err (Err d) f e failed = let same : d ≡ e = cc in inl (ap (λ (g : BsonFault). Err g) same)

pub unless_err : {X : Type 0} (test : Bool) (fault e : BsonFault) (read : Result X BsonFault) → unless test fault read ≡ Err e
    → ((test ≡ true) × (e ≡ fault)) ⊎ ((test ≡ false) × (read ≡ Err e))
unless_err true fault e read failed = let same : fault ≡ e = cc in inl (refl, sym same)
unless_err false fault e read failed = inr (refl, failed)

pub ok_err : {X : Type 0} (x : X) (e : BsonFault) → done x ≡ Err e → ⊥
ok_err x e h = cc

abbrev pub Reader : Type 0
Reader = Kind → List ℕ → Read Tree

-- ---- elements

abbrev pub Element : Type 0
Element = (List ℕ × Tree) × List ℕ

abbrev pub named_value : List ℕ → Read Tree → Result Element BsonFault
named_value name r = r >>= λ v. Ok ((name, v.0), v.1)

abbrev pub made_element : List ℕ → Tree → List ℕ → Element
made_element name t rest = ((name, t), rest)

element_wrong : (value : Kind → List ℕ → ℕ → ℕ → BsonFault → Type 0) (read : Reader) (wrong : List ℕ → Bool) (named : BsonFault) (type : ℕ) (bytes : List ℕ)
    (e : BsonFault) → IsBytes bytes
    → ((k : Kind) (rest : List ℕ) → IsBytes rest → read k rest ≡ Err e → Somewhere (value k rest) e)
    → element_by read wrong named type bytes ≡ Err e → Somewhere (WrongElement value wrong named type bytes) e
unfolding element_by
element_wrong value read wrong named type bytes e fits inner failed =
    elim (bind_err (kind_of type) (λ k. name_at bytes >>= λ name. named_value name.0 (unless (wrong name.0) named (read k name.1))) e failed) [
      | inl unknown ↦ record { place = 0; seen = 1; stands = wrong_type refl refl unknown }
      | inr k ↦ elim (bind_err (name_at bytes) (λ name. named_value name.0 (unless (wrong name.0) named (read k.0 name.1))) e k.2) [
        | inl bad ↦ record { place = 1; seen = zero_at bytes + 2; stands = wrong_name refl refl k.0 k.1 bad }
        | inr n ↦ after_name k.0 k.1 n.0 (name_takes bytes n.0 fits n.1) n.2
      ]
    ]
  where
    after_name : (k : Kind) → kind_of type ≡ Ok k → (n : List ℕ × List ℕ) → Takes bytes (n.0 ++ 0 ∷ []) n.1 × IsName n.0
        → named_value n.0 (unless (wrong n.0) named (read k n.1)) ≡ Err e → Somewhere (WrongElement value wrong named type bytes) e
    after_name k known n took left =
        let parts : bytes ≡ n.0 ++ 0 ∷ n.1 = took.0.parts ∙ append_assoc n.0 (0 ∷ []) n.1 in
        elim (bind_err {B = Element} (unless (wrong n.0) named (read k n.1)) (λ v. Ok ((n.0, v.0), v.1)) e left) [
          | inl bad ↦ elim (unless_err (wrong n.0) named e (read k n.1) bad) [
            | inl here ↦ record { place = 1; seen = length n.0 + 2; stands = wrong_here refl n.0 n.1 refl k known took.1 parts here.0 here.1 }
            | inr later ↦
                let v = inner k n.1 took.0.rest_fits later.1 in
                record {
                  place = length n.0 + 2 + v.place;
                  seen = length n.0 + 2 + v.seen;
                  stands = wrong_value n.0 n.1 k known took.1 parts later.0 (behind (length n.0 + 2) (value k n.1) e v);
                }
          ]
          | inr v ↦ absurd (ok_err (made_element n.0 v.0.0 v.0.1) e v.2)
        ]

-- ---- element after element

-- the pairs before, and one more
pub record GrownPairs (more : ℕ) (content : List ℕ) (before : Pairs) (name : List ℕ) (t : Tree) (after bytes : List ℕ) : Type 0 where
  pub shorter : length after ≤ length bytes
  pub fits : IsBytes after
  pub parts : content ≡ pairs_bytes (append before (pair name t no_pairs)) ++ after
  pub lawful : IsPairs (append before (pair name t no_pairs))
  pub depth : pairs_levels (append before (pair name t no_pairs)) ≤ more

pairs_grown : (read : Reader) (more : ℕ) → Reads read more → (before : Pairs) (type : ℕ) (bytes content : List ℕ) (x : Element) → IsBytes (type ∷ bytes)
    → content ≡ pairs_bytes before ++ type ∷ bytes → IsPairs before → pairs_levels before ≤ more
    → element_by read (stands_in (tree_names before)) faults.Repeated type bytes ≡ Ok x → GrownPairs more content before x.0.0 x.0.1 x.1 bytes
pairs_grown read more reads before type bytes content x fits parts lawful depth first =
    let name = x.0.0 in
    let t = x.0.1 in
    let after = x.1 in
    let r = element_takes read more reads (stands_in (tree_names before)) faults.Repeated type bytes x (IsBytes-rest type bytes fits) first in
    let grown = append before (pair name t no_pairs) in
    let piece = element (type_byte t) name (tree_bytes t) in
    let spelled : pairs_bytes grown ≡ pairs_bytes before ++ piece =
    pairs_bytes-append before (pair name t no_pairs) ∙ ap (λ (y : List ℕ). pairs_bytes before ++ y) (pairs_bytes-one name t) in
    let one = length-append piece after in
    let two = length-append name (0 ∷ tree_bytes t) in
    record {
      shorter = omega (arith, ap length r.0.takes.parts, one, two);
      fits = r.0.takes.rest_fits;
      parts = parts ∙ ap (λ (y : List ℕ). pairs_bytes before ++ y) r.0.takes.parts ∙ sym (append_assoc (pairs_bytes before) piece after)
          ∙ ap (λ (y : List ℕ). y ++ after) (sym spelled);
      lawful = IsPairs-append before name t lawful r.0.is_name r.0.lawful (Lacks-from_names before name r.1);
      depth = omega (arith, pairs_levels-append before (pair name t no_pairs), depth, r.0.depth);
    }

pub pairs_wrong : (value : Kind → List ℕ → ℕ → ℕ → BsonFault → Type 0) (read : Reader) (more : ℕ) → Reads read more → (e : BsonFault)
    → ((k : Kind) (rest : List ℕ) → IsBytes rest → read k rest ≡ Err e → Somewhere (value k rest) e)
    → (most : ℕ) (before : Pairs) (rest content : List ℕ) → length rest ≤ most → IsBytes rest → content ≡ pairs_bytes before ++ rest → IsPairs before
    → pairs_levels before ≤ more
    → pairs_by read most (tree_names before) rest ≡ Err e → Somewhere (WrongPair more value content) e
unfolding pairs_by
pairs_wrong value read more reads e inner zero before [] content enough fits parts lawful depth failed = absurd (ok_err no_pairs e failed)
pairs_wrong value read more reads e inner (suc most) before [] content enough fits parts lawful depth failed = absurd (ok_err no_pairs e failed)
pairs_wrong value read more reads e inner zero before (type ∷ bytes) content enough fits parts lawful depth failed = absurd (omega arith)
pairs_wrong value read more reads e inner (suc most) before (type ∷ bytes) content enough fits parts lawful depth failed =
    elim (bind_err (element_by read (stands_in (tree_names before)) faults.Repeated type bytes)
    (λ first. pairs_by read most (tree_names before ++ first.0.0 ∷ []) first.1 >>= λ others. Ok (pair first.0.0 first.0.1 others)) e failed) [
      | inl bad ↦
          let w = element_wrong value read (stands_in (tree_names before)) faults.Repeated type bytes e (IsBytes-rest type bytes fits) inner bad in
          record {
            place = length (pairs_bytes before) + w.place;
            seen = length (pairs_bytes before) + w.seen;
            stands = record {
              before = before;
              type = type;
              bytes = bytes;
              parts = parts;
              lawful = lawful;
              depth = depth;
              element = behind (length (pairs_bytes before)) (WrongElement value (stands_in (tree_names before)) faults.Repeated type bytes) e w;
            };
          }
      | inr first ↦
          let bad = elim
          (bind_err (pairs_by read most (tree_names before ++ first.0.0.0 ∷ []) first.0.1) (λ others. Ok (pair first.0.0.0 first.0.0.1 others)) e first.2) as
          (λ _. pairs_by read most (tree_names before ++ first.0.0.0 ∷ []) first.0.1 ≡ Err e) [
            | inl bad ↦ bad
            | inr o ↦ absurd (ok_err (pair first.0.0.0 first.0.0.1 o.0) e o.2)
          ] in
          let g = pairs_grown read more reads before type bytes content first.0 fits parts lawful depth first.1 in
          pairs_wrong value read more reads e inner most (append before (pair first.0.0.0 first.0.0.1 no_pairs)) first.0.1 content
          (omega (arith, enough, g.shorter)) g.fits g.parts g.lawful g.depth
          (ap (λ (names : List (List ℕ)). pairs_by read most names first.0.1) (tree_names-append before first.0.0.0 first.0.0.1) ∙ bad)
    ]

item_wrong : (value : Kind → List ℕ → ℕ → ℕ → BsonFault → Type 0) (read : Reader) (i type : ℕ) (bytes : List ℕ) (e : BsonFault) → IsBytes bytes
    → ((k : Kind) (rest : List ℕ) → IsBytes rest → read k rest ≡ Err e → Somewhere (value k rest) e)
    → item_by read i type bytes ≡ Err e → Somewhere (WrongElement value (is_no_index i) faults.ArrayName type bytes) e
unfolding item_by
item_wrong value read i type bytes e fits inner failed =
    elim (bind_err {B = Tree × List ℕ} (element_by read (is_no_index i) faults.ArrayName type bytes) (λ first. Ok (first.0.1, first.1)) e failed) [
      | inl bad ↦ element_wrong value read (is_no_index i) faults.ArrayName type bytes e fits inner bad
      | inr x ↦ absurd (ok_err {X = Tree × List ℕ} (x.0.0.1, x.0.1) e x.2)
    ]

-- the items before, and one more
pub record GrownItems (more : ℕ) (content : List ℕ) (before : Items) (t : Tree) (after bytes : List ℕ) : Type 0 where
  pub shorter : length after ≤ length bytes
  pub fits : IsBytes after
  pub parts : content ≡ items_bytes 0 (append_items before (item t no_items)) ++ after
  pub lawful : IsItems (append_items before (item t no_items))
  pub depth : items_levels (append_items before (item t no_items)) ≤ more
  pub count : items_len before + 1 ≡ items_len (append_items before (item t no_items))

items_grown : (read : Reader) (more : ℕ) → Reads read more → (before : Items) (type : ℕ) (bytes content : List ℕ) (x : Tree × List ℕ) → IsBytes (type ∷ bytes)
    → content ≡ items_bytes 0 before ++ type ∷ bytes → IsItems before → items_levels before ≤ more
    → item_by read (items_len before) type bytes ≡ Ok x → GrownItems more content before x.0 x.1 bytes
items_grown read more reads before type bytes content x fits parts lawful depth first =
    let t = x.0 in
    let after = x.1 in
    let r = item_takes read more reads (items_len before) type bytes x (IsBytes-rest type bytes fits) first in
    let piece = element (type_byte t) (decimal (items_len before)) (tree_bytes t) in
    let one = length-append piece after in
    let two = length-append (decimal (items_len before)) (0 ∷ tree_bytes t) in
    record {
      shorter = omega (arith, ap length r.takes.parts, one, two);
      fits = r.takes.rest_fits;
      parts = parts ∙ ap (λ (y : List ℕ). items_bytes 0 before ++ y) r.takes.parts ∙ sym (append_assoc (items_bytes 0 before) piece after)
          ∙ ap (λ (y : List ℕ). y ++ after)
          (sym (items_bytes-append 0 before t
          ∙ ap (λ (k : ℕ). items_bytes 0 before ++ element (type_byte t) (decimal k) (tree_bytes t)) (zero-add (items_len before))));
      lawful = IsItems-append before t lawful r.lawful;
      depth = omega (arith, items_levels-append before (item t no_items), depth, r.depth);
      count = omega (arith, items_len-append before (item t no_items));
    }

pub items_wrong : (value : Kind → List ℕ → ℕ → ℕ → BsonFault → Type 0) (read : Reader) (more : ℕ) → Reads read more → (e : BsonFault)
    → ((k : Kind) (rest : List ℕ) → IsBytes rest → read k rest ≡ Err e → Somewhere (value k rest) e)
    → (most : ℕ) (before : Items) (rest content : List ℕ) → length rest ≤ most → IsBytes rest → content ≡ items_bytes 0 before ++ rest → IsItems before
    → items_levels before ≤ more
    → items_by read most (items_len before) rest ≡ Err e → Somewhere (WrongItem more value content) e
unfolding items_by
items_wrong value read more reads e inner zero before [] content enough fits parts lawful depth failed = absurd (ok_err no_items e failed)
items_wrong value read more reads e inner (suc most) before [] content enough fits parts lawful depth failed = absurd (ok_err no_items e failed)
items_wrong value read more reads e inner zero before (type ∷ bytes) content enough fits parts lawful depth failed = absurd (omega arith)
items_wrong value read more reads e inner (suc most) before (type ∷ bytes) content enough fits parts lawful depth failed =
    elim (bind_err (item_by read (items_len before) type bytes)
    (λ first. items_by read most (items_len before + 1) first.1 >>= λ others. Ok (item first.0 others)) e failed) [
      | inl bad ↦
          let w = item_wrong value read (items_len before) type bytes e (IsBytes-rest type bytes fits) inner bad in
          record {
            place = length (items_bytes 0 before) + w.place;
            seen = length (items_bytes 0 before) + w.seen;
            stands = record {
              before = before;
              type = type;
              bytes = bytes;
              parts = parts;
              lawful = lawful;
              depth = depth;
              element = behind (length (items_bytes 0 before)) (WrongElement value (is_no_index (items_len before)) faults.ArrayName type bytes) e w;
            };
          }
      | inr first ↦
          let bad = elim (bind_err (items_by read most (items_len before + 1) first.0.1) (λ others. Ok (item first.0.0 others)) e first.2) as
          (λ _. items_by read most (items_len before + 1) first.0.1 ≡ Err e) [
            | inl bad ↦ bad
            | inr o ↦ absurd (ok_err (item first.0.0 o.0) e o.2)
          ] in
          let g = items_grown read more reads before type bytes content first.0 fits parts lawful depth first.1 in
          items_wrong value read more reads e inner most (append_items before (item first.0.0 no_items)) first.0.1 content
          (omega (arith, enough, g.shorter)) g.fits g.parts g.lawful g.depth
          (ap (λ (i : ℕ). items_by read most i first.0.1) (sym g.count) ∙ bad)
    ]
