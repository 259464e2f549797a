-- What is read of a document is spelled so, pair after pair, and what is spelled so is read.
use Rattle.std.proofs.Common.{◌≡◌, ◌≢◌, ◌⊎◌, ℕ, zero, suc, ◌+◌, ◌-◌, ◌^◌, ◌<◌, ◌≤◌, Bool, true, false, not, List, [], ◌∷◌, ◌++◌, length}
use Rattle.std.proofs.Common.{Ok, refl, sym, ap, subst, ◌∙◌, append_assoc, arith, inl, inr}
use Rattle.std.specs.Str.{bytes_eq}
use Rattle.std.specs.List.{list_any}
use Rattle.std.proofs.lemmas.List.{length-append}
use Rattle.std.proofs.lemmas.List.Folds.{list_any-append}
use Rattle.std.proofs.lemmas.Slice.Eq.{bytes_eq-Decides}
use Rattle.bson_bytes.specs.declared.fault.BsonFault.{BsonFault}
use Rattle.bson_bytes.specs.declared.fault.BsonFault.TheVariants as faults
use Rattle.bson.specs.declared.kind.Kind.{Kind}
use Rattle.bson.specs.declared.kind.Kind.TheVariants as kinds
use Rattle.bson.specs.Tree.{Tree}
use Rattle.bson.specs.Tree.{Pairs, no_pairs, pair}
use Rattle.bson.specs.Kinds.{kind_byte, kind}
use Rattle.bson.specs.Lawful.{IsBytes, levels, pairs_levels, IsName, Lacks, IsTree, IsPairs}
use Rattle.bson.specs.Spelling.{type_byte, element, tree_bytes, pairs_bytes}
use Rattle.bson.proofs.PushLaws.{bytes_eq-ne, ne-bytes_eq}
use Rattle.outcome.specs.Outcome.{◌>>=◌, unless}
use Rattle.bson.specs.Lookup.{stands_in}
use Rattle.bson_bytes.specs.Decoding.{Read, element_by, kind_of, name_at, pairs_by}
use Rattle.bson.proofs.PushLaws.{or_false}
use Rattle.bson_bytes.proofs.FrameLaws.{bind_ok, unless_ok, ok_is, Takes}
use Rattle.bson_bytes.proofs.FrameLaws.{name_takes, name_again, kind_again, kind_takes}

-- a value that was read
pub record IsRead (more : ℕ) (k : Kind) (bytes : List ℕ) (t : Tree) (rest : List ℕ) : Type 0 where
  pub takes : Takes bytes (tree_bytes t) rest
  pub lawful : IsTree t
  pub depth : levels t ≤ more
  pub same_kind : kind t ≡ k

-- what reads values as they are spelled
pub record Reads (read : Kind → List ℕ → Read Tree) (more : ℕ) : Type 0 where
  pub takes : (k : Kind) (bytes : List ℕ) (x : Tree × List ℕ) → IsBytes bytes → read k bytes ≡ Ok x → IsRead more k bytes x.0 x.1
  pub again : (t : Tree) (rest : List ℕ) → IsTree t → levels t ≤ more → length (tree_bytes t) < 2 ^ 31 → read (kind t) (tree_bytes t ++ rest) ≡ Ok (t, rest)

-- no pair has one of these names
abbrev pub AreNew : Pairs → List (List ℕ) → Type 0
AreNew no_pairs earlier = Unit {0}
AreNew (pair name t ps) earlier = (list_any (bytes_eq name) earlier ≡ false) × AreNew ps earlier

-- new after one more name: new before, and that name is not there
AreNew-push : (ps : Pairs) (earlier : List (List ℕ)) (name : List ℕ) → AreNew ps (earlier ++ name ∷ []) → AreNew ps earlier × Lacks ps name
AreNew-push no_pairs earlier name h = (tt, tt)
AreNew-push (pair other t ps) earlier name h =
    let parts = or_false (list_any (bytes_eq other) earlier) (list_any (bytes_eq other) (name ∷ []))
    (sym (list_any-append (bytes_eq other) earlier (name ∷ [])) ∙ h.0) in
    let last = or_false (bytes_eq other name) false parts.1 in
    let more = AreNew-push ps earlier name h.1 in
    ((parts.0, more.0), (λ e. ne-bytes_eq other name last.0 (sym e), more.1))

pub AreNew-with : (ps : Pairs) (earlier : List (List ℕ)) (name : List ℕ) → AreNew ps earlier → Lacks ps name → AreNew ps (earlier ++ name ∷ [])
AreNew-with no_pairs earlier name h l = tt
AreNew-with (pair other t ps) earlier name h l =
    let e : bytes_eq other name ≡ false = bytes_eq-ne other name (λ same. l.0 (sym same)) in
    (rw (list_any-append, h.0, e) refl, AreNew-with ps earlier name h.1 l.1)

-- an element, and the bytes after it
pub regroup_element : (type : ℕ) (name value rest : List ℕ) → element type name value ++ rest ≡ type ∷ (name ++ 0 ∷ (value ++ rest))
regroup_element type name value rest = ap (λ (t : List ℕ). type ∷ t) (append_assoc name (0 ∷ value) rest)

element_parts : (type t : ℕ) (bytes name b v c os : List ℕ) → type ≡ t → bytes ≡ (name ++ 0 ∷ []) ++ b → b ≡ v ++ c → c ≡ os
    → type ∷ bytes ≡ element t name v ++ os
element_parts type t bytes name b v c os e1 e2 e3 e4 =
    let left : (name ++ 0 ∷ []) ++ (v ++ os) ≡ name ++ 0 ∷ (v ++ os) = append_assoc name (0 ∷ []) (v ++ os) in
    let right : (name ++ 0 ∷ v) ++ os ≡ name ++ 0 ∷ (v ++ os) = append_assoc name (0 ∷ v) os in
    let inner : b ≡ v ++ os = e3 ∙ ap (λ (x : List ℕ). v ++ x) e4 in
    let all : bytes ≡ (name ++ 0 ∷ v) ++ os = e2 ∙ ap (λ (x : List ℕ). (name ++ 0 ∷ []) ++ x) inner ∙ left ∙ sym right in
    λ i. e1 i ∷ all i

kind_at : (t : Tree) → kind_of (type_byte t) ≡ Ok (kind t)
kind_at t = kind_again (kind t)

type_is : (type : ℕ) (k : Kind) (t : Tree) → kind_of type ≡ Ok k → kind t ≡ k → type ≡ type_byte t
type_is type k t e same = kind_takes type k e ∙ ap kind_byte (sym same)

pub IsBytes-rest : (b : ℕ) (bytes : List ℕ) → IsBytes (b ∷ bytes) → IsBytes bytes
IsBytes-rest b bytes h i = h (suc i)

-- an element that was read
pub record ElementRead (more : ℕ) (type : ℕ) (bytes : List ℕ) (name : List ℕ) (t : Tree) (rest : List ℕ) : Type 0 where
  pub takes : Takes (type ∷ bytes) (element (type_byte t) name (tree_bytes t)) rest
  pub is_name : IsName name
  pub lawful : IsTree t
  pub depth : levels t ≤ more

pub element_takes : (read : Kind → List ℕ → Read Tree) (more : ℕ) → Reads read more
    → (wrong : List ℕ → Bool) (fault : BsonFault) (type : ℕ) (bytes : List ℕ) (x : (List ℕ × Tree) × List ℕ)
    → IsBytes bytes → element_by read wrong fault type bytes ≡ Ok x → ElementRead more type bytes x.0.0 x.0.1 x.1 × (wrong x.0.0 ≡ false)
unfolding element_by
element_takes read more reads wrong fault type bytes x fits e =
    let f2 = λ (k : Kind). λ (name : List ℕ × List ℕ). unless (wrong name.0) fault (read k name.1) >>= λ value. Ok ((name.0, value.0), value.1) in
    let a = bind_ok (kind_of type) (λ k. name_at bytes >>= f2 k) x e in
    let k = a.0 in
    let b = bind_ok (name_at bytes) (f2 k) x a.2 in
    let name = b.0 in
    let c = bind_ok (unless (wrong name.0) fault (read k name.1)) (λ value. Ok ((name.0, value.0), value.1)) x b.2 in
    let value = c.0 in
    let d = unless_ok (wrong name.0) fault (read k name.1) value c.1 in
    let n = name_takes bytes name fits b.1 in
    let v = reads.takes k name.1 value n.0.rest_fits d.1 in
    let made : (List ℕ × Tree) × List ℕ = ((name.0, value.0), value.1) in
    subst (λ (y : (List ℕ × Tree) × List ℕ). ElementRead more type bytes y.0.0 y.0.1 y.1 × (wrong y.0.0 ≡ false)) (ok_is made x c.2) (
      record {
        takes = record {
          parts = element_parts type (type_byte value.0) bytes name.0 name.1 (tree_bytes value.0) value.1 value.1
              (type_is type k value.0 a.1 v.same_kind) n.0.parts v.takes.parts refl;
          rest_fits = v.takes.rest_fits;
        };
        is_name = n.1;
        lawful = v.lawful;
        depth = v.depth;
      },
      d.0,
    )

-- An element that is spelled is read. Its type byte stands before.
pub element_again : (read : Kind → List ℕ → Read Tree) (more : ℕ) → Reads read more
    → (wrong : List ℕ → Bool) (fault : BsonFault) (name : List ℕ) (t : Tree) (rest : List ℕ)
    → IsName name → IsTree t → levels t ≤ more → length (tree_bytes t) < 2 ^ 31 → wrong name ≡ false
    → element_by read wrong fault (type_byte t) (name ++ 0 ∷ (tree_bytes t ++ rest)) ≡ Ok ((name, t), rest)
unfolding element_by
element_again read more reads wrong fault name t rest is_name lawful depth short right =
    rw (kind_at t, name_again name (tree_bytes t ++ rest) is_name, right, reads.again t rest lawful depth short) refl

pub record AreRead (more : ℕ) (earlier : List (List ℕ)) (bytes : List ℕ) (ps : Pairs) : Type 0 where
  pub spelled : bytes ≡ pairs_bytes ps
  pub lawful : IsPairs ps
  pub depth : pairs_levels ps ≤ more
  pub new : AreNew ps earlier

pub pairs_take : (read : Kind → List ℕ → Read Tree) (more : ℕ) → Reads read more → (most : ℕ) (earlier : List (List ℕ)) (bytes : List ℕ) (ps : Pairs)
    → IsBytes bytes
    → pairs_by read most earlier bytes ≡ Ok ps → AreRead more earlier bytes ps
unfolding pairs_by pairs_bytes
pairs_take read more reads zero earlier [] ps fits e =
    subst (λ (qs : Pairs). AreRead more earlier [] qs) (ok_is no_pairs ps e) (record { spelled = refl; lawful = tt; depth = omega arith; new = tt })
pairs_take read more reads (suc most) earlier [] ps fits e =
    subst (λ (qs : Pairs). AreRead more earlier [] qs) (ok_is no_pairs ps e) (record { spelled = refl; lawful = tt; depth = omega arith; new = tt })
pairs_take read more reads zero earlier (type ∷ bytes) ps fits e = absurd cc
pairs_take read more reads (suc most) earlier (type ∷ bytes) ps fits e =
    let a = bind_ok (element_by read (stands_in earlier) faults.Repeated type bytes)
    (λ first. pairs_by read most (earlier ++ first.0.0 ∷ []) first.1 >>= λ others. Ok (pair first.0.0 first.0.1 others)) ps e in
    let name = a.0.0.0 in
    let t = a.0.0.1 in
    let b = bind_ok (pairs_by read most (earlier ++ name ∷ []) a.0.1) (λ others. Ok (pair name t others)) ps a.2 in
    let others = b.0 in
    let first = element_takes read more reads (stands_in earlier) faults.Repeated type bytes a.0 (IsBytes-rest type bytes fits) a.1 in
    let o = pairs_take read more reads most (earlier ++ name ∷ []) a.0.1 others first.0.takes.rest_fits b.1 in
    let new = AreNew-push others earlier name o.new in
    subst (λ (qs : Pairs). AreRead more earlier (type ∷ bytes) qs) (ok_is (pair name t others) ps b.2) (record {
      spelled = first.0.takes.parts ∙ ap (λ (x : List ℕ). element (type_byte t) name (tree_bytes t) ++ x) o.spelled;
      lawful = (first.0.is_name, first.0.lawful, new.1, o.lawful);
      depth = omega (arith, first.0.depth, o.depth);
      new = (first.1, new.0);
    })

pub pairs_again : (read : Kind → List ℕ → Read Tree) (more : ℕ) → Reads read more → (most : ℕ) (earlier : List (List ℕ)) (ps : Pairs) → IsPairs ps
    → pairs_levels ps ≤ more
    → AreNew ps earlier → length (pairs_bytes ps) ≤ most → length (pairs_bytes ps) < 2 ^ 31 → pairs_by read most earlier (pairs_bytes ps) ≡ Ok ps
unfolding pairs_by pairs_bytes
pairs_again read more reads zero earlier no_pairs lawful depth new fits short = refl
pairs_again read more reads (suc most) earlier no_pairs lawful depth new fits short = refl
pairs_again read more reads zero earlier (pair name t ps) lawful depth new fits short = absurd (omega arith)
pairs_again read more reads (suc most) earlier (pair name t ps) lawful depth new fits short =
    let len = length-append (name ++ 0 ∷ tree_bytes t) (pairs_bytes ps) in
    let len2 = length-append name (0 ∷ tree_bytes t) in
    let others =
    pairs_again read more reads most (earlier ++ name ∷ []) ps lawful.3 (omega arith) (AreNew-with ps earlier name new.1 lawful.2) (omega (arith, len, len2))
    (omega (arith, len, len2)) in
    let first = element_again read more reads (stands_in earlier) faults.Repeated name t (pairs_bytes ps) lawful.0 lawful.1 (omega arith)
    (omega (arith, len, len2)) new.0 in
    ap (pairs_by read (suc most) earlier) (regroup_element (type_byte t) name (tree_bytes t) (pairs_bytes ps)) ∙ rw (first, others) refl
