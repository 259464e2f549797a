-- What a document that passed is, as it is stored.
use Rattle.std.proofs.Common.{◌≡◌, ℕ, suc, max, ◌≤◌, Bool, true, false, List, length, Option, Some, None, Result, Ok, refl, sym, ap, subst, ◌∙◌, arith}
use Rattle.std.specs.Prelude.{if◌then◌else◌, nat_lt, option_and_then, unwrap_or}
use Rattle.std.specs.Str.{bytes_eq}
use Rattle.std.proofs.lemmas.Bool.{ltb-false}
use Rattle.std.proofs.lemmas.Slice.Eq.{bytes_eq-Decides}
use Rattle.bson.specs.Tree.{Tree, scalar, null, array, Pairs, no_pairs, pair}
use Rattle.bson.specs.Lookup.{lookup}
use Rattle.bson.specs.Lawful.{levels, pairs_levels}
use Rattle.bson.specs.SizingLaws.{frame_of-length, pairs_size-pair}
use Rattle.bson.specs.Spelling.{tree_bytes, pairs_bytes, frame_of}
use Rattle.value_order.specs.KeyText.{tree_text}
use Rattle.outcome.specs.Outcome.{◌>>=◌, unless, or_refused}
use Rattle.database_model.specs.Documents.{refused_if, key_of, checked}
use Rattle.update_model.specs.Stored.{or_else, fault_if, pairs_fault, without, first_pair, id_name, id_first, no_array, id_of}
use Rattle.database_model.specs.Lawful.{IsStored}
use Rattle.path.specs.declared.refusal.Refusal.{Refusal}
use Rattle.path.specs.declared.refusal.Refusal.TheVariants as refusals
use Rattle.update_model.proofs.IdLemmas.{pairs_levels-without}

-- ---- a document without a name, twice

without-without : (ps : Pairs) (name : List ℕ) → without (without ps name) name ≡ without ps name
without-without no_pairs name = refl
without-without (pair n t ps) name = at (bytes_eq name n) refl (without-without ps name)
  where
    at : (b : Bool) → bytes_eq name n ≡ b → without (without ps name) name ≡ without ps name
        → without (if b then without ps name else pair n t (without ps name)) name ≡ (if b then without ps name else pair n t (without ps name))
    at true e later = later
    at false e later = ap (λ (b : Bool). if b then without (without ps name) name else pair n t (without (without ps name) name)) e ∙ ap (pair n t) later

lookup-without : (ps : Pairs) (name : List ℕ) → lookup (without ps name) name ≡ None
lookup-without no_pairs name = refl
lookup-without (pair n t ps) name = at (bytes_eq name n) refl (lookup-without ps name)
  where
    at : (b : Bool) → bytes_eq name n ≡ b → lookup (without ps name) name ≡ None
        → lookup (if b then without ps name else pair n t (without ps name)) name ≡ None
    at true e later = later
    at false e later = ap (λ (b : Bool). if b then Some t else lookup (without ps name) name) e ∙ later

-- ---- `_id` first, twice

pub lookup-id_first : (ps : Pairs) → lookup (id_first ps) id_name ≡ lookup ps id_name
lookup-id_first ps = at (lookup ps id_name)
  where
    at : (o : Option Tree) → lookup (first_pair id_name o (without ps id_name)) id_name ≡ o
    at None = lookup-without ps id_name
    at (Some t) = refl

pub id_of-id_first : (ps : Pairs) → id_of (id_first ps) ≡ id_of ps
id_of-id_first ps = ap (option_and_then no_array) (lookup-id_first ps)

-- an `_id` that may be stored is what the document is found by
id_is_key : (ps : Pairs) (t : Tree) → id_of ps ≡ Some t → key_of ps ≡ t
id_is_key ps t e = at (lookup ps id_name) e
  where
    at : (o : Option Tree) → option_and_then no_array o ≡ Some t → unwrap_or o (scalar null) ≡ t
    at None e = absurd cc
    at (Some (array ts)) e = absurd cc
    at (Some other) e = cc

without-id_first : (ps : Pairs) → without (id_first ps) id_name ≡ without ps id_name
without-id_first ps = at (lookup ps id_name)
  where
    at : (o : Option Tree) → without (first_pair id_name o (without ps id_name)) id_name ≡ without ps id_name
    at None = without-without ps id_name
    at (Some t) = without-without ps id_name

pub id_first-id_first : (ps : Pairs) → id_first (id_first ps) ≡ id_first ps
id_first-id_first ps = λ i. first_pair id_name (lookup-id_first ps i) (without-id_first ps i)

-- ---- it takes no more room, and is no deeper

shorter : (ps : Pairs) (name : List ℕ) → length (pairs_bytes (without ps name)) ≤ length (pairs_bytes ps)
shorter no_pairs name = omega arith
shorter (pair n t ps) name = at (bytes_eq name n) (shorter ps name)
  where
    at : (b : Bool) → length (pairs_bytes (without ps name)) ≤ length (pairs_bytes ps)
        → length (pairs_bytes (if b then without ps name else pair n t (without ps name))) ≤ length (pairs_bytes (pair n t ps))
    at true later = omega (arith, pairs_size-pair n t ps)
    at false later = omega (arith, pairs_size-pair n t ps, pairs_size-pair n t (without ps name))

no_longer : (ps : Pairs) (name : List ℕ) (t : Tree) → lookup ps name ≡ Some t → length (pairs_bytes (pair name t (without ps name))) ≤ length (pairs_bytes ps)
no_longer no_pairs name t e = absurd cc
no_longer (pair n u ps) name t e = at (bytes_eq name n) refl e (λ found. no_longer ps name t found)
  where
    at : (b : Bool) → bytes_eq name n ≡ b → (if b then Some u else lookup ps name) ≡ Some t
        → (lookup ps name ≡ Some t → length (pairs_bytes (pair name t (without ps name))) ≤ length (pairs_bytes ps))
        → length (pairs_bytes (pair name t (if b then without ps name else pair n u (without ps name)))) ≤ length (pairs_bytes (pair n u ps))
    at true same found in_rest =
        let value : u ≡ t = cc in
        omega (
          arith,
          pairs_size-pair n u ps,
          pairs_size-pair name t (without ps name),
          shorter ps name,
          ap (λ (x : Tree). length (tree_bytes x)) value,
          ap length ((bytes_eq-Decides name n).0 same),
        )
    at false other found in_rest =
        omega (
          arith,
          in_rest found,
          pairs_size-pair n u ps,
          pairs_size-pair name t (without ps name),
          pairs_size-pair n u (without ps name),
          pairs_size-pair name t (pair n u (without ps name)),
        )

frame_of-id_first : (ps : Pairs) → length (frame_of (pairs_bytes (id_first ps))) ≤ length (frame_of (pairs_bytes ps))
frame_of-id_first ps =
    let less = at (lookup ps id_name) refl in
    omega (arith, less, frame_of-length (pairs_bytes (id_first ps)), frame_of-length (pairs_bytes ps))
  where
    at : (o : Option Tree) → lookup ps id_name ≡ o → length (pairs_bytes (first_pair id_name o (without ps id_name))) ≤ length (pairs_bytes ps)
    at None e = shorter ps id_name
    at (Some t) e = no_longer ps id_name t e

no_deeper : (ps : Pairs) (name : List ℕ) (t : Tree) → lookup ps name ≡ Some t → levels t ≤ pairs_levels ps
no_deeper no_pairs name t e = absurd cc
no_deeper (pair n u ps) name t e = at (bytes_eq name n) e (λ found. no_deeper ps name t found)
  where
    at : (b : Bool) → (if b then Some u else lookup ps name) ≡ Some t → (lookup ps name ≡ Some t → levels t ≤ pairs_levels ps)
        → levels t ≤ max (levels u) (pairs_levels ps)
    at true found in_rest = let value : u ≡ t = cc in omega (arith, ap levels value)
    at false found in_rest = omega (arith, in_rest found)

levels-id_first : (ps : Pairs) → pairs_levels (id_first ps) ≤ pairs_levels ps
levels-id_first ps = at (lookup ps id_name) refl
  where
    at : (o : Option Tree) → lookup ps id_name ≡ o → pairs_levels (first_pair id_name o (without ps id_name)) ≤ pairs_levels ps
    at None e = pairs_levels-without ps id_name
    at (Some t) e = omega (arith, pairs_levels-without ps id_name, no_deeper ps id_name t e)

-- ---- what passed

record Passed (large deep : Bool) (fault : Option Refusal) (id : Option Tree) (t : Tree) : Type 0 where
  small : large ≡ false
  flat : deep ≡ false
  named : fault ≡ None
  found : id ≡ Some t
  short : nat_lt 500 (length (tree_text t)) ≡ false

abbrev keyed : Option Tree → Result Tree Refusal
keyed id = do
  t ← or_refused id refusals.BadValue
  unless (nat_lt 500 (length (tree_text t))) refusals.KeyTooLong (Ok t)

of_key : (u t : Tree) (long : Bool) → unless long refusals.KeyTooLong (Ok u) ≡ Ok t → (u ≡ t) × (long ≡ false)
of_key u t true e = absurd cc
of_key u t false e = (cc, refl)

passed : (large deep : Bool) (fault : Option Refusal) (id : Option Tree) (t : Tree)
    → refused_if (or_else (fault_if large refusals.BSONObjectTooLarge) (fault_if deep refusals.BadValue)) (refused_if fault (keyed id)) ≡ Ok t
    → Passed large deep fault id t
passed true deep fault id t e = absurd cc
passed false true fault id t e = absurd cc
passed false false (Some r) id t e = absurd cc
passed false false None None t e = absurd cc
passed false false None (Some u) t e =
    let k = of_key u t (nat_lt 500 (length (tree_text u))) e in
    record {
      small = refl;
      flat = refl;
      named = refl;
      found = ap (λ (x : Tree). Some x) k.0;
      short = ap (λ (x : Tree). nat_lt 500 (length (tree_text x))) (sym k.0) ∙ k.1;
    }

-- a document that passed is lawful as it is stored, and keeps its `_id`
pub record Keeps (ps : Pairs) (t : Tree) : Type 0 where
  pub lawful : IsStored (id_first ps)
  pub key : key_of (id_first ps) ≡ t

pub keeps : (ps : Pairs) (t : Tree) → checked ps ≡ Ok t → Keeps ps t
unfolding checked
keeps ps t e =
    let p = passed (nat_lt 65535 (length (frame_of (pairs_bytes ps)))) (nat_lt 90 (suc (pairs_levels ps))) (pairs_fault (id_first ps)) (id_of ps) t e in
    let id : id_of (id_first ps) ≡ Some t = id_of-id_first ps ∙ p.found in
    let key : key_of (id_first ps) ≡ t = id_is_key (id_first ps) t id in
    record {
      lawful = record {
        size = omega (arith, frame_of-id_first ps, ltb-false 65535 (length (frame_of (pairs_bytes ps))) p.small);
        depth = omega (arith, levels-id_first ps, ltb-false 90 (suc (pairs_levels ps)) p.flat);
        names = p.named;
        key = id ∙ ap (λ (x : Tree). Some x) (sym key);
        short = subst (λ (x : Tree). length (tree_text x) ≤ 500) (sym key) (ltb-false 500 (length (tree_text t)) p.short);
        first = id_first-id_first ps;
      };
      key = key;
    }
