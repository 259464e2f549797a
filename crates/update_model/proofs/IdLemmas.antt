-- A document with `_id` first is a document.
use Rattle.std.proofs.Common.{◌≡◌, ◌≢◌, ℕ, zero, suc, max, ◌≤◌, Bool, true, false, List, Option, Some}
use Rattle.std.proofs.Common.{None, refl, sym, ap, subst, ◌∙◌, arith}
use Rattle.std.specs.Prelude.{if◌then◌else◌, option_map}
use Rattle.std.specs.Str.{bytes_eq}
use Rattle.std.proofs.lemmas.Slice.Eq.{bytes_eq-Decides}
use Rattle.bson.specs.Tree.{Tree, Pairs, no_pairs, pair}
use Rattle.bson.specs.Edits.{place, pair_at, without_pair}
use Rattle.bson.specs.EditsLaws.{place-there, place-absent, lookup-absent}
use Rattle.bson.specs.EditPlaces.{IsPairs-without_pair, pairs_levels-without_pair}
use Rattle.bson.specs.Lookup.{lookup}
use Rattle.bson.specs.Lawful.{levels, pairs_levels, IsName, Lacks, IsTree, IsPairs, IsDocument}
use Rattle.update_model.specs.Stored.{without, first_pair, id_name, id_first}
use Rattle.update_model.specs.Fronts.{before, to_front, IsField, MayStand}

pub bytes_differ : (xs ys : List ℕ) → bytes_eq xs ys ≡ false → xs ≢ ys
bytes_differ xs ys e same = let f = (bytes_eq-Decides xs ys).1 same in absurd cc

-- ---- what is left without a name

Lacks-without : (ps : Pairs) (name other : List ℕ) → Lacks ps other → Lacks (without ps name) other
Lacks-without no_pairs name other h = tt
Lacks-without (pair n t ps) name other h = at (bytes_eq name n) (Lacks-without ps name other h.1)
  where
    at : (b : Bool) → Lacks (without ps name) other → Lacks (if b then without ps name else pair n t (without ps name)) other
    at true later = later
    at false later = (h.0, later)

Lacks-own : (ps : Pairs) (name : List ℕ) → Lacks (without ps name) name
Lacks-own no_pairs name = tt
Lacks-own (pair n t ps) name = at (bytes_eq name n) refl (Lacks-own ps name)
  where
    at : (b : Bool) → bytes_eq name n ≡ b → Lacks (without ps name) name → Lacks (if b then without ps name else pair n t (without ps name)) name
    at true e later = later
    at false e later = (bytes_differ name n e, later)

IsPairs-without : (ps : Pairs) (name : List ℕ) → IsPairs ps → IsPairs (without ps name)
IsPairs-without no_pairs name h = tt
IsPairs-without (pair n t ps) name h = at (bytes_eq name n) (IsPairs-without ps name h.3)
  where
    at : (b : Bool) → IsPairs (without ps name) → IsPairs (if b then without ps name else pair n t (without ps name))
    at true later = later
    at false later = (h.0, h.1, Lacks-without ps name n h.2, later)

pub pairs_levels-without : (ps : Pairs) (name : List ℕ) → pairs_levels (without ps name) ≤ pairs_levels ps
pairs_levels-without no_pairs name = omega arith
pairs_levels-without (pair n t ps) name = at (bytes_eq name n) (pairs_levels-without ps name)
  where
    at : (b : Bool) → pairs_levels (without ps name) ≤ pairs_levels ps
        → pairs_levels (if b then without ps name else pair n t (without ps name)) ≤ max (levels t) (pairs_levels ps)
    at true later = omega arith
    at false later = omega arith

pub without-absent : (ps : Pairs) (name : List ℕ) → lookup ps name ≡ None → without ps name ≡ ps
without-absent no_pairs name e = refl
without-absent (pair other t ps) name e = by (bytes_eq name other) e (without-absent ps name)
  where
    by : (b : Bool) → (if b then Some t else lookup ps name) ≡ None → (lookup ps name ≡ None → without ps name ≡ ps)
        → (if b then without ps name else pair other t (without ps name)) ≡ pair other t ps
    by true e later = absurd cc
    by false e later = ap (pair other t) (later e)

-- ---- what is found by a name

some_same : {X : Type 0} {x y : X} → ◌≡◌ {A = Option X} (Some x) (Some y) → x ≡ y
some_same e = cc

lookup_found : (ps : Pairs) (name : List ℕ) (t : Tree) → IsPairs ps → pairs_levels ps ≤ 99 → lookup ps name ≡ Some t → IsField name t
lookup_found no_pairs name t h d e = absurd cc
lookup_found (pair n u ps) name t h d e = at (bytes_eq name n) refl e (λ found. lookup_found ps name t h.3 (omega arith) found)
  where
    at : (b : Bool) → bytes_eq name n ≡ b → (if b then Some u else lookup ps name) ≡ Some t → (lookup ps name ≡ Some t → IsField name t) → IsField name t
    at true same found in_rest =
        let value : u ≡ t = some_same found in
        record {
          named = subst IsName (sym ((bytes_eq-Decides name n).0 same)) h.0;
          lawful = subst IsTree value h.1;
          depth = omega (arith, ap levels value);
        }
    at false other found in_rest = in_rest found

pub may_stand : (ps : Pairs) (name : List ℕ) → IsDocument ps → MayStand name (lookup ps name)
may_stand ps name d = at (lookup ps name) refl
  where
    at : (o : Option Tree) → lookup ps name ≡ o → MayStand name o
    at None e = tt
    at (Some t) e = lookup_found ps name t d.lawful d.depth e

-- ---- `_id` first

pub IsDocument-first_pair : (o : Option Tree) (ps : Pairs) → IsDocument ps → MayStand id_name o → IsDocument (first_pair id_name o (without ps id_name))
IsDocument-first_pair None ps d m = record { lawful = IsPairs-without ps id_name d.lawful; depth = omega (arith, pairs_levels-without ps id_name, d.depth) }
IsDocument-first_pair (Some t) ps d m = record {
  lawful = (m.named, m.lawful, Lacks-own ps id_name, IsPairs-without ps id_name d.lawful);
  depth = omega (arith, pairs_levels-without ps id_name, d.depth, m.depth);
}

without-place : (ps : Pairs) (name : List ℕ) (i : ℕ) → IsPairs ps → place ps name ≡ Some i → without ps name ≡ without_pair ps i
without-place no_pairs name i h e = absurd cc
without-place (pair n t ps) name i h e = at (bytes_eq name n) refl e (place ps name) refl (λ j p. without-place ps name j h.3 p)
  where
    at : (b : Bool) → bytes_eq name n ≡ b → (if b then Some 0 else option_map suc (place ps name)) ≡ Some i → (o : Option ℕ) → place ps name ≡ o
        → ((j : ℕ) → place ps name ≡ Some j → without ps name ≡ without_pair ps j)
        → (if b then without ps name else pair n t (without ps name)) ≡ without_pair (pair n t ps) i
    at true same found o p later =
        let first : 0 ≡ i = some_same found in
        let lacks : Lacks ps name = subst (Lacks ps) (sym ((bytes_eq-Decides name n).0 same)) h.2 in
        without-absent ps name (lookup-absent ps name lacks) ∙ ap (without_pair (pair n t ps)) first
    at false other found None p later = let f : option_map suc (place ps name) ≡ None = ap (option_map suc) p in absurd cc
    at false other found (Some j) p later =
        let f : option_map suc (place ps name) ≡ Some (suc j) = ap (option_map suc) p in
        let next : suc j ≡ i = some_same (sym f ∙ found) in
        ap (pair n t) (later j p) ∙ ap (without_pair (pair n t ps)) next

pub id_first-at : (ps : Pairs) (i : ℕ) → IsPairs ps → place ps id_name ≡ Some i → id_first ps ≡ to_front ps i
id_first-at ps i h e =
    let found = place-there ps id_name i e in
    ap (λ (o : Option Tree). first_pair id_name o (without ps id_name)) found.2
    ∙ ap (pair id_name found.0) (without-place ps id_name i h e)
    ∙ sym (ap (λ (o : Option (List ℕ × Tree)). before o (without_pair ps i)) found.1)

pub id_first-none : (ps : Pairs) → place ps id_name ≡ None → id_first ps ≡ ps
id_first-none ps e =
    let none = (place-absent ps id_name e).1 in
    ap (λ (o : Option Tree). first_pair id_name o (without ps id_name)) none ∙ without-absent ps id_name none

pub to_front-first : (ps : Pairs) (i : ℕ) → i ≡ 0 → to_front ps i ≡ ps
to_front-first no_pairs i e = refl
to_front-first (pair n t ps) i e = ap (to_front (pair n t ps)) e

-- ---- a pair that is moved to the front

lacks_at : (ps : Pairs) (other : List ℕ) (i : ℕ) (n : List ℕ) (t : Tree) → Lacks ps other → pair_at ps i ≡ Some (n, t) → other ≢ n
lacks_at no_pairs other i n t h e = absurd cc
lacks_at (pair m u ps) other zero n t h e = λ same. h.0 (same ∙ sym (ap (λ (p : List ℕ × Tree). p.0) (some_same e)))
lacks_at (pair m u ps) other (suc i) n t h e = lacks_at ps other i n t h.1 e

record Stands (n : List ℕ) (t : Tree) (ps rest : Pairs) : Type 0 where
  named : IsName n
  lawful : IsTree t
  lacks : Lacks rest n
  depth : levels t ≤ pairs_levels ps

stands : (ps : Pairs) (i : ℕ) (n : List ℕ) (t : Tree) → IsPairs ps → pair_at ps i ≡ Some (n, t) → Stands n t ps (without_pair ps i)
stands no_pairs i n t h e = absurd cc
stands (pair m u ps) zero n t h e =
    let name : m ≡ n = ap (λ (p : List ℕ × Tree). p.0) (some_same e) in
    let value : u ≡ t = ap (λ (p : List ℕ × Tree). p.1) (some_same e) in
    record { named = subst IsName name h.0; lawful = subst IsTree value h.1; lacks = subst (Lacks ps) name h.2; depth = omega (arith, ap levels value) }
stands (pair m u ps) (suc i) n t h e =
    let s = stands ps i n t h.3 e in
    record { named = s.named; lawful = s.lawful; lacks = ((λ same. lacks_at ps m i n t h.2 e (sym same)), s.lacks); depth = omega (arith, s.depth) }

pub IsDocument-to_front : (ps : Pairs) (i : ℕ) → IsDocument ps → IsDocument (to_front ps i)
IsDocument-to_front ps i d = at (pair_at ps i) refl
  where
    rest : pairs_levels (without_pair ps i) ≤ 99
    rest = omega (arith, pairs_levels-without_pair ps i, d.depth)

    at : (o : Option (List ℕ × Tree)) → pair_at ps i ≡ o → IsDocument (before o (without_pair ps i))
    at None e = record { lawful = IsPairs-without_pair ps i d.lawful; depth = rest }
    at (Some p) e =
        let s = stands ps i p.0 p.1 d.lawful e in
        record { lawful = (s.named, s.lawful, s.lacks, IsPairs-without_pair ps i d.lawful); depth = omega (arith, rest, s.depth, d.depth) }
