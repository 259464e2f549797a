-- Taking fields away one after the other leaves the pairs whose names aren't among the marks.
use Rattle.std.proofs.Common.{◌≡◌, ◌≢◌, ◌≤◌, ℕ, zero, suc, max, arith, Bool, true, false, List, [], ◌∷◌, take, drop, map}
use Rattle.std.proofs.Common.{Option, Some, None, Result, Ok, Err, refl, sym, ap, subst, ◌∙◌}
use Rattle.std.specs.Prelude.{◌&&◌, if◌then◌else◌, not, filter}
use Rattle.std.specs.Option.{is_some}
use Rattle.std.specs.Str.{bytes_eq}
use Rattle.std.proofs.lemmas.Slice.Eq.{bytes_eq-Decides}
use Rattle.bson.specs.Tree.{Tree, Pairs, no_pairs, pair}
use Rattle.bson.specs.View.{tree, pairs_of}
use Rattle.bson.specs.Edits.{put, cut}
use Rattle.bson.specs.EditsLaws.{lookup-put, lookup-put_other, lookup-absent}
use Rattle.bson.specs.Lawful.{levels, pairs_levels, Lacks, IsPairs}
use Rattle.bson.specs.Lookup.{lookup}
use Rattle.bson.specs.declared.value.Pair.{Pair}
use Rattle.path.specs.declared.refusal.Refusal.{Refusal}
use Rattle.path.specs.Edits.{if_ok, put_or_cut, cut_found, cut_field, cut_off}
use Rattle.update_model.specs.Applying.{apply_edit, apply_edits}
use Rattle.update.specs.Unsets.{unmarked}
use Rattle.update.specs.View.{edit_of}
use Rattle.update.specs.declared.edit.Edit.{Edit as Change}
use Rattle.update.proofs.StepLemmas.{goes_on, stops}

-- ---- taking away one field

module _ (left : Tree → Option Tree) (name : List ℕ) where
  pub cut_lacking : (ps : Pairs) → Lacks ps name → cut_field left name ps ≡ ps
  cut_lacking ps h = ap (cut_found left name ps) (lookup-absent ps name h)

  pub cut_other : (n : List ℕ) (t : Tree) (ps : Pairs) → bytes_eq name n ≡ false → cut_field left name (pair n t ps) ≡ pair n t (cut_field left name ps)
  cut_other n t ps e = ap (λ (b : Bool). cut_found left name (pair n t ps) (if b then Some t else lookup ps name)) e ∙ found (lookup ps name)
    where
      kept : (w : Option Tree) → put_or_cut name (pair n t ps) w ≡ pair n t (put_or_cut name ps w)
      kept None = ap (λ (b : Bool). if b then ps else pair n t (cut ps name)) e
      kept (Some w) = ap (λ (b : Bool). if b then pair n w ps else pair n t (put ps name w)) e

      found : (o : Option Tree) → cut_found left name (pair n t ps) o ≡ pair n t (cut_found left name ps o)
      found None = refl
      found (Some u) = kept (left u)

-- the first pair goes
cut_first : (name n : List ℕ) (t : Tree) (ps : Pairs) → bytes_eq name n ≡ true → cut_field (cut_off []) name (pair n t ps) ≡ ps
cut_first name n t ps e =
    ap (λ (b : Bool). cut_found (cut_off []) name (pair n t ps) (if b then Some t else lookup ps name)) e
    ∙ ap (λ (b : Bool). if b then ps else pair n t (cut ps name)) e

-- ---- marks

pub unmarked-none : (ps : Pairs) → unmarked no_pairs ps ≡ ps
unmarked-none no_pairs = refl
unmarked-none (pair n t ps) = ap (pair n t) (unmarked-none ps)

pub Lacks-unmarked : (marks ps : Pairs) (name : List ℕ) → Lacks ps name → Lacks (unmarked marks ps) name
Lacks-unmarked marks no_pairs name h = tt
Lacks-unmarked marks (pair n t ps) name h = by (is_some (lookup marks n)) (Lacks-unmarked marks ps name h.1)
  where
    by : (b : Bool) → Lacks (unmarked marks ps) name → Lacks (if b then unmarked marks ps else pair n t (unmarked marks ps)) name
    by true later = later
    by false later = (h.0, later)

pub unmarked_levels : (marks ps : Pairs) → pairs_levels (unmarked marks ps) ≤ pairs_levels ps
unmarked_levels marks no_pairs = omega arith
unmarked_levels marks (pair n t ps) = by (is_some (lookup marks n)) (unmarked_levels marks ps)
  where
    by : (b : Bool) → pairs_levels (unmarked marks ps) ≤ pairs_levels ps
        → pairs_levels (if b then unmarked marks ps else pair n t (unmarked marks ps)) ≤ max (levels t) (pairs_levels ps)
    by true later = omega (arith, later)
    by false later = omega (arith, later)

bytes_differ : (xs ys : List ℕ) → bytes_eq xs ys ≡ false → ys ≢ xs
bytes_differ xs ys e same = let f = (bytes_eq-Decides xs ys).1 (sym same) in absurd cc

-- one mark more
module _ (marks : Pairs) (name : List ℕ) (u : Tree) where
  pub marked_more : (ps : Pairs) → IsPairs ps → unmarked (put marks name u) ps ≡ cut_field (cut_off []) name (unmarked marks ps)
  marked_more no_pairs h = refl
  marked_more (pair n t ps) h = by (bytes_eq name n) refl (marked_more ps h.3)
    where
      named : name ≡ n → (b : Bool) → bytes_eq name n ≡ true → unmarked (put marks name u) ps ≡ cut_field (cut_off []) name (unmarked marks ps)
          → unmarked (put marks name u) ps ≡ cut_field (cut_off []) name (if b then unmarked marks ps else pair n t (unmarked marks ps))
      named same true e rest = rest
      named same false e rest =
          rest ∙ cut_lacking (cut_off []) name (unmarked marks ps) (Lacks-unmarked marks ps name (subst (Lacks ps) (sym same) h.2))
          ∙ sym (cut_first name n t (unmarked marks ps) e)

      other : (b : Bool) → bytes_eq name n ≡ false → unmarked (put marks name u) ps ≡ cut_field (cut_off []) name (unmarked marks ps)
          → (if b then unmarked (put marks name u) ps else pair n t (unmarked (put marks name u) ps))
          ≡ cut_field (cut_off []) name (if b then unmarked marks ps else pair n t (unmarked marks ps))
      other true e rest = rest
      other false e rest = ap (pair n t) rest ∙ sym (cut_other (cut_off []) name n t (unmarked marks ps) e)

      by : (b : Bool) → bytes_eq name n ≡ b → unmarked (put marks name u) ps ≡ cut_field (cut_off []) name (unmarked marks ps)
          → unmarked (put marks name u) (pair n t ps) ≡ cut_field (cut_off []) name (unmarked marks (pair n t ps))
      by true e rest =
          let same : name ≡ n = (bytes_eq-Decides name n).0 e in
          let found : lookup (put marks name u) n ≡ Some u = subst (λ (m : List ℕ). lookup (put marks name u) m ≡ Some u) same (lookup-put marks name u) in
          ap (λ (o : Option Tree). if is_some o then unmarked (put marks name u) ps else pair n t (unmarked (put marks name u) ps)) found
          ∙ named same (is_some (lookup marks n)) e rest
      by false e rest =
          ap (λ (o : Option Tree). if is_some o then unmarked (put marks name u) ps else pair n t (unmarked (put marks name u) ps))
          (lookup-put_other marks name n u (bytes_differ name n e))
          ∙ other (is_some (lookup marks n)) e rest

pub and_true : (a b : Bool) → (a && b) ≡ true → (a ≡ true) × (b ≡ true)
and_true true b e = (refl, e)
and_true false b e = absurd cc

-- ---- a run of edits, and those behind it

after_run : (n : ℕ) (cs : List Change) (ps : Pairs)
    → apply_edits (map edit_of cs) ps ≡ if_ok (apply_edits (map edit_of (take n cs)) ps) (apply_edits (map edit_of (drop n cs)))
after_run zero cs ps = refl
after_run (suc n) [] ps = refl
after_run (suc n) (c ∷ cs) ps = by (apply_edit (edit_of c) ps) (after_run n cs)
  where
    by : (r : Result Pairs Refusal)
        → ((qs : Pairs) → apply_edits (map edit_of cs) qs ≡ if_ok (apply_edits (map edit_of (take n cs)) qs) (apply_edits (map edit_of (drop n cs))))
        → if_ok r (apply_edits (map edit_of cs)) ≡ if_ok (if_ok r (apply_edits (map edit_of (take n cs)))) (apply_edits (map edit_of (drop n cs)))
    by (Ok qs) later = later qs
    by (Err e) later = refl

module _ (n : ℕ) (cs run behind : List Change) (ps : Pairs) (planned : Result Pairs Refusal) (front : run ≡ take n cs) (back : behind ≡ drop n cs)
    (so_far : apply_edits (map edit_of cs) ps ≡ planned) where
  parts : apply_edits (map edit_of cs) ps ≡ if_ok (apply_edits (map edit_of run) ps) (apply_edits (map edit_of behind))
  parts = after_run n cs ps ∙ (λ i. if_ok (apply_edits (map edit_of (sym front i)) ps) (apply_edits (map edit_of (sym back i))))

  pub behind_run : (qs : Pairs) → apply_edits (map edit_of run) ps ≡ Ok qs → apply_edits (map edit_of behind) qs ≡ planned
  behind_run qs made =
      goes_on (apply_edits (map edit_of run) ps) (apply_edits (map edit_of behind)) (apply_edits (map edit_of cs) ps) planned qs parts made so_far

  pub refused_run : (e : Refusal) → apply_edits (map edit_of run) ps ≡ Err e → planned ≡ Err e
  refused_run e made =
      stops (apply_edits (map edit_of run) ps) (apply_edits (map edit_of behind)) (apply_edits (map edit_of cs) ps) planned e parts made so_far

-- ---- the pairs that are kept

pub pairs_of-filter : (marks : Pairs) (ps : List Pair) → pairs_of (filter (λ p. not (is_some (lookup marks p.name))) ps) ≡ unmarked marks (pairs_of ps)
pairs_of-filter marks [] = refl
pairs_of-filter marks (p ∷ ps) = by (is_some (lookup marks p.name)) (pairs_of-filter marks ps)
  where
    by : (b : Bool) → pairs_of (filter (λ q. not (is_some (lookup marks q.name))) ps) ≡ unmarked marks (pairs_of ps)
        → pairs_of (if not b then p ∷ filter (λ q. not (is_some (lookup marks q.name))) ps else filter (λ q. not (is_some (lookup marks q.name))) ps)
        ≡ (if b then unmarked marks (pairs_of ps) else pair p.name (tree p.value) (unmarked marks (pairs_of ps)))
    by true later = later
    by false later = ap (pair p.name (tree p.value)) later
