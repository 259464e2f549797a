-- Taking fields away one after the other, in what stands at the end of a path, leaves what taking them away there at once leaves.
use Rattle.std.proofs.Common.{◌≡◌, ◌<◌, ◌≤◌, ℕ, zero, suc, Bool, true, false, List, [], ◌∷◌, map, Option, Some, None, Ok}
use Rattle.std.proofs.Common.{length, get_or, ◌-◌, refl, sym, ap, subst, ◌∙◌, arith}
use Rattle.std.specs.Prelude.{if◌then◌else◌}
use Rattle.std.specs.List.{list_all}
use Rattle.std.specs.Option.{unwrap_or}
use Rattle.std.specs.Str.{bytes_eq}
use Rattle.std.proofs.lemmas.Slice.Eq.{bytes_eq-Decides}
use Rattle.bson.specs.Edits.{items_len, item_at, with_item, put, cut}
use Rattle.bson.specs.EditPlaces.{with_item-twice, item_at-with_item, items_levels-with_item}
use Rattle.bson.specs.EditsLaws.{lookup-put, pairs_levels-put, pairs_levels-cut}
use Rattle.bson.specs.Lawful.{levels, pairs_levels, items_levels, IsTree, IsPairs, IsItems}
use Rattle.bson.specs.Lookup.{lookup}
use Rattle.bson.specs.Tree.{Scalar, Tree, scalar, null, document, array, Pairs, no_pairs, pair, Items, no_items, item}
use Rattle.path.specs.Edits.{put_or_cut, cut_found, cut_field, with_found, cut_item, cut_off, cut_at}
use Rattle.path.specs.Parts.{index_of}
use Rattle.path.proofs.IndexLemmas.{item_at-levels}
use Rattle.path.proofs.WalkLemmas.{lookup-levels, cut_off-levels}
use Rattle.update_model.specs.Applying.{apply_edits}
use Rattle.update.specs.Inside.{moves, begins_with_rename, value_after, in_field, in_item, inside}
use Rattle.update.specs.Renaming.{moved_found, moved_field, moved_by, renamed}
use Rattle.update.specs.Unsets.{is_below, is_unset_below, last_name, marked, unmarked, without_items}
use Rattle.update_model.specs.Update.{Path, Action, set, unset, increment, at_most, at_least, push, pull, rename, Edit}
use Rattle.update.specs.View.{edit_of}
use Rattle.update.specs.declared.edit.Edit.{Edit as Change}
use Rattle.update.proofs.UnsetLemmas.{unmarked-none, unmarked_levels, marked_more, and_true}

-- ---- fields and elements that are there

pub put_twice : (ps : Pairs) (name : List ℕ) (t u : Tree) → put (put ps name t) name u ≡ put ps name u
put_twice no_pairs name t u = ap (λ (b : Bool). if b then pair name u no_pairs else pair name t (pair name u no_pairs)) ((bytes_eq-Decides name name).1 refl)
put_twice (pair n v ps) name t u = by (bytes_eq name n) refl (put_twice ps name t u)
  where
    by : (b : Bool) → bytes_eq name n ≡ b → put (put ps name t) name u ≡ put ps name u
        → put (if b then pair n t ps else pair n v (put ps name t)) name u ≡ (if b then pair n u ps else pair n v (put ps name u))
    by true e later = ap (λ (c : Bool). if c then pair n u ps else pair n t (put ps name u)) e
    by false e later = ap (λ (c : Bool). if c then pair n u (put ps name t) else pair n v (put (put ps name t) name u)) e ∙ ap (pair n v) later

pub put_same : (ps : Pairs) (name : List ℕ) (t : Tree) → lookup ps name ≡ Some t → put ps name t ≡ ps
put_same no_pairs name t e = absurd cc
put_same (pair n v ps) name t e = by (bytes_eq name n) e (put_same ps name t)
  where
    by : (b : Bool) → (if b then Some v else lookup ps name) ≡ Some t → (lookup ps name ≡ Some t → put ps name t ≡ ps)
        → (if b then pair n t ps else pair n v (put ps name t)) ≡ pair n v ps
    by true e later = let is : v ≡ t = cc in ap (λ (w : Tree). pair n w ps) (sym is)
    by false e later = ap (pair n v) (later e)

with_same : (ts : Items) (i : ℕ) (t : Tree) → item_at ts i ≡ Some t → with_item ts i t ≡ ts
with_same no_items i t e = absurd cc
with_same (item u ts) zero t e = let is : u ≡ t = cc in ap (λ (w : Tree). item w ts) (sym is)
with_same (item u ts) (suc i) t e = ap (item u) (with_same ts i t e)

pub item_near : (ts : Items) (i : ℕ) (t : Tree) → item_at ts i ≡ Some t → i < items_len ts
item_near no_items i t e = absurd cc
item_near (item u ts) zero t e = omega arith
item_near (item u ts) (suc i) t e = omega (arith, item_near ts i t e)

pub IsTree-found : (ps : Pairs) (name : List ℕ) (t : Tree) → IsPairs ps → lookup ps name ≡ Some t → IsTree t
IsTree-found no_pairs name t h e = absurd cc
IsTree-found (pair n u ps) name t h e = by (bytes_eq name n) e (IsTree-found ps name t h.3)
  where
    by : (b : Bool) → (if b then Some u else lookup ps name) ≡ Some t → (lookup ps name ≡ Some t → IsTree t) → IsTree t
    by true e later = let is : u ≡ t = cc in subst IsTree is h.1
    by false e later = later e

pub IsTree-item : (ts : Items) (i : ℕ) (t : Tree) → IsItems ts → item_at ts i ≡ Some t → IsTree t
IsTree-item no_items i t h e = absurd cc
IsTree-item (item u ts) zero t h e = let is : u ≡ t = cc in subst IsTree is h.0
IsTree-item (item u ts) (suc i) t h e = IsTree-item ts i t h.1 e

-- ---- what is made of a field, or of an element

module _ (f g : Tree → Tree) where
  in_field-same : (name : List ℕ) (ps : Pairs) → ((u : Tree) → lookup ps name ≡ Some u → f u ≡ g u) → in_field f name ps ≡ in_field g name ps
  in_field-same name ps same = by (lookup ps name) refl
    where
      by : (o : Option Tree) → lookup ps name ≡ o → cut_found (λ t. Some (f t)) name ps o ≡ cut_found (λ t. Some (g t)) name ps o
      by None e = refl
      by (Some u) e = ap (put ps name) (same u e)

  in_item-same : (o : Option ℕ) (ts : Items) → ((i : ℕ) (u : Tree) → item_at ts i ≡ Some u → f u ≡ g u) → in_item f o ts ≡ in_item g o ts
  in_item-same None ts same = refl
  in_item-same (Some i) ts same = by (item_at ts i) refl
    where
      by : (o : Option Tree) → item_at ts i ≡ o → with_found (λ t. Some (f t)) i ts o ≡ with_found (λ t. Some (g t)) i ts o
      by None e = refl
      by (Some u) e = ap (with_item ts i) (same i u e)

  in_field-twice : (name : List ℕ) (ps : Pairs) → in_field g name (in_field f name ps) ≡ in_field (λ t. g (f t)) name ps
  in_field-twice name ps = by (lookup ps name) refl
    where
      by : (o : Option Tree) → lookup ps name ≡ o → in_field g name (cut_found (λ t. Some (f t)) name ps o) ≡ cut_found (λ t. Some (g (f t))) name ps o
      by None e = ap (cut_found (λ t. Some (g t)) name ps) e
      by (Some u) e = ap (cut_found (λ t. Some (g t)) name (put ps name (f u))) (lookup-put ps name (f u)) ∙ put_twice ps name (f u) (g (f u))

  in_item-twice : (o : Option ℕ) (ts : Items) → in_item g o (in_item f o ts) ≡ in_item (λ t. g (f t)) o ts
  in_item-twice None ts = refl
  in_item-twice (Some i) ts = by (item_at ts i) refl
    where
      by : (o : Option Tree) → item_at ts i ≡ o → in_item g (Some i) (with_found (λ t. Some (f t)) i ts o) ≡ with_found (λ t. Some (g (f t))) i ts o
      by None e = ap (with_found (λ t. Some (g t)) i ts) e
      by (Some u) e =
          ap (with_found (λ t. Some (g t)) i (with_item ts i (f u))) (item_at-with_item ts i (f u) (item_near ts i u e))
          ∙ with_item-twice ts i (f u) (g (f u))

in_field-none : (name : List ℕ) (ps : Pairs) → in_field (λ t. t) name ps ≡ ps
in_field-none name ps = by (lookup ps name) refl
  where
    by : (o : Option Tree) → lookup ps name ≡ o → cut_found (λ t. Some t) name ps o ≡ ps
    by None e = refl
    by (Some u) e = put_same ps name u e

in_item-none : (o : Option ℕ) (ts : Items) → in_item (λ t. t) o ts ≡ ts
in_item-none None ts = refl
in_item-none (Some i) ts = by (item_at ts i) refl
  where
    by : (o : Option Tree) → item_at ts i ≡ o → with_found (λ t. Some t) i ts o ≡ ts
    by None e = refl
    by (Some u) e = with_same ts i u e

-- ---- what is made at the end of a path

pub inside-none : (path : Path) (t : Tree) → inside path (λ u. u) t ≡ t
inside-none [] t = refl
inside-none (name ∷ rest) (scalar s) = refl
inside-none (name ∷ rest) (document ps) =
    ap document (in_field-same (inside rest (λ u. u)) (λ u. u) name ps (λ u e. inside-none rest u) ∙ in_field-none name ps)
inside-none (name ∷ rest) (array ts) =
    ap array (in_item-same (inside rest (λ u. u)) (λ u. u) (index_of name) ts (λ i u e. inside-none rest u) ∙ in_item-none (index_of name) ts)

module _ (f g : Tree → Tree) where
  pub inside-twice : (path : Path) (t : Tree) → inside path g (inside path f t) ≡ inside path (λ u. g (f u)) t
  inside-twice [] t = refl
  inside-twice (name ∷ rest) (scalar s) = refl
  inside-twice (name ∷ rest) (document ps) =
      ap document (in_field-twice (inside rest f) (inside rest g) name ps
      ∙ in_field-same (λ u. inside rest g (inside rest f u)) (inside rest (λ u. g (f u))) name ps (λ u e. inside-twice rest u))
  inside-twice (name ∷ rest) (array ts) =
      ap array (in_item-twice (inside rest f) (inside rest g) (index_of name) ts
      ∙ in_item-same (λ u. inside rest g (inside rest f u)) (inside rest (λ u. g (f u))) (index_of name) ts (λ i u e. inside-twice rest u))

  inside-same : ((u : Tree) → IsTree u → f u ≡ g u) → (path : Path) (t : Tree) → IsTree t → inside path f t ≡ inside path g t
  inside-same same [] t h = same t h
  inside-same same (name ∷ rest) (scalar s) h = refl
  inside-same same (name ∷ rest) (document ps) h =
      ap document (in_field-same (inside rest f) (inside rest g) name ps (λ u e. inside-same same rest u (IsTree-found ps name u h e)))
  inside-same same (name ∷ rest) (array ts) h =
      ap array (in_item-same (inside rest f) (inside rest g) (index_of name) ts (λ i u e. inside-same same rest u (IsTree-item ts i u h e)))

-- ---- one field, or one element

unfoldable pub last : List ℕ → Tree → Tree
last name (scalar s) = scalar s
last name (document ps) = document (cut_field (cut_off []) name ps)
last name (array ts) = array (cut_item (cut_off []) (index_of name) ts)

module _ (left : Tree → Option Tree) (f : Tree → Tree) (same : (u : Tree) → left u ≡ Some (f u)) where
  cut_field-in : (name : List ℕ) (ps : Pairs) → cut_field left name ps ≡ in_field f name ps
  cut_field-in name ps = by (lookup ps name)
    where
      by : (o : Option Tree) → cut_found left name ps o ≡ cut_found (λ t. Some (f t)) name ps o
      by None = refl
      by (Some u) = ap (put_or_cut name ps) (same u)

  cut_item-in : (o : Option ℕ) (ts : Items) → cut_item left o ts ≡ in_item f o ts
  cut_item-in None ts = refl
  cut_item-in (Some i) ts = by (item_at ts i)
    where
      by : (o : Option Tree) → with_found left i ts o ≡ with_found (λ t. Some (f t)) i ts o
      by None = refl
      by (Some u) = ap (λ (w : Option Tree). with_item ts i (unwrap_or w (scalar null))) (same u)

cut_last : (name : List ℕ) (t : Tree) → cut_off (name ∷ []) t ≡ Some (last name t)
unfolding last
cut_last name (scalar s) = refl
cut_last name (document ps) = refl
cut_last name (array ts) = refl

module _ (parent : Path) (first next name : List ℕ) (rest : Path) (named : first ≡ name)
    (later : (u : Tree) → cut_off (next ∷ rest) u ≡ Some (inside parent (last (last_name (next ∷ rest))) u)) where
  cut_further : (t : Tree) → cut_off (first ∷ next ∷ rest) t ≡ Some (inside (name ∷ parent) (last (last_name (next ∷ rest))) t)
  cut_further (scalar s) = refl
  cut_further (document ps) = ap (λ (qs : Pairs). Some (document qs))
      (cut_field-in (cut_off (next ∷ rest)) (inside parent (last (last_name (next ∷ rest)))) later first ps
      ∙ ap (λ (n : List ℕ). in_field (inside parent (last (last_name (next ∷ rest)))) n ps) named)
  cut_further (array ts) = ap (λ (us : Items). Some (array us))
      (cut_item-in (cut_off (next ∷ rest)) (inside parent (last (last_name (next ∷ rest)))) later (index_of first) ts
      ∙ ap (λ (n : List ℕ). in_item (inside parent (last (last_name (next ∷ rest)))) (index_of n) ts) named)

pub not_below : (parent : Path) → is_below parent [] ≡ true → ⊥
not_below [] e = absurd cc
not_below (name ∷ parent) e = absurd cc

-- what one edit leaves
cut_inside : (parent path : Path) → is_below parent path ≡ true → (t : Tree) → cut_off path t ≡ Some (inside parent (last (last_name path)) t)
cut_inside [] [] e t = absurd cc
cut_inside [] (name ∷ []) e t = cut_last name t
cut_inside [] (name ∷ next ∷ rest) e t = absurd cc
cut_inside (name ∷ parent) [] e t = absurd cc
cut_inside (name ∷ parent) (first ∷ []) e t = absurd (not_below parent (and_true (bytes_eq name first) (is_below parent []) e).1)
cut_inside (name ∷ parent) (first ∷ next ∷ rest) e t =
    let both = and_true (bytes_eq name first) (is_below parent (next ∷ rest)) e in
    cut_further parent first next name rest (sym ((bytes_eq-Decides name first).0 both.0)) (λ u. cut_inside parent (next ∷ rest) both.1 u) t

pub some_one : (t u : Tree) → Some t ≡ Some u → t ≡ u
some_one t u e = cc

pub cut_at-inside : (parent path : Path) → is_below parent path ≡ true → (ps : Pairs)
    → document (cut_at path ps) ≡ inside parent (last (last_name path)) (document ps)
cut_at-inside parent [] e ps = absurd (not_below parent e)
cut_at-inside parent (name ∷ rest) e ps =
    some_one (document (cut_at (name ∷ rest) ps)) (inside parent (last (last_name (name ∷ rest))) (document ps))
    (cut_inside parent (name ∷ rest) e (document ps))

-- ---- many edits

-- what they make of what others made
steps : List Change → (Tree → Tree) → Tree → Tree
steps [] made = made
steps (c ∷ cs) made = steps cs (λ t. last (last_name c.path) (made t))

one_below : (parent path : Path) (action : Action) → is_unset_below parent (record { path = path; action = action }) ≡ true
    → (is_below parent path ≡ true) × (action ≡ unset)
one_below parent path unset e = (e, refl)
one_below parent path (set t) e = absurd cc
one_below parent path (increment n) e = absurd cc
one_below parent path (at_most t) e = absurd cc
one_below parent path (at_least t) e = absurd cc
one_below parent path (push ts) e = absurd cc
one_below parent path (pull c) e = absurd cc
one_below parent path (rename new) e = absurd cc

-- the document that edits leave, where others made this of another
record Leaves (parent : Path) (cs : List Change) (made : Tree → Tree) (ps now : Pairs) : Type 0 where
  left : Pairs
  applied : apply_edits (map edit_of cs) now ≡ Ok left
  same : document left ≡ inside parent (steps cs made) (document ps)

leaves : (parent : Path) (cs : List Change) (made : Tree → Tree) (ps now : Pairs) → list_all (λ e. is_unset_below parent (edit_of e)) cs ≡ true
    → document now ≡ inside parent made (document ps) → Leaves parent cs made ps now
unfolding steps
leaves parent [] made ps now e so = record { left = now; applied = refl; same = so }
leaves parent (c ∷ cs) made ps now e so =
    let both = and_true (is_unset_below parent (edit_of c)) (list_all (λ x. is_unset_below parent (edit_of x)) cs) e in
    let one = one_below parent c.path (edit_of c).action both.0 in
    let rest = leaves parent cs (λ t. last (last_name c.path) (made t)) ps (cut_at c.path now) both.1
    (cut_at-inside parent c.path one.0 now ∙ ap (inside parent (last (last_name c.path))) so
    ∙ inside-twice made (last (last_name c.path)) parent (document ps)) in
    record {
      left = rest.left;
      applied = (λ i. apply_edits (record { path = c.path; action = one.1 i } ∷ map edit_of cs) now) ∙ rest.applied;
      same = rest.same;
    }

-- what they leave of a value
module _ (t : Tree) where
  steps_document : (cs : List Change) (made : Tree → Tree) (marks ps : Pairs) → IsPairs ps → made t ≡ document (unmarked marks ps)
      → steps cs made t ≡ document (unmarked (marked (map edit_of cs) marks) ps)
  unfolding steps last
  steps_document [] made marks ps h so = so
  steps_document (c ∷ cs) made marks ps h so =
      steps_document cs (λ u. last (last_name c.path) (made u)) (put marks (last_name c.path) (scalar null)) ps h
      (ap (last (last_name c.path)) so ∙ ap document (sym (marked_more marks (last_name c.path) (scalar null) ps h)))

  steps_array : (cs : List Change) (made : Tree → Tree) (ts : Items) → made t ≡ array ts → steps cs made t ≡ array (without_items (map edit_of cs) ts)
  unfolding steps last
  steps_array [] made ts so = so
  steps_array (c ∷ cs) made ts so =
      steps_array cs (λ u. last (last_name c.path) (made u)) (cut_item (cut_off []) (index_of (last_name c.path)) ts) (ap (last (last_name c.path)) so)

  steps_scalar : (cs : List Change) (made : Tree → Tree) (s : Scalar) → made t ≡ scalar s → steps cs made t ≡ scalar s
  unfolding steps last
  steps_scalar [] made s so = so
  steps_scalar (c ∷ cs) made s so = steps_scalar cs (λ u. last (last_name c.path) (made u)) s (ap (last (last_name c.path)) so)

abbrev without : List Edit → Tree → Tree
without es (scalar s) = scalar s
without es (document ps) = document (unmarked (marked es no_pairs) ps)
without es (array ts) = array (without_items es ts)

steps_without : (cs : List Change) (t : Tree) → IsTree t → steps cs (λ u. u) t ≡ without (map edit_of cs) t
steps_without cs (scalar s) h = steps_scalar (scalar s) cs (λ u. u) s refl
steps_without cs (document ps) h = steps_document (document ps) cs (λ u. u) no_pairs ps h (ap document (sym (unmarked-none ps)))
steps_without cs (array ts) h = steps_array (array ts) cs (λ u. u) ts refl

pub document_one : (ps qs : Pairs) → document ps ≡ document qs → ps ≡ qs
document_one ps qs e = cc

-- what all of them leave of it at once
module _ (parent : Path) where
  no_rename : (cs : List Change) → list_all (λ e. is_unset_below parent (edit_of e)) cs ≡ true → begins_with_rename (map edit_of cs) ≡ false
  no_rename [] e = refl
  no_rename (c ∷ cs) e =
      let both = and_true (is_unset_below parent (edit_of c)) (list_all (λ x. is_unset_below parent (edit_of x)) cs) e in
      ap moves (one_below parent c.path (edit_of c).action both.0).1

  without_after : (cs : List Change) → list_all (λ e. is_unset_below parent (edit_of e)) cs ≡ true → (t : Tree)
      → without (map edit_of cs) t ≡ value_after (map edit_of cs) t
  without_after cs e (scalar s) = refl
  without_after cs e (document ps) =
      sym (ap (λ (b : Bool). document (if b then renamed (map edit_of cs) ps else unmarked (marked (map edit_of cs) no_pairs) ps)) (no_rename cs e))
  without_after cs e (array ts) = sym (ap (λ (b : Bool). array (if b then ts else without_items (map edit_of cs) ts)) (no_rename cs e))

-- edits one after the other, and at once
pub unsets_inside : (parent : Path) (cs : List Change) (ps left : Pairs) → list_all (λ e. is_unset_below parent (edit_of e)) cs ≡ true → IsPairs ps
    → document left ≡ inside parent (value_after (map edit_of cs)) (document ps) → apply_edits (map edit_of cs) ps ≡ Ok left
unsets_inside parent cs ps left e h so =
    let all = leaves parent cs (λ u. u) ps ps e (sym (inside-none parent (document ps))) in
    all.applied ∙ ap Ok (document_one all.left left (all.same
    ∙ inside-same (steps cs (λ u. u)) (value_after (map edit_of cs)) (λ u k. steps_without cs u k ∙ without_after parent cs e u) parent (document ps) h
    ∙ sym so))

-- ---- levels

in_field-levels : (f : Tree → Tree) → ((u : Tree) → levels (f u) ≤ levels u) → (name : List ℕ) (ps : Pairs)
    → pairs_levels (in_field f name ps) ≤ pairs_levels ps
in_field-levels f keeps name ps = by (lookup ps name) refl
  where
    by : (o : Option Tree) → lookup ps name ≡ o → pairs_levels (cut_found (λ t. Some (f t)) name ps o) ≤ pairs_levels ps
    by None e = omega arith
    by (Some u) e = omega (arith, pairs_levels-put ps name (f u), keeps u, lookup-levels ps name u e)

in_item-levels : (f : Tree → Tree) → ((u : Tree) → levels (f u) ≤ levels u) → (o : Option ℕ) (ts : Items) → items_levels (in_item f o ts) ≤ items_levels ts
in_item-levels f keeps None ts = omega arith
in_item-levels f keeps (Some i) ts = by (item_at ts i) refl
  where
    by : (o : Option Tree) → item_at ts i ≡ o → items_levels (with_found (λ t. Some (f t)) i ts o) ≤ items_levels ts
    by None e = omega arith
    by (Some u) e = omega (arith, items_levels-with_item ts i (f u), keeps u, item_at-levels ts i u e)

without_items-levels : (cs : List Edit) (ts : Items) → items_levels (without_items cs ts) ≤ items_levels ts
without_items-levels [] ts = omega arith
without_items-levels (c ∷ cs) ts =
    omega (
      arith,
      without_items-levels cs (cut_item (cut_off []) (index_of (last_name c.path)) ts),
      cut_off-levels (last_name c.path ∷ []) (array ts) (array (cut_item (cut_off []) (index_of (last_name c.path)) ts)) refl,
    )

pub moved_field-levels : (a b : List ℕ) (ps : Pairs) → pairs_levels (moved_field a b ps) ≤ pairs_levels ps
moved_field-levels a b ps = by (lookup ps a) refl
  where
    by : (o : Option Tree) → lookup ps a ≡ o → pairs_levels (moved_found a b ps o) ≤ pairs_levels ps
    by None e = omega arith
    by (Some t) e =
        omega (arith, pairs_levels-put (cut (cut ps a) b) b t, pairs_levels-cut (cut ps a) b, pairs_levels-cut ps a, lookup-levels ps a t e)

moved_by-levels : (a : List ℕ) (action : Action) (ps : Pairs) → pairs_levels (moved_by a action ps) ≤ pairs_levels ps
moved_by-levels a (rename new) ps = moved_field-levels a (last_name new) ps
moved_by-levels a (set t) ps = omega arith
moved_by-levels a unset ps = omega arith
moved_by-levels a (increment n) ps = omega arith
moved_by-levels a (at_most t) ps = omega arith
moved_by-levels a (at_least t) ps = omega arith
moved_by-levels a (push ts) ps = omega arith
moved_by-levels a (pull c) ps = omega arith

renamed-levels : (cs : List Edit) (ps : Pairs) → pairs_levels (renamed cs ps) ≤ pairs_levels ps
renamed-levels [] ps = omega arith
renamed-levels (c ∷ cs) ps =
    omega (arith, renamed-levels cs (moved_by (last_name c.path) c.action ps), moved_by-levels (last_name c.path) c.action ps)

pub value_after-levels : (cs : List Edit) (t : Tree) → levels (value_after cs t) ≤ levels t
value_after-levels cs (scalar s) = omega arith
value_after-levels cs (document ps) = by (begins_with_rename cs)
  where
    by : (b : Bool) → levels (document (if b then renamed cs ps else unmarked (marked cs no_pairs) ps)) ≤ levels (document ps)
    by true = omega (arith, renamed-levels cs ps)
    by false = omega (arith, unmarked_levels (marked cs no_pairs) ps)
value_after-levels cs (array ts) = by (begins_with_rename cs)
  where
    by : (b : Bool) → levels (array (if b then ts else without_items cs ts)) ≤ levels (array ts)
    by true = omega arith
    by false = omega (arith, without_items-levels cs ts)

pub inside-levels : (f : Tree → Tree) → ((u : Tree) → levels (f u) ≤ levels u) → (path : Path) (t : Tree) → levels (inside path f t) ≤ levels t
inside-levels f keeps [] t = keeps t
inside-levels f keeps (name ∷ rest) (scalar s) = omega arith
inside-levels f keeps (name ∷ rest) (document ps) = omega (arith, in_field-levels (inside rest f) (inside-levels f keeps rest) name ps)
inside-levels f keeps (name ∷ rest) (array ts) = omega (arith, in_item-levels (inside rest f) (inside-levels f keeps rest) (index_of name) ts)

pub no_parts : {X : Type 0} (xs : List X) → length xs < 1 → xs ≡ []
no_parts [] lt = refl
no_parts (x ∷ xs) lt = absurd (omega (arith, lt))

pub last_of_rest : (names : Path) (x first : List ℕ) → 1 ≤ length names → x ≡ get_or names (length names - 1) x → x ≡ last_name (first ∷ names)
last_of_rest [] x first some is = absurd (omega (arith, some))
last_of_rest (y ∷ []) x first some is = is
last_of_rest (y ∷ z ∷ zs) x first some is =
    let more : length (y ∷ z ∷ zs) - 1 ≡ suc (length (z ∷ zs) - 1) = omega arith in
    last_of_rest (z ∷ zs) x y (omega arith) (is ∙ ap (λ (k : ℕ). get_or (y ∷ z ∷ zs) k x) more)
