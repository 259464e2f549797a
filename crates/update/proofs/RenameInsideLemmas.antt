-- Renaming fields one after the other, in the document at the end of a path, makes what renaming them there at once makes.
use Rattle.std.proofs.Common.{◌≡◌, ◌≤◌, ℕ, Bool, true, false, List, [], ◌∷◌, ◌++◌, map, Option, Some, None, Result, Ok, Err}
use Rattle.std.proofs.Common.{zero, suc, length, take, get_or, refl, sym, ap, ◌∙◌, arith}
use Rattle.std.specs.Prelude.{if◌then◌else◌}
use Rattle.std.specs.List.{list_all}
use Rattle.std.specs.Option.{option_and_then}
use Rattle.std.specs.Str.{bytes_eq}
use Rattle.std.proofs.lemmas.Bool.{le-leb}
use Rattle.std.proofs.lemmas.Slice.Eq.{bytes_eq-Decides}
use Rattle.bson.specs.Edits.{put, cut}
use Rattle.bson.specs.EditsLaws.{lookup-put, pairs_levels-put, pairs_levels-cut}
use Rattle.bson.specs.Lawful.{levels, pairs_levels}
use Rattle.bson.specs.Lookup.{lookup}
use Rattle.bson.specs.Tree.{Tree, scalar, document, array, Pairs, no_pairs}
use Rattle.path.specs.EditLaws.{if_ok_value}
use Rattle.path.specs.Edits.{if_ok, within, write, set_at, cut_found, cut_at}
use Rattle.path.specs.Place.{is_array, some_passes, value_at, passes_array}
use Rattle.path.specs.declared.refusal.Refusal.{Refusal}
use Rattle.path.specs.declared.refusal.Refusal.TheVariants as refusals
use Rattle.path.proofs.WalkLemmas.{lookup-levels}
use Rattle.update_model.specs.Applying.{apply_edits}
use Rattle.update.specs.Inside.{moves, value_after, inside, leads_to_array}
use Rattle.update_model.specs.Renames.{moved, rename_at}
use Rattle.update.specs.Renaming.{is_rename_below, moved_found, moved_field, renamed}
use Rattle.update.specs.Unsets.{is_below, last_name, marked, unmarked, without_items}
use Rattle.update_model.specs.Update.{Path, Action, set, unset, increment, at_most, at_least, push, pull, rename, Edit}
use Rattle.update.specs.View.{edit_of}
use Rattle.update.specs.declared.edit.Edit.{Edit as Change}
use Rattle.update.proofs.InsideLemmas.{moved_field-levels, put_twice, put_same, inside-none, inside-twice, inside-levels, last, not_below}
use Rattle.update.proofs.InsideLemmas.{cut_at-inside, document_one}
use Rattle.update.proofs.RenamingLemmas.{cut_one, no_array, same_found}
use Rattle.update.proofs.UnsetLemmas.{and_true, unmarked-none}

-- ---- a path below another

named_alike : (name first : List ℕ) (parent rest : Path) → (is_below (name ∷ parent) (first ∷ rest) ≡ true)
    → (name ≡ first) × (is_below parent rest ≡ true)
named_alike name first parent rest e =
    let both = and_true (bytes_eq name first) (is_below parent rest) e in
    ((bytes_eq-Decides name first).0 both.0, both.1)

-- it is the other and one part more
below_is : (parent path : Path) → is_below parent path ≡ true → path ≡ parent ++ last_name path ∷ []
below_is [] [] e = absurd cc
below_is [] (name ∷ []) e = refl
below_is [] (name ∷ next ∷ rest) e = absurd cc
below_is (name ∷ parent) [] e = absurd cc
below_is (name ∷ parent) (first ∷ []) e = absurd (not_below parent (named_alike name first parent [] e).1)
below_is (name ∷ parent) (first ∷ next ∷ rest) e =
    let both = named_alike name first parent (next ∷ rest) e in
    λ i. sym both.0 i ∷ below_is parent (next ∷ rest) both.1 i

-- ---- arrays on the way

passes_one : (parent : Path) (a : List ℕ) (t : Tree) → passes_array (parent ++ a ∷ []) t ≡ leads_to_array parent t
passes_one [] a (scalar s) = refl
passes_one [] a (document ps) = no_array (lookup ps a)
passes_one [] a (array ts) = refl
passes_one (name ∷ rest) a (scalar s) = refl
passes_one (name ∷ rest) a (document ps) = by (lookup ps name) (passes_one rest a)
  where
    by : (o : Option Tree) → ((u : Tree) → passes_array (rest ++ a ∷ []) u ≡ leads_to_array rest u)
        → some_passes (passes_array (rest ++ a ∷ [])) o ≡ some_passes (leads_to_array rest) o
    by None later = refl
    by (Some u) later = later u
passes_one (name ∷ rest) a (array ts) = refl

pub passes_below : (parent path : Path) → is_below parent path ≡ true → (t : Tree) → passes_array path t ≡ leads_to_array parent t
passes_below parent path e t = ap (λ (p : Path). passes_array p t) (below_is parent path e) ∙ passes_one parent (last_name path) t

-- what leads to no array leads to none when no array comes to stand at its end
leads_same : (f : Tree → Tree) → ((t : Tree) → is_array (f t) ≡ is_array t) → (parent : Path) (t : Tree)
    → leads_to_array parent (inside parent f t) ≡ leads_to_array parent t
leads_same f keeps [] t = keeps t
leads_same f keeps (name ∷ rest) (scalar s) = refl
leads_same f keeps (name ∷ rest) (array ts) = refl
leads_same f keeps (name ∷ rest) (document ps) = by (lookup ps name) refl (leads_same f keeps rest)
  where
    by : (o : Option Tree) → lookup ps name ≡ o → ((u : Tree) → leads_to_array rest (inside rest f u) ≡ leads_to_array rest u)
        → some_passes (leads_to_array rest) (lookup (cut_found (λ t. Some (inside rest f t)) name ps o) name)
        ≡ some_passes (leads_to_array rest) (lookup ps name)
    by None e later = refl
    by (Some u) e later =
        ap (some_passes (leads_to_array rest)) (lookup-put ps name (inside rest f u)) ∙ later u
        ∙ ap (some_passes (leads_to_array rest)) (sym e)

-- ---- one field that is moved

abbrev moved_in : List ℕ → List ℕ → Tree → Tree
moved_in a b (scalar s) = scalar s
moved_in a b (document ps) = document (moved_field a b ps)
moved_in a b (array ts) = array ts

module _ (a b : List ℕ) where
  moved_in-array : (t : Tree) → is_array (moved_in a b t) ≡ is_array t
  moved_in-array (scalar s) = refl
  moved_in-array (document ps) = refl
  moved_in-array (array ts) = refl

  moved_in-levels : (t : Tree) → levels (moved_in a b t) ≤ levels t
  moved_in-levels (scalar s) = omega arith
  moved_in-levels (document ps) = omega (arith, moved_field-levels a b ps)
  moved_in-levels (array ts) = omega arith

  -- where nothing stands under the old name
  moved_none : (parent : Path) (t : Tree) → leads_to_array parent t ≡ false → value_at (parent ++ a ∷ []) t ≡ None → inside parent (moved_in a b) t ≡ t
  moved_none [] (scalar s) clear none = refl
  moved_none [] (document ps) clear none = ap (λ (o : Option Tree). document (moved_found a b ps o)) (sym (same_found (lookup ps a)) ∙ none)
  moved_none [] (array ts) clear none = absurd cc
  moved_none (name ∷ rest) (scalar s) clear none = refl
  moved_none (name ∷ rest) (array ts) clear none = absurd cc
  moved_none (name ∷ rest) (document ps) clear none = by (lookup ps name) refl clear none (moved_none rest)
    where
      by : (o : Option Tree) → lookup ps name ≡ o → some_passes (leads_to_array rest) o ≡ false → option_and_then (value_at (rest ++ a ∷ [])) o ≡ None
          → ((u : Tree) → leads_to_array rest u ≡ false → value_at (rest ++ a ∷ []) u ≡ None → inside rest (moved_in a b) u ≡ u)
          → document (cut_found (λ t. Some (inside rest (moved_in a b) t)) name ps o) ≡ document ps
      by None e clear none later = refl
      by (Some u) e clear none later = ap document (ap (put ps name) (later u clear none) ∙ put_same ps name u e)

  -- where something does: it is put back once both fields are gone
  abbrev both_gone : Tree → Tree
  both_gone t = last b (last a t)

  module _ (v : Tree) where
    abbrev always : Option Tree → Result Tree Refusal
    always old = Ok v

    fits : (u : Tree) → levels u ≤ 99 → within 99 (Ok u) ≡ Ok u
    fits u low = ap (λ (c : Bool). if c then Ok u else Err refusals.BadValue) (le-leb (levels u) 99 low)

    moved_some : (parent : Path) (t : Tree) → leads_to_array parent t ≡ false → levels t ≤ 100 → value_at (parent ++ a ∷ []) t ≡ Some v
        → write always (parent ++ b ∷ []) (Some (inside parent both_gone t)) ≡ Ok (inside parent (moved_in a b) t)
    unfolding last
    moved_some [] (scalar s) clear low some = absurd cc
    moved_some [] (array ts) clear low some = absurd cc
    moved_some [] (document ps) clear low some =
        let found : lookup ps a ≡ Some v = sym (same_found (lookup ps a)) ∙ some in
        let gone : cut_at (b ∷ []) (cut_at (a ∷ []) ps) ≡ cut (cut ps a) b = cut_one b (cut_at (a ∷ []) ps) ∙ ap (λ (qs : Pairs). cut qs b) (cut_one a ps) in
        ap (λ (r : Result Tree Refusal). if_ok (if_ok r (λ u. Ok (put (cut_at (b ∷ []) (cut_at (a ∷ []) ps)) b u))) (λ qs. Ok (document qs)))
        (fits v (omega (arith, low, lookup-levels ps a v found)))
        ∙ ap (λ (qs : Pairs). Ok (document (put qs b v))) gone
        ∙ sym (ap (λ (o : Option Tree). Ok (document (moved_found a b ps o))) found)
    moved_some (name ∷ rest) (scalar s) clear low some = absurd cc
    moved_some (name ∷ rest) (array ts) clear low some = absurd cc
    moved_some (name ∷ rest) (document ps) clear low some = by (lookup ps name) refl clear some (moved_some rest)
      where
        by : (o : Option Tree) → lookup ps name ≡ o → some_passes (leads_to_array rest) o ≡ false → option_and_then (value_at (rest ++ a ∷ [])) o ≡ Some v
            → ((u : Tree) → leads_to_array rest u ≡ false → levels u ≤ 100 → value_at (rest ++ a ∷ []) u ≡ Some v
            → write always (rest ++ b ∷ []) (Some (inside rest both_gone u)) ≡ Ok (inside rest (moved_in a b) u))
            → write always (name ∷ rest ++ b ∷ []) (Some (document (cut_found (λ t. Some (inside rest both_gone t)) name ps o)))
            ≡ Ok (document (cut_found (λ t. Some (inside rest (moved_in a b) t)) name ps o))
        by None e clear some later = absurd cc
        by (Some u) e clear some later =
            let below : levels u ≤ 99 = omega (arith, low, lookup-levels ps name u e) in
            let here = put ps name (inside rest both_gone u) in
            let new = inside rest (moved_in a b) u in
            ap (λ (o : Option Tree). if_ok (if_ok (within 99 (write always (rest ++ b ∷ []) o)) (λ w. Ok (put here name w))) (λ qs. Ok (document qs)))
            (lookup-put ps name (inside rest both_gone u))
            ∙ ap (λ (r : Result Tree Refusal). if_ok (if_ok (within 99 r) (λ w. Ok (put here name w))) (λ qs. Ok (document qs)))
            (later u clear (omega (arith, below)) some)
            ∙ ap (λ (r : Result Tree Refusal). if_ok (if_ok r (λ w. Ok (put here name w))) (λ qs. Ok (document qs)))
            (fits new (omega (arith, below, inside-levels (moved_in a b) moved_in-levels rest u)))
            ∙ ap (λ (qs : Pairs). Ok (document qs)) (put_twice ps name (inside rest both_gone u) new)

-- ---- one rename

record Renames (path new parent : Path) (ps : Pairs) : Type 0 where
  left : Pairs
  applied : rename_at path new ps ≡ Ok left
  same : document left ≡ inside parent (moved_in (last_name path) (last_name new)) (document ps)

module _ (parent path new : Path) (below : is_below parent path ≡ true) (new_below : is_below parent new ≡ true) (ps : Pairs)
    (clear : leads_to_array parent (document ps) ≡ false) (low : pairs_levels ps ≤ 99) where
  abbrev onwards : Option Tree → Result Pairs Refusal
  onwards o = if passes_array path (document ps) then Err refusals.BadValue else moved path new o ps

  no_first : passes_array path (document ps) ≡ false
  no_first = passes_below parent path below (document ps) ∙ clear

  no_second : passes_array new (document ps) ≡ false
  no_second = passes_below parent new new_below (document ps) ∙ clear

  at_last : (o : Option Tree) → value_at path (document ps) ≡ o → value_at (parent ++ last_name path ∷ []) (document ps) ≡ o
  at_last o e = ap (λ (p : Path). value_at p (document ps)) (sym (below_is parent path below)) ∙ e

  both_cut : document (cut_at new (cut_at path ps)) ≡ inside parent (both_gone (last_name path) (last_name new)) (document ps)
  both_cut =
      cut_at-inside parent new new_below (cut_at path ps)
      ∙ ap (inside parent (last (last_name new))) (cut_at-inside parent path below ps)
      ∙ inside-twice (last (last_name path)) (last (last_name new)) parent (document ps)

  record Sets (v : Tree) : Type 0 where
    left : Pairs
    applied : set_at new v (cut_at new (cut_at path ps)) ≡ Ok left
    same : document left ≡ inside parent (moved_in (last_name path) (last_name new)) (document ps)

  sets : (v : Tree) → value_at path (document ps) ≡ Some v → Sets v
  sets v some = by new refl
    where
      written : write (always (last_name path) (last_name new) v) new (Some (document (cut_at new (cut_at path ps))))
          ≡ Ok (inside parent (moved_in (last_name path) (last_name new)) (document ps))
      written =
          (λ i. write (always (last_name path) (last_name new) v) (below_is parent new new_below i) (Some (both_cut i)))
          ∙ moved_some (last_name path) (last_name new) v parent (document ps) clear (omega (arith, low)) (at_last (Some v) some)

      by : (p : Path) → new ≡ p → Sets v
      by [] is = absurd (not_below parent (ap (is_below parent) (sym is) ∙ new_below))
      by (first ∷ rest) is =
          let made = if_ok_value (set_at (first ∷ rest) v (cut_at new (cut_at path ps))) (λ (qs : Pairs). Ok (document qs))
          (inside parent (moved_in (last_name path) (last_name new)) (document ps))
          (ap (λ (p : Path). write (always (last_name path) (last_name new) v) p (Some (document (cut_at new (cut_at path ps))))) (sym is) ∙ written) in
          record {
            left = made.0;
            applied = ap (λ (p : Path). set_at p v (cut_at new (cut_at path ps))) is ∙ made.1;
            same = cc (made.2);
          }

  renames : Renames path new parent ps
  renames = by (value_at path (document ps)) refl
    where
      by : (o : Option Tree) → value_at path (document ps) ≡ o → Renames path new parent ps
      by None e = record {
        left = ps;
        applied = ap (λ (c : Bool). if c then Err refusals.BadValue else moved path new (value_at path (document ps)) ps) no_first
            ∙ ap (λ (o : Option Tree). moved path new o ps) e;
        same = sym (moved_none (last_name path) (last_name new) parent (document ps) clear (at_last None e));
      }
      by (Some v) e =
          let put_back = sets v e in
          record {
            left = put_back.left;
            applied = ap (λ (c : Bool). if c then Err refusals.BadValue else moved path new (value_at path (document ps)) ps) no_first
                ∙ ap (λ (o : Option Tree). moved path new o ps) e
                ∙ ap (λ (c : Bool). if c then Err refusals.BadValue else set_at new v (cut_at new (cut_at path ps))) no_second
                ∙ put_back.applied;
            same = put_back.same;
          }

-- ---- many

abbrev with_renamed : List Edit → Tree → Tree
with_renamed es (scalar s) = scalar s
with_renamed es (document ps) = document (renamed es ps)
with_renamed es (array ts) = array ts

record Moves (parent path : Path) (action : Action) : Type 0 where
  new : Path
  is : action ≡ rename new
  below : is_below parent path ≡ true
  new_below : is_below parent new ≡ true

if_true : (a b : Bool) → (if a then b else false) ≡ true → (a ≡ true) × (b ≡ true)
if_true true b e = (refl, e)
if_true false b e = absurd cc

one_move : (parent path : Path) (action : Action) → is_rename_below parent (record { path = path; action = action }) ≡ true → Moves parent path action
one_move parent path (rename new) e =
    let both = if_true (is_below parent new) (is_below parent path) e in
    record { new = new; is = refl; below = both.1; new_below = both.0 }
one_move parent path unset e = absurd cc
one_move parent path (set t) e = absurd cc
one_move parent path (increment n) e = absurd cc
one_move parent path (at_most t) e = absurd cc
one_move parent path (at_least t) e = absurd cc
one_move parent path (push ts) e = absurd cc
one_move parent path (pull c) e = absurd cc

record RenamesAll (parent : Path) (cs : List Change) (ps : Pairs) : Type 0 where
  left : Pairs
  applied : apply_edits (map edit_of cs) ps ≡ Ok left
  same : document left ≡ inside parent (with_renamed (map edit_of cs)) (document ps)

one_more : (c : Change) (cs : List Change) (new : Path) → (edit_of c).action ≡ rename new → (t : Tree)
    → with_renamed (map edit_of cs) (moved_in (last_name c.path) (last_name new) t) ≡ with_renamed (map edit_of (c ∷ cs)) t
one_more c cs new is (scalar s) = refl
one_more c cs new is (array ts) = refl
one_more c cs new is (document ps) =
    sym (ap (λ (action : Action). document (renamed (record { path = c.path; action = action } ∷ map edit_of cs) ps)) is)

none_renamed : (t : Tree) → with_renamed [] t ≡ t
none_renamed (scalar s) = refl
none_renamed (document ps) = refl
none_renamed (array ts) = refl

renames_all : (parent : Path) (cs : List Change) (ps : Pairs) → list_all (λ e. is_rename_below parent (edit_of e)) cs ≡ true
    → leads_to_array parent (document ps) ≡ false → pairs_levels ps ≤ 99 → RenamesAll parent cs ps
renames_all parent [] ps e clear low = record {
  left = ps;
  applied = refl;
  same = sym ((λ i. inside parent (λ t. none_renamed t i) (document ps)) ∙ inside-none parent (document ps));
}
renames_all parent (c ∷ cs) ps e clear low =
    let both = and_true (is_rename_below parent (edit_of c)) (list_all (λ x. is_rename_below parent (edit_of x)) cs) e in
    let move = one_move parent c.path (edit_of c).action both.0 in
    let one = renames parent c.path move.new move.below move.new_below ps clear low in
    let moved_one = moved_in (last_name c.path) (last_name move.new) in
    let rest = renames_all parent cs one.left both.1
    (ap (leads_to_array parent) one.same
    ∙ leads_same moved_one (moved_in-array (last_name c.path) (last_name move.new)) parent (document ps) ∙ clear)
    (omega (arith, low, ap levels one.same, inside-levels moved_one (moved_in-levels (last_name c.path) (last_name move.new)) parent (document ps))) in
    record {
      left = rest.left;
      applied = (λ i. apply_edits (record { path = c.path; action = move.is i } ∷ map edit_of cs) ps)
          ∙ ap (λ (r : Result Pairs Refusal). if_ok r (apply_edits (map edit_of cs))) one.applied ∙ rest.applied;
      same = rest.same ∙ ap (inside parent (with_renamed (map edit_of cs))) one.same
          ∙ inside-twice moved_one (with_renamed (map edit_of cs)) parent (document ps)
          ∙ (λ i. inside parent (λ t. one_more c cs move.new move.is t i) (document ps));
    }

-- ---- as the code does them

first_moves : (parent : Path) (c : Change) → is_rename_below parent (edit_of c) ≡ true → moves (edit_of c).action ≡ true
first_moves parent c e = let move = one_move parent c.path (edit_of c).action e in ap moves move.is

renamed_after : (parent : Path) (cs : List Change) → list_all (λ e. is_rename_below parent (edit_of e)) cs ≡ true → (t : Tree)
    → with_renamed (map edit_of cs) t ≡ value_after (map edit_of cs) t
renamed_after parent cs e (scalar s) = refl
renamed_after parent [] e (document ps) = ap document (sym (unmarked-none ps))
renamed_after parent [] e (array ts) = refl
renamed_after parent (c ∷ cs) e (document ps) =
    let both = and_true (is_rename_below parent (edit_of c)) (list_all (λ x. is_rename_below parent (edit_of x)) cs) e in
    sym (ap (λ (b : Bool). document (if b then renamed (map edit_of (c ∷ cs)) ps else unmarked (marked (map edit_of (c ∷ cs)) no_pairs) ps))
    (first_moves parent c both.0))
renamed_after parent (c ∷ cs) e (array ts) =
    let both = and_true (is_rename_below parent (edit_of c)) (list_all (λ x. is_rename_below parent (edit_of x)) cs) e in
    sym (ap (λ (b : Bool). array (if b then ts else without_items (map edit_of (c ∷ cs)) ts)) (first_moves parent c both.0))

-- edits one after the other, and at once
pub renames_inside : (parent : Path) (cs : List Change) (ps left : Pairs) → list_all (λ e. is_rename_below parent (edit_of e)) cs ≡ true
    → leads_to_array parent (document ps) ≡ false → pairs_levels ps ≤ 99
    → document left ≡ inside parent (value_after (map edit_of cs)) (document ps) → apply_edits (map edit_of cs) ps ≡ Ok left
renames_inside parent cs ps left e clear low so =
    let all = renames_all parent cs ps e clear low in
    all.applied ∙ ap Ok (document_one all.left left (all.same
    ∙ (λ i. inside parent (λ t. renamed_after parent cs e t i) (document ps)) ∙ sym so))

-- the first of a run leads through no array, and so does what they are all below
pub no_array_first : (parent : Path) (n : ℕ) (cs run : List Change) (c : Change) (ps : Pairs) → run ≡ take n cs
    → list_all (λ e. is_rename_below parent (edit_of e)) (take n cs) ≡ true → 1 ≤ length run → c ≡ get_or cs 0 c
    → passes_array c.path (document ps) ≡ false → leads_to_array parent (document ps) ≡ false
no_array_first parent zero cs run c ps front all some is clear = absurd (omega (arith, some, ap length front))
no_array_first parent (suc n) [] run c ps front all some is clear = absurd (omega (arith, some, ap length front))
no_array_first parent (suc n) (d ∷ cs) run c ps front all some is clear =
    let both = and_true (is_rename_below parent (edit_of d)) (list_all (λ e. is_rename_below parent (edit_of e)) (take n cs)) all in
    let move = one_move parent d.path (edit_of d).action both.0 in
    sym (passes_below parent d.path move.below (document ps)) ∙ ap (λ (e : Change). passes_array e.path (document ps)) (sym is) ∙ clear
