-- Edits of other paths leave the `_id` of a document as it is.
use Rattle.std.proofs.Common.{◌≡◌, ◌≢◌, ℕ, Bool, true, false, List, [], ◌∷◌}
use Rattle.std.proofs.Common.{Option, Some, None, Result, Ok, Err, refl, sym, ap, ◌∙◌}
use Rattle.std.specs.Prelude.{if◌then◌else◌, ◌||◌}
use Rattle.std.specs.Str.{bytes_eq}
use Rattle.std.proofs.lemmas.Slice.Eq.{bytes_eq-Decides}
use Rattle.bson.specs.Tree.{Tree, document, Pairs}
use Rattle.bson.specs.Lookup.{lookup}
use Rattle.bson.specs.Edits.{put}
use Rattle.bson.specs.EditsLaws.{lookup-put_other, lookup-cut_other}
use Rattle.path.specs.declared.refusal.Refusal.{Refusal}
use Rattle.path.specs.declared.refusal.Refusal.TheVariants as refusals
use Rattle.path.specs.Edits.{within, write, write_at, set_at, put_or_cut, cut_found, cut_off}
use Rattle.path.specs.Edits.{cut_at}
use Rattle.path.specs.EditLaws.{if_ok_value}
use Rattle.path.specs.Place.{value_at, passes_array}
use Rattle.filter.specs.Condition.{Condition}
use Rattle.filter.specs.IdPaths.{begins_with_id}
use Rattle.update_model.specs.Update.{Path, Action, set, unset, increment, at_most, at_least}
use Rattle.update_model.specs.Update.{push, pull, rename, Edit, edits}
use Rattle.update_model.specs.Stored.{id_name}
use Rattle.update_model.specs.Arrays.{if_there, pulled}
use Rattle.update_model.specs.Renames.{moved}
use Rattle.update_model.specs.Operators.{apply_action}
use Rattle.update_model.specs.Applying.{apply_edit, apply_edits}
use Rattle.update_model.specs.declared.operators.Operator.TheVariants as operators

pub ok_same : {X : Type 0} {x y : X} → ◌≡◌ {A = Result X Refusal} (Ok x) (Ok y) → x ≡ y
ok_same e = cc

pub or_none : (a b : Bool) → (a || b) ≡ false → (a ≡ false) × (b ≡ false)
or_none true b e = absurd cc
or_none false b e = (refl, e)

bytes_differ : (xs ys : List ℕ) → bytes_eq xs ys ≡ false → xs ≢ ys
bytes_differ xs ys e same = let f = (bytes_eq-Decides xs ys).1 same in absurd cc

-- ---- `_id` below the edits

write_keeps_id : (made : Option Tree → Result Tree Refusal) (path : Path) (ps qs : Pairs)
    → begins_with_id path ≡ false → write_at made path ps ≡ Ok qs
    → lookup qs id_name ≡ lookup ps id_name
write_keeps_id made [] ps qs b e = ap (λ (x : Pairs). lookup x id_name) (sym (ok_same e))
write_keeps_id made (name ∷ rest) ps qs b e =
    let got = if_ok_value (within 99 (write made rest (lookup ps name)))
    (λ (u : Tree). Ok (put ps name u)) qs e in
    let same : put ps name got.0 ≡ qs = ok_same got.2 in
    ap (λ (x : Pairs). lookup x id_name) (sym same)
    ∙ lookup-put_other ps name id_name got.0 (λ s. bytes_differ name id_name b (sym s))

cut_keeps_id : (path : Path) (ps : Pairs) → begins_with_id path ≡ false
    → lookup (cut_at path ps) id_name ≡ lookup ps id_name
cut_keeps_id [] ps b = refl
cut_keeps_id (name ∷ rest) ps b = found (lookup ps name)
  where
    left : (w : Option Tree) → lookup (put_or_cut name ps w) id_name ≡ lookup ps id_name
    left None = lookup-cut_other ps name id_name (λ s. bytes_differ name id_name b (sym s))
    left (Some w) = lookup-put_other ps name id_name w (λ s. bytes_differ name id_name b (sym s))

    found : (o : Option Tree)
        → lookup (cut_found (cut_off rest) name ps o) id_name ≡ lookup ps id_name
    found None = refl
    found (Some t) = left (cut_off rest t)

abbrev pub ActionAvoids : Action → Type 0
ActionAvoids (rename new) = begins_with_id new ≡ false
ActionAvoids other = Unit {0}

pub record EditAvoids (e : Edit) : Type 0 where
  pub path : begins_with_id e.path ≡ false
  pub action : ActionAvoids e.action

abbrev pub AllAvoid : List Edit → Type 0
AllAvoid [] = Unit {0}
AllAvoid (e ∷ es) = EditAvoids e × AllAvoid es

pull_keeps_id : (condition : Condition) (path : Path) (ps qs : Pairs) (o : Option Tree)
    → begins_with_id path ≡ false → if_there o (write_at (pulled condition) path ps) ps ≡ Ok qs
    → lookup qs id_name ≡ lookup ps id_name
pull_keeps_id condition path ps qs None b e = ap (λ (x : Pairs). lookup x id_name) (sym (ok_same e))
pull_keeps_id condition path ps qs (Some t) b e = write_keeps_id (pulled condition) path ps qs b e

move_keeps_id : (old new : Path) (ps qs : Pairs) (o : Option Tree) → begins_with_id old ≡ false
    → begins_with_id new ≡ false → moved old new o ps ≡ Ok qs
    → lookup qs id_name ≡ lookup ps id_name
move_keeps_id old new ps qs None b c e = ap (λ (x : Pairs). lookup x id_name) (sym (ok_same e))
move_keeps_id old new ps qs (Some t) b c e = by (passes_array new (document ps)) e
  where
    by : (p : Bool)
        → (if p then Err refusals.BadValue else set_at new t (cut_at new (cut_at old ps))) ≡ Ok qs
        → lookup qs id_name ≡ lookup ps id_name
    by true e = absurd cc
    by false e =
        write_keeps_id (λ (old : Option Tree). Ok t) new (cut_at new (cut_at old ps)) qs c e
        ∙ cut_keeps_id new (cut_at old ps) c ∙ cut_keeps_id old ps b

rename_keeps_id : (old new : Path) (ps qs : Pairs) (p : Bool) → begins_with_id old ≡ false
    → begins_with_id new ≡ false
    → (if p then Err refusals.BadValue else moved old new (value_at old (document ps)) ps) ≡ Ok qs
    → lookup qs id_name ≡ lookup ps id_name
rename_keeps_id old new ps qs true b c e = absurd cc
rename_keeps_id old new ps qs false b c e =
    move_keeps_id old new ps qs (value_at old (document ps)) b c e

action_keeps_id : (path : Path) (a : Action) (ps qs : Pairs) → begins_with_id path ≡ false
    → ActionAvoids a → apply_action path a ps ≡ Ok qs → lookup qs id_name ≡ lookup ps id_name
action_keeps_id path (set t) ps qs b h e = write_keeps_id _ path ps qs b e
action_keeps_id path unset ps qs b h e =
    ap (λ (x : Pairs). lookup x id_name) (sym (ok_same e)) ∙ cut_keeps_id path ps b
action_keeps_id path (increment n) ps qs b h e = write_keeps_id _ path ps qs b e
action_keeps_id path (at_most t) ps qs b h e = write_keeps_id _ path ps qs b e
action_keeps_id path (at_least t) ps qs b h e = write_keeps_id _ path ps qs b e
action_keeps_id path (push ts) ps qs b h e = write_keeps_id _ path ps qs b e
action_keeps_id path (pull c) ps qs b h e =
    pull_keeps_id c path ps qs (value_at path (document ps)) b e
action_keeps_id path (rename new) ps qs b h e =
    rename_keeps_id path new ps qs (passes_array path (document ps)) b h e

pub edits_keep_id : (es : List Edit) (ps qs : Pairs) → AllAvoid es → apply_edits es ps ≡ Ok qs
    → lookup qs id_name ≡ lookup ps id_name
edits_keep_id [] ps qs h e = ap (λ (x : Pairs). lookup x id_name) (sym (ok_same e))
edits_keep_id (one ∷ es) ps qs h e =
    let got = if_ok_value (apply_edit one ps) (apply_edits es) qs e in
    edits_keep_id es got.0 qs h.1 got.2
    ∙ action_keeps_id one.path one.action ps got.0 h.0.path h.0.action got.1
