-- What a map of noted edits tells of them.
use Rattle.std.proofs.Common.{◌≡◌, ℕ, Bool, true, false, ◌||◌, List, [], ◌∷◌, Option, Some, None, refl, sym, ap, ◌∙◌}
use Rattle.std.specs.List.{All, AllByRecursion}
use Rattle.std.proofs.lemmas.List.Elements.{recursion_from_All}
use Rattle.std.specs.Prelude.{cond, if◌then◌else◌, is_some, map, option_map}
use Rattle.std.specs.BTreeMap.{insert_entry}
use Rattle.std.specs.Global.{Vec}
use Rattle.std.specs.Map.{lookup}
use Rattle.std.specs.Ordering.{is_eq, is_lt, match_ordering, ordering_reverse}
use Rattle.std.specs.declared.cmp.Ordering.{Ordering}
use Rattle.std.specs.declared.cmp.Ordering.TheVariants.{Less, Equal, Greater}
use Rattle.std.proofs.lemmas.Map.Lookups.{exact_bytes}
use Rattle.tree_model.specs.Keys.{edit_keys}
use Rattle.tree_model.specs.Keys.{Edit, key_cmp}
use Rattle.index.specs.Changes.{is_among}
use Rattle.entries.specs.EditList.{Noted, edit_at, edit_of, edits_in, with_edit}
use Rattle.entry_model.specs.State.{by_order}
use Rattle.entries.proofs.EditLemmas.{turned}

abbrev vec_cmp : Vec ℕ → Vec ℕ → Ordering
vec_cmp a b = key_cmp a.items b.items

not_less : (o : Ordering) → o ≡ Less → is_lt o ≡ false → ⊥
not_less Less same other = absurd cc
not_less Equal same other = absurd cc
not_less Greater same other = absurd cc

-- what is put at a key of the map is an edit more in the list
pub inserted : (k : Vec ℕ) (v : Option (Vec ℕ)) (es : List Noted) → edits_in (insert_entry vec_cmp es k v) ≡ with_edit (edit_of k v) (edits_in es)
inserted k v [] = refl
inserted k v (e ∷ es) = by (key_cmp k.items e.0.items) refl (inserted k v es)
  where
    by : (o : Ordering) → key_cmp k.items e.0.items ≡ o → edits_in (insert_entry vec_cmp es k v) ≡ with_edit (edit_of k v) (edits_in es)
        → edits_in (match_ordering o ((k, v) ∷ e ∷ es) ((e.0, v) ∷ es) (e ∷ insert_entry vec_cmp es k v))
        ≡ by_order o (edit_of k v ∷ edit_of e.0 e.1 ∷ edits_in es) (edit_of k v ∷ edits_in es) (edit_of e.0 e.1 ∷ with_edit (edit_of k v) (edits_in es))
    by Less is later = refl
    by Equal is later =
        ap (λ (key : List ℕ). record { key = key; value = option_map (λ x. x.items) v } ∷ edits_in es) (sym (exact_bytes k.items e.0.items is))
    by Greater is later = ap (λ (fs : List Edit). edit_of e.0 e.1 ∷ fs) later

-- whether a key is edited
pub has_told : (key : List ℕ) (es : List Noted) → is_some (lookup (λ (k : Vec ℕ). is_eq (key_cmp key k.items)) es) ≡ is_among (edit_keys (edits_in es)) key
has_told key [] = refl
has_told key (e ∷ es) = by (is_eq (key_cmp key e.0.items)) (has_told key es)
  where
    by : (b : Bool) → is_some (lookup (λ (k : Vec ℕ). is_eq (key_cmp key k.items)) es) ≡ is_among (edit_keys (edits_in es)) key
        → is_some (cond b (Some e.1) (lookup (λ (k : Vec ℕ). is_eq (key_cmp key k.items)) es)) ≡ (b || is_among (edit_keys (edits_in es)) key)
    by true later = refl
    by false later = later

-- what the edit of a key puts
pub look_told : (key : List ℕ) (es : List Noted)
    → option_map (option_map (λ (x : Vec ℕ). x.items)) (lookup (λ (k : Vec ℕ). is_eq (key_cmp key k.items)) es) ≡ edit_at key (edits_in es)
look_told key [] = refl
look_told key (e ∷ es) = by (key_cmp key e.0.items) (key_cmp e.0.items key) (turned e.0.items key) (look_told key es)
  where
    by : (o p : Ordering) → p ≡ ordering_reverse o
        → option_map (option_map (λ (x : Vec ℕ). x.items)) (lookup (λ (k : Vec ℕ). is_eq (key_cmp key k.items)) es) ≡ edit_at key (edits_in es)
        → option_map (option_map (λ (x : Vec ℕ). x.items)) (cond (is_eq o) (Some e.1) (lookup (λ (k : Vec ℕ). is_eq (key_cmp key k.items)) es))
        ≡ (if is_eq p then Some (option_map (λ x. x.items) e.1) else edit_at key (edits_in es))
    by Less p is later = later ∙ sym (ap (λ (o : Ordering). if is_eq o then Some (option_map (λ x. x.items) e.1) else edit_at key (edits_in es)) is)
    by Equal p is later = sym (ap (λ (o : Ordering). if is_eq o then Some (option_map (λ x. x.items) e.1) else edit_at key (edits_in es)) is)
    by Greater p is later = later ∙ sym (ap (λ (o : Ordering). if is_eq o then Some (option_map (λ x. x.items) e.1) else edit_at key (edits_in es)) is)

pub puts_told : (key : List ℕ) (es : List Noted) (o : Option (Option (Vec ℕ))) → o ≡ lookup (λ (k : Vec ℕ). is_eq (key_cmp key k.items)) es
    → option_map is_some o ≡ option_map is_some (edit_at key (edits_in es))
puts_told key es o is = sym (value_same o) ∙ ap (λ (x : Option (Option (Vec ℕ))). option_map is_some (option_map (option_map (λ (y : Vec ℕ). y.items)) x)) is
    ∙ ap (option_map is_some) (look_told key es)
  where
    value_same : (x : Option (Option (Vec ℕ))) → option_map is_some (option_map (option_map (λ (y : Vec ℕ). y.items)) x) ≡ option_map is_some x
    value_same None = refl
    value_same (Some None) = refl
    value_same (Some (Some v)) = refl

-- A key above the greatest one has no edit.
none_by : (key : List ℕ) (last : Vec ℕ) (es : List Noted) → AllByRecursion (λ (q : Vec ℕ). is_lt (vec_cmp last q) ≡ false) (map (λ e. e.0) es)
    → key_cmp last.items key ≡ Less → edit_at key (edits_in es) ≡ None
none_by key last [] all less = refl
none_by key last (e ∷ es) all less = by (key_cmp e.0.items key) refl (none_by key last es all.1 less)
  where
    by : (o : Ordering) → key_cmp e.0.items key ≡ o → edit_at key (edits_in es) ≡ None
        → (if is_eq o then Some (option_map (λ x. x.items) e.1) else edit_at key (edits_in es)) ≡ None
    by Less is later = later
    by Equal is later = absurd (not_less (vec_cmp last e.0) (ap (key_cmp last.items) (exact_bytes e.0.items key is) ∙ less) all.0)
    by Greater is later = later

pub none_above : (key : List ℕ) (last : Vec ℕ) (es : List Noted) → All (λ (q : Vec ℕ). is_lt (vec_cmp last q) ≡ false) (map (λ e. e.0) es)
    → key_cmp last.items key ≡ Less → edit_at key (edits_in es) ≡ None
none_above key last es all less =
    none_by key last es (recursion_from_All (λ (q : Vec ℕ). is_lt (vec_cmp last q) ≡ false) (map (λ e. e.0) es) all) less

pub less_of : (b : Bool) (o : Ordering) → b ≡ is_lt o → b ≡ true → o ≡ Less
less_of b Less told is = refl
less_of b Equal told is = absurd cc
less_of b Greater told is = absurd cc
