-- An edit that was noted, in the words of an entry.
use Rattle.std.proofs.Common.{◌≡◌, ℕ, ◌+◌, ◌≤◌, List, [], ◌∷◌, ◌++◌, map, Option, Some, None, option_map, Bor, Result, Ok, Err, length, refl, sym, ap, subst}
use Rattle.std.proofs.Common.{◌∙◌, arith}
use Rattle.std.specs.Prelude.{OnOk, IfOk}
use Rattle.std.specs.Global.{Vec}
use Rattle.std.proofs.lemmas.List.{append-nil}
use Rattle.bson.specs.Spelling.{frame_of, pairs_bytes}
use Rattle.value_order.specs.KeyText.{tree_text}
use Rattle.tree_model.specs.EditView.{HasRoom, edit_in}
use Rattle.tree_model.specs.Keys.{Each, Edit}
use Rattle.tree_model.specs.declared.edit.Edit.{Edit as TreeEdit}
use Rattle.entries.specs.EditList.{IsShortEdit, LeadsWith, Noted, edit_of, edits_in}
use Rattle.entry_model.specs.State.{words}
use Rattle.entry_model.specs.StateEntries.{key_under, catalogue_value}
use Rattle.entries.proofs.CatalogueEntries.{value_size}
use Rattle.entries.proofs.FitLaws.{escaped_size, key_size}

pub on_ok : {A E : Type 0} {P Q : Type 0} (r : Result A E) → (P → Q) → OnOk r P → OnOk r Q
on_ok (Ok a) f h = f h
on_ok (Err e) f h = h

abbrev edit : List ℕ → Option (List ℕ) → Edit
edit key value = record { key = key; value = value }

-- of equal bytes
pub put_same : (old new : List Edit) (k l v w : List ℕ) → k ≡ l → v ≡ w → LeadsWith old (edit k (Some v)) new → LeadsWith old (edit l (Some w)) new
put_same old new k l v w keys values h =
    subst (λ (e : Edit). LeadsWith old e new) (λ i. edit (keys i) (Some (values i))) h

pub removed_same : (old new : List Edit) (k l : List ℕ) → k ≡ l → LeadsWith old (edit k None) new → LeadsWith old (edit l None) new
removed_same old new k l keys h = subst (λ (e : Edit). LeadsWith old e new) (ap (λ (m : List ℕ). edit m None) keys) h

-- ---- short enough

pub name_fits : (name key : List ℕ) → length name ≤ 255 → key ≡ key_under 0 0 (tree_text (words name)) → length key ≤ 1024
name_fits name key short e =
    let long : length key ≡ 8 + length (tree_text (words name)) = ap length e ∙ key_size 0 0 (tree_text (words name)) in
    omega (arith, long, escaped_size name, short)

pub catalogue_fits : (number : ℕ) (bytes x : List ℕ) → bytes ≡ frame_of (pairs_bytes (catalogue_value number [])) → Some bytes ≡ Some x → length x ≤ 65535
catalogue_fits number bytes x e same =
    let long : length x ≡ length (frame_of (pairs_bytes (catalogue_value number []))) = ap length (sym (ap (λ (o : Option (List ℕ)). bytes_or o) same) ∙ e) in
    omega (arith, long, value_size number [] (omega arith) tt)
  where
    bytes_or : Option (List ℕ) → List ℕ
    bytes_or None = []
    bytes_or (Some y) = y

-- ---- as a tree takes them

has_room : (e : TreeEdit) → IsShortEdit (edit_in e) → HasRoom e
has_room e h = (
  h.0,
  λ b is.
      let short : length b.now ≤ 65535 = h.1 b.now (ap (λ (o : Option (Bor (List ℕ))). option_map (λ c. c.now) o) is) in omega (arith, short),
)

have_room : (es : List TreeEdit) → Each IsShortEdit (map edit_in es) → Each HasRoom es
have_room [] h = tt
have_room (e ∷ es) h = (has_room e h.0, have_room es h.1)

pub room_of : {E : Type 0} (r : Result (Vec TreeEdit) E) (es : List Edit) → Each IsShortEdit es → IfOk r (λ v. map edit_in v.items ≡ es)
    → IfOk r (λ v. Each HasRoom v.items)
room_of (Ok v) es h is = have_room v.items (subst (Each IsShortEdit) (sym is) h)
room_of (Err e) es h is = is

-- ---- handed over one after the other

shifted : (done : List TreeEdit) (e : TreeEdit) (rest : List Edit) → map edit_in (done ++ e ∷ []) ++ rest ≡ map edit_in done ++ edit_in e ∷ rest
shifted [] e rest = refl
shifted (d ∷ done) e rest = ap (λ (es : List Edit). edit_in d ∷ es) (shifted done e rest)

pub one_more : (done next : List TreeEdit) (e : TreeEdit) (n : Noted) (left rest : List Noted) (all : List Edit) → next ≡ done ++ e ∷ []
    → edit_in e ≡ edit_of n.0 n.1 → left ≡ n ∷ rest
    → map edit_in done ++ edits_in left ≡ all → map edit_in next ++ edits_in rest ≡ all
one_more done next e n left rest all grown is steps so =
    ap (λ (es : List TreeEdit). map edit_in es ++ edits_in rest) grown ∙ shifted done e (edits_in rest)
    ∙ ap (λ (x : Edit). map edit_in done ++ x ∷ edits_in rest) is
    ∙ sym (ap (λ (ns : List Noted). map edit_in done ++ edits_in ns) steps) ∙ so

pub all_there : (done : List TreeEdit) (left : List Noted) (all : List Edit) → left ≡ [] → map edit_in done ++ edits_in left ≡ all → map edit_in done ≡ all
all_there done left all none so = sym (append-nil (map edit_in done)) ∙ sym (ap (λ (ns : List Noted). map edit_in done ++ edits_in ns) none) ∙ so
