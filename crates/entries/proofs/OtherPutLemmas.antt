-- A walk through the noted edits from a front on.
use Rattle.std.proofs.Common.{◌≡◌, ℕ, Bool, true, false, not, ◌&&◌, ◌||◌, List, [], ◌∷◌, Option, Some, None, refl, sym, ap, ◌∙◌}
use Rattle.std.specs.Prelude.{cond, is_some, nat_eq}
use Rattle.std.specs.Global.{Vec}
use Rattle.std.specs.List.{filter, starts_with}
use Rattle.std.specs.Option.{option_map}
use Rattle.std.specs.Ordering.{is_le, is_lt, ordering_reverse}
use Rattle.std.specs.declared.cmp.Ordering.{Ordering}
use Rattle.std.specs.declared.cmp.Ordering.TheVariants.{Less, Equal, Greater}
use Rattle.tree_model.specs.Keys.{edit_keys}
use Rattle.tree_model.specs.Keys.{Each, Rises, key_cmp}
use Rattle.entries.specs.EditList.{Noted, edit_of, edits_in}
use Rattle.entries.specs.OtherKeys.{is_another, puts_another}
use Rattle.entries.proofs.EditLemmas.{turned}
use Rattle.entries.proofs.FrontLemmas.{another_told, starts_there}
use Rattle.entries.proofs.OtherEditLaws.{below_front, none_behind}

value_same : (o : Option (Vec ℕ)) → is_some (option_map (λ v. v.items) o) ≡ is_some o
value_same None = refl
value_same (Some v) = refl

-- ---- some of them

module _ (p : Noted → Bool) where
  each_kept : (P : List ℕ → Type 0) (es : List Noted) → Each P (edit_keys (edits_in es)) → Each P (edit_keys (edits_in (filter p es)))
  each_kept P [] h = tt
  each_kept P (e ∷ es) h = by (p e) (each_kept P es h.1)
    where
      by : (b : Bool) → Each P (edit_keys (edits_in (filter p es))) → Each P (edit_keys (edits_in (cond b (e ∷ filter p es) (filter p es))))
      by true later = (h.0, later)
      by false later = later

  pub rises_kept : (es : List Noted) → Rises (edit_keys (edits_in es)) → Rises (edit_keys (edits_in (filter p es)))
  rises_kept [] h = tt
  rises_kept (e ∷ es) h = by (p e) (rises_kept es h.1)
    where
      by : (b : Bool) → Rises (edit_keys (edits_in (filter p es))) → Rises (edit_keys (edits_in (cond b (e ∷ filter p es) (filter p es))))
      by true later = (each_kept _ es h.0, later)
      by false later = later

-- ---- from a front on

-- as a range of the map says it
abbrev pub from_front : List ℕ → Noted → Bool
from_front front e = is_le (key_cmp front e.0.items) && not false

abbrev pub AreAbove : List ℕ → List Noted → Type 0
AreAbove front es = Each (λ e. is_lt (key_cmp e.0.items front) ≡ false) es

pub above_kept : (front : List ℕ) (es : List Noted) → AreAbove front (filter (from_front front) es)
above_kept front [] = tt
above_kept front (e ∷ es) = by (key_cmp front e.0.items) (turned e.0.items front) (above_kept front es)
  where
    by : (o : Ordering) → key_cmp e.0.items front ≡ ordering_reverse o → AreAbove front (filter (from_front front) es)
        → AreAbove front (cond (is_le o && not false) (e ∷ filter (from_front front) es) (filter (from_front front) es))
    by Less is later = (ap is_lt is, later)
    by Equal is later = (ap is_lt is, later)
    by Greater is later = later

module _ (front id : List ℕ) where
  abbrev Puts : List Noted → Bool
  Puts es = puts_another front id (edits_in es)

  abbrev it_puts : Noted → Bool
  it_puts e = is_some e.1 && is_another front id e.0.items

  pub skipped : (es : List Noted) → Puts (filter (from_front front) es) ≡ Puts es
  skipped [] = refl
  skipped (e ∷ es) = by (key_cmp front e.0.items) (turned e.0.items front) (skipped es)
    where
      first : Bool
      first = is_some (edit_of e.0 e.1).value && is_another front id e.0.items

      by : (o : Ordering) → key_cmp e.0.items front ≡ ordering_reverse o → Puts (filter (from_front front) es) ≡ Puts es
          → Puts (cond (is_le o && not false) (e ∷ filter (from_front front) es) (filter (from_front front) es)) ≡ Puts (e ∷ es)
      by Less is later = ap (λ (b : Bool). first || b) later
      by Equal is later = ap (λ (b : Bool). first || b) later
      by Greater is later = later ∙ sym (ap (λ (b : Bool). b || Puts es) (below_front front id (edit_of e.0 e.1) (ap is_lt is)))

  -- ---- one after the other

  at_first : (e : Noted) (es : List Noted) → Puts (e ∷ es) ≡ (it_puts e || Puts es)
  at_first e es = ap (λ (b : Bool). (b && is_another front id e.0.items) || Puts es) (value_same e.1)

  pub on_place : (e : Noted) (es : List Noted) (all : Bool) → it_puts e ≡ false → Puts (e ∷ es) ≡ all → Puts es ≡ all
  on_place e es all none so = sym (at_first e es ∙ ap (λ (b : Bool). b || Puts es) none) ∙ so

  pub found_place : (e : Noted) (es : List Noted) (all : Bool) → it_puts e ≡ true → Puts (e ∷ es) ≡ all → true ≡ all
  found_place e es all found so = sym (at_first e es ∙ ap (λ (b : Bool). b || Puts es) found) ∙ so

  not_front : (key : List ℕ) → starts_with nat_eq key front ≡ false → is_another front id key ≡ false
  not_front key none = by (is_another front id key) refl
    where
      by : (b : Bool) → is_another front id key ≡ b → is_another front id key ≡ false
      by false e = e
      by true e =
          let there = another_told front id key e in
          absurd (let f : true ≡ false = sym (starts_there front there.rest) ∙ ap (λ (k : List ℕ). starts_with nat_eq k front) (sym there.is) ∙ none in cc)

  and_false : (a b : Bool) → b ≡ false → (a && b) ≡ false
  and_false true b e = e
  and_false false b e = refl

  pub past_front : (e : Noted) (es : List Noted) (all : Bool) → Rises (edit_keys (edits_in (e ∷ es))) → AreAbove front (e ∷ es)
      → starts_with nat_eq e.0.items front ≡ false → Puts (e ∷ es) ≡ all → false ≡ all
  past_front e es all h above other so =
      let none = none_behind front id e.0.items (edits_in es) h.0 above.0 other in
      sym (at_first e es ∙ (λ t. and_false (is_some e.1) (is_another front id e.0.items) (not_front e.0.items other) t || none t)) ∙ so
