-- The combinations of the fields' texts are the texts of the keys.
use Rattle.std.proofs.Common.{◌≡◌, ℕ, List, [], ◌∷◌, ◌++◌, map, refl, sym, ap, ◌∙◌, append-nil}
use Rattle.std.specs.List.{flat_map}
use Rattle.std.proofs.lemmas.List.{map-append}
use Rattle.bson.specs.Tree.{Pairs}
use Rattle.value_order.specs.Order.{Key}
use Rattle.value_order.specs.KeyText.{directed_text}
use Rattle.index.specs.Definition.{Field}
use Rattle.index.specs.IndexKeys.{field_keys, index_keys}
use Rattle.index.specs.KeyTexts.{key_bytes}
use Rattle.std.specs.Global.{Vec}
use Rattle.index.specs.View.{texts_of}
use Rattle.index.specs.Steps.{extended, combined}
use Rattle.index.proofs.LengthLemmas.{field_texts, all_texts}

-- the keys that begin with one value
behind_one : (f : Field) (fs : List Field) (k : Key) (is : List (List Key))
    → map (λ text. directed_text f.direction k ++ text) (map (key_bytes fs) is) ≡ map (key_bytes (f ∷ fs)) (map (λ ks. k ∷ ks) is)
behind_one f fs k [] = refl
behind_one f fs k (ks ∷ is) = ap (λ (rest : List (List ℕ)). (directed_text f.direction k ++ key_bytes fs ks) ∷ rest) (behind_one f fs k is)

behind_each : (f : Field) (fs : List Field) (ks : List Key) (is : List (List Key))
    → extended (map (directed_text f.direction) ks) (map (key_bytes fs) is) ≡ map (key_bytes (f ∷ fs)) (flat_map (λ k. map (λ rest. k ∷ rest) is) ks)
behind_each f fs [] is = refl
behind_each f fs (k ∷ ks) is =
    (λ i. behind_one f fs k is i ++ behind_each f fs ks is i)
    ∙ sym (map-append (key_bytes (f ∷ fs)) (map (λ rest. k ∷ rest) is) (flat_map (λ l. map (λ rest. l ∷ rest) is) ks))

pub combined_is : (fs : List Field) (ps : Pairs) → combined (all_texts fs ps) ([] ∷ []) ≡ map (key_bytes fs) (index_keys fs ps)
combined_is [] ps = refl
combined_is (f ∷ fs) ps =
    ap (extended (field_texts f ps)) (combined_is fs ps) ∙ behind_each f fs (field_keys f.path ps) (index_keys fs ps)

-- ---- from the last list on

pub combined-last : (all : List (List (List ℕ))) (texts ends : List (List ℕ)) → combined (all ++ texts ∷ []) ends ≡ combined all (extended texts ends)
combined-last [] texts ends = refl
combined-last (ts ∷ all) texts ends = ap (extended ts) (combined-last all texts ends)

pub extended-nothing : (texts : List (List ℕ)) → extended texts ([] ∷ []) ≡ texts
extended-nothing [] = refl
extended-nothing (t ∷ ts) = λ i. append-nil t i ∷ extended-nothing ts i

-- the last list is taken off
pub popped : (all rest : List (Vec (Vec ℕ))) (v : Vec (Vec ℕ)) (ends : List (List ℕ)) → all ≡ rest ++ v ∷ []
    → combined (map (λ texts. texts_of texts.items) all) ends ≡ combined (map (λ texts. texts_of texts.items) rest) (extended (texts_of v.items) ends)
popped all rest v ends is =
    ap (λ (vs : List (Vec (Vec ℕ))). combined (map (λ texts. texts_of texts.items) vs) ends) is
    ∙ ap (λ (tss : List (List (List ℕ))). combined tss ends) (map-append (λ (w : Vec (Vec ℕ)). texts_of w.items) rest (v ∷ []))
    ∙ combined-last (map (λ texts. texts_of texts.items) rest) (texts_of v.items) ends
