-- A map after edits, in parts.
use Rattle.std.proofs.Common.{◌≡◌, ℕ, List, [], ◌∷◌, ◌++◌, true, false, refl, sym, ap, ◌∙◌, append_assoc, append-nil}
use Rattle.std.specs.Ordering.{is_lt}
use Rattle.tree_model.specs.Keys.{Entry, Edit, Each, IsUnder, IsNotUnder, key_cmp, keep_if, before, behind, entries_at, edit_map, change}
use Rattle.tree_model.proofs.KeyLemmas.{not_both}
use Rattle.tree_model.proofs.ListLemmas.{each_map}
use Rattle.btree.proofs.ScanLemmas.{not_less}

before_append : (key : List ℕ) (xs ys : List Entry) → before key (xs ++ ys) ≡ before key xs ++ before key ys
before_append key [] ys = refl
before_append key (x ∷ xs) ys =
    elim (is_lt (key_cmp x.key key)) as (λ b. keep_if b x (before key (xs ++ ys)) ≡ keep_if b x (before key xs) ++ before key ys)
    [ true ↦ ap (λ zs. x ∷ zs) (before_append key xs ys) | false ↦ before_append key xs ys ]

behind_append : (key : List ℕ) (xs ys : List Entry) → behind key (xs ++ ys) ≡ behind key xs ++ behind key ys
behind_append key [] ys = refl
behind_append key (x ∷ xs) ys =
    elim (is_lt (key_cmp key x.key)) as (λ b. keep_if b x (behind key (xs ++ ys)) ≡ keep_if b x (behind key xs) ++ behind key ys)
    [ true ↦ ap (λ zs. x ∷ zs) (behind_append key xs ys) | false ↦ behind_append key xs ys ]

pub before_under : (key : List ℕ) (xs : List Entry) → Each (λ x. IsUnder x.key key) xs → before key xs ≡ xs
before_under key [] h = refl
before_under key (x ∷ xs) h = ap (λ r. keep_if (is_lt r) x (before key xs)) h.0 ∙ ap (λ zs. x ∷ zs) (before_under key xs h.1)

pub before_over : (key : List ℕ) (xs : List Entry) → Each (λ x. IsNotUnder x.key key) xs → before key xs ≡ []
before_over key [] h = refl
before_over key (x ∷ xs) h = ap (λ b. keep_if b x (before key xs)) (not_less x.key key h.0) ∙ before_over key xs h.1

pub behind_over : (key : List ℕ) (xs : List Entry) → Each (λ x. IsUnder key x.key) xs → behind key xs ≡ xs
behind_over key [] h = refl
behind_over key (x ∷ xs) h = ap (λ r. keep_if (is_lt r) x (behind key xs)) h.0 ∙ ap (λ zs. x ∷ zs) (behind_over key xs h.1)

pub behind_under : (key : List ℕ) (xs : List Entry) → Each (λ x. IsNotUnder key x.key) xs → behind key xs ≡ []
behind_under key [] h = refl
behind_under key (x ∷ xs) h = ap (λ b. keep_if b x (behind key xs)) (not_less key x.key h.0) ∙ behind_under key xs h.1

-- what lies below the key of an edit stays before, and what lies above it stays behind
pub edit_between : (e : Edit) (xs ys zs : List Entry) → Each (λ y. IsUnder y.key e.key) xs → Each (λ y. IsUnder e.key y.key) zs
    → edit_map e (xs ++ (ys ++ zs)) ≡ xs ++ (edit_map e ys ++ zs)
edit_between e xs ys zs h g =
    let new : List Entry = entries_at e.key e.value in
    let b1 : before e.key (xs ++ (ys ++ zs)) ≡ xs ++ before e.key ys =
    before_append e.key xs (ys ++ zs) ∙ ap (λ ps. ps ++ before e.key (ys ++ zs)) (before_under e.key xs h)
    ∙ ap (λ ps. xs ++ ps) (before_append e.key ys zs
    ∙ ap (λ ps. before e.key ys ++ ps) (before_over e.key zs (each_map _ _ (λ y u. not_both e.key y.key u) zs g)) ∙ append-nil (before e.key ys)) in
    let b2 : behind e.key (xs ++ (ys ++ zs)) ≡ behind e.key ys ++ zs =
    behind_append e.key xs (ys ++ zs) ∙ ap (λ ps. ps ++ behind e.key (ys ++ zs)) (behind_under e.key xs (each_map _ _ (λ y u. not_both y.key e.key u) xs h))
    ∙ behind_append e.key ys zs ∙ ap (λ ps. behind e.key ys ++ ps) (behind_over e.key zs g) in
    ap (λ ps. ps ++ (new ++ behind e.key (xs ++ (ys ++ zs)))) b1 ∙ ap (λ ps. (xs ++ before e.key ys) ++ (new ++ ps)) b2
    ∙ ap (λ ps. (xs ++ before e.key ys) ++ ps) (sym (append_assoc new (behind e.key ys) zs))
    ∙ append_assoc xs (before e.key ys) ((new ++ behind e.key ys) ++ zs)
    ∙ ap (λ ps. xs ++ ps) (sym (append_assoc (before e.key ys) (new ++ behind e.key ys) zs))

-- the same for edits that all lie between
pub change_between : (es : List Edit) (xs ys zs : List Entry) → Each (λ e. Each (λ y. IsUnder y.key e.key) xs) es
    → Each (λ e. Each (λ y. IsUnder e.key y.key) zs) es
    → change es (xs ++ (ys ++ zs)) ≡ xs ++ (change es ys ++ zs)
change_between [] xs ys zs h g = refl
change_between (e ∷ es) xs ys zs h g = ap (change es) (edit_between e xs ys zs h.0 g.0) ∙ change_between es xs (edit_map e ys) zs h.1 g.1

-- edits one list after the other
pub change_append : (es fs : List Edit) (xs : List Entry) → change (es ++ fs) xs ≡ change fs (change es xs)
change_append [] fs xs = refl
change_append (e ∷ es) fs xs = change_append es fs (edit_map e xs)
