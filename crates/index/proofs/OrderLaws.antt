-- The order of encoded keys and of entries.
use Rattle.std.proofs.Common.{◌≡◌, ℕ, List, [], ◌∷◌, ◌++◌, refl, sym, ap, ◌∙◌, append-nil}
use Rattle.std.specs.Int.{w32, to_be_bytes}
use Rattle.std.specs.declared.cmp.Ordering.{Ordering}
use Rattle.std.specs.declared.cmp.Ordering.TheVariants.{Less, Equal, Greater}
use Rattle.std.specs.Ordering.{ordering_then, nat_cmp}
use Rattle.std.specs.Cmp.Lexicographic.{nat_list_cmp_total}
use Rattle.std.proofs.lemmas.Cmp.{nat_cmp_total, tied_itself}
use Rattle.std.proofs.lemmas.Map.Lookups.{exact_bytes, exact_unsigned}
use Rattle.value_order.specs.Laws.{IsKey}
use Rattle.value_order.specs.Order.{Key, value, bytes_cmp}
use Rattle.value_order.specs.KeyText.{tree_text, directed_text, directed_cmp}
use Rattle.key_order.specs.SortingLaws.{SortsAs, SortsAs-none, SortsAs-cell, SortsAs-is, SortsAs-append, order_of}
use Rattle.value_order.specs.declared.texts.Direction.{Direction}
use Rattle.value_order.specs.declared.texts.Direction.TheVariants as directions
use Rattle.value_order.proofs.KeyLaws.{texts_order, none_begins}
use Rattle.index.specs.Definition.{Field}
use Rattle.index.specs.KeyTexts.{key_bytes}
use Rattle.index.specs.Laws.{IsIndexKey, index_key_cmp, EntriesOrder, KeysAgree}

-- lists neither of which begins the other order in the same way whatever follows them
apart_sort : (a b : List ℕ) → ((x y : List ℕ) → a ++ x ≡ b ++ y → a ≡ b) → SortsAs nat_cmp a b (bytes_cmp a b)
apart_sort [] [] apart = SortsAs-none nat_cmp
apart_sort [] (n ∷ b) apart = absurd (let e : [] ≡ n ∷ b = apart (n ∷ b) [] (sym (append-nil (n ∷ b))) in cc)
apart_sort (m ∷ a) [] apart = absurd (let e : m ∷ a ≡ [] = apart [] (m ∷ a) (append-nil (m ∷ a)) in cc)
apart_sort (m ∷ a) (n ∷ b) apart =
    SortsAs-append nat_cmp (m ∷ []) (n ∷ []) a b (nat_cmp m n) (bytes_cmp a b) (SortsAs-cell nat_cmp m n)
    (λ tie. apart_sort a b (λ x y e. tail (apart x y (λ i. exact_unsigned m n tie i ∷ e i))))
  where
    tail : m ∷ a ≡ n ∷ b → a ≡ b
    tail e = cc

text_sorts : (way : Direction) (a b : Key) → IsKey a → IsKey b → SortsAs nat_cmp (directed_text way a) (directed_text way b) (directed_cmp way a b)
text_sorts way a b g h =
    SortsAs-is nat_cmp _ _ _ _ (texts_order way a b g h) (apart_sort (directed_text way a) (directed_text way b) (λ x y e. (none_begins way a b x y g h e).0))

keys_sort : (fs : List Field) (ks ls : List Key) → IsIndexKey fs ks → IsIndexKey fs ls
    → SortsAs nat_cmp (key_bytes fs ks) (key_bytes fs ls) (index_key_cmp fs ks ls)
keys_sort [] [] [] g h = SortsAs-none nat_cmp
keys_sort [] [] (b ∷ ls) g h = absurd h
keys_sort [] (a ∷ ks) ls g h = absurd g
keys_sort (f ∷ fs) [] ls g h = absurd g
keys_sort (f ∷ fs) (a ∷ ks) [] g h = absurd h
keys_sort (f ∷ fs) (a ∷ ks) (b ∷ ls) g h =
    SortsAs-append nat_cmp (directed_text f.direction a) (directed_text f.direction b) (key_bytes fs ks) (key_bytes fs ls) _ _
    (text_sorts f.direction a b g.0 h.0) (λ _. keys_sort fs ks ls g.1 h.1)

-- what begins alike orders as what follows does
same_front : (p x y : List ℕ) → bytes_cmp (p ++ x) (p ++ y) ≡ bytes_cmp x y
same_front [] x y = refl
same_front (b ∷ p) x y = ap (λ (o : Ordering). ordering_then o (bytes_cmp (p ++ x) (p ++ y))) (tied_itself nat_cmp_total b) ∙ same_front p x y

pub entries_order : EntriesOrder
entries_order c i fs ks ls t u g h gt hu =
    let a = key_bytes fs ks in
    let b = key_bytes fs ls in
    same_front (to_be_bytes w32 c) (to_be_bytes w32 i ++ (a ++ tree_text t)) (to_be_bytes w32 i ++ (b ++ tree_text u))
    ∙ same_front (to_be_bytes w32 i) (a ++ tree_text t) (b ++ tree_text u)
    ∙ (keys_sort fs ks ls g h).decides (tree_text t) (tree_text u)
    ∙ ap (ordering_then (index_key_cmp fs ks ls)) (texts_order directions.Ascending (value t) (value u) gt hu)

-- ---- equal keys

keys_order : (fs : List Field) (ks ls : List Key) → IsIndexKey fs ks → IsIndexKey fs ls → bytes_cmp (key_bytes fs ks) (key_bytes fs ls) ≡ index_key_cmp fs ks ls
keys_order fs ks ls g h = order_of nat_cmp (key_bytes fs ks) (key_bytes fs ls) (index_key_cmp fs ks ls) (keys_sort fs ks ls g h)

same_cmp : (a b : List ℕ) → a ≡ b → bytes_cmp a b ≡ Equal
same_cmp a b e = ap (bytes_cmp a) (sym e) ∙ tied_itself nat_list_cmp_total a

first_equal : (c o : Ordering) → ordering_then c o ≡ Equal → c ≡ Equal
first_equal Less o e = absurd cc
first_equal Equal o e = refl
first_equal Greater o e = absurd cc

pub keys_agree : KeysAgree
keys_agree fs ks ls x y g h =
    let a = key_bytes fs ks in
    let b = key_bytes fs ls in (
      (λ e. sym (keys_order fs ks ls g h) ∙ same_cmp a b e, λ e. exact_bytes a b (keys_order fs ks ls g h ∙ e)),
      λ e. exact_bytes a b (keys_order fs ks ls g h
          ∙ first_equal (index_key_cmp fs ks ls) (bytes_cmp x y) (sym ((keys_sort fs ks ls g h).decides x y) ∙ same_cmp (a ++ x) (b ++ y) e)),
    )
