-- What is taken away may be taken away in any order.
use Rattle.std.proofs.Common.{◌≡◌, ◌≢◌, ◌<◌, ℕ, zero, suc, Bool, true, false, List, [], ◌∷◌, length, map, Option, Some, None, Ok}
use Rattle.std.proofs.Common.{get_or, set as put_in, refl, sym, ap, subst, ◌∙◌, arith, ◌⊎◌, inl, inr}
use Rattle.std.specs.Prelude.{if◌then◌else◌, ◌&&◌, ◌||◌, not}
use Rattle.std.specs.List.{list_all, list_any, swap}
use Rattle.std.specs.List.Sorted.{IsPermutation}
use Rattle.std.specs.Option.{option_and_then, unwrap_or}
use Rattle.std.specs.Str.{bytes_eq}
use Rattle.std.proofs.lemmas.List.Sorted.{IsPermutation-keeps, IsPermutation-map, list_any-IsPermutation}
use Rattle.std.proofs.lemmas.Slice.Eq.{bytes_eq-Decides}
use Rattle.bson.specs.Edits.{item_at, with_item, put, cut}
use Rattle.bson.specs.EditPlaces.{with_item-twice, item_at-with_item, IsItems-with_item}
use Rattle.bson.specs.EditsLaws.{lookup-put, lookup-cut, IsPairs-put, IsPairs-cut}
use Rattle.bson.specs.Lawful.{IsName, IsTree, IsPairs, IsItems}
use Rattle.bson.specs.Lookup.{lookup}
use Rattle.bson.specs.Tree.{Tree, scalar, null, document, array, Pairs, no_pairs, pair, Items, no_items, item}
use Rattle.path.specs.Edits.{put_or_cut, cut_found, cut_field, with_found, cut_item, cut_off, cut_at}
use Rattle.path.specs.Parts.{index_of}
use Rattle.update_model.specs.Applying.{apply_edits}
use Rattle.update.specs.Unsets.{takes_away, is_unset, cut_all}
use Rattle.update_model.specs.Update.{Path, Action, set, unset, increment, at_most, at_least, push, pull, rename, Edit}
use Rattle.update.specs.View.{edit_of}
use Rattle.update.specs.declared.edit.Edit.{Edit as Change}
use Rattle.update.proofs.InsideLemmas.{put_twice, item_near, IsTree-found, IsTree-item}
use Rattle.update.proofs.UnsetLemmas.{cut_other, and_true}

-- ---- two fields

cut_put : (ps : Pairs) (name : List ℕ) (t : Tree) → cut (put ps name t) name ≡ cut ps name
cut_put no_pairs name t = ap (λ (b : Bool). if b then no_pairs else pair name t no_pairs) ((bytes_eq-Decides name name).1 refl)
cut_put (pair n v ps) name t = by (bytes_eq name n) refl (cut_put ps name t)
  where
    by : (b : Bool) → bytes_eq name n ≡ b → cut (put ps name t) name ≡ cut ps name
        → cut (if b then pair n t ps else pair n v (put ps name t)) name ≡ (if b then ps else pair n v (cut ps name))
    by true e later = ap (λ (c : Bool). if c then ps else pair n t (cut ps name)) e
    by false e later = ap (λ (c : Bool). if c then put ps name t else pair n v (cut (put ps name t) name)) e ∙ ap (pair n v) later

-- with what is left of a pair before the others
abbrev before_with : List ℕ → Option Tree → Pairs → Pairs
before_with k None qs = qs
before_with k (Some w) qs = pair k w qs

module _ (f g : Tree → Option Tree) where
  -- of one name
  field_twice : (name : List ℕ) (ps : Pairs) → IsPairs ps → cut_field f name (cut_field g name ps) ≡ cut_field (λ t. option_and_then f (g t)) name ps
  field_twice name ps h = by (lookup ps name) refl
    where
      again : (u w : Tree) → (o : Option Tree) → f w ≡ o → cut_found f name (put ps name w) (Some w) ≡ put_or_cut name ps o
      again u w None e = ap (put_or_cut name (put ps name w)) e ∙ cut_put ps name w
      again u w (Some x) e = ap (put_or_cut name (put ps name w)) e ∙ put_twice ps name w x

      there : (u : Tree) (o : Option Tree) → g u ≡ o
          → cut_field f name (put_or_cut name ps o) ≡ put_or_cut name ps (option_and_then f o)
      there u None e = ap (cut_found f name (cut ps name)) (lookup-cut ps name h)
      there u (Some w) e = ap (cut_found f name (put ps name w)) (lookup-put ps name w) ∙ again u w (f w) refl

      by : (o : Option Tree) → lookup ps name ≡ o → cut_field f name (cut_found g name ps o) ≡ cut_found (λ t. option_and_then f (g t)) name ps o
      by None e = ap (cut_found f name ps) e
      by (Some u) e = there u (g u) refl

  -- of two names
  field_apart : (n m : List ℕ) → n ≢ m → (ps : Pairs) → cut_field f n (cut_field g m ps) ≡ cut_field g m (cut_field f n ps)
  field_apart n m apart no_pairs = refl
  field_apart n m apart (pair k t ps) = by (bytes_eq n k) refl (bytes_eq m k) refl (field_apart n m apart ps)
    where
      first : (left : Tree → Option Tree) (name : List ℕ) (qs : Pairs) → bytes_eq name k ≡ true
          → cut_field left name (pair k t qs) ≡ put_or_cut name (pair k t qs) (left t)
      first left name qs e = ap (λ (b : Bool). cut_found left name (pair k t qs) (if b then Some t else lookup qs name)) e

      kept : (name : List ℕ) (qs : Pairs) (o : Option Tree) → bytes_eq name k ≡ true → put_or_cut name (pair k t qs) o ≡ before_with k o qs
      kept name qs None e = ap (λ (b : Bool). if b then qs else pair k t (cut qs name)) e
      kept name qs (Some w) e = ap (λ (b : Bool). if b then pair k w qs else pair k t (put qs name w)) e

      behind : (left : Tree → Option Tree) (name : List ℕ) (qs : Pairs) (o : Option Tree) → bytes_eq name k ≡ false
          → cut_field left name (before_with k o qs) ≡ before_with k o (cut_field left name qs)
      behind left name qs None e = refl
      behind left name qs (Some w) e = cut_other left name k w qs e

      by : (a : Bool) → bytes_eq n k ≡ a → (b : Bool) → bytes_eq m k ≡ b → cut_field f n (cut_field g m ps) ≡ cut_field g m (cut_field f n ps)
          → cut_field f n (cut_field g m (pair k t ps)) ≡ cut_field g m (cut_field f n (pair k t ps))
      by true a true b later = absurd (apart ((bytes_eq-Decides n k).0 a ∙ sym ((bytes_eq-Decides m k).0 b)))
      by false a false b later =
          ap (cut_field f n) (cut_other g m k t ps b) ∙ cut_other f n k t (cut_field g m ps) a
          ∙ ap (pair k t) later
          ∙ sym (ap (cut_field g m) (cut_other f n k t ps a) ∙ cut_other g m k t (cut_field f n ps) b)
      by false a true b later =
          ap (cut_field f n) (first g m ps b ∙ kept m ps (g t) b) ∙ behind f n ps (g t) a
          ∙ sym (ap (cut_field g m) (cut_other f n k t ps a) ∙ first g m (cut_field f n ps) b ∙ kept m (cut_field f n ps) (g t) b)
      by true a false b later =
          ap (cut_field f n) (cut_other g m k t ps b) ∙ first f n (cut_field g m ps) a ∙ kept n (cut_field g m ps) (f t) a
          ∙ sym (ap (cut_field g m) (first f n ps a ∙ kept n ps (f t) a) ∙ behind g m ps (f t) b)

-- ---- two elements

with_item-apart : (ts : Items) (i j : ℕ) (t u : Tree) → (i ≡ j → ⊥) → with_item (with_item ts i t) j u ≡ with_item (with_item ts j u) i t
with_item-apart no_items i j t u apart = refl
with_item-apart (item v ts) zero zero t u apart = absurd (apart refl)
with_item-apart (item v ts) zero (suc j) t u apart = refl
with_item-apart (item v ts) (suc i) zero t u apart = refl
with_item-apart (item v ts) (suc i) (suc j) t u apart = ap (item v) (with_item-apart ts i j t u (λ e. apart (ap suc e)))

item_at-apart : (ts : Items) (i j : ℕ) (t : Tree) → (i ≡ j → ⊥) → item_at (with_item ts i t) j ≡ item_at ts j
item_at-apart no_items i j t apart = refl
item_at-apart (item v ts) zero zero t apart = absurd (apart refl)
item_at-apart (item v ts) zero (suc j) t apart = refl
item_at-apart (item v ts) (suc i) zero t apart = refl
item_at-apart (item v ts) (suc i) (suc j) t apart = item_at-apart ts i j t (λ e. apart (ap suc e))

which : (i j : ℕ) → (i ≡ j) ⊎ (i ≡ j → ⊥)
which zero zero = inl refl
which zero (suc j) = inr (λ e. absurd cc)
which (suc i) zero = inr (λ e. absurd cc)
which (suc i) (suc j) = by (which i j)
  where
    by : (i ≡ j) ⊎ (i ≡ j → ⊥) → (suc i ≡ suc j) ⊎ (suc i ≡ suc j → ⊥)
    by (inl e) = inl (ap suc e)
    by (inr apart) = inr (λ e. apart (cc e))

abbrev or_null : Option Tree → Tree
or_null o = unwrap_or o (scalar null)

abbrev Commute : (Tree → Option Tree) → (Tree → Option Tree) → Tree → Type 0
Commute f g u = option_and_then f (g u) ≡ option_and_then g (f u)

-- what leaves a null where nothing is left leaves a null there again
module _ (f g : Tree → Option Tree) (f_null : or_null (f (scalar null)) ≡ scalar null) where
  null_twice : (o : Option Tree) → or_null (f (or_null o)) ≡ or_null (option_and_then f o)
  null_twice None = f_null
  null_twice (Some w) = refl

module _ (f g : Tree → Option Tree) (f_null : or_null (f (scalar null)) ≡ scalar null) (g_null : or_null (g (scalar null)) ≡ scalar null) (ts : Items)
    (both : (i : ℕ) (u : Tree) → item_at ts i ≡ Some u → Commute f g u) where
  -- of one index
  item_twice : (i : ℕ) (u : Tree) → item_at ts i ≡ Some u → cut_item f (Some i) (cut_item g (Some i) ts) ≡ with_item ts i (or_null (option_and_then f (g u)))
  item_twice i u e =
      ap (λ (o : Option Tree). cut_item f (Some i) (with_found g i ts o)) e
      ∙ ap (with_found f i (with_item ts i (or_null (g u)))) (item_at-with_item ts i (or_null (g u)) (item_near ts i u e))
      ∙ with_item-twice ts i (or_null (g u)) (or_null (f (or_null (g u))))
      ∙ ap (with_item ts i) (null_twice f g f_null (g u))

items_commute : (f g : Tree → Option Tree) → or_null (f (scalar null)) ≡ scalar null → or_null (g (scalar null)) ≡ scalar null → (ts : Items)
    → ((i : ℕ) (u : Tree) → item_at ts i ≡ Some u → Commute f g u) → (o p : Option ℕ)
    → cut_item f o (cut_item g p ts) ≡ cut_item g p (cut_item f o ts)
items_commute f g f_null g_null ts both None p = refl
items_commute f g f_null g_null ts both (Some i) None = refl
items_commute f g f_null g_null ts both (Some i) (Some j) = by (which i j)
  where
    same_one : (o : Option Tree) → item_at ts i ≡ o → cut_item f (Some i) (cut_item g (Some i) ts) ≡ cut_item g (Some i) (cut_item f (Some i) ts)
    same_one None e =
        ap (λ (x : Option Tree). cut_item f (Some i) (with_found g i ts x)) e ∙ ap (with_found f i ts) e
        ∙ sym (ap (λ (x : Option Tree). cut_item g (Some i) (with_found f i ts x)) e ∙ ap (with_found g i ts) e)
    same_one (Some u) e =
        item_twice f g f_null g_null ts both i u e ∙ ap (λ (o : Option Tree). with_item ts i (or_null o)) (both i u e)
        ∙ sym (item_twice g f g_null f_null ts (λ k v is. sym (both k v is)) i u e)

    far : (i ≡ j → ⊥) → (o : Option Tree) → item_at ts i ≡ o → (x : Option Tree) → item_at ts j ≡ x
        → with_found f i (with_found g j ts x) (item_at (with_found g j ts x) i) ≡ with_found g j (with_found f i ts o) (item_at (with_found f i ts o) j)
    far apart None e None k = ap (with_found f i ts) e ∙ sym (ap (with_found g j ts) k)
    far apart None e (Some v) k =
        ap (with_found f i (with_item ts j (or_null (g v)))) (item_at-apart ts j i (or_null (g v)) (λ s. apart (sym s)) ∙ e)
        ∙ sym (ap (with_found g j ts) k)
    far apart (Some u) e None k =
        ap (with_found f i ts) e
        ∙ sym (ap (with_found g j (with_item ts i (or_null (f u)))) (item_at-apart ts i j (or_null (f u)) apart ∙ k))
    far apart (Some u) e (Some v) k =
        ap (with_found f i (with_item ts j (or_null (g v)))) (item_at-apart ts j i (or_null (g v)) (λ s. apart (sym s)) ∙ e)
        ∙ with_item-apart ts j i (or_null (g v)) (or_null (f u)) (λ s. apart (sym s))
        ∙ sym (ap (with_found g j (with_item ts i (or_null (f u)))) (item_at-apart ts i j (or_null (f u)) apart ∙ k))

    by : (i ≡ j) ⊎ (i ≡ j → ⊥) → cut_item f (Some i) (cut_item g (Some j) ts) ≡ cut_item g (Some j) (cut_item f (Some i) ts)
    by (inl e) =
        subst (λ (k : ℕ). cut_item f (Some i) (cut_item g (Some k) ts) ≡ cut_item g (Some k) (cut_item f (Some i) ts)) e (same_one (item_at ts i) refl)
    by (inr apart) =
        far apart (item_at ts i) refl (item_at ts j) refl

-- ---- two fields again

fields_commute : (f g : Tree → Option Tree) (n m : List ℕ) (ps : Pairs) → IsPairs ps → ((u : Tree) → IsTree u → Commute f g u)
    → cut_field f n (cut_field g m ps) ≡ cut_field g m (cut_field f n ps)
fields_commute f g n m ps h both = by (bytes_eq n m) refl
  where
    found : (o : Option Tree) → lookup ps n ≡ o → cut_found (λ t. option_and_then f (g t)) n ps o ≡ cut_found (λ t. option_and_then g (f t)) n ps o
    found None e = refl
    found (Some u) e = ap (put_or_cut n ps) (both u (IsTree-found ps n u h e))

    by : (b : Bool) → bytes_eq n m ≡ b → cut_field f n (cut_field g m ps) ≡ cut_field g m (cut_field f n ps)
    by true e =
        subst (λ (k : List ℕ). cut_field f n (cut_field g k ps) ≡ cut_field g k (cut_field f n ps)) ((bytes_eq-Decides n m).0 e)
        (field_twice f g n ps h ∙ found (lookup ps n) refl ∙ sym (field_twice g f n ps h))
    by false e = field_apart f g n m (λ same. let no = sym e ∙ (bytes_eq-Decides n m).1 same in absurd cc) ps

-- ---- two paths

off_null : (path : Path) → or_null (cut_off path (scalar null)) ≡ scalar null
off_null [] = refl
off_null (name ∷ rest) = refl

gone_first : (path : Path) (t : Tree) → option_and_then (cut_off []) (cut_off path t) ≡ None
gone_first [] t = refl
gone_first (name ∷ rest) (scalar s) = refl
gone_first (name ∷ rest) (document ps) = refl
gone_first (name ∷ rest) (array ts) = refl

off_commute : (p q : Path) (t : Tree) → IsTree t → Commute (cut_off p) (cut_off q) t
off_commute [] q t h = gone_first q t
off_commute (n ∷ p) [] t h = sym (gone_first (n ∷ p) t)
off_commute (n ∷ p) (m ∷ q) (scalar s) h = refl
off_commute (n ∷ p) (m ∷ q) (document ps) h =
    ap (λ (qs : Pairs). Some (document qs)) (fields_commute (cut_off p) (cut_off q) n m ps h (λ u k. off_commute p q u k))
off_commute (n ∷ p) (m ∷ q) (array ts) h =
    ap (λ (us : Items). Some (array us)) (items_commute (cut_off p) (cut_off q) (off_null p) (off_null q) ts
    (λ i u e. off_commute p q u (IsTree-item ts i u h e)) (index_of n) (index_of m))

pub cut_commute : (p q : Path) (ps : Pairs) → IsPairs ps → cut_at p (cut_at q ps) ≡ cut_at q (cut_at p ps)
cut_commute [] q ps h = refl
cut_commute (n ∷ p) [] ps h = refl
cut_commute (n ∷ p) (m ∷ q) ps h = fields_commute (cut_off p) (cut_off q) n m ps h (λ u k. off_commute p q u k)

-- ---- what is left is a document

IsName-found : (ps : Pairs) (name : List ℕ) (t : Tree) → IsPairs ps → lookup ps name ≡ Some t → IsName name
IsName-found no_pairs name t h e = absurd cc
IsName-found (pair n u ps) name t h e = by (bytes_eq name n) refl e (IsName-found ps name t h.3)
  where
    by : (b : Bool) → bytes_eq name n ≡ b → (if b then Some u else lookup ps name) ≡ Some t → (lookup ps name ≡ Some t → IsName name) → IsName name
    by true is e later = subst IsName (sym ((bytes_eq-Decides name n).0 is)) h.0
    by false is e later = later e

abbrev Keeps : (Tree → Option Tree) → Type 0
Keeps f = (u w : Tree) → IsTree u → f u ≡ Some w → IsTree w

field_lawful : (f : Tree → Option Tree) → Keeps f → (name : List ℕ) (ps : Pairs) → IsPairs ps → IsPairs (cut_field f name ps)
field_lawful f keeps name ps h = by (lookup ps name) refl
  where
    left : (u : Tree) → lookup ps name ≡ Some u → (o : Option Tree) → f u ≡ o → IsPairs (put_or_cut name ps o)
    left u e None is = IsPairs-cut ps name h
    left u e (Some w) is = IsPairs-put ps name w h (IsName-found ps name u h e) (keeps u w (IsTree-found ps name u h e) is)

    by : (o : Option Tree) → lookup ps name ≡ o → IsPairs (cut_found f name ps o)
    by None e = h
    by (Some u) e = left u e (f u) refl

item_lawful : (f : Tree → Option Tree) → Keeps f → (o : Option ℕ) (ts : Items) → IsItems ts → IsItems (cut_item f o ts)
item_lawful f keeps None ts h = h
item_lawful f keeps (Some i) ts h = by (item_at ts i) refl
  where
    left : (u : Tree) → item_at ts i ≡ Some u → (o : Option Tree) → f u ≡ o → IsTree (or_null o)
    left u e None is = tt
    left u e (Some w) is = keeps u w (IsTree-item ts i u h e) is

    by : (o : Option Tree) → item_at ts i ≡ o → IsItems (with_found f i ts o)
    by None e = h
    by (Some u) e = IsItems-with_item ts i (or_null (f u)) h (left u e (f u) refl)

off_lawful : (path : Path) → Keeps (cut_off path)
off_lawful [] u w h e = absurd cc
off_lawful (name ∷ rest) (scalar s) w h e = let is : scalar s ≡ w = cc in subst IsTree is h
off_lawful (name ∷ rest) (document ps) w h e =
    let is : document (cut_field (cut_off rest) name ps) ≡ w = cc in
    subst IsTree is (field_lawful (cut_off rest) (off_lawful rest) name ps h)
off_lawful (name ∷ rest) (array ts) w h e =
    let is : array (cut_item (cut_off rest) (index_of name) ts) ≡ w = cc in
    subst IsTree is (item_lawful (cut_off rest) (off_lawful rest) (index_of name) ts h)

pub cut_lawful : (path : Path) (ps : Pairs) → IsPairs ps → IsPairs (cut_at path ps)
cut_lawful [] ps h = h
cut_lawful (name ∷ rest) ps h = field_lawful (cut_off rest) (off_lawful rest) name ps h

-- ---- many, one after the other

-- two that change places
second_first : (es : List Edit) (j : ℕ) (x d : Edit) (ps : Pairs) → j < length es → IsPairs ps
    → cut_all (put_in es j x) (cut_at (get_or es j d).path ps) ≡ cut_all es (cut_at x.path ps)
second_first [] j x d ps lt h = absurd (omega arith)
second_first (e ∷ es) zero x d ps lt h = ap (cut_all es) (cut_commute x.path e.path ps h)
second_first (e ∷ es) (suc j) x d ps lt h =
    ap (cut_all (put_in es j x)) (cut_commute e.path (get_or es j d).path ps h)
    ∙ second_first es j x d (cut_at e.path ps) (omega (arith, lt)) (cut_lawful e.path ps h)
    ∙ ap (cut_all es) (cut_commute x.path e.path ps h)

changed_places : (es : List Edit) (i j : ℕ) (d : Edit) (ps : Pairs) → i < length es → j < length es → IsPairs ps
    → cut_all (put_in (put_in es i (get_or es j d)) j (get_or es i d)) ps ≡ cut_all es ps
changed_places [] i j d ps low high h = absurd (omega arith)
changed_places (e ∷ es) zero zero d ps low high h = refl
changed_places (e ∷ es) zero (suc j) d ps low high h = second_first es j e d ps (omega (arith, high)) h
changed_places (e ∷ es) (suc i) zero d ps low high h = second_first es i e d ps (omega (arith, low)) h
changed_places (e ∷ es) (suc i) (suc j) d ps low high h =
    changed_places es i j d (cut_at e.path ps) (omega (arith, low)) (omega (arith, high)) (cut_lawful e.path ps h)

swapped : (es : List Edit) (i j : ℕ) (ps : Pairs) → i < length es → j < length es → IsPairs ps → cut_all (swap es i j) ps ≡ cut_all es ps
swapped [] i j ps low high h = refl
swapped (e ∷ es) i j ps low high h = changed_places (e ∷ es) i j e ps low high h

permuted : (es fs : List Edit) (ps : Pairs) → IsPermutation es fs → IsPairs ps → cut_all fs ps ≡ cut_all es ps
permuted es fs ps moved h = IsPermutation-keeps es (λ l. cut_all l ps ≡ cut_all es ps) refl (λ l i j low high so. swapped l i j ps low high h ∙ so) fs moved

-- ---- edits that take something away

pub only_unset : (action : Action) → takes_away action ≡ true → action ≡ unset
only_unset unset e = refl
only_unset (set t) e = absurd cc
only_unset (increment n) e = absurd cc
only_unset (at_most t) e = absurd cc
only_unset (at_least t) e = absurd cc
only_unset (push ts) e = absurd cc
only_unset (pull c) e = absurd cc
only_unset (rename new) e = absurd cc

pub all_cut : (es : List Edit) (ps : Pairs) → list_all is_unset es ≡ true → apply_edits es ps ≡ Ok (cut_all es ps)
all_cut [] ps all = refl
all_cut (e ∷ es) ps all =
    let both = and_true (is_unset e) (list_all is_unset es) all in
    let is = only_unset e.action both.0 in
    (λ i. apply_edits (record { path = e.path; action = is i } ∷ es) ps) ∙ all_cut es (cut_at e.path ps) both.1

module _ {X : Type 0} (p : X → Bool) where
  all_none : (xs : List X) → list_all p xs ≡ not (list_any (λ x. not (p x)) xs)
  all_none [] = refl
  all_none (x ∷ xs) = by (p x) (all_none xs)
    where
      by : (b : Bool) → list_all p xs ≡ not (list_any (λ y. not (p y)) xs) → (b && list_all p xs) ≡ not (not b || list_any (λ y. not (p y)) xs)
      by true later = later
      by false later = refl

  all_permuted : (xs ys : List X) → IsPermutation xs ys → list_all p ys ≡ list_all p xs
  all_permuted xs ys moved = all_none ys ∙ ap not (sym (list_any-IsPermutation (λ x. not (p x)) xs ys moved)) ∙ sym (all_none xs)

pub all_mapped : (cs : List Change) → list_all (λ c. is_unset (edit_of c)) cs ≡ list_all is_unset (map edit_of cs)
all_mapped [] = refl
all_mapped (c ∷ cs) = ap (λ (b : Bool). is_unset (edit_of c) && b) (all_mapped cs)

-- copies of the edits in another order
pub in_any_order : (cs copies sorted : List Change) (ps : Pairs) → list_all (λ c. is_unset (edit_of c)) cs ≡ true → map edit_of copies ≡ map edit_of cs
    → IsPermutation copies sorted → IsPairs ps → apply_edits (map edit_of sorted) ps ≡ apply_edits (map edit_of cs) ps
in_any_order cs copies sorted ps all copied moved h =
    let through : IsPermutation (map edit_of cs) (map edit_of sorted) =
    subst (λ (es : List Edit). IsPermutation es (map edit_of sorted)) copied (IsPermutation-map edit_of copies sorted moved) in
    let unsets : list_all is_unset (map edit_of cs) ≡ true = sym (all_mapped cs) ∙ all in
    all_cut (map edit_of sorted) ps (all_permuted is_unset (map edit_of cs) (map edit_of sorted) through ∙ unsets)
    ∙ ap Ok (permuted (map edit_of cs) (map edit_of sorted) ps through h)
    ∙ sym (all_cut (map edit_of cs) ps unsets)
