-- An edit changes nothing else.
use Rattle.std.proofs.Common.{◌≡◌, ℕ, zero, suc, ◌+◌, ◌<◌, ◌≤◌, Bool, true, false, List, [], ◌∷◌}
use Rattle.std.proofs.Common.{Option, Some, None, Result, Ok, Err, max, refl, sym, ap, ◌∙◌, subst}
use Rattle.std.proofs.Common.{arith, inl, inr}
use Rattle.std.specs.Prelude.{◌≢◌, if◌then◌else◌, nat_lt, nat_le}
use Rattle.std.specs.Str.{bytes_eq}
use Rattle.bson.specs.Tree.{Tree, scalar, null, document, array, Pairs, no_pairs, pair, Items}
use Rattle.bson.specs.Tree.{no_items, item}
use Rattle.bson.specs.Lawful.{levels, IsTree, IsPairs, IsItems}
use Rattle.bson.specs.Lookup.{lookup}
use Rattle.bson.specs.Edits.{put, cut, items_len, item_at, with_item}
use Rattle.bson.specs.EditsLaws.{lookup-put, lookup-put_other, lookup-cut, lookup-cut_other}
use Rattle.bson.specs.EditPlaces.{item_at-with_item, item_at-with_item_other}
use Rattle.path.specs.declared.refusal.Refusal.{Refusal}
use Rattle.path.specs.declared.refusal.Refusal.TheVariants as refusals
use Rattle.path.specs.Parts.{index_of}
use Rattle.path.specs.Edits.{if_ok, within, put_item, write_field, write_item, write, put_or_cut}
use Rattle.path.specs.Edits.{cut_found, cut_field, with_found, cut_item, cut_off}
use Rattle.path.specs.Laws.{names, with_name, without_name, names_left, WritesField, WritesItem}
use Rattle.path.specs.Laws.{WritesItemAt, Writes, Made, CutsField, CutsItem, CutsItemAt, Cuts}

items_len-with_item : (ts : Items) (i : ℕ) (u : Tree) → items_len (with_item ts i u) ≡ items_len ts
items_len-with_item no_items i u = refl
items_len-with_item (item t ts) zero u = refl
items_len-with_item (item t ts) (suc i) u = ap suc (items_len-with_item ts i u)

-- ---- what was put

pub names-put : (ps : Pairs) (name : List ℕ) (t : Tree)
    → names (put ps name t) ≡ with_name (names ps) name
names-put no_pairs name t = refl
names-put (pair other u ps) name t = by (bytes_eq name other) (names-put ps name t)
  where
    by : (b : Bool) → names (put ps name t) ≡ with_name (names ps) name
        → names (if b then pair other t ps else pair other u (put ps name t))
        ≡ (if b then other ∷ names ps else other ∷ with_name (names ps) name)
    by true later = refl
    by false later = ap (λ (ns : List (List ℕ)). other ∷ ns) later

pub item_at-put : (ts : Items) (i : ℕ) (u : Tree) → item_at (put_item ts i u) i ≡ Some u
item_at-put no_items zero u = refl
item_at-put no_items (suc i) u = item_at-put no_items i u
item_at-put (item t ts) zero u = refl
item_at-put (item t ts) (suc i) u = item_at-put ts i u

pub item_at-put_other : (ts : Items) (i j : ℕ) (u : Tree) → j ≢ i → j < items_len ts
    → item_at (put_item ts i u) j ≡ item_at ts j
item_at-put_other no_items i j u ne lt = absurd (omega arith)
item_at-put_other (item t ts) zero zero u ne lt = absurd (ne refl)
item_at-put_other (item t ts) zero (suc j) u ne lt = refl
item_at-put_other (item t ts) (suc i) zero u ne lt = refl
item_at-put_other (item t ts) (suc i) (suc j) u ne lt =
    item_at-put_other ts i j u (λ e. ne (ap suc e)) (omega arith)

pub item_at-put_null : (ts : Items) (i j : ℕ) (u : Tree) → items_len ts ≤ j → j < i
    → item_at (put_item ts i u) j ≡ Some (scalar null)
item_at-put_null no_items zero j u le lt = absurd (omega arith)
item_at-put_null no_items (suc i) zero u le lt = refl
item_at-put_null no_items (suc i) (suc j) u le lt =
    item_at-put_null no_items i j u (omega arith) (omega arith)
item_at-put_null (item t ts) i zero u le lt = absurd (omega arith)
item_at-put_null (item t ts) zero (suc j) u le lt = absurd (omega arith)
item_at-put_null (item t ts) (suc i) (suc j) u le lt =
    item_at-put_null ts i j u (omega arith) (omega arith)

pub items_len-put : (ts : Items) (i : ℕ) (u : Tree)
    → items_len (put_item ts i u) ≡ max (items_len ts) (suc i)
items_len-put no_items zero u = omega arith
items_len-put no_items (suc i) u = omega (arith, items_len-put no_items i u)
items_len-put (item t ts) zero u = omega arith
items_len-put (item t ts) (suc i) u = omega (arith, items_len-put ts i u)

-- ---- an answer that was given

pub within_ok : (most : ℕ) (r : Result Tree Refusal) (u : Tree) → within most r ≡ Ok u → r ≡ Ok u
within_ok most (Err e) u is = absurd cc
within_ok most (Ok t) u is = by (nat_le (levels t) most) is
  where
    by : (b : Bool)
        → ◌≡◌ {A = Result Tree Refusal} (if b then Ok t else Err refusals.BadValue) (Ok u)
        → ◌≡◌ {A = Result Tree Refusal} (Ok t) (Ok u)
    by true is = is
    by false is = absurd cc

pub if_ok_value : {A B : Type 0} (r : Result A Refusal) (f : A → Result B Refusal) (b : B)
    → if_ok r f ≡ Ok b → (a : A) × (r ≡ Ok a) × (f a ≡ Ok b)
if_ok_value (Ok a) f b is = (a, refl, is)
if_ok_value (Err e) f b is = absurd cc

module _ (Below : Option Tree → Tree → Type 0) (made : Option Tree → Result Tree Refusal)
    (right : (old : Option Tree) (now : Tree) → made old ≡ Ok now → Below old now) where
  writes_field : (name : List ℕ) (ps qs : Pairs) → write_field made name ps ≡ Ok qs
      → WritesField Below name ps qs
  writes_field name ps qs is =
      let got = if_ok_value (within 99 (made (lookup ps name)))
      (λ (u : Tree). Ok (put ps name u)) qs is in
      let u : Tree = got.0 in
      let same : put ps name u ≡ qs = cc (got.2) in
      subst (WritesField Below name ps) same (record {
        value = u;
        written = lookup-put ps name u;
        below = right (lookup ps name) u (within_ok 99 (made (lookup ps name)) u got.1);
        others = λ other ne. lookup-put_other ps name other u ne;
        order = names-put ps name u;
      })

  writes_item : (o : Option ℕ) (ts us : Items) → write_item made o ts ≡ Ok us
      → WritesItemAt Below o ts us
  writes_item None ts us is = absurd cc
  writes_item (Some i) ts us is = by (nat_lt (items_len ts + 1000) i) is
    where
      by : (b : Bool)
          → ◌≡◌ {A = Result Items Refusal} (if b then Err refusals.BadValue
          else if_ok (within 98 (made (item_at ts i))) (λ (u : Tree). Ok (put_item ts i u)))
          (Ok us) → WritesItem Below i ts us
      by true is = absurd cc
      by false is =
          let got = if_ok_value (within 98 (made (item_at ts i)))
          (λ (u : Tree). Ok (put_item ts i u)) us is in
          let u : Tree = got.0 in
          let same : put_item ts i u ≡ us = cc (got.2) in
          subst (WritesItem Below i ts) same (record {
            value = u;
            written = item_at-put ts i u;
            below = right (item_at ts i) u (within_ok 98 (made (item_at ts i)) u got.1);
            others = λ j ne lt. item_at-put_other ts i j u ne lt;
            nulls = λ j le lt. item_at-put_null ts i j u le lt;
            len = items_len-put ts i u;
          })

module _ (made : Option Tree → Result Tree Refusal) where
  pub writes : (parts : List (List ℕ)) (old : Option Tree) (now : Tree)
      → write made parts old ≡ Ok now → Writes (Made made) parts old now
  writes [] old now is = is
  writes (name ∷ rest) None now is =
      let got = if_ok_value (write_field (write made rest) name no_pairs)
      (λ (ps : Pairs). Ok (document ps)) now is in
      let same : document got.0 ≡ now = cc (got.2) in
      subst (Writes (Made made) (name ∷ rest) None) same
      (writes_field (Writes (Made made) rest) (write made rest)
      (writes rest) name no_pairs got.0 got.1)
  writes (name ∷ rest) (Some (scalar s)) now is = absurd cc
  writes (name ∷ rest) (Some (document ps)) now is =
      let got = if_ok_value (write_field (write made rest) name ps)
      (λ (qs : Pairs). Ok (document qs)) now is in
      let same : document got.0 ≡ now = cc (got.2) in
      subst (Writes (Made made) (name ∷ rest) (Some (document ps))) same
      (writes_field (Writes (Made made) rest) (write made rest) (writes rest) name ps got.0 got.1)
  writes (name ∷ rest) (Some (array ts)) now is =
      let got = if_ok_value (write_item (write made rest) (index_of name) ts)
      (λ (us : Items). Ok (array us)) now is in
      let same : array got.0 ≡ now = cc (got.2) in
      subst (Writes (Made made) (name ∷ rest) (Some (array ts))) same
      (writes_item (Writes (Made made) rest) (write made rest) (writes rest)
      (index_of name) ts got.0 got.1)

-- ---- what was cut

names-cut : (ps : Pairs) (name : List ℕ) → names (cut ps name) ≡ without_name (names ps) name
names-cut no_pairs name = refl
names-cut (pair other u ps) name = by (bytes_eq name other) (names-cut ps name)
  where
    by : (b : Bool) → names (cut ps name) ≡ without_name (names ps) name
        → names (if b then ps else pair other u (cut ps name))
        ≡ (if b then names ps else other ∷ without_name (names ps) name)
    by true later = refl
    by false later = ap (λ (ns : List (List ℕ)). other ∷ ns) later

names-put_there : (ps : Pairs) (name : List ℕ) (t u : Tree) → lookup ps name ≡ Some u
    → names (put ps name t) ≡ names ps
names-put_there no_pairs name t u e = absurd cc
names-put_there (pair other v ps) name t u e =
    by (bytes_eq name other) e (names-put_there ps name t u)
  where
    by : (b : Bool) → (if b then Some v else lookup ps name) ≡ Some u
        → (lookup ps name ≡ Some u → names (put ps name t) ≡ names ps)
        → names (if b then pair other t ps else pair other v (put ps name t)) ≡ other ∷ names ps
    by true e later = refl
    by false e later = ap (λ (ns : List (List ℕ)). other ∷ ns) (later e)

names-absent : (ps : Pairs) (name : List ℕ) → lookup ps name ≡ None
    → without_name (names ps) name ≡ names ps
names-absent no_pairs name e = refl
names-absent (pair other v ps) name e = by (bytes_eq name other) e (names-absent ps name)
  where
    by : (b : Bool) → (if b then Some v else lookup ps name) ≡ None
        → (lookup ps name ≡ None → without_name (names ps) name ≡ names ps)
        → (if b then names ps else other ∷ without_name (names ps) name) ≡ other ∷ names ps
    by true e later = absurd cc
    by false e later = ap (λ (ns : List (List ℕ)). other ∷ ns) (later e)

IsTree-lookup : (ps : Pairs) (name : List ℕ) (t : Tree) → IsPairs ps → lookup ps name ≡ Some t
    → IsTree t
IsTree-lookup no_pairs name t h e = absurd cc
IsTree-lookup (pair other u ps) name t h e =
    by (bytes_eq name other) e (IsTree-lookup ps name t h.3)
  where
    by : (b : Bool) → (if b then Some u else lookup ps name) ≡ Some t
        → (lookup ps name ≡ Some t → IsTree t) → IsTree t
    by true e later = let same : u ≡ t = cc in subst IsTree same h.1
    by false e later = later e

IsTree-item : (ts : Items) (i : ℕ) (t : Tree) → IsItems ts → item_at ts i ≡ Some t → IsTree t
IsTree-item no_items i t h e = absurd cc
IsTree-item (item u ts) zero t h e = let same : u ≡ t = cc in subst IsTree same h.0
IsTree-item (item u ts) (suc i) t h e = IsTree-item ts i t h.1 e

item_at-len : (ts : Items) (i : ℕ) (t : Tree) → item_at ts i ≡ Some t → i < items_len ts
item_at-len no_items i t e = absurd cc
item_at-len (item u ts) zero t e = omega arith
item_at-len (item u ts) (suc i) t e = omega (arith, item_at-len ts i t e)

module _ (Below : Tree → Option Tree → Type 0) (left : Tree → Option Tree) (right : (t : Tree)
    → IsTree t → Below t (left t)) where
  cut_away : (name : List ℕ) (ps : Pairs) → IsPairs ps → (u : Tree) → lookup ps name ≡ Some u
      → (w : Option Tree) → Below u w → CutsField Below name ps (put_or_cut name ps w)
  cut_away name ps h u e None b = record {
    absent = λ is. absurd cc;
    there = λ t is. let same : u ≡ t = cc in
        subst (λ (o : Option Tree). Below t o) (sym (lookup-cut ps name h))
        (subst (λ (v : Tree). Below v None) same b);
    others = λ other ne. lookup-cut_other ps name other ne;
    order = names-cut ps name
        ∙ ap (λ (o : Option Tree). names_left o (names ps) name) (sym (lookup-cut ps name h));
  }
  cut_away name ps h u e (Some w) b = record {
    absent = λ is. absurd cc;
    there = λ t is. let same : u ≡ t = cc in
        subst (λ (o : Option Tree). Below t o) (sym (lookup-put ps name w))
        (subst (λ (v : Tree). Below v (Some w)) same b);
    others = λ other ne. lookup-put_other ps name other w ne;
    order = names-put_there ps name w u e
        ∙ ap (λ (o : Option Tree). names_left o (names ps) name) (sym (lookup-put ps name w));
  }

  cuts_field : (name : List ℕ) (ps : Pairs) → IsPairs ps
      → CutsField Below name ps (cut_field left name ps)
  cuts_field name ps h = by (lookup ps name) refl
    where
      by : (o : Option Tree) → lookup ps name ≡ o
          → CutsField Below name ps (cut_found left name ps o)
      by None e = record {
        absent = λ is. refl;
        there = λ t is. absurd cc;
        others = λ other ne. refl;
        order = sym (names-absent ps name e)
            ∙ ap (λ (o : Option Tree). names_left o (names ps) name) (sym e);
      }
      by (Some u) e = cut_away name ps h u e (left u) (right u (IsTree-lookup ps name u h e))

  nulled : (i : ℕ) (ts : Items) (u : Tree) → item_at ts i ≡ Some u → (w : Option Tree) → Below u w
      → CutsItem Below i ts (with_found (λ (t : Tree). w) i ts (Some u))
  nulled i ts u e None b = record {
    there = λ t is. let same : u ≡ t = cc in
        inr (
          item_at-with_item ts i (scalar null) (item_at-len ts i u e),
          subst (λ (v : Tree). Below v None) same b,
        );
    others = λ j ne. item_at-with_item_other ts i j (scalar null) ne;
    len = items_len-with_item ts i (scalar null);
  }
  nulled i ts u e (Some w) b = record {
    there = λ t is. let same : u ≡ t = cc in
        inl (subst (λ (o : Option Tree). Below t o)
        (sym (item_at-with_item ts i w (item_at-len ts i u e)))
        (subst (λ (v : Tree). Below v (Some w)) same b));
    others = λ j ne. item_at-with_item_other ts i j w ne;
    len = items_len-with_item ts i w;
  }

  cuts_item : (o : Option ℕ) (ts : Items) → IsItems ts → CutsItemAt Below o ts (cut_item left o ts)
  cuts_item None ts h = refl
  cuts_item (Some i) ts h = by (item_at ts i) refl
    where
      by : (o : Option Tree) → item_at ts i ≡ o → CutsItem Below i ts (with_found left i ts o)
      by None e = record { there = λ t is. absurd cc; others = λ j ne. refl; len = refl }
      by (Some u) e = nulled i ts u e (left u) (right u (IsTree-item ts i u h e))

pub cuts : (parts : List (List ℕ)) (t : Tree) → IsTree t → Cuts parts t (cut_off parts t)
cuts [] t h = refl
cuts (name ∷ rest) (scalar s) h = refl
cuts (name ∷ rest) (document ps) h = cuts_field (Cuts rest) (cut_off rest) (cuts rest) name ps h
cuts (name ∷ rest) (array ts) h =
    cuts_item (Cuts rest) (cut_off rest) (cuts rest) (index_of name) ts h
