-- What is taken away at one path, and what is put at another that doesn't meet it, may be done in either order.
use Rattle.std.proofs.Common.{◌≡◌, ◌≢◌, ◌≤◌, ◌+◌, ℕ, max, Bool, true, false, List, [], ◌∷◌, length, Option, Some, None, Result, Ok, Err}
use Rattle.std.proofs.Common.{refl, sym, ap, subst, ◌∙◌, arith}
use Rattle.std.specs.Prelude.{if◌then◌else◌, ◌&&◌, ◌||◌, nat_le}
use Rattle.std.specs.Option.{option_and_then}
use Rattle.std.specs.Str.{bytes_eq}
use Rattle.std.proofs.lemmas.Bool.{le-leb, lt-leb, leb-true, leb-false}
use Rattle.std.proofs.lemmas.Slice.Eq.{bytes_eq-Decides}
use Rattle.bson.specs.Edits.{put, cut}
use Rattle.bson.specs.EditsLaws.{lookup-put, lookup-put_other, lookup-cut_other, pairs_levels-put}
use Rattle.bson.specs.Lawful.{levels, pairs_levels}
use Rattle.bson.specs.Lookup.{lookup}
use Rattle.bson.specs.Tree.{Tree, scalar, document, array, Pairs, no_pairs, pair}
use Rattle.path.specs.EditLaws.{if_ok_value}
use Rattle.path.specs.Edits.{if_ok, within, write, set_at, put_or_cut, cut_found, cut_field, cut_off, cut_at}
use Rattle.path.specs.Parts.{is_front, meets}
use Rattle.path.specs.Place.{some_passes, value_at, passes_array}
use Rattle.path.specs.declared.refusal.Refusal.{Refusal}
use Rattle.path.specs.declared.refusal.Refusal.TheVariants as refusals
use Rattle.path.proofs.WalkLemmas.{lookup-levels, cut_off-levels}
use Rattle.update_model.specs.Update.{Path}
use Rattle.update_model.proofs.IdLemmas.{bytes_differ}
use Rattle.update.proofs.InsideLemmas.{put_twice, put_same, some_one, document_one}
use Rattle.update.proofs.RenamingLemmas.{no_array}
use Rattle.update.proofs.UnsetLemmas.{cut_other}

-- ---- paths that don't meet

-- neither is empty, and behind a first part that they share they don't meet
never_first : (g : Path) → meets [] g ≡ false → ⊥
never_first g e = absurd cc

never_second : (a : List ℕ) (p : Path) → meets (a ∷ p) [] ≡ false → ⊥
never_second a p e = absurd cc

behind_first : (a b : List ℕ) (p g : Path) → a ≡ b → meets (a ∷ p) (b ∷ g) ≡ false → meets p g ≡ false
behind_first a b p g same e =
    let one : bytes_eq a b ≡ true = (bytes_eq-Decides a b).1 same in
    let two : bytes_eq b a ≡ true = (bytes_eq-Decides b a).1 (sym same) in
    sym (λ i. (one i && is_front p g) || (two i && is_front g p)) ∙ e

turned : (a b : List ℕ) → bytes_eq a b ≡ false → bytes_eq b a ≡ false
turned a b e = by (bytes_eq b a) refl
  where
    by : (c : Bool) → bytes_eq b a ≡ c → c ≡ false
    by false is = refl
    by true is = absurd (bytes_differ a b e (sym ((bytes_eq-Decides b a).0 is)))

-- a path that isn't empty leaves something of any value
record Leaves (g : Path) (t : Tree) : Type 0 where
  rest : Tree
  is : cut_off g t ≡ Some rest

leaves : (p g : Path) → meets p g ≡ false → (t : Tree) → Leaves g t
leaves [] g apart t = absurd (never_first g apart)
leaves (a ∷ p) [] apart t = absurd (never_second a p apart)
leaves (a ∷ p) (b ∷ g) apart (scalar s) = record { rest = scalar s; is = refl }
leaves (a ∷ p) (b ∷ g) apart (document ps) = record { rest = document (cut_field (cut_off g) b ps); is = refl }
leaves (a ∷ p) (b ∷ g) apart (array ts) = record { rest = _; is = refl }

module _ (left : Tree → Option Tree) where
  lookup_elsewhere : (a b : List ℕ) → a ≢ b → (ps : Pairs) → lookup (cut_field left b ps) a ≡ lookup ps a
  lookup_elsewhere a b apart ps = by (lookup ps b)
    where
      at : (o : Option Tree) → lookup (put_or_cut b ps o) a ≡ lookup ps a
      at None = lookup-cut_other ps b a apart
      at (Some w) = lookup-put_other ps b a w apart

      by : (o : Option Tree) → lookup (cut_found left b ps o) a ≡ lookup ps a
      by None = refl
      by (Some u) = at (left u)

  -- what was found there, and what was left of it
  cut_there : (a : List ℕ) (ps : Pairs) (w x : Tree) → lookup ps a ≡ Some w → left w ≡ Some x → cut_field left a ps ≡ put ps a x
  cut_there a ps w x found is = ap (cut_found left a ps) found ∙ ap (put_or_cut a ps) is

  cut_missing : (a : List ℕ) (ps : Pairs) → lookup ps a ≡ None → cut_field left a ps ≡ ps
  cut_missing a ps none = ap (cut_found left a ps) none

  -- a field that is put beside one of another name
  put_elsewhere : (a b : List ℕ) → bytes_eq b a ≡ false → (x : Tree) (ps : Pairs) → put (cut_field left b ps) a x ≡ cut_field left b (put ps a x)
  put_elsewhere a b apart x no_pairs = sym (ap (λ (c : Bool). cut_found left b (pair a x no_pairs) (if c then Some x else None)) apart)
  put_elsewhere a b apart x (pair k t ps) = by (bytes_eq a k) refl (bytes_eq b k) refl (put_elsewhere a b apart x ps)
    where
      rest_of : Option Tree → Pairs → Pairs
      rest_of None qs = qs
      rest_of (Some w) qs = pair k w qs

      first : (qs : Pairs) → bytes_eq b k ≡ true → (o : Option Tree) → left t ≡ o → cut_field left b (pair k t qs) ≡ rest_of o qs
      first qs e None is =
          ap (λ (c : Bool). cut_found left b (pair k t qs) (if c then Some t else lookup qs b)) e ∙ ap (put_or_cut b (pair k t qs)) is
          ∙ ap (λ (c : Bool). if c then qs else pair k t (cut qs b)) e
      first qs e (Some w) is =
          ap (λ (c : Bool). cut_found left b (pair k t qs) (if c then Some t else lookup qs b)) e ∙ ap (put_or_cut b (pair k t qs)) is
          ∙ ap (λ (c : Bool). if c then pair k w qs else pair k t (put qs b w)) e

      behind : (o : Option Tree) (qs : Pairs) → bytes_eq a k ≡ false → put (rest_of o qs) a x ≡ rest_of o (put qs a x)
      behind None qs e = refl
      behind (Some w) qs e = ap (λ (c : Bool). if c then pair k x qs else pair k w (put qs a x)) e

      here : (qs : Pairs) → bytes_eq a k ≡ true → put (pair k t qs) a x ≡ pair k x qs
      here qs e = ap (λ (c : Bool). if c then pair k x qs else pair k t (put qs a x)) e

      there : (qs : Pairs) → bytes_eq a k ≡ false → put (pair k t qs) a x ≡ pair k t (put qs a x)
      there qs e = ap (λ (c : Bool). if c then pair k x qs else pair k t (put qs a x)) e

      by : (c : Bool) → bytes_eq a k ≡ c → (d : Bool) → bytes_eq b k ≡ d → put (cut_field left b ps) a x ≡ cut_field left b (put ps a x)
          → put (cut_field left b (pair k t ps)) a x ≡ cut_field left b (put (pair k t ps) a x)
      by true c true d later =
          absurd (bytes_differ b a apart ((bytes_eq-Decides b k).0 d ∙ sym ((bytes_eq-Decides a k).0 c)))
      by true c false d later =
          ap (λ (qs : Pairs). put qs a x) (cut_other left b k t ps d) ∙ here (cut_field left b ps) c
          ∙ sym (ap (cut_field left b) (here ps c) ∙ cut_other left b k x ps d)
      by false c false d later =
          ap (λ (qs : Pairs). put qs a x) (cut_other left b k t ps d) ∙ there (cut_field left b ps) c ∙ ap (pair k t) later
          ∙ sym (ap (cut_field left b) (there ps c) ∙ cut_other left b k t (put ps a x) d)
      by false c true d later =
          ap (λ (qs : Pairs). put qs a x) (first ps d (left t) refl) ∙ behind (left t) ps c
          ∙ sym (ap (cut_field left b) (there ps c) ∙ first (put ps a x) d (left t) refl)

-- ---- what stands elsewhere

pub record Stays (p : Path) (t u : Tree) : Type 0 where
  pub passes : passes_array p u ≡ passes_array p t
  pub value : passes_array p t ≡ false → value_at p u ≡ value_at p t

pub stays_same : (p : Path) (t u : Tree) → t ≡ u → Stays p t u
stays_same p t u e = record { passes = ap (passes_array p) (sym e); value = λ _. ap (value_at p) (sym e) }

pub stays : (p g : Path) → meets p g ≡ false → (t u : Tree) → cut_off g t ≡ Some u → Stays p t u
stays [] g apart t u is = absurd (never_first g apart)
stays (a ∷ p) [] apart t u is = absurd (never_second a p apart)
stays (a ∷ p) (b ∷ g) apart (scalar s) u is = stays_same (a ∷ p) (scalar s) u (some_one (scalar s) u is)
stays (a ∷ p) (b ∷ g) apart (array ts) u is = record {
  passes = ap (passes_array (a ∷ p)) (sym (some_one _ u is));
  value = λ clear. absurd cc;
}
stays (a ∷ p) (b ∷ g) apart (document ps) u is =
    subst (Stays (a ∷ p) (document ps)) (some_one (document (cut_field (cut_off g) b ps)) u is) (by (bytes_eq a b) refl (λ same. stays p g same))
  where
    along : (qs : Pairs) → lookup qs a ≡ lookup ps a → Stays (a ∷ p) (document ps) (document qs)
    along qs e = record { passes = ap (some_passes (passes_array p)) e; value = λ _. ap (option_and_then (value_at p)) e }

    further : (w x : Tree) → lookup ps a ≡ Some w → Stays p w x → Stays (a ∷ p) (document ps) (document (put ps a x))
    further w x found s = record {
      passes = ap (some_passes (passes_array p)) (lookup-put ps a x) ∙ s.passes ∙ ap (some_passes (passes_array p)) (sym found);
      value = λ clear. ap (option_and_then (value_at p)) (lookup-put ps a x)
          ∙ s.value (ap (some_passes (passes_array p)) (sym found) ∙ clear) ∙ ap (option_and_then (value_at p)) (sym found);
    }

    shared : meets p g ≡ false → ((w x : Tree) → cut_off g w ≡ Some x → Stays p w x) → (o : Option Tree) → lookup ps a ≡ o
        → Stays (a ∷ p) (document ps) (document (cut_field (cut_off g) a ps))
    shared same later None e = along (cut_field (cut_off g) a ps) (ap (λ (qs : Pairs). lookup qs a) (cut_missing (cut_off g) a ps e))
    shared same later (Some w) e =
        let left = leaves p g same w in
        subst (λ (qs : Pairs). Stays (a ∷ p) (document ps) (document qs)) (sym (cut_there (cut_off g) a ps w left.rest e left.is))
        (further w left.rest e (later w left.rest left.is))

    by : (c : Bool) → bytes_eq a b ≡ c → (meets p g ≡ false → (w x : Tree) → cut_off g w ≡ Some x → Stays p w x)
        → Stays (a ∷ p) (document ps) (document (cut_field (cut_off g) b ps))
    by false e later = along (cut_field (cut_off g) b ps) (lookup_elsewhere (cut_off g) a b (bytes_differ a b e) ps)
    by true e later =
        let same : a ≡ b = (bytes_eq-Decides a b).0 e in
        let on = behind_first a b p g same apart in
        subst (λ (k : List ℕ). Stays (a ∷ p) (document ps) (document (cut_field (cut_off g) k ps))) same (shared on (later on) (lookup ps a) refl)

-- the way to a path is the same once what stands at its end is gone
pub way_stays : (p : Path) (t u : Tree) → cut_off p t ≡ Some u → passes_array p u ≡ passes_array p t
way_stays [] t u is = refl
way_stays (a ∷ p) (scalar s) u is = ap (passes_array (a ∷ p)) (sym (some_one (scalar s) u is))
way_stays (a ∷ p) (array ts) u is = ap (passes_array (a ∷ p)) (sym (some_one _ u is))
way_stays (a ∷ []) (document ps) u is =
    ap (passes_array (a ∷ [])) (sym (some_one (document (cut_field (cut_off []) a ps)) u is))
    ∙ no_array (lookup (cut_field (cut_off []) a ps) a) ∙ sym (no_array (lookup ps a))
way_stays (a ∷ b ∷ p) (document ps) u is =
    ap (passes_array (a ∷ b ∷ p)) (sym (some_one (document (cut_field (cut_off (b ∷ p)) a ps)) u is)) ∙ by (lookup ps a) refl (way_stays (b ∷ p))
  where
    left : (w : Tree) → Leaves (b ∷ p) w
    left (scalar s) = record { rest = scalar s; is = refl }
    left (document qs) = record { rest = _; is = refl }
    left (array ts) = record { rest = _; is = refl }

    by : (o : Option Tree) → lookup ps a ≡ o → ((w x : Tree) → cut_off (b ∷ p) w ≡ Some x → passes_array (b ∷ p) x ≡ passes_array (b ∷ p) w)
        → some_passes (passes_array (b ∷ p)) (lookup (cut_field (cut_off (b ∷ p)) a ps) a) ≡ some_passes (passes_array (b ∷ p)) (lookup ps a)
    by None e later = ap (λ (qs : Pairs). some_passes (passes_array (b ∷ p)) (lookup qs a)) (cut_missing (cut_off (b ∷ p)) a ps e)
    by (Some w) e later =
        let l = left w in
        ap (λ (qs : Pairs). some_passes (passes_array (b ∷ p)) (lookup qs a)) (cut_there (cut_off (b ∷ p)) a ps w l.rest e l.is)
        ∙ ap (some_passes (passes_array (b ∷ p))) (lookup-put ps a l.rest) ∙ later w l.rest l.is
        ∙ ap (some_passes (passes_array (b ∷ p))) (sym e)

-- ---- a value that is put at a path

module _ (v : Tree) where
  abbrev always : Option Tree → Result Tree Refusal
  always old = Ok v

  abbrev none_or : Option Tree → ℕ
  none_or None = 0
  none_or (Some t) = levels t

  abbrev no_way_array : Path → Option Tree → Bool
  no_way_array n o = some_passes (passes_array n) o

  record Within (r : Result Tree Refusal) (x : Tree) : Type 0 where
    is : r ≡ Ok x
    low : levels x ≤ 99

  within_so : (r : Result Tree Refusal) (x : Tree) → within 99 r ≡ Ok x → Within r x
  within_so (Err e) x is = absurd cc
  within_so (Ok y) x is = by (nat_le (levels y) 99) refl is
    where
      by : (b : Bool) → nat_le (levels y) 99 ≡ b → (if b then Ok y else Err refusals.BadValue) ≡ Ok x → Within (Ok y) x
      by false e is = absurd cc
      by true e is =
          let same : y ≡ x = cc in
          subst (Within (Ok y)) same (record { is = refl; low = leb-true (levels y) 99 e })

  -- what is there is as deep as the value or as what stood there
  record Deep (n : Path) (o : Option Tree) (x : Tree) : Type 0 where
    upper : levels x ≤ max (none_or o) (length n + levels v)
    lower : length n + levels v ≤ levels x

  deep_field : (a : List ℕ) (n : Path) (ps : Pairs) (x y : Tree) → Deep n (lookup ps a) y → document (put ps a y) ≡ x
      → Deep (a ∷ n) (Some (document ps)) x
  deep_field a n ps x y d is =
      subst (Deep (a ∷ n) (Some (document ps))) is (record {
        upper = by (lookup ps a) refl d.upper;
        lower = omega (arith, d.lower, lookup-levels (put ps a y) a y (lookup-put ps a y));
      })
    where
      by : (o : Option Tree) → lookup ps a ≡ o → levels y ≤ max (none_or o) (length n + levels v)
          → levels (document (put ps a y)) ≤ max (levels (document ps)) (length (a ∷ n) + levels v)
      by None e up = omega (arith, up, pairs_levels-put ps a y)
      by (Some w) e up = omega (arith, up, pairs_levels-put ps a y, lookup-levels ps a w e)

  deep : (n : Path) (o : Option Tree) (x : Tree) → no_way_array n o ≡ false → write always n o ≡ Ok x → Deep n o x
  deep [] o x clear is =
      let same : v ≡ x = cc in
      subst (Deep [] o) same (record { upper = omega arith; lower = omega arith })
  deep (a ∷ n) (Some (scalar s)) x clear is = absurd cc
  deep (a ∷ n) (Some (array ts)) x clear is = absurd cc
  deep (a ∷ n) (Some (document ps)) x clear is =
      let outer = if_ok_value (if_ok (within 99 (write always n (lookup ps a))) (λ (u : Tree). Ok (put ps a u))) (λ (qs : Pairs). Ok (document qs)) x is in
      let inner = if_ok_value (within 99 (write always n (lookup ps a))) (λ (u : Tree). Ok (put ps a u)) outer.0 outer.1 in
      let fits = within_so (write always n (lookup ps a)) inner.0 inner.1 in
      let made : put ps a inner.0 ≡ outer.0 = cc (inner.2) in
      let whole : document outer.0 ≡ x = cc (outer.2) in
      deep_field a n ps x inner.0 (deep n (lookup ps a) inner.0 clear fits.is) (ap document made ∙ whole)
  deep (a ∷ n) None x clear is =
      let outer = if_ok_value (if_ok (within 99 (write always n None)) (λ (u : Tree). Ok (put no_pairs a u))) (λ (qs : Pairs). Ok (document qs)) x is in
      let inner = if_ok_value (within 99 (write always n None)) (λ (u : Tree). Ok (put no_pairs a u)) outer.0 outer.1 in
      let fits = within_so (write always n None) inner.0 inner.1 in
      let made : put no_pairs a inner.0 ≡ outer.0 = cc (inner.2) in
      let whole : document outer.0 ≡ x = cc (outer.2) in
      let d = deep n None inner.0 refl fits.is in
      subst (Deep (a ∷ n) None) (ap document made ∙ whole) (record { upper = omega (arith, d.upper); lower = omega (arith, d.lower) })

  -- what stands at another path, and the way to it, once the value is there
  record StaysBeside (p : Path) (o : Option Tree) (x : Tree) : Type 0 where
    passes : passes_array p x ≡ some_passes (passes_array p) o
    value : value_at p x ≡ option_and_then (value_at p) o

  beside_field : (a b : List ℕ) (p n : Path) → meets (a ∷ p) (b ∷ n) ≡ false → (ps : Pairs) (y : Tree)
      → (meets p n ≡ false → StaysBeside p (lookup ps b) y) → StaysBeside (a ∷ p) (Some (document ps)) (document (put ps b y))
  beside_field a b p n apart ps y later = by (bytes_eq a b) refl
    where
      by : (c : Bool) → bytes_eq a b ≡ c → StaysBeside (a ∷ p) (Some (document ps)) (document (put ps b y))
      by false e =
          let same = lookup-put_other ps b a y (bytes_differ a b e) in
          record { passes = ap (some_passes (passes_array p)) same; value = ap (option_and_then (value_at p)) same }
      by true e =
          let same : a ≡ b = (bytes_eq-Decides a b).0 e in
          let s = later (behind_first a b p n same apart) in
          subst (λ (k : List ℕ). StaysBeside (k ∷ p) (Some (document ps)) (document (put ps b y))) (sym same) (record {
            passes = ap (some_passes (passes_array p)) (lookup-put ps b y) ∙ s.passes;
            value = ap (option_and_then (value_at p)) (lookup-put ps b y) ∙ s.value;
          })

  stays_beside : (p n : Path) → meets p n ≡ false → (o : Option Tree) (x : Tree) → no_way_array n o ≡ false → write always n o ≡ Ok x → StaysBeside p o x
  stays_beside [] n apart o x clear is = absurd (never_first n apart)
  stays_beside (a ∷ p) [] apart o x clear is = absurd (never_second a p apart)
  stays_beside (a ∷ p) (b ∷ n) apart (Some (scalar s)) x clear is = absurd cc
  stays_beside (a ∷ p) (b ∷ n) apart (Some (array ts)) x clear is = absurd cc
  stays_beside (a ∷ p) (b ∷ n) apart (Some (document ps)) x clear is =
      let outer = if_ok_value (if_ok (within 99 (write always n (lookup ps b))) (λ (u : Tree). Ok (put ps b u))) (λ (qs : Pairs). Ok (document qs)) x is in
      let inner = if_ok_value (within 99 (write always n (lookup ps b))) (λ (u : Tree). Ok (put ps b u)) outer.0 outer.1 in
      let fits = within_so (write always n (lookup ps b)) inner.0 inner.1 in
      let made : put ps b inner.0 ≡ outer.0 = cc (inner.2) in
      let whole : document outer.0 ≡ x = cc (outer.2) in
      subst (StaysBeside (a ∷ p) (Some (document ps))) (ap document made ∙ whole)
      (beside_field a b p n apart ps inner.0 (λ same. stays_beside p n same (lookup ps b) inner.0 clear fits.is))
  stays_beside (a ∷ p) (b ∷ n) apart None x clear is =
      let outer = if_ok_value (if_ok (within 99 (write always n None)) (λ (u : Tree). Ok (put no_pairs b u))) (λ (qs : Pairs). Ok (document qs)) x is in
      let inner = if_ok_value (within 99 (write always n None)) (λ (u : Tree). Ok (put no_pairs b u)) outer.0 outer.1 in
      let fits = within_so (write always n None) inner.0 inner.1 in
      let made : put no_pairs b inner.0 ≡ outer.0 = cc (inner.2) in
      let whole : document outer.0 ≡ x = cc (outer.2) in
      let s = beside_field a b p n apart no_pairs inner.0 (λ same. stays_beside p n same None inner.0 refl fits.is) in
      subst (StaysBeside (a ∷ p) None) (ap document made ∙ whole) (record { passes = s.passes; value = s.value })

  -- nothing stands at another path in documents that were made on the way
  fresh : (n g : Path) → meets n g ≡ false → (x : Tree) → write always n None ≡ Ok x → cut_off g x ≡ Some x
  fresh [] g apart x is = absurd (never_first g apart)
  fresh (a ∷ n) [] apart x is = absurd (never_second a n apart)
  fresh (a ∷ n) (b ∷ g) apart x is =
      let outer = if_ok_value (if_ok (within 99 (write always n None)) (λ (u : Tree). Ok (put no_pairs a u))) (λ (qs : Pairs). Ok (document qs)) x is in
      let inner = if_ok_value (within 99 (write always n None)) (λ (u : Tree). Ok (put no_pairs a u)) outer.0 outer.1 in
      let fits = within_so (write always n None) inner.0 inner.1 in
      let made : put no_pairs a inner.0 ≡ outer.0 = cc (inner.2) in
      let whole : document outer.0 ≡ x = cc (outer.2) in
      subst (λ (t : Tree). cut_off (b ∷ g) t ≡ Some t) (ap document made ∙ whole)
      (ap (λ (qs : Pairs). Some (document qs)) (by inner.0 (bytes_eq b a) refl (λ same. fresh n g same inner.0 fits.is)))
    where
      by : (y : Tree) (c : Bool) → bytes_eq b a ≡ c → (meets n g ≡ false → cut_off g y ≡ Some y)
          → cut_field (cut_off g) b (pair a y no_pairs) ≡ pair a y no_pairs
      by y false e later = ap (λ (c : Bool). cut_found (cut_off g) b (pair a y no_pairs) (if c then Some y else None)) e
      by y true e later =
          let same : b ≡ a = (bytes_eq-Decides b a).0 e in
          let found : lookup (pair a y no_pairs) b ≡ Some y = ap (λ (c : Bool). if c then Some y else None) e in
          cut_there (cut_off g) b (pair a y no_pairs) y y found (later (behind_first a b n g (sym same) apart))
          ∙ put_same (pair a y no_pairs) b y found

  -- what is made where something else was taken away before
  abbrev Cuts : Path → Result Tree Refusal → Result Tree Refusal → Type 0
  Cuts g (Ok x) s = (y : Tree) × (cut_off g x ≡ Some y) × (s ≡ Ok y)
  Cuts g (Err e) s = s ≡ Err e

  abbrev in_document : Pairs → List ℕ → Result Tree Refusal → Result Tree Refusal
  in_document ps a r = if_ok (if_ok r (λ (u : Tree). Ok (put ps a u))) (λ (qs : Pairs). Ok (document qs))

  fits_too : (x y : Tree) (n : Path) (w : Tree) → Deep n (Some w) x → levels w ≤ 99 → length n + levels v ≤ levels y → levels y ≤ levels x
      → nat_le (levels y) 99 ≡ nat_le (levels x) 99
  fits_too x y n w d low least most = by (nat_le (levels x) 99) refl
    where
      by : (b : Bool) → nat_le (levels x) 99 ≡ b → nat_le (levels y) 99 ≡ b
      by true e = le-leb (levels y) 99 (omega (arith, most, leb-true (levels x) 99 e))
      by false e = lt-leb (levels y) 99 (omega (arith, d.upper, low, least, leb-false (levels x) 99 e))

  -- one field
  module _ (a : List ℕ) (g : Path) (ps : Pairs) where
    put_beside : (b : List ℕ) → bytes_eq b a ≡ false → (r : Result Tree Refusal)
        → Cuts (b ∷ g) (in_document ps a r) (in_document (cut_field (cut_off g) b ps) a r)
    put_beside b apart (Err e) = refl
    put_beside b apart (Ok x) =
        (document (cut_field (cut_off g) b (put ps a x)), refl, ap (λ (qs : Pairs). Ok (document qs)) (put_elsewhere (cut_off g) a b apart x ps))

    put_new : (n : Path) → meets n g ≡ false → (r : Result Tree Refusal) → within 99 (write always n None) ≡ r
        → Cuts (a ∷ g) (in_document ps a r) (in_document ps a r)
    put_new n apart (Err e) is = refl
    put_new n apart (Ok x) is = (
      document (put ps a x),
      ap (λ (qs : Pairs). Some (document qs))
          (cut_there (cut_off g) a (put ps a x) x x (lookup-put ps a x) (fresh n g apart x (within_so (write always n None) x is).is) ∙ put_twice ps a x x),
      refl,
    )

    put_there : (w y x : Tree) → cut_off g x ≡ Some y → (b : Bool)
        → Cuts (a ∷ g) (in_document ps a (if b then Ok x else Err refusals.BadValue)) (in_document (put ps a w) a (if b then Ok y else Err refusals.BadValue))
    put_there w y x is false = refl
    put_there w y x is true = (
      document (put ps a y),
      ap (λ (qs : Pairs). Some (document qs)) (cut_there (cut_off g) a (put ps a x) x y (lookup-put ps a x) is ∙ put_twice ps a x y),
      ap (λ (qs : Pairs). Ok (document qs)) (put_twice ps a w y),
    )

    put_further : (n : Path) (w left : Tree) → levels w ≤ 99 → passes_array n w ≡ false → passes_array n left ≡ false → (r s : Result Tree Refusal)
        → write always n (Some w) ≡ r → write always n (Some left) ≡ s → Cuts g r s
        → Cuts (a ∷ g) (in_document ps a (within 99 r)) (in_document (put ps a left) a (within 99 s))
    put_further n w left low clear still (Err e) s made again cuts = ap (λ (r : Result Tree Refusal). in_document (put ps a left) a (within 99 r)) cuts
    put_further n w left low clear still (Ok x) s made again cuts =
        let y = cuts.0 in
        let d = deep n (Some w) x clear made in
        let c = deep n (Some left) y still (again ∙ cuts.2) in
        let test = fits_too x y n w d low c.lower (cut_off-levels g x y cuts.1) in
        subst (λ (r : Result Tree Refusal). Cuts (a ∷ g) (in_document ps a (within 99 (Ok x))) (in_document (put ps a left) a (within 99 r))) (sym cuts.2)
        (subst (λ (b : Bool). Cuts (a ∷ g) (in_document ps a (within 99 (Ok x))) (in_document (put ps a left) a (if b then Ok y else Err refusals.BadValue)))
        (sym test) (put_there left y x cuts.1 (nat_le (levels x) 99)))

  abbrev Both : Path → Path → Tree → Tree → Type 0
  Both n g t u = Cuts g (write always n (Some t)) (write always n (Some u))

  commute : (n g : Path) → meets n g ≡ false → (t u : Tree) → cut_off g t ≡ Some u → passes_array n t ≡ false → levels t ≤ 100 → Both n g t u
  commute [] g apart t u is clear low = absurd (never_first g apart)
  commute (a ∷ n) [] apart t u is clear low = absurd (never_second a n apart)
  commute (a ∷ n) (b ∷ g) apart (scalar s) u is clear low =
      ap (λ (t : Tree). write always (a ∷ n) (Some t)) (sym (some_one (scalar s) u is))
  commute (a ∷ n) (b ∷ g) apart (array ts) u is clear low = absurd cc
  commute (a ∷ n) (b ∷ g) apart (document ps) u is clear low =
      subst (Both (a ∷ n) (b ∷ g) (document ps)) (some_one (document (cut_field (cut_off g) b ps)) u is)
      (by (bytes_eq a b) refl (λ same w left cut no_array_there fits. commute n g same w left cut no_array_there fits))
    where
      shared : meets n g ≡ false → ((w left : Tree) → cut_off g w ≡ Some left → passes_array n w ≡ false → levels w ≤ 100 → Both n g w left)
          → (o : Option Tree) → lookup ps a ≡ o → Both (a ∷ n) (a ∷ g) (document ps) (document (cut_field (cut_off g) a ps))
      shared on later None e =
          subst (λ (qs : Pairs). Both (a ∷ n) (a ∷ g) (document ps) (document qs)) (sym (cut_missing (cut_off g) a ps e))
          (subst (λ (o : Option Tree). Cuts (a ∷ g) (in_document ps a (within 99 (write always n o))) (in_document ps a (within 99 (write always n o)))) (sym e)
          (put_new a g ps n on (within 99 (write always n None)) refl))
      shared on later (Some w) e =
          let l = leaves n g on w in
          let here : passes_array n w ≡ false = ap (some_passes (passes_array n)) (sym e) ∙ clear in
          let still : passes_array n l.rest ≡ false = (stays n g on w l.rest l.is).passes ∙ here in
          let below : levels w ≤ 99 = omega (arith, low, lookup-levels ps a w e) in
          subst (λ (qs : Pairs). Both (a ∷ n) (a ∷ g) (document ps) (document qs)) (sym (cut_there (cut_off g) a ps w l.rest e l.is))
          (subst (λ (o : Option Tree). Cuts (a ∷ g) (in_document ps a (within 99 (write always n o)))
          (in_document (put ps a l.rest) a (within 99 (write always n (lookup (put ps a l.rest) a))))) (sym e)
          (subst (λ (o : Option Tree). Cuts (a ∷ g) (in_document ps a (within 99 (write always n (Some w))))
          (in_document (put ps a l.rest) a (within 99 (write always n o)))) (sym (lookup-put ps a l.rest))
          (put_further a g ps n w l.rest below here still (write always n (Some w)) (write always n (Some l.rest)) refl refl
          (later w l.rest l.is here (omega (arith, below))))))

      by : (c : Bool) → bytes_eq a b ≡ c
          → (meets n g ≡ false → (w left : Tree) → cut_off g w ≡ Some left → passes_array n w ≡ false → levels w ≤ 100 → Both n g w left)
          → Both (a ∷ n) (b ∷ g) (document ps) (document (cut_field (cut_off g) b ps))
      by false e later =
          subst (λ (o : Option Tree). Cuts (b ∷ g) (in_document ps a (within 99 (write always n (lookup ps a))))
          (in_document (cut_field (cut_off g) b ps) a (within 99 (write always n o)))) (sym (lookup_elsewhere (cut_off g) a b (bytes_differ a b e) ps))
          (put_beside a g ps b (turned a b e) (within 99 (write always n (lookup ps a))))
      by true e later =
          let same : a ≡ b = (bytes_eq-Decides a b).0 e in
          let on = behind_first a b n g same apart in
          subst (λ (k : List ℕ). Both (a ∷ n) (k ∷ g) (document ps) (document (cut_field (cut_off g) k ps))) same (shared on (later on) (lookup ps a) refl)

-- ---- documents

pub off_is : (p g : Path) → meets p g ≡ false → (ps : Pairs) → cut_off g (document ps) ≡ Some (document (cut_at g ps))
off_is [] g apart ps = absurd (never_first g apart)
off_is (a ∷ p) [] apart ps = absurd (never_second a p apart)
off_is (a ∷ p) (b ∷ g) apart ps = refl

pub set_commutes : (v : Tree) (n g : Path) → meets n g ≡ false → (ps : Pairs) → passes_array n (document ps) ≡ false → pairs_levels ps ≤ 99
    → set_at n v (cut_at g ps) ≡ if_ok (set_at n v ps) (λ qs. Ok (cut_at g qs))
set_commutes v [] g apart ps clear low = absurd (never_first g apart)
set_commutes v (a ∷ n) [] apart ps clear low = absurd (never_second a n apart)
set_commutes v (a ∷ n) (b ∷ g) apart ps clear low =
    by (set_at (a ∷ n) v ps) (set_at (a ∷ n) v (cut_at (b ∷ g) ps))
    (commute v (a ∷ n) (b ∷ g) apart (document ps) (document (cut_at (b ∷ g) ps)) refl clear (omega (arith, low)))
  where
    by : (r s : Result Pairs Refusal) → Cuts v (b ∷ g) (if_ok r (λ (qs : Pairs). Ok (document qs))) (if_ok s (λ (qs : Pairs). Ok (document qs)))
        → s ≡ if_ok r (λ qs. Ok (cut_at (b ∷ g) qs))
    by (Ok qs) (Ok zs) cuts =
        let same : document (cut_at (b ∷ g) qs) ≡ cuts.0 = some_one (document (cut_at (b ∷ g) qs)) cuts.0 cuts.1 in
        let is : document zs ≡ cuts.0 = cc (cuts.2) in
        ap Ok (document_one zs (cut_at (b ∷ g) qs) (is ∙ sym same))
    by (Ok qs) (Err e) cuts = absurd cc
    by (Err e) (Ok zs) cuts = absurd cc
    by (Err e) (Err d) cuts = let is : d ≡ e = cc in ap Err is

pub cut_at-levels : (p g : Path) → meets p g ≡ false → (ps : Pairs) → pairs_levels (cut_at g ps) ≤ pairs_levels ps
cut_at-levels p g apart ps = omega (arith, cut_off-levels g (document ps) (document (cut_at g ps)) (off_is p g apart ps))

-- what was put leaves what stands at another path
pub set_stays : (v : Tree) (p n : Path) → meets p n ≡ false → (ps qs : Pairs) → passes_array n (document ps) ≡ false → set_at n v ps ≡ Ok qs
    → Stays p (document ps) (document qs)
set_stays v [] n apart ps qs clear is = absurd (never_first n apart)
set_stays v (a ∷ p) [] apart ps qs clear is = absurd (never_second a p apart)
set_stays v (a ∷ p) (b ∷ n) apart ps qs clear is =
    let s = stays_beside v (a ∷ p) (b ∷ n) apart (Some (document ps)) (document qs) clear
    (ap (λ (r : Result Pairs Refusal). if_ok r (λ (us : Pairs). Ok (document us))) is) in
    record { passes = s.passes; value = λ _. s.value }

pub set_levels : (v : Tree) (n : Path) (ps qs : Pairs) → set_at n v ps ≡ Ok qs → pairs_levels ps ≤ 99 → pairs_levels qs ≤ 99
set_levels v [] ps qs is low = let same : ps ≡ qs = cc in omega (arith, low, ap pairs_levels same)
set_levels v (b ∷ n) ps qs is low =
    let inner = if_ok_value (within 99 (write (always v) n (lookup ps b))) (λ (u : Tree). Ok (put ps b u)) qs is in
    let fits = within_so v (write (always v) n (lookup ps b)) inner.0 inner.1 in
    let made : put ps b inner.0 ≡ qs = cc (inner.2) in
    omega (arith, low, fits.low, pairs_levels-put ps b inner.0, ap pairs_levels made)
