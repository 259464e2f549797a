-- Where a document is put among others in the order of their `_id`s, and which one is taken away.
use Rattle.std.proofs.Common.{◌≡◌, suc, Bool, true, false, List, [], ◌∷◌, ◌++◌, ◌⊎◌, inl, inr, Some, None, refl, sym, ap, subst, ◌∙◌, arith, Option}
use Rattle.std.specs.Prelude.{if◌then◌else◌, All, unwrap_or}
use Rattle.std.specs.Ordering.{is_eq, ordering_reverse}
use Rattle.std.specs.declared.cmp.Ordering.{Ordering}
use Rattle.std.specs.declared.cmp.Ordering.TheVariants as orders
use Rattle.std.proofs.lemmas.Cmp.{alike_right}
use Rattle.bson.specs.Tree.{Tree, Pairs}
use Rattle.value_order.specs.Order.{compare}
use Rattle.value_order.specs.TotalLaws.{compare_total}
use Rattle.entry_model.specs.Documents.{put_document, without_document}
use Rattle.entry_model.specs.LawfulState.{IsRising}
use Rattle.entry_model.specs.State.{by_order, key_of}
use Rattle.entry_model.specs.StateReads.{find_document}
use Rattle.entry_model.proofs.MemberLemmas.{Among, first_of}
use Rattle.entry_model.proofs.KeptSteps.{all_around, all_middle}

abbrev IsBelow : Pairs → Pairs → Type 0
IsBelow d e = compare (key_of d) (key_of e) ≡ orders.Less

rest_rises : (d : Pairs) (ds : List Pairs) → IsRising (d ∷ ds) → IsRising ds
rest_rises d ds h = λ i j e lt below. h (suc i) (suc j) e (omega (arith, lt)) (omega (arith, below))

pub turned : (t u : Tree) (o : Ordering) → compare t u ≡ o → compare u t ≡ ordering_reverse o
turned t u o e = compare_total.antisymm u t ∙ ap ordering_reverse e

-- ---- a document that is put

-- between others, or in place of the one of its `_id`
pub record IsBetween (d : Pairs) (ds : List Pairs) : Type 0 where
  pub front : List Pairs
  pub back : List Pairs
  pub split : ds ≡ front ++ back
  pub put : put_document d ds ≡ front ++ d ∷ back
  pub behind : (e : Pairs) → Among e front → IsBelow e d
  pub before : (e : Pairs) → Among e back → IsBelow d e

pub record IsInstead (d : Pairs) (ds : List Pairs) : Type 0 where
  pub old : Pairs
  pub front : List Pairs
  pub back : List Pairs
  pub split : ds ≡ front ++ old ∷ back
  pub put : put_document d ds ≡ front ++ d ∷ back
  pub same : compare (key_of old) (key_of d) ≡ orders.Equal
  pub behind : (e : Pairs) → Among e front → IsBelow e d
  pub before : (e : Pairs) → Among e back → IsBelow d e

-- the first of them goes in front
more : (d x : Pairs) (front : List Pairs) → IsBelow x d → ((e : Pairs) → Among e front → IsBelow e d) → (e : Pairs) → Among e (x ∷ front) → IsBelow e d
more d x front here h e (inl is) = subst (λ (f : Pairs). IsBelow f d) (sym is) here
more d x front here h e (inr there) = h e there

pub placed : (d : Pairs) (ds : List Pairs) → IsRising ds → IsBetween d ds ⊎ IsInstead d ds
placed d [] h = inl (record { front = []; back = []; split = refl; put = refl; behind = λ e g. absurd g; before = λ e g. absurd g })
placed d (x ∷ ds) h = by (compare (key_of d) (key_of x)) refl (placed d ds (rest_rises x ds h))
  where
    put_is : (o : Ordering) → compare (key_of d) (key_of x) ≡ o → put_document d (x ∷ ds) ≡ by_order o (d ∷ x ∷ ds) (d ∷ ds) (x ∷ put_document d ds)
    put_is o is = ap (λ (p : Ordering). by_order p (d ∷ x ∷ ds) (d ∷ ds) (x ∷ put_document d ds)) is

    by : (o : Ordering) → compare (key_of d) (key_of x) ≡ o → IsBetween d ds ⊎ IsInstead d ds → IsBetween d (x ∷ ds) ⊎ IsInstead d (x ∷ ds)
    by orders.Less less later =
        inl (record { front = []; back = x ∷ ds; split = refl; put = put_is orders.Less less; behind = λ e g. absurd g; before = above })
      where
        above : (e : Pairs) → Among e (x ∷ ds) → IsBelow d e
        above e (inl is) = subst (λ (f : Pairs). IsBelow d f) (sym is) less
        above e (inr there) = compare_total.trans (key_of d) (key_of x) (key_of e) less (first_of IsBelow x ds e h there)
    by orders.Equal tied later = inr (record {
      old = x;
      front = [];
      back = ds;
      split = refl;
      put = put_is orders.Equal tied;
      same = turned (key_of d) (key_of x) orders.Equal tied;
      behind = λ e g. absurd g;
      before = λ e there.
          let over : compare (key_of e) (key_of x) ≡ orders.Greater = turned (key_of x) (key_of e) orders.Less (first_of IsBelow x ds e h there) in
          turned (key_of e) (key_of d) orders.Greater
          (sym (alike_right compare_total (key_of x) (key_of d) (key_of e) (turned (key_of d) (key_of x) orders.Equal tied)) ∙ over);
    })
    by orders.Greater over later =
        let under : IsBelow x d = turned (key_of d) (key_of x) orders.Greater over in
        elim later [
          | inl p ↦ inl (record {
            front = x ∷ p.front;
            back = p.back;
            split = ap (λ (es : List Pairs). x ∷ es) p.split;
            put = put_is orders.Greater over ∙ ap (λ (es : List Pairs). x ∷ es) p.put;
            behind = more d x p.front under p.behind;
            before = p.before;
          })
          | inr p ↦ inr (record {
            old = p.old;
            front = x ∷ p.front;
            back = p.back;
            split = ap (λ (es : List Pairs). x ∷ es) p.split;
            put = put_is orders.Greater over ∙ ap (λ (es : List Pairs). x ∷ es) p.put;
            same = p.same;
            behind = more d x p.front under p.behind;
            before = p.before;
          })
        ]

-- with a document put, all are so that were and as it is
pub all_put : (P : Pairs → Type 0) (d : Pairs) (ds : List Pairs) → IsBetween d ds ⊎ IsInstead d ds → All P ds → P d → All P (put_document d ds)
all_put P d ds (inl b) h here = subst (All P) (sym b.put) (all_middle P b.front b.back d (subst (All P) b.split h) here)
all_put P d ds (inr b) h here = subst (All P) (sym b.put) (all_middle P b.front b.back d (all_around P b.front b.back b.old (subst (All P) b.split h)) here)

-- ---- a document that is taken away

pub record IsTaken (id : Tree) (ds : List Pairs) : Type 0 where
  pub old : Pairs
  pub front : List Pairs
  pub back : List Pairs
  pub split : ds ≡ front ++ old ∷ back
  pub left : without_document id ds ≡ front ++ back
  pub same : compare id (key_of old) ≡ orders.Equal

pub record IsAbsent (id : Tree) (ds : List Pairs) : Type 0 where
  pub left : without_document id ds ≡ ds
  pub missing : find_document ds id ≡ None

tie : (o : Ordering) → is_eq o ≡ true → o ≡ orders.Equal
tie orders.Less e = absurd cc
tie orders.Equal e = refl
tie orders.Greater e = absurd cc

pub taken : (id : Tree) (ds : List Pairs) → IsTaken id ds ⊎ IsAbsent id ds
taken id [] = inr (record { left = refl; missing = refl })
taken id (x ∷ ds) = by (is_eq (compare id (key_of x))) refl (taken id ds)
  where
    left_is : (b : Bool) → is_eq (compare id (key_of x)) ≡ b → without_document id (x ∷ ds) ≡ (if b then ds else x ∷ without_document id ds)
    left_is b is = ap (λ (c : Bool). if c then ds else x ∷ without_document id ds) is

    by : (b : Bool) → is_eq (compare id (key_of x)) ≡ b → IsTaken id ds ⊎ IsAbsent id ds → IsTaken id (x ∷ ds) ⊎ IsAbsent id (x ∷ ds)
    by true is later = inl (record { old = x; front = []; back = ds; split = refl; left = left_is true is; same = tie (compare id (key_of x)) is })
    by false is (inl p) = inl (record {
      old = p.old;
      front = x ∷ p.front;
      back = p.back;
      split = ap (λ (es : List Pairs). x ∷ es) p.split;
      left = left_is false is ∙ ap (λ (es : List Pairs). x ∷ es) p.left;
      same = p.same;
    })
    by false is (inr p) = inr (record {
      left = left_is false is ∙ ap (λ (es : List Pairs). x ∷ es) p.left;
      missing = ap (λ (c : Bool). if c then Some x else find_document ds id) is ∙ p.missing;
    })

-- ---- a document that is found

-- those in front have another `_id`
found_behind : (d : Pairs) (front rest : List Pairs) → ((e : Pairs) → Among e front → IsBelow e d)
    → find_document (front ++ rest) (key_of d) ≡ find_document rest (key_of d)
found_behind d [] rest h = refl
found_behind d (x ∷ front) rest h =
    let above : compare (key_of d) (key_of x) ≡ orders.Greater = turned (key_of x) (key_of d) orders.Less (h x (inl refl)) in
    ap (λ (o : Ordering). if is_eq o then Some x else find_document (front ++ rest) (key_of d)) above ∙ found_behind d front rest (λ e there. h e (inr there))

-- and those behind
found_none : (d : Pairs) (back : List Pairs) → ((e : Pairs) → Among e back → IsBelow d e) → find_document back (key_of d) ≡ None
found_none d [] h = refl
found_none d (x ∷ back) h =
    ap (λ (o : Ordering). if is_eq o then Some x else find_document back (key_of d)) (h x (inl refl)) ∙ found_none d back (λ e there. h e (inr there))

-- none is found of a document that goes between others
pub none_between : (d : Pairs) (ds : List Pairs) → IsBetween d ds → find_document ds (key_of d) ≡ None
none_between d ds b = ap (λ (es : List Pairs). find_document es (key_of d)) b.split ∙ found_behind d b.front b.back b.behind ∙ found_none d b.back b.before

-- the one is found that it takes the place of
pub some_instead : (d : Pairs) (ds : List Pairs) (b : IsInstead d ds) → find_document ds (key_of d) ≡ Some b.old
some_instead d ds b =
    ap (λ (es : List Pairs). find_document es (key_of d)) b.split ∙ found_behind d b.front (b.old ∷ b.back) b.behind
    ∙ ap (λ (o : Ordering). if is_eq o then Some b.old else find_document b.back (key_of d)) (turned (key_of b.old) (key_of d) orders.Equal b.same)

pub document_some : (ds : List Pairs) (id : Tree) (d : Pairs) → find_document ds id ≡ Some d → Among d ds × (compare id (key_of d) ≡ orders.Equal)
document_some [] id d e = absurd cc
document_some (x ∷ ds) id d e = by (is_eq (compare id (key_of x))) refl e (document_some ds id d)
  where
    some_is : Some x ≡ Some d → x ≡ d
    some_is p = ap (λ (o : Option Pairs). unwrap_or o x) p

    by : (b : Bool) → is_eq (compare id (key_of x)) ≡ b → (if b then Some x else find_document ds id) ≡ Some d
        → (find_document ds id ≡ Some d → Among d ds × (compare id (key_of d) ≡ orders.Equal)) → Among d (x ∷ ds) × (compare id (key_of d) ≡ orders.Equal)
    by true same f later =
        let is : x ≡ d = some_is f in (inl (sym is), ap (λ (y : Pairs). compare id (key_of y)) (sym is) ∙ tie (compare id (key_of x)) same)
    by false other f later = let r = later f in (inr r.0, r.1)
