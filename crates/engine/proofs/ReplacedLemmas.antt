-- Documents in whose places others go, among some of a collection and among all of it.
use Rattle.std.proofs.Common.{◌≡◌, Bool, true, false, List, [], ◌∷◌, map, Option, Some, None, refl, sym, ap, subst, ◌∙◌}
use Rattle.std.specs.Prelude.{All, if◌then◌else◌, is_some, not}
use Rattle.std.specs.List.{filter}
use Rattle.std.specs.Ordering.{is_eq, ordering_reverse}
use Rattle.std.specs.declared.cmp.Ordering.{Ordering}
use Rattle.std.specs.declared.cmp.Ordering.TheVariants as orders
use Rattle.std.proofs.lemmas.List.Elements.{All-head, All-tail}
use Rattle.bson.specs.Tree.{Tree, Pairs}
use Rattle.value_order.specs.Order.{compare}
use Rattle.value_order.specs.TotalLaws.{compare_total}
use Rattle.entry_model.specs.Documents.{put_document}
use Rattle.entry_model.specs.LawfulState.{IsRising, IsStorable}
use Rattle.entry_model.specs.State.{by_order}
use Rattle.entry_model.specs.StateReads.{find_document}
use Rattle.database_model.specs.Documents.{key_of}
use Rattle.engine.specs.Putting.{AreWritesOf, IsWriteOf}
use Rattle.engine.specs.Storing.{IsReplacedIn}
use Rattle.statements.specs.Updating.{HaveOld, news_of, replaced_in, seen}
use Rattle.statements.specs.WriteLaws.{AreThere}
use Rattle.statements.specs.declared.statements.Write.{Write}
use Rattle.statements.proofs.MergingLemmas.{Above, Ascends, ascends, Each}
use Rattle.database_model.proofs.Ordered.{flipped}

-- ---- a document that is put among others is found by its `_id`, and each other as before

put_found : (new : Pairs) (ds : List Pairs) (id : Tree)
    → find_document (put_document new ds) id ≡ (if is_eq (compare id (key_of new)) then Some new else find_document ds id)
put_found new [] id = refl
put_found new (d ∷ ds) id = at (compare (key_of new) (key_of d)) refl (put_found new ds id)
  where
    -- the two have one key
    tied_to : compare (key_of new) (key_of d) ≡ orders.Equal → (r : Ordering) → compare id (key_of new) ≡ r
        → compare id (key_of d) ≡ ordering_reverse (ordering_reverse r)
    tied_to is r e =
        flipped compare_total (key_of d) id (ordering_reverse r)
        (sym (compare_total.congr (key_of new) (key_of d) id is) ∙ flipped compare_total id (key_of new) r e)

    instead : compare (key_of new) (key_of d) ≡ orders.Equal → (r : Ordering) → compare id (key_of new) ≡ r
        → (if is_eq r then Some new else find_document ds id) ≡ (if is_eq r then Some new else find_document (d ∷ ds) id)
    instead is orders.Equal e = refl
    instead is orders.Less e = ap (λ (r : Ordering). if is_eq r then Some d else find_document ds id) (sym (tied_to is orders.Less e))
    instead is orders.Greater e = ap (λ (r : Ordering). if is_eq r then Some d else find_document ds id) (sym (tied_to is orders.Greater e))

    Later : Type 0
    Later = find_document (put_document new ds) id ≡ (if is_eq (compare id (key_of new)) then Some new else find_document ds id)

    behind : compare (key_of new) (key_of d) ≡ orders.Greater → Later → (r : Ordering) → compare id (key_of d) ≡ r
        → (if is_eq r then Some d else find_document (put_document new ds) id)
        ≡ (if is_eq (compare id (key_of new)) then Some new else (if is_eq r then Some d else find_document ds id))
    behind is later orders.Equal e =
        let other : compare id (key_of new) ≡ orders.Less =
        compare_total.congr id (key_of d) (key_of new) e ∙ flipped compare_total (key_of new) (key_of d) orders.Greater is in
        ap (λ (r : Ordering). if is_eq r then Some new else Some d) (sym other)
    behind is later orders.Less e = later
    behind is later orders.Greater e = later

    at : (r : Ordering) → compare (key_of new) (key_of d) ≡ r → Later
        → find_document (by_order r (new ∷ d ∷ ds) (new ∷ ds) (d ∷ put_document new ds)) id
        ≡ (if is_eq (compare id (key_of new)) then Some new else find_document (d ∷ ds) id)
    at orders.Less is later = refl
    at orders.Equal is later = instead is (compare id (key_of new)) refl
    at orders.Greater is later = behind is later (compare id (key_of d)) refl

-- ---- some of the documents

-- what is found in the one is found in the other
abbrev pub IsSub : List Pairs → List Pairs → Type 0
IsSub some all = (id : Tree) (d : Pairs) → find_document some id ≡ Some d → find_document all id ≡ Some d

sub_put : (new : Pairs) (some all : List Pairs) → IsSub some all → IsSub (put_document new some) (put_document new all)
sub_put new some all sub id d e = put_found new all id ∙ at (is_eq (compare id (key_of new))) (sym (put_found new some id) ∙ e)
  where
    at : (b : Bool) → (if b then Some new else find_document some id) ≡ Some d → (if b then Some new else find_document all id) ≡ Some d
    at true f = f
    at false f = sub id d f

-- what is found behind a document has a greater key
found_above : (x : Pairs) (ds : List Pairs) (id : Tree) (d : Pairs) → Each (Above x) ds → find_document ds id ≡ Some d
    → Above x d × (compare id (key_of d) ≡ orders.Equal)
found_above x [] id d above e = absurd cc
found_above x (y ∷ ds) id d above e = at (compare id (key_of y)) refl e (found_above x ds id d above.1)
  where
    at : (r : Ordering) → compare id (key_of y) ≡ r → (if is_eq r then Some y else find_document ds id) ≡ Some d
        → (find_document ds id ≡ Some d → Above x d × (compare id (key_of d) ≡ orders.Equal)) → Above x d × (compare id (key_of d) ≡ orders.Equal)
    at orders.Equal is f later = let same : y ≡ d = cc in (subst (Above x) same above.0, ap (λ (z : Pairs). compare id (key_of z)) (sym same) ∙ is)
    at orders.Less is f later = later f
    at orders.Greater is f later = later f

sub_ascending : (p : Pairs → Bool) (ds : List Pairs) → Ascends ds → IsSub (filter p ds) ds
sub_ascending p [] up id d e = e
sub_ascending p (x ∷ ds) up id d e = at (p x) e (sub_ascending p ds up.1 id d)
  where
    here : (b : Bool) → (find_document (filter p ds) id ≡ Some d → find_document ds id ≡ Some d)
        → (if b then Some x else find_document (filter p ds) id) ≡ Some d → (if b then Some x else find_document ds id) ≡ Some d
    here true later f = f
    here false later f = later f

    other : (r : Ordering) → compare id (key_of x) ≡ r → find_document ds id ≡ Some d → (if is_eq r then Some x else find_document ds id) ≡ Some d
    other orders.Equal is f =
        let above = found_above x ds id d up.0 f in
        absurd (let no : orders.Equal ≡ orders.Less = sym above.1 ∙ compare_total.congr id (key_of x) (key_of d) is ∙ above.0 in cc)
    other orders.Less is f = f
    other orders.Greater is f = f

    at : (b : Bool) → find_document (if b then x ∷ filter p ds else filter p ds) id ≡ Some d
        → (find_document (filter p ds) id ≡ Some d → find_document ds id ≡ Some d) → find_document (x ∷ ds) id ≡ Some d
    at true f later = here (is_eq (compare id (key_of x))) later f
    at false f later = other (compare id (key_of x)) refl (later f)

pub sub_filter : (p : Pairs → Bool) (ds : List Pairs) → IsRising ds → IsSub (filter p ds) ds
sub_filter p ds up = sub_ascending p ds (ascends ds up)

-- ---- writes

write_among : (some all : List Pairs) (w : Write) → IsSub some all → w.old ≡ replaced_in some w
    → (w.is_new ≡ false → is_some (find_document some (key_of w.new)) ≡ true) → IsStorable w.new → IsWriteOf all w
write_among some all w sub old there storable = at w.is_new refl old (find_document some (key_of w.new)) refl
  where
    at : (b : Bool) → w.is_new ≡ b → w.old ≡ (if b then None else find_document some (key_of w.new)) → (o : Option Pairs)
        → find_document some (key_of w.new) ≡ o → IsWriteOf all w
    at true is e o found = record {
      kind = is ∙ ap (λ (x : Option Pairs). not (is_some x)) (sym e);
      there = subst (λ (x : Option Pairs). IsReplacedIn x w.new all) (sym e) tt;
      storable = storable;
    }
    at false is e (Some was) found = record {
      kind = is ∙ ap (λ (x : Option Pairs). not (is_some x)) (sym (e ∙ found));
      there = subst (λ (x : Option Pairs). IsReplacedIn x w.new all) (sym (e ∙ found)) (sub (key_of w.new) was found);
      storable = storable;
    }
    at false is e None found = absurd (let no : false ≡ true = ap is_some (sym found) ∙ there is in cc)

pub writes_among : (some all : List Pairs) (ws : List Write) → IsSub some all → HaveOld some ws → AreThere some (map seen ws) → All IsStorable (news_of ws)
    → AreWritesOf all ws
writes_among some all [] sub old there storable = tt
writes_among some all (w ∷ ws) sub old there storable = (
  write_among some all w sub old.0 there.0 (All-head IsStorable w.new (news_of ws) storable),
  writes_among (put_document w.new some) (put_document w.new all) ws (sub_put w.new some all sub) old.1 there.1
      (All-tail IsStorable w.new (news_of ws) storable),
)
