-- A command with one field of its own beside the common ones, read again with another value of that field, which stands last.
use Rattle.std.proofs.Common.{◌≡◌, ◌≢◌, ℕ, Bool, true, false, List, [], ◌∷◌, Option, Some, None, Result, Ok, refl, sym, ap, subst, ◌∙◌}
use Rattle.std.specs.Prelude.{◌==◌, if◌then◌else◌, nat_lt}
use Rattle.std.specs.Str.{bytes_eq}
use Rattle.std.proofs.lemmas.Slice.Eq.{bytes_eq-Decides}
use Rattle.bson.specs.Edits.{cut, items_len, put}
use Rattle.bson.specs.Lawful.{IsPairs, Lacks}
use Rattle.bson.specs.Lookup.{lookup}
use Rattle.bson.specs.Tree.{Tree, scalar, document, array, Pairs, no_pairs, pair, Items, no_items, item}
use Rattle.outcome.specs.Outcome.{◌>>=◌, unless}
use Rattle.path.specs.declared.refusal.Refusal.{Refusal}
use Rattle.path.specs.declared.refusal.Refusal.TheVariants as refusals
use Rattle.command_model.specs.Fields.{CommonFields, common_field, read_fields}
use Rattle.command_model.specs.OutcomeLaws.{passed, step_of}
use Rattle.command_model.specs.Statements.{each_of, statements_in}

equal_names : (a b : List ℕ) → bytes_eq a b ≡ true → bytes_eq b a ≡ true
equal_names a b e = (bytes_eq-Decides b a).1 (sym ((bytes_eq-Decides a b).0 e))

pub other_names : (a b : List ℕ) → a ≢ b → (bytes_eq a b ≡ false) × (bytes_eq b a ≡ false)
other_names a b differ = (at (bytes_eq a b) refl, by (bytes_eq b a) refl)
  where
    at : (c : Bool) → bytes_eq a b ≡ c → c ≡ false
    at true e = absurd (differ ((bytes_eq-Decides a b).0 e))
    at false e = refl

    by : (c : Bool) → bytes_eq b a ≡ c → c ≡ false
    by true e = absurd (differ (sym ((bytes_eq-Decides b a).0 e)))
    by false e = refl

-- ---- what each of the items spells

abbrev pub AreEach : {X : Type 0} → (Tree → Result X Refusal) → Items → List X → Type 0
AreEach read no_items [] = Unit {0}
AreEach read no_items (x ∷ xs) = ⊥
AreEach read (item t ts) [] = ⊥
AreEach read (item t ts) (x ∷ xs) = (read t ≡ Ok x) × AreEach read ts xs

module _ {X : Type 0} (read : Tree → Result X Refusal) where
  abbrev pub all_in : Tree → Result (List X) Refusal
  all_in t = statements_in t >>= each_of read

  are_each : (ts : Items) (xs : List X) → each_of read ts ≡ Ok xs → AreEach read ts xs
  are_each no_items [] e = tt
  are_each no_items (x ∷ xs) e = absurd cc
  are_each (item t ts) xs e =
      let first = step_of (read t) (λ x. each_of read ts >>= (λ others. let r : Result (List X) Refusal = Ok (x ∷ others) in r)) xs e in
      let more : List X → Result (List X) Refusal = λ others. Ok (first.0 ∷ others) in
      let later = step_of (each_of read ts) more xs first.2 in
      let same : first.0 ∷ later.0 ≡ xs = cc in
      subst (AreEach read (item t ts)) same (first.1, are_each ts later.0 later.1)

  -- the items of an array, and what they spell
  pub record HasItems (t : Tree) (xs : List X) : Type 0 where
    pub items : Items
    pub is : t ≡ array items
    pub each : AreEach read items xs
    pub some : xs ≢ []

  not_empty : (ts : Items) (xs : List X) → AreEach read ts xs → (items_len ts == 0) ≡ false → xs ≢ []
  not_empty no_items xs h e = λ empty. absurd cc
  not_empty (item t ts) [] h e = absurd h
  not_empty (item t ts) (x ∷ xs) h e = λ empty. absurd cc

  pub has_items : (t : Tree) (xs : List X) → all_in t ≡ Ok xs → HasItems t xs
  has_items (scalar s) xs e = absurd cc
  has_items (document ps) xs e = absurd cc
  has_items (array ts) xs e =
      let s = step_of (statements_in (array ts)) (each_of read) xs e in
      let many = passed (nat_lt 1000 (items_len ts)) refusals.TooMany (unless (items_len ts == 0) refusals.BadValue (Ok ts)) s.0 s.1 in
      let some = passed (items_len ts == 0) refusals.BadValue (Ok ts) s.0 many.1 in
      let same : ts ≡ s.0 = cc in
      let each = subst (λ (us : Items). AreEach read us xs) (sym same) (are_each s.0 xs s.2) in
      record { items = ts; is = refl; each = each; some = not_empty ts xs each some.0 }

  pub one_in : (t : Tree) (x : X) → read t ≡ Ok x → all_in (array (item t no_items)) ≡ Ok (x ∷ [])
  one_in t x e = ap (λ (r : Result X Refusal). r >>= (λ y. Ok (y ∷ []))) e

-- ---- the fields

module _ {F X : Type 0} (common : F → CommonFields) (own : F → Option X) (with_common : F → CommonFields → F) (with_own : F → X → F)
    (common_with : (f : F) (c : CommonFields) → common (with_common f c) ≡ c) (own_kept : (f : F) (c : CommonFields) → own (with_common f c) ≡ own f)
    (common_kept : (f : F) (x : X) → common (with_own f x) ≡ common f) (own_with : (f : F) (x : X) → own (with_own f x) ≡ Some x)
    (read : Tree → Result X Refusal) (field : List ℕ) where
  abbrev pub by_field : F → List ℕ → Tree → Result F Refusal
  by_field f name t =
      if bytes_eq name field then (read t >>= (λ x. Ok (with_own f x))) else (common_field (common f) name t >>= (λ c. Ok (with_common f c)))

  abbrev its : F → Tree → Result F Refusal
  its f t = read t >>= (λ x. Ok (with_own f x))

  abbrev others : F → List ℕ → Tree → Result F Refusal
  others f name t = common_field (common f) name t >>= (λ c. Ok (with_common f c))

  -- the fields that were read, with this one in place of its own
  pub record Again (ps : Pairs) (g found : F) (y : X) : Type 0 where
    pub to : F
    pub is : read_fields by_field g ps ≡ Ok to
    pub common_is : common to ≡ common found
    pub own_is : own to ≡ Some y

  -- one field in front
  in_front : (name : List ℕ) (t : Tree) (ps : Pairs) (f g h found : F) (y : X) → bytes_eq name field ≡ false → others f name t ≡ Ok h → common g ≡ common f
      → ((k : F) → common k ≡ common h → Again ps k found y) → Again (pair name t ps) g found y
  in_front name t ps f g h found y other is same later =
      let c = step_of (common_field (common f) name t) (λ c. Ok (with_common f c)) h is in
      let ends : with_common f c.0 ≡ h = cc in
      let k = with_common g c.0 in
      let a = later k (common_with g c.0 ∙ sym (common_with f c.0) ∙ ap common ends) in
      record {
        to = a.to;
        is = ap (λ (b : Bool). (if b then its g t else others g name t) >>= (λ n. read_fields by_field n ps)) other
            ∙ ap (λ (d : CommonFields). (common_field d name t >>= (λ e. Ok (with_common g e))) >>= (λ n. read_fields by_field n ps)) same
            ∙ ap (λ (r : Result CommonFields Refusal). (r >>= (λ e. Ok (with_common g e))) >>= (λ n. read_fields by_field n ps)) c.1 ∙ a.is;
        common_is = a.common_is;
        own_is = a.own_is;
      }

  -- what another field leads to
  past_other : (name : List ℕ) (t : Tree) (ps : Pairs) (f found : F) → bytes_eq name field ≡ false → read_fields by_field f (pair name t ps) ≡ Ok found
      → (h : F) × (others f name t ≡ Ok h) × (read_fields by_field h ps ≡ Ok found) × (own h ≡ own f)
  past_other name t ps f found other e =
      let at = step_of (others f name t) (λ n. read_fields by_field n ps) found
      (sym (ap (λ (b : Bool). (if b then its f t else others f name t) >>= (λ n. read_fields by_field n ps)) other) ∙ e) in
      let c = step_of (common_field (common f) name t) (λ c. Ok (with_common f c)) at.0 at.1 in
      let ends : with_common f c.0 ≡ at.0 = cc in
      (at.0, at.1, at.2, ap own (sym ends) ∙ own_kept f c.0)

  -- where the field isn't there
  module _ (u : Tree) (y : X) (reads : read u ≡ Ok y) where
    lacking : (ps : Pairs) (f found : F) → Lacks ps field → read_fields by_field f ps ≡ Ok found
        → (own found ≡ own f) × ((g : F) → common g ≡ common f → Again (put ps field u) g found y)
    lacking no_pairs f found lacks e =
        let same : f ≡ found = cc in (
          ap own (sym same),
          λ g alike. record {
            to = with_own g y;
            is = ap (λ (b : Bool). (if b then its g u else others g field u) >>= (λ n. read_fields by_field n no_pairs)) ((bytes_eq-Decides field field).1 refl)
                ∙ ap (λ (r : Result X Refusal). (r >>= (λ x. Ok (with_own g x))) >>= (λ n. read_fields by_field n no_pairs)) reads;
            common_is = common_kept g y ∙ alike ∙ ap common same;
            own_is = own_with g y;
          },
        )
    lacking (pair name t ps) f found lacks e =
        let differ = other_names field name lacks.0 in
        let p = past_other name t ps f found differ.1 e in
        let later = lacking ps p.0 found lacks.1 p.2 in (
          later.0 ∙ p.3,
          λ g alike. subst (λ (qs : Pairs). Again qs g found y)
              (sym (ap (λ (b : Bool). if b then pair name u ps else pair name t (put ps field u)) differ.0))
              (in_front name t (put ps field u) f g p.0 found y differ.1 p.1 alike later.1),
        )

  -- What is known of the field that was read.
  pub record Field (ps : Pairs) (f found : F) (x : X) : Type 0 where
    pub value : Tree
    pub there : lookup ps field ≡ Some value
    pub reads : read value ≡ Ok x
    pub again : (u : Tree) (y : X) → read u ≡ Ok y → (g : F) → common g ≡ common f → Again (put (cut ps field) field u) g found y

  pub its_field : (ps : Pairs) (f found : F) (x : X) → IsPairs ps → own f ≡ None → own found ≡ Some x → read_fields by_field f ps ≡ Ok found
      → Field ps f found x
  its_field no_pairs f found x h none some e =
      let same : f ≡ found = cc in
      let never : None ≡ Some x = sym none ∙ ap own same ∙ some in
      absurd cc
  its_field (pair name t ps) f found x h none some e =
      at (bytes_eq name field) refl (λ k g l. its_field ps k found x h.3 g some l)
    where
      at : (b : Bool) → bytes_eq name field ≡ b → ((k : F) → own k ≡ None → read_fields by_field k ps ≡ Ok found → Field ps k found x)
          → Field (pair name t ps) f found x
      at true same later =
          let named : bytes_eq field name ≡ true = equal_names name field same in
          let first = step_of (its f t) (λ n. read_fields by_field n ps) found
          (sym (ap (λ (b : Bool). (if b then its f t else others f name t) >>= (λ n. read_fields by_field n ps)) same) ∙ e) in
          let it = step_of (read t) (λ y. Ok (with_own f y)) first.0 first.1 in
          let ends : with_own f it.0 ≡ first.0 = cc in
          let lacks : Lacks ps field = subst (Lacks ps) ((bytes_eq-Decides name field).0 same) h.2 in
          let own_is : own first.0 ≡ Some it.0 = ap own (sym ends) ∙ own_with f it.0 in
          let its_own : Some it.0 ≡ Some x = sym own_is ∙ sym (lacking t it.0 it.1 ps first.0 found lacks first.2).0 ∙ some in
          let its_value : it.0 ≡ x = cc in
          record {
            value = t;
            there = ap (λ (b : Bool). if b then Some t else lookup ps field) named;
            reads = it.1 ∙ ap (λ (y : X). Ok y) its_value;
            again = λ u y reads g alike. subst (λ (qs : Pairs). Again (put qs field u) g found y)
                (sym (ap (λ (b : Bool). if b then ps else pair name t (cut ps field)) named))
                ((lacking u y reads ps first.0 found lacks first.2).1 g (alike ∙ sym (common_kept f it.0) ∙ ap common ends));
          }
      at false other later =
          let p = past_other name t ps f found other e in
          let l = later p.0 (p.3 ∙ none) p.2 in
          let differ : bytes_eq field name ≡ false = flip (bytes_eq field name) refl in
          record {
            value = l.value;
            there = ap (λ (b : Bool). if b then Some t else lookup ps field) differ ∙ l.there;
            reads = l.reads;
            again = λ u y reads g alike. subst (λ (qs : Pairs). Again (put qs field u) g found y)
                (sym (ap (λ (b : Bool). if b then ps else pair name t (cut ps field)) differ))
                (subst (λ (qs : Pairs). Again qs g found y)
                (sym (ap (λ (b : Bool). if b then pair name u (cut ps field) else pair name t (put (cut ps field) field u)) differ))
                (in_front name t (put (cut ps field) field u) f g p.0 found y other p.1 alike (l.again u y reads)));
          }
        where
          flip : (b : Bool) → bytes_eq field name ≡ b → b ≡ false
          flip true is = let never : true ≡ false = sym (equal_names field name is) ∙ other in absurd cc
          flip false is = refl
