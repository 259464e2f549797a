-- Entries of some keys, and what they make of a fold to which no others are lent.
use Rattle.std.proofs.Common.{◌≡◌, ℕ, zero, suc, ◌+◌, ◌<◌, ◌≤◌, Bool, true, false, List, [], ◌∷◌, ◌++◌, length, drop, take}
use Rattle.std.proofs.Common.{◌⊎◌, inl, inr, Some}
use Rattle.std.proofs.Common.{refl, sym, ap, ◌∙◌, subst, arith, Result, Ok, Err}
use Rattle.std.specs.Prelude.{OnOk, if◌then◌else◌, is_ok, slice_index_or}
use Rattle.std.specs.Global.{Vec}
use Rattle.std.specs.Ordering.{ordering_reverse}
use Rattle.std.specs.Cmp.Lexicographic.{nat_list_cmp_total}
use Rattle.std.specs.declared.cmp.Ordering.TheVariants.{Less, Equal, Greater}
use Rattle.bson.specs.Tree.{Pairs}
use Rattle.tree_model.specs.Keys.{Each, Entry, IsUnder, keep_if, key_cmp}
use Rattle.entry_model.specs.StateEntries.{key_under}
use Rattle.collections.specs.Folding.{Lends}
use Rattle.collections.specs.Picking.{IsKeyed, IsNextKey, IsPassedTo, Picks, Stays, after, after_by, keys_of, left, meets}
use Rattle.collections.specs.Picking.{meets_by, picked, wanted}
use Rattle.collections.specs.declared.folding.Lending.{Lending}
use Rattle.collections.specs.declared.picking.Picking.{Picking}

-- ---- keys and entries, part after part

pub picked_on : (keys : List (List ℕ)) (xs ys : List Entry) → picked keys (xs ++ ys) ≡ picked keys xs ++ picked (left keys xs) ys
picked_on keys [] ys = refl
picked_on keys (x ∷ xs) ys = by (meets keys x.key) (picked_on (after x.key keys) xs ys)
  where
    by : (b : Bool) → picked (after x.key keys) (xs ++ ys) ≡ picked (after x.key keys) xs ++ picked (left (after x.key keys) xs) ys
        → keep_if b x (picked (after x.key keys) (xs ++ ys)) ≡ keep_if b x (picked (after x.key keys) xs) ++ picked (left (after x.key keys) xs) ys
    by true later = ap (λ zs. x ∷ zs) later
    by false later = later

pub left_on : (keys : List (List ℕ)) (xs ys : List Entry) → left keys (xs ++ ys) ≡ left (left keys xs) ys
left_on keys [] ys = refl
left_on keys (x ∷ xs) ys = left_on (after x.key keys) xs ys

-- where no key is wanted
none_picked : (xs : List Entry) → picked [] xs ≡ []
none_picked [] = refl
none_picked (x ∷ xs) = none_picked xs

none_left : (xs : List Entry) → left [] xs ≡ []
none_left [] = refl
none_left (x ∷ xs) = none_left xs

-- what lies below the first key that is wanted
pub over : (key k : List ℕ) → IsUnder key k → key_cmp k key ≡ Greater
over key k under = nat_list_cmp_total.antisymm k key ∙ ap ordering_reverse under

module _ (k : List ℕ) (ks : List (List ℕ)) where
  after_under : (key : List ℕ) → IsUnder key k → after key (k ∷ ks) ≡ k ∷ ks
  after_under key under = ap (λ o. after_by o k ks (after key ks)) (over key k under)

  under_picked : (xs : List Entry) → Each (λ (x : Entry). IsUnder x.key k) xs → picked (k ∷ ks) xs ≡ []
  under_picked [] h = refl
  under_picked (x ∷ xs) h =
      (λ i. keep_if (meets_by (over x.key k h.0 i) (meets ks x.key)) x (picked (after_under x.key h.0 i) xs)) ∙ under_picked xs h.1

  under_left : (xs : List Entry) → Each (λ (x : Entry). IsUnder x.key k) xs → left (k ∷ ks) xs ≡ k ∷ ks
  under_left [] h = refl
  under_left (x ∷ xs) h = ap (λ l. left l xs) (after_under x.key h.0) ∙ under_left xs h.1

-- ---- the program's steps

pub drop_all : {X : Type 0} (xs : List X) (n : ℕ) → length xs ≤ n → drop n xs ≡ []
drop_all [] zero le = refl
drop_all [] (suc n) le = refl
drop_all (x ∷ xs) zero le = absurd (omega arith)
drop_all (x ∷ xs) (suc n) le = drop_all xs n (omega arith)

long_keys : (number : ℕ) (ts : List (Vec ℕ)) → length (keys_of number ts) ≡ length ts
long_keys number [] = refl
long_keys number (t ∷ ts) = ap suc (long_keys number ts)

nothing_more : (es : List Entry) → es ++ [] ≡ es
nothing_more [] = refl
nothing_more (e ∷ es) = ap (λ zs. e ∷ zs) (nothing_more es)

-- once all texts are passed no key is wanted
pub none_left_of : (number passed : ℕ) (ts : List (Vec ℕ)) → length ts ≤ passed → drop passed (keys_of number ts) ≡ []
none_left_of number passed ts done = drop_all (keys_of number ts) passed (omega (arith, done, long_keys number ts))

pub none_keyed : (key : List ℕ) (ks : List (List ℕ)) → ks ≡ [] → IsKeyed key ks
none_keyed key [] none = tt
none_keyed key (k ∷ ks) none = absurd cc

-- the next key, and those behind it
pub drop_next : (key : List ℕ) (ks : List (List ℕ)) (i : ℕ) → IsKeyed key (drop i ks) → i < length ks → drop i ks ≡ key ∷ drop (suc i) ks
drop_next key [] i keyed lt = absurd (omega (arith, lt))
drop_next key (k ∷ ks) zero keyed lt = ap (λ z. z ∷ ks) (sym keyed)
drop_next key (k ∷ ks) (suc i) keyed lt = drop_next key ks i keyed (omega (arith, lt))

pub next_here : (number passed : ℕ) (ts : List (Vec ℕ)) (key : List ℕ) → IsKeyed key (drop passed (keys_of number ts)) → passed < length ts
    → drop passed (keys_of number ts) ≡ key ∷ drop (suc passed) (keys_of number ts)
next_here number passed ts key keyed lt = drop_next key (keys_of number ts) passed keyed (omega (arith, lt, long_keys number ts))

-- what is at a place of the texts, or none
pub keyed_at : (number : ℕ) (ts : List (Vec ℕ)) (i : ℕ) (t : Vec ℕ) (key : List ℕ) → i < length ts → ((d : Vec ℕ) → t ≡ slice_index_or ts i d)
    → key ≡ key_under number 0 t.items → IsKeyed key (drop i (keys_of number ts))
keyed_at number [] i t key lt is so = absurd (omega (arith, lt))
keyed_at number (u ∷ ts) zero t key lt is so = so ∙ ap (λ (v : Vec ℕ). key_under number 0 v.items) (is t)
keyed_at number (u ∷ ts) (suc i) t key lt is so = keyed_at number ts i t key (omega (arith, lt)) is so

module _ {F : Type 0} (makes : F → List Pairs → F → Type 0) (start now : Picking F) (all : List Entry) (h : Picks makes start all now) where
  -- nothing of what follows is picked, and no key is passed
  passes : (more : List Entry) → picked (wanted now) more ≡ [] → left (wanted now) more ≡ wanted now → Picks makes start (all ++ more) now
  passes more none kept = by h.rest
    where
      by : (wanted now ≡ left (wanted start) all) ⊎ ((wanted now ≡ []) × Stays makes now.lending) → Picks makes start (all ++ more) now
      by (inl is) = record {
        number = h.number;
        texts = h.texts;
        next = h.next;
        rest = inl (sym (left_on (wanted start) all more ∙ ap (λ l. left l more) (sym is) ∙ kept));
        lent = subst (λ es. Lends makes start.lending es now.lending)
            (sym (picked_on (wanted start) all more ∙ ap (λ l. picked (wanted start) all ++ picked l more) (sym is)
            ∙ ap (λ es. picked (wanted start) all ++ es) none ∙ nothing_more (picked (wanted start) all)))
            h.lent;
      }
      by (inr (gone, stays)) = record {
        number = h.number;
        texts = h.texts;
        next = h.next;
        rest = inr (gone, stays);
        lent = subst (λ es. Lends makes start.lending es now.lending) (sym (picked_on (wanted start) all more))
            (stays start.lending (picked (wanted start) all) (picked (left (wanted start) all) more) h.lent);
      }

  pub passes_all : length now.texts.now ≤ now.passed → (more : List Entry) → Picks makes start (all ++ more) now
  passes_all done more =
      let none : wanted now ≡ [] = none_left_of now.number now.passed now.texts.now done in
      passes more (ap (λ l. picked l more) none ∙ none_picked more) (ap (λ l. left l more) none ∙ none_left more ∙ sym none)

  pub passes_under : now.passed < length now.texts.now → (more : List Entry) → Each (λ (x : Entry). IsUnder x.key now.key.items) more
      → Picks makes start (all ++ more) now
  passes_under some more under =
      let k = now.key.items in
      let ks : List (List ℕ) = drop (suc now.passed) (keys_of now.number now.texts.now) in
      let is : wanted now ≡ k ∷ ks = next_here now.number now.passed now.texts.now k h.next.keyed some in
      passes more (ap (λ l. picked l more) is ∙ under_picked k ks more under) (ap (λ l. left l more) is ∙ under_left k ks more under ∙ sym is)

  module _ (x : Entry) (next : ℕ) (key : Vec ℕ) (b : Bool)
      (to : IsPassedTo now.number x.key (wanted now) (drop next (keys_of now.number now.texts.now)) key.items b) where
    -- an entry that isn't picked
    pub passes_one : b ≡ false → Picks makes start (all ++ x ∷ []) (record now { passed = next; key = key })
    passes_one is_missed = by h.rest
      where
        missed : meets (wanted now) x.key ≡ false
        missed = sym to.met ∙ is_missed

        by : (wanted now ≡ left (wanted start) all) ⊎ ((wanted now ≡ []) × Stays makes now.lending)
            → Picks makes start (all ++ x ∷ []) (record now { passed = next; key = key })
        by (inl is) = record {
          number = h.number;
          texts = h.texts;
          next = to.first;
          rest = inl (to.rest ∙ ap (after x.key) is ∙ sym (left_on (wanted start) all (x ∷ [])));
          lent = subst (λ es. Lends makes start.lending es now.lending)
              (sym (picked_on (wanted start) all (x ∷ []) ∙ ap (λ l. picked (wanted start) all ++ picked l (x ∷ [])) (sym is)
              ∙ ap (λ b. picked (wanted start) all ++ keep_if b x []) missed ∙ nothing_more (picked (wanted start) all)))
              h.lent;
        }
        by (inr (gone, stays)) = record {
          number = h.number;
          texts = h.texts;
          next = to.first;
          rest = inr (to.rest ∙ ap (after x.key) gone, stays);
          lent = subst (λ es. Lends makes start.lending es now.lending) (sym (picked_on (wanted start) all (x ∷ [])))
              (stays start.lending (picked (wanted start) all) (picked (left (wanted start) all) (x ∷ [])) h.lent);
        }

    module _ (is_met : b ≡ true) (lending : Lending F)
        (takes : Lends makes start.lending (picked (wanted start) all) now.lending
        → Lends makes start.lending (picked (wanted start) all ++ x ∷ []) lending) where
      met : meets (wanted now) x.key ≡ true
      met = sym to.met ∙ is_met

      is_left : wanted now ≡ left (wanted start) all
      is_left = by h.rest
        where
          by : (wanted now ≡ left (wanted start) all) ⊎ ((wanted now ≡ []) × Stays makes now.lending) → wanted now ≡ left (wanted start) all
          by (inl is) = is
          by (inr (gone, stays)) = absurd (let no : true ≡ false = sym met ∙ ap (λ l. meets l x.key) gone in cc)

      lent_one : Lends makes start.lending (picked (wanted start) (all ++ x ∷ [])) lending
      lent_one = subst (λ es. Lends makes start.lending es lending)
          (sym (picked_on (wanted start) all (x ∷ []) ∙ ap (λ l. picked (wanted start) all ++ picked l (x ∷ [])) (sym is_left)
          ∙ ap (λ b. picked (wanted start) all ++ keep_if b x []) met)) (takes h.lent)

      -- one that is picked
      pub takes_one : Picks makes start (all ++ x ∷ []) (record now { passed = next; key = key; lending = lending })
      takes_one = record {
        number = h.number;
        texts = h.texts;
        next = to.first;
        rest = inl (to.rest ∙ ap (after x.key) is_left ∙ sym (left_on (wanted start) all (x ∷ [])));
        lent = lent_one;
      }

      -- and the last
      pub takes_last : Stays makes lending
          → Picks makes start (all ++ x ∷ []) (record now { passed = length now.texts.now; key = key; lending = lending })
      takes_last stays =
          let none = none_left_of now.number (length now.texts.now) now.texts.now (omega arith) in
          record {
            number = h.number;
            texts = h.texts;
            next = record {
              front = to.first.front;
              keyed = none_keyed key.items (drop (length now.texts.now) (keys_of now.number now.texts.now)) none;
            };
            rest = inr (none, stays);
            lent = lent_one;
          }

-- before any entry
pub picks_none : {F : Type 0} (makes : F → List Pairs → F → Type 0) (start : Picking F) → IsNextKey start.number start.key.items (wanted start)
    → Lends makes start.lending [] start.lending → Picks makes start [] start
picks_none makes start next lent = record { number = refl; texts = refl; next = next; rest = inl refl; lent = lent }

-- ---- the next key

-- Some keys below an entry's were passed: nothing is different for it.
pub record ComeTo (number : ℕ) (key : List ℕ) (before left : List (List ℕ)) (next : List ℕ) : Type 0 where
  pub first : IsNextKey number next left
  pub rest : after key left ≡ after key before
  pub met : meets left key ≡ meets before key

-- of one text or none
pub none_next : (number place : ℕ) (ts : List (Vec ℕ)) (key : List ℕ) → take 8 key ≡ key_under number 0 [] → length ts ≤ place
    → IsNextKey number key (drop place (keys_of number ts))
none_next number place ts key front done =
    record { front = front; keyed = none_keyed key (drop place (keys_of number ts)) (none_left_of number place ts done) }

pub text_next : {E : Type 0} (number place : ℕ) (ts : List (Vec ℕ)) (t : Vec ℕ) (r : Result (Unit {0}) E) (before key : List ℕ) → place < length ts
    → ((d : Vec ℕ) → t ≡ slice_index_or ts place d) → before ≡ key_under number 0 [] → key ≡ (if is_ok r then before ++ t.items else before)
    → OnOk r (IsNextKey number key (drop place (keys_of number ts)))
text_next number place ts t (Ok u) before key lt is front made =
    let whole : key ≡ key_under number 0 t.items = made ∙ ap (λ k. k ++ t.items) front in
    record { front = ap (take 8) whole; keyed = keyed_at number ts place t key lt is whole }
text_next number place ts t (Err e) before key lt is front made = tt

module _ (number passed : ℕ) (ts : List (Vec ℕ)) (next key : List ℕ) (some : passed < length ts)
    (so : IsNextKey number next (drop passed (keys_of number ts))) where
  abbrev rest : List (List ℕ)
  rest = drop (suc passed) (keys_of number ts)

  here : drop passed (keys_of number ts) ≡ next ∷ rest
  here = next_here number passed ts next so.keyed some

  behind : drop (passed + 1) (keys_of number ts) ≡ rest
  behind = let one : passed + 1 ≡ suc passed = omega arith in ap (λ n. drop n (keys_of number ts)) one

  pub less_after : key_cmp next key ≡ Less → after key (drop (passed + 1) (keys_of number ts)) ≡ after key (drop passed (keys_of number ts))
  less_after less = ap (after key) behind ∙ sym (ap (λ o. after_by o next rest (after key rest)) less) ∙ ap (after key) (sym here)

  pub less_met : key_cmp next key ≡ Less → meets (drop (passed + 1) (keys_of number ts)) key ≡ meets (drop passed (keys_of number ts)) key
  less_met less = ap (λ l. meets l key) behind ∙ sym (ap (λ o. meets_by o (meets rest key)) less) ∙ ap (λ l. meets l key) (sym here)

  pub equal_after : key_cmp next key ≡ Equal → drop (passed + 1) (keys_of number ts) ≡ after key (drop passed (keys_of number ts))
  equal_after equal = behind ∙ sym (ap (λ o. after_by o next rest (after key rest)) equal) ∙ ap (after key) (sym here)

  pub equal_met : key_cmp next key ≡ Equal → true ≡ meets (drop passed (keys_of number ts)) key
  equal_met equal = sym (ap (λ o. meets_by o (meets rest key)) equal) ∙ ap (λ l. meets l key) (sym here)

  pub greater_after : key_cmp next key ≡ Greater → drop passed (keys_of number ts) ≡ after key (drop passed (keys_of number ts))
  greater_after greater = here ∙ sym (ap (λ o. after_by o next rest (after key rest)) greater) ∙ ap (after key) (sym here)

  pub greater_met : key_cmp next key ≡ Greater → false ≡ meets (drop passed (keys_of number ts)) key
  greater_met greater = sym (ap (λ o. meets_by o (meets rest key)) greater) ∙ ap (λ l. meets l key) (sym here)
