-- What an update makes of a document may be stored, and keeps its `_id`.
use Rattle.std.proofs.Common.{◌≡◌, ◌≢◌, ℕ, zero, suc, Bool, ◌∷◌, ◌<◌, ◌≤◌, List, [], ◌++◌, length, get_or, set, true, false, Option, Some, None, Result, Ok}
use Rattle.std.proofs.Common.{refl, sym, ap, subst, ◌∙◌, arith, inl, inr}
use Rattle.std.specs.Prelude.{nat_lt, option_and_then, unwrap_or}
use Rattle.std.specs.Str.{bytes_eq}
use Rattle.std.specs.declared.cmp.Ordering.{Ordering}
use Rattle.std.specs.declared.cmp.Ordering.TheVariants as orders
use Rattle.std.proofs.lemmas.Bool.{cases_eq, ltb-false}
use Rattle.std.proofs.lemmas.Grind.{get_or-set_at}
use Rattle.std.proofs.lemmas.List.{get_or_default, get_or-set_other, length-set}
use Rattle.std.proofs.lemmas.Slice.Eq.{bytes_eq-Decides}
use Rattle.bson.specs.Tree.{Tree, scalar, null, document, array, Pairs, no_pairs, pair}
use Rattle.bson.specs.Lookup.{lookup}
use Rattle.bson.specs.Lawful.{pairs_levels, IsDocument}
use Rattle.bson.specs.Spelling.{frame_of, pairs_bytes, Spells}
use Rattle.bson_bytes.proofs.TreeLaws.{one_spelling}
use Rattle.value_order.specs.Order.{compare}
use Rattle.value_order.specs.KeyText.{tree_text}
use Rattle.value_order.specs.TotalLaws.{compare_total}
use Rattle.bson.specs.View.{tree, pairs_of}
use Rattle.bson.specs.declared.value.Pair.{Pair}
use Rattle.path.specs.EditLaws.{if_ok_value}
use Rattle.outcome.specs.Outcome.{fault_or}
use Rattle.path.specs.declared.refusal.Refusal.{Refusal}
use Rattle.path.specs.declared.refusal.Refusal.TheVariants as refusals
use Rattle.update_model.specs.Update.{Update as Change}
use Rattle.update_model.specs.Stored.{id_name, pairs_fault, no_array, id_of, id_first, stored_fault, judged}
use Rattle.update_model.specs.Applying.{changed, apply}
use Rattle.update_model.specs.Upserts.{base_of}
use Rattle.update_model.specs.UpdateLaws.{keeps_id, gives_stored}
use Rattle.command_model.specs.OutcomeLaws.{step_of, passed}
use Rattle.command_model.specs.Update.{UpdateStatement, IsRead}
use Rattle.database_model.specs.Documents.{key_of, key_checked}
use Rattle.database_model.specs.Lawful.{IsStored}
use Rattle.entry_model.specs.LawfulState.{IsRising}
use Rattle.database_model.specs.Update.{spelled, upsert_document}
use Rattle.statements.specs.Updating.{IsChange, MayBePut}
use Rattle.statements.proofs.Checked.{id_first-id_first}
use Rattle.database_model.proofs.Ordered.{flipped}

-- what an update gives, but for the length of its key text
pub record Applied (ps : Pairs) : Type 0 where
  pub size : length (frame_of (pairs_bytes ps)) ≤ 65535
  pub depth : suc (pairs_levels ps) ≤ 90
  pub names : pairs_fault ps ≡ None
  pub key : id_of ps ≡ Some (key_of ps)
  pub first : id_first ps ≡ ps

pub id_is_first : (limit : ℕ) (x qs : Pairs) → judged limit x ≡ Ok qs → id_first x ≡ qs
id_is_first limit x qs e = at (stored_fault limit (id_first x)) e
  where
    at : (o : Option Refusal) → fault_or o (id_first x) ≡ Ok qs → id_first x ≡ qs
    at None e = cc
    at (Some r) e = absurd cc

pub applied : (u : Change) (ps qs : Pairs) → apply u 65535 ps ≡ Ok qs → Applied qs
applied u ps qs e =
    let s = gives_stored u 65535 ps qs e in
    let got = if_ok_value (changed u ps) (judged 65535) qs e in
    let same = id_is_first 65535 got.0 qs got.2 in
    let id : id_of qs ≡ Some s.id = ap id_of s.id_stands_first ∙ s.no_list in
    let key : key_of qs ≡ s.id = ap key_of s.id_stands_first in
    record {
      size = s.size;
      depth = s.levels;
      names = s.names;
      key = id ∙ ap (λ (t : Tree). Some t) (sym key);
      first = ap id_first (sym same) ∙ id_first-id_first got.0 ∙ same;
    }

pub may_be_stored : (ps : Pairs) → Applied ps → length (tree_text (key_of ps)) ≤ 500 → IsStored ps
may_be_stored ps a short = record { size = a.size; depth = a.depth; names = a.names; key = a.key; short = short; first = a.first }

-- ---- a stored document

spells : (d : Pairs) → length (spelled d) ≤ 65535 → IsDocument d → Spells (spelled d) d
spells d size h = record { lawful = h; spelled = refl; size = omega (arith, size) }

lookup_of : (ps : Pairs) (t : Tree) → id_of ps ≡ Some t → lookup ps id_name ≡ Some t
lookup_of ps t e = at (lookup ps id_name) e
  where
    at : (o : Option Tree) → option_and_then no_array o ≡ Some t → o ≡ Some t
    at None e = absurd cc
    at (Some (array ts)) e = absurd cc
    at (Some (scalar s)) e = e
    at (Some (document qs)) e = e

module _ (u : Change) (ps qs : Pairs) (read : IsRead u) (stored : IsStored ps) (e : apply u 65535 ps ≡ Ok qs) where
  pub kept_key : key_of qs ≡ key_of ps
  kept_key = ap (λ (o : Option Tree). unwrap_or o (scalar null))
      (keeps_id read.source u 65535 ps qs (key_of ps) read.reads e (lookup_of ps (key_of ps) stored.key))

  pub kept_stored : IsStored qs
  kept_stored = may_be_stored qs (applied u ps qs e) (subst (λ (t : Tree). length (tree_text t) ≤ 500) (sym kept_key) stored.short)

-- ---- a document and what is made of it

module _ (u : Change) (ps qs : Pairs) (size : length (spelled ps) ≤ 65535) (e : apply u 65535 ps ≡ Ok qs) (d : IsDocument ps) (f : IsDocument qs) where
  one_document : bytes_eq (spelled ps) (spelled qs) ≡ true → ps ≡ qs
  one_document same =
      (one_spelling (spelled ps) (spelled qs) [] [] ps qs (spells ps size d) (spells qs (applied u ps qs e).size f)
      (ap (λ (bs : List ℕ). bs ++ []) ((bytes_eq-Decides (spelled ps) (spelled qs)).0 same))).0

  -- other documents have other bytes
  pub other_bytes : ps ≢ qs → bytes_eq (spelled ps) (spelled qs) ≡ false
  other_bytes other = at (bytes_eq (spelled ps) (spelled qs)) refl
    where
      at : (b : Bool) → bytes_eq (spelled ps) (spelled qs) ≡ b → b ≡ false
      at false is = refl
      at true is = absurd (other (one_document is))

  pub is_change : bytes_eq (spelled ps) (spelled qs) ≡ false → IsChange u ps qs
  is_change other = record { is = e; differs = other; readable = f }

  -- the same bytes are the same document
  pub same_document : bytes_eq (spelled ps) (spelled qs) ≡ true → apply u 65535 ps ≡ Ok ps
  same_document same = e ∙ ap (λ (x : Pairs). Ok x) (sym (one_document same))

pub change_kept : (u : Change) (ps qs : Pairs) → IsRead u → IsStored ps → IsChange u ps qs → IsStored qs × (key_of qs ≡ key_of ps)
change_kept u ps qs read stored change = (kept_stored u ps qs read stored change.is, kept_key u ps qs read stored change.is)

pub change_puttable : (u : Change) (ps qs : Pairs) → IsChange u ps qs → MayBePut qs
change_puttable u ps qs change =
    let a = applied u ps qs change.is in
    record { lawful = change.readable; size = a.size; depth = a.depth; key = lookup_of qs (key_of qs) a.key }

pub stored_puttable : (d : Pairs) → IsStored d → IsDocument d → MayBePut d
stored_puttable d stored readable = record { lawful = readable; size = stored.size; depth = stored.depth; key = lookup_of d (key_of d) stored.key }

-- ---- values in their places

first_value : Pairs → Tree
first_value no_pairs = scalar null
first_value (pair name t ps) = t

later_pairs : Pairs → Pairs
later_pairs no_pairs = no_pairs
later_pairs (pair name t ps) = ps

same_values : (xs ys : List Pair) (i : ℕ) (p : Pair) → pairs_of xs ≡ pairs_of ys → i < length xs → i < length ys
    → tree (get_or xs i p).value ≡ tree (get_or ys i p).value
unfolding first_value later_pairs
same_values [] ys i p e within below = absurd (omega arith)
same_values (x ∷ xs) [] i p e within below = absurd (omega arith)
same_values (x ∷ xs) (y ∷ ys) zero p e within below = ap first_value e
same_values (x ∷ xs) (y ∷ ys) (suc i) p e within below = same_values xs ys i p (ap later_pairs e) (omega (arith, within)) (omega (arith, below))

equal_to_itself : (t : Tree) (o : Ordering) → compare t t ≡ o → compare t t ≡ orders.Equal
equal_to_itself t orders.Equal e = e
equal_to_itself t orders.Less e = absurd (let f = flipped compare_total t t orders.Less e in let no = sym e ∙ f in cc)
equal_to_itself t orders.Greater e = absurd (let f = flipped compare_total t t orders.Greater e in let no = sym e ∙ f in cc)

-- values that are not equal don't stand in one document
pub other_values : (xs ys : List Pair) (i : ℕ) (p q : Pair) → i < length xs → i < length ys → p ≡ get_or xs i p → q ≡ get_or ys i q
    → compare (tree p.value) (tree q.value) ≢ orders.Equal → pairs_of xs ≢ pairs_of ys
other_values xs ys i p q within below is_p is_q other same =
    let alike : tree p.value ≡ tree q.value =
    ap (λ (x : Pair). tree x.value) is_p ∙ same_values xs ys i p same within below
    ∙ ap (λ (x : Pair). tree x.value) (get_or_default ys i p q below ∙ sym is_q) in
    other (ap (λ (t : Tree). compare t (tree q.value)) alike ∙ equal_to_itself (tree q.value) (compare (tree q.value) (tree q.value)) refl)

-- ---- a document of a collection

pub rising_set : (ds : List Pairs) (i : ℕ) (new : Pairs) → i < length ds → key_of new ≡ key_of (get_or ds i no_pairs) → IsRising ds → IsRising (set ds i new)
rising_set ds i new within same up a b d lt below =
    let long : b < length ds = omega (arith, length-set ds i new) in
    subst (λ (t : Tree). compare t (key_of (get_or (set ds i new) b d)) ≡ orders.Less) (sym (keyed a d (omega arith)))
    (subst (λ (t : Tree). compare (key_of (get_or ds a d)) t ≡ orders.Less) (sym (keyed b d long)) (up a b d lt long))
  where
    keyed : (k : ℕ) (d : Pairs) → k < length ds → key_of (get_or (set ds i new) k d) ≡ key_of (get_or ds k d)
    keyed k d k_in =
        elim (cases_eq k i) [
          | inl e ↦ ap key_of (get_or-set_at ds i k new d e within) ∙ same
              ∙ ap key_of (get_or_default ds i no_pairs d within ∙ ap (λ (j : ℕ). get_or ds j d) (sym e))
          | inr other ↦ ap key_of (get_or-set_other ds i k new d other)
        ]

-- ---- a document that an upsert makes

pub upserted_stored : (s : UpdateStatement) (d : Pairs) → upsert_document s ≡ Ok d → IsStored d
upserted_stored s d e =
    let b = step_of (base_of s.filter) _ d e in
    let n = step_of (apply s.change 65535 b.0) _ d b.2 in
    let k = step_of (key_checked (key_of n.0)) (λ key. let r : Result Pairs Refusal = Ok n.0 in r) d n.2 in
    let p = passed (nat_lt 500 (length (tree_text (key_of n.0)))) refusals.KeyTooLong (Ok (key_of n.0)) k.0 k.1 in
    let same : n.0 ≡ d = cc in
    subst IsStored same (may_be_stored n.0 (applied s.change b.0 n.0 n.1) (ltb-false 500 (length (tree_text (key_of n.0))) p.0))
