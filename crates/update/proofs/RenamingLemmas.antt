-- Fields that are renamed one after the other: what is kept, and what moved behind it, are the document.
use Rattle.std.proofs.Common.{◌≡◌, ◌≢◌, ◌<◌, ℕ, zero, suc, Bool, true, false, List, [], ◌∷◌, Option}
use Rattle.std.proofs.Common.{Some, None, refl, sym, ap, subst, ◌∙◌, inl, inr, arith}
use Rattle.std.specs.Prelude.{if◌then◌else◌, ◌⊎◌, ◌++◌, option_map}
use Rattle.std.specs.Option.{is_some, option_and_then}
use Rattle.std.specs.Str.{bytes_eq}
use Rattle.std.proofs.lemmas.Slice.Eq.{bytes_eq-Decides}
use Rattle.bson.specs.View.{tree, pairs_of}
use Rattle.bson.specs.declared.value.Pair.{Pair}
use Rattle.bson.specs.Tree.{Tree, scalar, null, Pairs, no_pairs, pair, append}
use Rattle.bson.specs.Edits.{pairs_len, place, pair_at, with_value, put, cut}
use Rattle.bson.specs.EditPlaces.{pairs_levels-append}
use Rattle.bson.specs.EditsLaws.{place-there, place-absent, lookup-put, lookup-put_other, lookup-cut_other}
use Rattle.bson.specs.Lawful.{Lacks, IsPairs, IsDocument}
use Rattle.bson.specs.Lookup.{lookup}
use Rattle.path.specs.Edits.{cut_found, cut_off, cut_at}
use Rattle.path.specs.Place.{value_at, some_passes, passes_array}
use Rattle.update.specs.Renaming.{whole, AreGone}
use Rattle.update.specs.Unsets.{unmarked}
use Rattle.update.proofs.UnsetLemmas.{Lacks-unmarked, unmarked_levels, marked_more}

-- ---- two documents of which one stands behind the other

module _ (name : List ℕ) (qs : Pairs) where
  lookup_behind : (ps : Pairs) → lookup ps name ≡ None → lookup (append ps qs) name ≡ lookup qs name
  lookup_behind no_pairs e = refl
  lookup_behind (pair n t ps) e = by (bytes_eq name n) e (lookup_behind ps)
    where
      by : (b : Bool) → (if b then Some t else lookup ps name) ≡ None → (lookup ps name ≡ None → lookup (append ps qs) name ≡ lookup qs name)
          → (if b then Some t else lookup (append ps qs) name) ≡ lookup qs name
      by true e later = absurd cc
      by false e later = later e

  lookup_before : (ps : Pairs) (u : Tree) → lookup ps name ≡ Some u → lookup (append ps qs) name ≡ Some u
  lookup_before no_pairs u e = absurd cc
  lookup_before (pair n t ps) u e = by (bytes_eq name n) e (lookup_before ps u)
    where
      by : (b : Bool) → (if b then Some t else lookup ps name) ≡ Some u → (lookup ps name ≡ Some u → lookup (append ps qs) name ≡ Some u)
          → (if b then Some t else lookup (append ps qs) name) ≡ Some u
      by true e later = e
      by false e later = later e

  put_behind : (t : Tree) (ps : Pairs) → lookup ps name ≡ None → put (append ps qs) name t ≡ append ps (put qs name t)
  put_behind t no_pairs e = refl
  put_behind t (pair n u ps) e = by (bytes_eq name n) e (put_behind t ps)
    where
      by : (b : Bool) → (if b then Some u else lookup ps name) ≡ None → (lookup ps name ≡ None → put (append ps qs) name t ≡ append ps (put qs name t))
          → (if b then pair n t (append ps qs) else pair n u (put (append ps qs) name t)) ≡ pair n u (append ps (put qs name t))
      by true e later = absurd cc
      by false e later = ap (pair n u) (later e)

  cut_behind : (ps : Pairs) → lookup ps name ≡ None → cut (append ps qs) name ≡ append ps (cut qs name)
  cut_behind no_pairs e = refl
  cut_behind (pair n u ps) e = by (bytes_eq name n) e (cut_behind ps)
    where
      by : (b : Bool) → (if b then Some u else lookup ps name) ≡ None → (lookup ps name ≡ None → cut (append ps qs) name ≡ append ps (cut qs name))
          → (if b then append ps qs else pair n u (cut (append ps qs) name)) ≡ pair n u (append ps (cut qs name))
      by true e later = absurd cc
      by false e later = ap (pair n u) (later e)

  cut_before : (ps : Pairs) (t : Tree) → lookup ps name ≡ Some t → cut (append ps qs) name ≡ append (cut ps name) qs
  cut_before no_pairs t e = absurd cc
  cut_before (pair n u ps) t e = by (bytes_eq name n) e (cut_before ps t)
    where
      by : (b : Bool) → (if b then Some u else lookup ps name) ≡ Some t → (lookup ps name ≡ Some t → cut (append ps qs) name ≡ append (cut ps name) qs)
          → (if b then append ps qs else pair n u (cut (append ps qs) name)) ≡ append (if b then ps else pair n u (cut ps name)) qs
      by true e later = refl
      by false e later = ap (pair n u) (later e)

pub cut_absent : (ps : Pairs) (name : List ℕ) → lookup ps name ≡ None → cut ps name ≡ ps
cut_absent no_pairs name e = refl
cut_absent (pair n u ps) name e = by (bytes_eq name n) e (cut_absent ps name)
  where
    by : (b : Bool) → (if b then Some u else lookup ps name) ≡ None → (lookup ps name ≡ None → cut ps name ≡ ps)
        → (if b then ps else pair n u (cut ps name)) ≡ pair n u ps
    by true e later = absurd cc
    by false e later = ap (pair n u) (later e)

-- a name that stands in one of the two at most
cut_both : (ps qs : Pairs) (name : List ℕ) → (lookup ps name ≡ None) ⊎ (lookup qs name ≡ None) → cut (append ps qs) name ≡ append (cut ps name) (cut qs name)
cut_both ps qs name either = by (lookup ps name) refl either
  where
    by : (o : Option Tree) → lookup ps name ≡ o → (o ≡ None) ⊎ (lookup qs name ≡ None) → cut (append ps qs) name ≡ append (cut ps name) (cut qs name)
    by None e either = cut_behind name qs ps e ∙ ap (λ (us : Pairs). append us (cut qs name)) (sym (cut_absent ps name e))
    by (Some t) e (inr none) = cut_before name qs ps t e ∙ ap (append (cut ps name)) (sym (cut_absent qs name none))
    by (Some t) e (inl none) = absurd cc

-- ---- taking away one field

pub cut_one : (name : List ℕ) (ps : Pairs) → cut_at (name ∷ []) ps ≡ cut ps name
cut_one name ps = by (lookup ps name) refl
  where
    by : (o : Option Tree) → lookup ps name ≡ o → cut_found (cut_off []) name ps o ≡ cut ps name
    by None e = sym (cut_absent ps name e)
    by (Some t) e = refl

-- ---- marks

none_or_some : (o : Option Tree) → (o ≡ None) ⊎ (is_some o ≡ true)
none_or_some None = inl refl
none_or_some (Some t) = inr refl

module _ (marks : Pairs) (name : List ℕ) where
  lookup_marked : (ps : Pairs) → is_some (lookup marks name) ≡ true → lookup (unmarked marks ps) name ≡ None
  lookup_marked no_pairs m = refl
  lookup_marked (pair n t ps) m = by (bytes_eq name n) refl (is_some (lookup marks n)) refl (lookup_marked ps m)
    where
      by : (e : Bool) → bytes_eq name n ≡ e → (b : Bool) → is_some (lookup marks n) ≡ b → lookup (unmarked marks ps) name ≡ None
          → lookup (if b then unmarked marks ps else pair n t (unmarked marks ps)) name ≡ None
      by e is-e true is-b later = later
      by false is-e false is-b later = ap (λ (c : Bool). if c then Some t else lookup (unmarked marks ps) name) is-e ∙ later
      by true is-e false is-b later =
          let same : name ≡ n = (bytes_eq-Decides name n).0 is-e in
          let f = sym m ∙ ap (λ (x : List ℕ). is_some (lookup marks x)) same ∙ is-b in absurd cc

  lookup_unmarked : (ps : Pairs) → lookup marks name ≡ None → lookup (unmarked marks ps) name ≡ lookup ps name
  lookup_unmarked no_pairs m = refl
  lookup_unmarked (pair n t ps) m = by (bytes_eq name n) refl (is_some (lookup marks n)) refl (lookup_unmarked ps m)
    where
      by : (e : Bool) → bytes_eq name n ≡ e → (b : Bool) → is_some (lookup marks n) ≡ b → lookup (unmarked marks ps) name ≡ lookup ps name
          → lookup (if b then unmarked marks ps else pair n t (unmarked marks ps)) name ≡ (if e then Some t else lookup ps name)
      by true is-e false is-b later = ap (λ (c : Bool). if c then Some t else lookup (unmarked marks ps) name) is-e
      by false is-e false is-b later = ap (λ (c : Bool). if c then Some t else lookup (unmarked marks ps) name) is-e ∙ later
      by false is-e true is-b later = later
      by true is-e true is-b later =
          let same : name ≡ n = (bytes_eq-Decides name n).0 is-e in
          let f = sym is-b ∙ ap (λ (x : List ℕ). is_some (lookup marks x)) (sym same) ∙ ap is_some m in absurd cc

-- ---- one field more that is gone

module _ (gone kept behind : Pairs) (name : List ℕ) where
  cut_gone : IsPairs kept → AreGone behind gone → cut (whole gone kept behind) name ≡ whole (put gone name (scalar null)) kept (cut behind name)
  cut_gone h apart =
      cut_both (unmarked gone kept) behind name (by (none_or_some (lookup gone name)))
      ∙ ap (λ (us : Pairs). append us (cut behind name)) (sym (cut_one name (unmarked gone kept)) ∙ sym (marked_more gone name (scalar null) kept h))
    where
      by : (lookup gone name ≡ None) ⊎ (is_some (lookup gone name) ≡ true) → (lookup (unmarked gone kept) name ≡ None) ⊎ (lookup behind name ≡ None)
      by (inl none) = inr (apart name none)
      by (inr some) = inl (lookup_marked gone name kept some)

  put_gone : (t u : Tree) → lookup gone name ≡ Some u → put (whole gone kept behind) name t ≡ whole gone kept (put behind name t)
  put_gone t u marked = put_behind name behind t (unmarked gone kept) (lookup_marked gone name kept (ap is_some marked))

not_put : (gone : Pairs) (name other : List ℕ) (t : Tree) → lookup (put gone name t) other ≡ None → other ≢ name
not_put gone name other t none same =
    let f = sym (lookup-put gone name t) ∙ ap (lookup (put gone name t)) (sym same) ∙ none in absurd cc

AreGone-cut : (gone behind : Pairs) (name : List ℕ) (t : Tree) → AreGone behind gone → AreGone (cut behind name) (put gone name t)
AreGone-cut gone behind name t apart other none =
    let differ = not_put gone name other t none in
    lookup-cut_other behind name other differ ∙ apart other (sym (lookup-put_other gone name other t differ) ∙ none)

AreGone-put : (gone behind : Pairs) (name : List ℕ) (t u : Tree) → lookup gone name ≡ Some u → AreGone behind gone → AreGone (put behind name t) gone
AreGone-put gone behind name t u marked apart other none =
    lookup-put_other behind name other t (λ same. let f = sym marked ∙ ap (lookup gone) (sym same) ∙ none in absurd cc) ∙ apart other none

-- ---- what stands at a path of one name

pub no_array : (o : Option Tree) → some_passes (passes_array []) o ≡ false
no_array None = refl
no_array (Some t) = refl

pub same_found : (o : Option Tree) → option_and_then (value_at []) o ≡ o
same_found None = refl
same_found (Some t) = refl

-- ---- a field that is taken out

-- the first, where there is one, or else the second
abbrev or_else : Option Tree → Option Tree → Option Tree
or_else None p = p
or_else (Some t) p = Some t

none_else : (o : Option Tree) → o ≡ or_else o None
none_else None = refl
none_else (Some t) = refl

module _ (gone kept behind : Pairs) (name : List ℕ) where
  -- what stands behind is found first, then what is kept and isn't gone
  found_whole : AreGone behind gone
      → lookup (whole gone kept behind) name ≡ or_else (lookup behind name) (if is_some (lookup gone name) then None else lookup kept name)
  found_whole apart = by (lookup gone name) refl
    where
      by : (g : Option Tree) → lookup gone name ≡ g
          → lookup (whole gone kept behind) name ≡ or_else (lookup behind name) (if is_some g then None else lookup kept name)
      by (Some u) e = lookup_behind name behind (unmarked gone kept) (lookup_marked gone name kept (ap is_some e)) ∙ none_else (lookup behind name)
      by None e = kept_one (lookup kept name) refl ∙ ap (λ (o : Option Tree). or_else o (lookup kept name)) (sym (apart name e))
        where
          kept_one : (o : Option Tree) → lookup kept name ≡ o → lookup (whole gone kept behind) name ≡ lookup kept name
          kept_one (Some t) k = lookup_before name behind (unmarked gone kept) t (lookup_unmarked gone name kept e ∙ k) ∙ sym k
          kept_one None k = lookup_behind name behind (unmarked gone kept) (lookup_unmarked gone name kept e ∙ k) ∙ apart name e ∙ sym k

-- a field is taken out, or put behind the others
module _ (gone kept behind : Pairs) (h : IsPairs kept) (apart : AreGone behind gone) (name : List ℕ) where
  pub taken_out : (marks left : Pairs) → marks ≡ put gone name (scalar null)
      → ((m : Pairs) → is_some (lookup m name) ≡ true → unmarked m left ≡ unmarked m kept)
      → whole marks left (cut behind name) ≡ cut (whole gone kept behind) name
  taken_out marks left made same =
      let found : is_some (lookup marks name) ≡ true =
      ap (λ (m : Pairs). is_some (lookup m name)) made ∙ ap is_some (lookup-put gone name (scalar null)) in
      ap (λ (ps : Pairs). append ps (cut behind name)) (same marks found)
      ∙ ap (λ (m : Pairs). whole m kept (cut behind name)) made
      ∙ sym (cut_gone gone kept behind name h apart)

  pub taken_gone : (marks : Pairs) → marks ≡ put gone name (scalar null) → AreGone (cut behind name) marks
  taken_gone marks made = subst (AreGone (cut behind name)) (sym made) (AreGone-cut gone behind name (scalar null) apart)

  pub put_behind_all : (t : Tree) (marks new : Pairs) → marks ≡ put gone name (scalar null) → new ≡ put (cut behind name) name t
      → whole marks kept new ≡ put (cut (whole gone kept behind) name) name t
  put_behind_all t marks new made is =
      (λ i. whole (made i) kept (is i))
      ∙ sym (put_gone (put gone name (scalar null)) kept (cut behind name) name t (scalar null) (lookup-put gone name (scalar null)))
      ∙ ap (λ (ps : Pairs). put ps name t) (sym (cut_gone gone kept behind name h apart))

  pub put_gone_all : (t : Tree) (marks new : Pairs) → marks ≡ put gone name (scalar null) → new ≡ put (cut behind name) name t → AreGone new marks
  put_gone_all t marks new made is =
      subst (λ (m : Pairs). AreGone new m) (sym made) (subst (λ (ps : Pairs). AreGone ps (put gone name (scalar null))) (sym is)
      (AreGone-put (put gone name (scalar null)) (cut behind name) name t (scalar null) (lookup-put gone name (scalar null))
      (AreGone-cut gone behind name (scalar null) apart)))

  -- its value is what stands behind, or else what is kept
  pub value_behind : (t : Tree) → lookup behind name ≡ Some t → lookup (whole gone kept behind) name ≡ Some t
  value_behind t found =
      found_whole gone kept behind name apart
      ∙ ap (λ (o : Option Tree). or_else o (if is_some (lookup gone name) then None else lookup kept name)) found

  pub value_kept : lookup behind name ≡ None → lookup (whole gone kept behind) name ≡ (if is_some (lookup gone name) then None else lookup kept name)
  value_kept none =
      found_whole gone kept behind name apart
      ∙ ap (λ (o : Option Tree). or_else o (if is_some (lookup gone name) then None else lookup kept name)) none

-- ---- the whole as one document

Lacks-behind : (ps qs : Pairs) (name : List ℕ) → Lacks ps name → Lacks qs name → Lacks (append ps qs) name
Lacks-behind no_pairs qs name a b = b
Lacks-behind (pair n t ps) qs name a b = (a.0, Lacks-behind ps qs name a.1 b)

not_found-Lacks : (ps : Pairs) (name : List ℕ) → lookup ps name ≡ None → Lacks ps name
not_found-Lacks no_pairs name e = tt
not_found-Lacks (pair n t ps) name e = by (bytes_eq name n) refl e (not_found-Lacks ps name)
  where
    by : (b : Bool) → bytes_eq name n ≡ b → (if b then Some t else lookup ps name) ≡ None → (lookup ps name ≡ None → Lacks ps name) → Lacks (pair n t ps) name
    by true is-b e later = absurd cc
    by false is-b e later = (λ same. let f = sym ((bytes_eq-Decides name n).1 same) ∙ is-b in absurd cc, later e)

IsPairs-whole : (gone kept behind : Pairs) → AreGone behind gone → IsPairs kept → IsPairs behind → IsPairs (whole gone kept behind)
IsPairs-whole gone no_pairs behind apart h b = b
IsPairs-whole gone (pair n t ps) behind apart h b = by (lookup gone n) refl (IsPairs-whole gone ps behind apart h.3 b)
  where
    by : (o : Option Tree) → lookup gone n ≡ o → IsPairs (whole gone ps behind)
        → IsPairs (append (if is_some o then unmarked gone ps else pair n t (unmarked gone ps)) behind)
    by (Some u) e rest = rest
    by None e rest =
        (h.0, h.1, Lacks-behind (unmarked gone ps) behind n (Lacks-unmarked gone ps n h.2) (not_found-Lacks behind n (apart n e)), rest)

pub IsDocument-whole : (gone kept behind : Pairs) → AreGone behind gone → IsDocument kept → IsDocument behind → IsDocument (whole gone kept behind)
IsDocument-whole gone kept behind apart h b = record {
  lawful = IsPairs-whole gone kept behind apart h.lawful b.lawful;
  depth = omega (arith, h.depth, b.depth, unmarked_levels gone kept, pairs_levels-append (unmarked gone kept) behind);
}

pub pairs_of-both : (ps qs : List Pair) → pairs_of (ps ++ qs) ≡ append (pairs_of ps) (pairs_of qs)
pairs_of-both [] qs = refl
pairs_of-both (p ∷ ps) qs = ap (pair p.name (tree p.value)) (pairs_of-both ps qs)

-- ---- values that are taken out and put back

pub same_there : (ps : Pairs) (i : ℕ) (t : Tree) → option_map (λ (p : List ℕ × Tree). p.1) (pair_at ps i) ≡ Some t → with_value ps i t ≡ ps
same_there no_pairs i t e = absurd cc
same_there (pair n u ps) zero t e = let is : t ≡ u = cc in ap (λ (v : Tree). pair n v ps) is
same_there (pair n u ps) (suc i) t e = ap (pair n u) (same_there ps i t e)

-- a null where a marked name stands
pub kept_marks : (marks ps : Pairs) (i : ℕ) (name : List ℕ) (t : Tree) → place ps name ≡ Some i → is_some (lookup marks name) ≡ true
    → unmarked marks (with_value ps i t) ≡ unmarked marks ps
kept_marks marks no_pairs i name t e m = absurd cc
kept_marks marks (pair n u ps) i name t e m = by (bytes_eq name n) refl (place ps name) refl i e (λ j there. kept_marks marks ps j name t there m)
  where
    by : (b : Bool) → bytes_eq name n ≡ b → (o : Option ℕ) → place ps name ≡ o → (k : ℕ) → (if b then Some 0 else option_map suc o) ≡ Some k
        → ((j : ℕ) → place ps name ≡ Some j → unmarked marks (with_value ps j t) ≡ unmarked marks ps)
        → unmarked marks (with_value (pair n u ps) k t) ≡ unmarked marks (pair n u ps)
    by true is-b o is-o zero e later =
        let found = ap (λ (x : List ℕ). is_some (lookup marks x)) (sym ((bytes_eq-Decides name n).0 is-b)) ∙ m in
        ap (λ (c : Bool). if c then unmarked marks ps else pair n t (unmarked marks ps)) found
        ∙ sym (ap (λ (c : Bool). if c then unmarked marks ps else pair n u (unmarked marks ps)) found)
    by true is-b o is-o (suc k) e later = absurd cc
    by false is-b None is-o k e later = absurd cc
    by false is-b (Some j) is-o zero e later = absurd cc
    by false is-b (Some j) is-o (suc k) e later =
        let same : j ≡ k = cc in
        let rest = later k (is-o ∙ ap Some same) in
        ap (λ (qs : Pairs). if is_some (lookup marks n) then qs else pair n u qs) rest

pub none_placed : (gone : Bool) (ps : Pairs) (name : List ℕ) → place ps name ≡ None → None ≡ (if gone then None else lookup ps name)
none_placed true ps name e = refl
none_placed false ps name e = sym (place-absent ps name e).1

pub some_placed : (ps : Pairs) (name : List ℕ) (i : ℕ) → place ps name ≡ Some i
    → (i < pairs_len ps) × ((t : Tree) → option_map (λ (p : List ℕ × Tree). p.1) (pair_at ps i) ≡ Some t → Some t ≡ lookup ps name)
some_placed ps name i e =
    let there = place-there ps name i e in
    (there.3, λ t old. sym old ∙ ap (option_map (λ (p : List ℕ × Tree). p.1)) there.1 ∙ sym there.2)
