-- Loops over entries, and their faults.
use Rattle.std.proofs.Common.{◌≡◌, ℕ, ◌+◌, ◌<◌, ◌≤◌, List, ◌∷◌, length, map, drop, get_or, inl, inr, refl, sym, ap, subst}
use Rattle.std.specs.Prelude.{IfErr, Result, Ok, Err}
use Rattle.std.proofs.lemmas.List.{drop_all}
use Rattle.tree_model.specs.Keys.{Entry}
use Rattle.btree.specs.Scan.{entry_in}
use Rattle.btree.specs.declared.scanning.Entry.{Entry as OwnEntry}
use Rattle.roots.specs.declared.opening.OpenFault.{OpenFault}
use Rattle.opening.specs.Judging.{IsFaultOf, Progress, Refuses, RefusesOne, Takes, TakesAll}
use Rattle.replies.proofs.Steps.{drop_step}

module _ (all : List Entry) (entries : List OwnEntry) (i : ℕ) (x : OwnEntry) (within : i < length entries) (is : x ≡ get_or entries i x) where
  entry_step : map entry_in (drop i entries) ≡ entry_in x ∷ map entry_in (drop (i + 1) entries)
  entry_step = ap (map entry_in) (drop_step entries i x within is)

  pub takes_next : (p next last : Progress) → Takes all p (entry_in x) next → TakesAll all next (map entry_in (drop (i + 1) entries)) last
      → TakesAll all p (map entry_in (drop i entries)) last
  takes_next p next last takes later = subst (λ (es : List Entry). TakesAll all p es last) (sym entry_step) (next, takes, later)

  pub refuses_next : (p next : Progress) → Takes all p (entry_in x) next → RefusesOne all next (map entry_in (drop (i + 1) entries))
      → RefusesOne all p (map entry_in (drop i entries))
  refuses_next p next takes later = subst (RefusesOne all p) (sym entry_step) (inr (next, takes, later))

  pub refuses_here : (p : Progress) → Refuses all p (entry_in x) → RefusesOne all p (map entry_in (drop i entries))
  refuses_here p refuses = subst (RefusesOne all p) (sym entry_step) (inl refuses)

pub takes_end : (all : List Entry) (entries : List OwnEntry) (i : ℕ) (p : Progress) → length entries ≤ i → TakesAll all p (map entry_in (drop i entries)) p
takes_end all entries i p whole = subst (λ (es : List OwnEntry). TakesAll all p (map entry_in es) p) (sym (drop_all i entries whole)) refl

-- ---- faults

pub fault_of : {A B : Type 0} (e : OpenFault) → (A → B) → IsFaultOf e A → IsFaultOf e B
fault_of e extends (inl memory) = inl memory
fault_of e extends (inr (damaged, why)) = inr (damaged, extends why)

pub faulted : {X A B : Type 0} (r : Result X OpenFault) → (A → B) → IfErr r (λ e. IsFaultOf e A) → IfErr r (λ e. IsFaultOf e B)
faulted (Ok x) extends h = h
faulted (Err e) extends h = fault_of e extends h
