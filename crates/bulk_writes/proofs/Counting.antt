-- What one statement counts, and what it adds to the counts of those before it.
use Rattle.std.proofs.Common.{◌≡◌, ℕ, suc, ◌+◌, ◌-◌, ◌^◌, min, Bool, true, false, List, [], ◌∷◌, ◌++◌, Option, Some, None, Result, Ok, Err, refl, sym}
use Rattle.std.proofs.Common.{ap, subst, ◌∙◌, arith}
use Rattle.std.specs.Prelude.{not, ◌&&◌, nat_lt, if◌then◌else◌}
use Rattle.std.specs.Str.{bytes_eq}
use Rattle.std.proofs.lemmas.Bool.Decides.{nat_tests}
use Rattle.bson.specs.EditPlaces.{append_items-none}
use Rattle.bson.specs.Tree.{Tree, Pairs, append_items}
use Rattle.filter.specs.Matches.{matches}
use Rattle.outcome.specs.Outcome.{◌>>=◌, or_refused}
use Rattle.path.specs.declared.refusal.Refusal.{Refusal}
use Rattle.path.specs.declared.refusal.Refusal.TheVariants as refusals
use Rattle.update_model.specs.Applying.{apply}
use Rattle.command_model.specs.OutcomeLaws.{step_of}
use Rattle.command_model.specs.Update.{UpdateStatement}
use Rattle.database_model.specs.Documents.{key_of, place}
use Rattle.database_model.specs.Merging.{Listed, listed_to, none_changed, not_listed, run_listed, upsert_listed, with_listed}
use Rattle.database_model.specs.Update.{Changed, changed_to, counted, passed_over, spelled, update_from, upsert_document}
use Rattle.statements.proofs.MeantUpdates.{one_step}
use Rattle.bulk_writes.specs.UpdateLaws.{entry_of}

-- so many more, up to the greatest int32
abbrev pub clamped : ℕ → ℕ
clamped n = min n (2 ^ 31 - 1)

one_more : (p n : ℕ) → counted (clamped (p + n)) ≡ clamped (p + counted n)
one_more p n = at (nat_lt n (2 ^ 31 - 1)) (nat_lt (clamped (p + n)) (2 ^ 31 - 1)) refl refl
  where
    at : (a b : Bool) → nat_lt n (2 ^ 31 - 1) ≡ a → nat_lt (clamped (p + n)) (2 ^ 31 - 1) ≡ b
        → (if b then suc (clamped (p + n)) else clamped (p + n)) ≡ clamped (p + (if a then suc n else n))
    at true true less below = grind (arith, nat_tests, less, below)
    at true false less below = grind (arith, nat_tests, less, below)
    at false true less below = grind (arith, nat_tests, less, below)
    at false false less below = grind (arith, nat_tests, less, below)

-- The one has counted so much more than the other, of the same documents.
pub record Counts (p q : ℕ) (c d : Changed) : Type 0 where
  pub documents : c.documents ≡ d.documents
  pub found : c.found ≡ d.found
  pub matched : c.matched ≡ clamped (p + d.matched)
  pub modified : c.modified ≡ clamped (q + d.modified)

module _ (p q : ℕ) (c d : Changed) (h : Counts p q c d) where
  counts_over : (x : Pairs) → Counts p q (passed_over x c) (passed_over x d)
  counts_over x = record {
    documents = ap (λ (ds : List Pairs). ds ++ x ∷ []) h.documents;
    found = h.found;
    matched = h.matched;
    modified = h.modified;
  }

  counts_changed : (x new : Pairs) → Counts p q (changed_to x new c) (changed_to x new d)
  counts_changed x new = record {
    documents = ap (λ (ds : List Pairs). ds ++ new ∷ []) h.documents;
    found = refl;
    matched = ap counted h.matched ∙ one_more p d.matched;
    modified = at (bytes_eq (spelled x) (spelled new));
  }
    where
      at : (b : Bool) → (if b then c.modified else counted c.modified) ≡ clamped (q + (if b then d.modified else counted d.modified))
      at true = h.modified
      at false = ap counted h.modified ∙ one_more q d.modified

counts_with : (p q : ℕ) (c d : Changed) (ds : List Pairs) → Counts p q c d
    → Counts p q (record c { documents = c.documents ++ ds }) (record d { documents = d.documents ++ ds })
counts_with p q c d ds h = record {
  documents = ap (λ (xs : List Pairs). xs ++ ds) h.documents;
  found = h.found;
  matched = h.matched;
  modified = h.modified;
}

-- the other comes to an end too
abbrev Ends : UpdateStatement → ℕ → ℕ → Changed → Result Changed Refusal → Type 0
Ends s p q e r = (f : Changed) × (r ≡ Ok f) × Counts p q e f

from_counts : (s : UpdateStatement) (p q : ℕ) (c d : Changed) (xs : List Pairs) (e : Changed) → Counts p q c d → update_from s c xs ≡ Ok e
    → Ends s p q e (update_from s d xs)
from_counts s p q c d [] e h is = let same : c ≡ e = cc in (d, refl, subst (λ (x : Changed). Counts p q x d) same h)
from_counts s p q c d (x ∷ xs) e h is =
    at (matches s.filter x) (apply s.change 65535 x) s.multi (λ a b k f. from_counts s p q a b xs e k f) is
  where
    at : (m : Bool) (r : Result Pairs Refusal) (multi : Bool)
        → ((a b : Changed) → Counts p q a b → update_from s a xs ≡ Ok e → Ends s p q e (update_from s b xs))
        → one_step s c x xs m r multi ≡ Ok e → Ends s p q e (one_step s d x xs m r multi)
    at false r multi go f = go (passed_over x c) (passed_over x d) (counts_over p q c d h x) f
    at true (Err z) multi go f = absurd cc
    at true (Ok new) true go f = go (changed_to x new c) (changed_to x new d) (counts_changed p q c d h x new) f
    at true (Ok new) false go f =
        let last : Changed = changed_to x new c in
        let same : record last { documents = last.documents ++ xs } ≡ e = cc in
        let other : Changed = changed_to x new d in (
          record other { documents = other.documents ++ xs },
          refl,
          subst (λ (y : Changed). Counts p q y (record other { documents = other.documents ++ xs })) same
              (counts_with p q last other xs (counts_changed p q c d h x new)),
        )

-- ---- a statement

-- What a statement comes to by itself, where those before it counted so much.
pub record Alone (i : ℕ) (s : UpdateStatement) (l m : Listed) (p q : ℕ) : Type 0 where
  pub left : Listed
  pub made : Option Tree
  pub is : run_listed 0 s (not_listed l.documents) ≡ Ok left
  pub documents : m.documents ≡ left.documents
  pub matched : m.matched ≡ clamped (p + left.matched)
  pub modified : m.modified ≡ clamped (q + left.modified)
  pub upserted : m.upserted ≡ append_items l.upserted (entry_of i made)
  pub its : left.upserted ≡ entry_of 0 made

module _ (i : ℕ) (s : UpdateStatement) (l m : Listed) (p q : ℕ) (matched : l.matched ≡ clamped p) (modified : l.modified ≡ clamped q) where
  abbrev none : Listed
  none = not_listed l.documents

  begun : Counts p q (none_changed l) (none_changed none)
  begun = record {
    documents = refl;
    found = refl;
    matched = matched ∙ ap clamped (let e : p ≡ p + 0 = omega arith in e);
    modified = modified ∙ ap clamped (let e : q ≡ q + 0 = omega arith in e);
  }

  abbrev ends_in : ℕ → Listed → Changed → Result Listed Refusal
  ends_in k n c = if not c.found && s.upsert then upsert_listed k s n else Ok (listed_to n c)

  pub alone : run_listed i s l ≡ Ok m → Alone i s l m p q
  alone e =
      let c = step_of (update_from s (none_changed l) l.documents) (ends_in i l) m e in
      let d = from_counts s p q (none_changed l) (none_changed none) l.documents c.0 begun c.1 in
      at c.0 d.0 d.1 d.2 (not c.0.found && s.upsert) refl c.2
    where
      put_in : ℕ → Listed → Pairs → Option (List Pairs) → Result Listed Refusal
      put_in k n new o = or_refused o refusals.DuplicateKey >>= (λ stored. Ok (with_listed k new stored n))

      at : (c d : Changed) → update_from s (none_changed none) l.documents ≡ Ok d → Counts p q c d → (b : Bool) → (not c.found && s.upsert) ≡ b
          → (if b then upsert_listed i s l else Ok (listed_to l c)) ≡ Ok m → Alone i s l m p q
      at c d is k false asked f =
          let same : listed_to l c ≡ m = cc in
          subst (λ (x : Listed). Alone i s l x p q) same (record {
            left = listed_to none d;
            made = None;
            is = ap (λ (r : Result Changed Refusal). r >>= ends_in 0 none) is
                ∙ ap (λ (b : Bool). if b then upsert_listed 0 s none else Ok (listed_to none d))
                (ap (λ (b : Bool). not b && s.upsert) (sym k.found) ∙ asked);
            documents = k.documents;
            matched = k.matched;
            modified = k.modified;
            upserted = sym (append_items-none l.upserted);
            its = refl;
          })
      at c d is k true asked f =
          let n = step_of (upsert_document s)
          (λ new. or_refused (place (key_of new) new l.documents) refusals.DuplicateKey >>= (λ stored. Ok (with_listed i new stored l))) m f in
          placed n.0 n.1 (place (key_of n.0) n.0 l.documents) refl n.2
        where
          placed : (new : Pairs) → upsert_document s ≡ Ok new → (o : Option (List Pairs)) → place (key_of new) new l.documents ≡ o
              → (or_refused o refusals.DuplicateKey >>= (λ stored. Ok (with_listed i new stored l))) ≡ Ok m → Alone i s l m p q
          placed new makes None there g = absurd cc
          placed new makes (Some stored) there g =
              let same : with_listed i new stored l ≡ m = cc in
              subst (λ (x : Listed). Alone i s l x p q) same (record {
                left = with_listed 0 new stored none;
                made = Some (key_of new);
                is = ap (λ (r : Result Changed Refusal). r >>= ends_in 0 none) is
                    ∙ ap (λ (b : Bool). if b then upsert_listed 0 s none else Ok (listed_to none d))
                    (ap (λ (b : Bool). not b && s.upsert) (sym k.found) ∙ asked)
                    ∙ ap (λ (r : Result Pairs Refusal). r >>= (λ x. or_refused (place (key_of x) x l.documents) refusals.DuplicateKey
                    >>= (λ ds. Ok (with_listed 0 x ds none)))) makes
                    ∙ ap (λ (o : Option (List Pairs)). or_refused o refusals.DuplicateKey >>= (λ ds. Ok (with_listed 0 new ds none))) there;
                documents = refl;
                matched = ap counted (begun.matched) ∙ one_more p 0;
                modified = begun.modified;
                upserted = refl;
                its = refl;
              })
