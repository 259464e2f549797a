-- No entry of the catalogue of lawful collections is refused.
use Rattle.std.proofs.Common.{◌≡◌, ◌⊎◌, ℕ, Bool, true, false, ◌&&◌, ◌||◌, List, [], ◌∷◌, map, Some, inl, inr, refl, sym, ap}
use Rattle.std.proofs.Common.{subst, ◌∙◌, arith, eqb-true}
use Rattle.std.specs.Prelude.{◌==◌, if◌then◌else◌}
use Rattle.std.specs.List.{list_all, list_any}
use Rattle.std.specs.Ordering.{nat_cmp}
use Rattle.std.specs.Cmp.Lexicographic.{slice_cmp}
use Rattle.std.specs.declared.cmp.Ordering.TheVariants as orders
use Rattle.value_order.specs.Laws.{IsKey}
use Rattle.value_order.specs.Order.{value}
use Rattle.value_order.specs.KeyText.{tree_text}
use Rattle.value_order.specs.declared.texts.Direction.TheVariants as directions
use Rattle.value_order.proofs.KeyLaws.{texts_order}
use Rattle.tree_model.specs.Keys.{Entry, key_cmp}
use Rattle.entry_model.specs.LawfulState.{AreNamedApart, AreNumberedApart, IsIndexOf}
use Rattle.entry_model.specs.State.{Collection, words}
use Rattle.entry_model.specs.StateEntries.{catalogue_entry}
use Rattle.entries.proofs.CatalogueEntries.{same_value, text_size}
use Rattle.entries.proofs.EntryLemmas.{IsDocumentOf, IsOneOf, same_rest, same_words}
use Rattle.entries.proofs.HomeLemmas.{inside_of, not_inside, one_number}
use Rattle.entry_model.proofs.LawfulLaws.{all_of}
use Rattle.entry_model.proofs.MemberLemmas.{Among, among_map, first_of}
use Rattle.entries.proofs.OneStateLaws.{lawful_indexes}
use Rattle.entry_model.proofs.PlaceLemmas.{apart_rest, name_itself}
use Rattle.entries.proofs.WindowLemmas.{under_cmp}
use Rattle.opening.specs.Judging.{bare, listed_of}
use Rattle.opening.specs.Judging.{numbered, stands_behind}
use Rattle.opening.proofs.EntriesSoFar.{IsPlain}
use Rattle.opening.proofs.OnceLists.{AreOnce}
use Rattle.entry_model.specs.LawfulState.{IsKept as IsIndexKept}
use Rattle.entry_model.proofs.LawfulParts.{listed_of as indexed_of}

pub any_none : {X : Type 0} (f : X → Bool) (xs : List X) → ((x : X) → Among x xs → f x ≡ false) → list_any f xs ≡ false
any_none f [] h = refl
any_none f (x ∷ xs) h = ap (λ (b : Bool). b || list_any f xs) (h x (inl refl)) ∙ any_none f xs (λ y there. h y (inr there))

pub all_behind : (n : Collection) (xs : List Collection) → ((x : Collection) → Among x xs → stands_behind n (bare x) ≡ true)
    → list_all (stands_behind n) (listed_of xs) ≡ true
all_behind n [] h = refl
all_behind n (x ∷ xs) h = ap (λ (b : Bool). b && list_all (stands_behind n) (listed_of xs)) (h x (inl refl)) ∙ all_behind n xs (λ y there. h y (inr there))

pub numbered_there : (xs : List Collection) (x : Collection) → AreNumberedApart xs → Among x xs → numbered x.number (listed_of xs) ≡ Some (bare x)
numbered_there [] x apart there = absurd there
numbered_there (y ∷ ys) x apart there = by (y.number == x.number) refl there (numbered_there ys x apart.1)
  where
    by : (b : Bool) → (y.number == x.number) ≡ b → Among x (y ∷ ys) → (Among x ys → numbered x.number (listed_of ys) ≡ Some (bare x))
        → (if b then Some (bare y) else numbered x.number (listed_of ys)) ≡ Some (bare x)
    by true same at later = ap (λ (z : Collection). Some (bare z)) (one_number (y ∷ ys) y x apart (inl refl) at (eqb-true y.number x.number same))
    by false other (inl e) later =
        let itself : (y.number == x.number) ≡ true = ap (λ (z : Collection). z.number == x.number) (sym e) ∙ number_itself x.number in
        absurd (let never : true ≡ false = sym itself ∙ other in cc)
      where
        number_itself : (n : ℕ) → (n == n) ≡ true
        number_itself n = grind arith
    by false other (inr h) later = later h

pub names_once : (cs : List Collection) → AreNamedApart cs → AreOnce (map (λ (c : Collection). c.name) cs)
names_once [] h = tt
names_once (c ∷ cs) h = (
  (λ there.
      let m = among_map (λ (x : Collection). x.name) c.name cs there in
      let less = first_of (λ p q. slice_cmp nat_cmp p.name q.name ≡ orders.Less) c cs m.0 h m.1 in
      name_itself c.name (subst (λ (n : List ℕ). slice_cmp nat_cmp c.name n ≡ orders.Less) (sym m.2) less)),
  names_once cs (apart_rest c cs h),
)

-- ---- the catalogue's entries

name_key : (c : Collection) → IsIndexKept c → IsKey (value (words c.name))
name_key c kept = (kept.name, omega (arith, text_size c.name, kept.short))

-- their keys order as the names do
pub names_order : (c d : Collection) → IsIndexKept c → IsIndexKept d → key_cmp (catalogue_entry c).key (catalogue_entry d).key ≡ slice_cmp nat_cmp c.name d.name
names_order c d kc kd =
    under_cmp 0 0 0 0 (tree_text (words c.name)) (tree_text (words d.name)) (omega arith) (omega arith) (omega arith) (omega arith)
    ∙ texts_order directions.Ascending (value (words c.name)) (value (words d.name)) (name_key c kc) (name_key d kd)

pub record IsLike (c e : Collection) : Type 0 where
  pub name : c.name ≡ e.name
  pub number : c.number ≡ e.number
  pub indexes : c.indexes ≡ e.indexes

pub same_catalogue : (c e : Collection) → IsIndexKept c → IsIndexKept e → IsOneOf e (catalogue_entry c) → IsLike c e
same_catalogue c e kept other (inl same) =
    let parts = same_value c.number e.number c.indexes e.indexes kept.most other.most kept.few other.few (lawful_indexes c.indexes c.documents kept.indexes)
    (lawful_indexes e.indexes e.documents other.indexes)
    (ap (λ (y : Entry). y.value) same) in
    record {
      name = same_words c.name e.name (same_rest 0 0 0 0 (tree_text (words c.name)) (tree_text (words e.name)) (ap (λ (y : Entry). y.key) same));
      number = parts.0;
      indexes = parts.1;
    }
same_catalogue c e kept other (inr inside) =
    absurd (not_inside c e (catalogue_entry c) (catalogue_entry c) other refl (inside_of e (catalogue_entry c) inside) refl)

pub plain_one : (now : List Collection) (x : Entry) (h : IsPlain now x) → IsOneOf h.collection x
plain_one now x h = at h.is
  where
    at : (x ≡ catalogue_entry h.collection) ⊎ IsDocumentOf h.collection x → IsOneOf h.collection x
    at (inl e) = inl e
    at (inr d) = inr (inl d)

pub bare_kept : (c : Collection) → IsIndexKept c → IsIndexKept (bare c)
bare_kept c kept = record {
  name = kept.name;
  short = kept.short;
  least = kept.least;
  most = kept.most;
  rising = λ i j d lt below. absurd (omega (arith, below));
  storable = λ k d below. absurd (omega (arith, below));
  indexes = all_of (IsIndexOf []) c.indexes (λ i there. record {
    lawful = (indexed_of c i kept there).lawful;
    keys = λ k d below. absurd (omega (arith, below));
    unique = λ u j k d lt below. absurd (omega (arith, below));
    multi = λ k d below. absurd (omega (arith, below));
  });
  distinct = kept.distinct;
  few = kept.few;
}
