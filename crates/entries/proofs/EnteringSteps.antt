-- Where edits lead by which a document enters a collection.
use Rattle.std.proofs.Common.{◌≡◌, Bool, true, false, List, [], ◌∷◌, ◌++◌, inl, inr, length, map, take, Some, None, Ok, refl, sym, ap, subst, ◌∙◌}
use Rattle.std.proofs.Math.Seq.{take-append_seam}
use Rattle.std.specs.Prelude.{◌&&◌, ◌||◌, ℕ, if◌then◌else◌, not}
use Rattle.std.specs.List.{list_any}
use Rattle.std.specs.declared.cmp.Ordering.TheVariants as orders
use Rattle.bson.specs.Tree.{Pairs}
use Rattle.value_order.specs.Order.{compare}
use Rattle.tree_model.specs.Keys.{Edit}
use Rattle.index.specs.Definition.{Definition}
use Rattle.entry_model.specs.Documents.{put_document}
use Rattle.entry_model.specs.Entering.{DocumentWrite, Enters, NotesArrays, becomes_multikey, entered, with_document}
use Rattle.entries.specs.Indexed.{InsertsInto, NotesIndexesOf, ReplacesIn}
use Rattle.outcome.specs.Outcome.{unless}
use Rattle.path.specs.declared.refusal.Refusal.TheVariants as refusals
use Rattle.index.specs.KeyTexts.{encoded_keys, is_too_long, keys_in_all}
use Rattle.index.specs.IndexKeys.{has_parallel_arrays, is_multikey, noted}
use Rattle.entry_model.specs.LawfulState.{IsKept, IsLawfulState, IsStorable}
use Rattle.entry_model.specs.State.{Collection, find_collection, key_of, put_collection}
use Rattle.entry_model.specs.StateEntries.{Leads}
use Rattle.entry_model.specs.StateLaws.{AreAlike, MayBecome}
use Rattle.entry_model.proofs.DocumentPlaces.{IsBetween, IsInstead, placed, all_put, none_between, some_instead}
use Rattle.entry_model.proofs.EnteringLemmas.{has_entered, stay_with}
use Rattle.entry_model.proofs.FoundLawLemmas.{finds_put, put_twice}
use Rattle.entry_model.proofs.LawfulParts.{kept_of}
use Rattle.entry_model.proofs.KeptSteps.{kept_noted, noted_fields}
use Rattle.entry_model.proofs.LawfulLaws.{stays_lawful}
use Rattle.entry_model.proofs.PlaceLemmas.{found_in, found_name}
use Rattle.entries.proofs.StateEditLaws.{put_same}

-- what was written at the front of a list is there
pub written_back : {X : Type 0} (n : ℕ) (out xs ys : List X) → out ≡ take n (xs ++ ys) → n ≡ length xs → out ≡ xs
written_back n out xs ys is long = is ∙ ap (λ (m : ℕ). take m (xs ++ ys)) long ∙ take-append_seam xs ys

-- ---- what stays

-- a collection within the limits stays so with a document that enters
pub kept_entered : (c next : Collection) (w : DocumentWrite) → IsKept c → IsStorable w.document → entered c w ≡ Ok next → IsKept next
kept_entered c next w h good e =
    let x = has_entered c next w e in
    let stay = stay_with c.indexes c.documents w.document x.keys x.keyed x.clear
    (record { rising = h.rising; indexes = h.indexes; distinct = h.distinct; few = h.few }) in
    subst IsKept (sym x.is) (record {
      name = h.name;
      short = h.short;
      least = h.least;
      most = h.most;
      rising = stay.rising;
      storable = all_put IsStorable w.document c.documents (placed w.document c.documents h.rising) h.storable good;
      indexes = stay.indexes;
      distinct = stay.distinct;
      few = stay.few;
    })

-- ---- where they lead

-- what is known of the collection that a document enters
module _ (b : List Collection) (name : List ℕ) (c : Collection) (lawful : IsLawfulState b) (found : find_collection b name ≡ Some c) (d : Pairs) where
  abbrev Noted : Collection
  Noted = record c { indexes = map (noted d) c.indexes }

  kept : IsKept c
  kept = kept_of b c lawful (found_in b name c found)

  found_by_name : find_collection b c.name ≡ Some c
  found_by_name = subst (λ (n : List ℕ). find_collection b n ≡ Some c) (found_name b name c found) found

  may_be_noted : MayBecome c Noted b
  may_be_noted = record { lawful = lawful; found = found_by_name; named = refl; numbered = refl; kept = (kept_noted c d kept).0 }

  pub noted_lawful : IsLawfulState (put_collection Noted b)
  noted_lawful = stays_lawful b c Noted may_be_noted

-- where none becomes multikey, all are noted as they are
pub noted_so : (d : Pairs) (is : List Definition) → list_any (becomes_multikey d) is ≡ false → map (noted d) is ≡ is
noted_so d [] none = refl
noted_so d (i ∷ is) none = by (is_multikey i.fields d) (i.is_multi) refl (noted_so d is) none
  where
    by : (many was : Bool) → i.is_multi ≡ was → (list_any (becomes_multikey d) is ≡ false → map (noted d) is ≡ is)
        → ((not was && many) || list_any (becomes_multikey d) is) ≡ false
        → (if many then record i { is_multi = true } else i) ∷ map (noted d) is ≡ i ∷ is
    by true true e rest none = (λ k. record i { is_multi = sym e k } ∷ rest none k)
    by true false e rest none = absurd cc
    by false true e rest none = ap (λ js. i ∷ js) (rest none)
    by false false e rest none = ap (λ js. i ∷ js) (rest none)

pub notes_none : (old : List Edit) (name : List ℕ) (number : ℕ) (is : List Definition) (d : Pairs) → map (noted d) is ≡ is
    → NotesArrays old old name number is d
notes_none old name number is d none a b c lead lawful found num same =
    let as_it_was : record c { indexes = map (noted d) c.indexes } ≡ c = λ i. record c { indexes = (ap (map (noted d)) same ∙ none ∙ sym same) i } in
    subst (Leads old a) (sym (ap (λ (x : Collection). put_collection x b) as_it_was ∙ put_same c b lawful.apart (found_by_name b name c lawful found d))) lead

pub notes_some : (old mid : List Edit) (name : List ℕ) (number : ℕ) (is js : List Definition) (d : Pairs) → js ≡ map (noted d) is
    → NotesIndexesOf old mid name number js → NotesArrays old mid name number is d
notes_some old mid name number is js d told notes a b c lead lawful found num same =
    let is_noted : js ≡ map (noted d) c.indexes = told ∙ ap (map (noted d)) (sym same) in
    subst (λ (ks : List Definition). Leads mid a (put_collection (record c { indexes = ks }) b)) is_noted
    (notes a b c lead (sym (found_name b name c found)) num
    (subst (AreAlike c.indexes) (sym is_noted) (kept_noted c d (kept b name c lawful found d)).1)
    (subst (λ (ks : List Definition). MayBecome c (record c { indexes = ks }) b) (sym is_noted) (may_be_noted b name c lawful found d)))

module _ (old mid new : List Edit) (name : List ℕ) (number : ℕ) (is js : List Definition) (d : Pairs) (good : IsStorable d) (told : js ≡ map (noted d) is)
    (notes : NotesArrays old mid name number is d) where
  -- the state in which the indexes are noted, and what becomes of its collection
  module _ (a b : List Collection) (c next : Collection) (w : DocumentWrite) (lead : Leads old a b) (lawful : IsLawfulState b)
      (found : find_collection b name ≡ Some c) (num : c.number ≡ number) (same : c.indexes ≡ is)
      (is_this : w.document ≡ d) (e : entered c w ≡ Ok next) where
    abbrev c_noted : Collection
    c_noted = record c { indexes = map (noted d) c.indexes }

    abbrev b_noted : List Collection
    b_noted = put_collection c_noted b

    abbrev made : List Pairs → Collection
    made ds = record c { documents = ds; indexes = map (noted d) c.indexes }

    next_is : next ≡ made (put_document d c.documents)
    next_is = (has_entered c next w e).is ∙ ap (λ (x : Pairs). with_document x c) is_this

    kept_next : IsKept next
    kept_next = kept_entered c next w (kept b name c lawful found d) (subst IsStorable (sym is_this) good) e

    may_become : (ds : List Pairs) → put_document d c.documents ≡ ds → MayBecome c_noted (made ds) b_noted
    may_become ds put = record {
      lawful = noted_lawful b name c lawful found d;
      found = finds_put c_noted b;
      named = refl;
      numbered = refl;
      kept = subst IsKept (next_is ∙ ap made put) kept_next;
    }

    arrives : (ds : List Pairs) → put_document d c.documents ≡ ds → Leads new a (put_collection (made ds) b_noted)
        → Leads new a (put_collection next b) × IsLawfulState (put_collection next b)
    arrives ds put leads =
        let is_next : made ds ≡ next = sym (next_is ∙ ap made put) in
        let there : put_collection (made ds) b_noted ≡ put_collection next b =
        put_twice (made ds) c_noted b refl ∙ ap (λ (x : Collection). put_collection x b) is_next in
        (subst (Leads new a) there leads, subst IsLawfulState there (stays_lawful b_noted c_noted (made ds) (may_become ds put)))

    mid_leads : Leads mid a b_noted
    mid_leads = notes a b c lead lawful found num same

    indexes_are : c_noted.indexes ≡ js
    indexes_are = ap (map (noted d)) same ∙ sym told

    by_insert : InsertsInto mid new number js d → IsBetween d c.documents → Leads new a (put_collection next b) × IsLawfulState (put_collection next b)
    by_insert inserts p =
        arrives (p.front ++ d ∷ p.back) p.put
        (inserts a b_noted c_noted p.front p.back mid_leads num indexes_are p.split (may_become (p.front ++ d ∷ p.back) p.put))

    by_replacing : (was : Pairs) → ReplacesIn mid new number js was d → (p : IsInstead d c.documents) → p.old ≡ was
        → Leads new a (put_collection next b) × IsLawfulState (put_collection next b)
    by_replacing was replaces p is_old =
        arrives (p.front ++ d ∷ p.back) p.put
        (replaces a b_noted c_noted p.front p.back mid_leads num indexes_are (p.split ∙ ap (λ (x : Pairs). p.front ++ x ∷ p.back) is_old)
        (subst (λ (x : Pairs). compare (key_of x) (key_of d) ≡ orders.Equal) is_old p.same) (may_become (p.front ++ d ∷ p.back) p.put))

  pub enters_new : InsertsInto mid new number js d → Enters old new name number is None d
  enters_new inserts a b c next lead lawful found num same none e =
      elim (placed d c.documents (kept b name c lawful found d).rising) [
        | inl p ↦ by_insert a b c next (record { is_new = true; document = d }) lead lawful found num same refl e inserts p
        | inr p ↦ (let both : Some p.old ≡ None = sym (some_instead d c.documents p) ∙ none in absurd cc)
      ]

  pub enters_old : (was : Pairs) → ReplacesIn mid new number js was d → Enters old new name number is (Some was) d
  enters_old was replaces a b c next lead lawful found num same there e =
      elim (placed d c.documents (kept b name c lawful found d).rising) [
        | inl p ↦ (let both : None ≡ Some was = sym (none_between d c.documents p) ∙ there in absurd cc)
        | inr p ↦ (let is_old : Some p.old ≡ Some was = sym (some_instead d c.documents p) ∙ there in
            by_replacing a b c next (record { is_new = false; document = d }) lead lawful found num same refl e was replaces p cc)
      ]

-- ---- keys

-- the keys in noted indexes are those before
pub keyed_noted : (d x : Pairs) (is : List Definition) → keys_in_all (map (noted d) is) x ≡ keys_in_all is x
keyed_noted d x is = λ k. unless (long is k) refusals.KeyTooLong (unless (parallel is k) refusals.CannotIndexParallelArrays (Ok (encoded is k)))
  where
    long : (js : List Definition) → list_any (λ i. is_too_long i.fields x) (map (noted d) js) ≡ list_any (λ i. is_too_long i.fields x) js
    long [] = refl
    long (i ∷ js) = let rest = long js in λ k. is_too_long (noted_fields d i k) x || rest k

    parallel : (js : List Definition) → list_any (λ i. has_parallel_arrays i.fields x) (map (noted d) js) ≡ list_any (λ i. has_parallel_arrays i.fields x) js
    parallel [] = refl
    parallel (i ∷ js) = let rest = parallel js in λ k. has_parallel_arrays (noted_fields d i k) x || rest k

    encoded : (js : List Definition) → map (λ i. encoded_keys i.fields x) (map (noted d) js) ≡ map (λ i. encoded_keys i.fields x) js
    encoded [] = refl
    encoded (i ∷ js) = let rest = encoded js in λ k. encoded_keys (noted_fields d i k) x ∷ rest k
