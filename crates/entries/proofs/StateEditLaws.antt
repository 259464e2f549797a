-- What one edit makes of a state: a collection more, and one less.
use Rattle.std.proofs.Common.{◌≡◌, ℕ, ◌<◌, ◌≤◌, Bool, true, false, List, [], ◌∷◌, length, Option, Some, None, refl, sym, ap, subst}
use Rattle.std.proofs.Common.{◌∙◌, arith}
use Rattle.std.specs.Prelude.{IsUtf8, if◌then◌else◌}
use Rattle.std.specs.Str.{bytes_eq}
use Rattle.std.specs.List.{flat_map}
use Rattle.std.specs.Ordering.{nat_cmp, ordering_reverse}
use Rattle.std.specs.Cmp.Lexicographic.{slice_cmp, nat_list_cmp_total}
use Rattle.std.specs.declared.cmp.Ordering.{Ordering}
use Rattle.std.specs.declared.cmp.Ordering.TheVariants as orders
use Rattle.bson.specs.Tree.{Pairs}
use Rattle.value_order.specs.KeyText.{tree_text}
use Rattle.tree_model.specs.Keys.{removal}
use Rattle.tree_model.specs.Keys.{Edit}
use Rattle.entry_model.specs.Documents.{AddsCollection, RemovesCollection}
use Rattle.entries.specs.EditList.{LeadsWith}
use Rattle.entry_model.specs.LawfulState.{IsKept, IsLawfulState, AreNamedApart}
use Rattle.entry_model.specs.State.{Collection, by_order, words, empty_collection, find_collection, uses, put_collection, without_collection}
use Rattle.entry_model.specs.StateEntries.{key_under, catalogue_entry, document_entries, collection_entries, put_of, removal_of}
use Rattle.entry_model.specs.StateEntries.{removals, Leads}
use Rattle.entries.proofs.CollectionSteps.{makes_collection, drops_collection}
use Rattle.entry_model.proofs.LawfulLaws.{makes_lawful, drops_lawful}
use Rattle.entry_model.proofs.MemberLemmas.{first_of}
use Rattle.entry_model.proofs.PlaceLemmas.{same_name, name_itself, apart_rest, found_in, found_name}

-- a collection in its own place changes nothing
pub put_same : (c : Collection) (cs : List Collection) → AreNamedApart cs → find_collection cs c.name ≡ Some c → put_collection c cs ≡ cs
put_same c [] apart e = absurd cc
put_same c (d ∷ cs) apart e = by (slice_cmp nat_cmp c.name d.name) refl (bytes_eq c.name d.name) refl e (put_same c cs (apart_rest d cs apart))
  where
    found_first : Some d ≡ Some c → d ≡ c
    found_first p = ap (λ (o : Option Collection). or_first o) p
      where
        or_first : Option Collection → Collection
        or_first None = d
        or_first (Some x) = x

    below : find_collection cs c.name ≡ Some c → slice_cmp nat_cmp d.name c.name ≡ orders.Less
    below f = first_of (λ p q. slice_cmp nat_cmp p.name q.name ≡ orders.Less) d cs c apart (found_in cs c.name c f)

    not_below : slice_cmp nat_cmp d.name c.name ≡ orders.Less → (o : Ordering) → slice_cmp nat_cmp c.name d.name ≡ o → o ≡ orders.Greater
    not_below less o is = sym is ∙ nat_list_cmp_total.antisymm c.name d.name ∙ ap ordering_reverse less

    by : (o : Ordering) → slice_cmp nat_cmp c.name d.name ≡ o → (s : Bool) → bytes_eq c.name d.name ≡ s
        → (if s then Some d else find_collection cs c.name) ≡ Some c
        → (find_collection cs c.name ≡ Some c → put_collection c cs ≡ cs) → by_order o (c ∷ d ∷ cs) (c ∷ cs) (d ∷ put_collection c cs) ≡ d ∷ cs
    by orders.Less less true same f later =
        absurd (name_itself d.name (subst (λ (m : List ℕ). slice_cmp nat_cmp m d.name ≡ orders.Less) (same_name c.name d.name same) less))
    by orders.Less less false other f later = absurd (let g : orders.Less ≡ orders.Greater = not_below (below f) orders.Less less in cc)
    by orders.Equal tied true same f later = ap (λ (x : Collection). x ∷ cs) (sym (found_first f))
    by orders.Equal tied false other f later = absurd (let g : orders.Equal ≡ orders.Greater = not_below (below f) orders.Equal tied in cc)
    by orders.Greater more true same f later =
        absurd (name_itself d.name
        (subst (λ (m : List ℕ). slice_cmp nat_cmp d.name m ≡ orders.Less) (same_name c.name d.name same)
        (nat_list_cmp_total.antisymm d.name c.name ∙ ap ordering_reverse more)))
    by orders.Greater more false other f later = ap (λ (xs : List Collection). d ∷ xs) (later f)

-- ---- a collection more, and one less

pub adds_collection : (b : List Collection) (name : List ℕ) (number : ℕ) → IsLawfulState b → IsUtf8 name → length name ≤ 255 → 1 ≤ number → number ≤ 1000
    → find_collection b name ≡ None
    → uses b number ≡ false → length b < 1000
    → Leads (put_of (catalogue_entry (empty_collection name number)) ∷ []) b (put_collection (empty_collection name number) b)
    × IsLawfulState (put_collection (empty_collection name number) b)
adds_collection b name number h utf8 short least most missing unused room =
    let new = empty_collection name number in
    let kept : IsKept new = record {
      name = utf8;
      short = short;
      least = least;
      most = most;
      rising = λ i j d lt below. absurd (omega (arith, below));
      storable = λ k d below. absurd (omega (arith, below));
      indexes = λ k d below. absurd (omega (arith, below));
      distinct = λ i j d lt below. absurd (omega (arith, below));
      few = omega arith;
    } in
    let lawful = makes_lawful b new h missing unused kept room in
    (makes_collection b name number h missing lawful, lawful)

pub removes_collection : (b : List Collection) (name : List ℕ) (c : Collection) → IsLawfulState b → find_collection b name ≡ Some c → c.documents ≡ []
    → Leads (removal (key_under 0 0 (tree_text (words name))) ∷ []) b (without_collection name b) × IsLawfulState (without_collection name b)
removes_collection b name c h found empty =
    let named : name ≡ c.name = found_name b name c found in
    let leads : Leads (removals (collection_entries c)) b (without_collection c.name b) =
    drops_collection b c h (subst (λ (m : List ℕ). find_collection b m ≡ Some c) named found) in
    let alone : Leads (removal_of (catalogue_entry c) ∷ []) b (without_collection c.name b) =
    subst (λ (ds : List Pairs). Leads (removals (catalogue_entry c ∷ flat_map (document_entries c.number c.indexes) ds)) b (without_collection c.name b)) empty
    leads in (
      subst (λ (m : List ℕ). Leads (removal (key_under 0 0 (tree_text (words m))) ∷ []) b (without_collection m b)) (sym named) alone,
      drops_lawful b name h,
    )

-- ---- of lists of edits

pub adds_with : (old new : List Edit) (name : List ℕ) (number : ℕ) → IsUtf8 name → length name ≤ 255 → 1 ≤ number → number ≤ 1000
    → LeadsWith old (put_of (catalogue_entry (empty_collection name number))) new → AddsCollection old new name number
adds_with old new name number utf8 short least most leads a b first h missing unused room =
    let step = adds_collection b name number h utf8 short least most missing unused room in
    (leads a b (put_collection (empty_collection name number) b) first step.0, step.1)

pub drops_with : (old new : List Edit) (name : List ℕ) → LeadsWith old (removal (key_under 0 0 (tree_text (words name)))) new → RemovesCollection old new name
drops_with old new name leads a b c first h found empty =
    let step = removes_collection b name c h found empty in
    (leads a b (without_collection name b) first step.0, step.1)
