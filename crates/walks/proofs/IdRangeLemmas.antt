-- All documents that are looked for lie between the ends of a filter's range of `_id`s.
use Rattle.std.proofs.Common.{◌≡◌, ℕ, Bool, true, false, not, ◌&&◌, List, [], ◌∷◌, ◌++◌, get_or, Option, Some, None, Result, refl, sym, ap, subst, ◌∙◌}
use Rattle.std.specs.List.{filter}
use Rattle.std.specs.Option.{option_and_then, option_map}
use Rattle.std.specs.Ordering.{is_gt, is_lt, nat_cmp, ordering_then}
use Rattle.std.specs.declared.cmp.Ordering.{Ordering}
use Rattle.std.specs.declared.cmp.Ordering.TheVariants.{Less, Equal, Greater}
use Rattle.std.proofs.lemmas.Cmp.{alike_right, nat_cmp_total}
use Rattle.bson.specs.Tree.{Tree, scalar, document, array, Pairs}
use Rattle.value_order.specs.KeyText.{tree_text}
use Rattle.page.specs.History.{History}
use Rattle.path.specs.declared.refusal.Refusal.{Refusal}
use Rattle.tree_model.specs.Keys.{is_within, key_cmp}
use Rattle.btree.specs.declared.folding.Bounds.{Bounds}
use Rattle.filter.specs.Condition.{Conditions}
use Rattle.filter.specs.Matches.{matches}
use Rattle.entry_model.specs.LawfulState.{IsStorable}
use Rattle.entries.specs.OtherKeys.{IsEndOf}
use Rattle.entry_model.specs.State.{key_of}
use Rattle.entries.specs.declared.catalogue_reading.Catalogued.{Catalogued}
use Rattle.entry_model.proofs.FoundLawLemmas.{found_collection}
use Rattle.collections.specs.Folding.{IsFolded, documents_within, lies_within}
use Rattle.collections.specs.Lookups.{IsNumbered, ReadsOf}
use Rattle.collections.specs.State.{State}
use Rattle.collections.specs.View.{is_stopped}
use Rattle.database_model.specs.Lawful.{IsStored}
use Rattle.update_model.specs.Stored.{no_array as no_list}
use Rattle.planner.specs.IdRange.{HasIdBetween, HasPlainId}
use Rattle.planner.specs.KeyRange.{IsSpellable, place_by}
use Rattle.planner.specs.KeySpan.{first_key, last_key}
use Rattle.plan_model.specs.Plan.{Range, fields_of, range_in}
use Rattle.plan_model.specs.Usable.{no_array}
use Rattle.planner.proofs.IdRangeLemmas.{id_range_selects}
use Rattle.asked_documents.specs.Asking.{IsAsked, AsksMatching}
use Rattle.walks.specs.IdRange.{IsIdRange, IsWalked, PassWithin, has_id_within}
use Rattle.asked_documents.proofs.ReadingLemmas.{reads_as}
use Rattle.walks.proofs.FilterLemmas.{all_pass, filter_within}

-- ---- a text up to the last one is below the end of what goes on from that

up_to_end : (last text high : List ℕ) → ((rest : List ℕ) → is_lt (key_cmp (last ++ rest) high) ≡ true) → is_gt (place_by last text) ≡ false
    → is_lt (key_cmp text high) ≡ true
up_to_end [] text high ends up = ends text
up_to_end (c ∷ last) text [] ends up = absurd (let no = ends [] in cc)
up_to_end (c ∷ last) [] (h ∷ high) ends up = refl
up_to_end (c ∷ last) (b ∷ text) (h ∷ high) ends up = by (nat_cmp b c) (nat_cmp c h) refl refl ends up (up_to_end last text high)
  where
    by : (o p : Ordering) → nat_cmp b c ≡ o → nat_cmp c h ≡ p → ((rest : List ℕ) → is_lt (ordering_then p (key_cmp (last ++ rest) high)) ≡ true)
        → is_gt (ordering_then o (place_by last text)) ≡ false
        → (((rest : List ℕ) → is_lt (key_cmp (last ++ rest) high) ≡ true) → is_gt (place_by last text) ≡ false → is_lt (key_cmp text high) ≡ true)
        → is_lt (ordering_then (nat_cmp b h) (key_cmp text high)) ≡ true
    by Greater p e f ends up later = absurd cc
    by o Greater e f ends up later = absurd (let no = ends [] in cc)
    by Less Less e f ends up later = rw (nat_cmp_total.trans b c h e f) refl
    by Less Equal e f ends up later = rw (sym (alike_right nat_cmp_total c h b f) ∙ e) refl
    by Equal Less e f ends up later = rw (nat_cmp_total.congr b c h e ∙ f) refl
    by Equal Equal e f ends up later = rw (nat_cmp_total.congr b c h e ∙ f) (later ends up)

below_end : (last text : List ℕ) (end : Option (List ℕ)) → IsEndOf last end → is_gt (place_by last text) ≡ false → is_within end text ≡ true
below_end last text None ends up = refl
below_end last text (Some high) ends up = up_to_end last text high ends up

-- ---- the range of a filter

plain_id : (d : Pairs) → IsStorable d → IsStored d → HasPlainId d
plain_id d storable stored = by (key_of d) (ap (option_and_then no_list) (sym storable.key) ∙ stored.key)
  where
    by : (t : Tree) → no_list t ≡ Some t → no_array t ≡ Some t
    by (scalar s) e = refl
    by (document ps) e = refl
    by (array ts) e = absurd cc

module _ (rs : Conditions) (r : Range) (is : IsIdRange rs r) (first last : List ℕ) (end : Option (List ℕ)) (begins : first ≡ first_key (fields_of r.index) r)
    (stops : last ≡ last_key (fields_of r.index) r) (ends : IsEndOf last end) where
  abbrev given : Range
  given = range_in rs [] None

  from : first ≡ first_key (fields_of None) given
  from = begins ∙ ap (λ (x : Range). first_key (fields_of x.index) x) is.given

  to : last ≡ last_key (fields_of None) given
  to = stops ∙ ap (λ (x : Range). last_key (fields_of x.index) x) is.given

  lies : (d : Pairs) → HasIdBetween given d → has_id_within first end d ≡ true
  lies d h =
      let text = tree_text (key_of d) in
      let not_below : is_lt (key_cmp text first) ≡ false = ap (λ (k : List ℕ). is_lt (key_cmp text k)) from ∙ h.0 in
      let up : is_gt (place_by last text) ≡ false = ap (λ (k : List ℕ). is_gt (place_by k text)) to ∙ h.1 in
      λ i. not (not_below i) && below_end last text end ends up i

  pub matching_within : PassWithin (matches rs) first end
  matching_within ds storable stored =
      id_range_selects rs [] (has_id_within first end) ds (subst IsSpellable is.given is.spellable) storable
      (λ k d below. plain_id (get_or ds k d) (storable k d below) (stored k d below)) lies

-- ---- documents that are looked for

pub all_within : (passes : Pairs → Bool) (first : List ℕ) (end : Option (List ℕ)) → first ≡ [] → end ≡ None → PassWithin passes first end
all_within passes first end begins none ds storable stored =
    ap (filter passes) (all_pass (has_id_within first end) ds (λ d there. each d))
  where
    each : (d : Pairs) → has_id_within first end d ≡ true
    each d = rw (begins, none) (by (tree_text (key_of d)))
      where
        by : (text : List ℕ) → (not (is_lt (key_cmp text [])) && true) ≡ true
        by [] = refl
        by (b ∷ text) = refl

-- those that the filter of all that are looked for leaves in
pub asked_within : (passes : Pairs → Bool) (rs : Conditions) (first : List ℕ) (end : Option (List ℕ)) → AsksMatching passes rs
    → PassWithin (matches rs) first end → PassWithin passes first end
asked_within passes rs first end asks within ds storable stored =
    narrowed (filter (has_id_within first end) ds) ∙ ap (filter passes) (within ds storable stored) ∙ sym (narrowed ds)
  where
    narrowed : (xs : List Pairs) → filter passes xs ≡ filter passes (filter (matches rs) xs)
    narrowed xs = sym (filter_within passes (matches rs) xs (λ d there. asks d))

-- ---- what a walk lends

module _ {D F : Type 0} (history : D → History) (makes : F → List Pairs → F → Type 0) (start : F) (home : Catalogued) (passes : Pairs → Bool) (texts : Bounds)
    (first : List ℕ) (end : Option (List ℕ)) (from : texts.from.now ≡ first) (to : option_map (λ b. b.now) texts.to ≡ end)
    (within : PassWithin passes first end) where
  pub walked : (old new : State D) (r : Result F Refusal) → is_stopped old ≡ false
      → ReadsOf history (λ now c. IsNumbered now c home.number) (λ now c done. IsFolded makes start (documents_within texts c.documents) done) r old new
      → ReadsOf history (IsAsked home) (λ now c done. IsWalked passes makes start c.documents done) r old new
  walked old new r running reads =
      reads_as history (IsAsked home) (λ now c. IsNumbered now c home.number)
      (λ now c done. IsFolded makes start (documents_within texts c.documents) done) (λ now c done. IsWalked passes makes start c.documents done) old new r
      running reads
      (λ now state c asked. record {
        other = c;
        was = asked.numbered;
        right = λ done folded. record {
          chosen = λ d. lies_within texts (tree_text (key_of d));
          same =
              (λ i. filter passes (filter (has_id_within (from i) (to i)) c.documents))
              ∙ within c.documents ((found_collection now c.name c state asked.numbered.found).0).storable asked.stored;
          folded = folded;
        };
      })
