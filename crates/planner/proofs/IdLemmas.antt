-- Documents that are looked up by their `_id`s are those of a scan.
use Rattle.std.proofs.Common.{◌≡◌, inl, inr, ℕ, Bool, true, List, [], ◌∷◌, Option, Some, None, refl, sym, ap, subst, ◌∙◌}
use Rattle.std.specs.Prelude.{All, Contains, if◌then◌else◌}
use Rattle.std.specs.List.{filter}
use Rattle.std.specs.Cmp.{IsTotalOrder, on_total}
use Rattle.std.specs.Ordering.{on, is_eq, ordering_reverse}
use Rattle.std.specs.declared.cmp.Ordering.{Ordering}
use Rattle.std.specs.declared.cmp.Ordering.TheVariants.{Less, Equal, Greater}
use Rattle.bson.specs.Tree.{Tree, Pairs}
use Rattle.value_order.specs.KeyText.{tree_text}
use Rattle.value_order.specs.Laws.{IsKey}
use Rattle.value_order.specs.Order.{bytes_cmp, compare, value}
use Rattle.value_order.specs.TotalLaws.{compare_total}
use Rattle.value_order.specs.declared.texts.Direction.TheVariants.{Ascending}
use Rattle.value_order.proofs.KeyLaws.{texts_order, texts_agree}
use Rattle.entry_model.specs.LawfulState.{IsStorable, IsRising}
use Rattle.entry_model.specs.State.{key_of}
use Rattle.entry_model.specs.StateReads.{find_document}
use Rattle.entry_model.proofs.LawfulParts.{id_is_key}
use Rattle.entry_model.proofs.DocumentPlaces.{document_some}
use Rattle.entry_model.proofs.MemberLemmas.{Among, among_of, contains_of, of_all}
use Rattle.planner.specs.IdLaws.{AreIdTexts, FindsByIds, found_by, with_found}
use Rattle.planner.proofs.RisingLemmas.{Below, Rises, rises_of, one_rising, filter_among, among_filter, rises_filter}

abbrev ids_cmp : Pairs → Pairs → Ordering
ids_cmp = on key_of compare

by_id : IsTotalOrder ids_cmp
by_id = on_total key_of compare_total

-- texts order as the values do
as_texts : (a b : Tree) → IsKey (value a) → IsKey (value b) → bytes_cmp (tree_text a) (tree_text b) ≡ compare a b
as_texts a b ka kb = texts_order Ascending (value a) (value b) ka kb

turned : (a b : Tree) (o : Ordering) → compare a b ≡ o → compare b a ≡ ordering_reverse o
turned a b o e = compare_total.antisymm b a ∙ ap ordering_reverse e

-- what has the `_id` and rises is the document that is found
found_there : (ds : List Pairs) (id : Tree) (d : Pairs) → Rises ids_cmp ds → Among d ds → compare id (key_of d) ≡ Equal → find_document ds id ≡ Some d
found_there [] id d up g tied = absurd g
found_there (x ∷ ds) id d up (inl same) tied =
    let here : compare id (key_of x) ≡ Equal = ap (λ (y : Pairs). compare id (key_of y)) (sym same) ∙ tied in
    rw here (ap (λ (y : Pairs). let o : Option Pairs = Some y in o) (sym same))
found_there (x ∷ ds) id d up (inr g) tied = at (compare id (key_of x)) refl (found_there ds id d up.1 g tied)
  where
    less : (ys : List Pairs) → Below ids_cmp x ys → Among d ys → ids_cmp x d ≡ Less
    less [] h g = absurd g
    less (y ∷ ys) h (inl e) = ap (ids_cmp x) e ∙ h.0
    less (y ∷ ys) h (inr g) = less ys h.1 g

    at : (o : Ordering) → compare id (key_of x) ≡ o → find_document ds id ≡ Some d
        → (if is_eq (compare id (key_of x)) then Some x else find_document ds id) ≡ Some d
    at Less e later = rw e later
    at Greater e later = rw e later
    at Equal e later =
        absurd (let to_x : compare (key_of x) (key_of d) ≡ Equal = compare_total.congr (key_of x) id (key_of d) (turned id (key_of x) Equal e) ∙ tied in
        let no : Equal ≡ Less = sym to_x ∙ less ds up.0 g in cc)

module _ (passes : Pairs → Bool) (ds : List Pairs) (storable : All IsStorable ds) (rising : IsRising ds) where
  key_there : (d : Pairs) → Among d ds → IsKey (value (key_of d))
  key_there d g = id_is_key d (of_all IsStorable ds d storable g)

  -- those that are found of later `_id`s stand behind the one of this
  below : (id : Tree) (e : Pairs) (ts : List (List ℕ)) (ids : List Tree) → IsKey (value id) → compare id (key_of e) ≡ Equal → Below bytes_cmp (tree_text id) ts
      → AreIdTexts ts ids → Below ids_cmp e (found_by ds ids)
  below id e [] [] k tied h told = tt
  below id e [] (i ∷ ids) k tied h told = absurd told
  below id e (t ∷ ts) [] k tied h told = absurd told
  below id e (t ∷ ts) (i ∷ ids) k tied h told = at (find_document ds i) refl (below id e ts ids k tied h.1 told.2)
    where
      less : compare id i ≡ Less
      less = sym (as_texts id i k told.1) ∙ ap (bytes_cmp (tree_text id)) (sym told.0) ∙ h.0

      at : (o : Option Pairs) → find_document ds i ≡ o → Below ids_cmp e (found_by ds ids) → Below ids_cmp e (with_found o (found_by ds ids))
      at None is later = later
      at (Some x) is later =
          let there = document_some ds i x is in
          let e_i : compare (key_of e) i ≡ Less = compare_total.congr (key_of e) id i (turned id (key_of e) Equal tied) ∙ less in
          let i_e : compare i (key_of e) ≡ Greater = turned (key_of e) i Less e_i in
          let x_e : compare (key_of x) (key_of e) ≡ Greater = compare_total.congr (key_of x) i (key_of e) (turned i (key_of x) Equal there.1) ∙ i_e in
          (turned (key_of x) (key_of e) Greater x_e, later)

  found_rise : (ts : List (List ℕ)) (ids : List Tree) → Rises bytes_cmp ts → AreIdTexts ts ids → Rises ids_cmp (found_by ds ids)
  found_rise [] [] up told = tt
  found_rise [] (i ∷ ids) up told = absurd told
  found_rise (t ∷ ts) [] up told = absurd told
  found_rise (t ∷ ts) (i ∷ ids) up told = at (find_document ds i) refl (found_rise ts ids up.1 told.2)
    where
      at : (o : Option Pairs) → find_document ds i ≡ o → Rises ids_cmp (found_by ds ids) → Rises ids_cmp (with_found o (found_by ds ids))
      at None is later = later
      at (Some x) is later = (below i x ts ids told.1 (document_some ds i x is).1 (subst (λ (s : List ℕ). Below bytes_cmp s ts) told.0 up.0) told.2, later)

  -- they are of the collection
  found_among : (ids : List Tree) (d : Pairs) → Among d (found_by ds ids) → Among d ds
  found_among [] d g = absurd g
  found_among (i ∷ ids) d g = at (find_document ds i) refl (found_among ids d) g
    where
      at : (o : Option Pairs) → find_document ds i ≡ o → (Among d (found_by ds ids) → Among d ds) → Among d (with_found o (found_by ds ids)) → Among d ds
      at None is later g = later g
      at (Some x) is later (inl same) = subst (λ (y : Pairs). Among y ds) (sym same) (document_some ds i x is).0
      at (Some x) is later (inr g) = later g

  -- one whose text is told is found
  among_found : (ts : List (List ℕ)) (ids : List Tree) (d : Pairs) → Among d ds → AreIdTexts ts ids → Among (tree_text (key_of d)) ts
      → Among d (found_by ds ids)
  among_found [] ids d there told g = absurd g
  among_found (t ∷ ts) [] d there told g = absurd told
  among_found (t ∷ ts) (i ∷ ids) d there told (inl same) =
      let agree : tree_text i ≡ tree_text (key_of d) = sym told.0 ∙ sym same in
      let tied : compare i (key_of d) ≡ Equal = (texts_agree Ascending (value i) (value (key_of d)) told.1 (key_there d there)).0 agree in
      subst (λ (o : Option Pairs). Among d (with_found o (found_by ds ids))) (sym (found_there ds i d (rises_of ids_cmp ds rising) there tied)) (inl refl)
  among_found (t ∷ ts) (i ∷ ids) d there told (inr g) = at (find_document ds i) (among_found ts ids d there told.2 g)
    where
      at : (o : Option Pairs) → Among d (found_by ds ids) → Among d (with_found o (found_by ds ids))
      at None g = g
      at (Some x) g = inr g

  found : (ts : List (List ℕ)) (ids : List Tree) → Rises bytes_cmp ts → AreIdTexts ts ids
      → ((d : Pairs) → Contains ds d → passes d ≡ true → Contains ts (tree_text (key_of d))) → filter passes (found_by ds ids) ≡ filter passes ds
  found ts ids up told all = one_rising ids_cmp by_id (filter passes (found_by ds ids)) (filter passes ds)
      (rises_filter passes ids_cmp (found_by ds ids) (found_rise ts ids up told)) (rises_filter passes ids_cmp ds (rises_of ids_cmp ds rising))
      (λ d g. let h = filter_among passes d (found_by ds ids) g in among_filter passes d ds (found_among ids d h.0) h.1)
      (λ d g.
      let h = filter_among passes d ds g in
      among_filter passes d (found_by ds ids) (among_found ts ids d h.0 told (among_of ts (tree_text (key_of d)) (all d (contains_of ds d h.0) h.1))) h.1)

pub finds_by_ids : FindsByIds
finds_by_ids passes ds ids texts storable rising up told all = found passes ds storable rising texts ids (rises_of bytes_cmp texts up) told all
