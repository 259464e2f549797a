-- What is known of what is found in a state.
use Rattle.std.proofs.Common.{◌≡◌, ℕ, Bool, true, false, List, [], ◌∷◌, Some, inl, inr, refl, sym, ap, subst, ◌∙◌, arith}
use Rattle.std.specs.Prelude.{if◌then◌else◌}
use Rattle.std.specs.Str.{bytes_eq}
use Rattle.std.specs.Ordering.{nat_cmp, ordering_reverse}
use Rattle.std.specs.Cmp.Lexicographic.{slice_cmp, nat_list_cmp_total}
use Rattle.std.specs.declared.cmp.Ordering.{Ordering}
use Rattle.std.specs.declared.cmp.Ordering.TheVariants as orders
use Rattle.std.proofs.lemmas.Cmp.{tied_itself}
use Rattle.std.proofs.lemmas.Map.Lookups.{exact_bytes}
use Rattle.std.proofs.lemmas.Slice.Eq.{bytes_eq-Decides}
use Rattle.bson.specs.Lookup.{lookup}
use Rattle.bson.specs.Spelling.{pairs_bytes}
use Rattle.bson.specs.SizingLaws.{frame_of-length}
use Rattle.entry_model.specs.FoundLaws.{FoundCollection, FoundDocument, FindsPut, PutTwice, WithoutPut, FieldIsKey}
use Rattle.entry_model.specs.LawfulState.{IsStorable, AreNamedApart}
use Rattle.entry_model.specs.State.{Collection, by_order, find_collection, put_collection, without_collection}
use Rattle.entry_model.proofs.LawfulParts.{kept_of}
use Rattle.entry_model.proofs.MemberLemmas.{Among, of_all, first_of}
use Rattle.entry_model.proofs.PlaceLemmas.{apart_rest, found_in, found_name, below_without}
use Rattle.entry_model.proofs.DocumentPlaces.{document_some}
use Rattle.index.proofs.SpellableLaws.{Fits, IfFound, field_fits}

pub found_collection : FoundCollection
found_collection cs name c h found =
    let there = found_in cs name c found in
    (kept_of cs c h there, sym (found_name cs name c found))

pub found_document : FoundDocument
found_document ds id d all found =
    let at = document_some ds id d found in (of_all IsStorable ds d all at.0, at.1)

pub finds_put : FindsPut
finds_put c [] = ap (λ (b : Bool). if b then Some c else find_collection [] c.name) ((bytes_eq-Decides c.name c.name).1 refl)
finds_put c (d ∷ cs) = by (slice_cmp nat_cmp c.name d.name) refl (finds_put c cs)
  where
    here : (rest : List Collection) → find_collection (c ∷ rest) c.name ≡ Some c
    here rest = ap (λ (b : Bool). if b then Some c else find_collection rest c.name) ((bytes_eq-Decides c.name c.name).1 refl)

    other : slice_cmp nat_cmp c.name d.name ≡ orders.Greater → (b : Bool) → bytes_eq c.name d.name ≡ b → bytes_eq c.name d.name ≡ false
    other more true same =
        let tied : slice_cmp nat_cmp c.name d.name ≡ orders.Greater
        → ⊥ = λ m. not_itself d.name (subst (λ (n : List ℕ). slice_cmp nat_cmp n d.name ≡ orders.Greater) ((bytes_eq-Decides c.name d.name).0 same) m) in
        absurd (tied more)
      where
        not_itself : (n : List ℕ) → slice_cmp nat_cmp n n ≡ orders.Greater → ⊥
        not_itself n m =
            let turned : slice_cmp nat_cmp n n ≡ orders.Less = nat_list_cmp_total.antisymm n n ∙ ap ordering_reverse m in
            let e : orders.Less ≡ orders.Greater = sym turned ∙ m in cc
    other more false e = e

    by : (o : Ordering) → slice_cmp nat_cmp c.name d.name ≡ o → find_collection (put_collection c cs) c.name ≡ Some c
        → find_collection (by_order o (c ∷ d ∷ cs) (c ∷ cs) (d ∷ put_collection c cs)) c.name ≡ Some c
    by orders.Less is later = here (d ∷ cs)
    by orders.Equal is later = here cs
    by orders.Greater is later =
        ap (λ (b : Bool). if b then Some d else find_collection (put_collection c cs) c.name) (other is (bytes_eq c.name d.name) refl) ∙ later

pub put_twice : PutTwice
put_twice c d [] same = ap (λ (o : Ordering). by_order o (c ∷ d ∷ []) (c ∷ []) (d ∷ c ∷ [])) (tied (sym same))
  where
    tied : c.name ≡ d.name → slice_cmp nat_cmp c.name d.name ≡ orders.Equal
    tied e = ap (λ (n : List ℕ). slice_cmp nat_cmp n d.name) e ∙ tied_itself nat_list_cmp_total d.name
put_twice c d (x ∷ cs) same = by (slice_cmp nat_cmp d.name x.name) refl (put_twice c d cs same)
  where
    tied : slice_cmp nat_cmp c.name d.name ≡ orders.Equal
    tied = ap (λ (n : List ℕ). slice_cmp nat_cmp n d.name) (sym same) ∙ tied_itself nat_list_cmp_total d.name

    put_at : (o : Ordering) → slice_cmp nat_cmp d.name x.name ≡ o → put_collection c (x ∷ cs) ≡ by_order o (c ∷ x ∷ cs) (c ∷ cs) (x ∷ put_collection c cs)
    put_at o is =
        ap (λ (p : Ordering). by_order p (c ∷ x ∷ cs) (c ∷ cs) (x ∷ put_collection c cs)) (ap (λ (n : List ℕ). slice_cmp nat_cmp n x.name) (sym same) ∙ is)

    first : (rest : List Collection) → put_collection c (d ∷ rest) ≡ c ∷ rest
    first rest = ap (λ (p : Ordering). by_order p (c ∷ d ∷ rest) (c ∷ rest) (d ∷ put_collection c rest)) tied

    by : (o : Ordering) → slice_cmp nat_cmp d.name x.name ≡ o → put_collection c (put_collection d cs) ≡ put_collection c cs
        → put_collection c (by_order o (d ∷ x ∷ cs) (d ∷ cs) (x ∷ put_collection d cs)) ≡ put_collection c (x ∷ cs)
    by orders.Less is later = first (x ∷ cs) ∙ sym (put_at orders.Less is)
    by orders.Equal is later = first cs ∙ sym (put_at orders.Equal is)
    by orders.Greater is later =
        ap (λ (p : Ordering). by_order p (c ∷ x ∷ put_collection d cs) (c ∷ put_collection d cs) (x ∷ put_collection c (put_collection d cs)))
        (ap (λ (n : List ℕ). slice_cmp nat_cmp n x.name) (sym same) ∙ is)
        ∙ ap (λ (rest : List Collection). x ∷ rest) later ∙ sym (put_at orders.Greater is)

without_put_apart : (c : Collection) (cs : List Collection) → AreNamedApart cs → without_collection c.name (put_collection c cs) ≡ without_collection c.name cs
without_put_apart c [] apart = ap (λ (b : Bool). if b then [] else c ∷ []) ((bytes_eq-Decides c.name c.name).1 refl)
without_put_apart c (x ∷ cs) apart = by (slice_cmp nat_cmp c.name x.name) refl (without_put_apart c cs (apart_rest x cs apart))
  where
    first : (rest : List Collection) → without_collection c.name (c ∷ rest) ≡ rest
    first rest = ap (λ (b : Bool). if b then rest else c ∷ without_collection c.name rest) ((bytes_eq-Decides c.name c.name).1 refl)

    by : (o : Ordering) → slice_cmp nat_cmp c.name x.name ≡ o → without_collection c.name (put_collection c cs) ≡ without_collection c.name cs
        → without_collection c.name (by_order o (c ∷ x ∷ cs) (c ∷ cs) (x ∷ put_collection c cs)) ≡ without_collection c.name (x ∷ cs)
    by orders.Less less later = first (x ∷ cs) ∙ sym (below_without (x ∷ cs) c.name above)
      where
        above : (y : Collection) → Among y (x ∷ cs) → slice_cmp nat_cmp c.name y.name ≡ orders.Less
        above y (inl e) = ap (λ (z : Collection). slice_cmp nat_cmp c.name z.name) e ∙ less
        above y (inr g) = nat_list_cmp_total.trans c.name x.name y.name less (first_of (λ p q. slice_cmp nat_cmp p.name q.name ≡ orders.Less) x cs y apart g)
    by orders.Equal tied later =
        first cs ∙ sym
        (ap (λ (b : Bool). if b then cs else x ∷ without_collection c.name cs) ((bytes_eq-Decides c.name x.name).1 (exact_bytes c.name x.name tied)))
    by orders.Greater more later =
        let other : bytes_eq c.name x.name ≡ false = differs_above (bytes_eq c.name x.name) refl in
        ap (λ (b : Bool). if b then put_collection c cs else x ∷ without_collection c.name (put_collection c cs)) other
        ∙ ap (λ (rest : List Collection). x ∷ rest) later ∙ sym (ap (λ (b : Bool). if b then cs else x ∷ without_collection c.name cs) other)
      where
        differs_above : (b : Bool) → bytes_eq c.name x.name ≡ b → bytes_eq c.name x.name ≡ false
        differs_above true e =
            let tied : slice_cmp nat_cmp x.name x.name ≡ orders.Greater =
            ap (λ (n : List ℕ). slice_cmp nat_cmp n x.name) (sym ((bytes_eq-Decides c.name x.name).0 e)) ∙ more in
            absurd (let f : orders.Equal ≡ orders.Greater = sym (tied_itself nat_list_cmp_total x.name) ∙ tied in cc)
        differs_above false e = e

pub without_put : WithoutPut
without_put c cs lawful = without_put_apart c cs lawful.apart

pub field_is_key : FieldIsKey
field_is_key ps name t lawful short found =
    let there : IfFound 1048576 (lookup ps name) = field_fits 1048576 ps name lawful.lawful (omega (arith, short, frame_of-length (pairs_bytes ps))) in
    let fits : Fits 1048576 t = subst (IfFound 1048576) found there in (fits.lawful, fits.size)
