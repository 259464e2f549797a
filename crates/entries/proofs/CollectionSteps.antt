-- A collection more, and one less.
use Rattle.std.proofs.Common.{◌≡◌, List, [], ◌∷◌, inl, inr, refl, sym, ap, subst}
use Rattle.tree_model.specs.Keys.{Entry}
use Rattle.entry_model.specs.State.{Collection, empty_collection, put_collection, without_collection}
use Rattle.entry_model.specs.StateEntries.{catalogue_entry, collection_entries, state_entries}
use Rattle.entry_model.specs.StateLaws.{MakesCollection, DropsCollection}
use Rattle.entry_model.proofs.MemberLemmas.{Among, among_flat, among_each}
use Rattle.entries.proofs.ExchangeLaws.{exchange_leads}
use Rattle.entry_model.proofs.PlaceLemmas.{found_in, found_split, none_without, without_in, without_other, put_among, among_put}
use Rattle.entries.proofs.EntryLemmas.{one_of}
use Rattle.entries.proofs.HomeLemmas.{one_home, is_map}
use Rattle.entries.proofs.StepLemmas.{removals_alone}

pub makes_collection : MakesCollection
makes_collection cs name number lawful missing still =
    let new = empty_collection name number in
    let after = put_collection new cs in
    let same = none_without cs name missing in
    let new_there : (x : Entry) → Among x (collection_entries new)
    → Among x (state_entries after) = λ x p. among_each collection_entries x new after (among_put new cs new lawful.apart (inl refl)) p in
    let old_there : (x : Entry) → Among x (state_entries cs) → Among x (state_entries after) =
    λ x p. let d = among_flat collection_entries x cs p in
    among_each collection_entries x d.0 after (among_put new cs d.0 lawful.apart (inr (subst (λ (ds : List Collection). Among d.0 ds) (sym same) d.1))) d.2 in
    exchange_leads [] (catalogue_entry new ∷ []) cs after (record {
      is_map = is_map after still;
      put = λ x p. new_there x p;
      left = λ x p. inr (inr (old_there x p));
      from = λ x p. let d = among_flat collection_entries x after p in elim (put_among new cs d.0 lawful.apart d.1) [
        | inl e ↦ inl (subst (λ (y : Collection). Among x (collection_entries y)) e d.2)
        | inr g ↦ inr (among_each collection_entries x d.0 cs (without_in cs name d.0 g) d.2)
      ];
      away = λ x p k. absurd k.1;
    })

pub drops_collection : DropsCollection
drops_collection cs c lawful found =
    let after = without_collection c.name cs in
    let was : (x : Entry) → Among x (state_entries after) → Among x (state_entries cs) =
    λ x p. let d = among_flat collection_entries x after p in among_each collection_entries x d.0 cs (without_in cs c.name d.0 d.1) d.2 in
    removals_alone (collection_entries c) cs after (exchange_leads (collection_entries c) [] cs after (record {
      is_map = λ x y p q same. is_map cs lawful x y (was x p) (was y q) same;
      put = λ x p. absurd p;
      left = λ x p. let d = among_flat collection_entries x cs p in elim (found_split cs c.name c d.0 found d.1) [
        | inl e ↦ inl (x, subst (λ (y : Collection). Among x (collection_entries y)) e d.2, refl)
        | inr g ↦ inr (inr (among_each collection_entries x d.0 after g d.2))
      ];
      from = λ x p. inr (was x p);
      away = λ x p k.
          let d = among_flat collection_entries x after p in
          let same : d.0 ≡ c =
          one_home cs d.0 c x k.0 lawful (without_in cs c.name d.0 d.1) (found_in cs c.name c found) (one_of d.0 x d.2) (one_of c k.0 k.1) (sym k.2) in
          absurd (without_other cs c.name d.0 lawful.apart d.1 (sym (ap (λ (y : Collection). y.name) same)));
    }))
