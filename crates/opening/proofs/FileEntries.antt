-- The entries of a file that are all taken spell what they make.
use Rattle.std.proofs.Common.{◌≡◌, ◌⊎◌, ℕ, ◌+◌, ◌≤◌, Bool, true, false, List, [], ◌∷◌, ◌++◌, length, Some, inl, inr, refl, sym, ap, subst, ◌∙◌, arith}
use Rattle.std.proofs.Common.{append-nil, append_assoc}
use Rattle.tree_model.specs.Keys.{Each, Entry, IsUnder, Rises}
use Rattle.entry_model.specs.Documents.{put_document, with_documents}
use Rattle.entry_model.specs.State.{Collection}
use Rattle.entry_model.specs.StateEntries.{Spells, catalogue_entry, collection_entries, entry_keys, state_entries}
use Rattle.entries.proofs.EntryLemmas.{IsDocumentOf, IsOneOf, document_among, keyed_among}
use Rattle.entries.proofs.HomeLemmas.{home_of}
use Rattle.entry_model.proofs.LawfulParts.{kept_of}
use Rattle.entry_model.proofs.MemberLemmas.{Among, among_each, among_of, contains_of}
use Rattle.opening.specs.Totals.{total_documents}
use Rattle.opening.specs.Judging.{AreLoaded, HasItsKeys, IsStoredAt, Makes, Progress, Takes, TakesAll, bare, is_of_index, key_count, keys_among, nothing_read}
use Rattle.opening.specs.Judging.{numbered, with_document_at}
use Rattle.opening.proofs.OnceLists.{all_within, only, only_there}
use Rattle.opening.proofs.TakingLemmas.{found_at}
use Rattle.opening.proofs.EntriesSoFar.{IsKeyed, IsPlain, Stands, key_some, key_step, name_step, nothing_stands}
use Rattle.opening.proofs.DocumentEntries.{document_step, now_is}

-- ---- entry after entry

pub each_before : (pair : Entry) (xs ys : List Entry) → Rises (entry_keys (xs ++ pair ∷ ys)) → (x : Entry) → Among x xs → IsUnder x.key pair.key
each_before pair [] ys rises x there = absurd there
each_before pair (y ∷ xs) ys rises x (inl e) = subst (λ (z : Entry). IsUnder z.key pair.key) (sym e) (first xs rises.0)
  where
    first : (xs : List Entry) → Each (λ k. IsUnder y.key k) (entry_keys (xs ++ pair ∷ ys)) → IsUnder y.key pair.key
    first [] h = h.0
    first (z ∷ zs) h = first zs h.1
each_before pair (y ∷ xs) ys rises x (inr there) = each_before pair xs ys rises.1 x there

pub one_step : (all done rest : List Entry) (pair : Entry) (p next : Progress) → Rises (entry_keys (done ++ pair ∷ rest)) → Stands all done p
    → Takes all p pair next → Stands all (done ++ pair ∷ []) next
one_step all done rest pair p next rises s (inl t) = name_step all done pair p s next t
one_step all done rest pair p next rises s (inr (inr t)) = key_step all done pair p s next t
one_step all done rest pair p next rises s (inr (inl t)) =
    let at = found_at t.collection.number p.now t.collection t.listed in
    let c = at.collection in
    let is : IsStoredAt (bare c) pair t.document = subst (λ (b : Collection). IsStoredAt b pair t.document) (sym at.told) t.is in
    let keyed : HasItsKeys all (bare c) t.document = subst (λ (b : Collection). HasItsKeys all b t.document) (sym at.told) t.keyed in
    let found : numbered c.number p.now ≡ Some c = ap (λ (n : ℕ). numbered n p.now) at.same ∙ at.found in
    let under = each_before pair done rest rises in
    let made = document_step all done pair p s c t.document at.there found is keyed under in
    let now_same : with_document_at t.collection.number t.document p.now ≡ with_documents c (put_document t.document c.documents) p.now =
    ap (λ (n : ℕ). with_document_at n t.document p.now) (sym at.same) ∙ now_is all done pair p s c t.document at.there found is keyed under in
    let next_same :
    record {
      now = with_documents c (put_document t.document c.documents) p.now;
      documents = p.documents + 1;
      keys = p.keys + key_count (keys_among c.indexes t.document);
      seen = p.seen;
    } ≡ next =
    sym (t.next_is
    ∙ (λ i. record
    { now = now_same i; documents = p.documents + 1; keys = p.keys + key_count (keys_among (sym at.told i).indexes t.document); seen = p.seen })) in
    subst (Stands all (done ++ pair ∷ [])) next_same made

pub steps_on : (all done pairs : List Entry) (p last : Progress) → Rises (entry_keys (done ++ pairs)) → Stands all done p → TakesAll all p pairs last
    → Stands all (done ++ pairs) last
steps_on all done [] p last rises s is = subst (λ (es : List Entry). Stands all es last) (sym (append-nil done)) (subst (Stands all done) is s)
steps_on all done (pair ∷ pairs) p last rises s (next, takes, later) =
    let split : (done ++ pair ∷ []) ++ pairs ≡ done ++ pair ∷ pairs = append_assoc done (pair ∷ []) pairs in
    subst (λ (es : List Entry). Stands all es last) split
    (steps_on all (done ++ pair ∷ []) pairs next last (subst (λ (es : List Entry). Rises (entry_keys es)) (sym split) rises)
    (one_step all done pairs pair p next rises s takes) later)

-- ---- all of them

module _ (all : List Entry) (end : Progress) (s : Stands all all end) where
  -- what is owed stands among those of indexes
  pub owed_seen : (x : Entry) → Among x s.owed → Among x (only is_of_index all)
  owed_seen x h =
      let k = s.owing x h in
      only_there is_of_index all x (s.there x h) (key_some k.collection x (kept_of end.now k.collection s.loaded.lawful k.there) k.is)

  entry_of_plain : (x : Entry) → IsPlain end.now x → Among x (state_entries end.now)
  entry_of_plain x h = among_each collection_entries x h.collection end.now h.there (at h.is)
    where
      at : (x ≡ catalogue_entry h.collection) ⊎ IsDocumentOf h.collection x → Among x (collection_entries h.collection)
      at (inl e) = inl e
      at (inr d) = subst (λ (y : Entry). Among y (collection_entries h.collection)) (sym d.is) (document_among h.collection d.document d.there)

  entry_of_key : (x : Entry) → IsKeyed end.now x → Among x (state_entries end.now)
  entry_of_key x h =
      let k = h.is in
      among_each collection_entries x h.collection end.now h.there
      (subst (λ (y : Entry). Among y (collection_entries h.collection)) (sym k.is) (keyed_among h.collection k.document k.index k.key k.there k.listed k.keyed))

  forth : end.keys ≡ end.seen → (x : Entry) → Among x all → Among x (state_entries end.now)
  forth even x there = by (is_of_index x) refl
    where
      long : length (only is_of_index all) ≤ length s.owed
      long = omega (arith, even, s.keys, s.seen)

      by : (b : Bool) → is_of_index x ≡ b → Among x (state_entries end.now)
      by false none = entry_of_plain x (s.made x there none)
      by true some = entry_of_key x (s.owing x (all_within s.owed (only is_of_index all) s.once owed_seen long x (only_there is_of_index all x there some)))

  back : (x : Entry) → Among x (state_entries end.now) → Among x all
  back x h = let home = home_of end.now x h in by home.collection home.there home.one
    where
      by : (c : Collection) → Among c end.now → IsOneOf c x → Among x all
      by c there (inl e) = s.plain x (record { collection = c; there = there; is = inl e })
      by c there (inr (inl d)) = s.plain x (record { collection = c; there = there; is = inr d })
      by c there (inr (inr k)) = s.there x (s.keyed x (record { collection = c; there = there; is = k }))

  pub stands_spell : Rises (entry_keys all) → end.keys ≡ end.seen → Spells all end.now
  stands_spell rises even = record {
    rises = rises;
    same = λ x. (
      (λ h. contains_of (state_entries end.now) x (forth even x (among_of all x h))),
      (λ h. contains_of all x (back x (among_of (state_entries end.now) x h))),
    );
  }

pub all_stand : (all : List Entry) (end : Progress) → Rises (entry_keys all) → TakesAll all nothing_read all end → Stands all all end
all_stand all end rises takes = steps_on all [] all nothing_read end rises (nothing_stands all) takes

-- What entries stand for that make collections: these are lawful, and as many documents as were counted.
pub record AreSpelled (all : List Entry) (end : Progress) : Type 0 where
  pub spells : Spells all end.now
  pub loaded : AreLoaded end.now
  pub documents : total_documents end.now ≡ end.documents

pub made_spell : (all : List Entry) (end : Progress) → Rises (entry_keys all) → Makes all end → AreSpelled all end
made_spell all end rises m =
    let s = all_stand all end rises m.takes in
    record { spells = stands_spell all end s rises m.even; loaded = s.loaded; documents = s.documents }
