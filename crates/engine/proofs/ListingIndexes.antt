-- What is said of a collection's indexes, and that it all goes into one batch.
use Rattle.std.proofs.Common.{◌≡◌, ℕ, suc, max, ◌+◌, ◌-◌, ◌*◌, ◌<◌, ◌≤◌, Bool, true, false, inl, List, [], ◌∷◌, ◌++◌, length, get_or, drop, map, take, Option}
use Rattle.std.proofs.Common.{Some, None, Result, Ok, Err, refl, sym, ap, subst, ◌∙◌, append_assoc, arith, lit≤}
use Rattle.std.specs.Prelude.{All, codes, if◌then◌else◌, nat_le}
use Rattle.std.specs.List.{AllByRecursion}
use Rattle.std.proofs.lemmas.List.Elements.{All-cons}
use Rattle.std.proofs.lemmas.List.{append-nil, drop_all, length-map, take_all}
use Rattle.bson.specs.Lawful.{pairs_levels}
use Rattle.bson.specs.SizingLaws.{frame_of-length, pairs_bytes-none, pairs_size-pair}
use Rattle.bson.specs.Spelling.{frame_of, items_bytes, pairs_bytes, tree_bytes}
use Rattle.bson.specs.Tree.{document, Pairs, no_pairs, pair}
use Rattle.page.specs.History.{History}
use Rattle.outcome.specs.Outcome.{◌>>=◌, or_refused}
use Rattle.path.specs.declared.refusal.Refusal.{Refusal}
use Rattle.path.specs.declared.refusal.Refusal.TheVariants as refusals
use Rattle.value_order.specs.declared.texts.Direction.{Direction}
use Rattle.value_order.specs.declared.texts.Direction.TheVariants as directions
use Rattle.command_model.specs.ListIndexes.{ListIndexes}
use Rattle.index.specs.Definition.{Definition, Field, direction_value, key_document}
use Rattle.entry_model.specs.State.{Collection, find_collection}
use Rattle.entries.specs.declared.catalogue_reading.Catalogued.{Catalogued}
use Rattle.index.proofs.CatalogueLemmas.{key_levels}
use Rattle.database_model.specs.Cursors.{batch_of, batch_reply, cursor_reply, items_of_documents, number_after}
use Rattle.database_model.specs.Lawful.{AreShortIndexes, IsShortIndex, IsWithin}
use Rattle.database_model.specs.ListIndexes.{described, described_all, described_id, described_index, indexes_reply, run_list_indexes, unique_pairs}
use Rattle.engine.specs.Looking.{Looks}
use Rattle.engine.specs.Performing.{RunsReadingCommand}
use Rattle.database_model.specs.Refusals.{int, ok_reply, words}
use Rattle.replies.specs.View.{IsSendable, with_ok}
use Rattle.engine.specs.View.{world}
use Rattle.database_model.specs.World.{World}
use Rattle.engine.specs.declared.engine.Engine.{Engine}
use Rattle.engine.proofs.CataloguedLemmas.{IsCatalogueOf, has_home, not_catalogued}
use Rattle.engine.proofs.Listing.{Small, all_fit}
use Rattle.engine.proofs.LookingLemmas.{performs_read, world_same}
use Rattle.replies.proofs.SpelledSizes.{batch_items, cursor-sendable, length-words}
use Rattle.replies.proofs.Steps.{drop_step}

-- ---- the documents so far

-- what was described, and what is left of the indexes
abbrev pub Describes : List Definition → ℕ → List Pairs → Type 0
Describes is i ds = described_all is ≡ ds ++ map described_index (drop i is)

pub describes_none : (is : List Definition) (ds : List Pairs) → ds ≡ described_id ∷ [] → Describes is 0 ds
describes_none is ds e = ap (λ (es : List Pairs). es ++ map described_index is) (sym e)

pub describes_one : (is : List Definition) (k : ℕ) (i : Definition) (ds next : List Pairs) → k < length is → i ≡ get_or is k i
    → next ≡ ds ++ described_index i ∷ [] → Describes is k ds → Describes is (k + 1) next
describes_one is k i ds next within same grown so_far =
    so_far ∙ ap (λ (xs : List Definition). ds ++ map described_index xs) (drop_step is k i within same)
    ∙ sym (append_assoc ds (described_index i ∷ []) (map described_index (drop (k + 1) is)))
    ∙ ap (λ (es : List Pairs). es ++ map described_index (drop (k + 1) is)) (sym grown)

pub describes_all : (is : List Definition) (k : ℕ) (ds : List Pairs) → length is ≤ k → Describes is k ds → ds ≡ described_all is
describes_all is k ds past so_far =
    sym (append-nil ds) ∙ ap (λ (xs : List Definition). ds ++ map described_index xs) (sym (drop_all k is past)) ∙ sym so_far

-- ---- sizes

way_size : (way : Direction) → length (tree_bytes (direction_value way)) ≡ 4
unfolding tree_bytes
way_size directions.Ascending = refl
way_size directions.Descending = refl

key_size : (fs : List Field) → AllByRecursion (λ f. length f.path ≤ 255) fs → length (pairs_bytes (key_document fs)) ≤ 261 * length fs
key_size [] h = omega (arith, ap length pairs_bytes-none)
key_size (f ∷ fs) h = omega (arith, h.0, pairs_size-pair f.path (direction_value f.direction) (key_document fs), way_size f.direction, key_size fs h.1)

unique_size : (b : Bool) → length (pairs_bytes (unique_pairs b)) ≤ 9
unfolding tree_bytes pairs_bytes
unique_size true = lit≤ tt
unique_size false = lit≤ tt

length-key : (key : Pairs) → length (tree_bytes (document key)) ≡ length (pairs_bytes key) + 5
unfolding tree_bytes
length-key key = frame_of-length (pairs_bytes key)

described_size : (key : Pairs) (name : List ℕ) (b : Bool) → length (pairs_bytes key) ≤ 1044 → length name ≤ 127
    → length (frame_of (pairs_bytes (described key name b))) ≤ 1300
described_size key name b small short =
    let last = unique_pairs b in
    let named = pair (codes "name") (words name) last in
    omega (
      arith,
      small,
      short,
      frame_of-length (pairs_bytes (described key name b)),
      pairs_size-pair (codes "key") (document key) named,
      length-key key,
      pairs_size-pair (codes "name") (words name) last,
      length-words name,
      unique_size b,
    )

described_depth : (key : Pairs) (name : List ℕ) (b : Bool) → pairs_levels key ≡ 0 → suc (pairs_levels (described key name b)) ≤ 90
described_depth key name true flat = omega (arith, flat)
described_depth key name false flat = omega (arith, flat)

id_size : length (pairs_bytes (pair (codes "_id") (int 1) no_pairs)) ≤ 1044
unfolding tree_bytes pairs_bytes
id_size = lit≤ tt

index_size : (i : Definition) → IsShortIndex i → length (frame_of (pairs_bytes (described_index i))) ≤ 1300
index_size i h = described_size (key_document i.fields) i.name i.is_unique (omega (arith, key_size i.fields h.paths, h.few)) h.short

each_small : (is : List Definition) → AllByRecursion IsShortIndex is → Small 1300 (map described_index is)
each_small [] h = tt
each_small (i ∷ is) h = (index_size i h.0, each_small is h.1)

each_within : (is : List Definition) → AllByRecursion IsShortIndex is → All IsWithin (map described_index is)
each_within [] h = λ k d below. absurd (omega (arith, below))
each_within (i ∷ is) h =
    All-cons IsWithin (described_index i) (map described_index is)
    (record { size = omega (arith, index_size i h.0); depth = described_depth (key_document i.fields) i.name i.is_unique (key_levels i.fields) })
    (each_within is h.1)

abbrev zero_if : Bool → ℕ
zero_if b = if b then 0 else 0

zero_either : (b : Bool) → zero_if b ≡ 0
zero_either true = refl
zero_either false = refl

module _ (is : List Definition) (h : AreShortIndexes is) where
  all_small : Small 1300 (described_all is)
  all_small = (described_size (pair (codes "_id") (int 1) no_pairs) (codes "_id_") true id_size (lit≤ tt), each_small is h.each)

  pub all_within : All IsWithin (described_all is)
  all_within =
      All-cons IsWithin described_id (map described_index is)
      (record { size = omega (arith, all_small.0); depth = described_depth (pair (codes "_id") (int 1) no_pairs) (codes "_id_") true refl })
      (each_within is h.each)

  many : length (described_all is) ≤ 17
  many = omega (arith, length-map is described_index, h.few)

  pub all_in_one : batch_of (length (described_all is)) (described_all is) ≡ length (described_all is)
  all_in_one = all_fit 1300 0 (length (described_all is)) (900000 - 5) (described_all is) (omega arith) (omega (arith, many)) all_small (omega (arith, many))

  pub indexes-sendable : (name : List ℕ) → length name ≤ 255 → IsSendable (ok_reply (indexes_reply name is))
  indexes-sendable name short =
      let ds = described_all is in
      let n = batch_of (length ds) ds in
      let all : take n ds ≡ ds = ap (λ (k : ℕ). take k ds) all_in_one ∙ take_all (length ds) ds (omega arith) in
      cursor-sendable (codes "firstBatch") ds 0 name (lit≤ tt)
      (subst (λ (es : List Pairs). length (items_bytes 0 (items_of_documents es)) ≤ max (900000 - 5) (65535 + 3)) all
      (batch_items (length ds) (900000 - 5) ds all_within)) short

  -- a batch of all of them
  pub reply_is : (name : List ℕ) (ds : List Pairs) (n : ℕ) → ds ≡ described_all is → n ≡ batch_of (length ds) ds
      → batch_reply (codes "firstBatch") n ds 0 name ≡ indexes_reply name is
  reply_is name ds n made counted =
      let whole : n ≡ length ds = counted ∙ subst (λ (es : List Pairs). batch_of (length es) es ≡ length es) (sym made) all_in_one in
      let all : take n ds ≡ described_all is = take_all n ds (omega (arith, whole)) ∙ made in
      let none : number_after n ds 0 ≡ 0 = zero_either (nat_le (length ds) n) in
      (λ i. cursor_reply (codes "firstBatch") (all i) (none i) name)

-- ---- the command

module _ (w : World) (name : List ℕ) where
  abbrev asked : ListIndexes
  asked = record { namespace = name }

  abbrev listed : Option Collection → Result (World × Pairs) Refusal
  listed o = or_refused o refusals.NamespaceNotFound >>= (λ found. let r : Result (World × Pairs) Refusal = Ok (w, indexes_reply name found.indexes) in r)

  run_list_indexes-none : find_collection w.collections name ≡ None → run_list_indexes w asked ≡ Err refusals.NamespaceNotFound
  unfolding run_list_indexes
  run_list_indexes-none e = ap listed e

  run_list_indexes-is : (c : Collection) → find_collection w.collections name ≡ Some c → run_list_indexes w asked ≡ Ok (w, indexes_reply name c.indexes)
  unfolding run_list_indexes
  run_list_indexes-is c e = ap listed e

module _ {D : Type 0} (history : D → History) (name : List ℕ) (old mid : Engine D) where
  abbrev run : Result (World × Pairs) Refusal
  run = run_list_indexes (world old) (record { namespace = name })

  -- the collection is missing
  pub list_missing : Looks history (IsCatalogueOf name) (Ok None) old mid → RunsReadingCommand history run (Err refusals.NamespaceNotFound) old mid
  list_missing first =
      performs_read history old mid run (Err refusals.NamespaceNotFound) first.reads
      (λ k. (
        world_same history old mid first.reads,
        inl (run_list_indexes-none (world old) name (not_catalogued (world old).collections name (first.answers k))),
      ))

  -- it is there, and these are its indexes
  pub list_done : (home : Catalogued) → Looks history (IsCatalogueOf name) (Ok (Some home)) old mid → (d : Pairs)
      → d ≡ ok_reply (indexes_reply name home.indexes.items) → RunsReadingCommand history run (Ok d) old mid
  list_done home first d said =
      performs_read history old mid run (Ok d) first.reads (λ k.
      let t = has_home (world old).collections name home (first.answers k) in
      let same : ok_reply (indexes_reply name t.collection.indexes) ≡ d =
      ap (λ (is : List Definition). ok_reply (indexes_reply name is)) t.catalogued.indexed ∙ sym said in
      ap with_ok (run_list_indexes-is (world old) name t.collection t.found)
      ∙ (λ i. let r : Result (World × Pairs) Refusal = Ok (sym (world_same history old mid first.reads) i, same i) in r))
