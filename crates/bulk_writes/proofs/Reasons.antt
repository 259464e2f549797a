-- An update that is refused, but for the length of its reply, is refused for the reason for which the first of its statements is that is refused.
use Rattle.std.proofs.Common.{◌≡◌, ◌≤◌, ◌⊎◌, inl, inr, ℕ, suc, ◌+◌, Bool, true, false, List, [], ◌∷◌, ◌++◌, append-nil, length, map, Option, Some, None}
use Rattle.std.proofs.Common.{Result, Ok, Err, refl, sym, ap, ◌∙◌, All, arith}
use Rattle.std.specs.Option.{option_and_then}
use Rattle.std.specs.Prelude.{not, ◌&&◌, codes, if◌then◌else◌, nat_lt}
use Rattle.std.specs.Fmt.{decimal}
use Rattle.std.specs.Str.{bytes_eq}
use Rattle.std.proofs.lemmas.Bool.Decides.{nat_tests}
use Rattle.std.proofs.lemmas.Fmt.{length-decimal-le}
use Rattle.std.proofs.lemmas.List.Elements.{All-head, All-tail}
use Rattle.bson.specs.Lookup.{lookup}
use Rattle.bson.specs.SizingLaws.{frame_of-length, pairs_bytes-none, pairs_size-pair}
use Rattle.bson.specs.Spelling.{pairs_bytes, tree_bytes}
use Rattle.bson.specs.Tree.{Tree, scalar, document, array, Pairs, no_pairs, pair}
use Rattle.filter.specs.Matches.{matches}
use Rattle.outcome.specs.Outcome.{◌>>=◌, or_refused, unless}
use Rattle.path.specs.declared.refusal.Refusal.{Refusal}
use Rattle.path.specs.declared.refusal.Refusal.TheVariants as refusals
use Rattle.update_model.specs.Applying.{apply}
use Rattle.update_model.specs.Stored.{id_name, id_of, no_array}
use Rattle.command_model.specs.OutcomeLaws.{step_of}
use Rattle.command_model.specs.Update.{IsRead, UpdateStatement}
use Rattle.entry_model.specs.Entering.{DocumentWrite}
use Rattle.entry_model.specs.State.{Collection}
use Rattle.database_model.specs.Documents.{key_of, place}
use Rattle.database_model.specs.Insert.{is_full}
use Rattle.database_model.specs.Merging.{Listed, listed_to, none_changed, not_listed, run_listed, upsert_listed, with_listed}
use Rattle.database_model.specs.Refusals.{int, ok_reply}
use Rattle.database_model.specs.Update.{Changed, changed_to, judged, not_changed, not_updated, passed_over, run_all, run_statement, run_statements, spelled}
use Rattle.database_model.specs.Update.{update_from, update_reply, Updated, updated_to, upsert, upsert_document, upserted_entry, with_upserted}
use Rattle.database_model.specs.UpdateCommand.{entered_in, run_update, writes_in}
use Rattle.database_model.specs.World.{World, documents_of}
use Rattle.database_model.specs.Writes.{statement_writes, unless_refused, writes_from}
use Rattle.statements.proofs.MeantUpdates.{one_step}
use Rattle.statements.proofs.Applied.{upserted_stored}
use Rattle.statements.proofs.ReplyRoom.{replies_have_room}
use Rattle.bulk_writes.specs.InTurn.{run_in_turn, update_one}
use Rattle.bulk_writes.specs.UpdateLaws.{entry_of, UpdateRefused}
use Rattle.bulk_writes.proofs.Counting.{clamped}
use Rattle.bulk_writes.proofs.Documents.{alone_writes, AreGood, MakesDocuments}
use Rattle.bulk_writes.proofs.Entering.{entered_append}
use Rattle.bulk_writes.proofs.Stepping.{from_any, has_room, is_done, stepped}
use Rattle.bulk_writes.proofs.Seeing.{one_came, one_seen, seen_in}
use Rattle.bulk_writes.proofs.Sizes.{length-document, length-int, made_size, none_size, one_size, reply_size}
use Rattle.bulk_writes.proofs.Spelled.{are_spelled}
use Rattle.bulk_writes.proofs.Updating.{good_in}

-- ---- a statement that is refused

from_refused : (s : UpdateStatement) (c d : Changed) (xs : List Pairs) (z : Refusal) → update_from s d xs ≡ Err z → update_from s c xs ≡ Err z
from_refused s c d [] z e = absurd cc
from_refused s c d (x ∷ xs) z e = at (matches s.filter x) (apply s.change 65535 x) s.multi (λ a b f. from_refused s a b xs z f) e
  where
    at : (m : Bool) (r : Result Pairs Refusal) (multi : Bool) → ((a b : Changed) → update_from s b xs ≡ Err z → update_from s a xs ≡ Err z)
        → one_step s d x xs m r multi ≡ Err z → one_step s c x xs m r multi ≡ Err z
    at false r multi go f = go (passed_over x c) (passed_over x d) f
    at true (Err y) multi go f = let same : y ≡ z = cc in ap (λ (w : Refusal). Err w) same
    at true (Ok new) true go f = go (changed_to x new c) (changed_to x new d) f
    at true (Ok new) false go f = absurd cc

-- it is refused so over any collections with its documents, and as much room
module _ (name : List ℕ) (i : ℕ) (s : UpdateStatement) (u : Updated) (cs : List Collection) (there : documents_of cs name ≡ documents_of u.collections name)
    (alike : is_full u.collections name ≡ is_full cs name) (z : Refusal) where
  abbrev ds : List Pairs
  ds = documents_of u.collections name

  abbrev v : Updated
  v = not_updated cs

  abbrev ends : ℕ → Updated → Changed → Result Updated Refusal
  ends k w c = if not c.found && s.upsert then upsert name k s w else Ok (updated_to name w c)

  abbrev makes : ℕ → Updated → List Pairs → Result Pairs Refusal → Result Updated Refusal
  makes k w xs r = r >>= (λ new. or_refused (place (key_of new) new xs) refusals.DuplicateKey >>= (λ stored. Ok (with_upserted name k new stored w)))

  upsert_refused : upsert name 0 s v ≡ Err z → upsert name i s u ≡ Err z
  upsert_refused e =
      ap (λ (b : Bool). unless b refusals.TooMany (makes i u ds (upsert_document s))) alike
      ∙ at (is_full cs name) (upsert_document s)
      (sym (ap (λ (xs : List Pairs). unless (is_full cs name) refusals.TooMany (makes 0 v xs (upsert_document s))) there) ∙ e)
    where
      placed : (new : Pairs) (o : Option (List Pairs)) → (or_refused o refusals.DuplicateKey >>= (λ stored. Ok (with_upserted name 0 new stored v))) ≡ Err z
          → (or_refused o refusals.DuplicateKey >>= (λ stored. Ok (with_upserted name i new stored u))) ≡ Err z
      placed new None f = let same : refusals.DuplicateKey ≡ z = cc in ap (λ (w : Refusal). Err w) same
      placed new (Some stored) f = absurd cc

      at : (b : Bool) (r : Result Pairs Refusal) → unless b refusals.TooMany (makes 0 v ds r) ≡ Err z → unless b refusals.TooMany (makes i u ds r) ≡ Err z
      at true r f = let same : refusals.TooMany ≡ z = cc in ap (λ (w : Refusal). Err w) same
      at false (Err y) f = let same : y ≡ z = cc in ap (λ (w : Refusal). Err w) same
      at false (Ok new) f = placed new (place (key_of new) new ds) f

  refused_alike : run_statement name 0 s v ≡ Err z → run_statement name i s u ≡ Err z
  refused_alike e =
      at (update_from s (not_changed v) ds) refl (sym (ap (λ (xs : List Pairs). update_from s (not_changed v) xs >>= ends 0 v) there) ∙ e)
    where
      at : (r : Result Changed Refusal) → update_from s (not_changed v) ds ≡ r → (r >>= ends 0 v) ≡ Err z → run_statement name i s u ≡ Err z
      at (Err y) is f =
          let same : y ≡ z = cc in
          ap (λ (x : Result Changed Refusal). x >>= ends i u) (from_refused s (not_changed u) (not_changed v) ds y is) ∙ ap (λ (w : Refusal). Err w) same
      at (Ok c) is f =
          let d = from_any s (not_changed u) (not_changed v) ds c refl is in
          ap (λ (x : Result Changed Refusal). x >>= ends i u) d.1
          ∙ by d.0 (not c.found && s.upsert) (ap (λ (b : Bool). not b && s.upsert) d.2) f
        where
          by : (d : Changed) (b : Bool) → (not d.found && s.upsert) ≡ b → (if b then upsert name 0 s v else Ok (updated_to name v c)) ≡ Err z
              → ends i u d ≡ Err z
          by d true asked g = ap (λ (b : Bool). if b then upsert name i s u else Ok (updated_to name u d)) asked ∙ upsert_refused g
          by d false asked g = absurd cc

-- ---- the reply of one is short

id_small : (ps : Pairs) (t : Tree) → lookup ps id_name ≡ Some t → length (tree_bytes t) ≤ length (pairs_bytes ps)
id_small no_pairs t e = absurd cc
id_small (pair name u ps) t e = at (bytes_eq id_name name) e (λ f. id_small ps t f)
  where
    at : (b : Bool) → (if b then Some u else lookup ps id_name) ≡ Some t → (lookup ps id_name ≡ Some t → length (tree_bytes t) ≤ length (pairs_bytes ps))
        → length (tree_bytes t) ≤ length (pairs_bytes (pair name u ps))
    at true f later = let same : u ≡ t = cc in omega (arith, ap (λ (x : Tree). length (tree_bytes x)) same, pairs_size-pair name u ps)
    at false f later = omega (arith, later f, pairs_size-pair name u ps)

entry_small : (id : Tree) → length (tree_bytes id) ≤ 65535 → made_size (entry_of 0 (Some id)) + 35 ≤ 1048555
entry_small id small =
    let named : Pairs = pair (codes "_id") id no_pairs in
    let digit : length (decimal 0) ≤ 1 = length-decimal-le 1 0 (omega arith) (omega arith) (omega arith) in
    omega (
      arith,
      small,
      digit,
      one_size (document (upserted_entry 0 id)),
      length-document (upserted_entry 0 id),
      pairs_size-pair (codes "index") (int 0) named,
      length-int 0,
      pairs_size-pair (codes "_id") id no_pairs,
      ap length pairs_bytes-none,
    )

id_there : (ps : Pairs) (t : Tree) → id_of ps ≡ Some t → lookup ps id_name ≡ Some t
id_there ps t e = at (lookup ps id_name) e
  where
    at : (o : Option Tree) → option_and_then no_array o ≡ Some t → o ≡ Some t
    at None f = absurd cc
    at (Some (array ts)) f = absurd cc
    at (Some (scalar z)) f = f
    at (Some (document qs)) f = f

-- what one statement made is said in few bytes
made_small : (s : UpdateStatement) (xs : List Pairs) (m : Listed) → run_listed 0 s (not_listed xs) ≡ Ok m → made_size m.upserted + 35 ≤ 1048555
made_small s xs m e =
    let c = step_of (update_from s (none_changed (not_listed xs)) xs)
    (λ c. if not c.found && s.upsert then upsert_listed 0 s (not_listed xs) else Ok (listed_to (not_listed xs) c)) m e in
    at c.0 (not c.0.found && s.upsert) c.2
  where
    at : (c : Changed) (b : Bool) → (if b then upsert_listed 0 s (not_listed xs) else Ok (listed_to (not_listed xs) c)) ≡ Ok m
        → made_size m.upserted + 35 ≤ 1048555
    at c false f =
        let same : listed_to (not_listed xs) c ≡ m = cc in
        omega (arith, none_size, ap (λ (x : Listed). made_size x.upserted) same)
    at c true f =
        let n = step_of (upsert_document s)
        (λ new. or_refused (place (key_of new) new xs) refusals.DuplicateKey >>= (λ stored. Ok (with_listed 0 new stored (not_listed xs)))) m f in
        let o = step_of (or_refused (place (key_of n.0) n.0 xs) refusals.DuplicateKey) (λ stored. Ok (with_listed 0 n.0 stored (not_listed xs))) m n.2 in
        let same : with_listed 0 n.0 o.0 (not_listed xs) ≡ m = cc in
        let stored = upserted_stored s n.0 n.1 in
        let small = id_small n.0 (key_of n.0) (id_there n.0 (key_of n.0) stored.key) in
        let fits = entry_small (key_of n.0) (omega (arith, small, stored.size, frame_of-length (pairs_bytes n.0))) in
        omega (arith, fits, ap (λ (x : Listed). made_size x.upserted) same)

one_judged : (name : List ℕ) (s : UpdateStatement) (cs : List Collection) (v : Updated) → run_statement name 0 s (not_updated cs) ≡ Ok v → judged v ≡ Ok v
one_judged name s cs v e =
    let small = made_small s (documents_of cs name) (seen_in name v) (one_seen name 0 s (not_updated cs) v e) in
    let size : length (spelled (ok_reply (update_reply v))) ≡ made_size v.upserted + 35 = reply_size v.matched v.modified v.upserted in
    let short : nat_lt 1048555 (length (spelled (ok_reply (update_reply v)))) ≡ false = grind (arith, nat_tests, size, small) in
    ap (λ (b : Bool). unless b refusals.BSONObjectTooLarge (let r : Result Updated Refusal = Ok v in r)) short

-- ---- the reason

-- The whole is refused for this.
abbrev IsRefused : List ℕ → ℕ → List UpdateStatement → Updated → List Collection → Refusal → Type 0
IsRefused name i ss u cs r =
    (entered_in name (writes_from i ss (seen_in name u)) cs ≡ Err r)
    ⊎ ((next : List Collection) × (entered_in name (writes_from i ss (seen_in name u)) cs ≡ Ok next) × (run_statements name i ss u ≡ Err r))

module _ (name : List ℕ) (i : ℕ) (s : UpdateStatement) (ss : List UpdateStatement) (world : World) (u : Updated)
    (there : documents_of world.collections name ≡ documents_of u.collections name) (alike : is_full u.collections name ≡ is_full world.collections name)
    (r : Refusal) (h : IsRefused name i (s ∷ ss) u world.collections r) where
  abbrev cs : List Collection
  cs = world.collections

  abbrev here : List DocumentWrite
  here = statement_writes s (documents_of u.collections name)

  abbrev behind : List DocumentWrite
  behind = unless_refused (writes_from (suc i) ss) (run_listed i s (seen_in name u))

  -- what it writes is refused
  by_writes : (y : Refusal) → entered_in name here cs ≡ Err y → y ≡ r
  by_writes y e =
      let all : entered_in name (here ++ behind) cs ≡ Err y =
      entered_append name here behind cs ∙ ap (λ (x : Result (List Collection) Refusal). x >>= (λ xs. entered_in name behind xs)) e in
      at h all
    where
      at : IsRefused name i (s ∷ ss) u cs r → entered_in name (here ++ behind) cs ≡ Err y → y ≡ r
      at (inl f) all = let both : ◌≡◌ {A = Result (List Collection) Refusal} (Err y) (Err r) = sym all ∙ f in cc
      at (inr f) all = let both : ◌≡◌ {A = Result (List Collection) Refusal} (Err y) (Ok f.0) = sym all ∙ f.1 in absurd cc

  -- it is itself
  by_statement : (y : Refusal) (next : List Collection) → entered_in name here cs ≡ Ok next → run_statement name i s u ≡ Err y → y ≡ r
  by_statement y next wrote e = at (run_listed i s (seen_in name u)) refl
    where
      by : IsRefused name i (s ∷ ss) u cs r → entered_in name (here ++ behind) cs ≡ Ok next → y ≡ r
      by (inl f) all = let both : ◌≡◌ {A = Result (List Collection) Refusal} (Ok next) (Err r) = sym all ∙ f in absurd cc
      by (inr f) all =
          let both : ◌≡◌ {A = Result Updated Refusal} (Err y) (Err r) =
          sym (ap (λ (x : Result Updated Refusal). x >>= run_statements name (suc i) ss) e) ∙ f.2 in cc

      at : (l : Result Listed Refusal) → run_listed i s (seen_in name u) ≡ l → y ≡ r
      at (Ok m) is =
          let came = one_came name i s u m (has_room name s u cs next alike wrote) is in
          let both : ◌≡◌ {A = Result Updated Refusal} (Err y) (Ok came.to) = sym e ∙ came.is in
          absurd cc
      at (Err w) is =
          by h (ap (λ (l : Result Listed Refusal). entered_in name (here ++ unless_refused (writes_from (suc i) ss) l) cs) is
          ∙ ap (λ (ws : List DocumentWrite). entered_in name ws cs) (append-nil here) ∙ wrote)

  abbrev goes_on : Result (List Collection) Refusal → Result (World × Pairs) Refusal
  goes_on x = x >>= (λ xs. run_all name (s ∷ []) cs >>= (λ v. Ok (record world { collections = xs }, update_reply v)))

  its_reason : (z : Refusal) → run_update world (record { namespace = name; statements = s ∷ [] }) ≡ Err z → z ≡ r
  unfolding run_update
  its_reason z e =
      at (entered_in name here cs) refl (ap (λ (ws : List DocumentWrite). goes_on (entered_in name ws cs))
      (ap (statement_writes s) (sym there) ∙ sym (alone_writes s (documents_of cs name))) ∙ e)
    where
      ran : (next : List Collection) → entered_in name here cs ≡ Ok next → (x : Result Updated Refusal) → run_statement name 0 s (not_updated cs) ≡ x
          → (((x >>= run_statements name 1 []) >>= judged)
          >>= (λ v. let t : Result (World × Pairs) Refusal = Ok (record world { collections = next }, update_reply v) in t))
          ≡ Err z → z ≡ r
      ran next wrote (Err y) is f =
          let same : y ≡ z = cc in
          sym same ∙ by_statement y next wrote (refused_alike name i s u cs there alike y is)
      ran next wrote (Ok v) is f =
          let done = ap (λ (x : Result Updated Refusal). x
          >>= (λ v. let t : Result (World × Pairs) Refusal = Ok (record world { collections = next }, update_reply v) in t))
          (one_judged name s cs v is) in
          let never : ◌≡◌ {A = Result (World × Pairs) Refusal} (Ok (record world { collections = next }, update_reply v)) (Err z) = sym done ∙ f in
          absurd cc

      at : (x : Result (List Collection) Refusal) → entered_in name here cs ≡ x → goes_on x ≡ Err z → z ≡ r
      at (Err y) is f = let same : y ≡ z = cc in sym same ∙ by_writes y is
      at (Ok next) is f = ran next is (run_statement name 0 s (not_updated cs)) refl f

module _ (connection : ℕ) (name : List ℕ) where
  abbrev others : List UpdateStatement → Result (World × Pairs) Refusal → Result (World × List Pairs) Refusal
  others ss x = x >>= (λ first. run_in_turn first.0 connection (map (update_one name) ss) >>= (λ later. Ok (later.0, first.1 ∷ later.1)))

  reason : (i : ℕ) (ss : List UpdateStatement) (world : World) (u : Updated) (p q : ℕ) (r : Refusal) → All (λ (s : UpdateStatement). IsRead s.change) ss
      → All MakesDocuments ss → documents_of world.collections name ≡ documents_of u.collections name → AreGood (documents_of u.collections name)
      → is_full u.collections name ≡ is_full world.collections name → u.matched ≡ clamped p → u.modified ≡ clamped q
      → IsRefused name i ss u world.collections r → run_in_turn world connection (map (update_one name) ss) ≡ Err r
  reason i [] world u p q r read make there good alike matched modified (inl e) = absurd cc
  reason i [] world u p q r read make there good alike matched modified (inr e) = let f = e.2 in absurd cc
  reason i (s ∷ ss) world u p q r read make there good alike matched modified h =
      at (run_update world (record { namespace = name; statements = s ∷ [] })) refl
      (λ w v j k now fine room m n l. reason (suc i) ss w v j k r (All-tail (λ (z : UpdateStatement). IsRead z.change) s ss read)
      (All-tail MakesDocuments s ss make) now fine room m n l)
    where
      on : (v : Updated) (next : List Collection)
          → entered_in name (writes_from i (s ∷ ss) (seen_in name u)) world.collections ≡ entered_in name (writes_from (suc i) ss (seen_in name v)) next
          → run_statements name i (s ∷ ss) u ≡ run_statements name (suc i) ss v → IsRefused name i (s ∷ ss) u world.collections r
          → IsRefused name (suc i) ss v next r
      on v next wrote ran (inl e) = inl (sym wrote ∙ e)
      on v next wrote ran (inr e) = inr (e.0, sym wrote ∙ e.1, sym ran ∙ e.2)

      at : (x : Result (World × Pairs) Refusal) → run_update world (record { namespace = name; statements = s ∷ [] }) ≡ x
          → ((w : World) (v : Updated) (j k : ℕ) → documents_of w.collections name ≡ documents_of v.collections name → AreGood (documents_of v.collections name)
          → is_full v.collections name ≡ is_full w.collections name → v.matched ≡ clamped j → v.modified ≡ clamped k
          → IsRefused name (suc i) ss v w.collections r → run_in_turn w connection (map (update_one name) ss) ≡ Err r)
          → run_in_turn world connection (map (update_one name) (s ∷ ss)) ≡ Err r
      at (Err z) is later = ap (others ss) is ∙ ap (λ (w : Refusal). Err w) (its_reason name i s ss world u there alike r h z is)
      at (Ok x) is later =
          let d = is_done world name s x.0 x.1 is in
          let step = stepped name i s ss world x.0 u p q (All-head (λ (z : UpdateStatement). IsRead z.change) s ss read) (All-head MakesDocuments s ss make)
          there good alike matched modified d in
          let rest = later (record world { collections = d.next }) step.to step.p step.q step.now step.good step.room step.matched step.modified
          (on step.to d.next step.written step.is h) in
          ap (others ss) is
          ∙ ap (λ (y : Result (World × List Pairs) Refusal). y >>= (λ z. Ok (z.0, x.1 ∷ z.1)))
          (ap (λ (w : World). run_in_turn w connection (map (update_one name) ss)) d.leads ∙ rest)

pub update_refused : UpdateRefused
unfolding run_update
update_refused world connection body c r lawful spells short held e =
    let cs = world.collections in
    let name = c.namespace in
    let such = are_spelled body c lawful spells in
    let none : 0 ≡ clamped 0 = omega arith in
    reason connection name 0 c.statements world (not_updated cs) 0 0 r such.read such.make refl (good_in cs name held) refl none none
    (at (entered_in name (writes_in name c.statements cs) cs) refl e)
  where
    ran : (next : List Collection) (x : Result Updated Refusal) → run_statements c.namespace 0 c.statements (not_updated world.collections) ≡ x
        → (x >>= (λ v. let t : Result (World × Pairs) Refusal = Ok (record world { collections = next }, update_reply v) in t)) ≡ Err r
        → run_statements c.namespace 0 c.statements (not_updated world.collections) ≡ Err r
    ran next (Err y) is f = let same : y ≡ r = cc in is ∙ ap (λ (w : Refusal). Err w) same
    ran next (Ok w) is f = absurd cc

    at : (x : Result (List Collection) Refusal)
        → entered_in c.namespace (writes_in c.namespace c.statements world.collections) world.collections ≡ x
        → (x >>= (λ xs. run_all c.namespace c.statements world.collections
        >>= (λ v. let t : Result (World × Pairs) Refusal = Ok (record world { collections = xs }, update_reply v) in t))) ≡ Err r
        → IsRefused c.namespace 0 c.statements (not_updated world.collections) world.collections r
    at (Err y) is f = let same : y ≡ r = cc in inl (is ∙ ap (λ (w : Refusal). Err w) same)
    at (Ok next) is f =
        inr (
          next,
          is,
          ran next (run_statements c.namespace 0 c.statements (not_updated world.collections)) refl
              (ap (λ (x : Result Updated Refusal). x
              >>= (λ v. let t : Result (World × Pairs) Refusal = Ok (record world { collections = next }, update_reply v) in t))
              (sym (replies_have_room body c world.collections spells short)) ∙ f),
        )
