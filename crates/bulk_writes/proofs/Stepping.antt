-- What a statement of an update that is done by itself leaves of the whole.
use Rattle.std.proofs.Common.{◌≡◌, ℕ, suc, ◌+◌, Bool, true, false, List, [], ◌∷◌, ◌++◌, map, Option, Some, None, Result, Ok, Err}
use Rattle.std.proofs.Common.{refl, sym, ap, subst, ◌∙◌}
use Rattle.std.specs.Prelude.{not, ◌&&◌, if◌then◌else◌}
use Rattle.bson.specs.Tree.{Pairs}
use Rattle.filter.specs.Matches.{matches}
use Rattle.outcome.specs.Outcome.{◌>>=◌, or_refused}
use Rattle.path.specs.declared.refusal.Refusal.{Refusal}
use Rattle.path.specs.declared.refusal.Refusal.TheVariants as refusals
use Rattle.update_model.specs.Applying.{apply}
use Rattle.command_model.specs.OutcomeLaws.{passed, step_of}
use Rattle.command_model.specs.Update.{IsRead, UpdateStatement}
use Rattle.entry_model.specs.Entering.{DocumentWrite}
use Rattle.entry_model.specs.State.{Collection, find_collection}
use Rattle.entry_model.proofs.PlaceLemmas.{found_name}
use Rattle.database_model.specs.Documents.{key_of, place}
use Rattle.database_model.specs.Insert.{is_full}
use Rattle.database_model.specs.Merging.{Listed, listed_to, none_changed, not_listed, one_or_none, put_each, run_listed, upsert_listed, with_listed}
use Rattle.database_model.specs.Update.{Changed, changed_in, changed_to, judged, not_changed, not_updated, passed_over, run_all, run_statement, run_statements}
use Rattle.database_model.specs.Update.{update_from, update_reply, Updated, updated_to, upsert, upsert_document, with_upserted}
use Rattle.database_model.specs.UpdateCommand.{entered_in, run_update, writes_in}
use Rattle.database_model.specs.World.{World, documents_of, documents_or_none, with_documents}
use Rattle.database_model.specs.Writes.{made_write, statement_writes, unless_refused, writes_from}
use Rattle.statements.specs.WriteLaws.{documents_in}
use Rattle.statements.proofs.MeantUpdates.{one_step}
use Rattle.bulk_writes.proofs.Counting.{alone, clamped}
use Rattle.bulk_writes.proofs.Documents.{alone_writes, AreGood, has_left, MakesDocuments}
use Rattle.bulk_writes.proofs.Entering.{entered_append, entered_documents, is_written}
use Rattle.bulk_writes.proofs.Putting.{room_put, room_there}
use Rattle.bulk_writes.proofs.Seeing.{its_write, one_came, one_seen, seen_in}

-- ---- a statement is done whatever was counted before it

abbrev pub Comes : Bool → Result Changed Refusal → Type 0
Comes found r = (e : Changed) × (r ≡ Ok e) × (e.found ≡ found)

pub from_any : (s : UpdateStatement) (c d : Changed) (xs : List Pairs) (f : Changed) → c.found ≡ d.found → update_from s d xs ≡ Ok f
    → Comes f.found (update_from s c xs)
from_any s c d [] f same e = let ended : d ≡ f = cc in (c, refl, same ∙ ap (λ (x : Changed). x.found) ended)
from_any s c d (x ∷ xs) f same e = at (matches s.filter x) (apply s.change 65535 x) s.multi (λ a b k g. from_any s a b xs f k g) e
  where
    at : (m : Bool) (r : Result Pairs Refusal) (multi : Bool)
        → ((a b : Changed) → a.found ≡ b.found → update_from s b xs ≡ Ok f → Comes f.found (update_from s a xs))
        → one_step s d x xs m r multi ≡ Ok f → Comes f.found (one_step s c x xs m r multi)
    at false r multi go g = go (passed_over x c) (passed_over x d) same g
    at true (Err z) multi go g = absurd cc
    at true (Ok new) true go g = go (changed_to x new c) (changed_to x new d) refl g
    at true (Ok new) false go g =
        let last : Changed = changed_to x new d in
        let ended : record last { documents = last.documents ++ xs } ≡ f = cc in
        let mine : Changed = changed_to x new c in
        (record mine { documents = mine.documents ++ xs }, refl, ap (λ (y : Changed). y.found) ended)

module _ (i : ℕ) (s : UpdateStatement) (l left : Listed) where
  abbrev none : Listed
  none = not_listed l.documents

  abbrev ends_in : ℕ → Listed → Changed → Result Listed Refusal
  ends_in k n c = if not c.found && s.upsert then upsert_listed k s n else Ok (listed_to n c)

  run_any : run_listed 0 s none ≡ Ok left → (m : Listed) × (run_listed i s l ≡ Ok m)
  run_any e =
      let d = step_of (update_from s (none_changed none) l.documents) (ends_in 0 none) left e in
      let c = from_any s (none_changed l) (none_changed none) l.documents d.0 refl d.1 in
      let on = at c.0 d.0 (not d.0.found && s.upsert) (ap (λ (b : Bool). not b && s.upsert) c.2) d.2 in
      (on.0, ap (λ (r : Result Changed Refusal). r >>= ends_in i l) c.1 ∙ on.1)
    where
      placed : (new : Pairs) (o : Option (List Pairs)) → (or_refused o refusals.DuplicateKey >>= (λ stored. Ok (with_listed 0 new stored none))) ≡ Ok left
          → (m : Listed) × ((or_refused o refusals.DuplicateKey >>= (λ stored. Ok (with_listed i new stored l))) ≡ Ok m)
      placed new None f = absurd cc
      placed new (Some stored) f = (with_listed i new stored l, refl)

      at : (c d : Changed) (b : Bool) → (not c.found && s.upsert) ≡ b → (if b then upsert_listed 0 s none else Ok (listed_to none d)) ≡ Ok left
          → (m : Listed) × (ends_in i l c ≡ Ok m)
      at c d false asked f = (listed_to l c, ap (λ (b : Bool). if b then upsert_listed i s l else Ok (listed_to l c)) asked)
      at c d true asked f =
          let n = step_of (upsert_document s)
          (λ new. or_refused (place (key_of new) new l.documents) refusals.DuplicateKey >>= (λ stored. Ok (with_listed 0 new stored none))) left f in
          let p = placed n.0 (place (key_of n.0) n.0 l.documents) n.2 in (
            p.0,
            ap (λ (b : Bool). if b then upsert_listed i s l else Ok (listed_to l c)) asked
                ∙ ap (λ (r : Result Pairs Refusal). r >>= (λ new. or_refused (place (key_of new) new l.documents) refusals.DuplicateKey
                >>= (λ stored. Ok (with_listed i new stored l)))) n.1
                ∙ p.1,
          )

-- ---- whether there is room for a collection

module _ (name : List ℕ) (i : ℕ) (s : UpdateStatement) (u v : Updated) (cs next : List Collection)
    (alike : is_full u.collections name ≡ is_full cs name) (done : run_statement name i s u ≡ Ok v)
    (written : entered_in name (statement_writes s (documents_of u.collections name)) cs ≡ Ok next) where
  abbrev ds : List Pairs
  ds = documents_of u.collections name

  -- what was written leaves room, and what wasn't leaves all as it was
  kept_room : is_full cs name ≡ false → is_full next name ≡ false
  kept_room room = at (statement_writes s ds) written
    where
      at : (ws : List DocumentWrite) → entered_in name ws cs ≡ Ok next → is_full next name ≡ false
      at [] e = let same : cs ≡ next = cc in ap (λ (xs : List Collection). is_full xs name) (sym same) ∙ room
      at (w ∷ ws) e = (is_written name (w ∷ ws) cs next e).after

  abbrev ends : Changed → Result Updated Refusal
  ends c = if not c.found && s.upsert then upsert name i s u else Ok (updated_to name u c)

  room_next : is_full v.collections name ≡ is_full next name
  room_next =
      let c = step_of (update_from s (not_changed u) ds) ends v done in
      at c.0 c.1 (not c.0.found && s.upsert) refl c.2
    where
      unasked : (c : Changed) → c.found ≡ false → (not c.found && s.upsert) ≡ false → s.upsert ≡ false
      unasked c none asked = sym (ap (λ (b : Bool). not b && s.upsert) none) ∙ asked

      at : (c : Changed) → update_from s (not_changed u) ds ≡ Ok c → (b : Bool) → (not c.found && s.upsert) ≡ b
          → (if b then upsert name i s u else Ok (updated_to name u c)) ≡ Ok v → is_full v.collections name ≡ is_full next name
      at c is true asked f =
          let p = passed (is_full u.collections name) refusals.TooMany _ v f in
          let n = step_of (upsert_document s)
          (λ new. or_refused (place (key_of new) new ds) refusals.DuplicateKey
          >>= (λ stored. let r : Result Updated Refusal = Ok (with_upserted name i new stored u) in r)) v p.1 in
          let o = step_of (or_refused (place (key_of n.0) n.0 ds) refusals.DuplicateKey)
          (λ stored. let r : Result Updated Refusal = Ok (with_upserted name i n.0 stored u) in r) v n.2 in
          let same : with_upserted name i n.0 o.0 u ≡ v = cc in
          ap (λ (x : Updated). is_full x.collections name) (sym same) ∙ room_put (with_documents u.collections name o.0) u.collections name refl
          ∙ sym (kept_room (sym alike ∙ p.0))
      at c is false asked f = by (find_collection u.collections name) refl
        where
          same : updated_to name u c ≡ v
          same = cc

          by : (o : Option Collection) → find_collection u.collections name ≡ o → is_full v.collections name ≡ is_full next name
          by None missing =
              let empty : ds ≡ [] = ap documents_or_none missing in
              let none : not_changed u ≡ c = let e = ap (update_from s (not_changed u)) (sym empty) ∙ is in cc in
              let no_upsert : s.upsert ≡ false = unasked c (ap (λ (x : Changed). x.found) (sym none)) asked in
              let nothing : statement_writes s ds ≡ [] =
              ap (statement_writes s) empty ∙ ap (λ (b : Bool). map made_write (if b then one_or_none (upsert_document s) else [])) no_upsert in
              let stays : cs ≡ next = let e = ap (λ (ws : List DocumentWrite). entered_in name ws cs) (sym nothing) ∙ written in cc in
              ap (λ (x : Updated). is_full x.collections name) (sym same)
              ∙ ap (λ (o : Option Collection). is_full (changed_in o c.documents u.collections) name) missing ∙ alike
              ∙ ap (λ (xs : List Collection). is_full xs name) stays
          by (Some d) found =
              ap (λ (x : Updated). is_full x.collections name) (sym same)
              ∙ ap (λ (o : Option Collection). is_full (changed_in o c.documents u.collections) name) found
              ∙ room_put (record d { documents = c.documents }) u.collections name (sym (found_name u.collections name d found))
              ∙ sym (kept_room (sym alike ∙ room_there d u.collections name found))

-- ---- one statement by itself

-- What its update did.
pub record IsDone (world : World) (name : List ℕ) (s : UpdateStatement) (new : World) : Type 0 where
  pub next : List Collection
  pub left : Listed
  pub written : entered_in name (statement_writes s (documents_of world.collections name)) world.collections ≡ Ok next
  pub is : run_listed 0 s (not_listed (documents_of world.collections name)) ≡ Ok left
  pub leads : new ≡ record world { collections = next }

pub is_done : (world : World) (name : List ℕ) (s : UpdateStatement) (new : World) (reply : Pairs)
    → run_update world (record { namespace = name; statements = s ∷ [] }) ≡ Ok (new, reply) → IsDone world name s new
unfolding run_update
is_done world name s new reply e =
    let cs = world.collections in
    let w = step_of (entered_in name (writes_in name (s ∷ []) cs) cs)
    (λ xs. run_all name (s ∷ []) cs >>= (λ u. Ok (record world { collections = xs }, update_reply u))) (new, reply) e in
    let r = step_of (run_all name (s ∷ []) cs) (λ u. Ok (record world { collections = w.0 }, update_reply u)) (new, reply) w.2 in
    let u = step_of (run_statements name 0 (s ∷ []) (not_updated cs)) judged r.0 r.1 in
    let one = step_of (run_statement name 0 s (not_updated cs)) (run_statements name 1 []) u.0 u.1 in
    let pair_is : ◌≡◌ {A = World × Pairs} (record world { collections = w.0 }, update_reply r.0) (new, reply) = cc in
    record {
      next = w.0;
      left = seen_in name one.0;
      written = ap (λ (ws : List DocumentWrite). entered_in name ws cs) (sym (alone_writes s (documents_of cs name))) ∙ w.1;
      is = one_seen name 0 s (not_updated cs) one.0 one.1;
      leads = sym (ap (λ (x : World × Pairs). x.0) pair_is);
    }

-- ---- all of them

-- What a statement that is done by itself leaves of a whole: the others, over what it left.
pub record Stepped (name : List ℕ) (i : ℕ) (s : UpdateStatement) (ss : List UpdateStatement) (u : Updated) (cs next : List Collection) : Type 0 where
  pub to : Updated
  pub p : ℕ
  pub q : ℕ
  pub now : documents_of next name ≡ documents_of to.collections name
  pub good : AreGood (documents_of to.collections name)
  pub room : is_full to.collections name ≡ is_full next name
  pub matched : to.matched ≡ clamped p
  pub modified : to.modified ≡ clamped q
  pub written : entered_in name (writes_from i (s ∷ ss) (seen_in name u)) cs ≡ entered_in name (writes_from (suc i) ss (seen_in name to)) next
  pub is : run_statements name i (s ∷ ss) u ≡ run_statements name (suc i) ss to

-- there is room for what an upsert makes
pub has_room : (name : List ℕ) (s : UpdateStatement) (u : Updated) (cs next : List Collection) → is_full u.collections name ≡ is_full cs name
    → entered_in name (statement_writes s (documents_of u.collections name)) cs ≡ Ok next → (fresh : Pairs) → upsert_document s ≡ Ok fresh → (c : Changed)
    → update_from s (not_changed u) (documents_of u.collections name) ≡ Ok c → (not c.found && s.upsert) ≡ true → is_full u.collections name ≡ false
has_room name s u cs next alike wrote fresh makes c from asked =
    alike ∙ (is_written name (made_write fresh ∷ []) cs next
    (ap (λ (ws : List DocumentWrite). entered_in name ws cs) (sym (its_write s (not_changed u) (documents_of u.collections name) c fresh from asked makes))
    ∙ wrote)).room

pub stepped : (name : List ℕ) (i : ℕ) (s : UpdateStatement) (ss : List UpdateStatement) (world new : World) (u : Updated) (p q : ℕ) → IsRead s.change
    → MakesDocuments s → documents_of world.collections name ≡ documents_of u.collections name → AreGood (documents_of u.collections name)
    → is_full u.collections name ≡ is_full world.collections name → u.matched ≡ clamped p → u.modified ≡ clamped q → (d : IsDone world name s new)
    → Stepped name i s ss u world.collections d.next
stepped name i s ss world new u p q read make there good alike matched modified d =
    let cs = world.collections in
    let l = seen_in name u in
    let left_is : run_listed 0 s (not_listed l.documents) ≡ Ok d.left = ap (λ (xs : List Pairs). run_listed 0 s (not_listed xs)) (sym there) ∙ d.is in
    let m = run_any i s l d.left left_is in
    let a = alone i s l m.0 p q matched modified m.1 in
    let h = has_left i s l m.0 a.left read make good m.1 a.is a.documents in
    let here = statement_writes s l.documents in
    let wrote : entered_in name here cs ≡ Ok d.next = ap (λ (xs : List Pairs). entered_in name (statement_writes s xs) cs) (sym there) ∙ d.written in
    let came = one_came name i s u m.0 (has_room name s u cs d.next alike wrote) m.1 in
    let docs : documents_of came.to.collections name ≡ m.0.documents = ap (λ (x : Listed). x.documents) came.seen in
    record {
      to = came.to;
      p = p + a.left.matched;
      q = q + a.left.modified;
      now = entered_documents name here cs d.next wrote ∙ ap (put_each (documents_in here)) there ∙ h.put ∙ sym docs;
      good = subst AreGood (sym docs) h.good;
      room = room_next name i s u came.to cs d.next alike came.is wrote;
      matched = ap (λ (x : Listed). x.matched) came.seen ∙ a.matched;
      modified = ap (λ (x : Listed). x.modified) came.seen ∙ a.modified;
      written = ap (λ (r : Result Listed Refusal). entered_in name (here ++ unless_refused (writes_from (suc i) ss) r) cs)
          (m.1 ∙ ap (λ (x : Listed). Ok x) (sym came.seen))
          ∙ entered_append name here (writes_from (suc i) ss (seen_in name came.to)) cs
          ∙ ap (λ (r : Result (List Collection) Refusal). r >>= (λ xs. entered_in name (writes_from (suc i) ss (seen_in name came.to)) xs)) wrote;
      is = ap (λ (r : Result Updated Refusal). r >>= run_statements name (suc i) ss) came.is;
    }
