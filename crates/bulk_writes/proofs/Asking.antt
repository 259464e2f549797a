-- The statements of a write, asked one after the other, are the writes of one statement each that it consists of.
use Rattle.std.proofs.Common.{◌≡◌, ◌≢◌, ℕ, ℤ, pos, ◌+ℤ◌, Bool, true, false, List, [], ◌∷◌, map, Option, Some, None, Result, Ok, refl, ap, ◌∙◌, ◌⊎◌, inl, inr}
use Rattle.std.specs.Prelude.{◌&&◌, codes, if◌then◌else◌, is_none, is_some}
use Rattle.std.specs.Int.{saturate_signed, w32}
use Rattle.bson.specs.Edits.{cut, items_len, put}
use Rattle.bson.specs.Lawful.{IsPairs}
use Rattle.bson.specs.Lookup.{lookup}
use Rattle.bson.specs.Tree.{Tree, scalar, int32, document, array, Pairs, Items, no_items, item}
use Rattle.outcome.specs.Outcome.{◌>>=◌, or_refused}
use Rattle.path.specs.declared.refusal.Refusal.{Refusal}
use Rattle.path.specs.declared.refusal.Refusal.TheVariants as refusals
use Rattle.command_model.specs.Command.{Command, command_of}
use Rattle.command_model.specs.Fields.{CommonFields, read_fields}
use Rattle.command_model.specs.Names.{namespace_of}
use Rattle.command_model.specs.OutcomeLaws.{step_of}
use Rattle.command_model.specs.Values.{text_in}
use Rattle.database_model.specs.Refusals.{ok_reply}
use Rattle.database_model.specs.Step.{answered as answered_with, run, step}
use Rattle.database_model.specs.World.{World}
use Rattle.driver_replies.specs.declared.batch.Batch.{Batch}
use Rattle.driver_replies.specs.declared.fresh_ids.FreshIds.{FreshIds}
use Rattle.driver_replies.specs.declared.tally.Tally.{Tally}
use Rattle.driver_replies.specs.declared.writes.Write.{Write}
use Rattle.driver_replies.specs.Tallies.{code_in, refused, with_reply}
use Rattle.driver_replies.specs.Writes.{after_reply, asked_statement, field_of, finds_nothing, is_zero_count, needs_id, next_command}
use Rattle.driver_replies.specs.Writes.{next_ids, passed, with_tally}
use Rattle.drivers.specs.Answering.{answered, next_statement, reworded, statement_step, text_for, with_text}
use Rattle.drivers.specs.declared.plan.Plan.{Plan}
use Rattle.drivers.specs.declared.plan.Wait.{Wait}
use Rattle.drivers.specs.declared.plan.Wait.TheVariants as waits
use Rattle.drivers.specs.declared.step.Step.{Step}
use Rattle.bulk_writes.specs.AskedLaws.{asked_each, heard}
use Rattle.bulk_writes.specs.InTurn.{run_in_turn}
use Rattle.bulk_writes.proofs.OwnField.{all_in, AreEach, by_field, has_items, its_field, one_in}

-- ---- a command that is read

there : {X : Type 0} (o : Option X) (e : Refusal) (x : X) → or_refused o e ≡ Ok x → o ≡ Some x
there None e x is = absurd cc
there (Some y) e x is = let same : y ≡ x = cc in ap (λ (z : _). Some z) same

module _ {F X C : Type 0} (common : F → CommonFields) (own : F → Option (List X)) (with_common : F → CommonFields → F) (with_own : F → List X → F)
    (common_with : (f : F) (c : CommonFields) → common (with_common f c) ≡ c) (own_kept : (f : F) (c : CommonFields) → own (with_common f c) ≡ own f)
    (common_kept : (f : F) (xs : List X) → common (with_own f xs) ≡ common f) (own_with : (f : F) (xs : List X) → own (with_own f xs) ≡ Some xs)
    (read : Tree → Result X Refusal) (field : List ℕ) (empty : F) (none : own empty ≡ None) (make : List ℕ → List X → C) where
  abbrev fields : Pairs → Result F Refusal
  fields ps = read_fields (by_field common own with_common with_own common_with own_kept common_kept own_with (all_in read) field) empty ps

  abbrev named : List ℕ → List ℕ → List X → Result C Refusal
  named name database xs = namespace_of database name >>= (λ namespace. Ok (make namespace xs))

  abbrev found_so : List ℕ → F → Result C Refusal
  found_so name found =
      or_refused (common found).database refusals.FailedToParse
      >>= (λ database. or_refused (own found) refusals.FailedToParse >>= (λ xs. named name database xs))

  abbrev pub read_command : Tree → Pairs → Result C Refusal
  read_command t ps = text_in t >>= (λ name. fields ps >>= (λ found. found_so name found))

  -- What a command says, and that it may be asked for each of its statements.
  pub record Parts (t : Tree) (ps : Pairs) (c : C) : Type 0 where
    pub namespace : List ℕ
    pub all : List X
    pub is : make namespace all ≡ c
    pub items : Items
    pub there : lookup ps field ≡ Some (array items)
    pub each : AreEach read items all
    pub some : all ≢ []
    pub again : (u : Tree) (x : X) → read u ≡ Ok x → read_command t (put (cut ps field) field (array (item u no_items))) ≡ Ok (make namespace (x ∷ []))

  pub parts_of : (t : Tree) (ps : Pairs) (c : C) → IsPairs ps → read_command t ps ≡ Ok c → Parts t ps c
  parts_of t ps c h e =
      let n = step_of (text_in t) (λ name. fields ps >>= (λ found. found_so name found)) c e in
      let f = step_of (fields ps) (λ found. found_so n.0 found) c n.2 in
      let d = step_of (or_refused (common f.0).database refusals.FailedToParse)
      (λ database. or_refused (own f.0) refusals.FailedToParse >>= (λ xs. named n.0 database xs)) c f.2 in
      let x = step_of (or_refused (own f.0) refusals.FailedToParse) (λ xs. named n.0 d.0 xs) c d.2 in
      let s = step_of (namespace_of d.0 n.0) (λ namespace. Ok (make namespace x.0)) c x.2 in
      let own_is = there (own f.0) refusals.FailedToParse x.0 x.1 in
      let database_is = there (common f.0).database refusals.FailedToParse d.0 d.1 in
      let fld = its_field common own with_common with_own common_with own_kept common_kept own_with (all_in read) field ps empty f.0 x.0 h none own_is f.1 in
      let items = has_items read fld.value x.0 fld.reads in
      record {
        namespace = s.0;
        all = x.0;
        is = cc;
        items = items.items;
        there = fld.there ∙ ap (λ (u : Tree). Some u) items.is;
        each = items.each;
        some = items.some;
        again = λ u y reads.
            let a = fld.again (array (item u no_items)) (y ∷ []) (one_in read u y reads) empty refl in
            ap (λ (r : Result (List ℕ) Refusal). r >>= (λ name. fields (put (cut ps field) field (array (item u no_items)))
            >>= (λ found. found_so name found))) n.1
            ∙ ap (λ (r : Result F Refusal). r >>= (λ found. found_so n.0 found)) a.is
            ∙ ap (λ (o : Option (List ℕ)). or_refused o refusals.FailedToParse
            >>= (λ database. or_refused (own a.to) refusals.FailedToParse >>= (λ xs. named n.0 database xs)))
            (ap (λ (k : CommonFields). k.database) a.common_is ∙ database_is)
            ∙ ap (λ (o : Option (List X)). or_refused o refusals.FailedToParse >>= (λ xs. named n.0 d.0 xs)) a.own_is
            ∙ ap (λ (r : Result (List ℕ) Refusal). r >>= (λ namespace. Ok (make namespace (y ∷ [])))) s.1;
      }

-- ---- one after the other

-- the bodies with one of the items each are read as these commands
abbrev pub AreCommands : (Tree → Pairs) → Items → List Command → Type 0
AreCommands body no_items [] = Unit {0}
AreCommands body no_items (c ∷ cs) = ⊥
AreCommands body (item t ts) [] = ⊥
AreCommands body (item t ts) (c ∷ cs) = (command_of (body t) ≡ Ok c) × AreCommands body ts cs

pub are_commands : {X : Type 0} (read : Tree → Result X Refusal) (body : Tree → Pairs) (single : X → Command)
    → ((t : Tree) (x : X) → read t ≡ Ok x → command_of (body t) ≡ Ok (single x)) → (ts : Items) (xs : List X) → AreEach read ts xs
    → AreCommands body ts (map single xs)
are_commands read body single one no_items [] h = tt
are_commands read body single one no_items (x ∷ xs) h = absurd h
are_commands read body single one (item t ts) [] h = absurd h
are_commands read body single one (item t ts) (x ∷ xs) h = (one t x h.0, are_commands read body single one ts xs h.1)

-- no reply is a refusal
abbrev pub AreDone : List Pairs → Type 0
AreDone [] = Unit {0}
AreDone (r ∷ rs) = (refused (ok_reply r) ≡ None) × AreDone rs

-- what the replies come to, from this index on
abbrev pub tallied : ℤ → List Pairs → Tally → Tally
tallied z [] tally = tally
tallied z (r ∷ rs) tally = tallied (saturate_signed w32 (z +ℤ pos 1)) rs (with_reply z (ok_reply r) tally)

and_no : (b : Bool) → (b && false) ≡ false
and_no true = refl
and_no false = refl

-- the command for one of the statements
abbrev pub with_one : Write → Pairs → Tree → Pairs
with_one write rest t = put rest (field_of write) (array (item t no_items))

-- what is asked first for a statement: an upsert that waits for an object id as an update
abbrev pub asked_first : Write → Tree → Tree
asked_first write (document ps) = document (if needs_id write (document ps) then cut ps (codes "upsert") else ps)
asked_first write other = other

-- it doesn't wait for one, or it met a document
abbrev pub IsMet : Write → Tree → Pairs → Type 0
IsMet write t r = (needs_id write t ≡ false) ⊎ (is_zero_count (lookup (ok_reply r) (codes "n")) ≡ false)

abbrev pub AreMet : Write → Items → List Pairs → Type 0
AreMet write no_items rs = Unit {0}
AreMet write (item t ts) [] = Unit {0}
AreMet write (item t ts) (r ∷ rs) = IsMet write t r × AreMet write ts rs

asked_no_more : (a c d : Bool) → (a ≡ false) ⊎ (d ≡ false) → (a && true && c && d) ≡ false
asked_no_more false c d h = refl
asked_no_more true false d h = refl
asked_no_more true true false h = refl
asked_no_more true true true (inl e) = e
asked_no_more true true true (inr e) = e

-- what is kept of a plan is replaced
waits_anyway : (plan : Plan) (wait : Wait) (o : Option Pairs) (batch : Batch)
    → next_statement o (record plan { wait = wait }) batch ≡ next_statement o plan batch
waits_anyway plan wait None batch = refl
waits_anyway plan wait (Some command) batch = refl

-- only a refusal is told in other words
no_text : (o : Option Tree) (database collection : List ℕ) → code_in o ≡ None → text_for o database collection ≡ None
no_text (Some (scalar (int32 z))) database collection e = absurd cc
no_text other database collection e = refl

pub not_reworded : (database collection : List ℕ) (reply : Pairs) → refused reply ≡ None → reworded database collection reply ≡ reply
not_reworded database collection reply done =
    ap (λ (o : Option (List ℕ)). with_text o reply) (no_text (lookup reply (codes "code")) database collection done)

module _ (write : Write) (rest : Pairs) (ordered : Bool) where
  abbrev pub batch_with : Items → ℤ → FreshIds → Tally → Batch
  batch_with ts z ids tally = record {
    write = write;
    body = rest;
    left = ts;
    index = z;
    is_ordered = ordered;
    is_new = false;
    ids = ids;
    tally = tally;
  }

  asked_so : (t : Tree) (left : Items) (z : ℤ) (ids : FreshIds) (tally : Tally) → asked_statement (batch_with left z ids tally) t ≡ asked_first write t
  asked_so (scalar s) left z ids tally = refl
  asked_so (array ts) left z ids tally = refl
  asked_so (document ps) left z ids tally = refl

  replied : (t : Tree) (ts : Items) (z : ℤ) (ids : FreshIds) (tally : Tally) (r : Pairs) → IsMet write t r → refused (ok_reply r) ≡ None
      → after_reply (batch_with (item t ts) z ids tally) (ok_reply r)
      ≡ batch_with ts (saturate_signed w32 (z +ℤ pos 1)) (next_ids ids) (with_reply z (ok_reply r) tally)
  replied t ts z ids tally r met done =
      let batch = batch_with (item t ts) z ids tally in
      let reply = ok_reply r in
      let next = passed (with_tally batch reply) reply in
      let found_some : finds_nothing batch reply ≡ false =
      asked_no_more (needs_id write t) (is_none (refused reply)) (is_zero_count (lookup reply (codes "n"))) met in
      ap (λ (b : Bool). if b then record batch { is_new = true } else next) found_some
      ∙ ap (λ (left : Items). batch_with left (saturate_signed w32 (z +ℤ pos 1)) (next_ids ids) (with_reply z reply tally))
      (ap (λ (b : Bool). if b then no_items else ts) (ap (λ (o : Option ℤ). ordered && is_some o) done ∙ and_no ordered))

  -- what is done first, and then
  abbrev pub next_of : Plan → Items → ℤ → FreshIds → Tally → Plan × Step
  next_of plan ts z ids tally = next_statement (next_command ts (batch_with ts z ids tally)) plan (batch_with ts z ids tally)

  heard_next : (plan : Plan) (t : Tree) (ts : Items) (z : ℤ) (ids : FreshIds) (tally : Tally) (r : Pairs) → IsMet write t r → refused (ok_reply r) ≡ None
      → answered (record plan { wait = waits.Statement (batch_with (item t ts) z ids tally) }) (ok_reply r)
      ≡ next_of plan ts (saturate_signed w32 (z +ℤ pos 1)) (next_ids ids) (with_reply z (ok_reply r) tally)
  heard_next plan t ts z ids tally r met done =
      let batch = batch_with (item t ts) z ids tally in
      let waiting : Plan = record plan { wait = waits.Statement batch } in
      let next = batch_with ts (saturate_signed w32 (z +ℤ pos 1)) (next_ids ids) (with_reply z (ok_reply r) tally) in
      ap (λ (reply : Pairs). statement_step waiting (after_reply batch reply)) (not_reworded plan.database plan.collection (ok_reply r) done)
      ∙ ap (statement_step waiting) (replied t ts z ids tally r met done) ∙ waits_anyway plan (waits.Statement batch) (next_command ts next) next

  -- All are asked, and these are their replies.
  pub record Ends (connection : ℕ) (plan : Plan) (ts : Items) (world new : World) (replies : List Pairs) (z : ℤ) (ids : FreshIds) (tally : Tally) : Type 0 where
    pub index : ℤ
    pub left_ids : FreshIds
    pub is : asked_each (items_len ts) connection (world, next_of plan ts z ids tally)
        ≡ (new, next_of plan no_items index left_ids (tallied z replies tally))

  pub all_asked : (connection : ℕ) (plan : Plan) (ts : Items) (cs : List Command) (world new : World) (replies : List Pairs) (z : ℤ) (ids : FreshIds)
      (tally : Tally) → AreMet write ts replies → AreCommands (λ t. with_one write rest (asked_first write t)) ts cs
      → run_in_turn world connection cs ≡ Ok (new, replies) → AreDone replies → Ends connection plan ts world new replies z ids tally
  all_asked connection plan no_items (c ∷ cs) world new replies z ids tally met are e done = absurd are
  all_asked connection plan (item t ts) [] world new replies z ids tally met are e done = absurd are
  all_asked connection plan no_items [] world new replies z ids tally met are e done =
      let same : ◌≡◌ {A = World × List Pairs} (world, []) (new, replies) = cc in
      record {
        index = z;
        left_ids = ids;
        is = λ k. (ap (λ (x : World × List Pairs). x.0) same k, next_of plan no_items z ids (tallied z (ap (λ (x : World × List Pairs). x.1) same k) tally));
      }
  all_asked connection plan (item t ts) (c ∷ cs) world new [] z ids tally met are e done =
      let first = step_of (run world connection c)
      (λ x. run_in_turn x.0 connection cs >>= (λ y. let r : Result (World × List Pairs) Refusal = Ok (y.0, x.1 ∷ y.1) in r)) (new, []) e in
      let later = step_of (run_in_turn first.0.0 connection cs)
      (λ y. let r : Result (World × List Pairs) Refusal = Ok (y.0, first.0.1 ∷ y.1) in r) (new, []) first.2 in
      let same : ◌≡◌ {A = World × List Pairs} (later.0.0, first.0.1 ∷ later.0.1) (new, []) = cc in
      let never : first.0.1 ∷ later.0.1 ≡ [] = ap (λ (x : World × List Pairs). x.1) same in
      absurd cc
  all_asked connection plan (item t ts) (c ∷ cs) world new (r ∷ rs) z ids tally met are e done =
      let first = step_of (run world connection c)
      (λ x. run_in_turn x.0 connection cs >>= (λ y. let r : Result (World × List Pairs) Refusal = Ok (y.0, x.1 ∷ y.1) in r)) (new, r ∷ rs) e in
      let later = step_of (run_in_turn first.0.0 connection cs)
      (λ y. let r : Result (World × List Pairs) Refusal = Ok (y.0, first.0.1 ∷ y.1) in r) (new, r ∷ rs) first.2 in
      let same : ◌≡◌ {A = World × List Pairs} (later.0.0, first.0.1 ∷ later.0.1) (new, r ∷ rs) = cc in
      let ended : later.0.0 ≡ new = ap (λ (x : World × List Pairs). x.0) same in
      let listed : first.0.1 ∷ later.0.1 ≡ r ∷ rs = ap (λ (x : World × List Pairs). x.1) same in
      let reply_is : first.0.1 ≡ r = cc in
      let replies_are : later.0.1 ≡ rs = cc in
      let ran : run_in_turn first.0.0 connection cs ≡ Ok (new, rs) = later.1 ∙ (λ k. Ok (ended k, replies_are k)) in
      let waiting : Plan = record plan { wait = waits.Statement (batch_with (item t ts) z ids tally) } in
      let rest_of = all_asked connection plan ts cs first.0.0 new rs (saturate_signed w32 (z +ℤ pos 1)) (next_ids ids) (with_reply z (ok_reply r) tally) met.1
      are.1 ran done.1 in
      let stepped : step world connection (Ok (with_one write rest (asked_first write t))) ≡ (first.0.0, ok_reply r) =
      ap (λ (x : Result Command Refusal). answered_with world (x >>= (λ command. run world connection command))) are.0
      ∙ ap (answered_with world) first.1 ∙ (λ k. (first.0.0, ok_reply (reply_is k))) in
      let asked : heard (step world connection (Ok (with_one write rest (asked_statement (batch_with (item t ts) z ids tally) t)))) waiting
      ≡ (first.0.0, next_of plan ts (saturate_signed w32 (z +ℤ pos 1)) (next_ids ids) (with_reply z (ok_reply r) tally)) =
      ap (λ (u : Tree). heard (step world connection (Ok (with_one write rest u))) waiting) (asked_so t (item t ts) z ids tally)
      ∙ ap (λ (x : World × Pairs). heard x waiting) stepped
      ∙ (λ k. (first.0.0, heard_next plan t ts z ids tally r met.0 done.0 k)) in
      record {
        index = rest_of.index;
        left_ids = rest_of.left_ids;
        is = ap (asked_each (items_len ts) connection) asked ∙ rest_of.is;
      }
