-- What the statements of a write come to, asked one after the other, is what the whole comes to.
use Rattle.std.proofs.Common.{◌≡◌, ◌≤◌, ℕ, ℤ, pos, ◌+ℤ◌, suc, ◌+◌, ◌-◌, ◌^◌, min, sum, Bool, true, false, List, [], ◌∷◌, length, map, Option, Some, inl, inr}
use Rattle.std.proofs.Common.{None, Result, Ok, refl, sym, ap, subst, ◌∙◌}
use Rattle.std.proofs.Common.{arith, All}
use Rattle.std.specs.Prelude.{◌==◌, codes, if◌then◌else◌}
use Rattle.std.specs.Int.{saturate_signed, w32}
use Rattle.std.specs.Str.{bytes_eq}
use Rattle.std.proofs.lemmas.List.{length-map}
use Rattle.std.proofs.lemmas.List.Sums.{sum_by-cons}
use Rattle.std.proofs.lemmas.Slice.Eq.{bytes_eq-Decides}
use Rattle.bson.specs.EditPlaces.{append_items-none}
use Rattle.bson.specs.Edits.{cut, items_len, put}
use Rattle.bson.specs.Lawful.{IsDocument, IsItems, IsPairs, IsTree}
use Rattle.bson.specs.Lookup.{lookup}
use Rattle.bson.specs.Tree.{Tree, scalar, int32, document, array, item, Pairs, pair, no_pairs, Items, no_items, append_items}
use Rattle.outcome.specs.Outcome.{◌>>=◌}
use Rattle.path.specs.declared.refusal.Refusal.{Refusal}
use Rattle.command_model.specs.Command.{as_command, Command, command_of, delete, insert, update}
use Rattle.command_model.specs.CommandLaws.{bounded}
use Rattle.command_model.specs.Delete.{Delete, DeleteFields, Deletion, no_delete_fields, read_delete, read_deletion}
use Rattle.command_model.specs.Insert.{Insert, InsertFields, no_insert_fields, read_insert}
use Rattle.command_model.specs.OutcomeLaws.{step_of}
use Rattle.command_model.specs.Update.{IsRead, no_update_fields, read_statement, read_update_command, Update, UpdateFields, UpdateStatement}
use Rattle.command_model.specs.Values.{document_in, spelled_in}
use Rattle.database_model.specs.Lawful.{IsHeld}
use Rattle.database_model.specs.Refusals.{ok_reply, total}
use Rattle.database_model.specs.Step.{answered as answered_with, run, step}
use Rattle.database_model.specs.Update.{counts_reply}
use Rattle.database_model.specs.UpdateCommand.{run_update}
use Rattle.database_model.specs.World.{World}
use Rattle.driver_replies.specs.declared.batch.Batch.{Batch}
use Rattle.driver_replies.specs.declared.fresh_ids.FreshIds.{FreshIds}
use Rattle.driver_replies.specs.declared.tally.Tally.{Tally}
use Rattle.driver_replies.specs.declared.writes.Write.{Write}
use Rattle.driver_replies.specs.declared.writes.Write.TheVariants as writes
use Rattle.driver_replies.specs.Fields.{long}
use Rattle.driver_replies.specs.Tallies.{code_in, no_tally, refused, with_counts, with_list, with_reply, write_reply}
use Rattle.driver_replies.specs.WriteErrors.{refused_statement}
use Rattle.driver_replies.specs.Writes.{batch_of, field_of, is_update, statements_in, write_of, is_upsert, needs_id}
use Rattle.drivers.specs.Answering.{answered, answered_by, plan_for, statement_step, whole_step, widened}
use Rattle.drivers.specs.Laws.{AreOfCommand}
use Rattle.drivers.specs.declared.plan.Plan.{Plan}
use Rattle.drivers.specs.declared.plan.Wait.{Wait}
use Rattle.drivers.specs.declared.plan.Wait.TheVariants as waits
use Rattle.drivers.specs.declared.step.Step.TheVariants as steps
use Rattle.drivers.specs.Starting.{unheard}
use Rattle.drivers.proofs.StatementLaws.{asks_same_statements}
use Rattle.bulk_writes.specs.AskedLaws.{AnsweredAlike, asked_each, heard}
use Rattle.bulk_writes.specs.InTurn.{delete_one, insert_one, run_in_turn, update_one}
use Rattle.bulk_writes.specs.Laws.{n_reply, ones, taken_in, total_reply}
use Rattle.bulk_writes.specs.UpdateLaws.{Counts, entries_from, entry_of, told}
use Rattle.bulk_writes.proofs.Asking.{all_asked, are_commands, AreCommands, AreDone, batch_with, Parts, parts_of, tallied, with_one, asked_first}
use Rattle.bulk_writes.proofs.Asking.{AreMet, IsMet, next_of, not_reworded}
use Rattle.bulk_writes.proofs.Matching.{alike}
use Rattle.bulk_writes.proofs.OwnField.{AreEach}
use Rattle.bulk_writes.proofs.Spelled.{are_spelled}
use Rattle.bulk_writes.proofs.Values.{field_there, IfThere}
use Rattle.bulk_writes.proofs.Waiting.{cut_reads, is_waiting, without_upsert}
use Rattle.bulk_writes.proofs.Counting.{clamped}
use Rattle.bulk_writes.proofs.Deleting.{delete_in_turn}
use Rattle.bulk_writes.proofs.Inserting.{insert_in_turn}
use Rattle.bulk_writes.proofs.Updating.{items_assoc, matched_in, modified_in, told_one, update_in_turn}

-- ---- what is counted

abbrev counted_so : ℕ → ℕ → Items → Tally
counted_so p q made = record { n = pos (clamped p); modified = pos (clamped q); upserted = made; errors = no_items }

both_clamped : (p m : ℕ) → min (clamped p + clamped m) (2 ^ 31 - 1) ≡ clamped (p + m)
both_clamped p m = omega arith

total_more : (z : ℤ) (m p q : ℕ) (made : Items) → with_reply z (ok_reply (total_reply m)) (counted_so p q made) ≡ counted_so (p + m) q made
total_more z m p q made k = record { n = pos (both_clamped p m k); modified = pos (clamped q); upserted = made; errors = no_items }

totals : (z : ℤ) (ms : List ℕ) (p q : ℕ) (made : Items) → tallied z (map total_reply ms) (counted_so p q made) ≡ counted_so (p + sum ms) q made
totals z [] p q made = ap (λ (n : ℕ). counted_so n q made) (let same : p ≡ p + sum [] = omega arith in same)
totals z (m ∷ ms) p q made =
    ap (tallied (saturate_signed w32 (z +ℤ pos 1)) (map total_reply ms)) (total_more z m p q made)
    ∙ totals (saturate_signed w32 (z +ℤ pos 1)) ms (p + m) q made
    ∙ ap (λ (n : ℕ). counted_so n q made) (let same : p + m + sum ms ≡ p + sum (m ∷ ms) = omega (arith, sum_by-cons (λ (x : ℕ). x) m ms) in same)

totals_done : (ms : List ℕ) → AreDone (map total_reply ms)
totals_done [] = tt
totals_done (m ∷ ms) = (refl, totals_done ms)

abbrev one_for : List Pairs → List ℕ
one_for ds = map (λ d. 1) ds

ones_are : (ds : List Pairs) → ones ds ≡ map total_reply (one_for ds)
ones_are [] = refl
ones_are (d ∷ ds) = ap (λ (rs : List Pairs). n_reply 1 ∷ rs) (ones_are ds)

ones_sum : (ds : List Pairs) → sum (one_for ds) ≡ length ds
ones_sum [] = refl
ones_sum (d ∷ ds) = omega (arith, sum_by-cons (λ (x : ℕ). x) 1 (one_for ds), ones_sum ds)

told_more : (i : ℕ) (x : Counts) (p q : ℕ) (made : Items)
    → with_reply (pos i) (ok_reply (told (x ∷ []))) (counted_so p q made)
    ≡ counted_so (p + x.matched) (q + x.modified) (append_items made (entry_of i x.made))
told_more i x p q made = ap (λ (r : Pairs). with_reply (pos i) (ok_reply r) (counted_so p q made)) (told_one x) ∙ at x.made
  where
    at : (o : Option Tree) → with_reply (pos i) (ok_reply (counts_reply x.matched x.modified (entry_of 0 o))) (counted_so p q made)
        ≡ counted_so (p + x.matched) (q + x.modified) (append_items made (entry_of i o))
    at None = λ k. record {
      n = pos (both_clamped p x.matched k);
      modified = pos (both_clamped q x.modified k);
      upserted = sym (append_items-none made) k;
      errors = no_items;
    }
    at (Some id) = λ k. record {
      n = pos (both_clamped p x.matched k);
      modified = pos (both_clamped q x.modified k);
      upserted = append_items made (entry_of i (Some id));
      errors = no_items;
    }

all_told : (i : ℕ) (cs : List Counts) (p q : ℕ) (made : Items) → i + length cs ≤ 1000
    → tallied (pos i) (map (λ x. told (x ∷ [])) cs) (counted_so p q made)
    ≡ counted_so (p + matched_in cs) (q + modified_in cs) (append_items made (entries_from i cs))
all_told i [] p q made few =
    let matched : p ≡ p + matched_in [] = omega arith in
    let modified : q ≡ q + modified_in [] = omega arith in
    λ k. counted_so (matched k) (modified k) (sym (append_items-none made) k)
all_told i (x ∷ cs) p q made few =
    let next : min (i + 1) (2 ^ 31 - 1) ≡ suc i = omega (arith, few) in
    let matched : p + x.matched + matched_in cs ≡ p + matched_in (x ∷ cs) = omega (arith, sum_by-cons (λ (y : Counts). y.matched) x cs) in
    let modified : q + x.modified + modified_in cs ≡ q + modified_in (x ∷ cs) = omega (arith, sum_by-cons (λ (y : Counts). y.modified) x cs) in
    (λ k. tallied (pos (next k)) (map (λ y. told (y ∷ [])) cs) (told_more i x p q made k))
    ∙ all_told (suc i) cs (p + x.matched) (q + x.modified) (append_items made (entry_of i x.made)) (omega (arith, few))
    ∙ (λ k. counted_so (matched k) (modified k) (items_assoc made (entry_of i x.made) (entries_from (suc i) cs) k))

told_done : (cs : List Counts) → AreDone (map (λ x. told (x ∷ [])) cs)
told_done [] = tt
told_done (x ∷ cs) = (ap (λ (r : Pairs). refused (ok_reply r)) (told_one x) ∙ at x.made, told_done cs)
  where
    at : (o : Option Tree) → refused (ok_reply (counts_reply x.matched x.modified (entry_of 0 o))) ≡ None
    at None = refl
    at (Some id) = refl

-- as many replies as commands
as_many : (connection : ℕ) (cs : List Command) (world new : World) (replies : List Pairs) → run_in_turn world connection cs ≡ Ok (new, replies)
    → length replies ≡ length cs
as_many connection [] world new replies e =
    let same : ◌≡◌ {A = World × List Pairs} (world, []) (new, replies) = cc in
    ap length (sym (ap (λ (x : World × List Pairs). x.1) same))
as_many connection (c ∷ cs) world new replies e =
    let first = step_of (run world connection c)
    (λ x. run_in_turn x.0 connection cs >>= (λ y. let r : Result (World × List Pairs) Refusal = Ok (y.0, x.1 ∷ y.1) in r)) (new, replies) e in
    let later = step_of (run_in_turn first.0.0 connection cs)
    (λ y. let r : Result (World × List Pairs) Refusal = Ok (y.0, first.0.1 ∷ y.1) in r) (new, replies) first.2 in
    let same : ◌≡◌ {A = World × List Pairs} (later.0.0, first.0.1 ∷ later.0.1) (new, replies) = cc in
    let listed : first.0.1 ∷ later.0.1 ≡ replies = ap (λ (x : World × List Pairs). x.1) same in
    omega (arith, ap length listed, as_many connection cs first.0.0 later.0.0 later.0.1 later.1)

-- ---- statements that don't wait

module _ (write : Write) (never : (t : Tree) → needs_id write t ≡ false) where
  all_met : (ts : Items) (rs : List Pairs) → AreMet write ts rs
  all_met no_items rs = tt
  all_met (item t ts) [] = tt
  all_met (item t ts) (r ∷ rs) = (inl (never t), all_met ts rs)

  plain : (t : Tree) → asked_first write t ≡ t
  plain (scalar s) = refl
  plain (array ts) = refl
  plain (document ps) = ap (λ (b : Bool). document (if b then cut ps (codes "upsert") else ps)) (never (document ps))

-- ---- all are asked

-- What is known of the reply of a whole: no refusal, and what drivers are told then.
record IsTold (reply answer : Pairs) : Type 0 where
  done : refused (ok_reply reply) ≡ None
  wide : widened (ok_reply reply) ≡ answer

final_so : (plan : Plan) (batch : Batch) (reply answer : Pairs) → IsTold reply answer → plan.wait ≡ waits.Batch batch
    → answered plan (ok_reply reply) ≡ (record plan { wait = waits.Plain }, unheard plan.more_to_come (steps.Reply answer))
final_so plan batch reply answer h is =
    ap (λ (w : Wait). answered_by w plan (ok_reply reply)) is
    ∙ ap (λ (o : Option ℤ). whole_step o plan batch (ok_reply reply)) (none_of (lookup (ok_reply reply) (codes "code")) h.done)
    ∙ ap (λ (r : Pairs). (record plan { wait = waits.Plain }, unheard plan.more_to_come (steps.Reply r)))
    (ap widened (not_reworded plan.database plan.collection (ok_reply reply) h.done) ∙ h.wide)
  where
    none_of : (o : Option Tree) → code_in o ≡ None → refused_statement o ≡ None
    none_of (Some (scalar (int32 z))) e = absurd cc
    none_of other e = refl

answered_so : (write : Write) (rest : Pairs) (ordered : Bool) (connection : ℕ) (ids : FreshIds) (left ts : Items) (cs : List Command) (world new : World)
    (replies : List Pairs) (reply answer : Pairs) (plan : Plan) → left ≡ ts → AreMet write ts replies
    → AreCommands (λ t. with_one write rest (asked_first write t)) ts cs
    → run_in_turn world connection cs ≡ Ok (new, replies) → AreDone replies → write_reply (is_update write) (tallied (pos 0) replies no_tally) ≡ answer
    → IsTold reply answer → plan.wait ≡ waits.Batch (batch_with write rest ordered left (pos 0) ids no_tally)
    → asked_each (items_len left) connection (world, next_of write rest ordered plan left (pos 0) ids no_tally) ≡ (new, answered plan (ok_reply reply))
answered_so write rest ordered connection ids left ts cs world new replies reply answer plan is met are ran done says told_so waits_so =
    let e = all_asked write rest ordered connection plan ts cs world new replies (pos 0) ids no_tally met are ran done in
    ap (λ (us : Items). asked_each (items_len us) connection (world, next_of write rest ordered plan us (pos 0) ids no_tally)) is ∙ e.is
    ∙ ap (λ (r : Pairs). (new, (record plan { wait = waits.Plain }, unheard plan.more_to_come (steps.Reply r)))) says
    ∙ (λ k. (new, sym (final_so plan (batch_with write rest ordered left (pos 0) ids no_tally) reply answer told_so waits_so) k))

-- ---- statements that wait

-- What is asked for the statements of an update, and that it comes to the same.
record Waits (connection : ℕ) (namespace : List ℕ) (rest : Pairs) (ts : Items) (world new : World) (replies : List Pairs) : Type 0 where
  asked : List UpdateStatement
  commands : AreCommands (λ u. with_one writes.Update rest (asked_first writes.Update u)) ts (map (update_one namespace) asked)
  ran : run_in_turn world connection (map (update_one namespace) asked) ≡ Ok (new, replies)
  met : AreMet writes.Update ts replies

-- What is asked for one of them.
record WaitsOne (namespace : List ℕ) (rest : Pairs) (t : Tree) (world new : World) (reply : Pairs) : Type 0 where
  asked : UpdateStatement
  command : command_of (with_one writes.Update rest (asked_first writes.Update t)) ≡ Ok (update_one namespace asked)
  ran : run_update world (record { namespace = namespace; statements = asked ∷ [] }) ≡ Ok (new, reply)
  met : IsMet writes.Update t reply

module _ (connection : ℕ) (namespace : List ℕ) (rest : Pairs)
    (again : (u : Tree) (y : UpdateStatement) → spelled_in read_statement u ≡ Ok y
    → command_of (with_one writes.Update rest u) ≡ Ok (update_one namespace y)) where
  one_waits : (t : Tree) (s : UpdateStatement) → IsTree t → spelled_in read_statement t ≡ Ok s → IsRead s.change → (world new : World) (reply : Pairs)
      → run_update world (record { namespace = namespace; statements = s ∷ [] }) ≡ Ok (new, reply) → WaitsOne namespace rest t world new reply
  one_waits (scalar z) s h e read world new reply ran = absurd cc
  one_waits (array ts) s h e read world new reply ran = absurd cc
  one_waits (document ps) s h e read world new reply ran = at (is_upsert ps) refl
    where
      at : (b : Bool) → is_upsert ps ≡ b → WaitsOne namespace rest (document ps) world new reply
      at false is = record {
        asked = s;
        command = ap (λ (b : Bool). command_of (with_one writes.Update rest (document (if b then cut ps (codes "upsert") else ps)))) is
            ∙ again (document ps) s e;
        ran = ran;
        met = inl is;
      }
      at true is =
          let a = alike world namespace s new reply (is_waiting ps s h read is e) ran in
          record {
            asked = without_upsert s;
            command = ap (λ (b : Bool). command_of (with_one writes.Update rest (document (if b then cut ps (codes "upsert") else ps)))) is
                ∙ again (document (cut ps (codes "upsert"))) (without_upsert s) (cut_reads ps s h e);
            ran = a.same;
            met = inr a.counts;
          }

  all_wait : (ts : Items) (ss : List UpdateStatement) → IsItems ts → AreEach (spelled_in read_statement) ts ss
      → All (λ (s : UpdateStatement). IsRead s.change) ss → (world new : World) (replies : List Pairs)
      → run_in_turn world connection (map (update_one namespace) ss) ≡ Ok (new, replies) → Waits connection namespace rest ts world new replies
  all_wait no_items [] h each read world new replies e = record { asked = []; commands = tt; ran = e; met = tt }
  all_wait no_items (s ∷ ss) h each read world new replies e = absurd each
  all_wait (item t ts) [] h each read world new replies e = absurd each
  all_wait (item t ts) (s ∷ ss) h each read world new replies e =
      let first = step_of (run_update world (record { namespace = namespace; statements = s ∷ [] }))
      (λ x. run_in_turn x.0 connection (map (update_one namespace) ss)
      >>= (λ y. let r : Result (World × List Pairs) Refusal = Ok (y.0, x.1 ∷ y.1) in r)) (new, replies) e in
      let later = step_of (run_in_turn first.0.0 connection (map (update_one namespace) ss))
      (λ y. let r : Result (World × List Pairs) Refusal = Ok (y.0, first.0.1 ∷ y.1) in r) (new, replies) first.2 in
      let same : ◌≡◌ {A = World × List Pairs} (later.0.0, first.0.1 ∷ later.0.1) (new, replies) = cc in
      let one = one_waits t s h.0 each.0 (read 0 s (omega arith)) world first.0.0 first.0.1 first.1 in
      let others = all_wait ts ss h.1 each.1 (λ k d below. read (suc k) d (omega (arith, below))) first.0.0 later.0.0 later.0.1 later.1 in
      subst (λ (x : World × List Pairs). Waits connection namespace rest (item t ts) world x.0 x.1) same (record {
        asked = one.asked ∷ others.asked;
        commands = (one.command, others.commands);
        ran = ap (λ (r : Result (World × Pairs) Refusal). r >>= (λ x. run_in_turn x.0 connection (map (update_one namespace) others.asked)
            >>= (λ y. Ok (y.0, x.1 ∷ y.1)))) one.ran
            ∙ ap (λ (r : Result (World × List Pairs) Refusal). r >>= (λ y. Ok (y.0, first.0.1 ∷ y.1))) others.ran;
        met = (one.met, others.met);
      })

module _ (world new : World) (connection : ℕ) (ordered : Bool) (ids : FreshIds) (t : Tree) (ps : Pairs) (c : Command) (reply : Pairs)
    (ran : run world connection c ≡ Ok (new, reply)) (plan : Plan) where
  abbrev Answered : Write → List ℕ → Type 0
  Answered write name =
      plan.wait ≡ waits.Batch (batch_of write ordered ids (pair name t ps))
      → asked_each (items_len (batch_of write ordered ids (pair name t ps)).left) connection
      (world, statement_step plan (batch_of write ordered ids (pair name t ps)))
      ≡ (new, answered plan (ok_reply reply))

  abbrev answer : Pairs
  answer = put (ok_reply reply) (codes "ok") (long (pos 1))

  -- a reply that says a number
  told_number : (n : ℕ) → reply ≡ n_reply n → IsTold reply answer
  told_number n is = subst (λ (r : Pairs). IsTold r (put (ok_reply r) (codes "ok") (long (pos 1)))) (sym is) (record { done = refl; wide = refl })

  -- or what an update did
  told_update : (a b : ℕ) (made : Items) → reply ≡ counts_reply a b made → IsTold reply answer
  told_update a b made is =
      subst (λ (r : Pairs). IsTold r (put (ok_reply r) (codes "ok") (long (pos 1)))) (sym is) (at (items_len made == 0))
    where
      at : (e : Bool)
          → IsTold (pair (codes "n") (total a) (pair (codes "nModified") (total b) (if e then no_pairs else pair (codes "upserted") (array made) no_pairs)))
          (put (ok_reply (pair (codes "n") (total a) (pair (codes "nModified") (total b)
          (if e then no_pairs else pair (codes "upserted") (array made) no_pairs)))) (codes "ok") (long (pos 1)))
      at true = record { done = refl; wide = refl }
      at false = record { done = refl; wide = refl }

  abbrev Left : Write → List ℕ → Items
  Left write name = statements_in (lookup (pair name t ps) (field_of write))

  -- ---- insert

  abbrev insert_of : List ℕ → List Pairs → Insert
  insert_of namespace ds = record { namespace = namespace; documents = ds }

  insert_parts : (x : Insert) → IsPairs ps → read_insert t ps ≡ Ok x
      → Parts (λ (f : InsertFields). f.common) (λ f. f.documents) (λ f k. record f { common = k })
      (λ f ds. record f { documents = Some ds }) (λ f k. refl) (λ f k. refl) (λ f ds. refl) (λ f ds. refl) document_in (codes "documents") no_insert_fields refl
      insert_of t ps x
  insert_parts x h e =
      parts_of (λ (f : InsertFields). f.common) (λ f. f.documents) (λ f k. record f { common = k }) (λ f ds. record f { documents = Some ds }) (λ f k. refl)
      (λ f k. refl) (λ f ds. refl) (λ f ds. refl) document_in (codes "documents") no_insert_fields refl insert_of t ps x h e

  insert_answered : IsPairs ps → command_of (pair (codes "insert") t ps) ≡ Ok c → Answered writes.Insert (codes "insert")
  unfolding command_of
  insert_answered h e =
      let x = step_of (read_insert t ps) (λ y. let r : Result Command Refusal = Ok (insert y) in r) c e in
      let it : insert x.0 ≡ c = cc in
      let p = insert_parts x.0 h x.1 in
      let whole : run world connection (insert (insert_of p.namespace p.all)) ≡ Ok (new, reply) =
      ap (λ (y : Insert). run world connection (insert y)) p.is ∙ ap (run world connection) it ∙ ran in
      let within = bounded (pair (codes "insert") t ps) (insert x.0) (e ∙ ap (λ (y : Command). Ok y) (sym it)) in
      let same_length : length p.all ≡ length x.0.documents = ap (λ (y : Insert). length y.documents) p.is in
      let law = insert_in_turn world connection (insert_of p.namespace p.all) p.some in
      let says = law.counted new reply whole in
      let all : run_in_turn world connection (map (insert_one p.namespace) p.all) ≡ Ok (new, map total_reply (one_for p.all)) =
      law.same ∙ ap (λ (r : Result (World × Pairs) Refusal). r >>= (λ y. Ok (y.0, ones p.all))) whole
      ∙ ap (λ (rs : List Pairs). Ok (new, rs)) (ones_are p.all) in
      let number : clamped (0 + sum (one_for p.all)) ≡ length p.all = omega (arith, ones_sum p.all, within.1, same_length) in
      answered_so writes.Insert (pair (codes "insert") t (cut ps (codes "documents"))) ordered connection ids (Left writes.Insert (codes "insert")) p.items
      (map (insert_one p.namespace) p.all) world new (map total_reply (one_for p.all)) reply answer plan
      (ap statements_in p.there) (all_met writes.Insert (λ v. refl) p.items (map total_reply (one_for p.all)))
      (are_commands document_in (λ u. with_one writes.Insert (pair (codes "insert") t (cut ps (codes "documents"))) (asked_first writes.Insert u))
      (insert_one p.namespace)
      (λ u d reads. ap (λ (v : Tree). command_of (with_one writes.Insert (pair (codes "insert") t (cut ps (codes "documents"))) v))
      (plain writes.Insert (λ v. refl) u) ∙ ap (as_command insert) (p.again u d reads)) p.items p.all p.each)
      all (totals_done (one_for p.all))
      (ap (write_reply false) (totals (pos 0) (one_for p.all) 0 0 no_items)
      ∙ ap (λ (n : ℕ). put (ok_reply (n_reply n)) (codes "ok") (long (pos 1))) number
      ∙ ap (λ (r : Pairs). put (ok_reply r) (codes "ok") (long (pos 1))) (sym says))
      (told_number (length p.all) says)

  -- ---- delete

  abbrev delete_of : List ℕ → List Deletion → Delete
  delete_of namespace ds = record { namespace = namespace; deletions = ds }

  delete_parts : (x : Delete) → IsPairs ps → read_delete t ps ≡ Ok x
      → Parts (λ (f : DeleteFields). f.common) (λ f. f.deletions) (λ f k. record f { common = k })
      (λ f ds. record f { deletions = Some ds }) (λ f k. refl) (λ f k. refl) (λ f ds. refl) (λ f ds. refl) (spelled_in read_deletion) (codes "deletes")
      no_delete_fields refl delete_of t ps x
  delete_parts x h e =
      parts_of (λ (f : DeleteFields). f.common) (λ f. f.deletions) (λ f k. record f { common = k }) (λ f ds. record f { deletions = Some ds }) (λ f k. refl)
      (λ f k. refl) (λ f ds. refl) (λ f ds. refl) (spelled_in read_deletion) (codes "deletes") no_delete_fields refl delete_of t ps x h e

  delete_answered : IsPairs ps → command_of (pair (codes "delete") t ps) ≡ Ok c → Answered writes.Delete (codes "delete")
  unfolding command_of
  delete_answered h e =
      let x = step_of (read_delete t ps) (λ y. let r : Result Command Refusal = Ok (delete y) in r) c e in
      let it : delete x.0 ≡ c = cc in
      let p = delete_parts x.0 h x.1 in
      let d = delete_of p.namespace p.all in
      let whole : run world connection (delete d) ≡ Ok (new, reply) =
      ap (λ (y : Delete). run world connection (delete y)) p.is ∙ ap (run world connection) it ∙ ran in
      let law = delete_in_turn world connection d p.some in
      let both : ◌≡◌ {A = World × Pairs} (law.new, total_reply (sum (taken_in world d))) (new, reply) = let same = sym law.whole ∙ whole in cc in
      let ended : law.new ≡ new = ap (λ (y : World × Pairs). y.0) both in
      let says : total_reply (sum (taken_in world d)) ≡ reply = ap (λ (y : World × Pairs). y.1) both in
      let number : clamped (0 + sum (taken_in world d)) ≡ clamped (sum (taken_in world d)) = omega arith in
      answered_so writes.Delete (pair (codes "delete") t (cut ps (codes "deletes"))) ordered connection ids (Left writes.Delete (codes "delete")) p.items
      (map (delete_one p.namespace) p.all) world new (map total_reply (taken_in world d)) reply answer plan
      (ap statements_in p.there) (all_met writes.Delete (λ v. refl) p.items (map total_reply (taken_in world d)))
      (are_commands (spelled_in read_deletion) (λ u. with_one writes.Delete (pair (codes "delete") t (cut ps (codes "deletes"))) (asked_first writes.Delete u))
      (delete_one p.namespace)
      (λ u y reads. ap (λ (v : Tree). command_of (with_one writes.Delete (pair (codes "delete") t (cut ps (codes "deletes"))) v))
      (plain writes.Delete (λ v. refl) u) ∙ ap (as_command delete) (p.again u y reads)) p.items p.all p.each)
      (law.same ∙ ap (λ (w : World). Ok (w, map total_reply (taken_in world d))) ended) (totals_done (taken_in world d))
      (ap (write_reply false) (totals (pos 0) (taken_in world d) 0 0 no_items)
      ∙ ap (λ (n : ℕ). put (ok_reply (n_reply n)) (codes "ok") (long (pos 1))) number
      ∙ ap (λ (r : Pairs). put (ok_reply r) (codes "ok") (long (pos 1))) says)
      (told_number (clamped (sum (taken_in world d))) (sym says))

  -- ---- update

  abbrev update_of : List ℕ → List UpdateStatement → Update
  update_of namespace ss = record { namespace = namespace; statements = ss }

  update_parts : (x : Update) → IsPairs ps → read_update_command t ps ≡ Ok x → Parts (λ (f : UpdateFields). f.common) (λ f. f.statements)
      (λ f k. record f { common = k }) (λ f ss. record f { statements = Some ss }) (λ f k. refl) (λ f k. refl) (λ f ss. refl) (λ f ss. refl)
      (spelled_in read_statement) (codes "updates") no_update_fields refl update_of t ps x
  update_parts x h e =
      parts_of (λ (f : UpdateFields). f.common) (λ f. f.statements) (λ f k. record f { common = k }) (λ f ss. record f { statements = Some ss }) (λ f k. refl)
      (λ f k. refl) (λ f ss. refl) (λ f ss. refl) (spelled_in read_statement) (codes "updates") no_update_fields refl update_of t ps x h e

  -- what is told of all
  all_say : (matched modified : ℕ) (made : Items)
      → write_reply true (counted_so matched modified made) ≡ put (ok_reply (counts_reply matched modified made)) (codes "ok") (long (pos 1))
  all_say matched modified made = at (items_len made == 0)
    where
      at : (b : Bool)
          → put (with_list (codes "writeErrors") no_items (if b then with_counts true (counted_so matched modified made)
          else put (with_counts true (counted_so matched modified made)) (codes "upserted") (array made))) (codes "ok") (long (pos 1))
          ≡ put (ok_reply (pair (codes "n") (total matched) (pair (codes "nModified") (total modified)
          (if b then no_pairs else pair (codes "upserted") (array made) no_pairs)))) (codes "ok") (long (pos 1))
      at true = refl
      at false = refl

  update_answered : IsDocument (pair (codes "update") t ps) → All IsHeld world.collections → command_of (pair (codes "update") t ps) ≡ Ok c
      → Answered writes.Update (codes "update")
  unfolding command_of
  update_answered lawful held e =
      let x = step_of (read_update_command t ps) (λ y. let r : Result Command Refusal = Ok (update y) in r) c e in
      let it : update x.0 ≡ c = cc in
      let p = update_parts x.0 lawful.lawful.3 x.1 in
      let d = update_of p.namespace p.all in
      let spells : command_of (pair (codes "update") t ps) ≡ Ok (update d) = e ∙ ap (λ (y : Command). Ok y) (sym it ∙ ap update (sym p.is)) in
      let whole : run world connection (update d) ≡ Ok (new, reply) =
      ap (λ (y : Update). run world connection (update y)) p.is ∙ ap (run world connection) it ∙ ran in
      let law = update_in_turn world new connection (pair (codes "update") t ps) d reply lawful spells held whole in
      let within = bounded (pair (codes "update") t ps) (update d) spells in
      let few : 0 + length law.counts ≤ 1000 =
      omega (
        arith,
        as_many connection (map (update_one p.namespace) p.all) world new (map (λ y. told (y ∷ [])) law.counts) law.same,
        length-map law.counts (λ (y : Counts). told (y ∷ [])),
        length-map p.all (update_one p.namespace),
        within.0,
        within.1,
      ) in
      let items_are : IsItems p.items = subst IfThere p.there (field_there ps (codes "updates") lawful.lawful.3) in
      let w = all_wait connection p.namespace (pair (codes "update") t (cut ps (codes "updates"))) (λ u y reads. ap (as_command update) (p.again u y reads))
      p.items p.all items_are p.each (are_spelled (pair (codes "update") t ps) d lawful spells).read world new (map (λ y. told (y ∷ [])) law.counts) law.same in
      let matched : 0 + matched_in law.counts ≡ matched_in law.counts = omega arith in
      let modified : 0 + modified_in law.counts ≡ modified_in law.counts = omega arith in
      answered_so writes.Update (pair (codes "update") t (cut ps (codes "updates"))) ordered connection ids (Left writes.Update (codes "update")) p.items
      (map (update_one p.namespace) w.asked) world new (map (λ y. told (y ∷ [])) law.counts) reply answer plan
      (ap statements_in p.there) w.met w.commands w.ran (told_done law.counts)
      (ap (write_reply true) (all_told 0 law.counts 0 0 no_items few)
      ∙ all_say (0 + matched_in law.counts) (0 + modified_in law.counts) (entries_from 0 law.counts)
      ∙ (λ k. put (ok_reply (counts_reply (matched k) (modified k) (entries_from 0 law.counts))) (codes "ok") (long (pos 1)))
      ∙ ap (λ (r : Pairs). put (ok_reply r) (codes "ok") (long (pos 1))) (sym law.counted))
      (told_update (matched_in law.counts) (modified_in law.counts) (entries_from 0 law.counts) law.counted)

  -- ---- the law

  -- of a write under this name
  abbrev Goal : Write → List ℕ → Type 0
  Goal write name =
      IsDocument (pair name t ps) → command_of (pair name t ps) ≡ Ok c → Answered write name

  so_named : (w v : Write) (n name : List ℕ) → ◌≡◌ {A = Option Write} (Some w) (Some v) → bytes_eq name n ≡ true → Goal w n → Goal v name
  so_named w v n name is named go =
      let same : w ≡ v = cc in
      subst (λ (x : Write). Goal x name) same (subst (Goal w) (sym ((bytes_eq-Decides name n).0 named)) go)

  by_name : (write : Write) (name : List ℕ) → All IsHeld world.collections → write_of name ≡ Some write → Goal write name
  by_name write name held is =
      at (bytes_eq name (codes "insert")) (bytes_eq name (codes "update")) (bytes_eq name (codes "delete")) refl refl refl is
    where
      at : (a b d : Bool) → bytes_eq name (codes "insert") ≡ a → bytes_eq name (codes "update") ≡ b → bytes_eq name (codes "delete") ≡ d
          → (if a then Some writes.Insert else if b then Some writes.Update else if d then Some writes.Delete else None) ≡ Some write → Goal write name
      at true b d f g h k = so_named writes.Insert write (codes "insert") name k f (λ l e. insert_answered l.lawful.3 e)
      at false true d f g h k = so_named writes.Update write (codes "update") name k g (λ l e. update_answered l held e)
      at false false true f g h k = so_named writes.Delete write (codes "delete") name k h (λ l e. delete_answered l.lawful.3 e)
      at false false false f g h k = absurd cc

write_alike : (world new : World) (connection : ℕ) (write : Write) (ordered : Bool) (ids : FreshIds) (name : List ℕ) (t : Tree) (ps : Pairs) (c : Command)
    (reply : Pairs) (plan : Plan) (batch : Batch) → write_of name ≡ Some write → IsDocument (pair name t ps) → command_of (pair name t ps) ≡ Ok c
    → All IsHeld world.collections → run world connection c ≡ Ok (new, reply) → batch_of write ordered ids (pair name t ps) ≡ batch
    → plan.wait ≡ waits.Batch batch
    → asked_each (items_len batch.left) connection (world, statement_step plan batch) ≡ heard (step world connection (Ok (pair name t ps))) plan
write_alike world new connection write ordered ids name t ps c reply plan batch is lawful spells held ran made waits_so =
    let whole : step world connection (Ok (pair name t ps)) ≡ (new, ok_reply reply) =
    ap (λ (x : Result Command Refusal). answered_with world (x >>= (λ command. run world connection command))) spells ∙ ap (answered_with world) ran in
    let same = by_name world new connection ordered ids t ps c reply ran plan write name held is lawful spells
    (waits_so ∙ ap (λ (b : Batch). waits.Batch b) (sym made)) in
    ap (λ (b : Batch). asked_each (items_len b.left) connection (world, statement_step plan b)) (sym made) ∙ same
    ∙ sym (ap (λ (x : World × Pairs). heard x plan) whole)

pub answered_alike : AnsweredAlike
answered_alike world new connection info more body command batch c reply asked waits_for =
    at command (asks_same_statements info more body command batch asked waits_for)
  where
    plan : Plan
    plan = plan_for info.ids more body

    at : (ps : Pairs) → AreOfCommand info.ids ps batch → IsDocument ps → command_of ps ≡ Ok c → All IsHeld world.collections
        → run world connection c ≡ Ok (new, reply)
        → asked_each (items_len batch.left) connection (world, statement_step plan batch) ≡ heard (step world connection (Ok ps)) plan
    at no_pairs is lawful spells held ran = let never = is.named in absurd cc
    at (pair name t ps) is lawful spells held ran =
        write_alike world new connection batch.write is.ordered info.ids name t ps c reply plan batch is.named lawful spells held ran is.made waits_for
