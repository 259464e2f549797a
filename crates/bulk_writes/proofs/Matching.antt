-- An upsert that makes no document, where it is done, does what the update does that it is without its field `upsert`, and counts a document.
use Rattle.std.proofs.Common.{◌≡◌, ◌≤◌, ℕ, suc, ◌-◌, ◌^◌, min, Bool, true, false, List, [], ◌∷◌, ◌++◌, Result, Ok, Err}
use Rattle.std.proofs.Common.{refl, sym, ap, subst, ◌∙◌, arith}
use Rattle.std.specs.Prelude.{◌&&◌, ◌||◌, ◌==◌, codes, if◌then◌else◌, nat_lt, not}
use Rattle.std.specs.List.{list_any}
use Rattle.std.proofs.lemmas.Bool.Decides.{nat_tests}
use Rattle.bson.specs.Lookup.{lookup}
use Rattle.bson.specs.Tree.{Pairs}
use Rattle.filter.specs.Matches.{matches}
use Rattle.outcome.specs.Outcome.{◌>>=◌}
use Rattle.path.specs.declared.refusal.Refusal.{Refusal}
use Rattle.path.specs.declared.refusal.Refusal.TheVariants as refusals
use Rattle.update_model.specs.Applying.{apply}
use Rattle.command_model.specs.OutcomeLaws.{passed, step_of}
use Rattle.command_model.specs.Update.{UpdateStatement}
use Rattle.entry_model.specs.State.{Collection}
use Rattle.database_model.specs.Insert.{is_full}
use Rattle.database_model.specs.Refusals.{ok_reply}
use Rattle.database_model.specs.Update.{Changed, changed_to, counted, judged, not_changed, not_updated, passed_over, run_all, run_statement, run_statements}
use Rattle.database_model.specs.Update.{update_from, update_reply, Updated, updated_to, upsert, upsert_document}
use Rattle.database_model.specs.UpdateCommand.{entered_in, run_update, writes_in}
use Rattle.database_model.specs.World.{World, documents_of}
use Rattle.driver_replies.specs.Writes.{is_zero_count}
use Rattle.statements.proofs.MeantUpdates.{one_step}
use Rattle.statements.proofs.WriteSteps.{writes_changes}
use Rattle.bulk_writes.proofs.Documents.{alone_writes}
use Rattle.bulk_writes.proofs.Waiting.{IsWaiting, without_upsert}

-- whether it is an upsert makes no difference to the documents that match
from_alike : (s : UpdateStatement) (c : Changed) (xs : List Pairs) → update_from (without_upsert s) c xs ≡ update_from s c xs
from_alike s c [] = refl
from_alike s c (x ∷ xs) = at (matches s.filter x) (apply s.change 65535 x) s.multi (λ d. from_alike s d xs)
  where
    at : (m : Bool) (r : Result Pairs Refusal) (multi : Bool) → ((d : Changed) → update_from (without_upsert s) d xs ≡ update_from s d xs)
        → one_step (without_upsert s) c x xs m r multi ≡ one_step s c x xs m r multi
    at false r multi go = go (passed_over x c)
    at true (Err e) multi go = refl
    at true (Ok new) true go = go (changed_to x new c)
    at true (Ok new) false go = refl

-- where none matches none is found
none_found : (s : UpdateStatement) (b : Changed) (xs : List Pairs) (d : Changed) → update_from s b xs ≡ Ok d → list_any (matches s.filter) xs ≡ false
    → d.found ≡ b.found
none_found s b [] d e none = let same : b ≡ d = cc in ap (λ (x : Changed). x.found) (sym same)
none_found s b (x ∷ xs) d e none = at (matches s.filter x) (apply s.change 65535 x) s.multi none (λ c f g. none_found s c xs d f g) e
  where
    at : (m : Bool) (r : Result Pairs Refusal) (multi : Bool) → (m || list_any (matches s.filter) xs) ≡ false
        → ((c : Changed) → update_from s c xs ≡ Ok d → list_any (matches s.filter) xs ≡ false → d.found ≡ c.found)
        → one_step s b x xs m r multi ≡ Ok d → d.found ≡ b.found
    at false r multi g go f = go (passed_over x b) f g
    at true r multi g go f = absurd cc

some_counted : (n : ℕ) → 1 ≤ counted n
some_counted n = at (nat_lt n (2 ^ 31 - 1)) refl
  where
    at : (b : Bool) → nat_lt n (2 ^ 31 - 1) ≡ b → 1 ≤ (if b then suc n else n)
    at true e = omega arith
    at false e = grind (arith, nat_tests, e)

-- what is found is counted
found_counted : (s : UpdateStatement) (b : Changed) (xs : List Pairs) (d : Changed) → (b.found ≡ true → 1 ≤ b.matched) → update_from s b xs ≡ Ok d
    → d.found ≡ true → 1 ≤ d.matched
found_counted s b [] d h e = let same : b ≡ d = cc in subst (λ (x : Changed). x.found ≡ true → 1 ≤ x.matched) same h
found_counted s b (x ∷ xs) d h e = at (matches s.filter x) (apply s.change 65535 x) s.multi (λ c k f. found_counted s c xs d k f) e
  where
    at : (m : Bool) (r : Result Pairs Refusal) (multi : Bool)
        → ((c : Changed) → (c.found ≡ true → 1 ≤ c.matched) → update_from s c xs ≡ Ok d → d.found ≡ true → 1 ≤ d.matched)
        → one_step s b x xs m r multi ≡ Ok d → d.found ≡ true → 1 ≤ d.matched
    at false r multi go f = go (passed_over x b) h f
    at true (Err z) multi go f = absurd cc
    at true (Ok new) true go f = go (changed_to x new b) (λ found. some_counted b.matched) f
    at true (Ok new) false go f =
        let last : Changed = changed_to x new b in
        let same : record last { documents = last.documents ++ xs } ≡ d = cc in
        subst (λ (y : Changed). y.found ≡ true → 1 ≤ y.matched) same (λ found. some_counted b.matched)

module _ (name : List ℕ) (s : UpdateStatement) (waits : IsWaiting s) (cs : List Collection) where
  abbrev ds : List Pairs
  ds = documents_of cs name

  abbrev ends : UpdateStatement → Changed → Result Updated Refusal
  ends t c = if not c.found && t.upsert then upsert name 0 t (not_updated cs) else Ok (updated_to name (not_updated cs) c)

  -- What it came to, which the update without `upsert` comes to as well.
  record Found (u : Updated) : Type 0 where
    pub change : Changed
    pub is : update_from s (not_changed (not_updated cs)) ds ≡ Ok change
    pub found : change.found ≡ true
    pub to : updated_to name (not_updated cs) change ≡ u

  has_found : (u : Updated) → run_statement name 0 s (not_updated cs) ≡ Ok u → Found u
  has_found u e =
      let c = step_of (update_from s (not_changed (not_updated cs)) ds) (ends s) u e in
      at c.0 c.1 c.0.found refl
      (sym (ap (λ (b : Bool). if not c.0.found && b then upsert name 0 s (not_updated cs) else Ok (updated_to name (not_updated cs) c.0)) waits.asks) ∙ c.2)
    where
      at : (c : Changed) → update_from s (not_changed (not_updated cs)) ds ≡ Ok c → (b : Bool) → c.found ≡ b
          → (if not c.found && true then upsert name 0 s (not_updated cs) else Ok (updated_to name (not_updated cs) c)) ≡ Ok u → Found u
      at c is true found f =
          let ended : ◌≡◌ {A = Result Updated Refusal} (Ok (updated_to name (not_updated cs) c)) (Ok u) =
          sym (ap (λ (b : Bool). if not b && true then upsert name 0 s (not_updated cs) else Ok (updated_to name (not_updated cs) c)) found) ∙ f in
          record { change = c; is = is; found = found; to = cc }
      at c is false found f =
          let made : upsert name 0 s (not_updated cs) ≡ Ok u =
          sym (ap (λ (b : Bool). if not b && true then upsert name 0 s (not_updated cs) else Ok (updated_to name (not_updated cs) c)) found) ∙ f in
          let p = passed (is_full cs name) refusals.TooMany _ u made in
          let n = step_of (upsert_document s) _ u p.1 in
          absurd (waits.makes_none n.0 n.1)

  module _ (u : Updated) (h : Found u) where
    some : list_any (matches s.filter) ds ≡ true
    some = at (list_any (matches s.filter) ds) refl
      where
        at : (b : Bool) → list_any (matches s.filter) ds ≡ b → b ≡ true
        at true e = refl
        at false e =
            let never : true ≡ false = sym h.found ∙ none_found s (not_changed (not_updated cs)) ds h.change h.is e in absurd cc

    same_writes : writes_in name (without_upsert s ∷ []) cs ≡ writes_in name (s ∷ []) cs
    same_writes =
        alone_writes (without_upsert s) ds ∙ writes_changes (without_upsert s) ds some ∙ sym (writes_changes s ds some) ∙ sym (alone_writes s ds)

    same_run : run_statement name 0 (without_upsert s) (not_updated cs) ≡ Ok u
    same_run =
        ap (λ (r : Result Changed Refusal). r >>= ends (without_upsert s)) (from_alike s (not_changed (not_updated cs)) ds ∙ h.is)
        ∙ ap (λ (b : Bool). if not b && false then upsert name 0 (without_upsert s) (not_updated cs) else Ok (updated_to name (not_updated cs) h.change))
        h.found ∙ ap (λ (x : Updated). Ok x) h.to

    is_counted : 1 ≤ u.matched
    is_counted =
        subst (λ (x : Updated). 1 ≤ x.matched) h.to
        (found_counted s (not_changed (not_updated cs)) ds h.change (λ found. let never : true ≡ false = sym found in absurd cc) h.is h.found)

-- What an upsert that waits does, and what it replies.
pub record Alike (world : World) (name : List ℕ) (s : UpdateStatement) (new : World) (reply : Pairs) : Type 0 where
  pub same : run_update world (record { namespace = name; statements = without_upsert s ∷ [] }) ≡ Ok (new, reply)
  pub counts : is_zero_count (lookup (ok_reply reply) (codes "n")) ≡ false

pub alike : (world : World) (name : List ℕ) (s : UpdateStatement) (new : World) (reply : Pairs) → IsWaiting s
    → run_update world (record { namespace = name; statements = s ∷ [] }) ≡ Ok (new, reply) → Alike world name s new reply
unfolding run_update
alike world name s new reply waits e =
    let cs = world.collections in
    let w = step_of (entered_in name (writes_in name (s ∷ []) cs) cs)
    (λ xs. run_all name (s ∷ []) cs >>= (λ u. Ok (record world { collections = xs }, update_reply u))) (new, reply) e in
    let r = step_of (run_all name (s ∷ []) cs) (λ u. Ok (record world { collections = w.0 }, update_reply u)) (new, reply) w.2 in
    let u = step_of (run_statements name 0 (s ∷ []) (not_updated cs)) judged r.0 r.1 in
    let one = step_of (run_statement name 0 s (not_updated cs)) (run_statements name 1 []) u.0 u.1 in
    let ended : one.0 ≡ u.0 = cc in
    let j = passed _ refusals.BSONObjectTooLarge (Ok u.0) r.0 u.2 in
    let judged_is : u.0 ≡ r.0 = cc in
    let h = has_found name s waits cs one.0 one.1 in
    let pair_is : ◌≡◌ {A = World × Pairs} (record world { collections = w.0 }, update_reply r.0) (new, reply) = cc in
    let all : run_all name (without_upsert s ∷ []) cs ≡ run_all name (s ∷ []) cs =
    ap (λ (x : Result Updated Refusal). (x >>= run_statements name 1 []) >>= judged) (same_run name s waits cs one.0 h ∙ sym one.1) in
    let says : update_reply one.0 ≡ reply = ap update_reply (ended ∙ judged_is) ∙ ap (λ (x : World × Pairs). x.1) pair_is in
    record {
      same = (λ k. entered_in name (same_writes name s waits cs one.0 h k) cs
          >>= (λ xs. all k >>= (λ v. Ok (record world { collections = xs }, update_reply v)))) ∙ e;
      counts = ap (λ (p : Pairs). is_zero_count (lookup (ok_reply p) (codes "n"))) (sym says) ∙ not_zero one.0.matched (is_counted name s waits cs one.0 h);
    }
  where
    not_zero : (n : ℕ) → 1 ≤ n → (min n (2 ^ 31 - 1) == 0) ≡ false
    not_zero n some = grind (arith, nat_tests, some)
