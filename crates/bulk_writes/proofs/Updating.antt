-- The statements of an update, one after the other.
use Rattle.std.proofs.Common.{◌≡◌, ◌≤◌, ℕ, suc, ◌+◌, ◌-◌, ◌^◌, min, Bool, true, false, List, [], ◌∷◌, ◌++◌, length, map, Option, Some, None, Result}
use Rattle.std.proofs.Common.{Ok, refl, sym, ap, subst, ◌∙◌}
use Rattle.std.proofs.Common.{All, arith, sum_by}
use Rattle.std.specs.Prelude.{not, ◌&&◌, codes, nat_lt}
use Rattle.std.proofs.lemmas.Bool.Decides.{nat_tests}
use Rattle.std.proofs.lemmas.List.Elements.{All-head, All-tail}
use Rattle.std.proofs.lemmas.List.Sums.{sum_by-cons}
use Rattle.bson.specs.EditPlaces.{append_items-none}
use Rattle.bson.specs.Tree.{Pairs, pair, Items, no_items, item, append_items}
use Rattle.outcome.specs.Outcome.{◌>>=◌, unless}
use Rattle.path.specs.declared.refusal.Refusal.{Refusal}
use Rattle.path.specs.declared.refusal.Refusal.TheVariants as refusals
use Rattle.command_model.specs.OutcomeLaws.{passed, step_of}
use Rattle.command_model.specs.Update.{IsRead, Update, UpdateStatement}
use Rattle.entry_model.specs.Entering.{DocumentWrite}
use Rattle.entry_model.specs.State.{Collection, find_collection}
use Rattle.entry_model.proofs.MemberLemmas.{of_all}
use Rattle.entry_model.proofs.PlaceLemmas.{found_in}
use Rattle.database_model.specs.Insert.{is_full}
use Rattle.database_model.specs.Lawful.{IsHeld}
use Rattle.database_model.specs.Merging.{Listed, not_listed, put_each, run_each, run_listed}
use Rattle.database_model.specs.Refusals.{int, ok_reply}
use Rattle.database_model.specs.Update.{Changed, counts_reply, judged, not_changed, not_updated, run_all, run_statements, spelled, update_from}
use Rattle.database_model.specs.Update.{update_reply, Updated, upsert_document, upserted_pairs}
use Rattle.database_model.specs.UpdateCommand.{entered_in, run_update, writes_in}
use Rattle.database_model.specs.World.{World, documents_of, documents_or_none}
use Rattle.database_model.specs.Writes.{made_write, statement_writes, unless_refused, writes_from}
use Rattle.statements.specs.WriteLaws.{documents_in}
use Rattle.bulk_writes.specs.InTurn.{run_in_turn, update_one}
use Rattle.bulk_writes.specs.UpdateLaws.{Counts, entries_from, entry_of, told, UpdateInTurn, UpdatesInTurn}
use Rattle.bulk_writes.proofs.Counting.{Alone, alone, clamped}
use Rattle.bulk_writes.proofs.Documents.{alone_writes, AreGood, has_left, MakesDocuments}
use Rattle.bulk_writes.proofs.Entering.{entered_append, entered_documents, is_written}
use Rattle.bulk_writes.proofs.Seeing.{all_seen, Came, its_write, one_came, seen_in}
use Rattle.bulk_writes.proofs.Sizes.{alone_size, made_size, more_size, reply_size}
use Rattle.bulk_writes.proofs.Spelled.{are_spelled, AreSpelled}

-- ---- what is counted

abbrev pub matched_in : List Counts → ℕ
matched_in cs = sum_by (λ c. c.matched) cs

abbrev pub modified_in : List Counts → ℕ
modified_in cs = sum_by (λ c. c.modified) cs

pub items_assoc : (a b c : Items) → append_items (append_items a b) c ≡ append_items a (append_items b c)
items_assoc no_items b c = refl
items_assoc (item t a) b c = ap (item t) (items_assoc a b c)

-- what is told of one
pub told_one : (x : Counts) → told (x ∷ []) ≡ counts_reply x.matched x.modified (entry_of 0 x.made)
told_one x =
    let matched : matched_in (x ∷ []) ≡ x.matched = omega arith in
    let modified : modified_in (x ∷ []) ≡ x.modified = omega arith in
    λ k. counts_reply (matched k) (modified k) (append_items-none (entry_of 0 x.made) k)

-- the numbers of documents go to a reply up to the greatest int32 anyway
clamped_once : (matched modified : ℕ) (made : Items) → counts_reply (clamped matched) (clamped modified) made ≡ counts_reply matched modified made
clamped_once matched modified made =
    let first : min (clamped matched) (2 ^ 31 - 1) ≡ min matched (2 ^ 31 - 1) = omega arith in
    let second : min (clamped modified) (2 ^ 31 - 1) ≡ min modified (2 ^ 31 - 1) = omega arith in
    λ k. pair (codes "n") (int (first k)) (pair (codes "nModified") (int (second k)) (upserted_pairs made))

from_zero : (n : ℕ) → clamped (0 + n) ≡ clamped n
from_zero n = ap clamped (let same : 0 + n ≡ n = omega arith in same)

-- what later statements make makes a reply no shorter
grown : (i : ℕ) (ss : List UpdateStatement) (l final : Listed) (p q : ℕ) → l.matched ≡ clamped p → l.modified ≡ clamped q → run_each i ss l ≡ Ok final
    → made_size l.upserted ≤ made_size final.upserted
grown i [] l final p q matched modified e = let same : l ≡ final = cc in omega (arith, ap (λ (x : Listed). made_size x.upserted) same)
grown i (s ∷ ss) l final p q matched modified e =
    let n = step_of (run_listed i s l) (run_each (suc i) ss) final e in
    let a = alone i s l n.0 p q matched modified n.1 in
    omega (
      arith,
      more_size l.upserted i a.made,
      ap made_size a.upserted,
      grown (suc i) ss n.0 final (p + a.left.matched) (q + a.left.modified) a.matched a.modified n.2,
    )

-- ---- one statement by itself

module _ (connection : ℕ) (name : List ℕ) where
  abbrev with_next : World → List Collection → World
  with_next world next = record world { collections = next }

  abbrev only : UpdateStatement → Update
  only s = record { namespace = name; statements = s ∷ [] }

  abbrev counted_by : {i : ℕ} {s : UpdateStatement} {l m : Listed} {p q : ℕ} → Alone i s l m p q → Counts
  counted_by a = record { matched = a.left.matched; modified = a.left.modified; made = a.made }

  module _ (world : World) (s : UpdateStatement) (ds : List Pairs) (left : Listed) (x : Counts) (next : List Collection) (make : MakesDocuments s)
      (there : documents_of world.collections name ≡ ds) (is : run_listed 0 s (not_listed ds) ≡ Ok left) (matched : left.matched ≡ x.matched)
      (modified : left.modified ≡ x.modified) (upserted : left.upserted ≡ entry_of 0 x.made)
      (written : entered_in name (statement_writes s ds) world.collections ≡ Ok next) (fits : made_size (entry_of 0 x.made) + 35 ≤ 1048555) where
    abbrev cs : List Collection
    cs = world.collections

    writes_so : writes_in name (s ∷ []) cs ≡ statement_writes s ds
    writes_so = alone_writes s (documents_of cs name) ∙ ap (statement_writes s) there

    room : (new : Pairs) → upsert_document s ≡ Ok new → (c : Changed) → update_from s (not_changed (not_updated cs)) (documents_of cs name) ≡ Ok c
        → (not c.found && s.upsert) ≡ true → is_full cs name ≡ false
    room new makes c from asked =
        let one : statement_writes s ds ≡ made_write new ∷ [] =
        ap (statement_writes s) (sym there) ∙ its_write s (not_changed (not_updated cs)) (documents_of cs name) c new from asked makes in
        (is_written name (made_write new ∷ []) cs next (ap (λ (ws : List DocumentWrite). entered_in name ws cs) (sym one) ∙ written)).room

    came : Came name 0 s (not_updated cs) left
    came = one_came name 0 s (not_updated cs) left room (ap (λ (es : List Pairs). run_listed 0 s (not_listed es)) there ∙ is)

    replies : update_reply came.to ≡ told (x ∷ [])
    replies =
        let seen = came.seen in
        (λ k. counts_reply ((ap (λ (l : Listed). l.matched) seen ∙ matched) k) ((ap (λ (l : Listed). l.modified) seen ∙ modified) k)
        ((ap (λ (l : Listed). l.upserted) seen ∙ upserted) k)) ∙ sym (told_one x)

    short : nat_lt 1048555 (length (spelled (ok_reply (update_reply came.to)))) ≡ false
    short =
        let size : length (spelled (ok_reply (update_reply came.to))) ≡ made_size (entry_of 0 x.made) + 35 =
        reply_size came.to.matched came.to.modified came.to.upserted
        ∙ ap (λ (ts : Items). made_size ts + 35) (ap (λ (l : Listed). l.upserted) came.seen ∙ upserted) in
        grind (arith, nat_tests, size, fits)

    all : run_all name (s ∷ []) cs ≡ Ok came.to
    all = ap (λ (r : Result Updated Refusal). (r >>= run_statements name 1 []) >>= judged) came.is
        ∙ ap (λ (b : Bool). unless b refusals.BSONObjectTooLarge (let r : Result Updated Refusal = Ok came.to in r)) short

    abbrev replying : List Collection → Result Updated Refusal → Result (World × Pairs) Refusal
    replying xs r = r >>= (λ u. Ok (with_next world xs, update_reply u))

    pub one_goes : run_update world (only s) ≡ Ok (with_next world next, told (x ∷ []))
    unfolding run_update
    one_goes =
        ap (λ (ws : List DocumentWrite). entered_in name ws cs >>= (λ xs. replying xs (run_all name (s ∷ []) cs))) writes_so
        ∙ ap (λ (r : Result (List Collection) Refusal). r >>= (λ xs. replying xs (run_all name (s ∷ []) cs))) written
        ∙ ap (replying next) all ∙ ap (λ (reply : Pairs). Ok (with_next world next, reply)) replies

  -- ---- all of them

  record Go (i : ℕ) (ss : List UpdateStatement) (world : World) (l final : Listed) (next : List Collection) (p q : ℕ) : Type 0 where
    pub counts : List Counts
    pub same : run_in_turn world connection (map (update_one name) ss) ≡ Ok (with_next world next, map (λ x. told (x ∷ [])) counts)
    pub matched : final.matched ≡ clamped (p + matched_in counts)
    pub modified : final.modified ≡ clamped (q + modified_in counts)
    pub upserted : final.upserted ≡ append_items l.upserted (entries_from i counts)

  abbrev goes_on : List UpdateStatement → Result (World × Pairs) Refusal → Result (World × List Pairs) Refusal
  goes_on ss r = r >>= (λ first. run_in_turn first.0 connection (map (update_one name) ss) >>= (λ later. Ok (later.0, first.1 ∷ later.1)))

  go : (i : ℕ) (ss : List UpdateStatement) (world : World) (l final : Listed) (next : List Collection) (p q : ℕ)
      → All (λ (s : UpdateStatement). IsRead s.change) ss → All MakesDocuments ss → documents_of world.collections name ≡ l.documents → AreGood l.documents
      → l.matched ≡ clamped p → l.modified ≡ clamped q → run_each i ss l ≡ Ok final
      → entered_in name (writes_from i ss l) world.collections ≡ Ok next → made_size final.upserted + 35 ≤ 1048555
      → Go i ss world l final next p q
  go i [] world l final next p q read make there good matched modified e written fits =
      let same : l ≡ final = cc in
      let stays : world.collections ≡ next = cc in
      subst (λ (x : Listed). Go i [] world l x next p q) same (record {
        counts = [];
        same = ap (λ (xs : List Collection). Ok (with_next world xs, [])) stays;
        matched = matched ∙ ap clamped (let n : p ≡ p + matched_in [] = omega arith in n);
        modified = modified ∙ ap clamped (let n : q ≡ q + modified_in [] = omega arith in n);
        upserted = sym (append_items-none l.upserted);
      })
  go i (s ∷ ss) world l final next p q read make there good matched modified e written fits =
      let n = step_of (run_listed i s l) (run_each (suc i) ss) final e in
      let m = n.0 in
      let read_it = All-head (λ (z : UpdateStatement). IsRead z.change) s ss read in
      let make_it = All-head MakesDocuments s ss make in
      let a = alone i s l m p q matched modified n.1 in
      let x : Counts = record { matched = a.left.matched; modified = a.left.modified; made = a.made } in
      let h = has_left i s l m a.left read_it make_it good n.1 a.is a.documents in
      let here = statement_writes s l.documents in
      let others = writes_from (suc i) ss m in
      let both : entered_in name (here ++ others) world.collections ≡ Ok next =
      ap (λ (r : Result Listed Refusal). entered_in name (here ++ unless_refused (writes_from (suc i) ss) r) world.collections) (sym n.1) ∙ written in
      let w = step_of (entered_in name here world.collections) (λ xs. entered_in name others xs) next
      (sym (entered_append name here others world.collections) ∙ both) in
      let now : documents_of w.0 name ≡ m.documents =
      entered_documents name here world.collections w.0 w.1 ∙ ap (put_each (documents_in here)) there ∙ h.put in
      let rest = grown (suc i) ss m final (p + a.left.matched) (q + a.left.modified) a.matched a.modified n.2 in
      let room : made_size (entry_of 0 a.made) + 35 ≤ 1048555 =
      omega (arith, fits, rest, alone_size l.upserted i a.made, ap made_size a.upserted) in
      let first = one_goes world s l.documents a.left x w.0 make_it there a.is refl refl a.its w.1 room in
      let later = go (suc i) ss (with_next world w.0) m final next (p + a.left.matched) (q + a.left.modified)
      (All-tail (λ (z : UpdateStatement). IsRead z.change) s ss read) (All-tail MakesDocuments s ss make) now h.good a.matched a.modified n.2 w.2 fits in
      record {
        counts = x ∷ later.counts;
        same = ap (goes_on ss) first
            ∙ ap (λ (r : Result (World × List Pairs) Refusal). r >>= (λ y. Ok (y.0, told (x ∷ []) ∷ y.1))) later.same;
        matched = later.matched
            ∙ ap clamped (let sums : p + a.left.matched + matched_in later.counts ≡ p + matched_in (x ∷ later.counts) =
            omega (arith, sum_by-cons (λ (y : Counts). y.matched) x later.counts) in sums);
        modified = later.modified
            ∙ ap clamped (let sums : q + a.left.modified + modified_in later.counts ≡ q + modified_in (x ∷ later.counts) =
            omega (arith, sum_by-cons (λ (y : Counts). y.modified) x later.counts) in sums);
        upserted = later.upserted ∙ ap (λ (ts : Items). append_items ts (entries_from (suc i) later.counts)) a.upserted
            ∙ items_assoc l.upserted (entry_of i a.made) (entries_from (suc i) later.counts);
      }

-- ---- the law

-- the documents of a collection are good, those of one that is or of a missing one
pub good_in : (cs : List Collection) (name : List ℕ) → All IsHeld cs → AreGood (documents_of cs name)
good_in cs name held = at (find_collection cs name) refl
  where
    at : (o : Option Collection) → find_collection cs name ≡ o → AreGood (documents_or_none o)
    at None missing = record {
      kept = (λ i j d less below. absurd (omega (arith, below)), λ k d below. absurd (omega (arith, below)));
      documents = λ k d below. absurd (omega (arith, below));
    }
    at (Some c) found =
        let h = of_all IsHeld cs c held (found_in cs name c found) in
        record { kept = (h.lawful.rising, h.lawful.stored); documents = h.readable.documents }

done_in_turn : (world : World) (connection : ℕ) (c : Update) (new : World) (reply : Pairs) → AreSpelled c.statements
    → AreGood (documents_of world.collections c.namespace) → run_update world c ≡ Ok (new, reply) → UpdatesInTurn world connection c new reply
unfolding run_update
done_in_turn world connection c new reply such good e =
    let name = c.namespace in
    let cs = world.collections in
    let ds = documents_of cs name in
    let writes = writes_in name c.statements cs in
    let w = step_of (entered_in name writes cs)
    (λ xs. run_all name c.statements cs >>= (λ u. Ok (record world { collections = xs }, update_reply u))) (new, reply) e in
    let r = step_of (run_all name c.statements cs) (λ u. Ok (record world { collections = w.0 }, update_reply u)) (new, reply) w.2 in
    let u = step_of (run_statements name 0 c.statements (not_updated cs)) judged r.0 r.1 in
    let j = passed (nat_lt 1048555 (length (spelled (ok_reply (update_reply u.0))))) refusals.BSONObjectTooLarge (Ok u.0) r.0 u.2 in
    let ended : u.0 ≡ r.0 = cc in
    let final = seen_in name u.0 in
    let run : run_each 0 c.statements (not_listed ds) ≡ Ok final = all_seen name 0 c.statements (not_updated cs) u.0 u.1 in
    let size : length (spelled (ok_reply (update_reply u.0))) ≡ made_size u.0.upserted + 35 = reply_size u.0.matched u.0.modified u.0.upserted in
    let fits : made_size final.upserted + 35 ≤ 1048555 = grind (arith, nat_tests, size, j.0) in
    let none : 0 ≡ clamped 0 = omega arith in
    let g = go connection name 0 c.statements world (not_listed ds) final w.0 0 0 such.read such.make refl good none none run w.1
    fits in
    let pair-is : (record world { collections = w.0 }, update_reply r.0) ≡ (new, reply) = cc in
    record {
      counts = g.counts;
      same = g.same ∙ ap (λ (z : World). Ok (z, map (λ x. told (x ∷ [])) g.counts)) (ap (λ (z : World × Pairs). z.0) pair-is);
      counted = sym (ap (λ (z : World × Pairs). z.1) pair-is) ∙ ap update_reply (sym ended)
          ∙ (λ k. counts_reply ((g.matched ∙ from_zero (matched_in g.counts)) k) ((g.modified ∙ from_zero (modified_in g.counts)) k) (g.upserted k))
          ∙ clamped_once (matched_in g.counts) (modified_in g.counts) (entries_from 0 g.counts);
    }

pub update_in_turn : UpdateInTurn
update_in_turn world new connection body c reply is spells held e =
    done_in_turn world connection c new reply (are_spelled body c is spells) (good_in world.collections c.namespace held) e
