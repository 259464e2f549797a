-- Updating document after document in memory, and statement after statement.
use Rattle.std.proofs.Common.{◌≡◌, ◌≢◌, ℕ, zero, suc, ◌+◌, ◌<◌, ◌≤◌, Bool, true, false, List, [], ◌∷◌, ◌++◌, length, map, take, drop, get_or, set, Option, Some}
use Rattle.std.proofs.Common.{Result, Ok, Err, refl, sym, ap, subst, ◌∙◌, arith, append_assoc}
use Rattle.std.specs.Prelude.{◌^◌, ◌-◌, nat_lt, not, ◌&&◌, ◌||◌, if◌then◌else◌, All}
use Rattle.std.specs.List.{list_any}
use Rattle.std.specs.declared.cmp.Ordering.{Ordering}
use Rattle.std.specs.declared.cmp.Ordering.TheVariants as orders
use Rattle.std.proofs.lemmas.Cmp.{tied_itself}
use Rattle.std.proofs.lemmas.List.{set-get_or, length-set, take_more, take_more_set, take-append-drop, get_or_default, drop_all, take_all, drop-set-lt}
use Rattle.std.proofs.lemmas.List.{append-nil}
use Rattle.std.proofs.lemmas.List.Elements.{All-append, All-cons, All-set}
use Rattle.std.proofs.lemmas.Slice.Eq.{bytes_eq-Decides}
use Rattle.bson.specs.Lawful.{IsDocument}
use Rattle.bson.specs.Tree.{document, Pairs, no_pairs, Items, no_items, item, append_items}
use Rattle.filter.specs.Matches.{matches}
use Rattle.outcome.specs.Outcome.{◌>>=◌, Fails}
use Rattle.path.specs.declared.refusal.Refusal.{Refusal}
use Rattle.path.specs.declared.refusal.Refusal.TheVariants as refusals
use Rattle.value_order.specs.Order.{compare}
use Rattle.value_order.specs.TotalLaws.{compare_total}
use Rattle.update_model.specs.Update.{Update as Change}
use Rattle.update_model.specs.Applying.{apply}
use Rattle.command_model.specs.Update.{UpdateStatement, IsRead}
use Rattle.entry_model.specs.Documents.{put_document}
use Rattle.entry_model.specs.LawfulState.{IsRising, IsStorable}
use Rattle.entry_model.specs.State.{by_order}
use Rattle.entry_model.specs.Entering.{DocumentWrite}
use Rattle.database_model.specs.Documents.{key_of}
use Rattle.database_model.specs.Lawful.{IsStored, IsWithin}
use Rattle.database_model.specs.Merging.{Listed, none_changed, listed_to, one_or_none, put_each, run_listed, upsert_listed}
use Rattle.database_model.specs.Update.{counted, spelled, Changed, passed_over, changed_to, update_from, upsert_document}
use Rattle.statements.specs.Updating.{AreWritten, changed_of, ChangesAt, document_at, HasInserted, HasNone, HasRun, HasStopped, HasWritten, HaveOld, IsChange}
use Rattle.statements.specs.Updating.{IsMadeIn, IsUpdateRefused, IsRunOf, listed_of, MayBePut, news_of, replaced_in, RunsOn, seen, write_of_new, written, Wrote}
use Rattle.database_model.specs.Writes.{change_writes, changes_of, made_write, statement_writes, updated_by}
use Rattle.statements.specs.declared.statements.Run.{Run}
use Rattle.statements.specs.declared.statements.Write.{Write}
use Rattle.statements.proofs.Applied.{applied, change_kept, change_puttable, rising_set, stored_puttable}
use Rattle.statements.proofs.EditPlaceLemmas.{storable}
use Rattle.statements.proofs.KeptLemmas.{kept_place}
use Rattle.database_model.proofs.Ordered.{flipped}
use Rattle.replies.proofs.Steps.{drop_step}
use Rattle.statements.proofs.EditPlaceLemmas.{put_where_placed}
use Rattle.statements.proofs.WriteSteps.{changes_on, changes_only, changes_refused, found_at, news_more, none_written, old_more, one_written, or_false, or_true}
use Rattle.statements.proofs.WriteSteps.{rising_rest, seen_more, updated_none, updated_other, updated_unmatched, writes_changes, writes_none, writes_upsert}

-- ---- runs that go on

pub RunsOn-refl : (r : Run) → All IsWithin r.documents.items → RunsOn r r
RunsOn-refl r within = record { within = within; puttable = λ h. h; quiet = λ h. (h, refl); kept = refl; keeps = λ from h. h }

pub RunsOn-trans : (a b c : Run) → RunsOn a b → RunsOn b c → RunsOn a c
RunsOn-trans a b c first later = record {
  within = later.within;
  puttable = λ h. later.puttable (first.puttable h);
  quiet = λ h. let q = later.quiet h in let r = first.quiet q.0 in (r.0, q.1 ∙ r.1);
  kept = later.kept ∙ first.kept;
  keeps = λ from h. later.keeps from (first.keeps from h);
}

-- a run that went on, and was refused then
stopped_behind : (ws : List DocumentWrite) (a b c : Run) → RunsOn a b → (sofar : written b ≡ written a) → HasStopped ws b c → HasStopped ws a c
stopped_behind ws a b c first same later = record {
  wrote = later.wrote ∙ ap (λ (xs : List DocumentWrite). xs ++ ws) same;
  puttable = λ h. later.puttable (first.puttable h);
  keeps = λ from h. subst (λ (k : Bool). AreWritten k from c.writes.items) first.kept (later.keeps from (first.keeps from h));
}

-- a run that went on and is refused where it is
pub stops : (ws : List DocumentWrite) (a b : Run) → RunsOn a b → written b ≡ written a ++ ws → HasStopped ws a b
stops ws a b extends wrote = record {
  wrote = wrote;
  puttable = extends.puttable;
  keeps = λ from h. subst (λ (k : Bool). AreWritten k from b.writes.items) extends.kept (extends.keeps from h).written;
}

-- ---- documents that are put

All-more : (P : Pairs → Type 0) (xs : List Pairs) (x : Pairs) → All P xs → P x → All P (xs ++ x ∷ [])
All-more P xs x h here = All-append P xs (x ∷ []) h (All-cons P x [] here (λ k d below. absurd (omega (arith, below))))

put_each_more : (news : List Pairs) (x : Pairs) (ds : List Pairs) → put_each (news ++ x ∷ []) ds ≡ put_document x (put_each news ds)
put_each_more [] x ds = refl
put_each_more (new ∷ rest) x ds = put_each_more rest x (put_document new ds)

-- it goes in the place of the one of its key
pub put_in_place : (ds : List Pairs) (i : ℕ) (new : Pairs) → i < length ds → key_of new ≡ key_of (get_or ds i no_pairs) → IsRising ds
    → put_document new ds ≡ set ds i new
put_in_place [] i new below same up = absurd (omega (arith, below))
put_in_place (d ∷ ds) zero new below same up =
    let tied : compare (key_of new) (key_of d) ≡ orders.Equal = ap (λ t. compare t (key_of d)) same ∙ tied_itself compare_total (key_of d) in
    ap (λ (r : Ordering). by_order r (new ∷ d ∷ ds) (new ∷ ds) (d ∷ put_document new ds)) tied
put_in_place (d ∷ ds) (suc i) new below same up =
    let less : compare (key_of d) (key_of (get_or ds i no_pairs)) ≡ orders.Less = up 0 (suc i) no_pairs (omega arith) (omega (arith, below)) in
    let more : compare (key_of new) (key_of d) ≡ orders.Greater =
    ap (λ t. compare t (key_of d)) same ∙ flipped compare_total (key_of d) (key_of (get_or ds i no_pairs)) orders.Less less in
    ap (λ (r : Ordering). by_order r (new ∷ d ∷ ds) (new ∷ ds) (d ∷ put_document new ds)) more
    ∙ ap (λ (xs : List Pairs). d ∷ xs) (put_in_place ds i new (omega (arith, below)) same (rising_rest d ds up))

-- ---- one document

some_modified : (n : ℕ) → counted n ≡ 0 → ⊥
some_modified n e = by (nat_lt n (2 ^ 31 - 1)) refl e
  where
    by : (b : Bool) → nat_lt n (2 ^ 31 - 1) ≡ b → (if b then suc n else n) ≡ 0 → ⊥
    by true is f = absurd (omega (arith, f))
    by false is f = absurd (let no = sym (ap (λ (k : ℕ). nat_lt k (2 ^ 31 - 1)) f) ∙ is in cc)

module _ (u : Change) (at : ℕ) (old new : Run) (matched : new.tally.matched ≡ counted old.tally.matched) (upserted : new.tally.upserted ≡ old.tally.upserted)
    (kept : new.keeps_old ≡ old.keeps_old) (within : All IsWithin old.documents.items) where
  abbrev d : Pairs
  d = document_at at old

  pub changes_none : new.documents.items ≡ old.documents.items → new.writes.items ≡ old.writes.items → new.tally.modified ≡ old.tally.modified
      → apply u 65535 d ≡ Ok d → ChangesAt u at old new
  changes_none same none modified is = record {
    made = d;
    is = is;
    puts = same ∙ sym (set-get_or old.documents.items at no_pairs);
    matched = matched;
    modified = modified
        ∙ ap (λ (b : Bool). if b then old.tally.modified else counted old.tally.modified) (sym ((bytes_eq-Decides (spelled d) (spelled d)).1 refl));
    upserted = upserted;
    wrote = ap (map seen) none ∙ sym (append-nil (written old)) ∙ ap (λ (ws : List DocumentWrite). written old ++ ws) (sym (none_written d));
    extends = record {
      within = subst (All IsWithin) (sym same) within;
      puttable = λ h. subst (λ (ws : List Write). All MayBePut (news_of ws)) (sym none) h;
      quiet = λ h. ((sym modified ∙ h.0, sym upserted ∙ h.1), none);
      kept = kept;
      keeps = λ from h. record {
        puts = ap (λ (ws : List Write). put_each (news_of ws) from) none ∙ h.puts ∙ sym same;
        rising = subst IsRising (sym same) h.rising;
        stored = subst (All IsStored) (sym same) h.stored;
        written = subst (λ (k : Bool). AreWritten k from new.writes.items) (sym kept) (subst (AreWritten old.keeps_old from) (sym none) h.written);
      };
    };
  }

  module _ (there : at < length old.documents.items) (read : IsRead u) (made : Pairs) (change : IsChange u d made)
      (puts : new.documents.items ≡ set old.documents.items at made)
      (before : Option Pairs) (has_old : old.keeps_old ≡ true → before ≡ Some d)
      (more : new.writes.items ≡ old.writes.items ++ record { is_new = false; old = before; new = made } ∷ [])
      (modified : new.tally.modified ≡ counted old.tally.modified) where
    abbrev w : Write
    w = record { is_new = false; old = before; new = made }

    all_news : news_of new.writes.items ≡ news_of old.writes.items ++ made ∷ []
    all_news = ap news_of more ∙ news_more old.writes.items w

    is_within : IsWithin made
    is_within = let a = applied u d made change.is in record { size = a.size; depth = a.depth }

    keeps : (from : List Pairs) → IsRunOf from old → IsRunOf from new
    keeps from h =
        let here : IsStored d = h.stored at no_pairs there in
        let good = change_kept u d made read here change in
        let placed : put_document made old.documents.items ≡ set old.documents.items at made = put_in_place old.documents.items at made there good.1 h.rising in
        let found : replaced_in (put_each (news_of old.writes.items) from) w ≡ Some d =
        ap (λ (ds : List Pairs). replaced_in ds w) h.puts ∙ found_at old.documents.items at made there good.1 h.rising in
        record {
          puts = ap (λ (xs : List Pairs). put_each xs from) all_news ∙ put_each_more (news_of old.writes.items) made from ∙ ap (put_document made) h.puts
              ∙ placed ∙ sym puts;
          rising = subst IsRising (sym puts) (rising_set old.documents.items at made there good.1 h.rising);
          stored = subst (All IsStored) (sym puts) (All-set IsStored old.documents.items at made good.0 h.stored);
          written = record {
            old = λ k.
                let keeps = sym kept ∙ k in
                subst (HaveOld from) (sym more) (old_more from old.writes.items w (h.written.old keeps) (has_old keeps ∙ sym found));
            storable = subst (All IsStorable) (sym all_news)
                (All-more IsStorable (news_of old.writes.items) made h.written.storable (storable made good.0 change.readable));
          };
        }

    pub changes_some : ChangesAt u at old new
    changes_some = record {
      made = made;
      is = change.is;
      puts = puts;
      matched = matched;
      modified = modified ∙ ap (λ (b : Bool). if b then old.tally.modified else counted old.tally.modified) (sym change.differs);
      upserted = upserted;
      wrote = ap (map seen) more ∙ seen_more old.writes.items w ∙ ap (λ (ws : List DocumentWrite). written old ++ ws) (sym (one_written d made change.differs));
      extends = record {
        within = subst (All IsWithin) (sym puts) (All-set IsWithin old.documents.items at made is_within within);
        puttable = λ h. subst (All MayBePut) (sym all_news) (All-more MayBePut (news_of old.writes.items) made h (change_puttable u d made change));
        quiet = λ h. absurd (some_modified old.tally.modified (sym modified ∙ h.0));
        kept = kept;
        keeps = keeps;
      };
    }

-- ---- document after document

-- what the loop has done, up to this place
pub record Looking (s : UpdateStatement) (start now : Run) (found : Bool) (at : ℕ) : Type 0 where
  pub extends : RunsOn start now
  pub count : length now.documents.items ≡ length start.documents.items
  pub same : update_from s (record (changed_of found now) { documents = take at now.documents.items }) (drop at now.documents.items)
      ≡ update_from s (none_changed (listed_of start)) start.documents.items
  pub none : found ≡ false → listed_of now ≡ listed_of start
  pub upserted : now.tally.upserted ≡ start.tally.upserted
  pub any : (found || list_any (matches s.filter) (drop at now.documents.items)) ≡ list_any (matches s.filter) start.documents.items
  pub wrote : written now ++ changes_of s.change (updated_by s (drop at now.documents.items)) ≡ written start
      ++ changes_of s.change (updated_by s start.documents.items)

pub begins : (s : UpdateStatement) (start : Run) → All IsWithin start.documents.items → Looking s start start false 0
begins s start within = record { extends = RunsOn-refl start within; count = refl; same = refl; none = λ e. refl; upserted = refl; any = refl; wrote = refl }

module _ (s : UpdateStatement) (start now : Run) (found : Bool) (i : ℕ) (far : Looking s start now found i) (below : i < length now.documents.items) where
  abbrev here : List Pairs
  here = now.documents.items

  abbrev at_hand : Pairs
  at_hand = document_at i now

  abbrev changed_with : List Pairs → Bool → Run → Changed
  changed_with ds f r = record (changed_of f r) { documents = ds }

  abbrev so_far : Changed
  so_far = changed_with (take i here) found now

  left : drop i here ≡ at_hand ∷ drop (i + 1) here
  left = drop_step here i at_hand below (sym (get_or_default here i at_hand no_pairs below))

  abbrev rest : List Pairs
  rest = drop (i + 1) here

  -- what becomes of the document at hand, and then of the others
  abbrev one_step : Bool → Result Pairs Refusal → Bool → Result Changed Refusal
  one_step m r multi =
      if not m then update_from s (passed_over at_hand so_far) rest else
      (r >>= (λ new. if multi then update_from s (changed_to at_hand new so_far) rest else
      (let last = changed_to at_hand new so_far in Ok (record last { documents = last.documents ++ rest }))))

  looked : one_step (matches s.filter at_hand) (apply s.change 65535 at_hand) s.multi ≡ update_from s (none_changed (listed_of start)) start.documents.items
  looked = ap (update_from s so_far) (sym left) ∙ far.same

  -- what is left to be written
  left_writes : written now ++ changes_of s.change (updated_by s (at_hand ∷ rest)) ≡ written start ++ changes_of s.change (updated_by s start.documents.items)
  left_writes = ap (λ (ds : List Pairs). written now ++ changes_of s.change (updated_by s ds)) (sym left) ∙ far.wrote

  any_left : (found || list_any (matches s.filter) (at_hand ∷ rest)) ≡ list_any (matches s.filter) start.documents.items
  any_left = ap (λ (ds : List Pairs). found || list_any (matches s.filter) ds) (sym left) ∙ far.any

  -- one is met
  some_match : matches s.filter at_hand ≡ true → list_any (matches s.filter) start.documents.items ≡ true
  some_match match = sym any_left ∙ ap (λ (b : Bool). found || (b || list_any (matches s.filter) rest)) match ∙ or_true found

  -- it doesn't match
  pub goes_by : matches s.filter at_hand ≡ false → Looking s start now found (i + 1)
  goes_by other = record {
    extends = far.extends;
    count = far.count;
    same = ap (λ (ds : List Pairs). update_from s (changed_with ds found now) rest) (take_more here i no_pairs below)
        ∙ sym (ap (λ (b : Bool). one_step b (apply s.change 65535 at_hand) s.multi) other) ∙ looked;
    none = far.none;
    upserted = far.upserted;
    any = ap (λ (b : Bool). found || (b || list_any (matches s.filter) rest)) (sym other) ∙ any_left;
    wrote = ap (λ (ds : List Pairs). written now ++ changes_of s.change ds) (sym (updated_other s at_hand rest other)) ∙ left_writes;
  }

  -- it matches, and is refused
  pub refused_one : (e : Refusal) (next : Run) → matches s.filter at_hand ≡ true → Fails refusals.OutOfMemory e (apply s.change 65535 at_hand)
      → (e ≢ refusals.OutOfMemory → next ≡ now)
      → IsUpdateRefused s e start next
  refused_one e next match is same = record {
    planned = λ other. sym looked ∙ (λ k. one_step (match k) (is other k) s.multi);
    writes = λ other.
        let wrote : written now ≡ written start ++ statement_writes s start.documents.items =
        sym (append-nil (written now)) ∙ ap (λ (ws : List DocumentWrite). written now ++ ws) (sym (changes_refused s at_hand rest match e (is other)))
        ∙ left_writes
        ∙ ap (λ (ws : List DocumentWrite). written start ++ ws) (sym (writes_changes s start.documents.items (some_match match))) in
        subst (HasStopped (statement_writes s start.documents.items) start) (sym (same other))
        (stops (statement_writes s start.documents.items) start now far.extends wrote);
  }

  -- it matches, and is changed
  module _ (next : Run) (match : matches s.filter at_hand ≡ true) (up : ChangesAt s.change i now next) where
    documents_now : next.documents.items ≡ set here i up.made
    documents_now = up.puts

    rest_now : drop (i + 1) (set here i up.made) ≡ rest
    rest_now = drop-set-lt (i + 1) here i up.made (omega arith)

    -- the documents up to it
    front_now : take i here ++ up.made ∷ [] ≡ take (i + 1) (set here i up.made)
    front_now = sym (take_more_set here i up.made below)

    left_now : drop (i + 1) next.documents.items ≡ rest
    left_now = ap (drop (i + 1)) documents_now ∙ rest_now

    to_changed : changed_to at_hand up.made so_far ≡ changed_with (take (i + 1) (set here i up.made)) true next
    to_changed = λ k. record { documents = front_now k; found = true; matched = sym up.matched k; modified = sym up.modified k }

    pub goes_on : s.multi ≡ true → Looking s start next true (i + 1)
    goes_on multi = record {
      extends = RunsOn-trans start now next far.extends up.extends;
      count = ap length documents_now ∙ length-set here i up.made ∙ far.count;
      same = ap (λ (ds : List Pairs). update_from s (changed_with (take (i + 1) ds) true next) (drop (i + 1) ds)) documents_now
          ∙ (λ k. update_from s (sym to_changed k) (rest_now k))
          ∙ sym (λ k. one_step (match k) (up.is k) (multi k)) ∙ looked;
      none = λ e. absurd cc;
      upserted = up.upserted ∙ far.upserted;
      any = sym (some_match match);
      wrote = (λ k. up.wrote k ++ changes_of s.change (updated_by s (left_now k)))
          ∙ append_assoc (written now) (change_writes at_hand up.made) (changes_of s.change (updated_by s rest))
          ∙ ap (λ (ws : List DocumentWrite). written now ++ ws) (sym (changes_on s at_hand rest match up.made up.is multi)) ∙ left_writes;
    }

    pub only_first : s.multi ≡ false → HasRun s start next true
    only_first single = record {
      planned = sym looked ∙ (λ k. one_step (match k) (up.is k) (single k))
          ∙ (λ k. let last = to_changed k in Ok (record last { documents = last.documents ++ sym rest_now k }))
          ∙ ap (λ (ds : List Pairs). Ok (changed_with ds true next)) (take-append-drop (i + 1) (set here i up.made) ∙ sym documents_now);
      none = λ e. absurd cc;
      upserted = up.upserted ∙ far.upserted;
      any = some_match match;
      wrote = up.wrote ∙ ap (λ (ws : List DocumentWrite). written now ++ ws) (sym (changes_only s at_hand rest match up.made up.is single)) ∙ left_writes;
      extends = RunsOn-trans start now next far.extends up.extends;
    }

-- no document is left
pub looked_at_all : (s : UpdateStatement) (start now : Run) (found : Bool) (i : ℕ) → Looking s start now found i → length now.documents.items ≤ i
    → HasRun s start now found
looked_at_all s start now found i far whole = record {
  planned = sym far.same
      ∙ (λ k. update_from s (record (changed_of found now) { documents = take_all i now.documents.items whole k }) (drop_all i now.documents.items whole k));
  none = far.none;
  upserted = far.upserted;
  any = sym far.any ∙ ap (λ (ds : List Pairs). found || list_any (matches s.filter) ds) (drop_all i now.documents.items whole) ∙ or_false found;
  wrote = sym (append-nil (written now)) ∙ ap (λ (ds : List Pairs). written now ++ changes_of s.change ds) (sym (updated_none s))
      ∙ ap (λ (ds : List Pairs). written now ++ changes_of s.change (updated_by s ds)) (sym (drop_all i now.documents.items whole)) ∙ far.wrote;
  extends = far.extends;
}

-- ---- a document that is made

module _ (d : Pairs) (old new : Run) (stored : IsStored d) (readable : IsDocument d) (made : IsMadeIn d old new) where
  made_news : news_of new.writes.items ≡ news_of old.writes.items ++ d ∷ []
  made_news = ap news_of made ∙ news_more old.writes.items (write_of_new d)

  made_puttable : All MayBePut (news_of old.writes.items) → All MayBePut (news_of new.writes.items)
  made_puttable h = subst (All MayBePut) (sym made_news) (All-more MayBePut (news_of old.writes.items) d h (stored_puttable d stored readable))

  made_written : (from : List Pairs) → AreWritten old.keeps_old from old.writes.items → AreWritten old.keeps_old from new.writes.items
  made_written from h = record {
    old = λ k. subst (HaveOld from) (sym made) (old_more from old.writes.items (write_of_new d) (h.old k) refl);
    storable = subst (All IsStorable) (sym made_news) (All-more IsStorable (news_of old.writes.items) d h.storable (storable d stored readable));
  }

  pub wrote_made : written new ≡ written old ++ made_write d ∷ []
  wrote_made = ap (map seen) made ∙ seen_more old.writes.items (write_of_new d)

  -- another has its `_id`
  pub made_stops : HasStopped (made_write d ∷ []) old new
  made_stops = record { wrote = wrote_made; puttable = made_puttable; keeps = λ from h. made_written from h.written }

pub some_upserted : (ts us : Items) (i : Pairs) → us ≡ append_items ts (item (document i) no_items) → us ≡ no_items → ⊥
some_upserted no_items us i made none = absurd (let no = sym made ∙ none in cc)
some_upserted (item t ts) us i made none = absurd (let no = sym made ∙ none in cc)

-- the run after it, whatever it counts
pub inserts_on : (d : Pairs) (old mid new : Run) → IsStored d → IsDocument d → HasInserted d old mid → new.documents.items ≡ mid.documents.items
    → new.writes.items ≡ mid.writes.items
    → new.keeps_old ≡ mid.keeps_old → (HasNone new.tally → ⊥) → RunsOn old new
inserts_on d old mid new stored readable put same none keeps some =
    let made : IsMadeIn d old new = none ∙ put.writes in
    let kept_so : new.keeps_old ≡ old.keeps_old = keeps ∙ put.kept in
    record {
      within = subst (All IsWithin) (sym same) put.within;
      puttable = made_puttable d old new stored readable made;
      quiet = λ h. absurd (some h);
      kept = kept_so;
      keeps = λ from h.
          let kept = kept_place old.documents.items d mid.documents.items (h.rising, h.stored) stored put.placed in
          record {
            puts = ap (λ (xs : List Pairs). put_each xs from) (made_news d old new stored readable made) ∙ put_each_more (news_of old.writes.items) d from
                ∙ ap (put_document d) h.puts
                ∙ put_where_placed d old.documents.items mid.documents.items put.placed ∙ sym same;
            rising = subst IsRising (sym same) kept.0;
            stored = subst (All IsStored) (sym same) kept.1;
            written = subst (λ (k : Bool). AreWritten k from new.writes.items) (sym kept_so) (made_written d old new stored readable made from h.written);
          };
    }

-- ---- one statement

wrote_behind : (ws : List DocumentWrite) (a b c : Run) → RunsOn a b → written b ≡ written a → (r : Result (Unit {0}) Refusal) → Wrote r ws b c → Wrote r ws a c
wrote_behind ws a b c first same
    (Ok u) later = record { wrote = later.wrote ∙ ap (λ (xs : List DocumentWrite). xs ++ ws) same; extends = RunsOn-trans a b c first later.extends }
wrote_behind ws a b c first same (Err e) later = λ other. stopped_behind ws a b c first same (later other)

module _ (index : ℕ) (s : UpdateStatement) (old mid : Run) where
  abbrev ran_on : Changed → Result Listed Refusal
  ran_on changed = if not changed.found && s.upsert then upsert_listed index s (listed_of old) else Ok (listed_to (listed_of old) changed)

  pub refused_statement : (e : Refusal) → Fails refusals.OutOfMemory e (update_from s (none_changed (listed_of old)) old.documents.items)
      → Fails refusals.OutOfMemory e (run_listed index s (listed_of old))
  refused_statement e is other = ap (λ (r : Result Changed Refusal). r >>= ran_on) (is other)

  module _ (found : Bool) (up : HasRun s old mid found) where
    ran : run_listed index s (listed_of old) ≡ ran_on (changed_of found mid)
    ran = ap (λ (r : Result Changed Refusal). r >>= ran_on) up.planned

    -- it is done with the documents that match
    pub done : (not found && s.upsert) ≡ false → run_listed index s (listed_of old) ≡ Ok (listed_of mid)
    done e =
        ran ∙ ap (λ (b : Bool). if b then upsert_listed index s (listed_of old) else Ok (listed_to (listed_of old) (changed_of found mid))) e
        ∙ (λ k. Ok (record (listed_of mid) { upserted = sym up.upserted k }))

    -- a document is to be made
    pub makes : (not found && s.upsert) ≡ true → found ≡ false → run_listed index s (listed_of old) ≡ upsert_listed index s (listed_of mid)
    makes e none =
        ran ∙ ap (λ (b : Bool). if b then upsert_listed index s (listed_of old) else Ok (listed_to (listed_of old) (changed_of found mid))) e
        ∙ ap (upsert_listed index s) (sym (up.none none))

    -- where one was found the statement wrote what it changed
    pub found_wrote : found ≡ true → HasWritten (statement_writes s old.documents.items) old mid
    found_wrote is = record {
      wrote = up.wrote ∙ ap (λ (ws : List DocumentWrite). written old ++ ws) (sym (writes_changes s old.documents.items (up.any ∙ is)));
      extends = up.extends;
    }

    module _ (none : found ≡ false) where
      nothing_wrote : written mid ≡ written old
      nothing_wrote =
          up.wrote ∙ ap (λ (ds : List Pairs). written old ++ changes_of s.change ds) (updated_unmatched s old.documents.items (up.any ∙ none))
          ∙ append-nil (written old)

      -- it makes no document
      pub none_wrote : s.upsert ≡ false → HasWritten (statement_writes s old.documents.items) old mid
      none_wrote makes = record {
        wrote = nothing_wrote ∙ sym (append-nil (written old))
            ∙ ap (λ (ws : List DocumentWrite). written old ++ ws) (sym (writes_none s old.documents.items (up.any ∙ none) makes));
        extends = up.extends;
      }

      -- it makes one
      pub upsert_wrote : s.upsert ≡ true → (r : Result (Unit {0}) Refusal) (new : Run) → Wrote r (map made_write (one_or_none (upsert_document s))) mid new
          → Wrote r (statement_writes s old.documents.items) old new
      upsert_wrote makes r new later =
          subst (λ (ws : List DocumentWrite). Wrote r ws old new) (sym (writes_upsert s old.documents.items (up.any ∙ none) makes))
          (wrote_behind (map made_write (one_or_none (upsert_document s))) old mid new up.extends nothing_wrote r later)
