-- What an update writes over the documents that its statements may mean is what it writes over all of them.
use Rattle.std.proofs.Common.{◌≡◌, ℕ, suc, Bool, true, false, List, [], ◌∷◌, ◌++◌, map, take, Option, Some, None, Result, Ok, Err, refl, sym, ap, subst, ◌∙◌}
use Rattle.std.proofs.Common.{arith}
use Rattle.std.specs.Prelude.{◌||◌, if◌then◌else◌, All}
use Rattle.std.specs.List.{filter, list_any}
use Rattle.std.specs.Ordering.{is_eq}
use Rattle.std.specs.Str.{bytes_eq}
use Rattle.std.proofs.lemmas.List.Elements.{All-cons}
use Rattle.bson.specs.Tree.{Tree, Pairs, Items, no_items}
use Rattle.filter.specs.Matches.{matches}
use Rattle.value_order.specs.Order.{compare}
use Rattle.path.specs.declared.refusal.Refusal.{Refusal}
use Rattle.update_model.specs.Applying.{apply}
use Rattle.update_model.specs.Update.{Update as Change}
use Rattle.command_model.specs.Update.{UpdateStatement, IsRead}
use Rattle.entry_model.specs.LawfulState.{IsRising}
use Rattle.entry_model.specs.StateReads.{find_document}
use Rattle.database_model.specs.Documents.{key_of}
use Rattle.database_model.specs.Lawful.{IsStored}
use Rattle.database_model.specs.Merging.{is_updated, made_of, made_by, has_key_of, is_meant, Listed, run_listed}
use Rattle.database_model.specs.Update.{spelled}
use Rattle.statements.proofs.Applied.{kept_key}
use Rattle.statements.proofs.MeantDeletions.{or_first, or_second}
use Rattle.statements.proofs.MergingLemmas.{Marked, meant, other, all_of, meant_of, others_of, Each, NoneIs, Each-map, Ascends, ascends, Untied, mark, mark_all}
use Rattle.statements.proofs.MergingLemmas.{mark_meant, marked_all, marked_meant, meant_untied, put_ascends, put_marked}
use Rattle.statements.proofs.WriteSteps.{updated_stored}
use Rattle.entry_model.specs.Entering.{DocumentWrite}
use Rattle.statements.specs.Updating.{HaveOld, news_of, seen}
use Rattle.statements.specs.WriteLaws.{documents_in}
use Rattle.database_model.specs.Writes.{change_writes, changes_of, made_write, statement_writes, unless_refused, updated_by, writes_from, writes_of}
use Rattle.statements.specs.declared.statements.Write.{Write}
use Rattle.statements.proofs.MeantUpdates.{first_free, first_unmatched, later_free, later_unmatched, listed_with, none_made, none_updated, run_alike, RunsAlike}

matching_alike : (p : Pairs → Bool) (ms : List Marked) → NoneIs p (others_of ms) → filter p (meant_of ms) ≡ filter p (all_of ms)
matching_alike p [] none = refl
matching_alike p (meant x ∷ ms) none = ap (λ (xs : List Pairs). if p x then x ∷ xs else xs) (matching_alike p ms none)
matching_alike p (other x ∷ ms) none = matching_alike p ms none.1 ∙ sym (ap (λ (b : Bool). if b then x ∷ filter p (all_of ms) else filter p (all_of ms)) none.0)

any_alike : (p : Pairs → Bool) (ms : List Marked) → NoneIs p (others_of ms) → list_any p (meant_of ms) ≡ list_any p (all_of ms)
any_alike p [] none = refl
any_alike p (meant x ∷ ms) none = ap (λ (b : Bool). p x || b) (any_alike p ms none)
any_alike p (other x ∷ ms) none = any_alike p ms none.1 ∙ sym (ap (λ (b : Bool). b || list_any p (all_of ms)) none.0)

statement_alike : (s : UpdateStatement) (ms : List Marked) → NoneIs (matches s.filter) (others_of ms)
    → statement_writes s (meant_of ms) ≡ statement_writes s (all_of ms)
statement_alike s ms none i =
    let matching = matching_alike (matches s.filter) ms none i in
    if any_alike (matches s.filter) ms none i then changes_of s.change (if s.multi then matching else take 1 matching) else map made_write (made_of s)

writes_alike : (i : ℕ) (ss : List UpdateStatement) (ms : List Marked) (a n : ℕ) (u : Items) → All (λ (s : UpdateStatement). IsRead s.change) ss
    → IsRising (all_of ms) → All IsStored (all_of ms)
    → NoneIs (is_updated ss) (others_of ms) → NoneIs (has_key_of (made_by ss)) (others_of ms)
    → writes_from i ss (listed_with (meant_of ms) a n u) ≡ writes_from i ss (listed_with (all_of ms) a n u)
writes_alike i [] ms a n u read rising stored none free = refl
writes_alike i (s ∷ ss) ms a n u read rising stored none free =
    let unmatched = first_unmatched s ss (others_of ms) none in
    let later = at (run_listed i s (listed_with (meant_of ms) a n u)) (run_listed i s (listed_with (all_of ms) a n u))
    (run_alike i s ms a n u (read 0 s (omega arith)) rising stored unmatched (first_free s ss (others_of ms) free))
    (λ next k l v up kept same. writes_alike (suc i) ss next k l v (λ j d below. read (suc j) d (omega arith)) up kept
    (subst (NoneIs (is_updated ss)) (sym same) (later_unmatched s ss (others_of ms) none))
    (subst (NoneIs (has_key_of (made_by ss))) (sym same) (later_free s ss (others_of ms) free))) in
    λ k. statement_alike s ms unmatched k ++ later k
  where
    at : (r t : Result Listed Refusal) → RunsAlike ms r t
        → ((next : List Marked) (k l : ℕ) (v : Items) → IsRising (all_of next) → All IsStored (all_of next) → others_of next ≡ others_of ms
        → writes_from (suc i) ss (listed_with (meant_of next) k l v) ≡ writes_from (suc i) ss (listed_with (all_of next) k l v))
        → unless_refused (writes_from (suc i) ss) r ≡ unless_refused (writes_from (suc i) ss) t
    at (Ok l) (Ok m) h go =
        ap (writes_from (suc i) ss) h.among ∙ go h.next h.matched h.modified h.upserted h.rising h.stored h.rest ∙ ap (writes_from (suc i) ss) (sym h.all)
    at (Err e) (Err f) h go = refl
    at (Ok l) (Err f) h go = absurd h
    at (Err e) (Ok m) h go = absurd h

-- ---- their keys

pub documents_append : (ws vs : List DocumentWrite) → documents_in (ws ++ vs) ≡ documents_in ws ++ documents_in vs
documents_append [] vs = refl
documents_append (w ∷ ws) vs = ap (λ (ds : List Pairs). w.document ∷ ds) (documents_append ws vs)

Each-append : (P : Pairs → Type 0) (xs ys : List Pairs) → Each P xs → Each P ys → Each P (xs ++ ys)
Each-append P [] ys h k = k
Each-append P (x ∷ xs) ys h k = (h.0, Each-append P xs ys h.1 k)

-- no document of these has one of their keys
abbrev AreUntied : List Pairs → List Pairs → Type 0
AreUntied others ds = Each (λ d. Untied others (key_of d)) ds

changes_untied : (u : Change) → IsRead u → (others xs : List Pairs) → All IsStored xs → AreUntied others xs → AreUntied others (documents_in (changes_of u xs))
changes_untied u read others [] stored h = tt
changes_untied u read others (x ∷ xs) stored h = at (apply u 65535 x) refl (changes_untied u read others xs (λ i d below. stored (suc i) d (omega arith)) h.1)
  where
    by : (new : Pairs) → apply u 65535 x ≡ Ok new → AreUntied others (documents_in (changes_of u xs)) → (b : Bool)
        → AreUntied others (documents_in ((if b then [] else record { is_new = false; document = new } ∷ []) ++ changes_of u xs))
    by new is later true = later
    by new is later false = (subst (Untied others) (sym (kept_key u x new read (stored 0 x (omega arith)) is)) h.0, later)

    at : (r : Result Pairs Refusal) → apply u 65535 x ≡ r → AreUntied others (documents_in (changes_of u xs))
        → AreUntied others (documents_in (unless_refused (λ new. change_writes x new ++ changes_of u xs) r))
    at (Err e) is later = tt
    at (Ok new) is later = by new is later (bytes_eq (spelled x) (spelled new))

made_untied : (others xs : List Pairs) → NoneIs (has_key_of xs) others → AreUntied others (documents_in (map made_write xs))
made_untied others [] none = tt
made_untied others (x ∷ xs) none = (
  Each-map (λ d. has_key_of (x ∷ xs) d ≡ false) (λ d. is_eq (compare (key_of x) (key_of d)) ≡ false) others
      (λ d e. or_first (is_eq (compare (key_of x) (key_of d))) (has_key_of xs d) e) none,
  made_untied others xs
      (Each-map (λ d. has_key_of (x ∷ xs) d ≡ false) (λ d. has_key_of xs d ≡ false) others
      (λ d e. or_second (is_eq (compare (key_of x) (key_of d))) (has_key_of xs d) e) none),
)

updated_untied : (s : UpdateStatement) (others ds : List Pairs) → AreUntied others ds → AreUntied others (updated_by s ds)
updated_untied s others ds h = at s.multi
  where
    matching : (xs : List Pairs) → AreUntied others xs → AreUntied others (filter (matches s.filter) xs)
    matching [] k = tt
    matching (x ∷ xs) k = by (matches s.filter x) (matching xs k.1)
      where
        by : (b : Bool) → AreUntied others (filter (matches s.filter) xs)
            → AreUntied others (if b then x ∷ filter (matches s.filter) xs else filter (matches s.filter) xs)
        by true later = (k.0, later)
        by false later = later

    first : (xs : List Pairs) → AreUntied others xs → AreUntied others (take 1 xs)
    first [] k = tt
    first (x ∷ xs) k = (k.0, tt)

    at : (multi : Bool) → AreUntied others (if multi then filter (matches s.filter) ds else take 1 (filter (matches s.filter) ds))
    at true = matching ds h
    at false = first (filter (matches s.filter) ds) (matching ds h)

statement_untied : (s : UpdateStatement) → IsRead s.change → (others ds : List Pairs) → All IsStored ds → AreUntied others ds
    → NoneIs (has_key_of (made_of s)) others → AreUntied others (documents_in (statement_writes s ds))
statement_untied s read others ds stored h free = at (list_any (matches s.filter) ds)
  where
    at : (b : Bool) → AreUntied others (documents_in (if b then changes_of s.change (updated_by s ds) else map made_write (made_of s)))
    at true = changes_untied s.change read others (updated_by s ds) (updated_stored s ds stored) (updated_untied s others ds h)
    at false = made_untied others (made_of s) free

stored_meant : (ms : List Marked) → All IsStored (all_of ms) → All IsStored (meant_of ms)
stored_meant [] h = h
stored_meant (meant d ∷ ms) h = All-cons IsStored d (meant_of ms) (h 0 d (omega arith)) (stored_meant ms (λ i x below. h (suc i) x (omega arith)))
stored_meant (other d ∷ ms) h = stored_meant ms (λ i x below. h (suc i) x (omega arith))

writes_untied : (i : ℕ) (ss : List UpdateStatement) (ms : List Marked) (a n : ℕ) (u : Items) → All (λ (s : UpdateStatement). IsRead s.change) ss
    → IsRising (all_of ms) → All IsStored (all_of ms)
    → NoneIs (is_updated ss) (others_of ms) → NoneIs (has_key_of (made_by ss)) (others_of ms)
    → AreUntied (others_of ms) (documents_in (writes_from i ss (listed_with (meant_of ms) a n u)))
writes_untied i [] ms a n u read rising stored none free = tt
writes_untied i (s ∷ ss) ms a n u read rising stored none free =
    let here = run_listed i s (listed_with (meant_of ms) a n u) in
    subst (AreUntied (others_of ms)) (sym (documents_append (statement_writes s (meant_of ms)) (unless_refused (writes_from (suc i) ss) here)))
    (Each-append (λ d. Untied (others_of ms) (key_of d)) (documents_in (statement_writes s (meant_of ms)))
    (documents_in (unless_refused (writes_from (suc i) ss) here))
    (statement_untied s (read 0 s (omega arith)) (others_of ms) (meant_of ms) (stored_meant ms stored) (meant_untied ms (ascends (all_of ms) rising))
    (first_free s ss (others_of ms) free))
    (at here (run_listed i s (listed_with (all_of ms) a n u))
    (run_alike i s ms a n u (read 0 s (omega arith)) rising stored (first_unmatched s ss (others_of ms) none) (first_free s ss (others_of ms) free))
    (λ next k l v up kept same. subst (λ (xs : List Pairs). AreUntied xs (documents_in (writes_from (suc i) ss (listed_with (meant_of next) k l v)))) same
    (writes_untied (suc i) ss next k l v (λ j d below. read (suc j) d (omega arith)) up kept
    (subst (NoneIs (is_updated ss)) (sym same) (later_unmatched s ss (others_of ms) none))
    (subst (NoneIs (has_key_of (made_by ss))) (sym same) (later_free s ss (others_of ms) free))))))
  where
    at : (r t : Result Listed Refusal) → RunsAlike ms r t
        → ((next : List Marked) (k l : ℕ) (v : Items) → IsRising (all_of next) → All IsStored (all_of next) → others_of next ≡ others_of ms
        → AreUntied (others_of ms) (documents_in (writes_from (suc i) ss (listed_with (meant_of next) k l v))))
        → AreUntied (others_of ms) (documents_in (unless_refused (writes_from (suc i) ss) r))
    at (Ok l) (Ok m) h go =
        subst (λ (x : Listed). AreUntied (others_of ms) (documents_in (writes_from (suc i) ss x))) (sym h.among)
        (go h.next h.matched h.modified h.upserted h.rising h.stored h.rest)
    at (Err e) (Err f) h go = tt
    at (Ok l) (Err f) h go = absurd h
    at (Err e) (Ok m) h go = absurd h

-- ---- what they replace

find_alike : (id : Tree) (ms : List Marked) → Untied (others_of ms) id → find_document (meant_of ms) id ≡ find_document (all_of ms) id
find_alike id [] free = refl
find_alike id (meant d ∷ ms) free = ap (λ (o : Option Pairs). if is_eq (compare id (key_of d)) then Some d else o) (find_alike id ms free)
find_alike id (other d ∷ ms) free = find_alike id ms free.1 ∙ sym (ap (λ (b : Bool). if b then Some d else find_document (all_of ms) id) free.0)

old_alike : (ms : List Marked) (ws : List Write) → Ascends (all_of ms) → AreUntied (others_of ms) (news_of ws) → HaveOld (meant_of ms) ws
    → HaveOld (all_of ms) ws
old_alike ms [] up free h = tt
old_alike ms (w ∷ ws) up free h =
    let put = marked_meant w.new ms up free.0 in
    let all = marked_all w.new ms in (
      h.0 ∙ ap (λ (o : Option Pairs). if w.is_new then None else o) (find_alike (key_of w.new) ms free.0),
      subst (λ (xs : List Pairs). HaveOld xs ws) all
          (old_alike (put_marked w.new ms) ws (subst Ascends (sym all) (put_ascends w.new (all_of ms) up))
          (subst (λ (xs : List Pairs). AreUntied xs (news_of ws)) (sym put.1) free.1)
          (subst (λ (xs : List Pairs). HaveOld xs ws) (sym put.0) h.1)),
    )

news_seen : (ws : List Write) → documents_in (map seen ws) ≡ news_of ws
news_seen [] = refl
news_seen (w ∷ ws) = ap (λ (ds : List Pairs). w.new ∷ ds) (news_seen ws)

-- ---- all of them

module _ (ss : List UpdateStatement) (ds : List Pairs) (read : All (λ (s : UpdateStatement). IsRead s.change) ss) (rising : IsRising ds)
    (stored : All IsStored ds) where
  abbrev marks : List Marked
  marks = mark (is_meant ss) ds

  all : all_of marks ≡ ds
  all = mark_all (is_meant ss) ds

  -- They write the same.
  pub same_writes : writes_of ss (filter (is_meant ss) ds) ≡ writes_of ss ds
  same_writes =
      ap (writes_of ss) (sym (mark_meant (is_meant ss) ds))
      ∙ writes_alike 0 ss marks 0 0 no_items read (subst IsRising (sym all) rising) (subst (All IsStored) (sym all) stored)
      (none_updated ss ds read rising stored) (none_made ss ds read rising stored)
      ∙ ap (writes_of ss) all

  -- What they replace among those that are meant they replace among all.
  pub same_old : (ws : List Write) → map seen ws ≡ writes_of ss (filter (is_meant ss) ds) → HaveOld (filter (is_meant ss) ds) ws → HaveOld ds ws
  same_old ws are h =
      let meant_is : meant_of marks ≡ filter (is_meant ss) ds = mark_meant (is_meant ss) ds in
      let untied =
      writes_untied 0 ss marks 0 0 no_items read (subst IsRising (sym all) rising) (subst (All IsStored) (sym all) stored)
      (none_updated ss ds read rising stored) (none_made ss ds read rising stored) in
      let news : documents_in (writes_of ss (meant_of marks)) ≡ news_of ws =
      ap (λ (xs : List Pairs). documents_in (writes_of ss xs)) meant_is ∙ ap documents_in (sym are) ∙ news_seen ws in
      subst (λ (xs : List Pairs). HaveOld xs ws) all
      (old_alike marks ws (ascends (all_of marks) (subst IsRising (sym all) rising)) (subst (AreUntied (others_of marks)) news untied)
      (subst (λ (xs : List Pairs). HaveOld xs ws) (sym meant_is) h))
