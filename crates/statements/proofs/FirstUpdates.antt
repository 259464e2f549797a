-- A statement that changes one document makes of the first that it matches what it makes of all.
use Rattle.std.proofs.Common.{◌≡◌, ◌≤◌, ℕ, suc, Bool, true, false, List, [], ◌∷◌, ◌++◌, length, map, take, Result, Ok, Err, refl, sym, ap, subst, ◌∙◌}
use Rattle.std.proofs.Common.{arith}
use Rattle.std.specs.Prelude.{◌||◌, ◌&&◌, not, if◌then◌else◌}
use Rattle.std.specs.List.{filter, list_any}
use Rattle.std.specs.Ordering.{is_eq}
use Rattle.std.specs.declared.cmp.Ordering.{Ordering}
use Rattle.std.specs.declared.cmp.Ordering.TheVariants as orders
use Rattle.std.proofs.lemmas.List.{append-nil}
use Rattle.bson.specs.Tree.{Pairs, no_items}
use Rattle.filter.specs.Matches.{matches}
use Rattle.value_order.specs.Order.{compare}
use Rattle.outcome.specs.Outcome.{◌>>=◌}
use Rattle.path.specs.declared.refusal.Refusal.{Refusal}
use Rattle.update_model.specs.Applying.{apply}
use Rattle.command_model.specs.Update.{UpdateStatement}
use Rattle.entry_model.specs.Documents.{put_document}
use Rattle.entry_model.specs.Entering.{DocumentWrite}
use Rattle.entry_model.specs.State.{by_order}
use Rattle.database_model.specs.Documents.{key_of}
use Rattle.database_model.specs.Merging.{Listed, is_meant, listed_to, made_of, none_changed, not_listed, put_each, run_each, run_listed, upsert_listed}
use Rattle.database_model.specs.Update.{Changed, counted, modified_by}
use Rattle.database_model.specs.Writes.{changes_of, made_write, unless_refused, writes_from, writes_of}
use Rattle.statements.proofs.MeantUpdates.{listed_with, one_step}

-- ---- documents that are put in the place of one

put_longer : (new : Pairs) (ds : List Pairs) → length ds ≤ length (put_document new ds)
put_longer new [] = omega arith
put_longer new (d ∷ ds) = at (compare (key_of new) (key_of d)) (put_longer new ds)
  where
    at : (r : Ordering) → length ds ≤ length (put_document new ds)
        → length (d ∷ ds) ≤ length (by_order r (new ∷ d ∷ ds) (new ∷ ds) (d ∷ put_document new ds))
    at orders.Less later = omega arith
    at orders.Equal later = omega arith
    at orders.Greater later = omega (arith, later)

each_longer : (news ds : List Pairs) → length ds ≤ length (put_each news ds)
each_longer [] ds = omega arith
each_longer (new ∷ rest) ds = omega (arith, put_longer new ds, each_longer rest (put_document new ds))

-- They go there too where others stand behind it.
put_over : (news : List Pairs) (d new : Pairs) (ds : List Pairs) → put_each news (d ∷ []) ≡ new ∷ [] → put_each news (d ∷ ds) ≡ new ∷ ds
put_over [] d new ds e = let same : d ≡ new = cc in ap (λ (x : Pairs). x ∷ ds) same
put_over (n ∷ rest) d new ds e = at (compare (key_of n) (key_of d)) (λ later. put_over rest n new ds later) e
  where
    at : (r : Ordering) → (put_each rest (n ∷ []) ≡ new ∷ [] → put_each rest (n ∷ ds) ≡ new ∷ ds)
        → put_each rest (by_order r (n ∷ d ∷ []) (n ∷ []) (d ∷ n ∷ [])) ≡ new ∷ []
        → put_each rest (by_order r (n ∷ d ∷ ds) (n ∷ ds) (d ∷ put_document n ds)) ≡ new ∷ ds
    at orders.Less go is = absurd (omega (arith, ap length is, each_longer rest (n ∷ d ∷ [])))
    at orders.Equal go is = go is
    at orders.Greater go is = absurd (omega (arith, ap length is, each_longer rest (d ∷ n ∷ [])))

-- ---- the only statement

module _ (s : UpdateStatement) (one : s.multi ≡ false) where
  abbrev only : List UpdateStatement
  only = s ∷ []

  abbrev run_of : List Pairs → Result Listed Refusal
  run_of ds = run_each 0 only (not_listed ds)

  -- the one that matches changed, with these behind it
  abbrev changed : Pairs → List Pairs → Pairs → Result Listed Refusal
  changed d ds new = Ok (listed_with (new ∷ ds) (counted 0) (modified_by d new 0) no_items)

  -- what becomes of the front, and then of the statement
  abbrev ended : Pairs → List Pairs → Bool → Result Pairs Refusal → Bool → Result Listed Refusal
  ended d ds m r multi =
      (one_step s (none_changed (not_listed (d ∷ ds))) d ds m r multi
      >>= (λ c. if not c.found && s.upsert then upsert_listed 0 s (not_listed (d ∷ ds)) else Ok (listed_to (not_listed (d ∷ ds)) c)))
      >>= run_each 1 []

  run_front : (d : Pairs) (ds : List Pairs) → matches s.filter d ≡ true → run_of (d ∷ ds) ≡ (apply s.change 65535 d >>= changed d ds)
  run_front d ds m =
      ap (λ (b : Bool). ended d ds b (apply s.change 65535 d) s.multi) m ∙ ap (λ (b : Bool). ended d ds true (apply s.change 65535 d) b) one
      ∙ at (apply s.change 65535 d)
    where
      at : (r : Result Pairs Refusal) → ended d ds true r false ≡ (r >>= changed d ds)
      at (Ok new) = refl
      at (Err e) = refl

  refused_front : (d : Pairs) (ds : List Pairs) → matches s.filter d ≡ true → (e : Refusal) → run_of (d ∷ []) ≡ Err e → run_of (d ∷ ds) ≡ Err e
  refused_front d ds m e is = run_front d ds m ∙ at (apply s.change 65535 d) (sym (run_front d [] m) ∙ is)
    where
      at : (r : Result Pairs Refusal) → (r >>= changed d []) ≡ Err e → (r >>= changed d ds) ≡ Err e
      at (Ok new) made = absurd cc
      at (Err f) same = same

  done_front : (d : Pairs) (ds : List Pairs) → matches s.filter d ≡ true → (news : List Pairs) (l : Listed) → run_of (d ∷ []) ≡ Ok l
      → put_each news (d ∷ []) ≡ l.documents → run_of (d ∷ ds) ≡ Ok (record l { documents = put_each news (d ∷ ds) })
  done_front d ds m news l is puts = run_front d ds m ∙ at (apply s.change 65535 d) (sym (run_front d [] m) ∙ is)
    where
      at : (r : Result Pairs Refusal) → (r >>= changed d []) ≡ Ok l → (r >>= changed d ds) ≡ Ok (record l { documents = put_each news (d ∷ ds) })
      at (Err f) refused = absurd cc
      at (Ok new) same =
          let made : listed_with (new ∷ []) (counted 0) (modified_by d new 0) no_items ≡ l = cc in
          let behind : put_each news (d ∷ ds) ≡ new ∷ ds = put_over news d new ds (puts ∙ sym (ap (λ (x : Listed). x.documents) made)) in
          ap (λ (x : Listed). Ok (record x { documents = new ∷ ds })) made ∙ ap (λ (es : List Pairs). Ok (record l { documents = es })) (sym behind)

  -- ---- what it writes

  none_behind : (r : Result Listed Refusal) → unless_refused (writes_from 1 []) r ≡ []
  none_behind (Ok l) = refl
  none_behind (Err e) = refl

  writes_front : (d : Pairs) (ds : List Pairs) → matches s.filter d ≡ true → writes_of only (d ∷ ds) ≡ changes_of s.change (d ∷ [])
  writes_front d ds m =
      let p = matches s.filter in
      let written : Bool → Bool → Bool → List DocumentWrite =
      λ b c multi. if b then changes_of s.change
      (if multi then (if c then d ∷ filter p ds else filter p ds) else take 1 (if c then d ∷ filter p ds else filter p ds))
      else map made_write (made_of s) in
      ap (λ (ws : List DocumentWrite). written (list_any p (d ∷ ds)) (p d) s.multi ++ ws) (none_behind (run_listed 0 s (not_listed (d ∷ ds))))
      ∙ append-nil (written (list_any p (d ∷ ds)) (p d) s.multi)
      ∙ ap (λ (b : Bool). written (b || list_any p ds) b s.multi) m
      ∙ ap (written true true) one

  -- ---- of documents that it matches

  abbrev AllMatch : List Pairs → Type 0
  AllMatch [] = Unit {0}
  AllMatch (d ∷ ds) = (matches s.filter d ≡ true) × AllMatch ds

  pub refused_first : (e : Refusal) (ds : List Pairs) → AllMatch ds → run_of (take 1 ds) ≡ Err e → run_of ds ≡ Err e
  refused_first e [] all is = is
  refused_first e (d ∷ ds) all is = refused_front d ds all.0 e is

  pub done_first : (news : List Pairs) (l : Listed) (ds : List Pairs) → AllMatch ds → run_of (take 1 ds) ≡ Ok l → put_each news (take 1 ds) ≡ l.documents
      → run_of ds ≡ Ok (record l { documents = put_each news ds })
  done_first news l [] all is puts = is ∙ ap (λ (es : List Pairs). Ok (record l { documents = es })) (sym puts)
  done_first news l (d ∷ ds) all is puts = done_front d ds all.0 news l is puts

  pub writes_first : (ds : List Pairs) → AllMatch ds → writes_of only (take 1 ds) ≡ writes_of only ds
  writes_first [] all = refl
  writes_first (d ∷ ds) all = writes_front d [] all.0 ∙ sym (writes_front d ds all.0)

  -- ---- where it makes none, it means those that it matches

  or_false : (b : Bool) → ((b || false) || false) ≡ b
  or_false true = refl
  or_false false = refl

  module _ (none : made_of s ≡ []) where
    meant_matched : (d : Pairs) → is_meant only d ≡ matches s.filter d
    meant_matched d =
        ap (λ (made : List Pairs). (matches s.filter d || false) || list_any (λ e. is_eq (compare (key_of e) (key_of d))) (made ++ [])) none
        ∙ or_false (matches s.filter d)

    pub all_match : (ds : List Pairs) → AllMatch (filter (is_meant only) ds)
    all_match [] = tt
    all_match (d ∷ ds) = at (matches s.filter d) refl (all_match ds)
      where
        at : (b : Bool) → matches s.filter d ≡ b → AllMatch (filter (is_meant only) ds) → AllMatch (filter (is_meant only) (d ∷ ds))
        at true is later =
            subst (λ (b : Bool). AllMatch (if b then d ∷ filter (is_meant only) ds else filter (is_meant only) ds)) (sym (meant_matched d ∙ is)) (is, later)
        at false is later =
            subst (λ (b : Bool). AllMatch (if b then d ∷ filter (is_meant only) ds else filter (is_meant only) ds)) (sym (meant_matched d ∙ is)) later
