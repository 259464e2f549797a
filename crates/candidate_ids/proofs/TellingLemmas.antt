-- `_id`s that several filters ask for, or to which indexes lead, put one after the other.
use Rattle.std.proofs.Common.{◌≡◌, ℕ, Bool, true, false, List, [], ◌∷◌, ◌++◌, Option, Some, None, Result, Ok, refl, sym, ap, subst, ◌∙◌}
use Rattle.std.proofs.Common.{append_assoc}
use Rattle.std.specs.Global.{Vec}
use Rattle.std.specs.List.{list_any}
use Rattle.std.specs.Prelude.{◌&&◌, ◌||◌, not, IfSome, map}
use Rattle.bson.specs.Tree.{Pairs}
use Rattle.page.specs.History.{History}
use Rattle.path.specs.declared.refusal.Refusal.{Refusal}
use Rattle.collections.specs.Lookups.{ReadsOf}
use Rattle.collections.specs.State.{State}
use Rattle.pager.proofs.ListLemmas.{all_joined}
use Rattle.filter.specs.Condition.{Conditions}
use Rattle.filter.specs.Matches.{matches}
use Rattle.value_order.specs.KeyText.{tree_text}
use Rattle.index.specs.Changes.{is_among}
use Rattle.entry_model.specs.State.{Collection, key_of}
use Rattle.index.specs.View.{texts_of}
use Rattle.entry_model.proofs.KeyOfDocument.{among_test, test_among}
use Rattle.entry_model.proofs.MemberLemmas.{among_back, among_front}
use Rattle.entries.specs.declared.catalogue_reading.Catalogued.{Catalogued}
use Rattle.asked_documents.specs.Asking.{IsAsked}
use Rattle.asked_documents.specs.ById.{AreIdsOf, ArePut, IsIdText, IsIn, Tell, TellBeside, TellIds, TellIdsBeside, TellOf, but_not, one_matches}
use Rattle.candidate_ids.proofs.IdTextLemmas.{either_tells, left_all, left_next, left_none}
use Rattle.asked_documents.proofs.SelectsLemmas.{put_none, put_on}
use Rattle.asked_documents.proofs.ReadingLemmas.{reads_behind}

pub texts_appended : (vs ws : List (Vec ℕ)) → texts_of (vs ++ ws) ≡ texts_of vs ++ texts_of ws
texts_appended [] ws = refl
texts_appended (v ∷ vs) ws = ap (λ (ts : List (List ℕ)). v.items ∷ ts) (texts_appended vs ws)

-- texts that tell some documents are put behind others
pub tell_behind : (c : Collection) (p : Pairs → Bool) (before mid found after : List (List ℕ)) → TellOf c p [] found → ArePut before mid → after ≡ mid ++ found
    → TellOf c p before after
tell_behind c p before mid found after tell put made = subst (TellOf c p before) (sym made) (record {
  put = put_on before mid (mid ++ found) put (record {
    texts = λ h. all_joined IsIdText mid found h (tell.put.texts tt);
    kept = λ text h. among_test (mid ++ found) text (among_front text mid found (test_among mid text h));
  });
  tells = λ d has passes.
      let text = tree_text (key_of d) in
      among_test (mid ++ found) text (among_back text mid found (test_among found text (tell.tells d has passes)));
})

-- ---- test after test

-- What passes has one of the texts, or passes one of the tests that are left.
pub record AreTold (c : Collection) (all left : Pairs → Bool) (before texts : List (List ℕ)) : Type 0 where
  pub put : ArePut before texts
  pub tells : TellBeside (IsIn c) (λ d. tree_text (key_of d)) all left texts

module _ (c : Collection) (all : Pairs → Bool) (before : List (List ℕ)) where
  pub begins_told : AreTold c all all before before
  begins_told = record { put = put_none before; tells = left_all (IsIn c) (λ (d : Pairs). tree_text (key_of d)) all before }

  pub next_told : (one rest : Pairs → Bool) (mid after : List (List ℕ)) → AreTold c all (λ d. one d || rest d) before mid → TellOf c one mid after
      → AreTold c all rest before after
  next_told one rest mid after so next = record {
    put = put_on before mid after so.put next.put;
    tells = left_next (IsIn c) (λ (d : Pairs). tree_text (key_of d)) all one rest mid after next.put next.tells so.tells;
  }

  pub ends_told : (after : List (List ℕ)) → AreTold c all (λ d. false) before after → TellOf c all before after
  ends_told after so = record { put = so.put; tells = left_none (IsIn c) (λ (d : Pairs). tree_text (key_of d)) all after so.tells }

or_either : (a m : Bool) → m ≡ true → (a || m) ≡ true
or_either true m e = refl
or_either false m e = e

-- ---- filter after filter

-- which of them comes last says nothing
last_matches : (xs : List Conditions) (f : Conditions) (d : Pairs) → one_matches (f ∷ xs) d ≡ true → one_matches (xs ++ f ∷ []) d ≡ true
last_matches [] f d e = e
last_matches (x ∷ xs) f d e = by (matches x d) (one_matches (xs ++ f ∷ []) d) (one_matches xs d) (matches f d) (λ h. last_matches xs f d h) e
  where
    by : (x last rest f : Bool) → ((f || rest) ≡ true → last ≡ true) → (f || (x || rest)) ≡ true → (x || last) ≡ true
    by true last rest f extends e = refl
    by false last rest f extends e = extends e

module _ (c : Collection) (filters : List Conditions) (before : List (List ℕ)) where
  -- what one of those filters doesn't match that are left or walked by, is told
  abbrev pub AreToldBut : List Conditions → List (List ℕ) → Type 0
  AreToldBut left texts = AreTold c (one_matches filters) (one_matches left) before texts

  -- before anything is told, whatever else is walked by
  pub begins_but : (ws : List Conditions) → AreToldBut (filters ++ ws) before
  begins_but ws = record {
    put = put_none before;
    tells = λ d has e. or_either (is_among before (tree_text (key_of d))) (one_matches (filters ++ ws) d) (first_match filters d e);
  }
    where
      first_match : (xs : List Conditions) (d : Pairs) → one_matches xs d ≡ true → one_matches (xs ++ ws) d ≡ true
      first_match [] d e = absurd cc
      first_match (x ∷ xs) d e = by (matches x d) (one_matches xs d) (one_matches (xs ++ ws) d) (λ h. first_match xs d h) e
        where
          by : (x rest more : Bool) → (rest ≡ true → more ≡ true) → (x || rest) ≡ true → (x || more) ≡ true
          by true rest more extends e = refl
          by false rest more extends e = extends e

  -- the next one is walked by
  pub walks_by : (rest ws : List Conditions) (f : Conditions) (texts : List (List ℕ)) → AreToldBut ((f ∷ rest) ++ ws) texts
      → AreToldBut (rest ++ (ws ++ f ∷ [])) texts
  walks_by rest ws f texts so = record {
    put = so.put;
    tells = λ d has e.
        let among = is_among texts (tree_text (key_of d)) in
        either_tells among (one_matches ((f ∷ rest) ++ ws) d) (among || one_matches (rest ++ (ws ++ f ∷ [])) d)
        (λ told. ap (λ (b : Bool). b || one_matches (rest ++ (ws ++ f ∷ [])) d) told)
        (λ left. or_either among (one_matches (rest ++ (ws ++ f ∷ [])) d)
        (subst (λ (xs : List Conditions). one_matches xs d ≡ true) (append_assoc rest ws (f ∷ [])) (last_matches (rest ++ ws) f d left)))
        (so.tells d has e);
  }

  -- none is left but those that are walked by
  pub ends_but : (ws : List Conditions) (after : List (List ℕ)) → AreToldBut ws after → TellOf c (but_not (one_matches filters) ws) before after
  ends_but ws after so = record {
    put = so.put;
    tells = λ d has e.
        let one = one_matches filters d in
        let walked = one_matches ws d in
        by (is_among after (tree_text (key_of d))) one walked (λ passes. so.tells d has passes) e;
  }
    where
      by : (among one walked : Bool) → (one ≡ true → (among || walked) ≡ true) → (one && not walked) ≡ true → among ≡ true
      by true one walked tells e = refl
      by false false walked tells e = absurd cc
      by false true true tells e = absurd cc
      by false true false tells e = let no : false ≡ true = tells refl in absurd cc

-- what the next filter asks for, where its `_id`s are told, and where they aren't
abbrev pub IsNextOf : Collection → List Conditions → List Conditions → Conditions → List Conditions → List (List ℕ) → List (List ℕ)
    → Option (Vec (Vec ℕ)) → Type 0
IsNextOf c filters ws f rest before mid None = AreToldBut c filters before (rest ++ (ws ++ f ∷ [])) mid
IsNextOf c filters ws f rest before mid (Some ids) = AreToldBut c filters before (rest ++ ws) (mid ++ texts_of ids.items)

pub not_some : {X : Type 0} (o : Option X) → ((x : X) → o ≡ Some x → ⊥) → o ≡ None
not_some None h = refl
not_some (Some x) h = absurd (h x refl)

pub one_read : {D : Type 0} (history : D → History) (home : Catalogued) (filters ws left : List Conditions) (f : Conditions) (rest : List Conditions)
    (before mid : List (List ℕ)) (old now new : State D) (r : Result (Option (Vec (Vec ℕ))) Refusal) → left ≡ f ∷ rest
    → ReadsOf history (IsAsked home) (λ cs c (_ : Unit {0}). AreToldBut c filters before (left ++ ws) mid) (Ok tt) old now
    → ReadsOf history (IsAsked home) (λ cs c (found : Option (Vec (Vec ℕ))). IfSome found (λ ids. TellOf c (matches f) [] (texts_of ids.items))) r now new
    → ReadsOf history (IsAsked home) (λ cs c found. IsNextOf c filters ws f rest before mid found) r old new
one_read history home filters ws left f rest before mid old now new r next first second =
    reads_behind history (IsAsked home) (λ cs c (_ : Unit {0}). AreToldBut c filters before (left ++ ws) mid) (IsAsked home)
    (λ cs c (found : Option (Vec (Vec ℕ))). IfSome found (λ ids. TellOf c (matches f) [] (texts_of ids.items)))
    (λ cs c found. IsNextOf c filters ws f rest before mid found) old now new tt r first second
    (λ cs c asked so. record {
      other = c;
      was = asked;
      right = λ found tells. at c (subst (λ (fs : List Conditions). AreToldBut c filters before (fs ++ ws) mid) next so) found tells;
    })
  where
    at : (c : Collection) → AreToldBut c filters before ((f ∷ rest) ++ ws) mid → (found : Option (Vec (Vec ℕ)))
        → IfSome found (λ ids. TellOf c (matches f) [] (texts_of ids.items)) → IsNextOf c filters ws f rest before mid found
    at c so None tells = walks_by c filters before rest ws f mid so
    at c so (Some ids) tells =
        let texts = texts_of ids.items in
        next_told c (one_matches filters) before (matches f) (one_matches (rest ++ ws)) mid (mid ++ texts) so
        (tell_behind c (matches f) mid mid texts (mid ++ texts) tells (put_none mid) refl)

-- those that a filter matches, and those that are told by themselves, but not those that are walked by
pub both_tell : (c : Collection) (p : Pairs → Bool) (filters ws : List Conditions) (before after : List (List ℕ))
    → TellIdsBeside p (one_matches filters) before → TellOf c (but_not (one_matches filters) ws) before after
    → Tell (IsIn c) (λ d. tree_text (key_of d)) (but_not p ws) after
both_tell c p filters ws before after own others d has passes =
    let text = tree_text (key_of d) in
    by (p d) (one_matches ws d) (is_among before text) (one_matches filters d) (is_among after text) (others.put.kept text) (others.tells d has)
    (own d has.1) passes
  where
    by : (passes walked was one now : Bool) → (was ≡ true → now ≡ true) → ((one && not walked) ≡ true → now ≡ true)
        → (passes ≡ true → (was || one) ≡ true) → (passes && not walked) ≡ true → now ≡ true
    by false walked was one now kept tells own e = absurd cc
    by true true was one now kept tells own e = absurd cc
    by true false true one now kept tells own e = kept refl
    by true false false one now kept tells own e = tells (ap (λ (b : Bool). b && true) (own refl))

-- where no filter is left, the `_id`s tell all
pub all_are_told : (number : ℕ) (p : Pairs → Bool) (ws : List Conditions) (ids : List (List ℕ)) (now : List Collection) (c : Collection) → ws ≡ []
    → AreIdsOf number (but_not p ws) ids now c → AreIdsOf number p ids now c
all_are_told number p [] ids now c none h = record {
  numbered = h.numbered;
  ids = h.ids;
  told = h.told;
  ascending = h.ascending;
  all = λ d there passes. h.all d there (ap (λ (b : Bool). b && true) passes);
}
all_are_told number p (w ∷ ws) ids now c none h = absurd cc

-- ---- filters of statements

module _ {X : Type 0} (filter_of : X → Conditions) where
  one_of_them : (xs : List X) (d : Pairs) → list_any (λ x. matches (filter_of x) d) xs ≡ one_matches (map filter_of xs) d
  one_of_them [] d = refl
  one_of_them (x ∷ xs) d = ap (λ (b : Bool). matches (filter_of x) d || b) (one_of_them xs d)

  pub filters_tell : (xs : List X) (texts : List (List ℕ))
      → TellIdsBeside (λ d. list_any (λ x. matches (filter_of x) d) xs) (one_matches (map filter_of xs)) texts
  filters_tell xs texts d has passes =
      or_either (is_among texts (tree_text (key_of d))) (one_matches (map filter_of xs) d) (sym (one_of_them xs d) ∙ passes)

  -- beside others that are told by themselves
  pub others_tell : (xs : List X) (others : Pairs → Bool) (texts : List (List ℕ)) → TellIds others texts
      → TellIdsBeside (λ d. list_any (λ x. matches (filter_of x) d) xs || others d) (one_matches (map filter_of xs)) texts
  others_tell xs others texts tells d has passes =
      let among = is_among texts (tree_text (key_of d)) in
      either_tells (list_any (λ x. matches (filter_of x) d) xs) (others d) (among || one_matches (map filter_of xs) d)
      (λ one. or_either among (one_matches (map filter_of xs) d) (sym (one_of_them xs d) ∙ one))
      (λ other. ap (λ (b : Bool). b || one_matches (map filter_of xs) d) (tells d has other)) passes
