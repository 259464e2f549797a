-- The texts that a range of entries tells of an index are those of its documents.
use Rattle.std.proofs.Common.{◌≡◌, ℕ, ◌+◌, ◌<◌, ◌≤◌, ◌^◌, Bool, true, false, not, ◌&&◌, List, [], ◌∷◌, ◌++◌, length, drop, Option, Some, None}
use Rattle.std.proofs.Common.{◌⊎◌, inl, inr, ⊎_elim, refl, sym, ap, subst, ◌∙◌, arith, append_assoc}
use Rattle.std.specs.Prelude.{is_some, Contains, MatchOption}
use Rattle.std.specs.Int.{w32, to_be_bytes}
use Rattle.std.specs.Option.{option_map}
use Rattle.std.specs.Ordering.{is_lt, ordering_reverse}
use Rattle.std.specs.declared.cmp.Ordering.{Ordering}
use Rattle.std.specs.declared.cmp.Ordering.TheVariants.{Less, Equal, Greater}
use Rattle.std.proofs.lemmas.Cmp.{tied_itself}
use Rattle.bson.specs.Tree.{Pairs}
use Rattle.value_order.specs.KeyText.{tree_text}
use Rattle.tree_model.specs.Keys.{Entry, IsUnder, Rises, is_within, key_cmp, window}
use Rattle.tree_model.specs.Calls.{IsBatch}
use Rattle.btree.specs.Fold.{between}
use Rattle.btree.specs.declared.folding.Bounds.{Bounds}
use Rattle.std.specs.Cmp.Lexicographic.{nat_list_cmp_total}
use Rattle.std.specs.Global.{Vec}
use Rattle.tree_model.proofs.KeyLemmas.{three, under_then_up_to, under_trans}
use Rattle.index.specs.Definition.{Definition}
use Rattle.index.specs.View.{texts_of}
use Rattle.index.specs.KeyTexts.{encoded_keys}
use Rattle.entry_model.specs.LawfulState.{IsKept}
use Rattle.entries.specs.OtherKeys.{IsEndOf}
use Rattle.entry_model.specs.State.{Collection, key_of}
use Rattle.entry_model.specs.StateEntries.{entry_keys, index_entries, index_entry, key_under}
use Rattle.entry_model.specs.StateLaws.{entries_in}
use Rattle.entry_model.specs.StateReads.{entries_under}
use Rattle.entries.proofs.EntryLemmas.{key_among, same_rest}
use Rattle.entry_model.proofs.FoundLawLemmas.{found_collection}
use Rattle.entries.proofs.HomeLemmas.{number_fits}
use Rattle.entry_model.proofs.LawfulParts.{listed_of}
use Rattle.entries.proofs.ListingLaws.{lists_index}
use Rattle.entry_model.proofs.MemberLemmas.{Among, among_append, among_each, among_flat, among_front, among_map, among_of, contains_of}
use Rattle.entries.proofs.WindowLemmas.{among_window, inside_there, is_inside, window_among, window_rises}
use Rattle.collections.specs.IndexTexts.{AreFirstTexts, AreNextTexts, AreTextsBelow, AreTextsBetween, Indexed, IsEntryText, IsNumberedIndex, IsTextFrom}
use Rattle.collections.specs.IndexTexts.{LiesBetween, next_behind, text_behind, texts_behind}
use Rattle.collections.specs.ReadTexts.{AreTextsRead}
use Rattle.collections.specs.Lookups.{IsInTree}
use Rattle.collections.specs.declared.index_texts.TextReading.{TextReading}
use Rattle.collections.proofs.BehindLemmas.{either_text, text_there, texts_told, texts_there, same_front, texts_rise, lower, front_or_above}
use Rattle.collections.proofs.BehindLemmas.{front_between, all_told, few_told, within_end, IsAfter, IsFront, front_of, rises_front, each_back, rises_back}
use Rattle.collections.proofs.BehindLemmas.{front_below}

-- ---- what a range of entries tells

front_rest : (m n : ℕ) (rest : List ℕ) → key_under m n [] ++ rest ≡ key_under m n rest
front_rest m n rest =
    append_assoc (to_be_bytes w32 m) (to_be_bytes w32 n ++ []) rest ∙ ap (λ (l : List ℕ). to_be_bytes w32 m ++ l) (append_assoc (to_be_bytes w32 n) [] rest)

module _ (now : List Collection) (at : Indexed) (first last : List ℕ) (bounds : Bounds) (limit : ℕ) (read : List Entry) (next : Option (List ℕ))
    (p : IsInTree (λ entries (u : Unit {0}). IsBatch limit (between bounds entries) read next) now tt)
    (place : IsNumberedIndex at.collection.number at.definition.number now at)
    (from : bounds.from.now ≡ key_under at.collection.number at.definition.number first)
    (ends : IsEndOf (key_under at.collection.number at.definition.number last) (option_map (λ b. b.now) bounds.to)) where
  abbrev c : Collection
  c = at.collection

  abbrev i : Definition
  i = at.definition

  abbrev front : List ℕ
  front = key_under c.number i.number []

  abbrev to : Option (List ℕ)
  to = option_map (λ b. b.now) bounds.to

  at_front : IsFront limit (window bounds.from.now to p.entries) read next
  at_front = front_of limit (between bounds p.entries) read next p.right

  kept : IsKept c
  kept = (found_collection now c.name c p.state place.numbered.found).0

  number_small : c.number < 2 ^ 32
  number_small = number_fits c kept

  index_small : i.number ≤ 16
  index_small = (listed_of c i kept (among_of c.indexes i place.listed)).lawful.most

  listed : (x : Entry) → Among x p.entries → (text : List ℕ) → x.key ≡ key_under c.number i.number text → Among x (entries_in c i)
  listed x there text is =
      among_of (entries_in c i) x ((lists_index p.entries now c i (record { lawful = p.state; spells = p.spells }) place.numbered.found place.listed x).0
      (contains_of (entries_under c.number i.number p.entries) x
      (window_among front (Some (key_under c.number (i.number + 1) [])) p.entries x there
      (ap (λ (k : List ℕ). is_inside front (Some (key_under c.number (i.number + 1) [])) k) is
      ∙ inside_there c.number i.number text number_small (omega (arith, index_small))))))

  in_tree : (x : Entry) → Among x (entries_in c i) → Among x p.entries
  in_tree x there =
      (among_window front (Some (key_under c.number (i.number + 1) [])) p.entries x
      (among_of (entries_under c.number i.number p.entries) x
      ((lists_index p.entries now c i (record { lawful = p.state; spells = p.spells }) place.numbered.found place.listed x).1
      (contains_of (entries_in c i) x there)))).0

  -- an entry's text is one of a document
  text_of : (x : Entry) (text : List ℕ) → x.key ≡ key_under c.number i.number text → Among x (entries_in c i) → IsEntryText c.documents i text
  text_of x text is there =
      let d = among_flat (λ (e : Pairs). index_entries c.number e i) x c.documents there in
      let k = among_map (index_entry c.number i.number (key_of d.0)) x (encoded_keys i.fields d.0) d.2 in (
        d.0,
        k.0,
        contains_of c.documents d.0 d.1,
        contains_of (encoded_keys i.fields d.0) k.0 k.1,
        same_rest c.number c.number i.number i.number text (k.0 ++ tree_text (key_of d.0)) (sym is ∙ ap (λ (y : Entry). y.key) k.2),
      )

  -- a document's text is one of an entry
  entry_of : (text : List ℕ) → IsEntryText c.documents i text → (x : Entry) × Among x (entries_in c i) × (x.key ≡ key_under c.number i.number text)
  entry_of text t =
      let x : Entry = index_entry c.number i.number (key_of t.0) t.1 in (
        x,
        among_each (λ (e : Pairs). index_entries c.number e i) x t.0 c.documents (among_of c.documents t.0 t.2)
            (key_among c.number i t.0 t.1 (among_of (encoded_keys i.fields t.0) t.1 t.3)),
        ap (key_under c.number i.number) (sym t.4),
      )

  -- it lies in the range
  in_range : (text : List ℕ) → LiesBetween first last text → is_inside bounds.from.now to (key_under c.number i.number text) ≡ true
  in_range text lies =
      (λ t. not (low t) && high t)
    where
      low : is_lt (key_cmp (key_under c.number i.number text) bounds.from.now) ≡ false
      low =
          ap (λ (k : List ℕ). is_lt (key_cmp k bounds.from.now)) (sym (front_rest c.number i.number text))
          ∙ ap (λ (k : List ℕ). is_lt (key_cmp (front ++ text) k)) (from ∙ sym (front_rest c.number i.number first))
          ∙ ap is_lt (same_front front text first) ∙ lies.0

      high : is_within to (key_under c.number i.number text) ≡ true
      high =
          ap (is_within to) (sym (front_rest c.number i.number text))
          ∙ within_end front last text to (subst (λ (k : List ℕ). IsEndOf k to) (sym (front_rest c.number i.number last)) ends) lies.1

  -- the keys in the range rise
  up : Rises (entry_keys (read ++ at_front.rest))
  up = subst (λ (xs : List Entry). Rises (entry_keys xs)) at_front.is (window_rises bounds.from.now to p.entries p.spells.rises)

  -- one that lies between the ends was read, or stands behind what was read
  either_place : (text : List ℕ) → IsEntryText c.documents i text → LiesBetween first last text
      → (x : Entry) × (x.key ≡ key_under c.number i.number text) × (Among x read ⊎ Among x at_front.rest)
  either_place text h lies =
      let x = entry_of text h in
      let inside : is_inside bounds.from.now to x.0.key ≡ true = ap (is_inside bounds.from.now to) x.2 ∙ in_range text lies in (
        x.0,
        x.2,
        among_append x.0 read at_front.rest
            (subst (λ (xs : List Entry). Among x.0 xs) at_front.is (window_among bounds.from.now to p.entries x.0 (in_tree x.0 x.1) inside)),
      )

  there_by : (text : List ℕ) (x : Entry) → x.key ≡ key_under c.number i.number text → Among x read → Contains (texts_behind front read) text
  there_by text x is there = contains_of (texts_behind front read) text (texts_there front read x text there (is ∙ sym (front_rest c.number i.number text)))

  -- all that were read, and those behind, are in the range
  ranged : (x : Entry) → Among x (read ++ at_front.rest) → Among x p.entries × (is_inside bounds.from.now to x.key ≡ true)
  ranged x there = among_window bounds.from.now to p.entries x (subst (λ (xs : List Entry). Among x xs) (sym at_front.is) there)

  from_first : (x : Entry) → Among x (read ++ at_front.rest) → is_lt (key_cmp x.key (front ++ first)) ≡ false
  from_first x there =
      ap (λ (k : List ℕ). is_lt (key_cmp x.key k)) (front_rest c.number i.number first ∙ sym from)
      ∙ not_and (is_lt (key_cmp x.key bounds.from.now)) (is_within to x.key) (ranged x there).1
    where
      not_and : (a b : Bool) → (not a && b) ≡ true → a ≡ false
      not_and true b e = absurd cc
      not_and false b e = refl

  -- the text of one of them that has one
  text_from : (x : Entry) → Among x (read ++ at_front.rest) → (text : List ℕ) → x.key ≡ front ++ text → IsTextFrom first at text
  text_from x there text is =
      let key : x.key ≡ key_under c.number i.number text = is ∙ front_rest c.number i.number text in (
        text_of x text key (listed x (ranged x there).0 text key),
        ap is_lt (sym (same_front front text first)) ∙ ap (λ (k : List ℕ). is_lt (key_cmp k (front ++ first))) (sym is) ∙ from_first x there,
      )

  abbrev AreAllRead : Type 0
  AreAllRead = (text : List ℕ) → IsEntryText c.documents i text → LiesBetween first last text → Contains (texts_behind front read) text

  -- nothing of the index stands behind what was read
  all_read : ((text : List ℕ) (x : Entry) → x.key ≡ key_under c.number i.number text → Among x at_front.rest → ⊥) → AreAllRead
  all_read none text h lies =
      let x = either_place text h lies in ⊎_elim (λ there. there_by text x.0 x.1 there) (λ behind. absurd (none text x.0 x.1 behind)) x.2

  abbrev Behind : Option (List ℕ) → Type 0
  Behind o = MatchOption o AreAllRead (AreTextsBelow first limit at (texts_behind front read))

  module _ (after : Entry) (others : List Entry) (rest_is : at_front.rest ≡ after ∷ others) (full : length read ≡ limit) where
    after_there : Among after (read ++ at_front.rest)
    after_there = among_back after read at_front.rest (subst (λ (xs : List Entry). Among after xs) (sym rest_is) (inl refl))
      where
        among_back : (x : Entry) (xs ys : List Entry) → Among x ys → Among x (xs ++ ys)
        among_back x [] ys h = h
        among_back x (y ∷ xs) ys h = inr (among_back x xs ys h)

    -- all of them are below the next one, or stand behind it
    over_after : (x : Entry) → Among x at_front.rest → is_lt (key_cmp x.key after.key) ≡ false
    over_after x there = at_place (subst (λ (xs : List Entry). Among x xs) rest_is there)
      where
        at_place : Among x (after ∷ others) → is_lt (key_cmp x.key after.key) ≡ false
        at_place (inl same) = ap is_lt (ap (λ (y : Entry). key_cmp y.key after.key) same ∙ tied_itself nat_list_cmp_total after.key)
        at_place (inr there) =
            let up_rest : Rises (entry_keys (after ∷ others)) = subst (λ (xs : List Entry). Rises (entry_keys xs)) rest_is (rises_back read at_front.rest up) in
            ap is_lt (nat_list_cmp_total.antisymm x.key after.key ∙ ap ordering_reverse (each_back (IsUnder after.key) [] others x up_rest.0 there))

    before_after : (x : Entry) → Among x read → IsUnder x.key after.key
    before_after x there = front_below read at_front.rest x after up there (subst (λ (xs : List Entry). Among after xs) (sym rest_is) (inl refl))

    -- Where it has no text, no other behind it has one.
    none_after : text_behind front after.key ≡ None → (text : List ℕ) (x : Entry) → x.key ≡ key_under c.number i.number text → Among x at_front.rest → ⊥
    none_after none text x is there = elim (front_or_above front after.key first (from_first after after_there)) [
      | inl continues ↦ (let e : Some continues.0 ≡ None = sym (ap (text_behind front) continues.1 ∙ text_there front continues.0) ∙ none in cc)
      | inr above ↦ lower x.key after.key (over_after x there)
          (ap (λ (k : List ℕ). key_cmp k after.key) (is ∙ sym (front_rest c.number i.number text)) ∙ above text)
    ]

    below_after : (text : List ℕ) → after.key ≡ front ++ text → AreTextsBelow first limit at (texts_behind front read) text
    below_after text is = record {
      there = text_from after after_there text is;
      below = λ other h.
          let y = texts_told front read other (among_of (texts_behind front read) other h) in
          sym (same_front front other text) ∙ (λ t. key_cmp (sym y.2 t) (sym is t)) ∙ before_after y.0 y.1;
      all = λ other h under.
          let y = entry_of other h.0 in
          let key : y.0.key ≡ front ++ other = y.2 ∙ sym (front_rest c.number i.number other) in
          let lower_key : IsUnder y.0.key after.key = (λ t. key_cmp (key t) (is t)) ∙ same_front front other text ∙ under in
          let low : is_lt (key_cmp y.0.key bounds.from.now) ≡ false =
          (λ t. is_lt (key_cmp (key t) ((from ∙ sym (front_rest c.number i.number first)) t))) ∙ ap is_lt (same_front front other first) ∙ h.1 in
          let inside : is_inside bounds.from.now to y.0.key ≡ true =
          (λ t. not (low t) && within_too to after.key y.0.key (and_true (not (is_lt (key_cmp after.key bounds.from.now))) (is_within to after.key)
          (ranged after after_there).1) lower_key t) in
          let there = among_append y.0 read at_front.rest
          (subst (λ (xs : List Entry). Among y.0 xs) at_front.is (window_among bounds.from.now to p.entries y.0 (in_tree y.0 y.1) inside)) in
          ⊎_elim (λ g. there_by other y.0 y.2 g) (λ behind. absurd (lower y.0.key after.key (over_after y.0 behind) lower_key)) there;
      full = all_told front first read (λ x there. front_between front x.key first text (from_first x (among_front x read at_front.rest there))
          (ap (key_cmp x.key) (sym is) ∙ before_after x there)) ∙ full;
    }
      where
        and_true : (a b : Bool) → (a && b) ≡ true → b ≡ true
        and_true true b e = e
        and_true false b e = absurd cc

        within_too : (high : Option (List ℕ)) (a b : List ℕ) → is_within high a ≡ true → IsUnder b a → is_within high b ≡ true
        within_too None a b e under = refl
        within_too (Some high) a b e under = ap is_lt (under_trans b a high under (less_of (key_cmp a high) e))
          where
            less_of : (o : Ordering) → is_lt o ≡ true → o ≡ Less
            less_of Less e = refl
            less_of Equal e = absurd cc
            less_of Greater e = absurd cc

    behind_after : Behind (text_behind front after.key)
    behind_after = elim (either_text front after.key) [
      | inl found ↦ subst Behind (sym found.0) (below_after (drop (length front) after.key) found.1)
      | inr none ↦ subst Behind (sym none) (all_read (none_after none))
    ]

  behind_read : (o : Option (List ℕ)) → MatchOption o (at_front.rest ≡ []) (IsAfter limit read at_front.rest) → Behind (next_behind front o)
  behind_read None none = all_read (λ text x is there. absurd (subst (λ (xs : List Entry). Among x xs) none there))
  behind_read (Some key) one = subst (λ (k : List ℕ). Behind (text_behind front k)) one.key_is (behind_after one.after one.others one.is one.full)

  pub texts_right : AreNextTexts first last limit at (next_behind front next) (texts_behind front read)
  texts_right = record {
    rise = texts_rise front read (rises_front read at_front.rest up);
    given = λ text h.
        let x = texts_told front read text (among_of (texts_behind front read) text h) in
        text_from x.0 (among_front x.0 read at_front.rest x.1) text x.2;
    most = omega (arith, few_told front read, at_front.few);
    behind = behind_read next at_front.behind;
  }

-- by the numbers that are asked for
pub texts_asked : (now : List Collection) (at : Indexed) (number index : ℕ) (first last : List ℕ) (bounds : Bounds) (start read : TextReading)
    (told : Option (List ℕ)) → IsInTree (λ entries (u : Unit {0}). AreTextsRead start (between bounds entries) read) now tt
    → IsNumberedIndex number index now at
    → bounds.from.now ≡ key_under number index first → IsEndOf (key_under number index last) (option_map (λ b. b.now) bounds.to)
    → start.front.now ≡ key_under number index []
    → told ≡ next_behind (key_under number index []) (option_map (λ v. v.items) read.next)
    → AreNextTexts first last start.most at told (texts_of read.texts.items)
texts_asked now at number index first last bounds start read told p place from ends fronts_are told_is =
    let numbers : number ≡ at.collection.number = sym place.numbered.same in
    let indexes : index ≡ at.definition.number = sym place.same in
    let own : IsNumberedIndex at.collection.number at.definition.number now at =
    record { numbered = record { found = place.numbered.found; same = refl }; listed = place.listed; same = refl } in
    let next : Option (List ℕ) = option_map (λ v. v.items) read.next in
    let entries : List Entry = p.right.entries in
    let batch : IsInTree (λ es (u : Unit {0}). IsBatch start.most (between bounds es) entries next) now tt =
    record { entries = p.entries; spells = p.spells; state = p.state; right = p.right.batch } in
    let right = texts_right now at first last bounds start.most entries next batch own (from ∙ (λ t. key_under (numbers t) (indexes t) first))
    (subst (λ (k : List ℕ). IsEndOf k (option_map (λ b. b.now) bounds.to)) (λ t. key_under (numbers t) (indexes t) last) ends) in
    let fronts : key_under number index [] ≡ key_under at.collection.number at.definition.number [] = λ t. key_under (numbers t) (indexes t) [] in
    subst (λ (o : Option (List ℕ)). AreNextTexts first last start.most at o (texts_of read.texts.items))
    (sym (told_is ∙ ap (λ (k : List ℕ). next_behind k next) fronts))
    (subst (AreNextTexts first last start.most at (next_behind (key_under at.collection.number at.definition.number []) next))
    (sym (p.right.texts ∙ ap (λ (k : List ℕ). texts_behind k entries) (fronts_are ∙ fronts))) right)

-- ---- the first ones of all

module _ (first last : List ℕ) (limit : ℕ) (at : Indexed) (texts : List (List ℕ)) where
  abbrev IsEntry : List ℕ → Type 0
  IsEntry text = IsEntryText at.collection.documents at.definition text

  abbrev IsBehind : Option (List ℕ) → Type 0
  IsBehind o = MatchOption o ((text : List ℕ) → IsEntry text → LiesBetween first last text → Contains texts text) (AreTextsBelow first limit at texts)

  above_others : (o : Option (List ℕ)) → IsBehind o → (text other : List ℕ) → IsEntry text → LiesBetween first last text → Contains texts other
      → Contains texts text ⊎ (key_cmp other text ≡ Less)
  above_others None all text other is lies there = inl (all text is lies)
  above_others (Some t) below text other is lies there = elim (three (key_cmp text t)) [
    | inl less ↦ inl (below.all text (is, lies.0) less)
    | inr more ↦ inr (under_then_up_to other t text (below.below other there) (not_less (key_cmp text t) more))
  ]
    where
      not_less : (o : Ordering) → (o ≡ Equal) ⊎ (o ≡ Greater) → o ≡ Less → ⊥
      not_less o (inl e) f = let g : Equal ≡ Less = sym e ∙ f in cc
      not_less o (inr e) f = let g : Greater ≡ Less = sym e ∙ f in cc

  none_behind : (o : Option (Vec ℕ)) → IsBehind (option_map (λ v. v.items) o) → is_some o ≡ false → (text : List ℕ) → IsEntry text
      → LiesBetween first last text → Contains texts text
  none_behind None all e = all
  none_behind (Some t) below e = absurd cc

  pub first_of_next : (next : Option (Vec ℕ)) (are_all : Bool) → is_some next ≡ not are_all
      → AreNextTexts first last limit at (option_map (λ v. v.items) next) texts → AreFirstTexts first last at are_all texts
  first_of_next next are_all end h = record {
    rise = h.rise;
    given = λ text there. (h.given text there).0;
    above = λ text other is lies there. above_others (option_map (λ v. v.items) next) h.behind text other is lies there;
    all = λ whole text is lies. none_behind next h.behind (end ∙ ap not whole) text is lies;
  }

-- where they are all
pub all_texts : (first last : List ℕ) (at : Indexed) (are_all : Bool) (texts : List (List ℕ)) → are_all ≡ true → AreFirstTexts first last at are_all texts
    → AreTextsBetween first last at texts
all_texts first last at are_all texts whole h = record { rise = h.rise; given = h.given; all = h.all whole }
