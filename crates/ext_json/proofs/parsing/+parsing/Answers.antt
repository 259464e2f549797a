use Rattle.std.proofs.Common.{ℕ, ◌+◌, Ok, List, Option, sym, ap, subst, ◌∙◌, arith}
use Rattle.std.specs.Prelude.{option_map}
use Rattle.std.specs.Borrow.{Bor}
use Rattle.std.proofs.lemmas.Result.{err_from_is_err_and}
use Rattle.json.specs.Reads.{token_of}
use Rattle.bson.specs.View.{tree, names_of}
use Rattle.bson.specs.declared.value.Pair.{Pair}
use Rattle.bson.specs.declared.value.Value.{Value}
use Rattle.bson.specs.Lookup.{stands_in}
use Rattle.ext_json.specs.Tokens.{first, rest}
use Rattle.ext_json.specs.Parsing.{is_end}
use Rattle.ext_json.proofs.ParsingLemmas.{PairsSoFar, ItemsSoFar, value_as, pairs_deep, items_deep, document_fails, document_found, array_fails, array_found}
use Rattle.ext_json.proofs.ParsingLemmas.{turn_before, turns_over, pairs_over, pairs_ended, name_fails, value_fails, key_fails, pair_read, names_push}
use Rattle.ext_json.proofs.ParsingLemmas.{items_over, items_ended, item_fails, item_read}
use Rattle.ext_json.proofs.parsing.+parsing.Goals as goal

-- ---- values

pub take_array-returns-then-more-eq0-clause-gives : goal.take_array-returns-then-more-eq0-clause-gives
take_array-returns-then-more-eq0-clause-gives t c = λ other. items_deep c.args.more c.args.tokens.now c.if-more-eq0.true

pub take_array-returns-in_err-array-clause-gives : goal.take_array-returns-in_err-array-clause-gives
take_array-returns-in_err-array-clause-gives t c =
    let p = err_from_is_err_and c.from_residual.result c.from_residual.ensures.1 in
    rw (p.1, p.2) (array_fails c.args.more c.args.tokens.now c.in_err-array.field-0.0 (omega (arith, c.if-more-eq0.false)) c.in_err-array.ensures.gives)

pub take_array-returns-clause-gives : goal.take_array-returns-clause-gives
take_array-returns-clause-gives t c =
    array_found c.args.more c.args.tokens.now c.take_items.new.tokens c.in_ok-array.array (omega (arith, c.if-more-eq0.false)) c.in_ok-array.ensures.gives

pub take_inner-returns-then-more-eq0-clause-gives : goal.take_inner-returns-then-more-eq0-clause-gives
take_inner-returns-then-more-eq0-clause-gives t c = λ other. pairs_deep c.args.more _ c.args.tokens.now c.if-more-eq0.true

pub take_inner-returns-in_err-document-clause-gives : goal.take_inner-returns-in_err-document-clause-gives
take_inner-returns-in_err-document-clause-gives t c =
    let p = err_from_is_err_and c.from_residual.result c.from_residual.ensures.1 in
    rw (p.1, p.2)
    (document_fails c.args.more (option_map (λ (s : Bor (List ℕ)). s.now) c.args.first) c.args.tokens.now c.in_err-document.field-0.0
    (omega (arith, c.if-more-eq0.false)) c.in_err-document.ensures.gives)

pub take_inner-returns-clause-gives : goal.take_inner-returns-clause-gives
take_inner-returns-clause-gives t c =
    document_found c.args.more (option_map (λ (s : Bor (List ℕ)). s.now) c.args.first) c.args.tokens.now c.take_pairs.new.tokens c.in_ok-document.document
    (omega (arith, c.if-more-eq0.false)) c.in_ok-document.ensures.gives

-- ---- items

pub take_items-returns-then-is_end-clause-gives : goal.take_items-returns-then-is_end-clause-gives
take_items-returns-then-is_end-clause-gives t c =
    let over = items_over c.args.more c.args.tokens.now c.items._turn c.items.items.items c.items.tokens c.items.invariant
    (turn_before c.items._turn c.items-test.true)
    (ap is_end (sym c.next-token.ensures.token) ∙ sym c.is_end.ensures ∙ c.if-is_end.true) in
    over ∙ (λ i. Ok (sym c.from_items.ensures i, sym c.next-token.ensures.rest i))

pub take_items-returns-in_err-value-clause-gives : goal.take_items-returns-in_err-value-clause-gives
take_items-returns-in_err-value-clause-gives t c =
    let p = err_from_is_err_and c.from_residual.result c.from_residual.ensures.1 in
    let no_end = ap is_end (sym c.next-token.ensures.token) ∙ sym c.is_end.ensures ∙ c.if-is_end.false in
    let value = value_as c.args.more (token_of c.next-token.result) (first c.items.tokens) c.next-token.new.self
    (rest c.items.tokens) c.next-token.ensures.token c.next-token.ensures.rest in
    rw (p.1, p.2)
    (item_fails c.args.more c.args.tokens.now c.items._turn c.items.items.items c.items.tokens c.in_err-value.field-0.0 c.items.invariant
    (turn_before c.items._turn c.items-test.true) no_end
    (λ other. sym value ∙ c.in_err-value.ensures.gives other))

pub take_items-items-preserved : goal.take_items-items-preserved
take_items-items-preserved t c =
    let no_end = ap is_end (sym c.next-token.ensures.token) ∙ sym c.is_end.ensures ∙ c.if-is_end.false in
    let value = value_as c.args.more (token_of c.next-token.result) (first c.items.tokens) c.next-token.new.self
    (rest c.items.tokens) c.next-token.ensures.token c.next-token.ensures.rest in
    subst (λ (vs : List Value). ItemsSoFar c.args.more c.args.tokens.now (c.items._turn + 1) vs c.take_value.new.tokens) (sym c.in_ok-push.ensures.items)
    (item_read c.args.more c.args.tokens.now c.items._turn c.items.items.items c.in_ok-value.value c.items.tokens c.take_value.new.tokens c.items.invariant
    (turn_before c.items._turn c.items-test.true) c.requires no_end
    (sym value ∙ c.in_ok-value.ensures.gives) c.look.ensures c.in_ok-value.ensures.levels)

pub take_items-returns-clause-gives : goal.take_items-returns-clause-gives
take_items-returns-clause-gives t c =
    λ other. items_ended c.args.more c.args.tokens.now c.items._turn c.items.items.items c.items.tokens c.items.invariant
    (turns_over c.items._turn c.items-test.false)

-- ---- pairs

pub take_pairs-pairs-preserved : goal.take_pairs-pairs-preserved
take_pairs-pairs-preserved t c =
    let so_far =
    subst (λ (o : Option (Bor (List ℕ))). PairsSoFar c.args.more
    (option_map (λ (s : Bor (List ℕ)). s.now) c.args.first) c.args.tokens.now c.pairs._turn c.pairs.pairs.items
    (option_map (λ (s : Bor (List ℕ)). s.now) o) c.pairs.tokens) c.in-Some.is c.pairs.invariant.0 in
    let value = value_as c.args.more (token_of c.next-token.result) (first c.pairs.tokens) c.next-token.new.self
    (rest c.pairs.tokens) c.next-token.ensures.token c.next-token.ensures.rest in
    let p : Pair = record { name = c.in_ok-text.text; value = c.in_ok-value.value } in
    let read = pair_read c.args.more
    (option_map (λ (s : Bor (List ℕ)). s.now) c.args.first) c.args.tokens.now c.pairs._turn c.pairs.pairs.items p c.in-Some.name.now c.pairs.tokens
    c.take_value.new.tokens c.pairs.names (option_map (λ (s : Bor (List ℕ)). s.now) c.in_ok-next.next) c.key.new.self
    c.in_ok-text.ensures so_far (turn_before c.pairs._turn c.pairs-test.true) c.requires c.pairs.invariant.1 c.in_ok-take_name.ensures.gives
    (sym value ∙ c.in_ok-value.ensures.gives) c.in_ok-next.ensures c.in_ok-take_name.ensures.lawful c.look.ensures c.in_ok-value.ensures.levels in
    let named = names_push c.pairs.names c.take_name.new.names c.pairs.pairs.items p c.in-Some.name.now c.in_ok-text.ensures c.pairs.invariant.1
    c.in_ok-take_name.ensures.names in (
      subst (λ (ps : List Pair). PairsSoFar c.args.more (option_map (λ (s : Bor (List ℕ)). s.now) c.args.first) c.args.tokens.now (c.pairs._turn + 1) ps
          (option_map (λ (s : Bor (List ℕ)). s.now) c.in_ok-next.next) c.key.new.self) (sym c.in_ok-push.ensures.items) read,
      λ other. named other ∙ ap (λ (ps : List Pair). stands_in (names_of ps) other) (sym c.in_ok-push.ensures.items),
    )

pub take_pairs-returns-clause-gives : goal.take_pairs-returns-clause-gives
take_pairs-returns-clause-gives t c =
    λ other. pairs_ended c.args.more (option_map (λ (s : Bor (List ℕ)). s.now) c.args.first) c.args.tokens.now c.pairs._turn c.pairs.pairs.items
    (option_map (λ (s : Bor (List ℕ)). s.now) c.pairs.next) c.pairs.tokens c.pairs.invariant.0 (turns_over c.pairs._turn c.pairs-test.false)

pub take_pairs-returns-in-None-clause-gives : goal.take_pairs-returns-in-None-clause-gives
take_pairs-returns-in-None-clause-gives t c =
    let so_far =
    subst (λ (o : Option (Bor (List ℕ))). PairsSoFar c.args.more
    (option_map (λ (s : Bor (List ℕ)). s.now) c.args.first) c.args.tokens.now c.pairs._turn c.pairs.pairs.items
    (option_map (λ (s : Bor (List ℕ)). s.now) o) c.pairs.tokens) c.in-None.is c.pairs.invariant.0 in
    pairs_over c.args.more (option_map (λ (s : Bor (List ℕ)). s.now) c.args.first) c.args.tokens.now c.pairs._turn c.pairs.pairs.items c.pairs.tokens so_far
    (turn_before c.pairs._turn c.pairs-test.true)
    ∙ (λ i. Ok (sym c.from_pairs.ensures i, c.pairs.tokens))

pub take_pairs-returns-in_err-next-clause-gives : goal.take_pairs-returns-in_err-next-clause-gives
take_pairs-returns-in_err-next-clause-gives t c =
    let so_far =
    subst (λ (o : Option (Bor (List ℕ))). PairsSoFar c.args.more
    (option_map (λ (s : Bor (List ℕ)). s.now) c.args.first) c.args.tokens.now c.pairs._turn c.pairs.pairs.items
    (option_map (λ (s : Bor (List ℕ)). s.now) o) c.pairs.tokens) c.in-Some.is c.pairs.invariant.0 in
    let value = value_as c.args.more (token_of c.next-token.result) (first c.pairs.tokens) c.next-token.new.self
    (rest c.pairs.tokens) c.next-token.ensures.token c.next-token.ensures.rest in
    let p = err_from_is_err_and c.from_residual-in_err-next.result c.from_residual-in_err-next.ensures.1 in
    rw (p.1, p.2)
    (λ other. key_fails c.args.more
    (option_map (λ (s : Bor (List ℕ)). s.now) c.args.first) c.args.tokens.now c.pairs._turn c.pairs.pairs.items c.in-Some.name.now c.pairs.tokens
    c.take_value.new.tokens c.pairs.names (tree c.in_ok-value.value) c.in_err-next.field-0.0
    so_far (turn_before c.pairs._turn c.pairs-test.true) c.pairs.invariant.1 c.in_ok-take_name.ensures.gives
    (sym value ∙ c.in_ok-value.ensures.gives) c.in_err-next.ensures)

pub take_pairs-returns-in_err-take_name-clause-gives : goal.take_pairs-returns-in_err-take_name-clause-gives
take_pairs-returns-in_err-take_name-clause-gives t c =
    let so_far =
    subst (λ (o : Option (Bor (List ℕ))). PairsSoFar c.args.more
    (option_map (λ (s : Bor (List ℕ)). s.now) c.args.first) c.args.tokens.now c.pairs._turn c.pairs.pairs.items
    (option_map (λ (s : Bor (List ℕ)). s.now) o) c.pairs.tokens) c.in-Some.is c.pairs.invariant.0 in
    let p = err_from_is_err_and c.from_residual.result c.from_residual.ensures.1 in
    rw (p.1, p.2)
    (name_fails c.args.more
    (option_map (λ (s : Bor (List ℕ)). s.now) c.args.first) c.args.tokens.now c.pairs._turn c.pairs.pairs.items c.in-Some.name.now c.pairs.tokens c.pairs.names
    c.in_err-take_name.field-0.0
    so_far (turn_before c.pairs._turn c.pairs-test.true) c.pairs.invariant.1 c.in_err-take_name.ensures.gives)

pub take_pairs-returns-in_err-value-clause-gives : goal.take_pairs-returns-in_err-value-clause-gives
take_pairs-returns-in_err-value-clause-gives t c =
    let so_far =
    subst (λ (o : Option (Bor (List ℕ))). PairsSoFar c.args.more
    (option_map (λ (s : Bor (List ℕ)). s.now) c.args.first) c.args.tokens.now c.pairs._turn c.pairs.pairs.items
    (option_map (λ (s : Bor (List ℕ)). s.now) o) c.pairs.tokens) c.in-Some.is c.pairs.invariant.0 in
    let value = value_as c.args.more (token_of c.next-token.result) (first c.pairs.tokens) c.next-token.new.self
    (rest c.pairs.tokens) c.next-token.ensures.token c.next-token.ensures.rest in
    let p = err_from_is_err_and c.from_residual-in_err-value.result c.from_residual-in_err-value.ensures.1 in
    rw (p.1, p.2)
    (value_fails c.args.more
    (option_map (λ (s : Bor (List ℕ)). s.now) c.args.first) c.args.tokens.now c.pairs._turn c.pairs.pairs.items c.in-Some.name.now c.pairs.tokens c.pairs.names
    c.in_err-value.field-0.0
    so_far (turn_before c.pairs._turn c.pairs-test.true) c.pairs.invariant.1 c.in_ok-take_name.ensures.gives
    (λ other. sym value ∙ c.in_err-value.ensures.gives other))
