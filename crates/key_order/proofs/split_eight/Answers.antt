use Rattle.std.proofs.Common.{◌≡◌, sym, ap, ◌++◌, ◌∙◌, drop, length, arith}
use Rattle.std.specs.Int.{w64, to_be_bytes}
use Rattle.std.proofs.lemmas.List.{take-append-drop, length-take}
use Rattle.std.proofs.lemmas.Nat.{be_bytes_8}
use Rattle.key_order.proofs.CompareLemmas.{fits_in_front}
use Rattle.key_order.proofs.split_eight.Goals as goal

pub returns-clause-parts : goal.returns-clause-parts
returns-clause-parts c =
    let parts = c.in_ok-front.ensures.cases in
    let bytes = c.args.bytes.now in
    let front = c.in_ok-front.front.now in
    let len : length front ≡ 8 = ap length parts.0 ∙ length-take 8 bytes ∙ omega (arith, parts.2) in
    let fits = fits_in_front 8 bytes front parts.0 (λ i. omega (arith, c.type_inv.bytes i)) in
    let written = be_bytes_8 front c.from_be_bytes.result len fits c.from_be_bytes.ensures in
    sym (take-append-drop 8 bytes) ∙ ap (λ xs. xs ++ drop 8 bytes) (sym (parts.0) ∙ sym written)
    ∙ ap (λ xs. to_be_bytes w64 c.from_be_bytes.result ++ xs) (sym parts.1)
