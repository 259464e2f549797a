use Rattle.std.proofs.Common.{rules, ◌≡◌, ◌++◌, List, ℕ, ap, ◌∙◌}
use Rattle.std.specs.Int.{w64, to_le_bytes, cast_unsigned}
use Rattle.bson.specs.Spelling.{element}
use Rattle.driver_messages.proofs.WithIntegersLemmas.{element_put}
use Rattle.driver_messages.proofs.with_integers.put_int64.Goals as goal

pub returns : goal.returns
returns c =
    let bytes : c.to_le_bytes.result ≡ to_le_bytes w64 (cast_unsigned w64 c.args.number) = search rules in
    element_put 0x12 c.args.name.now _ _ _ _ c.in_ok-put_head.ensures c.in_ok-extend_from_slice.ensures.items
    ∙ ap (λ (x : List ℕ). c.args.out.now.items ++ element 0x12 c.args.name.now x) bytes
