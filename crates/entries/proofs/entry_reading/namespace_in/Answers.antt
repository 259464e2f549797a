use Rattle.std.proofs.Common.{◌≡◌, ℕ, List, Some, false, sym, ap, subst, ◌∙◌}
use Rattle.std.specs.Prelude.{IsUtf8}
use Rattle.value_order.specs.KeyText.{tree_text}
use Rattle.entries.specs.Escaping.{unescaped}
use Rattle.entry_model.specs.State.{words}
use Rattle.entry_model.specs.StateEntries.{key_under}
use Rattle.entries.proofs.ReadingLemmas.{name_behind, not_differing}
use Rattle.entries.proofs.entry_reading.namespace_in.Goals as goal

pub returns-in_default-clause-reads : goal.returns-in_default-clause-reads
returns-in_default-clause-reads c name utf8 e =
    let bytes : c.in_ok-bytes.bytes.items ≡ name =
    c.in_ok-bytes.ensures ∙ ap (λ (bs : List ℕ). unescaped false bs) c.split_at.ensures.back ∙ name_behind c.args.key.now name e in
    let refused = c.in_default.ensures.succeeds (subst IsUtf8 (sym bytes) utf8) in absurd cc

pub returns-then-ne-clause-reads : goal.returns-then-ne-clause-reads
returns-then-ne-clause-reads c name utf8 e =
    let bytes : c.in_ok-bytes.bytes.items ≡ name =
    c.in_ok-bytes.ensures ∙ ap (λ (bs : List ℕ). unescaped false bs) c.split_at.ensures.back ∙ name_behind c.args.key.now name e in
    let named : c.as_str.result.now ≡ name = c.as_str.ensures.value ∙ ap (λ v. v.items) c.in-Ok.ensures.ok ∙ bytes in
    absurd (not_differing c.as_slice.result.now c.args.key.now c.ne.result c.ne.ensures c.if-ne.true
    (c.as_slice.ensures.value ∙ c.in_ok-spelled.ensures ∙ ap (λ (s : List ℕ). key_under 0 0 (tree_text (words s))) named ∙ sym e))

pub returns-clause-reads : goal.returns-clause-reads
returns-clause-reads c name utf8 e =
    let bytes : c.in_ok-bytes.bytes.items ≡ name =
    c.in_ok-bytes.ensures ∙ ap (λ (bs : List ℕ). unescaped false bs) c.split_at.ensures.back ∙ name_behind c.args.key.now name e in
    ap (λ (s : List ℕ). Some s) (ap (λ v. v.items) c.in-Ok.ensures.ok ∙ bytes)
