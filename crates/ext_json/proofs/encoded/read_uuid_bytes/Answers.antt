use Rattle.std.proofs.Common.{◌≡◌, ℕ, Bool, ap, ◌∙◌, true, rules, List, length, Option, Some, None, Result, Err, refl}
use Rattle.std.specs.Prelude.{◌==◌, not}
use Rattle.uuid.specs.Text.{parsed}
use Rattle.outcome.specs.Outcome.{unless, or_refused}
use Rattle.ext_json.specs.Encoded.{uuid_in}
use Rattle.ext_json.specs.declared.fault.ExtJsonFault.{ExtJsonFault}
use Rattle.ext_json.specs.declared.fault.ExtJsonFault.TheVariants as faults
use Rattle.ext_json.proofs.encoded.read_uuid_bytes.Goals as goal

none : (o : Option (List ℕ)) → ((u : List ℕ) → o ≡ Some u → ⊥) → ◌≡◌ {A = Result (List ℕ) ExtJsonFault} (or_refused o faults.Wrapper) (Err faults.Wrapper)
none None h = refl
none (Some u) h = absurd (h u refl)

fails : (s : List ℕ) → (length s == 36) ≡ true → ((u : List ℕ) → parsed s ≡ Some u → ⊥) → uuid_in s ≡ Err faults.Wrapper
unfolding uuid_in
fails s is h = ap (λ (b : Bool). unless (not b) faults.Wrapper (or_refused (parsed s) faults.Wrapper)) is ∙ none (parsed s) h

pub returns-in-Err : goal.returns-in-Err
returns-in-Err c =
    let same : (length c.args.text.now == 36) ≡ true = search rules in
    fails c.args.text.now same (λ u e. let t = c.in-Err.ensures.ok.1 (u, e) in cc)
