use Rattle.std.proofs.Common.{◌≡◌, drop, map}
use Rattle.driver_fields.specs.Rules.{is_one_of}
use Rattle.driver_fields.proofs.options.is_one_of.Given as goal

abbrev pub invariant-words : goal.invariant-words
invariant-words l = is_one_of (map (λ s. s.now) (drop l.word-index l.words)) l.text ≡ is_one_of (map (λ s. s.now) l.words) l.text
