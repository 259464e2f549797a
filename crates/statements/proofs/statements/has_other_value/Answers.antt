use Rattle.std.proofs.Common.{◌≡◌, ◌≢◌, ◌⊎◌, inl, inr, sym, ◌∙◌}
use Rattle.std.specs.declared.cmp.Ordering.{Ordering}
use Rattle.std.specs.declared.cmp.Ordering.TheVariants as orders
use Rattle.statements.proofs.Applied.{other_values}
use Rattle.statements.proofs.statements.has_other_value.Goals as goal

not_equal : (o : Ordering) → (o ≡ orders.Less) ⊎ (o ≡ orders.Greater) → o ≢ orders.Equal
not_equal o (inl e) same = absurd (let no = sym e ∙ same in cc)
not_equal o (inr e) same = absurd (let no = sym e ∙ same in cc)

pub returns-in-Less : goal.returns-in-Less
returns-in-Less c = λ _ same.
    other_values c.args.a.now c.args.b.now c.pairs.i c.index-a-i.result c.index-b-i.result c.pairs-test.true c.if-b-i.false c.index-a-i.is c.index-b-i.is
    (λ e. not_equal c.compare.result c.in-Less.is (c.compare.ensures ∙ e)) same
