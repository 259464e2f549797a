use Rattle.std.proofs.Common.{◌≡◌, ℕ, ◌-◌, inr, slice_index_or, arith, subst, sym, ◌∙◌, ap}
use Rattle.page.specs.Content.{Item}
use Rattle.tree_model.specs.Keys.{IsUnder, key_cmp}
use Rattle.tree_model.specs.Search.{IsPlace}
use Rattle.btree.proofs.folding.cell_behind.Goals as goal

pub returns-in-Less-clause-passed : goal.returns-in-Less-clause-passed
returns-in-Less-clause-passed c =
    let key = c.args.key.now in
    inr (record {
      within = omega arith;
      below = λ k d is.
          let last : k ≡ c.len-len.result - 1 = omega (arith, is) in
          ap (λ (n : ℕ). key_cmp (slice_index_or c.args.leaf.now n d).key key) last ∙ ap (λ l. key_cmp l key) (sym (c.leaf_key.ensures d))
          ∙ sym c.compare_keys.ensures ∙ c.in-Less.is;
      above = λ d lt. absurd (omega (arith, lt));
    })
