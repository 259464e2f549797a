use Rattle.std.proofs.Common.{◌≡◌, ℕ, suc, ◌+◌, ◌<◌, ◌≤◌, ap, sym, arith, ◌∙◌}
use Rattle.bson.specs.Edits.{items_len, with_item}
use Rattle.driver_fields.specs.Cleaning.{kept_entry}
use Rattle.driver_fields.proofs.CleaningLemmas.{kept_from, item_there, one_kept, all_kept, items_len-with_item}
use Rattle.driver_fields.proofs.cleaning.kept_entries.Goals as goal

pub entries-preserved : goal.entries-preserved
entries-preserved c =
    let within : c.entries.at < items_len c.entries.entries = omega (arith, c.entries-test.true, c.len-at-end.ensures, c.entries.invariant.as_many) in
    let there = item_there c.entries.entries c.entries.at within in
    let grown : c.keep_entry.new.entries ≡ with_item c.entries.entries c.entries.at (kept_entry c.args.whose there.0) = c.keep_entry.ensures there.0 there.1 in
    let next : c.entries.at + 1 ≡ suc c.entries.at = omega arith in
    record {
      left =
          ap (λ (i : ℕ). kept_from c.args.whose i c.keep_entry.new.entries) next
          ∙ ap (kept_from c.args.whose (suc c.entries.at)) grown
          ∙ one_kept c.args.whose c.entries.entries c.entries.at there.0 there.1
          ∙ c.entries.invariant.left;
      as_many = ap items_len grown ∙ items_len-with_item c.entries.entries c.entries.at (kept_entry c.args.whose there.0) ∙ c.entries.invariant.as_many;
    }

pub returns : goal.returns
returns c =
    let beyond : items_len c.entries.entries ≤ c.entries.at = omega (arith, c.entries-test.false, c.len-at-end.ensures, c.entries.invariant.as_many) in
    sym (all_kept c.args.whose c.entries.entries c.entries.at beyond) ∙ c.entries.invariant.left
