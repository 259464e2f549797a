use Rattle.std.proofs.Common.{◌≡◌, ◌<◌, ◌^◌, ℕ, List, Some, map, sym, ap, subst, ◌∙◌, ◌≤◌, length}
use Rattle.btree.specs.Scan.{entry_in}
use Rattle.entry_model.specs.State.{Collection}
use Rattle.entry_model.specs.StateEntries.{key_under}
use Rattle.bson.specs.Tree.{Pairs}
use Rattle.opening.specs.Judging.{HasItsKeys, IsStoredAt, index_in, listed_of, numbered}
use Rattle.opening.specs.Loading.{named_as, progress_of}
use Rattle.opening.specs.declared.loading.Loading.{Loading}
use Rattle.opening.proofs.LoadingLemmas.{document_judged, document_refused, key_judged, name_judged, name_refused, of_index, ok_on}
use Rattle.opening.proofs.loading.take_entry.Goals as goal

pub returns-then-index-ne0-clause-judges : goal.returns-then-index-ne0-clause-judges
returns-then-index-ne0-clause-judges g c =
    let now = c.args.told.now.value.now in
    let old = c.args.loading.now in
    let pair = entry_in c.args.entry.now in
    let index_is : c.in-Some.index ≡ index_in pair.key = c.in-Some.ensures.some.0 ∙ ap index_in c.deref.ensures.value in
    let long : 8 ≤ length pair.key = subst (λ (k : List ℕ). 8 ≤ length k) c.deref.ensures.value c.in-Some.ensures.some.1 in
    key_judged g.D.Disk.history c.args.file.now pair (progress_of old now) (progress_of c.take_key.new.loading now) c.take_key.result
    (ok_on c.take_key.result (λ same. ap (λ (l : Loading). progress_of l now) same) c.take_key.ensures.ok) c.take_key.ensures.err long
    (of_index pair c.in-Some.index index_is c.if-index-ne0.true)

pub returns-then-number-eq0-clause-judges : goal.returns-then-number-eq0-clause-judges
returns-then-number-eq0-clause-judges g c =
    let now = c.args.told.now.value.now in
    let old = c.args.loading.now in
    let pair = entry_in c.args.entry.now in
    let p = progress_of old now in
    let names = map named_as old.names.items in
    let no_index : index_in pair.key ≡ 0 = sym (c.in-Some.ensures.some.0 ∙ ap index_in c.deref.ensures.value) ∙ c.if-index-ne0.false in
    let is_number : (n : ℕ) (text : List ℕ) → n < 2 ^ 32 → pair.key ≡ key_under n 0 text
    → c.in-Some-number_in.number ≡ n = λ n text fits is. c.in-Some-number_in.ensures.some n text fits (c.deref-2.ensures.value ∙ is) in
    name_judged g.D.Disk.history c.args.file.now pair p
    (progress_of c.take_name.new.loading c.take_name.new.told.value.now) c.take_name.result c.take_name.ensures.takes c.take_name.ensures.err
    (λ all none. name_refused all names p pair c.requires c.in-Some-number_in.number is_number no_index c.if-number-eq0.true none)

pub returns-clause-judges : goal.returns-clause-judges
returns-clause-judges g c =
    let now = c.args.told.now.value.now in
    let old = c.args.loading.now in
    let pair = entry_in c.args.entry.now in
    let p = progress_of old now in
    let names = map named_as old.names.items in
    let number = c.in-Some-number_in.number in
    let no_index : index_in pair.key ≡ 0 = sym (c.in-Some.ensures.some.0 ∙ ap index_in c.deref.ensures.value) ∙ c.if-index-ne0.false in
    let is_number : (n : ℕ) (text : List ℕ) → n < 2 ^ 32 → pair.key ≡ key_under n 0 text
    → c.in-Some-number_in.number ≡ n = λ n text fits is. c.in-Some-number_in.ensures.some n text fits (c.deref-2.ensures.value ∙ is) in
    document_judged g.D.Disk.history c.args.file.now pair p (progress_of c.take_document.new.loading c.take_document.new.told.value.now)
    (λ all. (e : Collection) (d : Pairs) → e.number ≡ number → numbered number (listed_of now) ≡ Some e → IsStoredAt e pair d → HasItsKeys all e d
    → ⊥) c.take_document.result c.take_document.new.file c.take_document.ensures.judges
    (λ all none. document_refused all names p pair c.requires number is_number no_index c.if-number-eq0.false none)
