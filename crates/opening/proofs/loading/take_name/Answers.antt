use Rattle.std.proofs.Common.{◌≡◌, [], ◌∷◌, ◌++◌, map, sym, ap, subst, ◌∙◌}
use Rattle.std.specs.Prelude.{OnOk}
use Rattle.btree.specs.Scan.{entry_in}
use Rattle.tree_model.proofs.ListLemmas.{map_append}
use Rattle.entry_model.specs.State.{put_collection}
use Rattle.opening.specs.TurnStates.{TurnStates}
use Rattle.opening.specs.Judging.{IsLoadingAs, IsName}
use Rattle.opening.specs.Loading.{named_as}
use Rattle.opening.proofs.TakingLemmas.{name_loaded}
use Rattle.opening.proofs.loading.take_name.Goals as goal
use Rattle.opening.proofs.loading.take_name.Goals.{in-Ok-push, in-Err-push}

pub returns-clause-loading : goal.returns-clause-loading
returns-clause-loading c =
    let old = c.args.loading.now.names.items in
    let new = c.push.new.self.items in
    let now = c.args.told.now.value.now in
    let next = c.change.new.self.value.now in
    let name = c.in-Ok.name in
    let pair = entry_in c.args.entry.now in
    let is : IsName (map named_as old) pair (named_as name) =
    subst (λ xs. IsName (map named_as xs) pair (named_as name)) c.deref.ensures.value c.in-Ok.ensures in
    let one : IsLoadingAs (map named_as old ++ named_as name ∷ []) (put_collection (named_as name) now) =
    name_loaded (map named_as old) now pair (named_as name) c.requires is in
    elim c.match-push.branch [
      | in-Ok-push w ↦
          let names : map named_as new ≡ map named_as old ++ named_as name ∷ [] =
          ap (map named_as) w.in-Ok-push.ensures.items ∙ map_append named_as old (name ∷ []) in
          subst (λ r. OnOk r (IsLoadingAs (map named_as new) next)) (sym w.result-is)
          (subst (λ ns. IsLoadingAs ns next) (sym names)
          (subst (IsLoadingAs (map named_as old ++ named_as name ∷ [])) (sym (ap (λ (k : TurnStates). k.now) c.change.ensures)) one))
      | in-Err-push w ↦ subst (λ r. OnOk r (IsLoadingAs (map named_as new) next)) (sym w.result-is) tt
    ]
