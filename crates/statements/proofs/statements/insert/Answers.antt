use Rattle.std.proofs.Common.{◌≡◌, List, [], ◌∷◌, ◌++◌, Option, Some, None, length, insert, subst, sym, ap, arith, refl, ◌∙◌}
use Rattle.std.specs.Prelude.{All}
use Rattle.bson.specs.Tree.{Pairs}
use Rattle.path.specs.declared.refusal.Refusal.TheVariants as refusals
use Rattle.outcome.specs.Outcome.{or_refused}
use Rattle.database_model.specs.Documents.{key_of, place}
use Rattle.database_model.specs.Lawful.{IsWithin}
use Rattle.statements.specs.Updating.{IsPlaceOf, write_of_new}
use Rattle.database_model.proofs.Ordered.{All-inserted}
use Rattle.statements.proofs.statements.insert.Goals as goal

pub insert-requires : goal.insert-requires
insert-requires c =
    let at = subst (IsPlaceOf c.document.result.now c.deref.result.now) c.in-Some.is c.place_of.ensures in
    omega (arith, at.0, ap length c.deref.ensures.value, c.args.run.now.documents.ok.0)

pub returns-in_default : goal.returns-in_default
returns-in_default c =
    let d = c.args.document in
    let old = c.args.run.now in
    let same : c.document.result.now ≡ d = c.document.ensures ∙ c.in_ok-new.ensures in
    let at = subst (λ (x : Pairs). IsPlaceOf x c.deref.result.now None) same
    (subst (IsPlaceOf c.document.result.now c.deref.result.now) c.in_default.is c.place_of.ensures) in
    record {
      placed = λ other. ap (λ (ds : List Pairs). or_refused (place (key_of d) d ds) refusals.DuplicateKey) (sym c.deref.ensures.value)
          ∙ ap (λ (o : Option (List Pairs)). or_refused o refusals.DuplicateKey) at;
      writes = λ other. c.in_ok-push.ensures.items ∙ ap (λ (x : Pairs). old.writes.items ++ write_of_new x ∷ []) (c.in_ok-share.ensures ∙ c.in_ok-new.ensures);
    }

pub returns : goal.returns
returns c =
    let d = c.args.document in
    let old = c.args.run.now.documents.items in
    let same : c.document.result.now ≡ d = c.document.ensures ∙ c.in_ok-new.ensures in
    let at = subst (λ (x : Pairs). IsPlaceOf x c.deref.result.now (Some c.in-Some.place)) same
    (subst (IsPlaceOf c.document.result.now c.deref.result.now) c.in-Some.is c.place_of.ensures) in
    let spot = subst (λ (ds : List Pairs). IsPlaceOf d ds (Some c.in-Some.place)) c.deref.ensures.value at in
    let put : c.insert.new.self.items ≡ insert old c.in-Some.place d =
    c.in_ok-insert.ensures.items ∙ ap (λ (x : Pairs). insert old c.in-Some.place x) c.in_ok-new.ensures in
    let here : IsWithin d = record { size = c.requires.stored.size; depth = c.requires.stored.depth } in
    record {
      placed = spot.1 ∙ ap (λ (xs : List Pairs). Some xs) (sym put);
      writes = c.in_ok-push.ensures.items
          ∙ ap (λ (x : Pairs). c.args.run.now.writes.items ++ write_of_new x ∷ []) (c.in_ok-share.ensures ∙ c.in_ok-new.ensures);
      within = subst (All IsWithin) (sym put) (All-inserted IsWithin old c.in-Some.place d spot.0 c.requires.within here);
      tally = refl;
      kept = refl;
    }
