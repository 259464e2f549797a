-- What is done with the reply to a change doesn't look at what the plan waited for.
use Rattle.std.proofs.Common.{◌≡◌, ℤ, Bool, true, false, Option, Some, None, refl}
use Rattle.std.specs.Prelude.{if◌then◌else◌}
use Rattle.bson.specs.Tree.{Pairs}
use Rattle.driver_replies.specs.Modifying.{made_by, subject_of}
use Rattle.driver_replies.specs.declared.modifying.Modification.{Modification}
use Rattle.drivers.specs.Answering.{changed, changed_by, done_nothing, modified}
use Rattle.drivers.specs.declared.plan.Plan.{Plan}
use Rattle.drivers.specs.declared.plan.Wait.{Wait}

modified_alike : (plan : Plan) (w : Wait) (m : Modification) (is_new : Bool) (was : Option Pairs) (subject : Pairs)
    → modified (record plan { wait = w }) m is_new was subject ≡ modified plan m is_new was subject
modified_alike plan w m is_new was subject = refl

by_alike : (found : Option Pairs) (plan : Plan) (w : Wait) (m : Modification) (is_new : Bool) (was : Option Pairs) (reply : Pairs)
    → changed_by found (record plan { wait = w }) m is_new was reply ≡ changed_by found plan m is_new was reply
by_alike None plan w m is_new was reply = refl
by_alike (Some subject) plan w m is_new was reply = modified_alike plan w m is_new was subject

pub changed_alike : (code : Option ℤ) (plan : Plan) (w : Wait) (m : Modification) (was : Option Pairs) (reply : Pairs)
    → changed code (record plan { wait = w }) m was reply ≡ changed code plan m was reply
changed_alike (Some z) plan w m was reply = refl
changed_alike None plan w m (Some ps) reply = by_alike (subject_of ps) plan w m false (Some ps) reply
changed_alike None plan w m None reply = at m.may_insert
  where
    at : (b : Bool) → (if b then changed_by (made_by reply) (record plan { wait = w }) m true None reply else done_nothing (record plan { wait = w }) m)
        ≡ (if b then changed_by (made_by reply) plan m true None reply else done_nothing plan m)
    at true = by_alike (made_by reply) plan w m true None reply
    at false = refl
