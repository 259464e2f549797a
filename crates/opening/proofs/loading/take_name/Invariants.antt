use Rattle.entry_model.specs.State.{put_collection}
use Rattle.opening.specs.Loading.{named_as}
use Rattle.opening.proofs.loading.take_name.Given as goal

abbrev pub ghost-change : goal.ghost-change
ghost-change a = put_collection (named_as a.with.now) a.self.now.value.now
