use Rattle.page.proofs.PagesBack.{reads_back as proof}
use Rattle.page.proofs.laws.reads_back.Goals as goal

pub returns : goal.returns
returns c = proof
