use Rattle.contents.proofs.Forming.{forms}
use Rattle.contents.proofs.forms.Goals as goal

pub returns : goal.returns
returns c = record { stands = forms }
