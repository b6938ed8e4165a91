-- What comes of an operation on a volume.
use Rattle.std.specs.Prelude.{◌≡◌, ℕ, Result}
use Rattle.runs.specs.declared.any_volume.AnyVolume.{Ghosts as AnyVolume}
use Rattle.script.specs.declared.parts.Act.{Act}
use Rattle.recorder.specs.declared.acts.ActRefusal.{ActRefusal}
use Rattle.recorder.specs.Acts.{ActsOn, told_line}

-- the operation takes the volume from v to w with the answer r: its shape stays, and its history goes on by the calls of the operation
pub record DidAct {A : Type 0} (any : AnyVolume A) (v : A) (a : Act) (r : Result ℕ ActRefusal) (w : A) : Type 0 where
  pub same : any.shape w ≡ any.shape v
  pub acts : ActsOn (any.shape v) (any.state v) a (told_line r) (any.state w)
