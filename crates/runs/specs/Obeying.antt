-- What comes of a call on a volume, with orders at hand.
use Rattle.std.specs.Prelude.{◌≡◌, ◌+◌, ◌≤◌, List, Result, Vec, vec_len, vec_capacity}
use Rattle.volume.specs.declared.volume.rebuilds.Order.{Order}
use Rattle.runs.specs.declared.any_volume.AnyVolume.{Ghosts as AnyVolume}
use Rattle.runs.specs.declared.Call.{Call}
use Rattle.runs.specs.declared.Answer.{Answer}
use Rattle.runs.specs.declared.Declined.{Declined}
use Rattle.runs.specs.Told.{event_of, lacks, is_none, GoesOn}

-- the orders at hand after a call: at most one more, in the room that there was
pub record RoomKept {A Z : Type 0} (old new : Vec A Z) : Type 0 where
  pub len : vec_len new ≤ vec_len old + 1
  pub capacity : vec_capacity new ≡ vec_capacity old

-- the call q takes the volume from v to w with the answer r: its shape stays, its history goes on by the call, and the call was made unless
-- its order is lacking
pub record Obeyed {A : Type 0} (any : AnyVolume A) (v : A) (os : List Order) (q : Call) (r : Result Answer Declined) (w : A) : Type 0 where
  pub same : any.shape w ≡ any.shape v
  pub goes : GoesOn (any.shape v) (any.state v) (event_of os q r) (any.state w)
  pub made : is_none r ≡ lacks os q
