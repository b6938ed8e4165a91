use Rattle.remap.proofs.Lowest.{moves_to_lowest}
use Rattle.remap.proofs.Remap.moves_to_lowest.Goals as goal

pub returns : goal.returns
returns g c =
    let M = g.M.Member in
    record { stands = moves_to_lowest M.sound M.meaning M.seen M.wrote M.ticked M.renewed g.met.M.Member.lawful }
