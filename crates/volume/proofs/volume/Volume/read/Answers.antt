use Rattle.contents.proofs.Reading.{reads}
use Rattle.contents.proofs.Losing.{losses}
use Rattle.volume.proofs.Answering.{volume_valid}
use Rattle.volume.proofs.volume.Volume.read.Goals as goal

pub returns-in_err-buffer-clause-right : goal.returns-in_err-buffer-clause-right
returns-in_err-buffer-clause-right g c = reads _ (volume_valid g.C.Code g.L.Layout g.met.C.Code.lawful g.met.L.Layout.lawful c.args.self.now) _ _

pub returns-in_err-buffer-clause-loss : goal.returns-in_err-buffer-clause-loss
returns-in_err-buffer-clause-loss g c = losses _ _ _

pub returns-then-block-blocks-clause-right : goal.returns-then-block-blocks-clause-right
returns-then-block-blocks-clause-right g c = reads _ (volume_valid g.C.Code g.L.Layout g.met.C.Code.lawful g.met.L.Layout.lawful c.args.self.now) _ _

pub returns-then-block-blocks-clause-loss : goal.returns-then-block-blocks-clause-loss
returns-then-block-blocks-clause-loss g c = losses _ _ _

pub returns-clause-right : goal.returns-clause-right
returns-clause-right g c = reads _ (volume_valid g.C.Code g.L.Layout g.met.C.Code.lawful g.met.L.Layout.lawful c.args.self.now) _ _

pub returns-clause-loss : goal.returns-clause-loss
returns-clause-loss g c = losses _ _ _
