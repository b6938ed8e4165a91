use Rattle.std.proofs.Common.{true, false, sym, refl, ◌∙◌}
use Rattle.std.proofs.lemmas.Bool.{true≢false}
use Rattle.volume.specs.Grids.{grid_frontiers}
use Rattle.volume.proofs.Looking.{seen_told, told_gone, told_present}
use Rattle.volume.proofs.grid.Grid.status.Goals as goal

pub returns-then-is_ok : goal.returns-then-is_ok
returns-then-is_ok g c =
    let b = g.B.Bank.state c.args.bank.now in
    let e = seen_told (g.B.Bank.meaning b) (g.met.B.Bank.lawful.means b (g.met.B.Bank.holds c.args.bank.now)) c.args.slot c.args.s c.look.result true c.look.ensures.answered c.if-is_ok.ensures.value in
    record { value = c.present_status.ensures.value ∙ told_present (g.B.Bank.meaning b) (grid_frontiers c.args.self.now) c.args.s c.args.slot true e c.has.result c.has.ensures.value (λ h. absurd (true≢false h)) }

pub returns-then-is_gone : goal.returns-then-is_gone
returns-then-is_gone g c =
    let b = g.B.Bank.state c.args.bank.now in
    let e = seen_told (g.B.Bank.meaning b) (g.met.B.Bank.lawful.means b (g.met.B.Bank.holds c.args.bank.now)) c.args.slot c.args.s c.look.result false c.look.ensures.answered c.if-is_ok.ensures.value in
    record { value = told_gone (g.B.Bank.meaning b) (grid_frontiers c.args.self.now) c.args.s c.args.slot false e refl (sym c.if-is_gone.ensures.value) }

pub returns : goal.returns
returns g c =
    let b = g.B.Bank.state c.args.bank.now in
    let e = seen_told (g.B.Bank.meaning b) (g.met.B.Bank.lawful.means b (g.met.B.Bank.holds c.args.bank.now)) c.args.slot c.args.s c.look.result false c.look.ensures.answered c.if-is_ok.ensures.value in
    record { value = c.present_status-2.ensures.value ∙ told_present (g.B.Bank.meaning b) (grid_frontiers c.args.self.now) c.args.s c.args.slot false e c.has-2.result c.has-2.ensures.value (λ _. sym c.if-is_gone.ensures.value) }
