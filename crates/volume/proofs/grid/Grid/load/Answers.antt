use Rattle.std.proofs.Common.{◌≡◌, ℕ, List, is_some, None, Option, sym, refl, ap, ◌∙◌, subst}
use Rattle.parity.specs.Ways.{or_else}
use Rattle.contents.specs.Columns.{held}
use Rattle.volume.proofs.Looking.{behind_held, load_current, load_after}
use Rattle.volume.specs.Grids.{grid_frontiers}
use Rattle.volume.specs.Slots.{members_of, slots_in}
use Rattle.volume.proofs.grid.Grid.load.Goals as goal

pub returns-then-not-has : goal.returns-then-not-has
returns-then-not-has g c =
    let ms = slots_in g.B.Bank c.args.bank.now in
    let F = grid_frontiers c.args.self.now in
    let h : held (members_of ms) F c.args.s (g.L.Layout.slot c.args.self.now.layout.now c.args.self.now.size.slots c.args.s c.args.t) ≡ None =
    ap (λ (i : ℕ). held (members_of ms) F c.args.s i) (sym c.slot_of-slot.ensures.value) ∙ behind_held ms F c.args.s c.slot_of-slot.result (sym c.if-not-has.ensures.value) in
    record { same = refl; current = sym (ap is_some h); after = sym (ap (λ (o : Option (List ℕ)). or_else o c.args.into.now) h) }

pub returns : goal.returns
returns g c =
    let b = g.B.Bank.state c.args.bank.now in
    let ms = g.B.Bank.meaning b in
    let F = grid_frontiers c.args.self.now in
    let sound = g.met.B.Bank.lawful.means b (g.met.B.Bank.holds c.args.bank.now) in
    let i = c.slot_of-slot.result in
    let s = c.args.s in
    let old = c.args.into.now in
    let below = sym c.if-not-has.ensures.value in
    record {
      same = c.read.ensures.same;
      current = subst (λ (x : ℕ). c.is_ok.result ≡ is_some (held (members_of ms) F s x)) c.slot_of-slot.ensures.value
          (load_current ms sound i s old c.told-into F below c.read.new.buffer c.read.result c.is_ok.result c.read.ensures.answered c.is_ok.ensures.value c.read.ensures.after);
      after = subst (λ (x : ℕ). c.read.new.buffer ≡ or_else (held (members_of ms) F s x) old) c.slot_of-slot.ensures.value
          (load_after ms sound i s old c.told-into F below c.read.new.buffer c.read.result c.is_ok.result c.read.ensures.answered c.is_ok.ensures.value c.read.ensures.after);
    }
