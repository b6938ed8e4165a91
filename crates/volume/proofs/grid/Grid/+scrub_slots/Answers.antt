use Rattle.std.proofs.Common.{◌≡◌, ℕ, ◌+◌, ◌-◌, ◌<◌, ◌≤◌, true, false, List, length, ap, ◌∙◌, subst, arith}
use Rattle.parity.specs.Ways.{recovered}
use Rattle.member.specs.Changes.{Written}
use Rattle.bank.specs.Slots.{Slots}
use Rattle.contents.specs.Columns.{status, is_unreadable}
use Rattle.contents.specs.Changes.{Moved, Steps}
use Rattle.volume.specs.Tallies.{tally_of}
use Rattle.volume.proofs.Walking.{written_moved}
use Rattle.volume.proofs.Scrubbing.{mends, unreadable_is, unreadable_missing, scrub_none, scrub_skip, scrub_write, not_yet, write_takes_is, tally_none, tally_skip, tally_mend, tally_low}
use Rattle.volume.specs.Grids.{width, grid_frontiers, columns_on}
use Rattle.volume.specs.Slots.{members_of, members_in, slots_in}
use Rattle.volume.proofs.grid.Grid.+scrub_slots.Goals as goal

pub returns-then-i-eq0 : goal.returns-then-i-eq0
returns-then-i-eq0 g t c =
    let M = members_in g.B.Bank c.args.bank.now in
    let F = grid_frontiers c.args.self.now in
    record { steps = scrub_none M F c.args.s _ c.args.i c.if-i-eq0.true; tally = tally_none M F c.args.s c.args.i c.if-i-eq0.true }

pub with_standing-requires : goal.with_standing-requires
with_standing-requires g t c =
    let M = members_in g.B.Bank c.args.bank.now in
    let F = grid_frontiers c.args.self.now in
    let l : c.args.i - 1 ≤ 18 = omega (arith, c.args.self.now.fitting.most, c.requires.within) in
    record { low = (tally_low M F c.args.s (c.args.i - 1) c.scrub_slots.result l c.scrub_slots.ensures.tally).2 }

pub returns-then-ne : goal.returns-then-ne
returns-then-ne g t c =
    let ms = slots_in g.B.Bank c.args.bank.now in
    let M = members_of ms in
    let N = members_in g.B.Bank c.scrub_slots.new.bank in
    let F = grid_frontiers c.args.self.now in
    let s = c.args.s in
    let j = c.args.i - 1 in
    let e : c.args.i ≡ j + 1 = omega (arith, c.if-i-eq0.false) in
    let u : is_unreadable (status M F s j) ≡ false = unreadable_is c.status-how.result _ true c.if-ne.ensures c.status-how.ensures.value in
    record {
      steps = scrub_skip M F s (λ (x : ℕ). recovered (g.C.Code.coding c.args.self.now.code.now) (width c.args.self.now) (columns_on g.L.Layout c.args.self.now ms s) (g.L.Layout.column c.args.self.now.layout.now c.args.self.now.size.slots s x)) c.args.i j N e c.scrub_slots.ensures.steps u;
      tally = tally_skip M F s c.args.i j c.status-how.result c.scrub_slots.result c.with_standing.result e c.status-how.ensures.value u c.scrub_slots.ensures.tally c.with_standing.ensures.value;
    }

pub rebuild-requires : goal.rebuild-requires
rebuild-requires g t c =
    let M = members_in g.B.Bank c.args.bank.now in
    let F = grid_frontiers c.args.self.now in
    let s = c.args.s in
    let n = c.args.self.now.size.slots in
    let j = c.args.i - 1 in
    let l : j < n = omega (arith, c.if-i-eq0.false, c.requires.within) in
    let u : is_unreadable (status M F s j) ≡ true = unreadable_is c.status-how.result _ false c.if-ne.ensures c.status-how.ensures.value in
    record {
      surveyed = c.requires.surveyed;
      missing = unreadable_missing M F s j _ (ap (g.L.Layout.slot c.args.self.now.layout.now n s) c.column_of-t.ensures.value ∙ (g.met.L.Layout.lawful c.args.self.now.layout.now n s).back j l) u;
    }

pub with_mend-requires : goal.with_mend-requires
with_mend-requires g t c =
    let M = members_in g.B.Bank c.rebuild.new.bank in
    let F = grid_frontiers c.args.self.now in
    let l : c.args.i - 1 ≤ 18 = omega (arith, c.args.self.now.fitting.most, c.requires.within) in
    let h = tally_low M F c.args.s (c.args.i - 1) c.scrub_slots-tally.result l c.scrub_slots-tally.ensures.tally in
    record { low = (h.0, h.1) }

pub returns : goal.returns
returns g t c =
    let C = g.C.Code.coding c.args.self.now.code.now in
    let ms = slots_in g.B.Bank c.args.bank.now in
    let M = members_of ms in
    let ns = slots_in g.B.Bank c.scrub_slots-tally.new.bank in
    let N = members_of ns in
    let O = members_in g.B.Bank c.write.new.self in
    let F = grid_frontiers c.args.self.now in
    let s = c.args.s in
    let n = c.args.self.now.size.slots in
    let j = c.args.i - 1 in
    let e : c.args.i ≡ j + 1 = omega (arith, c.if-i-eq0.false) in
    let u : is_unreadable (status M F s j) ≡ true = unreadable_is c.status-how.result _ false c.if-ne.ensures c.status-how.ensures.value in
    let col = λ (xs : Slots) (x : ℕ). recovered C (n - 2) (columns_on g.L.Layout c.args.self.now xs s) (g.L.Layout.column c.args.self.now.layout.now n s x) in
    let w = subst (λ (xs : Slots). Steps j (mends (members_of xs) F s (col xs)) (members_of xs) N) c.rebuild.ensures.same c.scrub_slots-tally.ensures.steps in
    let t0 = subst (λ (xs : Slots). c.scrub_slots-tally.result ≡ tally_of (members_of xs) F s j) c.rebuild.ensures.same c.scrub_slots-tally.ensures.tally in
    let v : c.rebuild.new.into ≡ col ms j = c.rebuild.ensures.value ∙ ap (λ (x : ℕ). recovered C (n - 2) (columns_on g.L.Layout c.args.self.now ms s) x) c.column_of-t.ensures.value in
    let h = subst (λ (x : List ℕ). Moved (λ a b. Written a s x b) j N O) v (written_moved s c.rebuild.new.into _ _ j c.write.ensures.after) in
    let ok = write_takes_is ns j s (length c.rebuild.new.into) (M j) c.write.result c.is_ok.result c.rebuild.array_long (not_yet M F s (col ms) j N w) c.write.ensures.answered c.is_ok.ensures.value in
    record {
      steps = scrub_write M F s (col ms) c.args.i j N O e w u h;
      tally = tally_mend M F s c.args.i j c.is_ok.result c.scrub_slots-tally.result c.with_mend.result e ok u t0 c.with_mend.ensures.value;
    }
