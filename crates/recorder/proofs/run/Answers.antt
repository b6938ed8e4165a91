use Rattle.std.proofs.Common.{vec_items, string_bytes, ap, ◌∙◌}
use Rattle.layout.specs.Placing.{rotated, unrotated}
use Rattle.bank.specs.Slots.{told}
use Rattle.bank.specs.Chains.{no_members}
use Rattle.contents.specs.Shapes.{formed}
use Rattle.volume.specs.Slots.{members_of}
use Rattle.recorder.specs.Slots.{cell_means, image_means, chain_means}
use Rattle.recorder.proofs.Running.{replayed}
use Rattle.recorder.proofs.run.Goals as goal

pub returns : goal.returns
returns g c =
    let C = g.C.Code.coding c.args.code in
    let means = chain_means cell_means (chain_means cell_means (chain_means cell_means (chain_means image_means (chain_means image_means (chain_means image_means (λ _. no_members)))))) in
    let parts = c.new.ensures in
    let f = c.format-volume.ensures in
    let ms = means c.new.result.bank in
    let s = ap means parts.bank ∙ c.in_ok-bank.ensures.made in
    record {
      made =
          replayed C (vec_items c.args.script.now.bytes) _ _ _
          (f.shape ∙ ap (λ k. formed (g.C.Code.coding k) rotated unrotated (told ms.size) (members_of ms)) parts.code ∙ ap (λ m. formed C rotated unrotated (told m.size) (members_of m)) s)
          (ap members_of s) f.changes f.idle f.kept string_bytes c.lines.result c.lines.ensures.made;
    }
