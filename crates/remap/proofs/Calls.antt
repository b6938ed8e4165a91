-- A call on a block of a remap layer is one on its place below.
use Rattle.std.proofs.Common.{◌≡◌, ℕ, ◌<◌, ◌≤◌, cond, arith, is_some, Some, None, sym, ap, ◌∙◌}
use Rattle.member.specs.declared.Cause.TheVariants.{Gone, Unreadable}
use Rattle.member.specs.Faults.{raised}
use Rattle.member.specs.Meaning.{Meaning, Good, look_refusal, read_refusal, get_refusal}
use Rattle.member.specs.Outcomes.{good_look, good_read}
use Rattle.remap.specs.Places.{Table, place, used}
use Rattle.remap.specs.Remapped.{remapped, own_count}
use Rattle.remap.specs.Tries.{block_in, inside}

module _ (t : Table) (m : Meaning) (within : used t ≤ t.spares) (b n : ℕ) (good : Good (own_count t m) b n) (at : ℕ)
    (ea : at ≡ place t (own_count t m) b) where
  under : at < m.count
  under = let h = inside t (own_count t m) m within (omega arith) b good.there in omega (arith, ea)

  get_through : get_refusal m at ≡ get_refusal (remapped t m) b
  get_through =
      ap (get_refusal m) ea
      ∙ ap (λ o. cond m.gone (Some (raised Gone (m.gone_origin (place t (own_count t m) b))))
      (cond (is_some o) None (Some (raised Unreadable (m.unreadable_origin (place t (own_count t m) b))))))
      (sym (block_in t (own_count t m) m b good.there))

  pub look_through : look_refusal m at ≡ look_refusal (remapped t m) b
  look_through = good_look m at under ∙ get_through ∙ sym (good_look (remapped t m) b good.there)

  pub read_through : read_refusal m at n ≡ read_refusal (remapped t m) b n
  read_through = good_read m at under n good.sized ∙ get_through ∙ sym (good_read (remapped t m) b good.there n good.sized)
