-- One data column changed: the parities, and what fits after.
use Rattle.std.proofs.Common.{◌≡◌, ◌+◌, sym, refl, ap, ◌∙◌, ap₂, ⊎_elim, arith}
use Rattle.code.specs.Blocks.{◌⊕◌}
use Rattle.parity.specs.Stripe.{Content, column, put}
use Rattle.parity.specs.Theorems.{Deltas, Writes}
use Rattle.parity.proofs.Sums.{sum_put, put_same, put_other, put_block}
use Rattle.parity.proofs.Columns.{column_data, column_P, column_Q}

pub deltas : Deltas
deltas C L k kw c hc i li v hv =
    let hp : Content k (put c i v) = λ j l. put_block c i v hv j (hc j l) in
    let hm : Content k (λ j. C.mix j (c j)) = λ j l. (L.single j (omega arith)).there (c j) (hc j l) in
    let hq : Content k (λ j. C.mix j (put c i v j)) = λ j l. (L.single j (omega arith)).there (put c i v j) (hp j l) in (
      column_P C k (put c i v) k refl ∙ sum_put k c (put c i v) i li hc hp (λ j l n. put_other c i v j n)
          ∙ ap₂ (λ x y. x ⊕ (c i ⊕ y)) (sym (column_P C k c k refl)) (put_same c i v),
      column_Q C k (put c i v) (k + 1) refl ∙ sum_put k (λ j. C.mix j (c j)) (λ j. C.mix j (put c i v j)) i li hm hq (λ j l n. ap (C.mix j) (put_other c i v j n))
          ∙ ap₂ (λ x y. x ⊕ (C.mix i (c i) ⊕ C.mix i y)) (sym (column_Q C k c (k + 1) refl)) (put_same c i v)
          ∙ ap (λ x. column C k c (k + 1) ⊕ x) (sym (L.linear i (omega arith) (c i) v (hc i li) hv)),
    )

pub writes : Writes
writes C k old new c i v fit h t l =
    ⊎_elim
    (λ r. r)
    (λ r.
    let same : column C k c t ≡ column C k (put c i v) t = column_data C k c t r.0 ∙ sym (put_other c i v t r.1) ∙ sym (column_data C k (put c i v) t r.0) in
    rw r.2 (rw same at (fit t l)))
    (h t l)
