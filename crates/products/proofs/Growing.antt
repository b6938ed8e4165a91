-- A text that grows by one part after the other.
use Rattle.std.proofs.Common.{◌≡◌, ℕ, ◌+◌, List, ◌++◌, sym, ap, ◌∙◌, append_assoc, append-nil, add-one}
use Rattle.products.specs.Texts.{texts}

pub none : (f : ℕ → List ℕ) (s : List ℕ) → s ≡ s ++ texts f 0
unfolding texts
none f s = sym (append-nil s)

pub more : (f : ℕ → List ℕ) (start was now : List ℕ) (n : ℕ) → was ≡ start ++ texts f n → now ≡ was ++ f n → now ≡ start ++ texts f (n + 1)
unfolding texts
more f start was now n h e = e ∙ ap (λ s. s ++ f n) h ∙ append_assoc start (texts f n) (f n) ∙ sym (ap (λ m. start ++ texts f m) (add-one n))
