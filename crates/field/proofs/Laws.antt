-- The laws of the code P+Q, from those of the elements.
use Rattle.std.proofs.Common.{◌≡◌, ℕ, ◌<◌, List, [], ◌∷◌, map, get_or, sym, refl, ap, ◌∙◌, subst, ap₂}
use lib.Bits.{bit_xor}
use lib.ListN.{length-map, get_or-map}
use Rattle.std.proofs.lemmas.List.{ext_get_or}
use Rattle.code.specs.Blocks.{Bytes, ◌⊕◌}
use Rattle.code.specs.Codes.{Inverse, Lawful}
use Rattle.field.specs.Field.{times, power, inverse}
use Rattle.field.specs.Mixing.{mixed, unmixed, unpaired, pq}
use Rattle.field.proofs.Powers.{times_lt, times_xor, xor_times, times_zero, power_lt, power_pos}
use Rattle.field.proofs.Logs.{inverse_lt, divided, undivided, sum_pos, sum_lt}

-- ---- a map over bytes
map_add : (f : ℕ → ℕ) → ((x y : ℕ) → f (bit_xor x y) ≡ bit_xor (f x) (f y)) → (a b : List ℕ) → map f (a ⊕ b) ≡ map f a ⊕ map f b
unfolding ◌⊕◌
map_add f h [] b = refl
map_add f h (x ∷ a) [] = refl
map_add f h (x ∷ a) (y ∷ b) = ap₂ ◌∷◌ (h x y) (map_add f h a b)

add_maps : (f g h : ℕ → ℕ) → ((x : ℕ) → bit_xor (f x) (g x) ≡ h x) → (b : List ℕ) → map f b ⊕ map g b ≡ map h b
unfolding ◌⊕◌
add_maps f g h e [] = refl
add_maps f g h e (x ∷ b) = ap₂ ◌∷◌ (e x) (add_maps f g h e b)

pub get_or_times : (a : ℕ) (b : List ℕ) (k : ℕ) → get_or (map (times a) b) k 0 ≡ times a (get_or b k 0)
get_or_times a b k = ap (get_or (map (times a) b) k) (sym (times_zero a)) ∙ get_or-map (times a) b k 0

-- ---- n bytes, each times an element
module _ (n : ℕ) (b : List ℕ) (B : Bytes n b) where
  bytes_times : (a : ℕ) → a < 256 → Bytes n (map (times a) b)
  bytes_times a h = record {
    long = length-map b (times a) ∙ B.long;
    bytes = λ k. subst (λ (x : ℕ). x < 256) (sym (get_or_times a b k)) (times_lt a (get_or b k 0) h);
  }

  back_by : (a c : ℕ) → ((x : ℕ) → x < 256 → times a (times c x) ≡ x) → map (times a) (map (times c) b) ≡ b
  back_by a c h =
      ext_get_or 0 _ b (length-map (map (times c) b) (times a) ∙ length-map b (times c))
      (λ k l. get_or_times a (map (times c) b) k ∙ ap (times a) (get_or_times c b k) ∙ h (get_or b k 0) (B.bytes k))

-- to multiply by an element other than 0 is one-to-one and onto
scaled : (n d : ℕ) → 0 < d → d < 256 → Inverse n (map (times d)) (map (times (inverse d)))
scaled n d p h = record {
  there = λ b B. bytes_times n b B d h;
  back = λ b B. bytes_times n b B (inverse d) (inverse_lt d);
  undone = λ b B. back_by n b B (inverse d) d (λ x l. divided d x p h l);
  redone = λ b B. back_by n b B d (inverse d) (λ x l. undivided d x p h l);
}

-- a function with the same values has the same inverse
same_inverse : (n : ℕ) (f h g : List ℕ → List ℕ) → ((b : List ℕ) → f b ≡ h b) → Inverse n h g → Inverse n f g
same_inverse n f h g e v = record {
  there = λ b B. subst (Bytes n) (sym (e b)) (v.there b B);
  back = v.back;
  undone = λ b B. ap g (e b) ∙ v.undone b B;
  redone = λ b B. e (g b) ∙ v.redone b B;
}

pair_scales : (i j : ℕ) (b : List ℕ) → mixed i b ⊕ mixed j b ≡ map (times (bit_xor (power i) (power j))) b
unfolding mixed
pair_scales i j b =
    add_maps (times (power i)) (times (power j)) (times (bit_xor (power i) (power j)))
    (λ x. sym (xor_times (power i) (power j) x (power_lt i) (power_lt j))) b

pub pq_lawful : (n : ℕ) → Lawful n pq
unfolding mixed unmixed unpaired
pq_lawful n = record {
  linear = λ j h a b A B. map_add (times (power j)) (times_xor (power j)) a b;
  single = λ j h. scaled n (power j) (power_pos j h) (power_lt j);
  double = λ i j hi hj ne.
      same_inverse n (λ b. mixed i b ⊕ mixed j b) (map (times (bit_xor (power i) (power j)))) (unpaired i j) (pair_scales i j)
      (scaled n (bit_xor (power i) (power j)) (sum_pos i j hi hj ne) (sum_lt i j));
}
