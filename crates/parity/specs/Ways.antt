-- How a lost column is found, and what is found.
use Rattle.std.specs.Prelude.{ℕ, ◌+◌, Bool, true, false, cond, List, [], ◌∷◌, is_some, Some, None, Option, ◌==◌, nat_lt}
use Rattle.code.specs.Blocks.{◌⊕◌}
use Rattle.code.specs.Codes.{Coding}
use Rattle.parity.specs.Stripe.{gaps, plain_sum, mixed_sum}
use Rattle.parity.specs.declared.Way.{Way}
use Rattle.parity.specs.declared.Way.TheVariants.{Plain, Mixed, Unmixed, PWithout, QWithout, Pair}

-- the way to the missing column t of a stripe, by its missing data columns (the highest first) and whether P is present
abbrev pub way : ℕ → List ℕ → Bool → ℕ → Way
way k [] p t = cond (t == k) Plain Mixed
way k (i ∷ []) true t = cond (nat_lt t k) Plain (QWithout i)
way k (i ∷ []) false t = cond (nat_lt t k) (Unmixed i) (PWithout i)
way k (i ∷ (j ∷ l)) p t = cond (t == i) (Pair i j) (Pair j i)

-- which of the two sums a way needs
abbrev pub takes_plain : Way → Bool
takes_plain Plain = true
takes_plain Mixed = false
takes_plain (Unmixed i) = false
takes_plain (PWithout i) = true
takes_plain (QWithout i) = true
takes_plain (Pair i j) = true

abbrev pub takes_mixed : Way → Bool
takes_mixed Plain = false
takes_mixed Mixed = true
takes_mixed (Unmixed i) = true
takes_mixed (PWithout i) = true
takes_mixed (QWithout i) = true
takes_mixed (Pair i j) = true

-- the column that a way finds from the plain sum a and the mixed sum b
abbrev pub by_way : Coding → Way → List ℕ → List ℕ → List ℕ
by_way C Plain a b = a
by_way C Mixed a b = b
by_way C (Unmixed i) a b = C.unmix i b
by_way C (PWithout i) a b = a ⊕ C.unmix i b
by_way C (QWithout i) a b = b ⊕ C.mix i a
by_way C (Pair i j) a b = C.unpair i j (b ⊕ C.mix j a)

-- what is left in the place of the mixed sum b once the way was gone
abbrev pub left_by : Coding → Way → List ℕ → List ℕ → List ℕ
left_by C Plain a b = b
left_by C Mixed a b = b
left_by C (Unmixed i) a b = C.unmix i b
left_by C (PWithout i) a b = C.unmix i b
left_by C (QWithout i) a b = b ⊕ C.mix i a
left_by C (Pair i j) a b = C.unpair i j (b ⊕ C.mix j a)

-- what a column holds, or b where it is missing
abbrev pub or_else : Option (List ℕ) → List ℕ → List ℕ
or_else None b = b
or_else (Some a) b = a

-- column t: itself where it is present, else what its way finds from the sums over all present columns
abbrev pub recovered : Coding → ℕ → (ℕ → Option (List ℕ)) → ℕ → List ℕ
recovered C k cols t =
    or_else (cols t) (by_way C (way k (gaps cols k) (is_some (cols k)) t) (plain_sum k cols (k + 2)) (mixed_sum C k cols (k + 2)))
