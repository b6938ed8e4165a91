-- What is printed of answers.
use Rattle.std.specs.Prelude.{ℕ, List, ◌++◌, codes, decimal, slice_index}
use Rattle.contents.specs.Refusals.{told}
use Rattle.runs.specs.declared.Answer.{Answer}
use Rattle.runs.specs.declared.Answer.TheVariants.{Done, Block, Number, Counts, Order}
use Rattle.runs.specs.declared.Declined.{Declined}
use Rattle.runs.specs.declared.Declined.TheVariants.{Refused, NoOrder}

-- of a block its first byte
abbrev pub answer_text : Answer → List ℕ
answer_text Done = codes "done"
answer_text (Block b) = codes "block " ++ decimal (slice_index b 0)
answer_text (Number n) = codes "number " ++ decimal n
answer_text (Counts x y z) = codes "counts " ++ (decimal x ++ (codes " " ++ (decimal y ++ (codes " " ++ decimal z))))
answer_text (Order i) = codes "order " ++ decimal i

-- of a refusal its number
abbrev pub declined_text : Declined → List ℕ
declined_text (Refused e) = codes "refused " ++ decimal (told e).number
declined_text NoOrder = codes "no order"
