-- What the calls on a volume answer, and what a read leaves in its buffer. V is the shape, M the members and F the frontiers before
-- the call. Checks stand in the order in which they are made.
use Rattle.std.specs.Prelude.{ℕ, ◌-◌, Bool, cond, not, ◌&&◌, ◌||◌, List, length, is_some, is_ok, Ok, Err, Result, ◌==◌, nat_lt}
use Rattle.code.specs.Blocks.{block_size}
use Rattle.member.specs.Meaning.{Meaning, write_refusal}
use Rattle.contents.specs.Columns.{Members, Frontiers, status, is_unreadable, is_absent, count}
use Rattle.contents.specs.Refusals.{Told, plain, with_loss}
use Rattle.contents.specs.Shapes.{Shape, blocks, stripe_of, column_of, columns_at, missing_at, lossy, loss_at, recovered_at, smallest, fit}

-- ---- checks

-- 3 for a buffer that is not 512 bytes
abbrev pub if_sized : {U : Type 0} → ℕ → Result U Told → Result U Told
if_sized len r = cond (len == block_size) r (Err (plain 3))

-- 2 for a number that is not below the end
abbrev pub if_below : {U : Type 0} → ℕ → ℕ → Result U Told → Result U Told
if_below a end r = cond (nat_lt a end) r (Err (plain 2))

-- 4 where too much is lost of stripe s
abbrev pub unless_lost : {U : Type 0} → Bool → Shape → Members → Frontiers → ℕ → Result U Told → Result U Told
unless_lost lost V M F s r = cond lost (Err (with_loss 4 (loss_at V M F s))) r

-- ---- read of block a into a buffer of so many bytes

-- its own column and two others of the stripe are missing
abbrev pub read_lost : Shape → Members → Frontiers → ℕ → Bool
read_lost V M F a = not (is_some (columns_at V M F (stripe_of V a) (column_of V a))) && lossy V M F (stripe_of V a)

abbrev pub read_outcome : Shape → Members → Frontiers → ℕ → ℕ → Result Unit Told
read_outcome V M F a len =
    if_sized len (if_below a (blocks V) (unless_lost (read_lost V M F a) V M F (stripe_of V a) (Ok tt)))

-- what the buffer holds after it: the block, or what it held if the read is refused
abbrev pub read_leaves : Shape → Members → Frontiers → ℕ → List ℕ → List ℕ
read_leaves V M F a old = cond (is_ok (read_outcome V M F a (length old))) (recovered_at V M F (stripe_of V a) (column_of V a)) old

-- ---- write of so many bytes to block a, which leaves the members N

-- it meets none of the checks 3, 2 and 4
abbrev pub write_takes : Shape → Members → Frontiers → ℕ → ℕ → Bool
write_takes V M F a len = len == block_size && (nat_lt a (blocks V) && not (lossy V M F (stripe_of V a)))

-- the number of missing columns after it; three or more give 5, though the write is taken
abbrev pub after_write : Shape → Members → Frontiers → ℕ → Result ℕ Told
after_write V N F s = cond (lossy V N F s) (Err (with_loss 5 (loss_at V N F s))) (Ok (missing_at V N F s))

abbrev pub write_outcome : Shape → Members → Frontiers → ℕ → ℕ → Members → Result ℕ Told
write_outcome V M F a len N =
    if_sized len (if_below a (blocks V) (unless_lost (lossy V M F (stripe_of V a)) V M F (stripe_of V a) (after_write V N F (stripe_of V a))))

-- ---- scrub of stripe s

-- it meets none of the checks 2 and 4
abbrev pub scrub_takes : Shape → Members → Frontiers → ℕ → Bool
scrub_takes V M F s = nat_lt s V.stripes && not (lossy V M F s)

-- the member takes a write to block s
abbrev pub takes : Meaning → ℕ → Bool
takes m s = not (is_some (write_refusal m s block_size))

-- unreadable columns whose member takes the write, and those whose member refuses it
abbrev pub mended : Shape → Members → Frontiers → ℕ → ℕ
mended V M F s = count (λ i. is_unreadable (status M F s i) && takes (M i) s) V.slots

abbrev pub refused : Shape → Members → Frontiers → ℕ → ℕ
refused V M F s = count (λ i. is_unreadable (status M F s i) && not (takes (M i) s)) V.slots

-- columns that are gone or behind
abbrev pub absent : Shape → Members → Frontiers → ℕ → ℕ
absent V M F s = count (λ i. is_absent (status M F s i)) V.slots

-- mended, refused and absent together
abbrev pub scrub_outcome : Shape → Members → Frontiers → ℕ → Result (ℕ × ℕ × ℕ) Told
scrub_outcome V M F s =
    if_below s V.stripes (unless_lost (lossy V M F s) V M F s (Ok (mended V M F s, refused V M F s, absent V M F s)))

-- ---- questions

-- two, less the slots that are gone or whose frontier is below S, not under 0
abbrev pub margin : Shape → Members → Frontiers → ℕ
margin V M F = 2 - count (λ i. (M i).gone || nat_lt (F i) V.stripes) V.slots

-- of parts with n members M and a code of the limit w: 0 if they fit, else 1
abbrev pub fit_number : ℕ → ℕ → Members → ℕ
fit_number n w M = cond (fit n w (smallest M n)) 0 1
